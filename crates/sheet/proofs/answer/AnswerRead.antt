-- THE ANSWERS OF ACCEPTED SHEETS READ BACK: decision, counts, made values, residual nodes and policy lines are those of the run, and under
-- each policy's root stands its residual.
use mathlib.Core.Path.{◌≡◌, refl, sym, ◌∙◌, ap, ap₂, subst}
use mathlib.Core.Bool.{true, false}
use mathlib.Core.Option.{some}
use mathlib.Core.List.{List, [], ◌∷◌, ◌++◌, append_assoc, append-nil}
use Prim.Native.Nat.{ℕ, suc, ◌≤◌, ◌<◌, ◌+◌}
use native.Mathlib.Omega.{arith}
use lib.ListN.{length, get_or, drop, get_elem?, length-append}
use lib.Seq.{drop_at}
use Rattle.cedar.proofs.Tools.{both}
use Rattle.cedar.specs.Value.{Value, vbool, Values, Fields}
use Rattle.cedar.specs.Types.{Ty}
use Rattle.cedar.specs.Residual.{Item, star, piece, Un, unot, uneg, uempty, uis, ulike, Node, Nodes, NodeArgs, Expr, Exprs, Args, lit, and, or, ite, un, bin, rel, get, has, haspath, set, rec, econs, gcons, err}
use Rattle.cedar.specs.Response.{decision}
use Rattle.cedar.specs.Rows.{Entries, Row}
use Rattle.cedar.specs.Table.{At, Elems, elem0, elem1, Named, name0, name1, Denotes, dbool, dlong, dtext, dent, dset, drec, Table, start, grow}
use Rattle.cedar.specs.Reads.{Reads, xlit, xerr, xvar, xand, xor, xite, xun, xbin, xrel, xget, xhas, xpath, xset, xrec, ReadsAll, xnil, xcons, ReadsArgs, xstop, xarg}
use Rattle.cedar.specs.Runs.{Policy, NPolicy, NVerdict, verdicts}
use Rattle.cedar.proofs.MakingLaws.{content_of}
use Rattle.cedar.proofs.TableLaws.{at_last, at_append, same_length}
use Rattle.cedar.proofs.SettledByNumber.{Residuals, RunReads, run_reads}
use Rattle.sheet.specs.Forms.{partial, complete, TEXT, KIND, VALUE}
use Rattle.sheet.specs.State.{State, count, lines_of, sum}
use Rattle.sheet.specs.Sheet.{firsts, read}
use Rattle.sheet.specs.Content.{types, rows_in, value_rows, contents, value_over, values_from, schema, p_env, n_env, exprs, n_policies, policies, trees_from, on_term}
use Rattle.sheet.specs.Why.{why}
use Rattle.sheet.specs.Answer.{size, tree_rows, residual_rows, counts_of, ids, run, results, answer}
use Rattle.sheet.specs.Call.{Accepted}
use Rattle.sheet.specs.ReadAnswer.{PolicyLine, Said, read_answer, values_stand, nodes_stand, all_stand}
use Rattle.sheet.proofs.reading.Lines.{History}
use Rattle.sheet.proofs.content.ValueRows.{rows_length, values_table}
use Rattle.sheet.proofs.content.Environment.{Facts, env_read}
use Rattle.sheet.proofs.demand3.TwoSheets.{values_append}
use Rattle.sheet.proofs.content.OwnPolicies.{read_own}
use Rattle.sheet.proofs.running.Counts.{content_length, partial_counts, complete_counts}
use Rattle.sheet.proofs.reading.Checked.{accepted_read}
use Rattle.sheet.proofs.demand3.Demand3Bytes.{facts}
use Rattle.sheet.proofs.content.TypeNumbers.{types_length, LinesIn, residual_types}
use Rattle.sheet.proofs.reading.Limits.{most_lines}
use Rattle.sheet.proofs.running.MadeCount.{residual_sizes}
use Rattle.sheet.proofs.running.NeverNine.{policy_sizes_law, residual_sizes_law, rows_at_most}
use Rattle.sheet.proofs.answer.RowsBack.{AllSmall, SmallEntries, GoodValue}
use Rattle.sheet.proofs.answer.TreesBack.{SmallPattern, SmallUn, SmallTexts, Small, SmallAll, SmallArgs, Short, valued, valued_all, valued_args, valued_same, post, post_size, root_there, then_rows, tree_back}
use Rattle.sheet.proofs.answer.NodesStand.{made_stand, NamesThere, residuals_stand}
use Rattle.sheet.proofs.answer.RowsGood.{ResidualsSmall, residuals_good}
use Rattle.sheet.proofs.running.LeftOver.{Any, left_small, LeftLines, no_lines, one_line, PoliciesSmall, SmallNames, MadeOk, AllMade, RunLeaves, run_leaves}
use Rattle.sheet.proofs.content.SheetSmall.{Under, policies_under, ids_small, asked_under}
use Rattle.sheet.proofs.answer.AnswerBack.{GoodValues, partial_policies, complete_policies, partial_reads, complete_reads}
use Rattle.sheet.proofs.running.WhyLaws.{why_small}
use Rattle.sheet.proofs.content.Fitting.{at_less, denotes_over}
use Rattle.cedar.proofs.SettledByNumber as R
use Rattle.cedar.proofs.ReadsLaws.{at_is}
use Rattle.sheet.proofs.content.OnTerm.{on_term_few}

-- ---- numbers of texts and kinds

module _ (N : ℕ → ℕ → Type 0) (texts : (x : ℕ) → N TEXT x → x ≤ 9999) (kinds : (x : ℕ) → N KIND x → x ≤ 9999) where
  pattern_small : (p : List Item) → SmallPattern N p → SmallPattern Short p
  pattern_small [] h = tt
  pattern_small (star ∷ p) h = pattern_small p h
  pattern_small (piece t ∷ p) h = (texts t h.0, pattern_small p h.1)

  un_small : (u : Un) → SmallUn N u → SmallUn Short u
  un_small unot h = tt
  un_small uneg h = tt
  un_small uempty h = tt
  un_small (uis k) h = kinds k h
  un_small (ulike p) h = pattern_small p h

  texts_small : (l : List ℕ) → SmallTexts N l → SmallTexts Short l
  texts_small [] h = tt
  texts_small (t ∷ l) h = (texts t h.0, texts_small l h.1)

-- ---- numbers of values

module _ {C : List Value} (few : length C ≤ 10000) (N : ℕ → ℕ → Type 0) (texts : (x : ℕ) → N TEXT x → x ≤ 9999) (kinds : (x : ℕ) → N KIND x → x ≤ 9999) where
  elems_small : {l : List ℕ} {vs : Values} → Elems C l vs → AllSmall l
  elems_small elem0 = tt
  elems_small (elem1 a e) = let z = at_less a in (omega arith, elems_small e)

  named_small : {e : Entries} {fs : Fields} → Named C e fs → SmallNames N e → SmallEntries e
  named_small name0 h = tt
  named_small (name1 a e) h = let z = at_less a in (texts _ h.0, omega arith, named_small e h.1)

  -- a made row over a table is one whose line reads back
  made_good : {r : Row} {v : Value} → Denotes C r v → MadeOk N r → GoodValue r
  made_good dbool h = tt
  made_good dlong h = h
  made_good dtext h = texts _ h
  made_good dent h = (kinds _ h.0, texts _ h.1)
  made_good (dset a e q) h = elems_small e
  made_good (drec e) h = named_small e h

  mutual
    reads_small : {a : Node ℕ} {d : Expr} → Reads C a d → Small N Any a → Small Short (λ v. v ≤ 9999) a
    reads_small (xlit n) h = let z = at_less n in omega arith
    reads_small xerr h = tt
    reads_small xvar h = tt
    reads_small (xand a b) h = (reads_small a h.0, reads_small b h.1)
    reads_small (xor a b) h = (reads_small a h.0, reads_small b h.1)
    reads_small (xite c a b) h = (reads_small c h.0, reads_small a h.1, reads_small b h.2)
    reads_small (xun {u = u} a) h = (un_small N texts kinds u h.0, reads_small a h.1)
    reads_small (xbin a b) h = (reads_small a h.0, reads_small b h.1)
    reads_small (xrel a b) h = (reads_small a h.0, reads_small b h.1)
    reads_small (xget a) h = (texts _ h.0, reads_small a h.1)
    reads_small (xhas a) h = (texts _ h.0, reads_small a h.1)
    reads_small (xpath {t = t} {ts = ts} a) h = (texts_small N texts kinds (t ∷ ts) h.0, reads_small a h.1)
    reads_small (xset k) h = all_small k h
    reads_small (xrec k) h = args_small k h

    all_small : {es : Nodes ℕ} {fs : Exprs} → ReadsAll C es fs → SmallAll N Any es → SmallAll Short (λ v. v ≤ 9999) es
    all_small xnil h = tt
    all_small (xcons a k) h = (reads_small a h.0, all_small k h.1)

    args_small : {gs : NodeArgs ℕ} {hs : Args} → ReadsArgs C gs hs → SmallArgs N Any gs → SmallArgs Short (λ v. v ≤ 9999) gs
    args_small xstop h = tt
    args_small (xarg a k) h = (texts _ h.0, reads_small a h.1, args_small k h.2)

  made_goods : (pre more : List Row) → ((n : ℕ) (r : Row) → At (pre ++ more) n r → (v : Value) × At C n v × Denotes C r v) → AllMade N more → GoodValues more
  made_goods pre [] f h = tt
  made_goods pre (r ∷ more) f h =
      let q : pre ++ (r ∷ more) ≡ (pre ++ (r ∷ [])) ++ more = sym (append_assoc pre (r ∷ []) more) in
      let (v, a, d) = f (length pre) r (subst (λ z. At z (length pre) r) (sym q) (at_append more (at_last pre r))) in
      (made_good d h.0, made_goods (pre ++ (r ∷ [])) more (λ n x a. f n x (subst (λ z. At z n x) (sym q) a)) h.1)

-- ---- the contents of a table are those that its rows say

table_values : {T : List Row} {C : List Value} → Table T C → values_from [] T ≡ C
table_values start = refl
table_values (grow {T = T} {C = C} {r = r} t d h) = values_append [] T (r ∷ []) ∙ ap (λ z. z ++ (value_over z r ∷ [])) (table_values t) ∙ ap (λ z. C ++ (z ∷ [])) (sym (denotes_over d))

-- a tree that is read has its literals' contents
module _ (C : List Value) where
  abbrev content : ℕ → Value
  content n = get_or C n (vbool false)

  mutual
    pub reads_valued : {a : Node ℕ} {d : Expr} → Reads C a d → valued content a ≡ d
    reads_valued (xlit {T = T} n) = ap (lit T) (at_is (vbool false) n)
    reads_valued xerr = refl
    reads_valued xvar = refl
    reads_valued (xand {T = T} a b) = ap₂ (and T) (reads_valued a) (reads_valued b)
    reads_valued (xor {T = T} a b) = ap₂ (or T) (reads_valued a) (reads_valued b)
    reads_valued (xite {T = T} c a b) = λ i. ite T (reads_valued c i) (reads_valued a i) (reads_valued b i)
    reads_valued (xun {T = T} {u = u} a) = ap (un T u) (reads_valued a)
    reads_valued (xbin {T = T} {o = o} a b) = ap₂ (bin T o) (reads_valued a) (reads_valued b)
    reads_valued (xrel {T = T} {o = o} a b) = ap₂ (rel T o) (reads_valued a) (reads_valued b)
    reads_valued (xget {T = T} {t = t} a) = ap (λ x. get T x t) (reads_valued a)
    reads_valued (xhas {T = T} {t = t} a) = ap (λ x. has T x t) (reads_valued a)
    reads_valued (xpath {T = T} {t = t} {ts = ts} a) = ap (λ x. haspath T x t ts) (reads_valued a)
    reads_valued (xset {T = T} k) = ap (set T) (all_valued k)
    reads_valued (xrec {T = T} k) = ap (rec T) (args_valued k)

    all_valued : {es : Nodes ℕ} {fs : Exprs} → ReadsAll C es fs → valued_all content es ≡ fs
    all_valued xnil = refl
    all_valued (xcons a k) = ap₂ econs (reads_valued a) (all_valued k)

    args_valued : {gs : NodeArgs ℕ} {hs : Args} → ReadsArgs C gs hs → valued_args content gs ≡ hs
    args_valued xstop = refl
    args_valued (xarg {t = t} a k) = ap₂ (gcons t) (reads_valued a) (args_valued k)

-- each residual can be read: every literal has a content
abbrev pub AllRead : List Value → List NVerdict → Type 0
AllRead C [] = Unit {0}
AllRead C (l ∷ ls) = Reads C l.root (valued (λ n. get_or C n (vbool false)) l.root) × AllRead C ls

-- ---- counts

parts_small : (l : List ℕ) → sum l ≤ 9999 → AllSmall l
parts_small [] h = tt
parts_small (n ∷ l) h = (omega arith, parts_small l (omega arith))

-- ---- under each root stands its residual

-- the trees under the roots of policy lines, and what each line of the run has there
pub data Standing {L : Type 0} (trees : List (Node L)) (tree : NVerdict → Node L) : List PolicyLine → List NVerdict → Type 0 where
  none : Standing trees tree [] []
  more : {x : PolicyLine} {xs : List PolicyLine} {l : NVerdict} {ls : List NVerdict} → get_elem? trees x.root ≡ some (tree l) → Standing trees tree xs ls → Standing trees tree (x ∷ xs) (l ∷ ls)

stand_as : {L : Type 0} {trees : List (Node L)} {f g : NVerdict → Node L} → ((l : NVerdict) → f l ≡ g l) → {xs : List PolicyLine} {ls : List NVerdict} → Standing trees f xs ls → Standing trees g xs ls
stand_as e none = none
stand_as e (more {l = l} h hs) = more (h ∙ ap some (e l)) (stand_as e hs)

module _ {L : Type 0} (ts : List Ty) (value : ℕ → L) where
  abbrev read_in : NVerdict → Node L
  read_in l = valued value l.root

  abbrev posts : List NVerdict → List (Node L)
  posts [] = []
  posts (l ∷ ls) = post (valued value l.root) ++ posts ls

  residuals_built : (ls : List NVerdict) (ns : List (Node L)) (n : ℕ) → length ns ≡ n → ResidualsSmall ls → LinesIn ts ls → trees_from ts value (λ A x. err A) ns (residual_rows ts n ls) ≡ ns ++ posts ls
  residuals_built [] ns n len h q = sym (append-nil ns)
  residuals_built (l ∷ ls) ns n len h q = then_rows ts value ns (post (valued value l.root)) (posts ls) (tree_rows ts n l.root) (residual_rows ts (n + size l.root) ls)
      (tree_back ts value (λ v. v ≤ 9999) l.root ns n len h.0 q.0)
      (residuals_built ls (ns ++ post (valued value l.root)) (n + size l.root) (length-append ns (post (valued value l.root)) ∙ ap₂ (λ x y. x + y) len (post_size value l.root)) h.1 q.1)

  standing : (ls : List NVerdict) (is : List ℕ) (ns : List (Node L)) (n : ℕ) → length ns ≡ n → length is ≡ length ls → Standing (ns ++ posts ls) read_in (partial_policies n is ls) ls
  standing [] [] ns n len e = none
  standing [] (i ∷ is) ns n len e = absurd (omega (arith, e))
  standing (l ∷ ls) [] ns n len e = absurd (omega (arith, e))
  standing (l ∷ ls) (i ∷ is) ns n len e = more (root_there value ns n l.root (posts ls) len)
      (subst (λ z. Standing z read_in (partial_policies (n + size l.root) is ls) ls) (append_assoc ns (post (valued value l.root)) (posts ls))
      (standing ls is (ns ++ post (valued value l.root)) (n + size l.root) (length-append ns (post (valued value l.root)) ∙ ap₂ (λ x y. x + y) len (post_size value l.root)) (omega (arith, e))))

-- ---- a partial sheet

-- what the run says
abbrev pub partial_said : State → Said
partial_said s = record { decision = decision (verdicts (run partial s).lines); counts = counts_of (verdicts (run partial s).lines); why = why (ids s) (verdicts (run partial s).lines); made = drop (count s VALUE) (run partial s).rows; nodes = residual_rows (types s) 0 (run partial s).lines; policies = partial_policies 0 (ids s) (run partial s).lines }

abbrev pub complete_said : State → Said
complete_said s = record { decision = decision (results s); counts = counts_of (results s); why = why (ids s) (results s); made = []; nodes = []; policies = complete_policies (ids s) (results s) }

pub firsts_length : (rs : List (List ℕ)) → length (firsts rs) ≡ length rs
firsts_length [] = refl
firsts_length (r ∷ rs) = ap suc (firsts_length rs)

module _ (sheet : List ℕ) (acc : Accepted partial sheet) where
  abbrev s : State
  s = (read partial sheet).state

  f : Facts partial s
  f = facts partial sheet acc

  h : History partial s
  h = f.history

  e : (read partial sheet).number ≡ 0
  e = accepted_read partial sheet acc

  reads : RunReads (schema s) (n_env partial s) (p_env s) (contents s) (run partial s) (policies s)
  unfolding run
  reads = run_reads (schema s) (n_env partial s) (p_env s) (n_policies s) (values_table partial s h) (env_read s f) (read_own partial s h f.ends)

  leaves : RunLeaves (Under s) (n_policies s) (value_rows s) (run partial s)
  unfolding run
  leaves = run_leaves (Under s) (schema s) (n_env partial s) (asked_under s f) (n_policies s) (policies_under partial s h) (value_rows s)

  short_text : (x : ℕ) → x < count s TEXT → x ≤ 9999
  short_text x lt = let a = (most_lines partial s h).texts in omega (arith, a, lt)

  short_kind : (x : ℕ) → x < count s KIND → x ≤ 9999
  short_kind x lt = let a = (most_lines partial s h).kinds in omega (arith, a, lt)

  few_values : length reads.contents ≤ 10000
  few_values = let a = rows_at_most partial sheet e in let b = same_length reads.table in omega (arith, a, b)

  made_is : drop (count s VALUE) (run partial s).rows ≡ leaves.rows.more
  unfolding value_rows
  made_is = ap (drop (count s VALUE)) leaves.rows.grew ∙ drop_at (rows_in (lines_of s VALUE)) leaves.rows.more (count s VALUE) (rows_length (lines_of s VALUE))

  -- the rows of a run are the sheet's and the made ones
  pub rows_are : (run partial s).rows ≡ value_rows s ++ drop (count s VALUE) (run partial s).rows
  rows_are = leaves.rows.grew ∙ ap (λ z. value_rows s ++ z) (sym made_is)

  pub made_values : GoodValues (drop (count s VALUE) (run partial s).rows)
  made_values = subst GoodValues (sym made_is) (made_goods few_values (Under s) short_text short_kind (value_rows s) leaves.rows.more (λ n r a. content_of reads.table (subst (λ z. At z n r) (sym leaves.rows.grew) a)) leaves.rows.good)

  lines_small : {ps : List NPolicy} {ls : List NVerdict} {qs : List Policy} → LeftLines ps ls → PoliciesSmall (Under s) ps → Residuals (schema s) (n_env partial s) (p_env s) reads.contents ls qs → ResidualsSmall ls
  lines_small no_lines k R.none = tt
  lines_small (one_line l ls) k (R.more r rs) = (reads_small few_values (Under s) short_text short_kind r (left_small (Under s) l k.0), lines_small ls k.1 rs)

  pub residuals_small : ResidualsSmall (run partial s).lines
  residuals_small = lines_small leaves.lines (policies_under partial s h) reads.residuals

  sizes_small : residual_sizes (run partial s).lines ≤ 10000
  sizes_small = let a = policy_sizes_law partial sheet e in let b = residual_sizes_law partial sheet e in omega (arith, a, b)

  pub few_types : length (types s) ≤ 9999
  few_types = let a = types_length partial s h in let b = (most_lines partial s h).types in omega (arith, a, b)

  counts_small : AllSmall (counts_of (verdicts (run partial s).lines))
  counts_small = let a = partial_counts partial s in let b = (most_lines partial s h).policies in let c = on_term_few s in parts_small (counts_of (verdicts (run partial s).lines)) (omega (arith, a, b, c))

  -- A PARTIAL ANSWER READS BACK
  pub partial_answer_back : read_answer partial (answer partial s) ≡ some (partial_said s)
  unfolding answer
  partial_answer_back = partial_reads (why (ids s) (verdicts (run partial s).lines)) (drop (count s VALUE) (run partial s).rows) (residual_rows (types s) 0 (run partial s).lines) (ids s) (run partial s).lines (why_small (ids s) (verdicts (run partial s).lines) (ids_small partial s h)) made_values
      (residuals_good (types s) few_types (run partial s).lines 0 residuals_small (omega (arith, sizes_small))) (ids_small partial s h) counts_small sizes_small

  lines_length : {D : List Value} {ls : List NVerdict} {qs : List Policy} → Residuals (schema s) (n_env partial s) (p_env s) D ls qs → length ls ≡ length qs
  lines_length R.none = refl
  lines_length (R.more r rs) = ap suc (lines_length rs)

  pub as_many : length (ids s) ≡ length (run partial s).lines
  unfolding policies
  as_many = firsts_length (on_term s) ∙ sym (lines_length reads.residuals ∙ content_length (exprs s) (on_term s))

  -- under each root stands its residual, its literals read by whatever reads value numbers
  pub roots_stand : {L : Type 0} (value : ℕ → L) → Standing (trees_from (types s) value (λ A x. err A) [] (residual_rows (types s) 0 (run partial s).lines)) (λ l. valued value l.root) (partial_policies 0 (ids s) (run partial s).lines) (run partial s).lines
  roots_stand value = subst (λ z. Standing z (λ l. valued value l.root) (partial_policies 0 (ids s) (run partial s).lines) (run partial s).lines)
      (sym (residuals_built (types s) value (run partial s).lines [] 0 refl residuals_small (residual_types s f)))
      (standing (types s) value (run partial s).lines (ids s) [] 0 refl as_many)

  values_many : count s VALUE + length (drop (count s VALUE) (run partial s).rows) ≡ length reads.contents
  unfolding value_rows
  values_many =
      let a = rows_length (lines_of s VALUE) in
      let b = ap length rows_are ∙ length-append (rows_in (lines_of s VALUE)) (drop (count s VALUE) (run partial s).rows) in
      let c = same_length reads.table in
      omega (arith, a, b, c)

  made_stands : values_stand (count s) (count s VALUE) (drop (count s VALUE) (run partial s).rows) ≡ true
  unfolding value_rows
  made_stands = ap (λ k. values_stand (count s) k (drop (count s VALUE) (run partial s).rows)) (sym (rows_length (lines_of s VALUE)))
      ∙ made_stand (count s) (rows_in (lines_of s VALUE)) (drop (count s VALUE) (run partial s).rows) (subst (λ R. Table R reads.contents) rows_are reads.table) (subst (AllMade (Under s)) (sym made_is) leaves.rows.good)

  lines_named : {ps : List NPolicy} {ls : List NVerdict} → LeftLines ps ls → PoliciesSmall (Under s) ps → NamesThere (count s) ls
  lines_named no_lines k = tt
  lines_named (one_line l ls) k = (left_small (Under s) l k.0, lines_named ls k.1)

  -- WHAT MADE VALUES AND RESIDUAL NODES REFER TO IS THERE
  pub all_stand_law : all_stand s (partial_said s) ≡ true
  all_stand_law = both made_stands (ap (λ n. nodes_stand (count s) n 0 (residual_rows (types s) 0 (run partial s).lines)) values_many
      ∙ residuals_stand (count s) (types s) reads.contents (types_length partial s h) reads.residuals (residual_types s f) (lines_named leaves.lines (policies_under partial s h)) 0)

  -- UNDER EACH PRINTED ROOT STANDS THE RUN'S RESIDUAL
  pub residuals_back : Standing (trees_from (types s) (λ n. n) (λ A x. err A) [] (partial_said s).nodes) (λ l. l.root) (partial_said s).policies (run partial s).lines
  residuals_back = stand_as (λ l. valued_same l.root) (roots_stand (λ n. n))

  -- the contents of the sheet's values and of the made ones
  pub values_of : {C : List Value} → Table (run partial s).rows C → values_from (contents s) (drop (count s VALUE) (run partial s).rows) ≡ C
  unfolding contents
  values_of t = sym (values_append [] (value_rows s) (drop (count s VALUE) (run partial s).rows)) ∙ ap (values_from []) (sym rows_are) ∙ table_values t

  all_there_law : {C : List Value} {ls : List NVerdict} {qs : List Policy} → Residuals (schema s) (n_env partial s) (p_env s) C ls qs → AllRead C ls
  all_there_law R.none = tt
  all_there_law {C} (R.more {l = l} r rs) = (subst (Reads C l.root) (sym (reads_valued C r)) r, all_there_law rs)

  -- EACH LITERAL'S NUMBER IS AMONG THE SHEET'S VALUES AND THE MADE ONES
  pub literals_there : AllRead (values_from (contents s) (partial_said s).made) (run partial s).lines
  literals_there = subst (λ C. AllRead C (run partial s).lines) (sym (values_of reads.table)) (all_there_law reads.residuals)

module _ (sheet : List ℕ) (acc : Accepted complete sheet) where
  abbrev c : State
  c = (read complete sheet).state

  -- A COMPLETE ANSWER READS BACK
  pub complete_answer_back : read_answer complete (answer complete c) ≡ some (complete_said c)
  unfolding answer
  complete_answer_back =
      let k = (facts complete sheet acc).history in
      let a = complete_counts c in
      let b = (most_lines complete c k).policies in
      let d = on_term_few c in
      complete_reads (why (ids c) (results c)) (ids c) (results c) (why_small (ids c) (results c) (ids_small complete c k)) (ids_small complete c k) (parts_small (counts_of (results c)) (omega (arith, a, b, d)))
