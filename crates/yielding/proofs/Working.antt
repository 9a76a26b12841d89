-- Each node that is left, over what its operands yielded, gives what `eval` gives it where they yielded what `eval` gives them. Operation by
-- operation; K lists the contents of the values that the residuals' literals number. Assumes nothing.
use mathlib.Core.Path.{◌≡◌, refl, sym, ◌∙◌, ap, ap₂, subst}
use mathlib.Core.Bool.{Bool, true, false}
use mathlib.Core.Option.{some}
use mathlib.Core.List.{List, [], ◌∷◌, ◌++◌}
use Prim.Native.Nat.{ℕ, suc, ◌+◌, ◌*◌, ◌≤◌}
use native.Mathlib.Omega.{arith}
use borrow.Author.Tests.{eqb-true}
use lib.Dec.{eqb}
use lib.ListN.{length, get_or, drop}
use lib.Seq.{drop-drop, get_or-drop}
use Rattle.std.specs.Prelude.{Ok, Err}
use Rattle.cedar.proofs.Tools.{no_true}
use Rattle.cedar.specs.Types.{Ty, tbool, Schema}
use Rattle.cedar.specs.Value.{Value as Content, Fields, fnil, fcons, vrec, Result, ok, fail, bind, on_some}
use Rattle.cedar.specs.Canonical.{make_set}
use Rattle.cedar.specs.Residual.{Node, Expr, Exprs, Args, err, var, and, or, ite, un, bin, rel, get, has, haspath, set, rec, enil, econs, gnil, gcons, Un, unot, uneg, uempty, uis, ulike, Bin, beq, blt, ble, badd, bsub, bmul, bcontains, ball, bany, Rel, rin, rgettag, rhastag}
use Rattle.cedar.specs.Entities.{Env}
use Rattle.cedar.specs.Evaluate.{eval_and, eval_or, eval, evals, eval_args, field_r, apply_un, apply_bin, apply_rel, apply_get, apply_has, apply_path}
use Rattle.cedar.specs.Interpret.{gives}
use Rattle.cedar.specs.Making.{sort_n}
use Rattle.cedar.specs.Numbered.{NOut, row_at, n_un, n_bin, n_rel, n_get, n_has}
use Rattle.cedar.specs.Table.{At, Denotes, drec, Named, name0, name1}
use Rattle.cedar.specs.Reads.{Reads, xvar, xand, xor, xite, xun, xbin, xrel, xget, xhas, xpath, xset, xrec, ReadsAll, xnil, xcons, ReadsArgs, xstop, xarg}
use Rattle.cedar.proofs.TableLaws.{number_inj}
use Rattle.cedar.proofs.MakingLaws.{set_denotes}
use Rattle.cedar.proofs.ReadsLaws.{OutReads, row_denotes}
use Rattle.cedar.proofs.ReadsOps.{un_reads, bin_reads}
use Rattle.cedar.proofs.Outcomes.{made_un, made_bin, made_rel, made_get, made_has}
use Rattle.sheet.specs.Forms.{complete, tag, items, at, first_node}
use Rattle.sheet.specs.State.{value_row, entries_of}
use Rattle.sheet.specs.Content.{var_of, pattern_of}
use Rattle.forms.specs.Tags.{VAR, AND, OR, EQ, LT, LE, ADD, SUB, MUL, IN, GETTAG, HASTAG, CONTAINS, ALL, ANY, IF, IS, LIKE, GET, HAS, HASPATH, NOT, NEG, EMPTY, SET_OF, RECORD_OF, SET_VALUE}
use Rattle.table.specs.Layout.{MADE}
use Rattle.value.specs.Made.{values_in, set_row, pairs_of, record_row}
use Rattle.value.proofs.Interned.{Formed, formed_record}
use Rattle.value.proofs.Fills.{written_is}
use Rattle.residual.specs.Trees.{nodes_of, args_of, left_for, left_tree, suits_for, suits}
use Rattle.residual.proofs.Blocks.{Each, each0, each1, at_operation, over0, over1, over2, over3}
use Rattle.tpe.proofs.Outcomes.{Fine, row_fine}
use Rattle.tpe.proofs.Sets.{sort_short, drop_two}
use Rattle.lookup.specs.Lookups.{env_by}
use Rattle.tpe.proofs.Stands.{Hold, schema_is, env_is, env_at}
use Rattle.tpe.proofs.Reach.{reach}
use Rattle.evaluator.specs.Run.{Yield, E, yields, values, node_in, settle_of, opt_of, on_yield, path_out, un_out, bin_out, rel_out, get_out, has_out, walk_out, two_out, one_out, schema_of, env_of}
use Rattle.evaluator.proofs.Gives.{Says, says_value, says_error, Stand, rel_gives, get_gives, has_gives, path_gives, fine_path}
use Rattle.evaluator.proofs.Steps.{sch, same_node}
use Rattle.evaluator.proofs.Many.{Oks, oks_none, oks_more, Bad, bad_here, bad_later, results_of, results_args, set_oks, set_bad, rec_bad}
use Rattle.valued.specs.Values.{all_values}
use Rattle.yielding.specs.Yields.{yield_row, yield_in, lazy_of, logic_of, branch_of, one_of, two_of, over_of, many_of, set_of, record_of, node_by}
use Rattle.yielding.proofs.Accounts.{takes, takes_all, takes_args, makes, makes_all, makes_args}
use Rattle.yielding.proofs.Getting.{Gets, Space, gets_as, gets_error, gets_made, gets_request, gets_one, gets_two, and_says, or_says, if_says}

-- ---- rows of yields, each beside the words of its residual

pub record Slot : Type 0 where
  pub yield : Yield
  pub words : ℕ

unfoldable pub yield_rows : List Slot → List ℕ
yield_rows [] = []
yield_rows (p ∷ ps) = yield_row p.yield p.words ++ yield_rows ps

pub row_four : (y : Yield) (w : ℕ) (q : List ℕ) → length (yield_row y w ++ q) ≡ 4 + length q
row_four (Ok v) w q = omega arith
row_four (Err e) w q = omega arith

pub rows_long : (ps : List Slot) → length (yield_rows ps) ≡ 4 * length ps
unfolding yield_rows
rows_long [] = refl
rows_long (p ∷ ps) = let a = row_four p.yield p.words (yield_rows ps) in let b = rows_long ps in omega (arith, a, b)

yield_here : (y : Yield) (w : ℕ) (q : List ℕ) → yield_in (yield_row y w ++ q) 0 ≡ y
unfolding yield_in
yield_here (Ok v) w q = refl
yield_here (Err e) w q = refl

yield_next : (y : Yield) (w : ℕ) (q : List ℕ) → yield_in (yield_row y w ++ q) 4 ≡ yield_in q 0
unfolding yield_in
yield_next (Ok v) w q = refl
yield_next (Err e) w q = refl

yield_later : (y : Yield) (w : ℕ) (q : List ℕ) → yield_in (yield_row y w ++ q) 8 ≡ yield_in q 4
unfolding yield_in
yield_later (Ok v) w q = refl
yield_later (Err e) w q = refl

abbrev pub takes_sum : List (Node ℕ) → ℕ
takes_sum [] = 0
takes_sum (c ∷ cs) = takes c + takes_sum cs

abbrev pub makes_sum : List (Node ℕ) → ℕ
makes_sum [] = 0
makes_sum (c ∷ cs) = makes c + makes_sum cs

module _ (sheet a₀ : List ℕ) (G : Env) where
  abbrev sc : Schema
  sc = sch sheet a₀ G

  abbrev pub eval_each : List Expr → List Result
  eval_each [] = []
  eval_each (X ∷ Xs) = eval sc G X ∷ eval_each Xs

  pub data Say (C : List Content) : List Slot → List Result → Type 0 where
    say_none : Say C [] []
    say_more : {p : Slot} {ps : List Slot} {x : Result} {xs : List Result} → Says C p.yield x → Say C ps xs → Say C (p ∷ ps) (x ∷ xs)

  pub data ReadEach (K : List Content) : List (Node ℕ) → List Expr → Type 0 where
    read_none : ReadEach K [] []
    read_more : {c : Node ℕ} {cs : List (Node ℕ)} {X : Expr} {Xs : List Expr} → Reads K c X → ReadEach K cs Xs → ReadEach K (c ∷ cs) (X ∷ Xs)

  -- room for w words, with two to spare, and c values
  pub record Place (w c : ℕ) (a : List ℕ) : Type 0 where
    pub top : reach a + w + 2 ≤ 16384
    pub few : get_or a MADE 0 + c ≤ 1024

  placed : (w u : ℕ) (a : List ℕ) → Place w 1 a → u ≤ w + 2 → Space sheet a₀ G u a
  placed w u a s h = record { top = omega (arith, s.top, h); few = s.few }

  gets_more : {C : List Content} {w c : ℕ} {a : List ℕ} {o : E} {x : Result} (u : ℕ) → Gets sheet a₀ G C w c a o x → w ≤ u → Gets sheet a₀ G C u c a o x
  gets_more u g h = record { contents = g.contents; keeps = g.keeps; stand = g.stand; says = g.says; top = omega (arith, g.top, h); few = g.few }

  module _ (K : List Content) (n k : ℕ) (r : List ℕ) (er : node_in a₀ n ≡ r) (T : Ty) where
    -- node n over the rows from s on, by the tag i: it may take w words and make c values, which its tree e accounts for
    pub record Work (cs : List (Node ℕ)) (i : ℕ) (e : Node ℕ) (X : Expr) : Type 0 where
      pub exprs : List Expr
      pub reads : ReadEach K cs exprs
      pub words : ℕ
      pub count : ℕ
      pub takes_fit : words + 2 + takes_sum cs ≤ takes e + 2 * length cs
      pub makes_fit : count + makes_sum cs ≤ makes e
      pub goes : (C : List Content) (a l : List ℕ) (s : ℕ) (ps : List Slot) → Stand sheet a₀ G C a → Place words count a → drop s l ≡ yield_rows ps → Say C ps (eval_each exprs) → length l + 1 + 2 * length cs ≤ 16384
          → Gets sheet a₀ G C words count a (node_by sheet i a l s n k) (eval sc G X)

    node_is : (a : List ℕ) → Hold a₀ a → node_in a n ≡ r
    node_is a h = same_node sheet a₀ G a h n ∙ er

    -- ---- one operand

    module _ (i : ℕ) (g : List ℕ → ℕ → NOut) (h : Content → Result) (step : (a l : List ℕ) (s : ℕ) → node_by sheet i a l s n k ≡ on_yield a (yield_in (drop s l) 0) (λ v. settle_of a (g a v)))
        (reads : (C : List Content) (a : List ℕ) → Stand sheet a₀ G C a → (v : ℕ) (z : Content) → At C v z → OutReads C (g a v) (gives (h z))) (fine : (a : List ℕ) (v : ℕ) → Fine (g a v)) where
      one_goes : (D : Expr) (C : List Content) (a l : List ℕ) (s : ℕ) {ps : List Slot} → Stand sheet a₀ G C a → Space sheet a₀ G 3 a → drop s l ≡ yield_rows ps → Say C ps (eval_each (D ∷ []))
          → Gets sheet a₀ G C 3 1 a (node_by sheet i a l s n k) (bind (eval sc G D) h)
      unfolding yield_rows
      one_goes D C a l s st space e (say_more {p = p} q say_none) =
          rw (step a l s, e, yield_here p.yield p.words []) (gets_one sheet a₀ G C a st (g a) h space q (reads C a st) (fine a))

      one_work : (f : Node ℕ → Node ℕ) (x : Node ℕ) (X D : Expr) → Reads K x D → eval sc G X ≡ bind (eval sc G D) h → takes (f x) ≡ 3 + takes x → makes (f x) ≡ suc (makes x) → Work (x ∷ []) i (f x) X
      one_work f x X D q e tk mk = record {
        exprs = D ∷ [];
        reads = read_more q read_none;
        words = 3;
        count = 1;
        takes_fit = omega (arith, tk);
        makes_fit = omega (arith, mk);
        goes = λ C a l s ps st space d say room. subst (λ (z : Result). Gets sheet a₀ G C 3 1 a (node_by sheet i a l s n k) z) (sym e) (one_goes D C a l s st (placed 3 3 a space (omega arith)) d say);
      }

    -- ---- two operands

    module _ (i : ℕ) (g : List ℕ → ℕ → ℕ → NOut) (h : Content → Content → Result) (step : (a l : List ℕ) (s : ℕ) → node_by sheet i a l s n k ≡ on_yield a (yield_in (drop s l) 0) (λ v. on_yield a (yield_in (drop s l) 4) (λ w. settle_of a (g a v w))))
        (reads : (C : List Content) (a : List ℕ) → Stand sheet a₀ G C a → (v w : ℕ) (z y : Content) → At C v z → At C w y → OutReads C (g a v w) (gives (h z y))) (fine : (a : List ℕ) (v w : ℕ) → Fine (g a v w)) where
      two_goes : (D F : Expr) (C : List Content) (a l : List ℕ) (s : ℕ) {ps : List Slot} → Stand sheet a₀ G C a → Space sheet a₀ G 3 a → drop s l ≡ yield_rows ps → Say C ps (eval_each (D ∷ F ∷ []))
          → Gets sheet a₀ G C 3 1 a (node_by sheet i a l s n k) (bind (eval sc G D) (λ z. bind (eval sc G F) (λ y. h z y)))
      unfolding yield_rows
      two_goes D F C a l s st space e (say_more {p = p} q (say_more {p = u} t say_none)) =
          rw (step a l s, e, yield_here p.yield p.words (yield_row u.yield u.words ++ []), yield_next p.yield p.words (yield_row u.yield u.words ++ []), yield_here u.yield u.words [])
          (gets_two sheet a₀ G C a st (g a) h space q t (reads C a st) (fine a))

      two_work : (f : Node ℕ → Node ℕ → Node ℕ) (x y : Node ℕ) (X D F : Expr) → Reads K x D → Reads K y F → eval sc G X ≡ bind (eval sc G D) (λ z. bind (eval sc G F) (λ y. h z y)) → takes (f x y) ≡ 3 + (takes x + takes y) → makes (f x y) ≡ suc (makes x + makes y)
          → Work (x ∷ y ∷ []) i (f x y) X
      two_work f x y X D F q t e tk mk = record {
        exprs = D ∷ F ∷ [];
        reads = read_more q (read_more t read_none);
        words = 3;
        count = 1;
        takes_fit = omega (arith, tk);
        makes_fit = omega (arith, mk);
        goes = λ C a l s ps st space d say room. subst (λ (z : Result). Gets sheet a₀ G C 3 1 a (node_by sheet i a l s n k) z) (sym e) (two_goes D F C a l s st (placed 3 3 a space (omega arith)) d say);
      }

    -- ---- and, or, if

    lazy_goes : (i : ℕ) (z : Bool) (h : Result → Result → Result) (D F : Expr) (C : List Content) (a l : List ℕ) (s : ℕ) {ps : List Slot} → ((a l : List ℕ) (s : ℕ) → node_by sheet i a l s n k ≡ yields a (lazy_of z a (yield_in (drop s l) 0) (yield_in (drop s l) 4)))
        → ((C : List Content) (a : List ℕ) → Stand sheet a₀ G C a → (y u : Yield) (d t : Result) → Says C y d → Says C u t → Says C (lazy_of z a y u) (h d t))
        → Stand sheet a₀ G C a → drop s l ≡ yield_rows ps → Say C ps (eval_each (D ∷ F ∷ [])) → Gets sheet a₀ G C 0 0 a (node_by sheet i a l s n k) (h (eval sc G D) (eval sc G F))
    unfolding yield_rows
    lazy_goes i z h D F C a l s step says st e (say_more {p = p} q (say_more {p = u} t say_none)) =
        rw (step a l s, e, yield_here p.yield p.words (yield_row u.yield u.words ++ []), yield_next p.yield p.words (yield_row u.yield u.words ++ []), yield_here u.yield u.words [])
        (gets_as sheet a₀ G C a st 0 0 (lazy_of z a p.yield u.yield) (h (eval sc G D) (eval sc G F)) (says C a st p.yield u.yield (eval sc G D) (eval sc G F) q t))

    lazy_work : (i : ℕ) (z : Bool) (h : Result → Result → Result) → ((a l : List ℕ) (s : ℕ) → node_by sheet i a l s n k ≡ yields a (lazy_of z a (yield_in (drop s l) 0) (yield_in (drop s l) 4)))
        → ((C : List Content) (a : List ℕ) → Stand sheet a₀ G C a → (y u : Yield) (d t : Result) → Says C y d → Says C u t → Says C (lazy_of z a y u) (h d t))
        → (f : Node ℕ → Node ℕ → Node ℕ) (x y : Node ℕ) (X D F : Expr) → Reads K x D → Reads K y F → eval sc G X ≡ h (eval sc G D) (eval sc G F) → takes (f x y) ≡ suc (takes x + takes y) → makes (f x y) ≡ makes x + makes y
        → Work (x ∷ y ∷ []) i (f x y) X
    lazy_work i z h step says f x y X D F q t e tk mk = record {
      exprs = D ∷ F ∷ [];
      reads = read_more q (read_more t read_none);
      words = 0;
      count = 0;
      takes_fit = omega (arith, tk);
      makes_fit = omega (arith, mk);
      goes = λ C a l s ps st space d say room. subst (λ (z : Result). Gets sheet a₀ G C 0 0 a (node_by sheet i a l s n k) z) (sym e) (lazy_goes i z h D F C a l s step says st d say);
    }

    if_step_law : (a l : List ℕ) (s : ℕ) → node_by sheet IF a l s n k ≡ yields a (branch_of a (yield_in (drop s l) 0) (yield_in (drop s l) 4) (yield_in (drop s l) 8))
    unfolding node_by over_of
    if_step_law a l s = refl

    if_goes : (B D F : Expr) (C : List Content) (a l : List ℕ) (s : ℕ) {ps : List Slot} → Stand sheet a₀ G C a → drop s l ≡ yield_rows ps → Say C ps (eval_each (B ∷ D ∷ F ∷ []))
        → Gets sheet a₀ G C 0 0 a (node_by sheet IF a l s n k) (eval sc G (ite T B D F))
    unfolding yield_rows
    if_goes B D F C a l s st e (say_more {p = p} q (say_more {p = u} t (say_more {p = v} j say_none))) =
        let o : List ℕ = yield_row v.yield v.words ++ [] in
        let m : List ℕ = yield_row u.yield u.words ++ o in
        rw (if_step_law a l s, e, yield_here p.yield p.words m, yield_next p.yield p.words m, yield_here u.yield u.words o, yield_later p.yield p.words m, yield_next u.yield u.words o, yield_here v.yield v.words [])
        (gets_as sheet a₀ G C a st 0 0 (branch_of a p.yield u.yield v.yield) (eval sc G (ite T B D F)) (if_says sheet a₀ G C a st q t j))

    if_work : (x y z : Node ℕ) (X : Expr) → Reads K (ite T x y z) X → Work (x ∷ y ∷ z ∷ []) IF (ite T x y z) X
    if_work x y z X (xite {f = B} {d = D} {e = F} p q t) = record {
      exprs = B ∷ D ∷ F ∷ [];
      reads = read_more p (read_more q (read_more t read_none));
      words = 0;
      count = 0;
      takes_fit = omega arith;
      makes_fit = omega arith;
      goes = λ C a l s ps st space d say room. if_goes B D F C a l s st d say;
    }

    -- ---- the request

    var_step_law : (a l : List ℕ) (s : ℕ) → node_by sheet VAR a l s n k ≡ opt_of a ((env_of a).request (var_of (at (node_in a n) 1)))
    unfolding node_by
    var_step_law a l s = refl

    var_work : (X : Expr) → Reads K (var T (var_of (at r 1))) X → Work [] VAR (var T (var_of (at r 1))) X
    var_work X xvar = record {
      exprs = [];
      reads = read_none;
      words = 1;
      count = 1;
      takes_fit = omega arith;
      makes_fit = omega arith;
      goes = λ C a l s ps st space d say room. rw (var_step_law a l s, node_is a st.hold) (gets_more 1 (gets_request sheet a₀ G C a st (placed 1 3 a space (omega arith)) (var_of (at r 1))) (omega arith));
    }

    -- ---- sets and records: all operands are values, or one is an error

    data Kinds (C : List Content) (q : List ℕ) (m : ℕ) (rs : List Result) : Type 0 where
      all_values_law : {ns : List ℕ} → all_values q ≡ true → values_in q ≡ ns → Oks C rs ns → length ns ≡ m → Kinds C q m rs
      one_error : all_values q ≡ false → Bad rs → Kinds C q m rs

    kinds_more : {C : List Content} {q : List ℕ} {m : ℕ} {x : Result} {rs : List Result} (y : Yield) (w : ℕ) → Says C y x → Kinds C q m rs → Kinds C (yield_row y w ++ q) (suc m) (x ∷ rs)
    unfolding all_values values_in
    kinds_more (Ok v) w (says_value h) (all_values_law {ns = ns} e f b c) = all_values_law {ns = v ∷ ns} e (ap (λ (l : List ℕ). v ∷ l) f) (oks_more refl h b) (ap suc c)
    kinds_more (Ok v) w (says_value h) (one_error e b) = one_error e (bad_later refl b)
    kinds_more (Err e) w says_error k = one_error refl (bad_here refl)

    kinds : {C : List Content} {ps : List Slot} {rs : List Result} → Say C ps rs → Kinds C (yield_rows ps) (length ps) rs
    unfolding yield_rows all_values values_in
    kinds say_none = all_values_law {ns = []} refl refl oks_none refl
    kinds (say_more {p = p} h t) = kinds_more p.yield p.words h (kinds t)

    say_long : {C : List Content} {ps : List Slot} {rs : List Result} → Say C ps rs → length ps ≡ length rs
    say_long say_none = refl
    say_long (say_more h t) = ap suc (say_long t)

    read_long : {cs : List (Node ℕ)} {Xs : List Expr} → ReadEach K cs Xs → length (eval_each Xs) ≡ length cs
    read_long read_none = refl
    read_long (read_more q t) = ap suc (read_long t)

    many_made : (C : List Content) (a l q row : List ℕ) (w : ℕ) (st : Stand sheet a₀ G C a) → Space sheet a₀ G w a → all_values q ≡ true → length l + length row ≤ 16384 → Formed row → length row ≤ w
        → {x : Content} → Denotes C (value_row row) x → Gets sheet a₀ G C w 1 a (many_of a l q row) (ok x)
    unfolding many_of
    many_made C a l q row w st space e room f sh d = rw (e, written_is l row room) (gets_made sheet a₀ G C a st row f w space sh d)

    many_error : (C : List Content) (a l q row : List ℕ) (w : ℕ) (st : Stand sheet a₀ G C a) → all_values q ≡ false → Gets sheet a₀ G C w 1 a (many_of a l q row) fail
    unfolding many_of
    many_error C a l q row w st e = rw e (gets_error sheet a₀ G C a st w 1)

    -- ---- sets

    abbrev list_of : Exprs → List Expr
    list_of enil = []
    list_of (econs e es) = e ∷ list_of es

    each_results : (fs : Exprs) → eval_each (list_of fs) ≡ results_of sheet a₀ G fs
    each_results enil = refl
    each_results (econs e es) = ap (λ (l : List Result). eval sc G e ∷ l) (each_results es)

    list_read : (cs : List (Node ℕ)) {fs : Exprs} → ReadsAll K (nodes_of cs) fs → ReadEach K cs (list_of fs)
    list_read [] xnil = read_none
    list_read (c ∷ cs) (xcons q h) = read_more q (list_read cs h)

    all_takes : (cs : List (Node ℕ)) → takes_all (nodes_of cs) ≡ takes_sum cs
    all_takes [] = refl
    all_takes (c ∷ cs) = ap (λ (m : ℕ). takes c + m) (all_takes cs)

    all_makes : (cs : List (Node ℕ)) → makes_all (nodes_of cs) ≡ makes_sum cs
    all_makes [] = refl
    all_makes (c ∷ cs) = ap (λ (m : ℕ). makes c + m) (all_makes cs)

    set_step_law : (a l : List ℕ) (s : ℕ) → node_by sheet SET_OF a l s n k ≡ many_of a l (drop s l) (set_row (drop s l))
    unfolding node_by set_of
    set_step_law a l s = refl

    set_goes : (fs : Exprs) (m : ℕ) (C : List Content) (a l q : List ℕ) → Stand sheet a₀ G C a → Space sheet a₀ G (1 + 2 * m) a → length l + 1 + 2 * m ≤ 16384 → Kinds C q m (results_of sheet a₀ G fs)
        → Gets sheet a₀ G C (1 + 2 * m) 1 a (many_of a l q (set_row q)) (on_some fail (evals sc G fs) (λ vs. ok (make_set vs)))
    unfolding set_row
    set_goes fs m C a l q st space room (all_values_law {ns = ns} e f b c) =
        let (vs, p, d) = set_oks sheet a₀ G fs b in
        let h = sort_short ns in
        rw (p, f) (many_made C a l q (SET_VALUE ∷ sort_n ns) (1 + 2 * m) st space e (omega (arith, room, c, h)) refl (omega (arith, c, h)) (set_denotes d))
    set_goes fs m C a l q st space room (one_error e b) = rw (set_bad sheet a₀ G fs b) (many_error C a l q (SET_VALUE ∷ sort_n (values_in q)) (1 + 2 * m) st e)

    set_work : (cs : List (Node ℕ)) (X : Expr) → Reads K (set T (nodes_of cs)) X → Work cs SET_OF (set T (nodes_of cs)) X
    set_work cs X (xset {fs = fs} h) =
        let reads = list_read cs h in
        record {
          exprs = list_of fs;
          reads = reads;
          words = 1 + 2 * length cs;
          count = 1;
          takes_fit = let z = all_takes cs in omega (arith, z);
          makes_fit = let z = all_makes cs in omega (arith, z);
          goes = λ C a l s ps st space d say room.
              let m : length ps ≡ length cs = say_long say ∙ read_long reads in
              let k₀ : Kinds C (yield_rows ps) (length cs) (results_of sheet a₀ G fs) = subst (λ (j : ℕ). Kinds C (yield_rows ps) j (results_of sheet a₀ G fs)) m (subst (Kinds C (yield_rows ps) (length ps)) (each_results fs) (kinds say)) in
              rw (set_step_law a l s, d) (set_goes fs (length cs) C a l (yield_rows ps) st (placed (1 + 2 * length cs) (1 + 2 * length cs) a space (omega arith)) room k₀);
        }

    -- ---- records

    abbrev list_args : Args → List Expr
    list_args gnil = []
    list_args (gcons t e gs) = e ∷ list_args gs

    each_args : (hs : Args) → eval_each (list_args hs) ≡ results_args sheet a₀ G hs
    each_args gnil = refl
    each_args (gcons t e gs) = ap (λ (l : List Result). eval sc G e ∷ l) (each_args gs)

    args_read : (ts : List ℕ) (cs : List (Node ℕ)) {hs : Args} → length ts ≡ length cs + length cs → ReadsArgs K (args_of ts cs) hs → ReadEach K cs (list_args hs)
    args_read [] [] e xstop = read_none
    args_read [] (c ∷ cs) e h = absurd (omega arith)
    args_read (t ∷ []) cs e h = absurd (omega arith)
    args_read (t ∷ x ∷ ts) [] e h = absurd (omega arith)
    args_read (t ∷ x ∷ ts) (c ∷ cs) e (xarg q h) = read_more q (args_read ts cs (omega arith) h)

    args_takes : (ts : List ℕ) (cs : List (Node ℕ)) → length ts ≡ length cs + length cs → takes_args (args_of ts cs) ≡ takes_sum cs
    args_takes [] [] e = refl
    args_takes [] (c ∷ cs) e = absurd (omega arith)
    args_takes (t ∷ []) cs e = absurd (omega arith)
    args_takes (t ∷ x ∷ ts) [] e = absurd (omega arith)
    args_takes (t ∷ x ∷ ts) (c ∷ cs) e = ap (λ (m : ℕ). takes c + m) (args_takes ts cs (omega arith))

    args_makes : (ts : List ℕ) (cs : List (Node ℕ)) → length ts ≡ length cs + length cs → makes_args (args_of ts cs) ≡ makes_sum cs
    args_makes [] [] e = refl
    args_makes [] (c ∷ cs) e = absurd (omega arith)
    args_makes (t ∷ []) cs e = absurd (omega arith)
    args_makes (t ∷ x ∷ ts) [] e = absurd (omega arith)
    args_makes (t ∷ x ∷ ts) (c ∷ cs) e = ap (λ (m : ℕ). makes c + m) (args_makes ts cs (omega arith))

    -- texts with the numbers of values
    abbrev pairs_by : List ℕ → List ℕ → List ℕ
    pairs_by [] vs = []
    pairs_by (t ∷ []) vs = []
    pairs_by (t ∷ x ∷ ts) [] = []
    pairs_by (t ∷ x ∷ ts) (v ∷ vs) = t ∷ v ∷ pairs_by ts vs

    pairs_by_law : (ts q : List ℕ) → pairs_of ts q ≡ pairs_by ts (values_in q)
    unfolding pairs_of values_in
    pairs_by_law [] q = refl
    pairs_by_law (t ∷ []) q = refl
    pairs_by_law (t ∷ x ∷ ts) [] = refl
    pairs_by_law (t ∷ x ∷ ts) (a ∷ []) = refl
    pairs_by_law (t ∷ x ∷ ts) (a ∷ b ∷ []) = refl
    pairs_by_law (t ∷ x ∷ ts) (a ∷ b ∷ c ∷ []) = refl
    pairs_by_law (t ∷ x ∷ ts) (a ∷ b ∷ c ∷ d ∷ q) = ap (λ (l : List ℕ). t ∷ b ∷ l) (pairs_by_law ts q)

    pairs_long : (ts vs : List ℕ) → length (pairs_by ts vs) ≤ 2 * length vs
    pairs_long [] vs = omega arith
    pairs_long (t ∷ []) vs = omega arith
    pairs_long (t ∷ x ∷ ts) [] = omega arith
    pairs_long (t ∷ x ∷ ts) (v ∷ vs) = let h = pairs_long ts vs in omega (arith, h)

    rec_named : (ts : List ℕ) (cs : List (Node ℕ)) {C : List Content} {hs : Args} {ns : List ℕ} → length ts ≡ length cs + length cs → ReadsArgs K (args_of ts cs) hs → Oks C (results_args sheet a₀ G hs) ns
        → (fs : Fields) × (eval_args sc G hs ≡ some fs) × Named C (entries_of (pairs_by ts ns)) fs
    rec_named [] [] e xstop oks_none = (fnil, refl, name0)
    rec_named [] (c ∷ cs) e h b = absurd (omega arith)
    rec_named (t ∷ []) cs e h b = absurd (omega arith)
    rec_named (t ∷ x ∷ ts) [] e h b = absurd (omega arith)
    rec_named (t ∷ x ∷ ts) (c ∷ cs) e (xarg q h) (oks_more {v = v} p z b) = let (fs, o, m) = rec_named ts cs (omega arith) h b in (fcons t v fs, ap₂ (field_r t) p o, name1 z m)

    rec_step_law : (a l : List ℕ) (s : ℕ) → node_by sheet RECORD_OF a l s n k ≡ many_of a l (drop s l) (record_row (node_in a n) (drop s l))
    unfolding node_by record_of
    rec_step_law a l s = refl

    row_denotes_by : (C : List Content) (q : List ℕ) {ns : List ℕ} {fs : Fields} → values_in q ≡ ns → Named C (entries_of (pairs_by (drop 1 (items r)) ns)) fs → Denotes C (value_row (record_row r q)) (vrec fs)
    unfolding record_row
    row_denotes_by C q {ns} {fs} e m = drec (subst (λ (l : List ℕ). Named C (entries_of l) fs) (sym (pairs_by_law (drop 2 r) q ∙ ap₂ pairs_by (drop_two r) e)) m)

    row_short : (q : List ℕ) {ns : List ℕ} → values_in q ≡ ns → length (record_row r q) ≤ 1 + 2 * length ns
    unfolding record_row
    row_short q {ns} e = let h = pairs_long (drop 2 r) ns in let z : length (pairs_of (drop 2 r) q) ≡ length (pairs_by (drop 2 r) ns) = ap length (pairs_by_law (drop 2 r) q ∙ ap (pairs_by (drop 2 r)) e) in omega (arith, h, z)

    rec_goes : (cs : List (Node ℕ)) (hs : Args) → length (drop 1 (items r)) ≡ length cs + length cs → ReadsArgs K (args_of (drop 1 (items r)) cs) hs → (m : ℕ) (C : List Content) (a l q : List ℕ) → Stand sheet a₀ G C a → Space sheet a₀ G (1 + 2 * m) a
        → length l + 1 + 2 * m ≤ 16384 → Kinds C q m (results_args sheet a₀ G hs) → Gets sheet a₀ G C (1 + 2 * m) 1 a (many_of a l q (record_row r q)) (on_some fail (eval_args sc G hs) (λ fs. ok (vrec fs)))
    rec_goes cs hs even h m C a l q st space room (all_values_law {ns = ns} e f b c) =
        let (fs, p, d) = rec_named (drop 1 (items r)) cs even h b in
        let sh = row_short q f in
        rw p (many_made C a l q (record_row r q) (1 + 2 * m) st space e (omega (arith, room, c, sh)) (formed_record r q) (omega (arith, c, sh)) (row_denotes_by C q f d))
    rec_goes cs hs even h m C a l q st space room (one_error e b) = rw (rec_bad sheet a₀ G hs b) (many_error C a l q (record_row r q) (1 + 2 * m) st e)

    rec_work : (cs : List (Node ℕ)) → length (drop 1 (items r)) ≡ length cs + length cs → (X : Expr) → Reads K (rec T (args_of (drop 1 (items r)) cs)) X → Work cs RECORD_OF (rec T (args_of (drop 1 (items r)) cs)) X
    rec_work cs even X (xrec {hs = hs} h) =
        let reads = args_read (drop 1 (items r)) cs even h in
        record {
          exprs = list_args hs;
          reads = reads;
          words = 1 + 2 * length cs;
          count = 1;
          takes_fit = let z = args_takes (drop 1 (items r)) cs even in omega (arith, z);
          makes_fit = let z = args_makes (drop 1 (items r)) cs even in omega (arith, z);
          goes = λ C a l s ps st space d say room.
              let m : length ps ≡ length cs = say_long say ∙ read_long reads in
              let k₀ : Kinds C (yield_rows ps) (length cs) (results_args sheet a₀ G hs) = subst (λ (j : ℕ). Kinds C (yield_rows ps) j (results_args sheet a₀ G hs)) m (subst (Kinds C (yield_rows ps) (length ps)) (each_args hs) (kinds say)) in
              rw (rec_step_law a l s, d, node_is a st.hold) (rec_goes cs hs even h (length cs) C a l (yield_rows ps) st (placed (1 + 2 * length cs) (1 + 2 * length cs) a space (omega arith)) room k₀);
        }

    -- ---- each operation

    un_work : (i : ℕ) (u : List ℕ → Un) → ((a l : List ℕ) (s : ℕ) → node_by sheet i a l s n k ≡ on_yield a (yield_in (drop s l) 0) (λ v. settle_of a (n_un (schema_of sheet a) (u (node_in a n)) (row_at (values a) v))))
        → (x : Node ℕ) (X : Expr) → Reads K (un T (u r) x) X → Work (x ∷ []) i (un T (u r) x) X
    un_work i u step x X (xun {d = D} q) =
        one_work i (λ a v. n_un (schema_of sheet a) (u (node_in a n)) (row_at (values a) v)) (apply_un sc (u r)) step
        (λ C a st v z e. rw (node_is a st.hold, schema_is complete sheet a₀ a st.hold) (un_reads C sc (number_inj st.table) (u r) (row_denotes st.table e)))
        (λ a v. made_un row_fine (schema_of sheet a) (u (node_in a n)) (row_at (values a) v)) (un T (u r)) x X D q refl refl refl

    bin_work : (i : ℕ) (o : Bin) → ((a l : List ℕ) (s : ℕ) → node_by sheet i a l s n k ≡ on_yield a (yield_in (drop s l) 0) (λ v. on_yield a (yield_in (drop s l) 4) (λ w. settle_of a (n_bin o v w (row_at (values a) v) (row_at (values a) w)))))
        → (x y : Node ℕ) (X : Expr) → Reads K (bin T o x y) X → Work (x ∷ y ∷ []) i (bin T o x y) X
    bin_work i o step x y X (xbin {d = D} {e = F} q t) =
        two_work i (λ a v w. n_bin o v w (row_at (values a) v) (row_at (values a) w)) (apply_bin o) step
        (λ C a st v w z c e d. bin_reads C (number_inj st.table) o e d (row_denotes st.table e) (row_denotes st.table d))
        (λ a v w. made_bin row_fine o v w (row_at (values a) v) (row_at (values a) w)) (bin T o) x y X D F q t refl refl refl

    rel_work : (i : ℕ) (o : Rel) → ((a l : List ℕ) (s : ℕ) → node_by sheet i a l s n k ≡ on_yield a (yield_in (drop s l) 0) (λ v. on_yield a (yield_in (drop s l) 4) (λ w. settle_of a (n_rel (env_by complete a v) (values a) o v w (row_at (values a) v) (row_at (values a) w)))))
        → (x y : Node ℕ) (X : Expr) → Reads K (rel T o x y) X → Work (x ∷ y ∷ []) i (rel T o x y) X
    rel_work i o step x y X (xrel {d = D} {e = F} q t) =
        two_work i (λ a v w. n_rel (env_by complete a v) (values a) o v w (row_at (values a) v) (row_at (values a) w)) (apply_rel G o) step
        (λ C a st v w z c e d. rw (env_at complete [] a₀ a st.hold v) (rel_gives G st.table st.env o e d))
        (λ a v w. made_rel row_fine (env_by complete a v) (values a) o v w (row_at (values a) v) (row_at (values a) w)) (rel T o) x y X D F q t refl refl refl

    get_step_law : (a l : List ℕ) (s : ℕ) → node_by sheet GET a l s n k ≡ on_yield a (yield_in (drop s l) 0) (λ v. settle_of a (n_get (env_by complete a v) (values a) (at (node_in a n) 2) (row_at (values a) v)))
    unfolding node_by over_of one_of one_out get_out
    get_step_law a l s = refl

    get_work : (x : Node ℕ) (X : Expr) → Reads K (get T x (at r 2)) X → Work (x ∷ []) GET (get T x (at r 2)) X
    get_work x X (xget {d = D} q) =
        one_work GET (λ a v. n_get (env_by complete a v) (values a) (at (node_in a n) 2) (row_at (values a) v)) (apply_get G (at r 2)) get_step_law
        (λ C a st v z e. rw (node_is a st.hold, env_at complete [] a₀ a st.hold v) (get_gives G st.table st.env (at r 2) e))
        (λ a v. made_get row_fine (env_by complete a v) (values a) (at (node_in a n) 2) (row_at (values a) v)) (λ y. get T y (at r 2)) x X D q refl refl refl

    has_step_law : (a l : List ℕ) (s : ℕ) → node_by sheet HAS a l s n k ≡ on_yield a (yield_in (drop s l) 0) (λ v. settle_of a (n_has (env_by complete a v) (values a) (at (node_in a n) 2) (row_at (values a) v)))
    unfolding node_by over_of one_of one_out has_out
    has_step_law a l s = refl

    has_work : (x : Node ℕ) (X : Expr) → Reads K (has T x (at r 2)) X → Work (x ∷ []) HAS (has T x (at r 2)) X
    has_work x X (xhas {d = D} q) =
        one_work HAS (λ a v. n_has (env_by complete a v) (values a) (at (node_in a n) 2) (row_at (values a) v)) (apply_has G (at r 2)) has_step_law
        (λ C a st v z e. rw (node_is a st.hold, env_at complete [] a₀ a st.hold v) (has_gives G st.table st.env (at r 2) e))
        (λ a v. made_has row_fine (env_by complete a v) (values a) (at (node_in a n) 2) (row_at (values a) v)) (λ y. has T y (at r 2)) x X D q refl refl refl

    path_step_law : (a l : List ℕ) (s : ℕ) → node_by sheet HASPATH a l s n k ≡ on_yield a (yield_in (drop s l) 0) (λ v. settle_of a (path_out (env_of a) (values a) (drop 3 (items (drop k (node_in a n)))) (at (drop k (node_in a n)) 2) v))
    unfolding node_by over_of one_of walk_out
    path_step_law a l s = refl

    -- the texts that are left
    rest_texts : drop 3 (items (drop k r)) ≡ drop (3 + k) (items r)
    rest_texts =
        let z : k + 4 ≡ 1 + (3 + k) = omega arith in
        drop-drop 3 1 (drop k r) ∙ drop-drop 4 k r ∙ ap (λ (j : ℕ). drop j r) z ∙ sym (drop-drop (3 + k) 1 r)

    first_text : at (drop k r) 2 ≡ at r (2 + k)
    first_text = let z : k + 3 ≡ suc (2 + k) = omega arith in get_or-drop k r 3 0 ∙ ap (λ (j : ℕ). get_or r j 0) z

    path_work : (x : Node ℕ) (X : Expr) → Reads K (haspath T x (at r (2 + k)) (drop (3 + k) (items r))) X → Work (x ∷ []) HASPATH (haspath T x (at r (2 + k)) (drop (3 + k) (items r))) X
    path_work x X (xpath {d = D} q) =
        one_work HASPATH (λ a v. path_out (env_of a) (values a) (drop 3 (items (drop k (node_in a n)))) (at (drop k (node_in a n)) 2) v) (apply_path G (drop (3 + k) (items r)) (at r (2 + k))) path_step_law
        (λ C a st v z e. rw (node_is a st.hold, rest_texts, first_text, env_is complete [] a₀ a st.hold) (path_gives G st.table st.env (drop (3 + k) (items r)) (at r (2 + k)) v z e))
        (λ a v. fine_path (env_of a) (values a) (drop 3 (items (drop k (node_in a n)))) (at (drop k (node_in a n)) 2) v) (λ y. haspath T y (at r (2 + k)) (drop (3 + k) (items r))) x X D q refl refl refl

    and_work : (x y : Node ℕ) (X : Expr) → Reads K (and T x y) X → Work (x ∷ y ∷ []) AND (and T x y) X
    unfolding node_by over_of logic_of
    and_work x y X (xand {d = D} {e = F} q t) = lazy_work AND false (λ d t. eval_and d t) (λ a l s. refl) (λ C a st y u d t h j. and_says sheet a₀ G C a st h j) (and T) x y X D F q t refl refl refl

    or_work : (x y : Node ℕ) (X : Expr) → Reads K (or T x y) X → Work (x ∷ y ∷ []) OR (or T x y) X
    unfolding node_by over_of logic_of
    or_work x y X (xor {d = D} {e = F} q t) = lazy_work OR true (λ d t. eval_or d t) (λ a l s. refl) (λ C a st y u d t h j. or_says sheet a₀ G C a st h j) (or T) x y X D F q t refl refl refl

    -- ---- all of them, in the table's order

    module _ (cs : List (Node ℕ)) where
      abbrev c : ℕ → Node ℕ
      c j = get_or cs j (err tbool)

      Works : ℕ → Node ℕ → Type 0
      Works i e = (X : Expr) → Reads K e X → Work cs i e X

      one_at_law : (i : ℕ) (f : Node ℕ → Node ℕ) → ((x : Node ℕ) (X : Expr) → Reads K (f x) X → Work (x ∷ []) i (f x) X) → eqb (length cs) 1 ≡ true → Works i (f (c 0))
      unfolding Works
      one_at_law i f h e = over1 (λ l. (X : Expr) → Reads K (f (get_or l 0 (err tbool))) X → Work l i (f (get_or l 0 (err tbool))) X) cs h e

      two_at_law : (i : ℕ) (f : Node ℕ → Node ℕ → Node ℕ) → ((x y : Node ℕ) (X : Expr) → Reads K (f x y) X → Work (x ∷ y ∷ []) i (f x y) X) → eqb (length cs) 2 ≡ true → Works i (f (c 0) (c 1))
      unfolding Works
      two_at_law i f h e = over2 (λ l. (X : Expr) → Reads K (f (get_or l 0 (err tbool)) (get_or l 1 (err tbool))) X → Work l i (f (get_or l 0 (err tbool)) (get_or l 1 (err tbool))) X) cs h e

      all_work : Each Works first_node (suits_for r (length cs)) (left_for r k T cs c)
      unfolding Works node_by over_of two_of two_out bin_out rel_out one_of one_out un_out
      all_work =
          each1 (λ e. no_true e) (each1 (λ e. no_true e)
          (each1 (λ e. over0 (λ l. (X : Expr) → Reads K (var T (var_of (at r 1))) X → Work l VAR (var T (var_of (at r 1))) X) cs var_work e)
          (each1 (two_at_law AND (and T) and_work)
          (each1 (two_at_law OR (or T) or_work)
          (each1 (two_at_law EQ (bin T beq) (bin_work EQ beq (λ a l s. refl)))
          (each1 (two_at_law LT (bin T blt) (bin_work LT blt (λ a l s. refl)))
          (each1 (two_at_law LE (bin T ble) (bin_work LE ble (λ a l s. refl)))
          (each1 (two_at_law ADD (bin T badd) (bin_work ADD badd (λ a l s. refl)))
          (each1 (two_at_law SUB (bin T bsub) (bin_work SUB bsub (λ a l s. refl)))
          (each1 (two_at_law MUL (bin T bmul) (bin_work MUL bmul (λ a l s. refl)))
          (each1 (two_at_law IN (rel T rin) (rel_work IN rin (λ a l s. refl)))
          (each1 (two_at_law GETTAG (rel T rgettag) (rel_work GETTAG rgettag (λ a l s. refl)))
          (each1 (two_at_law HASTAG (rel T rhastag) (rel_work HASTAG rhastag (λ a l s. refl)))
          (each1 (two_at_law CONTAINS (bin T bcontains) (bin_work CONTAINS bcontains (λ a l s. refl)))
          (each1 (two_at_law ALL (bin T ball) (bin_work ALL ball (λ a l s. refl)))
          (each1 (two_at_law ANY (bin T bany) (bin_work ANY bany (λ a l s. refl)))
          (each1 (λ e. over3 (λ l. (X : Expr) → Reads K (ite T (get_or l 0 (err tbool)) (get_or l 1 (err tbool)) (get_or l 2 (err tbool))) X → Work l IF (ite T (get_or l 0 (err tbool)) (get_or l 1 (err tbool)) (get_or l 2 (err tbool))) X) cs if_work e)
          (each1 (one_at_law IS (un T (uis (at r 2))) (un_work IS (λ q. uis (at q 2)) (λ a l s. refl)))
          (each1 (one_at_law LIKE (un T (ulike (pattern_of (drop 2 (items r))))) (un_work LIKE (λ q. ulike (pattern_of (drop 2 (items q)))) (λ a l s. refl)))
          (each1 (one_at_law GET (λ x. get T x (at r 2)) get_work)
          (each1 (one_at_law HAS (λ x. has T x (at r 2)) has_work)
          (each1 (one_at_law HASPATH (λ x. haspath T x (at r (2 + k)) (drop (3 + k) (items r))) path_work)
          (each1 (one_at_law NOT (un T unot) (un_work NOT (λ q. unot) (λ a l s. refl)))
          (each1 (one_at_law NEG (un T uneg) (un_work NEG (λ q. uneg) (λ a l s. refl)))
          (each1 (one_at_law EMPTY (un T uempty) (un_work EMPTY (λ q. uempty) (λ a l s. refl)))
          (each1 (λ e. set_work cs)
          (each1 (λ e. rec_work cs (eqb-true (length (drop 1 (items r))) (length cs + length cs) e)) each0)))))))))))))))))))))))))))

      pub left_work : suits r (length cs) ≡ true → (X : Expr) → Reads K (left_tree r k T cs) X → Work cs (tag r) (left_tree r k T cs) X
      unfolding Works
      left_work s = at_operation r k T cs {Q = Works} all_work s
