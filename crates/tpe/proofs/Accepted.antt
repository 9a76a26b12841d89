-- THE RUN OVER WORDS IS THE NUMBERED RUN, for every accepted partial sheet that the words hold with its policies on term as those that run, if they have
-- room for what is made. Of the bytes of a sheet a run sees only those of its texts: these may stand in other bytes than those whose reading is run.
use mathlib.Core.Path.{◌≡◌, refl, sym, ◌∙◌, ap, ap₂, subst}
use mathlib.Core.Bool.{false, cond, ◌&&◌, not}
use mathlib.Core.Option.{Option, some}
use mathlib.Core.List.{List, [], ◌∷◌, ◌++◌, append-nil}
use Prim.Native.Nat.{ℕ, zero, suc, ◌+◌, ◌*◌, ◌≤◌, ◌<◌}
use native.Mathlib.Omega.{arith}
use borrow.Author.Tests.{ltb-true}
use lib.Dec.{ltb}
use lib.ListN.{length, get_or}
use Rattle.cedar.specs.Types.{Ty, tbool, Var, principal, action, resource, context}
use Rattle.cedar.specs.Residual.{err}
use Rattle.cedar.specs.Rows.{Row, rent, same_row}
use Rattle.cedar.specs.Numbered.{NEnv, mem_n, n_interpret}
use Rattle.cedar.specs.Runs.{Run, n_run}
use Rattle.cedar.proofs.TableLaws.{InN}
use Rattle.forms.specs.Tags.{POLICY_LINE}
use Rattle.sheet.specs.Forms.{partial, forms, form_of, slot_at, tag, at, key_of, VALUE, NODE, POLICY, LINK, ENTITY}
use Rattle.sheet.specs.State.{State, lines_of, count, depths_of, value_row}
use Rattle.sheet.specs.Typing.{nodes_under}
use Rattle.sheet.specs.Sheet.{read, any_slot, firsts, first_unlinked, reached_fit, first_unfit}
use Rattle.sheet.specs.Content.{types, rows_in, value_rows, schema, n_env, given, request_ty, entity_line, look_up, line_given, trees, numbered_policies, n_policies, link_of, with_link, on_term}
use Rattle.sheet.specs.Answer.{run}
use Rattle.sheet.proofs.reading.Lines.{Was, accepted_history, accepted_fit}
use Rattle.sheet.proofs.reading.Parsed.{tags_between}
use Rattle.sheet.proofs.reading.NodeRows.{row_read}
use Rattle.sheet.proofs.running.MadeCount.{policy_sizes}
use Rattle.sheet.proofs.content.PoliciesRead.{item_there, policy_tags}
use Rattle.sheet.proofs.content.Environment.{Facts, all_keys}
use Rattle.sheet.proofs.content.TypeNumbers.{Listed, TypesIn, bool_listed}
use Rattle.sheet.proofs.reading.Depths.{Reached, read_reached, reached_depths, Depths}
use Rattle.sheet.proofs.reading.Depths as D
use Rattle.sheet.proofs.reading.Under.{fit_child}
use Rattle.sheet.proofs.content.Linked.{link_fits}
use Rattle.sheet.proofs.running.NeverNine.{policy_sizes_law}
use Rattle.sheet.proofs.content.OnTerm.{Each, on_term_law}
use Rattle.table.specs.Layout.{base, rows_at, rows_of, lines_held, held, RUN, MADE, TOP, limits, limit, Sound}
use Rattle.table.proofs.Rows.{count_rows}
use Rattle.value.specs.Lines.{value_lines}
use Rattle.value.proofs.Interned.{Formeds}
use Rattle.strict.specs.Gives.{env_in}
use Rattle.strict.proofs.Links.{env_link}
use Rattle.tpe.specs.Run.{interp_of, ran_from, run_of}
use Rattle.tpe.specs.Fits.{Fits}
use Rattle.tpe.proofs.Reach.{reach_start}
use Rattle.tpe.proofs.Stands.{Hold, values, Room, tys, nodes}
use Rattle.tpe.proofs.Operations.{sch, env}
use Rattle.tpe.proofs.Paths.{Kinds}
use Rattle.tpe.proofs.Depth.{children_of, Proper, Deep, interp_is}
use Rattle.tpe.proofs.Nodes.{node_fact}
use Rattle.tpe.proofs.Policies.{RunIs, PolicyWorks, ran_is}
use Rattle.tpe.proofs.Readings.{Tabled, own_tabled, Linked, keeps_tabled, lists_types}
use Rattle.tpe.proofs.Singles.{single, single_words}
use Rattle.tpe.proofs.KindLines.{kind_found, rows_formed}

-- texts do not matter for the known parts
env_same : (sheet a : List ℕ) → n_env partial (held [] a []) ≡ n_env partial (held sheet a [])
unfolding env_in
env_same sheet a = env_link false a sheet []

-- nor depths for what was read
unlinked_lines : (l : List (List (List ℕ))) (d e : List (List ℕ)) (u v : List ℕ) (n : ℕ) (rs : List (List ℕ)) → first_unlinked (record { lines = l; depths = d; used = u }) n rs ≡ first_unlinked (record { lines = l; depths = e; used = v }) n rs
unfolding nodes_under
unlinked_lines l d e u v n [] = refl
unlinked_lines l d e u v n (r ∷ rs) = ap (cond (any_slot (nodes_under (record { lines = l; depths = d; used = u }) (at r 2)) && not (mem_n n (firsts (get_or l LINK [])))) n) (unlinked_lines l d e u v (suc n) rs)

unfit_lines : (l : List (List (List ℕ))) (d e : List (List ℕ)) (u v : List ℕ) (rs : List (List ℕ)) → first_unfit (record { lines = l; depths = d; used = u }) rs ≡ first_unfit (record { lines = l; depths = e; used = v }) rs
unfit_lines l d e u v [] = refl
unfit_lines l d e u v (r ∷ rs) = ap (λ (n : ℕ). cond (reached_fit (record { lines = l; depths = d; used = u }) r) (suc n) 0) (unfit_lines l d e u v rs)

facts_lines : (l : List (List (List ℕ))) (d e : List (List ℕ)) (u v : List ℕ) → Facts partial (record { lines = l; depths = d; used = u }) → Facts partial (record { lines = l; depths = e; used = v })
facts_lines l d e u v f = record {
  history = λ k pre r rest q. let w = f.history k pre r rest q in record { was = w.was; line = w.line; row = w.row; key = w.key; pass = w.pass; mine = w.mine; earlier = w.earlier };
  ends = record { full = f.ends.full; linked = sym (ap (λ (i : ℕ). ltb i (length (get_or l POLICY []))) (unlinked_lines l d e u v 0 (get_or l POLICY []))) ∙ f.ends.linked };
  keys = f.keys;
  fit = ap (λ (n : ℕ). ltb n (length (get_or l ENTITY []))) (sym (unfit_lines l d e u v (get_or l ENTITY []))) ∙ f.fit;
}

facts_same : (sheet a b : List ℕ) → Facts partial (held sheet a b) → Facts partial (held sheet a [])
unfolding held
facts_same sheet a b f = facts_lines (lines_held sheet a) _ _ _ _ f

module _ (sheet a₀ : List ℕ) (f : Facts partial (held sheet a₀ [])) where
  abbrev s : State
  s = held sheet a₀ []

  kinds : Kinds sheet a₀
  unfolding held lines_held
  kinds k e = kind_found partial s f.history k e

  node_count : count s NODE ≡ length (nodes sheet a₀)
  unfolding held lines_held
  node_count = refl

  -- under a link with the values p and q
  module _ (p q : ℕ) where
    keeps : (c : ℕ) → Linked s p q c → (R : List Row) → Tabled s R → Tabled s (n_interpret (sch partial sheet a₀) (env partial sheet a₀) (get_or (trees s p q) c (err tbool)) R).rows
    keeps c k R t = subst (λ (N : NEnv). Tabled s (n_interpret (schema s) N (get_or (trees s p q) c (err tbool)) R).rows) (sym (env_same sheet a₀)) (keeps_tabled s f p q c k R t)

    lists : Listed (types s) tbool → (c : ℕ) → Linked s p q c → (R : List Row) → Tabled s R → TypesIn (tys sheet a₀) (n_interpret (sch partial sheet a₀) (env partial sheet a₀) (get_or (trees s p q) c (err tbool)) R).tree
    lists b c k R t = subst (λ (N : NEnv). TypesIn (tys sheet a₀) (n_interpret (schema s) N (get_or (trees s p q) c (err tbool)) R).tree) (sym (env_same sheet a₀)) (lists_types s f p q b c k R t)

    -- ---- depths

    proper : (c : ℕ) → Linked s p q c → Proper sheet a₀ p q (trees s p q) (Linked s p q) c
    unfolding held lines_held
    proper c l = let k = node_fact partial s f.history p q c l.there in record { known = l; low = k.low; high = k.high; typed = k.typed; even = k.even; tree = k.tree }

    module _ (ds : List ℕ) (levels : D.Deep NODE (rows_of a₀ NODE) ds) where
      kid_falls : (c : ℕ) → Linked s p q c → (j : ℕ) → InN j (children_of (get_or (nodes sheet a₀) c [])) → Linked s p q j × (get_or ds j 0 < get_or ds c 0)
      unfolding held lines_held
      kid_falls c l j i =
          let r = (node_fact partial s f.history p q c l.there).kids j i in
          let (there, falls) = levels.falls c j r in
          (record { there = there; fits = fit_child partial s f.history p q c j l.there l.fits r }, falls)

      deep_of : (d c : ℕ) → Linked s p q c → get_or ds c 0 ≤ d → Deep sheet a₀ p q (trees s p q) (Linked s p q) d c
      deep_of zero c l e = let z = levels.least c (subst (λ (n : ℕ). c < n) node_count l.there) in absurd (omega (arith, z, e))
      deep_of (suc d) c l e = (proper c l, λ j i. let (k, b) = kid_falls c l j i in deep_of d j k (omega (arith, b, e)))

  module _ (ds : List ℕ) (levels : D.Deep NODE (rows_of a₀ NODE) ds) where
    -- ---- policies

    policy_node : (pre : List (List ℕ)) (r : List ℕ) → Was partial s POLICY pre r → at r 2 < count s NODE
    unfolding key_of slot_at form_of forms
    policy_node pre r w =
        let (lo, hi) = tags_between POLICY POLICY_LINE POLICY_LINE (tag r) (omega arith) policy_tags w.key in
        let t : tag r ≡ POLICY_LINE = omega (arith, lo, hi) in
        let rd = row_read partial r w.line POLICY_LINE w.row t (omega arith) (omega arith) (λ z. absurd (omega (arith, z))) in
        let same : lines_of w.was NODE ≡ lines_of s NODE = w.earlier NODE (omega arith) in
        let lt = ltb-true (at r 2) (count w.was NODE) (item_there partial s w.was POLICY r POLICY_LINE rd w.pass.refers 2 (ltb-true 2 3 refl)) in
        subst (λ z. at r 2 < length z) same lt

    abbrev Working : List ℕ → Type 0
    Working = PolicyWorks partial sheet a₀ (trees s) (Tabled s) 64 (omega arith) (λ p q. interp_of partial sheet p q 64)

    policy_works : (pre : List (List ℕ)) (r : List ℕ) (rest : List (List ℕ)) → lines_of s POLICY ≡ pre ++ (r ∷ rest) → Working (with_link r (link_of (lines_of s LINK) (length pre)))
    policy_works pre r rest e =
        let b = bool_listed partial s f.history pre r rest e in
        let p = get_or (link_of (lines_of s LINK) (length pre)) 0 0 in
        let q = get_or (link_of (lines_of s LINK) (length pre)) 1 0 in
        let l : Linked s p q (at r 2) = record { there = policy_node pre r (f.history POLICY pre r rest e); fits = link_fits partial s f.history f.ends pre r rest e } in
        (interp_is partial sheet a₀ kinds p q (trees s p q) (Linked s p q) (Tabled s) (keeps p q) (lists p q b) 64 (at r 2) (omega arith) (deep_of p q ds levels 64 (at r 2) l (levels.low (at r 2))), keeps p q (at r 2) l)

    all_work : Each Working (on_term s)
    all_work = on_term_law Working s policy_works

-- ---- at the start

none_made : (a : List ℕ) → get_or a MADE 0 ≡ 0 → value_lines a ≡ rows_of a VALUE
unfolding value_lines rows_of rows_at
none_made a e = ap (λ (n : ℕ). rows_at a (base VALUE) (get_or a VALUE 0) ++ rows_at a (base MADE) n) e ∙ append-nil (rows_at a (base VALUE) (get_or a VALUE 0))

-- depths do not matter for a run
module _ (l : List (List (List ℕ))) (d e : List (List ℕ)) (u v : List ℕ) where
  abbrev one : State
  one = record { lines = l; depths = d; used = u }

  abbrev two : State
  two = record { lines = l; depths = e; used = v }

  types_lines : types one ≡ types two
  unfolding types
  types_lines = refl

  request_lines : (ts : List Ty) (x : Var) → request_ty one ts x ≡ request_ty two ts x
  request_lines ts principal = refl
  request_lines ts action = refl
  request_lines ts resource = refl
  request_lines ts context = refl

  schema_lines : schema one ≡ schema two
  unfolding schema types
  schema_lines = λ i. record { shape = λ k. (schema one).shape k; bytes = λ t. (schema one).bytes t; request = λ x. request_lines (types one) x i }

  given_lines : (x : Var) → given one x ≡ given two x
  given_lines principal = refl
  given_lines action = refl
  given_lines resource = refl
  given_lines context = refl

  entity_lines : (q : Row) (rows : List (List ℕ)) → entity_line one q rows ≡ entity_line two q rows
  entity_lines q [] = refl
  entity_lines q (r ∷ rows) = ap (λ (o : Option (List ℕ)). cond (same_row (value_row (get_or (get_or l VALUE []) (at r 0) [])) q) (some r) o) (entity_lines q rows)

  line_lines : (o : Option (List ℕ)) → line_given partial one o ≡ line_given partial two o
  line_lines Option.none = refl
  line_lines (some r) = refl

  env_lines : n_env partial one ≡ n_env partial two
  unfolding n_env
  env_lines = λ i. record { request = λ x. given_lines x i; line = λ k t. (line_lines (look_up one k t) ∙ ap (line_given partial two) (entity_lines (rent k t) (get_or l ENTITY []))) i }

  term_lines : on_term one ≡ on_term two
  unfolding on_term
  term_lines = refl

  policies_lines : n_policies one ≡ n_policies two
  unfolding n_policies trees types on_term
  policies_lines = refl

  rows_lines : value_rows one ≡ value_rows two
  unfolding value_rows
  rows_lines = refl

  run_lines : run partial one ≡ run partial two
  unfolding run
  run_lines = λ i. n_run (schema_lines i) (env_lines i) (policies_lines i) (rows_lines i)

run_same : (sheet a b : List ℕ) → run partial (held sheet a []) ≡ run partial (held sheet a b)
unfolding held
run_same sheet a b = run_lines (lines_held sheet a) _ _ _ _

term_same : (sheet a b : List ℕ) → on_term (held sheet a []) ≡ on_term (held sheet a b)
unfolding held
term_same sheet a b = term_lines (lines_held sheet a) _ _ _ _

policies_same : (sheet a b : List ℕ) → n_policies (held sheet a []) ≡ n_policies (held sheet a b)
unfolding held
policies_same sheet a b = policies_lines (lines_held sheet a) _ _ _ _

module _ (sheet a b : List ℕ) (f : Facts partial (held sheet a b)) (d : Depths (held sheet a b)) (sound : Sound a) (none : get_or a MADE 0 ≡ 0) (runs : rows_of a RUN ≡ on_term (held sheet a b)) where
  own_runs : rows_of a RUN ≡ on_term (held sheet a [])
  own_runs = runs ∙ sym (term_same sheet a b)

  own_policies : n_policies (held sheet a []) ≡ numbered_policies (trees (held sheet a [])) (rows_of a RUN)
  unfolding n_policies
  own_policies = ap (numbered_policies (trees (held sheet a []))) (sym own_runs)

  as_run : n_run (schema (held sheet a [])) (n_env partial (held sheet a [])) (numbered_policies (trees (held sheet a [])) (rows_of a RUN)) (value_rows (held sheet a [])) ≡ run partial (held sheet a [])
  unfolding run
  as_run = ap (λ ps. n_run (schema (held sheet a [])) (n_env partial (held sheet a [])) ps (value_rows (held sheet a []))) (sym own_policies)

  abbrev f₀ : Facts partial (held sheet a [])
  f₀ = facts_same sheet a b f

  start_hold : Hold a a
  unfolding held lines_held
  start_hold = record { sound = sound; formed = subst Formeds (sym (none_made a none)) (rows_formed partial (held sheet a []) f₀.history); same = λ k lt. refl; single = single_words sheet a [] (single partial (held sheet a []) f₀.history) }

  start_rows : values a ≡ value_rows (held sheet a [])
  unfolding value_rows held lines_held
  start_rows = ap rows_in (none_made a none)

  levels : D.Deep NODE (rows_of a NODE) (depths_of (held sheet a b) NODE)
  unfolding held lines_held
  levels = d.deep NODE

  run_from : Room (policy_sizes (numbered_policies (trees (held sheet a [])) (rows_of a RUN))) a []
      → RunIs partial sheet a 64 [] (n_run (sch partial sheet a) (env partial sheet a) (numbered_policies (trees (held sheet a [])) (rows_of a RUN)) (values a)) (ran_from (λ p q. interp_of partial sheet p q 64) 0 (get_or a RUN 0) a [])
  run_from room =
      rw (← count_rows a RUN)
      (ran_is partial sheet a (trees (held sheet a [])) (Tabled (held sheet a [])) 64 (omega arith) (λ p q. interp_of partial sheet p q 64) (rows_of a RUN)
      (subst (Each (Working sheet a f₀ (depths_of (held sheet a b) NODE) levels)) (sym own_runs) (all_work sheet a f₀ (depths_of (held sheet a b) NODE) levels)) 0 refl a [] start_hold
      (subst (Tabled (held sheet a [])) (sym start_rows) (own_tabled (held sheet a []) f₀.history)) room)

  -- what is run is the sheet's run
  same_run : n_run (sch partial sheet a) (env partial sheet a) (numbered_policies (trees (held sheet a [])) (rows_of a RUN)) (values a) ≡ run partial (held sheet a b)
  same_run = ap₂ (λ (N : NEnv) (R : List Row). n_run (sch partial sheet a) N (numbered_policies (trees (held sheet a [])) (rows_of a RUN)) R) (env_same sheet a) start_rows ∙ as_run ∙ run_same sheet a b

  run_held : policy_sizes (n_policies (held sheet a b)) ≤ 1024 → get_or a TOP 0 + 12 + 3 * 1024 ≤ 16384 → RunIs partial sheet a 64 [] (run partial (held sheet a b)) (run_of partial sheet a [])
  unfolding run_of
  run_held few top =
      let z : policy_sizes (n_policies (held sheet a b)) ≡ policy_sizes (numbered_policies (trees (held sheet a [])) (rows_of a RUN)) = ap policy_sizes (sym (policies_same sheet a b) ∙ own_policies) in
      subst (λ (x : Run). RunIs partial sheet a 64 [] x (ran_from (λ p q. interp_of partial sheet p q 64) 0 (get_or a RUN 0) a [])) same_run
      (run_from (record { top = omega (arith, z, few, top, reach_start a); few = omega (arith, z, few, none); log = omega (arith, z, few) }))

-- the words hold the state that the reading of `text` leaves, an accepted sheet, their texts as parts of `sheet`; its policies on term are those that run, and
-- there is room for what a run makes
pub record Ready (text sheet a b : List ℕ) : Type 0 where
  pub accepted : (read partial text).number ≡ 0
  pub state : (read partial text).state ≡ held sheet a b
  pub sound : Sound a
  pub none : get_or a MADE 0 ≡ 0
  pub runs : rows_of a RUN ≡ on_term (held sheet a b)
  pub top : get_or a TOP 0 + 12 + 3 * 1024 ≤ 16384

-- THE THEOREM
pub run_is : (text sheet a b : List ℕ) → Ready text sheet a b → RunIs partial sheet a 64 [] (run partial (read partial text).state) (run_of partial sheet a [])
run_is text sheet a b y =
    let (hi, en) = accepted_history partial text y.accepted in
    let f : Facts partial (held sheet a b) = subst (Facts partial) y.state (record { history = hi; ends = en; keys = all_keys partial text y.accepted; fit = accepted_fit partial text y.accepted }) in
    let d : Depths (held sheet a b) = reached_depths (subst (Reached partial) y.state (read_reached partial text)) in
    let few : policy_sizes (n_policies (held sheet a b)) ≤ 1024 = subst (λ (s : State). policy_sizes (n_policies s) ≤ 1024) y.state (policy_sizes_law partial text y.accepted) in
    subst (λ (s : State). RunIs partial sheet a 64 [] (run partial s) (run_of partial sheet a [])) (sym y.state) (run_held sheet a b f d y.sound y.none y.runs few y.top)

-- there is room where the rows fit
pub ready : (sheet a b : List ℕ) → (read partial sheet).number ≡ 0 → (read partial sheet).state ≡ held sheet a b → Sound a → get_or a MADE 0 ≡ 0 → rows_of a RUN ≡ on_term (held sheet a b) → Fits a → Ready sheet sheet a b
unfolding limit limits
ready sheet a b e h sound none runs fits = record { accepted = e; state = h; sound = sound; none = none; runs = runs; top = omega (arith, fits) }

pub run_fits : (sheet a b : List ℕ) → (read partial sheet).number ≡ 0 → (read partial sheet).state ≡ held sheet a b → Sound a → get_or a MADE 0 ≡ 0 → rows_of a RUN ≡ on_term (held sheet a b) → Fits a
    → RunIs partial sheet a 64 [] (run partial (read partial sheet).state) (run_of partial sheet a [])
run_fits sheet a b e h sound none runs fits = run_is sheet sheet a b (ready sheet a b e h sound none runs fits)
