-- For every accepted complete sheet, the run over the words that hold it leaves the class that the Cedar specification gives each policy on term, under its link.
use mathlib.Core.Path.{◌≡◌, refl, sym, ◌∙◌, ap, ap₂, subst}
use mathlib.Core.Bool.{true}
use mathlib.Core.List.{List, [], ◌∷◌, ◌++◌, append_assoc, append-nil}
use Prim.Native.Nat.{ℕ, ◌+◌, ◌*◌, ◌≤◌}
use native.Mathlib.Omega.{arith}
use lib.ListN.{length, get_or}
use Rattle.cedar.specs.Types.{Ty, Schema, Var, principal, action, resource, context}
use Rattle.cedar.specs.Entities.{whole}
use Rattle.cedar.specs.Rows.{Row}
use Rattle.cedar.specs.Reads.{ReadPolicies, EnvRead}
use Rattle.cedar.specs.Runs.{NPolicy, complete_answer}
use Rattle.cedar.specs.Table.{Table}
use Rattle.cedar.specs.Numbered.{NEnv}
use Rattle.sheet.specs.Forms.{complete, VALUE, NODE}
use Rattle.sheet.specs.State.{State, lines_of}
use Rattle.sheet.specs.Content.{types, rows_in, value_rows, contents, schema, request_ty, n_env, env, n_policies, policies, on_term}
use Rattle.sheet.specs.Sheet.{read}
use Rattle.sheet.specs.Answer.{results}
use Rattle.sheet.proofs.reading.Lines.{accepted_history, accepted_fit}
use Rattle.sheet.proofs.content.ValueRows.{values_table, value_back}
use Rattle.sheet.proofs.content.OwnPolicies.{read_own}
use Rattle.sheet.proofs.content.Environment.{Facts, all_keys}
use Rattle.sheet.proofs.running.CompleteRun.{whole_read}
use Rattle.sheet.proofs.running.MadeCount.{policy_sizes}
use Rattle.sheet.proofs.running.NeverNine.{policy_sizes_law}
use Rattle.sheet.proofs.reading.Depths.{Depths, Reached, read_reached, reached_depths}
use Rattle.table.specs.Layout.{rows_of, rows_at, base, held, lines_held, RUN, MADE, limit, limits, Sound}
use Rattle.table.proofs.Rows.{count_rows}
use Rattle.value.specs.Lines.{value_lines}
use Rattle.value.proofs.Interned.{Formeds, none_formed, one_formed}
use Rattle.strict.specs.Gives.{env_in}
use Rattle.strict.proofs.Links.{env_link}
use Rattle.tpe.specs.Fits.{Fits}
use Rattle.tpe.proofs.Reach.{reach_start}
use Rattle.tpe.proofs.Singles.{single, single_words}
use Rattle.tpe.proofs.Stands.{Hold, Room}
use Rattle.evaluator.specs.Run.{values, class_numbers, run_of, ran_from}
use Rattle.evaluator.proofs.Ways.{under}
use Rattle.evaluator.proofs.Gives.{Stand}
use Rattle.evaluator.proofs.Evaluates.{policies_at, Runs, run_is}
use Rattle.evaluator.proofs.Depth.{policies_whole}

-- ---- texts and depths do not matter to the request and the entities, nor depths to the schema

module _ (sheet a b : List ℕ) where
  env_same : n_env complete (held sheet a b) ≡ n_env complete (held [] a [])
  unfolding env_in
  env_same = sym (env_link true a sheet b)

  types_same : types (held sheet a b) ≡ types (held sheet a [])
  unfolding types held
  types_same = refl

  request_same : (ts : List Ty) (x : Var) → request_ty (held sheet a []) ts x ≡ request_ty (held sheet a b) ts x
  unfolding held
  request_same ts principal = refl
  request_same ts action = refl
  request_same ts resource = refl
  request_same ts context = refl

  pub schema_same : schema (held sheet a []) ≡ schema (held sheet a b)
  unfolding schema types held
  schema_same = λ i. record { shape = λ k. (schema (held sheet a [])).shape k; bytes = λ t. (schema (held sheet a [])).bytes t; request = λ x. request_same (types (held sheet a [])) x i }

  nodes_held : lines_of (held sheet a b) NODE ≡ rows_of a NODE
  unfolding held lines_held
  nodes_held = refl

  values_held : lines_of (held sheet a b) VALUE ≡ rows_of a VALUE
  unfolding held lines_held
  values_held = refl

  -- ---- the words hold an accepted complete sheet, and no value is made

  module _ (f : Facts complete (held sheet a b)) (d : Depths (held sheet a b)) (sound : Sound a) (none : get_or a MADE 0 ≡ 0) (runs : rows_of a RUN ≡ on_term (held sheet a b)) where
    formeds_from : (pre rest : List (List ℕ)) → lines_of (held sheet a b) VALUE ≡ pre ++ rest → Formeds rest
    formeds_from pre [] e = none_formed
    formeds_from pre (r ∷ rest) e = let w = f.history VALUE pre r rest e in one_formed (value_back complete w.line r w.row w.key) (formeds_from (pre ++ (r ∷ [])) rest (e ∙ sym (append_assoc pre (r ∷ []) rest)))

    lines_only : value_lines a ≡ lines_of (held sheet a b) VALUE
    unfolding value_lines rows_of rows_at
    lines_only = ap (λ (n : ℕ). rows_of a VALUE ++ rows_at a (base MADE) n) none ∙ append-nil (rows_of a VALUE) ∙ sym values_held

    start_rows : values a ≡ value_rows (held sheet a b)
    unfolding value_rows
    start_rows = ap rows_in lines_only

    start : Stand sheet a (env (held sheet a b)) (contents (held sheet a b)) a
    start = record {
      hold = record { sound = sound; formed = subst Formeds (sym lines_only) (formeds_from [] (lines_of (held sheet a b) VALUE) refl); same = λ k lt. refl; single = single_words sheet a b (single complete (held sheet a b) f.history) };
      table = subst (λ (R : List Row). Table R (contents (held sheet a b))) (sym start_rows) (values_table complete (held sheet a b) f.history);
      env = subst (λ (M : NEnv). EnvRead (contents (held sheet a b)) M (whole (env (held sheet a b)))) env_same (whole_read (held sheet a b) f);
    }

    -- the trees of the policies that run, whole
    all_policies : policies_at (types (held sheet a [])) (rows_of a NODE) (rows_of a RUN) ≡ n_policies (held sheet a b)
    all_policies =
        ap₂ (λ (ts : List Ty) (rs : List (List ℕ)). policies_at ts (rows_of a NODE) rs) (sym types_same) runs
        ∙ ap (λ (ns : List (List ℕ)). policies_at (types (held sheet a b)) ns (on_term (held sheet a b))) (sym nodes_held)
        ∙ policies_whole complete (held sheet a b) f.history (d.deep NODE)

    run_held : Room (policy_sizes (n_policies (held sheet a b))) a [] → length (rows_of a RUN) + 6 * policy_sizes (n_policies (held sheet a b)) ≤ 16384
        → Runs sheet a (env (held sheet a b)) [] (class_numbers (results (held sheet a b))) (run_of sheet a)
    unfolding run_of results
    run_held room fits =
        let t = run_is sheet a (env (held sheet a b)) (rows_of a RUN) 0 a [] (contents (held sheet a b)) refl start
        (subst (λ (ps : List NPolicy). Room (policy_sizes ps) a []) (sym all_policies) room)
        (omega (arith, fits, ap policy_sizes all_policies))
        (subst (λ (ps : List NPolicy). ReadPolicies (contents (held sheet a b)) ps (policies (held sheet a b))) (sym all_policies) (read_own complete (held sheet a b) f.history f.ends)) in
        subst (λ (k : ℕ). Runs sheet a (env (held sheet a b)) [] (class_numbers (results (held sheet a b))) (ran_from (under sheet) k 0 a [])) (count_rows a RUN)
        (subst (λ (S : Schema). Runs sheet a (env (held sheet a b)) [] (class_numbers (complete_answer S (env (held sheet a b)) (policies (held sheet a b)))) (ran_from (under sheet) (length (rows_of a RUN)) 0 a [])) schema_same t)

    pub run_few : policy_sizes (n_policies (held sheet a b)) ≤ 1024 → Fits a → Runs sheet a (env (held sheet a b)) [] (class_numbers (results (held sheet a b))) (run_of sheet a)
    unfolding limit limits
    run_few few fits =
        let p = sound.few RUN (omega arith) in
        let q = count_rows a RUN in
        run_held (record { top = omega (arith, few, fits, reach_start a); few = omega (arith, few, none); log = omega (arith, few) }) (omega (arith, few, p, q))

-- of an accepted complete sheet that the words hold, as reading leaves it
module _ (sheet a b : List ℕ) (e : (read complete sheet).number ≡ 0) (h : (read complete sheet).state ≡ held sheet a b) (sound : Sound a) (none : get_or a MADE 0 ≡ 0)
    (runs : rows_of a RUN ≡ on_term (held sheet a b)) (fits : Fits a) where
  held_facts : Facts complete (held sheet a b)
  held_facts =
      let (hi, fu) = accepted_history complete sheet e in
      subst (Facts complete) h (record { history = hi; ends = fu; keys = all_keys complete sheet e; fit = accepted_fit complete sheet e })

  held_depths : Depths (held sheet a b)
  held_depths = reached_depths (subst (Reached complete) h (read_reached complete sheet))

  -- before a run its words hold the values and the request
  pub complete_stand : Stand sheet a (env (read complete sheet).state) (contents (read complete sheet).state) a
  complete_stand = subst (λ (s : State). Stand sheet a (env s) (contents s) a) (sym h) (start sheet a b held_facts held_depths sound none runs)

  the_run : Runs sheet a (env (held sheet a b)) [] (class_numbers (results (held sheet a b))) (run_of sheet a)
  the_run =
      let c : policy_sizes (n_policies (held sheet a b)) ≤ 1024 = subst (λ (s : State). policy_sizes (n_policies s) ≤ 1024) h (policy_sizes_law complete sheet e) in
      run_few sheet a b held_facts held_depths sound none runs c fits

  -- THE THEOREM: the run's log is the list of the numbers of the classes that the Cedar specification gives the policies on term, each under its link
  pub complete_run : (run_of sheet a).log ≡ class_numbers (results (read complete sheet).state)
  complete_run = subst (λ (s : State). (run_of sheet a).log ≡ class_numbers (results s)) (sym h) the_run.log

  -- and its words hold the rows of the sheet and of the policies that run as before
  pub complete_hold : Hold a (run_of sheet a).words
  complete_hold = the_run.hold
