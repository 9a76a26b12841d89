-- AFTER A RUN OVER AN ACCEPTED SHEET, what is noted of the policies is what the sheet's run says of them.
use mathlib.Core.Path.{◌≡◌, refl, sym, ap, ◌∙◌, subst}
use mathlib.Core.List.{List, [], ◌∷◌}
use Prim.Native.Nat.{ℕ, zero, suc, ◌≤◌}
use native.Mathlib.Nat.{le_refl}
use native.Mathlib.Omega.{arith}
use borrow.Author.Tests.{le-leb}
use lib.ListN.{length, get_or, take, drop}
use lib.Seq.{length-take-le, take-take}
use Rattle.words.specs.Log.{Holds}
use Rattle.cedar.specs.Value.{Value}
use Rattle.cedar.specs.Types.{Schema}
use Rattle.cedar.specs.Residual.{Class, copen}
use Rattle.cedar.specs.Entities.{PEnv}
use Rattle.cedar.specs.Response.{Verdict}
use Rattle.cedar.specs.Rows.{Row}
use Rattle.cedar.specs.Table.{Table}
use Rattle.cedar.specs.Numbered.{NEnv, out}
use Rattle.cedar.specs.Runs.{Policy, NVerdict, Run, verdicts}
use Rattle.cedar.proofs.Refine.{class_of_law}
use Rattle.cedar.proofs.Settled.{partial_answer}
use Rattle.cedar.proofs.SettledByNumber as R
use Rattle.cedar.proofs.SettledByNumber.{Residuals, run_reads}
use Rattle.sheet.specs.Forms.{partial}
use Rattle.sheet.specs.State.{State}
use Rattle.sheet.specs.Sheet.{read}
use Rattle.sheet.specs.Content.{schema, n_env, p_env, n_policies}
use Rattle.sheet.specs.Answer.{run}
use Rattle.sheet.proofs.reading.Lines.{accepted_history, accepted_fit}
use Rattle.sheet.proofs.content.Environment.{Facts, env_read, all_keys}
use Rattle.sheet.proofs.content.ValueRows.{values_table}
use Rattle.sheet.proofs.content.OwnPolicies.{read_own}
use Rattle.sheet.proofs.running.NeverNine.{policy_sizes_law, residual_sizes_law}
use Rattle.table.specs.Layout.{RUN, limits, limit}
use Rattle.table.proofs.Rows.{count_rows}
use Rattle.residual.specs.Trees.{flats}
use Rattle.residual.specs.Classes.{roots_of}
use Rattle.tpe.specs.Run.{Rec, Ran, ran_from, run_of}
use Rattle.tpe.proofs.Stands.{tys, nodes}
use Rattle.tpe.proofs.Policies.{lines_for, RunIs}
use Rattle.tpe.proofs.Accepted.{Ready, run_is}
use Rattle.interpret.specs.Lines.{CLASSES, ROOTS, lines_from, lines_of, classes_of}
use Rattle.interpret.proofs.Back.{Noted, noted, classes_noted, roots_noted}
use Rattle.interpret.proofs.Rooted.{end_of, end_low, end_all, Stays, classes_long, roots_long, counted, all_long, root_there, class_there, start_at_law}

-- ---- a class stays as values are made

first_class : List Verdict → Class
first_class [] = copen
first_class (v ∷ vs) = v.class

others : List Verdict → List Verdict
others [] = []
others (v ∷ vs) = vs

module _ (S : Schema) (M : NEnv) (P : PEnv) {D : List Value} {rows : List Row} (t : Table rows D) where
  stay : {ls : List NVerdict} {ps : List Policy} → Residuals S M P D ls ps → verdicts ls ≡ partial_answer S P ps → Stays rows ls
  unfolding first_class others
  stay R.none e = tt
  stay (R.more {l = l} {p = p} r rs) e =
      (class_of_law {o = out rows l.root} (record { contents = D; table = t; keeps = λ n v x. x; reads = r }) ∙ sym (ap first_class e), stay rs (ap others e))

run_stays : (s : State) → Facts partial s → Stays (run partial s).rows (run partial s).lines
unfolding run
run_stays s f =
    let r = run_reads (schema s) (n_env partial s) (p_env s) (n_policies s) (values_table partial s f.history) (env_read s f) (read_own partial s f.history f.ends) in
    stay (schema s) (n_env partial s) (p_env s) r.table r.residuals r.classes

-- ---- as many lines as policies

ran_long : (f : ℕ → ℕ → Rec) (i k : ℕ) (a l : List ℕ) → length (ran_from f i k a l).lines ≡ k
unfolding ran_from
ran_long f i zero a l = refl
ran_long f i (suc k) a l = ap suc (ran_long f (suc i) k _ _)

lines_long : (vs : List NVerdict) (n : ℕ) → length (lines_for n vs) ≡ length vs
lines_long [] n = refl
lines_long (v ∷ vs) n = ap suc (lines_long vs _)

-- ---- THE THEOREM

-- from b to b' the lines vs were noted, past the log
pub record Lined (vs : List NVerdict) (b b' : List ℕ) : Type 0 where
  pub log : take CLASSES b' ≡ take CLASSES b
  pub long : length b' ≡ length b
  pub classes : take (length vs) (drop CLASSES b') ≡ classes_of vs
  pub roots : take (length vs) (drop ROOTS b') ≡ roots_of 0 vs

module _ (text sheet a b : List ℕ) (y : Ready text sheet a b) where
  abbrev x : Run
  x = run partial (read partial text).state

  abbrev r : Ran
  r = run_of partial sheet a []

  pub ran : RunIs partial sheet a 64 [] x r
  ran = run_is text sheet a b y

  stays : Stays x.rows x.lines
  stays = let (h, g) = accepted_history partial text y.accepted in run_stays (read partial text).state (record { history = h; ends = g; keys = all_keys partial text y.accepted; fit = accepted_fit partial text y.accepted })

  -- a line for each policy that runs
  pub policies : length x.lines ≡ get_or a RUN 0
  unfolding run_of
  policies = sym (lines_long x.lines 0) ∙ ap length (sym ran.lines) ∙ ran_long _ 0 (get_or a RUN 0) a []

  same_count : get_or r.words RUN 0 ≡ get_or a RUN 0
  same_count = sym (count_rows r.words RUN) ∙ ap length (ran.hold.same RUN (omega arith)) ∙ count_rows a RUN

  pub few : length x.lines ≤ 64
  unfolding limit limits
  few = let n = y.sound.few RUN (omega arith) in omega (arith, n, policies)

  -- at most 1,024 rows of four words
  pub log_short : length r.log ≤ 4096
  log_short =
      let e = ap length ran.log ∙ all_long (tys sheet a) (nodes sheet a) ran.ress x.lines ran.wholes ran.trees in
      omega (arith, e, policy_sizes_law partial text y.accepted, residual_sizes_law partial text y.accepted)

  module _ (b₁ : List ℕ) (e : ℕ) (h : Holds 0 b₁ e r.log) (len : 16384 ≤ length b₁) where
    abbrev n : ℕ
    n = length x.lines

    log_is : take e b₁ ≡ flats ran.ress
    log_is = h.is ∙ ran.log

    end_is : length (flats ran.ress) ≡ e
    end_is = ap length (sym log_is) ∙ length-take-le e b₁ (omega (arith, h.low, len))

    all_noted : Noted (end_of ran.ress) (λ i. get_or (classes_of x.lines) i 0) n b₁ (lines_from r.words n (end_of ran.ress n) b₁)
    all_noted =
        noted r.words (flats ran.ress) (end_of ran.ress) (λ i. get_or (classes_of x.lines) i 0) e n few (omega (arith, end_is, ap length ran.log, log_short))
        (λ i k. let z = end_low ran.ress i in omega (arith, z, end_is))
        (start_at_law (tys sheet a) (nodes sheet a) ran.ress x.lines ran.wholes ran.trees)
        (class_there (tys sheet a) (nodes sheet a) ran.ress x.lines ran.wholes ran.trees r.words (subst (λ (q : List Row). Stays q x.lines) (sym ran.rows) stays))
        n (le_refl n) b₁ log_is (omega (arith, len))

    written : lines_of r.words b₁ e ≡ lines_from r.words n (end_of ran.ress n) b₁
    unfolding lines_of
    written =
        let c : get_or r.words RUN 0 ≡ n = same_count ∙ sym policies in
        let q : end_of ran.ress n ≡ e = ap (end_of ran.ress) (sym (counted (tys sheet a) (nodes sheet a) ran.ress x.lines ran.trees)) ∙ end_all ran.ress ∙ end_is in
        rw (c, le-leb n 64 few, le-leb e 16384 h.low, q)

    pub lined : Lined x.lines b₁ (lines_of r.words b₁ e)
    lined = rw written (record {
      log = all_noted.log;
      long = all_noted.long;
      classes = classes_noted (end_of ran.ress) (λ i. get_or (classes_of x.lines) i 0) n b₁ _ few (omega (arith, len)) all_noted (classes_of x.lines) (classes_long x.lines) (λ i k. refl);
      roots =
          roots_noted (end_of ran.ress) (λ i. get_or (classes_of x.lines) i 0) n b₁ _ few (omega (arith, len)) all_noted (roots_of 0 x.lines) (roots_long 0 x.lines)
          (root_there (tys sheet a) (nodes sheet a) ran.ress x.lines ran.wholes ran.trees);
    })

    -- the log is as the run left it
    pub log_stays : take e (lines_of r.words b₁ e) ≡ r.log
    log_stays =
        let low : e ≤ CLASSES = omega (arith, end_is, ap length ran.log, log_short) in
        sym (take-take e CLASSES (lines_of r.words b₁ e) low) ∙ ap (take e) lined.log ∙ take-take e CLASSES b₁ low ∙ h.is
