-- Demand 3 for the numbered run: classes and decision are those by content, and each residual, its numbers read among the sheet's
-- values and the made ones, yields what its policy yields.
use mathlib.Core.Path.{◌≡◌, refl, ◌∙◌, ap}
use mathlib.Core.List.{List, [], ◌∷◌}
use Prim.Native.Nat.{ℕ}
use Rattle.cedar.specs.Value.{Value}
use Rattle.cedar.specs.Types.{Schema}
use Rattle.cedar.specs.Residual.{Expr}
use Rattle.cedar.specs.Entities.{Env, PEnv, EnvFits, Agree}
use Rattle.cedar.specs.Evaluate.{eval}
use Rattle.cedar.specs.Interpret.{interpret}
use Rattle.cedar.specs.Response.{allow, deny, decision, cedar, Choices}
use Rattle.cedar.specs.Rows.{Row}
use Rattle.cedar.specs.Table.{At, now, later, Table}
use Rattle.cedar.specs.Numbered.{NEnv}
use Rattle.cedar.specs.Reads.{Reads, EnvRead}
pub use Rattle.cedar.specs.Reads.{ReadPolicies, done, also}
use Rattle.cedar.proofs.ReadsLaws.{keep_reads, reads_fun}
use Rattle.cedar.proofs.ReadsOps.{keep_env}
use Rattle.cedar.proofs.Refine.{refine, class_of_law}
use Rattle.cedar.proofs.Settled.{Policies, one_policy, no_policy, partial_answer, lines_settled, allow_final, deny_final, residual_yields}
use Rattle.cedar.specs.Runs.{Policy, complete_answer, NPolicy, NVerdict, Run, verdicts, n_run}

module _ (S : Schema) (M : NEnv) where
  module _ (P : PEnv) where
    -- residuals read as what is left by content
    pub data Residuals (D : List Value) : List NVerdict → List Policy → Type 0 where
      none : Residuals D [] []
      more : {l : NVerdict} {ls : List NVerdict} {p : Policy} {ps : List Policy} → Reads D l.root (interpret S P p.tree) → Residuals D ls ps → Residuals D (l ∷ ls) (p ∷ ps)

    pub record RunReads (C : List Value) (r : Run) (ps : List Policy) : Type 0 where
      pub contents : List Value
      pub table : Table r.rows contents
      pub keeps : (n : ℕ) (v : Value) → At C n v → At contents n v
      pub classes : verdicts r.lines ≡ partial_answer S P ps
      pub residuals : Residuals contents r.lines ps

    keep_policies : {C D : List Value} → ((n : ℕ) (v : Value) → At C n v → At D n v) → {ns : List NPolicy} {ps : List Policy} → ReadPolicies C ns ps → ReadPolicies D ns ps
    keep_policies k done = done
    keep_policies k (also h hs) = also (keep_reads k h) (keep_policies k hs)

    pub run_reads : {C : List Value} {R : List Row} (ns : List NPolicy) {ps : List Policy} → Table R C → EnvRead C M P → ReadPolicies C ns ps → RunReads C (n_run S M ns R) ps
    run_reads {C} [] t env done = record { contents = C; table = t; keeps = λ n v a. a; classes = refl; residuals = none }
    run_reads {C = C} {R = R} (n ∷ ns) t env (also {e = e} {a = a} {A = A} {ps = ps} h hs) =
        let k = refine S M P a t env h in
        let l = run_reads {C = k.contents} ns k.table (keep_env k.keeps env) (keep_policies k.keeps hs) in
        record {
          contents = l.contents;
          table = l.table;
          keeps = λ m v x. l.keeps m v (k.keeps m v x);
          classes = λ i. record { effect = e; class = class_of_law k i } ∷ l.classes i;
          residuals = more (keep_reads l.keeps k.reads) l.residuals;
        }

    -- at each place: whatever the residual reads as yields what the policy yields
    pub data Yielding (D : List Value) (C : Env) : List NVerdict → List Policy → Type 0 where
      none : Yielding D C [] []
      more : {l : NVerdict} {ls : List NVerdict} {p : Policy} {ps : List Policy} → ((E : Expr) → Reads D l.root E → eval S C E ≡ eval S C p.tree) → Yielding D C ls ps → Yielding D C (l ∷ ls) (p ∷ ps)

    yielding : {D : List Value} {ls : List NVerdict} {ps : List Policy} (C : Env) → EnvFits S C → Agree P C → Policies S ps → Residuals D ls ps → Yielding D C ls ps
    yielding C ft ag no_policy none = none
    yielding C ft ag (one_policy ty tys) (more h hs) = more (λ E k. ap (eval S C) (reads_fun k h) ∙ residual_yields S P C ft ag ty) (yielding C ft ag tys hs)

    yield_at : {D : List Value} {ls : List NVerdict} {ps : List Policy} {n : ℕ} {l : NVerdict} {p : Policy} (C : Env) → EnvFits S C → Agree P C → Policies S ps → Residuals D ls ps
        → At ls n l → At ps n p → (e : Expr) × Reads D l.root e × (eval S C e ≡ eval S C p.tree)
    yield_at {D = D} {ls = ls} {n = n} {l = l} {p = p} C ft ag no_policy _ _ x13 = elim x13 [ ]
    yield_at {p = p} C ft ag (one_policy ty tys) (more h hs) now now = (interpret S P p.tree, h, residual_yields S P C ft ag ty)
    yield_at C ft ag (one_policy ty tys) (more h hs) (later a) (later b) = yield_at C ft ag tys hs a b

    -- the theorem
    module _ {C₀ : List Value} {R : List Row} (t : Table R C₀) (env : EnvRead C₀ M P) {ns : List NPolicy} {ps : List Policy} (h : ReadPolicies C₀ ns ps) (ty : Policies S ps)
        (C : Env) (ft : EnvFits S C) (ag : Agree P C) where
      pub n_lines : Choices (verdicts (n_run S M ns R).lines) (complete_answer S C ps)
      n_lines = rw (run_reads ns t env h).classes (lines_settled S P C ft ag ty)

      pub n_allow : decision (verdicts (n_run S M ns R).lines) ≡ allow → cedar (complete_answer S C ps) ≡ allow
      n_allow e = allow_final S P C ft ag ty (rw (run_reads ns t env h).classes at e)

      pub n_deny : decision (verdicts (n_run S M ns R).lines) ≡ deny → cedar (complete_answer S C ps) ≡ deny
      n_deny e = deny_final S P C ft ag ty (rw (run_reads ns t env h).classes at e)

      pub n_residuals : Yielding (run_reads ns t env h).contents C (n_run S M ns R).lines ps
      n_residuals = yielding C ft ag ty (run_reads ns t env h).residuals

      -- at each place: the residual reads as a tree that yields what the policy yields
      pub n_yields : (E : List Value) × Table (n_run S M ns R).rows E × ((m : ℕ) (v : Value) → At C₀ m v → At E m v)
          × ((n : ℕ) (l : NVerdict) (p : Policy) → At (n_run S M ns R).lines n l → At ps n p → (e : Expr) × Reads E l.root e × (eval S C e ≡ eval S C p.tree))
      n_yields = let k = run_reads ns t env h in (k.contents, k.table, k.keeps, λ n l p a b. yield_at C ft ag ty k.residuals a b)
