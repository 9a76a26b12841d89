-- Demand 3 between two numbered runs: one over a partial sheet's known parts, one over a complete sheet's, each with its own rows.
use mathlib.Core.Path.{◌≡◌, refl, ◌∙◌, ap}
use mathlib.Core.List.{List, ◌∷◌}
use Rattle.cedar.specs.Value.{Value}
use Rattle.cedar.specs.Types.{Schema}
use Rattle.cedar.specs.Entities.{Env, PEnv, EnvFits, Agree}
pub use Rattle.cedar.specs.Entities.{whole}
use Rattle.cedar.specs.Response.{allow, deny, decision, cedar, Choices}
use Rattle.cedar.specs.Rows.{Row}
use Rattle.cedar.specs.Table.{Table}
use Rattle.cedar.specs.Numbered.{NEnv}
use Rattle.cedar.proofs.ReadsOps.{EnvRead}
use Rattle.cedar.proofs.Settled.{Policies, no_policy, one_policy, partial_answer}
use Rattle.cedar.proofs.SettledByNumber.{ReadPolicies, run_reads, n_lines, n_allow, n_deny}
use Rattle.cedar.proofs.Total.{Total, complete_run}
use Rattle.cedar.specs.Runs.{Policy, complete_answer, NPolicy, n_run, verdicts}

pub whole_total : (C : Env) → Total (whole C) C
whole_total C = record { request = λ x. refl; attrs = λ k t. refl; tags = λ k t. refl; ancestors = λ k t. refl }

module _ (S : Schema) (C : Env) (ft : EnvFits S C) where
  pub whole_answer : {ps : List Policy} → Policies S ps → partial_answer S (whole C) ps ≡ complete_answer S C ps
  whole_answer no_policy = refl
  whole_answer (one_policy {p = p} h hs) = λ i. record { effect = p.effect; class = complete_run S (whole C) C ft (whole_total C) h i } ∷ whole_answer hs i

  -- the complete run, over its own rows and numbers, gives what the Cedar specification gives
  pub complete_classes : (M : NEnv) {D : List Value} {R : List Row} → Table R D → EnvRead D M (whole C) → {ns : List NPolicy} {ps : List Policy} → ReadPolicies D ns ps → Policies S ps
      → verdicts (n_run S M ns R).lines ≡ complete_answer S C ps
  complete_classes M t env {ns} h ty = (run_reads S M (whole C) ns t env h).classes ∙ whole_answer ty

  -- the partial run on rows R over P, the complete run on rows R' over the whole of C: same policies, agreeing parts
  module _ (P : PEnv) (ag : Agree P C) {ps : List Policy} (ty : Policies S ps)
      (M : NEnv) {D : List Value} {R : List Row} (t : Table R D) (env : EnvRead D M P) {ns : List NPolicy} (h : ReadPolicies D ns ps)
      (M' : NEnv) {D' : List Value} {R' : List Row} (t' : Table R' D') (env' : EnvRead D' M' (whole C)) {ns' : List NPolicy} (h' : ReadPolicies D' ns' ps) where
    pub both_lines : Choices (verdicts (n_run S M ns R).lines) (verdicts (n_run S M' ns' R').lines)
    both_lines = rw (complete_classes M' t' env' h' ty) (n_lines S M P t env h ty C ft ag)

    pub both_allow : decision (verdicts (n_run S M ns R).lines) ≡ allow → cedar (verdicts (n_run S M' ns' R').lines) ≡ allow
    both_allow e = ap cedar (complete_classes M' t' env' h' ty) ∙ n_allow S M P t env h ty C ft ag e

    pub both_deny : decision (verdicts (n_run S M ns R).lines) ≡ deny → cedar (verdicts (n_run S M' ns' R').lines) ≡ deny
    both_deny e = ap cedar (complete_classes M' t' env' h' ty) ∙ n_deny S M P t env h ty C ft ag e
