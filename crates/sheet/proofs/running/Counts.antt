-- "the eight counts sum to the policies on term", and when the decision is open.
use mathlib.Core.Path.{◌≡◌, refl, ◌∙◌, ap}
use mathlib.Core.List.{List, [], ◌∷◌}
use Prim.Native.Nat.{ℕ, suc}
use native.Mathlib.Omega.{arith}
use lib.ListN.{length}
use Rattle.cedar.specs.Residual.{Class, ctrue, cfalse, cerror, copen, Node}
use Rattle.cedar.specs.Response.{Effect, permit, forbid, Verdict, allow, deny, undecided, decision, cedar, is_permit, is_forbid, Choices}
use Rattle.cedar.proofs.Decisions.{fill_all, open_both, allow_settled, deny_settled}
use Rattle.cedar.specs.Types.{Schema}
use Rattle.cedar.specs.Entities.{Env}
use Rattle.cedar.specs.Numbered.{NEnv, n_interpret}
use Rattle.cedar.specs.Rows.{Row}
use Rattle.sheet.specs.Forms.{Mode, partial}
use Rattle.sheet.specs.State.{State, sum}
use Rattle.sheet.specs.Content.{numbered_policies, content_policies, n_policies, policies, schema, n_env, env, value_rows, trees, exprs, on_term}
use Rattle.cedar.specs.Value.{Value}
use Rattle.sheet.specs.Answer.{counts_of, run, results}
use Rattle.cedar.specs.Runs.{Policy, complete_answer, NPolicy, n_run, verdicts}

one_more : (e : Effect) (c : Class) (ls : List Verdict) → sum (counts_of ls) ≡ length ls → sum (counts_of (record { effect = e; class = c } ∷ ls)) ≡ suc (length ls)
one_more permit ctrue ls h = omega (arith, h)
one_more permit cfalse ls h = omega (arith, h)
one_more permit cerror ls h = omega (arith, h)
one_more permit copen ls h = omega (arith, h)
one_more forbid ctrue ls h = omega (arith, h)
one_more forbid cfalse ls h = omega (arith, h)
one_more forbid cerror ls h = omega (arith, h)
one_more forbid copen ls h = omega (arith, h)

pub counts_sum : (ls : List Verdict) → sum (counts_of ls) ≡ length ls
counts_sum [] = refl
counts_sum (l ∷ ls) = one_more l.effect l.class ls (counts_sum ls)

-- one line for each policy on term

as_many : (S : Schema) (M : NEnv) (ps : List NPolicy) (R : List Row) → length (verdicts (n_run S M ps R).lines) ≡ length ps
as_many S M [] R = refl
as_many S M (p ∷ ps) R = ap suc (as_many S M ps (n_interpret S M p.tree R).rows)

numbered_length : (ns : ℕ → ℕ → List (Node ℕ)) (rs : List (List ℕ)) → length (numbered_policies ns rs) ≡ length rs
numbered_length ns [] = refl
numbered_length ns (r ∷ rs) = ap suc (numbered_length ns rs)

complete_length : (S : Schema) (C : Env) (ps : List Policy) → length (complete_answer S C ps) ≡ length ps
complete_length S C [] = refl
complete_length S C (p ∷ ps) = ap suc (complete_length S C ps)

pub content_length : (ns : ℕ → ℕ → List (Node Value)) (rs : List (List ℕ)) → length (content_policies ns rs) ≡ length rs
content_length ns [] = refl
content_length ns (r ∷ rs) = ap suc (content_length ns rs)

-- for every sheet, partial or complete
pub partial_counts : (m : Mode) (s : State) → sum (counts_of (verdicts (run m s).lines)) ≡ length (on_term s)
unfolding run n_policies
partial_counts m s = counts_sum (verdicts (run m s).lines) ∙ as_many (schema s) (n_env m s) (n_policies s) (value_rows s) ∙ numbered_length (trees s) (on_term s)

pub complete_counts : (s : State) → sum (counts_of (results s)) ≡ length (on_term s)
unfolding results policies
complete_counts s = counts_sum (results s) ∙ complete_length (schema s) (env s) (policies s) ∙ content_length (exprs s) (on_term s)

-- ---- "Open" is given where some choice yields allow and another deny, and nowhere else

pub open_both_ways : (s : State) → decision (verdicts (run partial s).lines) ≡ undecided
    → (cedar (fill_all is_permit (verdicts (run partial s).lines)) ≡ allow) × (cedar (fill_all is_forbid (verdicts (run partial s).lines)) ≡ deny)
open_both_ways s e = open_both (verdicts (run partial s).lines) e

pub not_open : (s : State) {ms : List Verdict} → Choices (verdicts (run partial s).lines) ms → (decision (verdicts (run partial s).lines) ≡ allow → cedar ms ≡ allow) × (decision (verdicts (run partial s).lines) ≡ deny → cedar ms ≡ deny)
not_open s h = (allow_settled h, deny_settled h)
