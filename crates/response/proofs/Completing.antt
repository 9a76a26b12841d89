-- The complete answer: what is printed of the run over words is what the definition says. Assumes nothing.
use mathlib.Core.Path.{◌≡◌, refl, sym, ◌∙◌, ap, ap₂, subst}
use mathlib.Core.List.{List, [], ◌∷◌, ◌++◌}
use Prim.Native.Nat.{ℕ, ◌-◌}
use native.Mathlib.Omega.{arith}
use lib.ListN.{take}
use Rattle.words.specs.Log.{part}
use Rattle.cedar.specs.Residual.{Class, Expr}
use Rattle.cedar.specs.Response.{Verdict}
use Rattle.cedar.specs.Types.{Schema}
use Rattle.cedar.specs.Entities.{Env}
use Rattle.cedar.specs.Runs.{complete_answer}
use Rattle.sheet.specs.Forms.{at, complete}
use Rattle.sheet.specs.State.{State}
use Rattle.sheet.specs.Content.{effect_of, schema, env, content_policies, exprs, on_term, policies}
use Rattle.sheet.specs.Sheet.{firsts, read}
use Rattle.sheet.specs.Answer.{concat, head_lines, complete_lines, complete_of, results, answer}
use Rattle.sheet.specs.Why.{why}
use Rattle.table.specs.Layout.{RUN, rows_of, held}
use Rattle.evaluator.specs.Run.{class_numbers, run_of}
use Rattle.evaluator.specs.Gave.{Done}
use Rattle.evaluator.proofs.Complete.{complete_run, complete_hold}
use Rattle.response.specs.Verdicts.{verdicts_of, verdicts_in}
use Rattle.response.specs.Naming.{ids_in, why_in}
use Rattle.response.specs.Printed.{policy_lines, complete_bytes}
use Rattle.response.specs.Runs.{Holding, Sends, Runs}
use Rattle.response.proofs.Counting.{class_back}
use Rattle.response.proofs.Printing.{complete_held}

-- ---- classes by their numbers

verdicts_back : (S : Schema) (G : Env) (ns : ℕ → ℕ → List Expr) (rs : List (List ℕ)) → verdicts_of rs (class_numbers (complete_answer S G (content_policies ns rs))) ≡ complete_answer S G (content_policies ns rs)
verdicts_back S G ns [] = refl
verdicts_back S G ns (r ∷ rs) =
    ap₂ (λ (c : Class) (vs : List Verdict). record { effect = effect_of (at r 1); class = c } ∷ vs) (class_back _) (verdicts_back S G ns rs)

results_back : (s : State) → verdicts_of (on_term s) (class_numbers (results s)) ≡ results s
unfolding results policies
results_back s = verdicts_back (schema s) (env s) (exprs s) (on_term s)

-- only the rows of the policies that run are printed
same_bytes : (a a' cs : List ℕ) → rows_of a' RUN ≡ rows_of a RUN → complete_bytes (why_in a' cs) a' cs ≡ complete_bytes (why_in a cs) a cs
unfolding complete_bytes policy_lines verdicts_in why_in ids_in
same_bytes a a' cs e = ap (λ (rs : List (List ℕ)). concat (head_lines (why (firsts rs) (verdicts_of rs cs)) (verdicts_of rs cs) ++ complete_lines (firsts rs) (verdicts_of rs cs))) e

module _ (sheet a b : List ℕ) (runs : rows_of a RUN ≡ on_term (held sheet a b)) where
  held_bytes : complete_bytes (why_in a (class_numbers (results (held sheet a b)))) a (class_numbers (results (held sheet a b))) ≡ answer complete (held sheet a b)
  unfolding answer verdicts_in
  held_bytes =
      complete_held sheet a b runs (class_numbers (results (held sheet a b)))
      ∙ ap (complete_of (held sheet a b)) (ap (λ (rs : List (List ℕ)). verdicts_of rs (class_numbers (results (held sheet a b)))) runs ∙ results_back (held sheet a b))

-- ---- the run, then the printing

pub part_front : (b : List ℕ) (n : ℕ) → part b 0 n ≡ take n b
part_front b n = let e : n - 0 ≡ n = omega arith in ap (λ (k : ℕ). take k b) e

module _ (sheet a b : List ℕ) (h : Holding complete sheet a b) where
  run_bytes : complete_bytes (why_in (run_of sheet a).words (run_of sheet a).log) (run_of sheet a).words (run_of sheet a).log ≡ answer complete (read complete sheet).state
  run_bytes =
      same_bytes a (run_of sheet a).words (run_of sheet a).log ((complete_hold sheet a b h.accepted h.state h.sound h.none h.runs h.fits).same RUN (omega arith))
      ∙ ap (λ (cs : List ℕ). complete_bytes (why_in a cs) a cs) (complete_run sheet a b h.accepted h.state h.sound h.none h.runs h.fits)
      ∙ ap (λ (s : State). complete_bytes (why_in a (class_numbers (results s))) a (class_numbers (results s))) h.state
      ∙ held_bytes sheet a b h.runs ∙ ap (answer complete) (sym h.state)

pub complete_runs : (sheet a b a' b' cs out : List ℕ) (n number len : ℕ) (out' : List ℕ) → Done (run_of sheet a) a' b' n → cs ≡ part b' 0 n → Sends (complete_bytes (why_in a' cs) a' cs) out number len out'
    → Runs complete sheet a b out number len out'
complete_runs sheet a b a' b' cs out n number len out' d e s h =
    subst (λ (l : List ℕ). Sends l out number len out') (ap₂ (λ (x y : List ℕ). complete_bytes (why_in x y) x y) d.words (e ∙ part_front b' n ∙ d.log) ∙ run_bytes sheet a b h) s
