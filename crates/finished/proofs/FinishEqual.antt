-- DOCUMENT 02, 2.1: what the residuals yield on a complete sheet that agrees is the complete sheet's own answer.
use mathlib.Core.Path.{◌≡◌, refl, sym, ◌∙◌, ap}
use mathlib.Core.Bool.{true, false}
use mathlib.Core.List.{List, ◌∷◌, ◌++◌}
use Prim.Native.Nat.{ℕ}
use lib.ListN.{get_or}
use Rattle.cedar.specs.Value.{Value, vbool}
use Rattle.cedar.specs.Residual.{Node, Expr}
use Rattle.cedar.specs.Evaluate.{eval}
use Rattle.cedar.specs.Response.{Choices}
use Rattle.cedar.specs.Reads.{Reads}
use Rattle.cedar.specs.Runs.{Policy, NVerdict, complete_answer, verdicts, result_class}
use Rattle.cedar.proofs.SettledByNumber.{Residuals, Yielding}
use Rattle.sheet.specs.Forms.{partial, complete}
use Rattle.sheet.specs.State.{State}
use Rattle.sheet.specs.Sheet.{firsts, read}
use Rattle.sheet.specs.Why.{why}
use Rattle.sheet.specs.Content.{schema, env, n_env, p_env}
use Rattle.sheet.specs.Literals.{valued}
use Rattle.sheet.specs.Answer.{concat, head_lines, complete_lines, results, answer}
use Rattle.sheet.specs.Call.{Accepted}
use Rattle.sheet.specs.Agreement.{agrees}
use Rattle.finished.specs.Finish.{content_of, yields_of, finished_results, finished_answer}
use Rattle.sheet.proofs.demand3.TwoSheets.{common}
use Rattle.sheet.proofs.demand3.Demand3Bytes.{Settles, demand_3}
use Rattle.sheet.proofs.demand3.Demand3Answers.{choices_parts}
use Rattle.sheet.proofs.answer.AnswerRead.{values_of, reads_valued}
use Rattle.cedar.proofs.SettledByNumber as R

module _ (p c : List ℕ) (ap' : Accepted partial p) (ac : Accepted complete c) (ag : agrees (read partial p).state (read complete c).state ≡ true) where
  abbrev P : State
  P = (read partial p).state

  abbrev C : State
  C = (read complete c).state

  s : Settles P C
  s = demand_3 p c ap' ac ag

  as_content : {a : Node ℕ} {d : Expr} → Reads s.values a d → valued (content_of P) a ≡ d
  as_content {a} r = ap (λ (l : List Value). valued (λ n. get_or l n (vbool false)) a) (values_of p ap' s.table) ∙ reads_valued s.values r

  yields_from : {ls : List NVerdict} {qs : List Policy} → Residuals (schema C) (n_env partial P) (p_env P) s.values ls qs → Yielding (schema C) (n_env partial P) (p_env P) s.values (env C) ls qs
      → Choices (verdicts ls) (complete_answer (schema C) (env C) qs) → yields_of P C ls ≡ complete_answer (schema C) (env C) qs
  yields_from R.none R.none h = refl
  yields_from (R.more {l = l} {p = q} r rs) (R.more y ys) h =
      let (g, k, hs) = choices_parts h in
      λ i. record { effect = sym g i; class = result_class ((ap (eval (schema C) (env C)) (as_content r) ∙ y _ r) i) } ∷ yields_from rs ys hs i

  -- decision, counts and policies come from equal results
  pub finished_results_law : finished_results P C ≡ results C
  unfolding finished_results results
  finished_results_law = yields_from s.readable s.residuals s.lines

  -- THE ANSWER IS THE COMPLETE SHEET'S OWN, BYTE FOR BYTE
  pub finished_answer_law : finished_answer P C ≡ answer complete C
  unfolding finished_answer answer
  finished_answer_law = λ i. concat (head_lines (why (firsts ((common P C ag).rules i)) (finished_results_law i)) (finished_results_law i) ++ complete_lines (firsts ((common P C ag).rules i)) (finished_results_law i))
