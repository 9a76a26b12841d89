-- THE NAME IN AN ANSWER'S BYTES is the id of the first of its own lines that is called true and has the effect that decides; none where there is none. Assumes nothing.
use mathlib.Core.Path.{◌≡◌, refl, sym, ap, subst}
use mathlib.Core.Bool.{Bool, cond, ◌&&◌}
use mathlib.Core.List.{List, [], ◌∷◌}
use Prim.Native.Nat.{ℕ, ◌+◌}
use Rattle.cedar.specs.Response.{Effect, is_permit, is_forbid, is_true, Verdict, Decision, allow, deny, undecided, decision}
use Rattle.cedar.specs.Runs.{NVerdict, verdicts}
use Rattle.sheet.specs.Forms.{Mode, partial, complete}
use Rattle.sheet.specs.Sheet.{read}
use Rattle.sheet.specs.Why.{true_ones, reasons_for, first_name}
use Rattle.sheet.specs.WhySaid.{true_lines, printed_for, Explained}
use Rattle.sheet.specs.Answer.{size, ids, run, results, answer}
use Rattle.sheet.specs.Call.{Accepted}
use Rattle.sheet.specs.Demand3.{Answered, bytes_of}
use Rattle.sheet.proofs.answer.AnswerBack.{partial_policies, complete_policies}
use Rattle.sheet.proofs.answer.AnswerRead.{partial_said, complete_said, partial_answer_back, complete_answer_back}
use Rattle.sheet.proofs.demand3.Demand3Answers.{accepted}
use Rattle.sheet.proofs.answer.Buffers.{bytes_are}

true_lines_law : (f : Effect → Bool) (n : ℕ) (is : List ℕ) (ls : List NVerdict) → true_ones f is (verdicts ls) ≡ true_lines f (partial_policies n is ls)
true_lines_law f n [] ls = refl
true_lines_law f n (i ∷ is) [] = refl
true_lines_law f n (i ∷ is) (l ∷ ls) = ap (λ r. cond (f l.effect && is_true l.class) (i ∷ r) r) (true_lines_law f (n + size l.root) is ls)

true_results : (f : Effect → Bool) (is : List ℕ) (ls : List Verdict) → true_ones f is ls ≡ true_lines f (complete_policies is ls)
true_results f [] ls = refl
true_results f (i ∷ is) [] = refl
true_results f (i ∷ is) (l ∷ ls) = ap (λ r. cond (f l.effect && is_true l.class) (i ∷ r) r) (true_results f is ls)

of_lines : (d : Decision) (is : List ℕ) (ls : List NVerdict) → reasons_for d is (verdicts ls) ≡ printed_for d (partial_policies 0 is ls)
of_lines allow is ls = true_lines_law is_permit 0 is ls
of_lines deny is ls = true_lines_law is_forbid 0 is ls
of_lines undecided is ls = refl

of_results : (d : Decision) (is : List ℕ) (ls : List Verdict) → reasons_for d is ls ≡ printed_for d (complete_policies is ls)
of_results allow is ls = true_results is_permit is ls
of_results deny is ls = true_results is_forbid is ls
of_results undecided is ls = refl

explained : (m : Mode) (sheet : List ℕ) → Accepted m sheet → Explained m (answer m (read m sheet).state)
explained partial sheet acc = let s = (read partial sheet).state in record {
  said = partial_said s;
  reads = partial_answer_back sheet acc;
  explains = ap first_name (of_lines (decision (verdicts (run partial s).lines)) (ids s) (run partial s).lines);
}
explained complete sheet acc = let s = (read complete sheet).state in record {
  said = complete_said s;
  reads = complete_answer_back sheet acc;
  explains = ap first_name (of_results (decision (results s)) (ids s) (results s));
}

-- THE THEOREM
pub name_explained : (m : Mode) (sheet : List ℕ) (x : Answered m sheet) → Explained m (bytes_of x)
name_explained m sheet x = subst (Explained m) (sym (bytes_are x)) (explained m sheet (accepted x))
