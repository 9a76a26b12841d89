-- "Its words and numbers equal those of the answer": the page is made of what the answer to the same sheet says, read back from its bytes.
use mathlib.Core.Path.{◌≡◌, refl, sym, ◌∙◌, ap, ap₂, subst}
use mathlib.Core.Option.{some}
use mathlib.Core.List.{List, [], ◌∷◌}
use Prim.Native.Nat.{ℕ, suc, ◌+◌, ◌-◌}
use native.Mathlib.Omega.{arith}
use Rattle.cedar.specs.Response.{decision}
use Rattle.cedar.specs.Runs.{NVerdict, verdicts}
use Rattle.sheet.specs.Forms.{partial}
use Rattle.sheet.specs.State.{State}
use Rattle.sheet.specs.Sheet.{read}
use Rattle.sheet.specs.Answer.{size, ids, run, answer}
use Rattle.sheet.specs.Call.{Accepted}
use Rattle.sheet.specs.ReadAnswer.{Said, read_answer}
use Rattle.sheet.specs.Demand3.{Answered, bytes_of}
use Rattle.paged.specs.Page.{policy_row, id_text, policy_rows, page_with, page, said_rows, page_of}
use Rattle.sheet.proofs.running.MadeCount.{size_least}
use Rattle.sheet.proofs.answer.AnswerBack.{partial_policies}
use Rattle.sheet.proofs.answer.AnswerRead.{partial_said, partial_answer_back}
use Rattle.sheet.proofs.demand3.Demand3Answers.{accepted}
use Rattle.sheet.proofs.answer.Buffers.{bytes_are}

said_rows_law : (s : State) (n : ℕ) (is : List ℕ) (ls : List NVerdict) → said_rows (id_text s) n (partial_policies n is ls) ≡ policy_rows s is ls
said_rows_law s n [] ls = refl
said_rows_law s n (i ∷ is) [] = refl
said_rows_law s n (i ∷ is) (l ∷ ls) =
    let p = size_least l.root in
    let e : suc (n + size l.root - 1) ≡ n + size l.root = omega (arith, p) in
    let d : suc (n + size l.root - 1) - n ≡ size l.root = omega (arith, p) in
    ap₂ (λ k r. policy_row (id_text s i) l.effect l.class k ∷ r) d (ap (λ k. said_rows (id_text s) k (partial_policies (n + size l.root) is ls)) e ∙ said_rows_law s (n + size l.root) is ls)

-- of every state
pub page_said : (s : State) → page s ≡ page_of (id_text s) (decision (verdicts (run partial s).lines)) (partial_policies 0 (ids s) (run partial s).lines)
unfolding page page_of
page_said s = ap (page_with (decision (verdicts (run partial s).lines))) (sym (said_rows_law s 0 (ids s) (run partial s).lines))

-- what the bytes of an answer say, and the page from it
pub record Shown (sheet answer : List ℕ) : Type 0 where
  pub said : Said
  pub reads : read_answer partial answer ≡ some said
  pub shows : page (read partial sheet).state ≡ page_of (id_text (read partial sheet).state) said.decision said.policies

said_shown : (sheet : List ℕ) → Accepted partial sheet → Shown sheet (answer partial (read partial sheet).state)
said_shown sheet acc = let s = (read partial sheet).state in record { said = partial_said s; reads = partial_answer_back sheet acc; shows = page_said s }

-- THE THEOREM
pub page_says : (sheet : List ℕ) (x : Answered partial sheet) → Shown sheet (bytes_of x)
page_says sheet x = subst (Shown sheet) (sym (bytes_are x)) (said_shown sheet (accepted x))
