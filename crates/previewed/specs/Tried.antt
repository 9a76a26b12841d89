-- Document 02, 2.11: "If the kept and the edited sheet are accepted and an accepted complete sheet agrees with the edited one, a decision given
-- before is never the opposite one after." Said of the bytes of the two answers.
use Rattle.std.specs.Prelude.{◌≡◌, List, ℕ, length, take}
use Rattle.std.proofs.Math.Option.{some}
use Rattle.cedar.specs.Response.{Decision, allow, deny}
use Rattle.sheet.specs.Forms.{partial}
use Rattle.sheet.specs.ReadAnswer.{Said, read_answer}
use Rattle.previewed.specs.Preview.{preview_returned, preview_written}

-- a preview that returned number 0, with the words of the work slices and the answer buffer that it was lent
pub record Tried (sheet : List ℕ) (n : ℕ) (new : List ℕ) : Type 0 where
  pub work₁ : ℕ
  pub work₂ : ℕ
  pub buffer : List ℕ
  pub zero_number : (preview_returned work₁ work₂ (length buffer) sheet n new).number ≡ 0

-- the bytes of its answer: so many as the returned length says, of the buffer after the call
abbrev pub bytes_tried : {sheet : List ℕ} {n : ℕ} {new : List ℕ} → Tried sheet n new → List ℕ
bytes_tried {sheet} {n} {new} x = take (preview_returned x.work₁ x.work₂ (length x.buffer) sheet n new).length (preview_written x.work₁ x.work₂ x.buffer sheet n new)

-- a decision given, and the opposite one; open is opposite to neither
pub data Opposite : Decision → Decision → Type 0 where
  allow_deny : Opposite allow deny
  deny_allow : Opposite deny allow

-- of the bytes of two partial answers
pub record NeverOpposite (before after : List ℕ) : Type 0 where
  pub first : Said
  pub second : Said
  pub first_reads : read_answer partial before ≡ some first
  pub second_reads : read_answer partial after ≡ some second
  pub never : Opposite first.decision second.decision → ⊥
