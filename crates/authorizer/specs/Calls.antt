-- A run of a call and the bytes of its answer: what the theorem on three calls speaks of.
use Rattle.std.specs.Prelude.{List, ℕ, take}
use Rattle.sheet.specs.Forms.{Mode}
use Rattle.authorizer.specs.Called.{Called}

-- a run of a call: what it was lent, what it returned and left, and what the call promises of these
pub record Run (m : Mode) (sheet : List ℕ) : Type 0 where
  pub work₁ : List ℕ
  pub work₂ : List ℕ
  pub buffer : List ℕ
  pub number : ℕ
  pub line : ℕ
  pub len : ℕ
  pub buffer' : List ℕ
  pub work₁' : List ℕ
  pub work₂' : List ℕ
  pub called : Called m sheet work₁ work₂ buffer number line len buffer' work₁' work₂'

-- the bytes of the answer: so many as the returned length says, of the buffer after the call
abbrev pub bytes_in : {m : Mode} {sheet : List ℕ} → Run m sheet → List ℕ
bytes_in x = take x.len x.buffer'
