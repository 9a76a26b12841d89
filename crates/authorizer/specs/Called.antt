-- What a call promises: number, line and length, every byte of the answer buffer and every word of both work slices are those of the
-- definition. A name with a prime is what the call leaves.
use Rattle.std.specs.Prelude.{◌≡◌, List, ℕ, length}
use Rattle.sheet.specs.Forms.{Mode}
use Rattle.sheet.specs.Call.{returned, written, worked}

pub record Called (m : Mode) (sheet work₁ work₂ out : List ℕ) (number line len : ℕ) (out' work₁' work₂' : List ℕ) : Type 0 where
  pub number_is : number ≡ (returned m (length work₁) (length work₂) (length out) sheet).number
  pub line_is : line ≡ (returned m (length work₁) (length work₂) (length out) sheet).line
  pub length_is : len ≡ (returned m (length work₁) (length work₂) (length out) sheet).length
  pub buffer : out' ≡ written m (length work₁) (length work₂) out sheet
  pub first : work₁' ≡ worked work₁ (length work₂)
  pub second : work₂' ≡ worked work₂ (length work₁)
