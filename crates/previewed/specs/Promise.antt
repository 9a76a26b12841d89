-- What the call `preview` promises: number, line and length, every byte of the answer buffer and every word of both work slices are those of
-- the definition. n is the number of the line, new the replacement. A variable with a prime is what the call leaves.
use Rattle.std.specs.Prelude.{◌≡◌, List, ℕ, length}
use Rattle.sheet.specs.Call.{worked}
use Rattle.previewed.specs.Preview.{preview_returned, preview_written}

pub record Previewed (sheet : List ℕ) (n : ℕ) (new work₁ work₂ out : List ℕ) (number line len : ℕ) (out' work₁' work₂' : List ℕ) : Type 0 where
  pub number_is : number ≡ (preview_returned (length work₁) (length work₂) (length out) sheet n new).number
  pub line_is : line ≡ (preview_returned (length work₁) (length work₂) (length out) sheet n new).line
  pub length_is : len ≡ (preview_returned (length work₁) (length work₂) (length out) sheet n new).length
  pub buffer : out' ≡ preview_written (length work₁) (length work₂) out sheet n new
  pub first : work₁' ≡ worked work₁ (length work₂)
  pub second : work₂' ≡ worked work₂ (length work₁)
