-- What every call over two work slices and an answer buffer promises. A variable with a prime is what the call leaves.
use Rattle.std.specs.Prelude.{◌≡◌, List, ℕ, length}
use Rattle.sheet.specs.Call.{Returned, outputs, worked}

-- r is returned, with number 0 these bytes go out, and what was used of the work slices is cleared
pub record Promised (r : Returned) (bytes work₁ work₂ out : List ℕ) (number line len : ℕ) (out' work₁' work₂' : List ℕ) : Type 0 where
  pub number_is : number ≡ r.number
  pub line_is : line ≡ r.line
  pub length_is : len ≡ r.length
  pub buffer : out' ≡ outputs r.number bytes out
  pub first : work₁' ≡ worked work₁ (length work₂)
  pub second : work₂' ≡ worked work₂ (length work₁)
