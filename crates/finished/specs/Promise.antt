-- What the call `finish` promises: number, line and length, every byte of the answer buffer and every word of both work slices are those of
-- the definition. A variable with a prime is what the call leaves.
use Rattle.std.specs.Prelude.{◌≡◌, List, ℕ, length}
use Rattle.sheet.specs.Call.{worked}
use Rattle.finished.specs.Finish.{finish_returned, finish_written}

pub record Finished (partial complete work₁ work₂ out : List ℕ) (number line len : ℕ) (out' work₁' work₂' : List ℕ) : Type 0 where
  pub number_is : number ≡ (finish_returned (length work₁) (length work₂) (length out) partial complete).number
  pub line_is : line ≡ (finish_returned (length work₁) (length work₂) (length out) partial complete).line
  pub length_is : len ≡ (finish_returned (length work₁) (length work₂) (length out) partial complete).length
  pub buffer : out' ≡ finish_written (length work₁) (length work₂) out partial complete
  pub first : work₁' ≡ worked work₁ (length work₂)
  pub second : work₂' ≡ worked work₂ (length work₁)
