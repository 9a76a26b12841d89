-- An answer sent into a buffer that may be too short for it. A name with a prime is what is left.
use Rattle.std.specs.Prelude.{◌≡◌, List, ℕ, length}
use Rattle.sheet.specs.Call.{Returned, fitted, outputs}

-- where r is to be returned, and these bytes are the answer
pub record Gives (r : Returned) (bytes out : List ℕ) (number line len : ℕ) (out' : List ℕ) : Type 0 where
  pub number_is : number ≡ r.number
  pub line_is : line ≡ r.line
  pub length_is : len ≡ r.length
  pub buffer : out' ≡ outputs number bytes out

-- an answer into a buffer: 10 where it is too short, else 0, at no line
abbrev pub Sends : List ℕ → List ℕ → ℕ → ℕ → List ℕ → Type 0
Sends bytes out number len out' = Gives (fitted (length out) (length bytes)) bytes out number 0 len out'
