-- What the reading of a sheet leaves.
use Rattle.std.specs.Prelude.{◌≡◌, List, ℕ, ◌+◌, ◌*◌, ◌≤◌, length, drop}
use Rattle.sheet.specs.Sheet.{Reading}
use Rattle.table.specs.Layout.{heap, held}
use Rattle.take.specs.Steps.{Ready, taken}

-- a sheet read: number and line of the definition, and where it is accepted its state
pub record Read (x : Reading) (sheet a b a' b' : List ℕ) (number line : ℕ) : Type 0 where
  pub number_is : number ≡ x.number
  pub line_is : line ≡ x.line
  pub state_is : number ≡ 0 → held sheet a' b' ≡ x.state
  pub ready : number ≡ 0 → Ready a' b'
  pub room : number ≡ 0 → taken a' ≤ 2 * heap + length sheet
  pub rest_a : drop 16384 a' ≡ drop 16384 a
  pub rest_b : drop 16384 b' ≡ drop 16384 b
