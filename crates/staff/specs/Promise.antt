-- What the call for a whole firm promises: number, line and length, the group's decision, every row and every word of both work slices are
-- those of the definition. A variable with a prime is what the call leaves.
use Rattle.std.specs.Prelude.{◌≡◌, List, ℕ, length}
use Rattle.cedar.specs.Response.{Decision}
use Rattle.sheet.specs.Call.{worked}
use Rattle.staff.specs.Firm.{Row, firm_returned, firm_rows, firm_group}

pub record Quoted (sheet : List ℕ) (rows : List Row) (work₁ work₂ : List ℕ) (number line len : ℕ) (group : Decision) (rows' : List Row) (work₁' work₂' : List ℕ) : Type 0 where
  pub number_is : number ≡ (firm_returned (length work₁) (length work₂) sheet rows).number
  pub line_is : line ≡ (firm_returned (length work₁) (length work₂) sheet rows).line
  pub length_is : len ≡ (firm_returned (length work₁) (length work₂) sheet rows).length
  pub group_is : group ≡ firm_group (length work₁) (length work₂) sheet rows
  pub rows_are : rows' ≡ firm_rows (length work₁) (length work₂) sheet rows
  pub first : work₁' ≡ worked work₁ (length work₂)
  pub second : work₂' ≡ worked work₂ (length work₁)
