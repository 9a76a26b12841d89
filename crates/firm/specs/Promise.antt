-- What the call promises. A name with a prime is what the call leaves.
use Rattle.std.specs.Prelude.{◌≡◌, cond, List, ℕ, eqb, length}
use Rattle.staff.specs.Firm.{firm_group}
use Rattle.staff.specs.Promise.{Quoted}
use Rattle.firm.specs.declared.Row as R
use Rattle.firm.specs.declared.Quote as Q
use Rattle.firm.specs.Parts.{code_of, decision_in, filled_all, rows_in}

-- what is returned, field by field
abbrev pub quote : ℕ → ℕ → ℕ → ℕ → Q.Quote
quote n k l g = record { number = n; line = k; length = l; group = g }

pub record Quotes (sheet : List ℕ) (rows : List R.Row) (w₁ w₂ : List ℕ) (f : Q.Quote) (rows' : List R.Row) (w₁' w₂' : List ℕ) : Type 0 where
  -- all is as the definition says
  pub quoted : Quoted sheet (rows_in rows) w₁ w₂ f.number f.line f.length (decision_in f.group) (rows_in rows') w₁' w₂'
  -- with these numbers for decisions; where the call is refused no word of a row changes
  pub group_is : f.group ≡ code_of (firm_group (length w₁) (length w₂) sheet (rows_in rows))
  pub rows_are : rows' ≡ cond (eqb f.number 0) (filled_all sheet rows) rows
