-- Slots as numbers, for the code's table of forms.
use Rattle.std.specs.Prelude.{◌≡◌, Bool, true, false, ℕ}
use Rattle.sheet.specs.Forms.{Mode, partial, complete, slot_at}
use Rattle.forms.specs.Rows.{NUMBER, slot_of}
use Rattle.forms.specs.Tags.{LONG_VALUE}

abbrev pub mode_of : Bool → Mode
mode_of true = partial
mode_of false = complete

-- r is the number of the slot at place j of tag t; only the first item of one form is a long
pub record SlotAt (t j r : ℕ) : Type 0 where
  pub is : slot_of r ≡ slot_at t j
  pub first : r ≡ NUMBER → j ≡ 0
  pub alone : r ≡ NUMBER → t ≡ LONG_VALUE
