-- What the opening of a sheet leaves.
use Rattle.std.specs.Prelude.{◌≡◌, List, ℕ}
use Rattle.sheet.specs.Forms.{Mode}
use Rattle.sheet.specs.Call.{Returned, refused_then, checked_then}
use Rattle.response.specs.Runs.{Holding}

-- 2, then 3 to 8, are this number at this line, whatever is returned where both are passed; with 0 the words hold the sheet
pub record Opens (m : Mode) (sheet : List ℕ) (number line : ℕ) (a b : List ℕ) : Type 0 where
  pub checked : (r : Returned) → checked_then m sheet r ≡ refused_then number line r
  pub holds : number ≡ 0 → Holding m sheet a b
