-- A run of a sheet that the words hold, and its answer sent into a buffer that may be too short for it. A name with a prime is what is left.
use Rattle.std.specs.Prelude.{◌≡◌, List, ℕ, ◌≤◌, length, get_or}
use Rattle.sheet.specs.Forms.{Mode}
use Rattle.sheet.specs.Sheet.{read}
use Rattle.sheet.specs.Content.{on_term}
use Rattle.sheet.specs.Answer.{answer}
use Rattle.table.specs.Layout.{rows_of, held, Sound, RUN, MADE}
use Rattle.tpe.specs.Fits.{Fits}
pub use Rattle.print.specs.Sent.{Gives, Sends}

-- where the buffer is long enough
abbrev pub Prints : List ℕ → List ℕ → ℕ → ℕ → List ℕ → Type 0
Prints bytes out number len out' = length bytes ≤ length out → Sends bytes out number len out'

-- the words hold an accepted sheet, as reading leaves it, with its policies on term as those that run
pub record Holding (m : Mode) (sheet a b : List ℕ) : Type 0 where
  pub accepted : (read m sheet).number ≡ 0
  pub state : (read m sheet).state ≡ held sheet a b
  pub sound : Sound a
  pub none : get_or a MADE 0 ≡ 0
  pub runs : rows_of a RUN ≡ on_term (held sheet a b)
  pub fits : Fits a

-- where they do, its answer is sent
abbrev pub Runs : Mode → List ℕ → List ℕ → List ℕ → List ℕ → ℕ → ℕ → List ℕ → Type 0
Runs m sheet a b out number len out' = Holding m sheet a b → Sends (answer m (read m sheet).state) out number len out'
