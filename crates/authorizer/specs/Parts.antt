-- What the parts of a call leave, once the work slices are known to be long enough.
use Rattle.std.specs.Prelude.{List, ℕ, length}
use Rattle.sheet.specs.Forms.{Mode}
use Rattle.sheet.specs.Sheet.{read}
use Rattle.sheet.specs.Answer.{answer}
use Rattle.sheet.specs.Call.{Returned, checked_then, fitted}
use Rattle.response.specs.Runs.{Gives}

-- 10, or accepted
abbrev pub after_reading : Mode → ℕ → List ℕ → Returned
after_reading m out sheet = fitted out (length (answer m (read m sheet).state))

-- 2, then 3 to 8, then that
abbrev pub after_lengths : Mode → ℕ → List ℕ → Returned
after_lengths m out sheet = checked_then m sheet (after_reading m out sheet)

abbrev pub Answers : Mode → List ℕ → List ℕ → ℕ → ℕ → ℕ → List ℕ → Type 0
Answers m sheet out number line len out' = Gives (after_lengths m (length out) sheet) (answer m (read m sheet).state) out number line len out'
