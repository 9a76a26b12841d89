-- What the parts of the call leave, once the work slices are known to be long enough: n is the number of the line, new the replacement.
use Rattle.std.specs.Prelude.{List, ℕ, length}
use Rattle.sheet.specs.Forms.{partial}
use Rattle.sheet.specs.Sheet.{read}
use Rattle.sheet.specs.Answer.{answer}
use Rattle.sheet.specs.Call.{Returned, short_then}
use Rattle.response.specs.Runs.{Gives}
use Rattle.authorizer.specs.Parts as A
use Rattle.previewed.specs.Preview.{edited, edit_then}

-- the copy's answer
abbrev pub answer_of : List ℕ → ℕ → List ℕ → List ℕ
answer_of sheet n new = answer partial (read partial (edited sheet n new)).state

-- 2 of the kept sheet, then 12, then the run on the copy
abbrev pub after_lengths : ℕ → List ℕ → ℕ → List ℕ → Returned
after_lengths out sheet n new = short_then sheet (edit_then sheet n new (A.after_lengths partial out (edited sheet n new)))

abbrev pub Tries : List ℕ → ℕ → List ℕ → List ℕ → ℕ → ℕ → ℕ → List ℕ → Type 0
Tries sheet n new out number line len out' = Gives (after_lengths (length out) sheet n new) (answer_of sheet n new) out number line len out'
