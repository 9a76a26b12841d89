-- What the parts of the call leave, once the work slices are known to be long enough: p is the partial sheet, c the complete one.
use Rattle.std.specs.Prelude.{◌≡◌, List, [], ℕ, length}
use Rattle.words.specs.Log.{part}
use Rattle.sheet.specs.Forms.{Mode, partial, complete}
use Rattle.sheet.specs.Sheet.{read}
use Rattle.sheet.specs.Call.{Returned, checked_then, fitted, Accepted}
use Rattle.tpe.specs.Run.{run_of}
use Rattle.response.specs.Runs.{Gives, Holding}
use Rattle.finished.specs.Finish.{breaking_line, finished_answer, at_line}

-- the line that number 11 names, 0 where they agree, and the answer
abbrev pub line_of : List ℕ → List ℕ → ℕ
line_of p c = breaking_line (read partial p).state (read complete c).state

abbrev pub answer_of : List ℕ → List ℕ → List ℕ
answer_of p c = finished_answer (read partial p).state (read complete c).state

-- 10, or accepted
abbrev pub after_agreement : ℕ → List ℕ → List ℕ → Returned
after_agreement out p c = fitted out (length (answer_of p c))

-- 11, then that
abbrev pub after_both : ℕ → List ℕ → List ℕ → Returned
after_both out p c = at_line (read partial p).state (read complete c).state out (line_of p c)

-- 2 to 8 of the complete sheet, then that
abbrev pub after_partial : ℕ → List ℕ → List ℕ → Returned
after_partial out p c = checked_then complete c (after_both out p c)

-- 2 to 8 of the partial sheet, then that
abbrev pub after_lengths : ℕ → List ℕ → List ℕ → Returned
after_lengths out p c = checked_then partial p (after_partial out p c)

-- where r is to be returned
abbrev pub Answers : Returned → List ℕ → List ℕ → List ℕ → ℕ → ℕ → ℕ → List ℕ → Type 0
Answers r p c out number line len out' = Gives r (answer_of p c) out number line len out'

-- the words hold an accepted sheet, as opening leaves it
pub record Stands (m : Mode) (sheet a b : List ℕ) : Type 0 where
  pub accepted : Accepted m sheet
  pub holding : Holding m sheet a b

-- the partial sheet's run left these words and these rows of residuals
pub record Left (p residuals kept : List ℕ) : Type 0 where
  pub words : List ℕ
  pub depths : List ℕ
  pub stands : Stands partial p words depths
  pub kept_is : kept ≡ (run_of partial p words []).words
  pub residuals_is : residuals ≡ (run_of partial p words []).log

-- so does the run of a partial sheet over the words a, where they hold it: the words are a' then, the residuals the first n of ws
abbrev pub Leaving : List ℕ → List ℕ → List ℕ → List ℕ → List ℕ → ℕ → Type 0
Leaving p a b a' ws n = Stands partial p a b → Left p (part ws 0 n) a'

-- the words hold the complete sheet
abbrev pub Completes : List ℕ → List ℕ → List ℕ → Type 0
Completes c a b = Stands complete c a b

-- the residuals of every partial sheet that it was, answered on a complete sheet that agrees with it
abbrev pub Finishes : List ℕ → List ℕ → List ℕ → List ℕ → List ℕ → List ℕ → ℕ → ℕ → ℕ → List ℕ → Type 0
Finishes c residuals kept rows log out number line len out' =
    (p : List ℕ) → Left p residuals kept → Stands complete c rows log → line_of p c ≡ 0 → Answers (after_agreement (length out) p c) p c out number line len out'
