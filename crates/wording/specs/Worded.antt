-- The words of the program: which entry a sheet is for, the line of a refusal, the lines of a whole firm's decisions, numbers on the command line.
use Rattle.std.specs.Prelude.{Bool, cond, List, [], ◌∷◌, ◌++◌, ℕ, take}
use Rattle.std.proofs.Math.Option.{Option}
use Prim.Native.String.{String}
use Rattle.cedar.specs.Response.{Decision}
use Rattle.print.specs.Written.{greatest}
use Rattle.sheet.specs.Ascii.{ascii}
use Rattle.sheet.specs.Bytes.{up_to, same, decimal, at_most}
use Rattle.sheet.specs.Forms.{Mode, partial, complete}
use Rattle.sheet.specs.Answer.{printed, numbers, decision_word}
use Rattle.staff.specs.Firm.{Row}

-- the first line is exactly `sheet=complete`
unfoldable pub says_complete : List ℕ → Bool
says_complete sheet = same (take (up_to 10 sheet) sheet) (ascii "sheet=complete")

-- such a sheet goes to the complete entry, every other input to the partial one
abbrev pub entry_of : List ℕ → Mode
entry_of sheet = cond (says_complete sheet) complete partial

-- "If refused it prints `refused=number,line,length`", with a line end
unfoldable pub refusal : ℕ → ℕ → ℕ → List ℕ
refusal number line len = printed "refused" (numbers (number ∷ line ∷ len ∷ []))

-- the line of a decision; the lines of a whole firm's (document 02, 2.14): the group's, then one of each row's
abbrev pub decided : String → Decision → List ℕ
decided key d = printed key (ascii (decision_word d) ∷ [])

abbrev pub rows_text : List Row → List ℕ
rows_text [] = []
rows_text (r ∷ rs) = decided "row" r.decision ++ rows_text rs

abbrev pub quote_text : Decision → List Row → List ℕ
quote_text group rows = decided "group" group ++ rows_text rows

-- a number on the command line: decimal, of 64 bits, without leading zeros; none where a word is no such number
unfoldable pub number_in : List ℕ → Option ℕ
number_in word = at_most greatest (decimal word)
