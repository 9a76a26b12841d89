-- What a call with enough room shows of a sheet, for sheets written with `/` as a line end.
use mathlib.Core.Bool.{cond}
use mathlib.Core.List.{List, [], ◌∷◌, ◌++◌}
use Prim.Native.Nat.{ℕ, zero, suc}
use Prim.Native.String.{String}
use lib.Dec.{eqb}
use Rattle.sheet.specs.Ascii.{ascii}
use Rattle.sheet.specs.Forms.{partial}
use Rattle.sheet.specs.Sheet.{read}
use Rattle.sheet.specs.Answer.{answer, printed, numbers}
use Rattle.sheet.specs.Call.{Returned, returned}

abbrev pub line_ends : List ℕ → List ℕ
line_ends [] = []
line_ends (x ∷ l) = cond (eqb x 47) 10 x ∷ line_ends l

abbrev pub bytes : String → List ℕ
bytes s = line_ends (ascii s)

-- what a call with enough room leaves in an empty buffer's stead, or `refused=number,line,length`
abbrev pub shown_as : List ℕ → ℕ → Returned → List ℕ
shown_as a zero r = a
shown_as a (suc n) r = printed "refused" (numbers (r.number ∷ r.line ∷ r.length ∷ []))

abbrev pub shown_for : List ℕ → Returned → List ℕ
shown_for a r = shown_as a r.number r

unfoldable pub shown : List ℕ → List ℕ
shown sheet = shown_for (answer partial (read partial sheet).state) (returned partial 16384 16384 16384 sheet)

pub record Case : Type 0 where
  pub rest : String
  pub says : String

abbrev pub case : String → String → Case
case r a = record { rest = r; says = a }

-- after a head
abbrev pub shown_all : List ℕ → List Case → List (List ℕ)
shown_all h [] = []
shown_all h (c ∷ cs) = shown (h ++ bytes c.rest) ∷ shown_all h cs

abbrev pub says_all : List Case → List (List ℕ)
says_all [] = []
says_all (c ∷ cs) = bytes c.says ∷ says_all cs
