-- What a call is lent in a trial, and what must have come back.
use Rattle.std.specs.Prelude.{◌≡◌, Bool, cond, ◌&&◌, List, ℕ, eqb, length, take, drop, replicate}
use Rattle.std.specs.List.{list_all}
use Rattle.sheet.specs.Forms.{Mode, partial, complete}

-- what stands in every lent word and byte before a call
abbrev pub mark : ℕ
mark = 165

unfoldable pub marks : ℕ → List ℕ
marks n = replicate n mark

unfoldable pub entry_of : ℕ → Mode
entry_of n = cond (eqb n 1) complete partial

-- all of them are x
abbrev pub every : ℕ → List ℕ → Bool
every x l = list_all (λ y. eqb y x) l

-- "After 1 the work slices are untouched, otherwise their first 16,384 words are 0 and the rest untouched"
unfoldable pub words_kept : ℕ → List ℕ → Bool
words_kept number w = cond (eqb number 1) (every mark w) (every 0 (take 16384 w) && every mark (drop 16384 w))

-- bytes read to the start of a space: the space keeps its length and what stands after them
pub record Taken (was : List ℕ) (n : ℕ) (is : List ℕ) : Type 0 where
  pub long : length is ≡ length was
  pub rest : drop n is ≡ drop n was
