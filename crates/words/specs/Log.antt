-- Lent words: a part of a slice, a log of its first words, and the words that a run leaves.
use Rattle.std.specs.Prelude.{◌≡◌, List, [], ◌∷◌, ◌++◌, Bool, cond, ◌&&◌, ℕ, ◌+◌, ◌-◌, ◌≤◌, length, take, drop, replicate, leb, ltb}
use Rattle.std.proofs.lemmas.List.Edits.{sets}

-- the part from a to e, cut at the end
abbrev pub part : {T : Type 0} → List T → ℕ → ℕ → List T
part w a e = take (e - a) (drop a w)

-- ---- a log: the list of the first `top` words of a slice

-- the words of a slice that a log may take
abbrev pub room : ℕ
room = 16384

-- a run of words more, if there is room for all of it
unfoldable pub appended : List ℕ → List ℕ → List ℕ
appended l xs = cond (leb (length l + length xs) room) (l ++ xs) l

-- one word more
abbrev pub pushed : List ℕ → ℕ → List ℕ
pushed l x = appended l (x ∷ [])

-- the slice has the words that a log may take, and the log does not end past them
pub record Room (w : List ℕ) (top : ℕ) : Type 0 where
  pub low : top ≤ 16384
  pub long : 16384 ≤ length w

-- the log of w at top is l, within the words that it may take, and no shorter than `was`
pub record Holds (was : ℕ) (w : List ℕ) (top : ℕ) (l : List ℕ) : Type 0 where
  pub is : take top w ≡ l
  pub low : top ≤ 16384
  pub grows : was ≤ top

-- ---- what appending leaves of any slice, too short a one as well

-- whether a slice of so many words has room for n more from top on
unfoldable pub has_room : ℕ → ℕ → ℕ → Bool
has_room len top n = leb (top + n) room && leb (top + n) len

-- the words xs, stored from top on and counted where there is room for all of them
pub record Appended (was : List ℕ) (top : ℕ) (xs is : List ℕ) (next : ℕ) : Type 0 where
  pub words : is ≡ cond (has_room (length was) top (length xs)) (sets was top xs) was
  pub end : next ≡ cond (has_room (length was) top (length xs)) (top + length xs) top

-- ---- clearing

-- the first n words 0, the rest untouched
unfoldable pub zeros : ℕ → List ℕ → List ℕ
zeros n w = replicate n 0 ++ drop n w

-- "their first 16,384 words are 0 and the rest untouched"; a slice that has fewer is untouched
unfoldable pub cleared : List ℕ → List ℕ
cleared w = cond (ltb (length w) room) w (zeros room w)
