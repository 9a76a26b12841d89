-- The keys: how many rows each may have, where the words stand that say where its rows begin, and its tag where it has no constructors.
use Rattle.std.specs.Prelude.{List, [], ◌∷◌, ℕ, suc, ◌+◌, get_or}
use Rattle.sheet.specs.Forms.{no_key, tag_of}
use Rattle.forms.specs.declared.Key as D

-- rows that stand in words only, after those of the keys: the policies that run, and made values
abbrev pub RUN : ℕ
RUN = no_key

abbrev pub MADE : ℕ
MADE = RUN + 1

-- the greatest number of rows of each key, of policies that run and of made values
abbrev pub limits : List ℕ
limits = 1 ∷ 512 ∷ 32 ∷ 128 ∷ 32 ∷ 1024 ∷ 128 ∷ 1 ∷ 1 ∷ 1 ∷ 1 ∷ 1 ∷ 1024 ∷ 64 ∷ 64 ∷ 64 ∷ 64 ∷ 1024 ∷ []

unfoldable pub limit : ℕ → ℕ
limit k = get_or limits k 0

-- before the places of rows stand how many rows each key has, how many policies run, how many values were made, where the next row begins, and a
-- word that nothing uses
abbrev pub INDEX : ℕ
INDEX = MADE + 3

-- where each of some regions begins, of n + 1 words for n rows: the next row's beginning is where a row ends
abbrev pub starts : ℕ → List ℕ → List ℕ
starts i [] = []
starts i (n ∷ l) = i ∷ starts (i + suc n) l

-- and where the last of them ends
abbrev pub past : ℕ → List ℕ → ℕ
past i [] = i
past i (n ∷ l) = past (i + suc n) l

-- the word that says where row 0 begins, for each key, for the policies that run and for the made values
unfoldable pub bases : List ℕ
bases = starts INDEX limits

unfoldable pub base : ℕ → ℕ
base k = get_or bases k 0

-- rows begin here
abbrev pub heap : ℕ
heap = past INDEX limits

-- a key as a row of the code's table
abbrev pub key_row : ℕ → ℕ → ℕ → D.Key
key_row b m t = record { base = b; most = m; tag = t }

unfoldable pub keyed : ℕ → D.Key
keyed k = key_row (base k) (limit k) (tag_of k [])
