-- Making a value: "A made value is added to the sheet's only if absent; a made set or record is ascending and without repeats."
use Rattle.std.specs.Prelude.{Bool, true, false, List, [], ◌∷◌, ◌++◌, length}
use Rattle.std.proofs.Math.Option.{Option, none, some}
use Prim.Native.Nat.{ℕ, suc, compare, Ordering}
use Rattle.cedar.specs.Rows.{Row, same_row}

-- The number of a row, if it is there.
abbrev pub one_later : Option ℕ → Option ℕ
one_later none = none
one_later (some n) = some (suc n)

abbrev pub pick_row : Bool → Option ℕ → Option ℕ
pick_row true o = some 0
pick_row false o = one_later o

abbrev pub find_row : Row → List Row → Option ℕ
find_row r [] = none
find_row r (q ∷ T) = pick_row (same_row q r) (find_row r T)

-- The rows after making, and the number of the value wanted: found, or added at the end.
pub record Interned : Type 0 where
  pub rows : List Row
  pub number : ℕ

abbrev pub or_add : Option ℕ → List Row → Row → Interned
or_add none T r = record { rows = T ++ (r ∷ []); number = length T }
or_add (some n) T r = record { rows = T; number = n }

abbrev pub intern : List Row → Row → Interned
intern T r = or_add (find_row r T) T r

-- The numbers of a made set: "ascending and without repeats".
abbrev pub place_n : Ordering → ℕ → ℕ → List ℕ → List ℕ → List ℕ
place_n Ordering.lt m n l r = m ∷ n ∷ l
place_n Ordering.eq m n l r = n ∷ l
place_n Ordering.gt m n l r = n ∷ r

abbrev pub insert_n : ℕ → List ℕ → List ℕ
insert_n m [] = m ∷ []
insert_n m (n ∷ l) = place_n (compare m n) m n l (insert_n m l)

abbrev pub sort_n : List ℕ → List ℕ
sort_n [] = []
sort_n (n ∷ l) = insert_n n (sort_n l)
