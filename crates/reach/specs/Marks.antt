-- Parents noted as they are met, and lines of entities marked as they are reached, and queued until their parents are met too.
use Rattle.std.specs.Prelude.{◌≡◌, Bool, true, false, cond, not, ◌&&◌, ◌||◌, List, [], ◌∷◌, ◌⊎◌, ℕ, zero, suc, ◌+◌, ◌-◌, ◌<◌, ◌≤◌, ltb, eqb, length, take, get_or, set}
use Rattle.cedar.specs.Numbered.{mem_n, r_set}
use Rattle.sheet.specs.Forms.{at, mark, ENTITY}
use Rattle.sheet.specs.State.{value_row}
use Rattle.sheet.specs.Parents.{parents_in, ancestors}
use Rattle.table.specs.Layout.{rows_of}

-- the most entity lines, and the most values of a sheet: "`entity=` .. 128", "`value=` .. 1,024"
abbrev pub LINES : ℕ
LINES = 128

abbrev pub VALUES : ℕ
VALUES = 1024

-- the words of the table of parents' sets
abbrev pub NEAR : ℕ
NEAR = 384

-- marks: one for each line, then one for all entities that are not listed; here, for lines whose parents are `?`; then for parents whose numbers are
-- past the table of those met
abbrev pub HIDDEN : ℕ
HIDDEN = 129

abbrev pub FAR : ℕ
FAR = 130

-- so many are they
abbrev pub MARKS : ℕ
MARKS = 131

-- the entity lines that the words hold
unfoldable pub line_rows : List ℕ → List (List ℕ)
line_rows a = take LINES (rows_of a ENTITY)

-- the place of the line of the entity with value number v; past the end where it is not listed
unfoldable pub place_of : ℕ → List (List ℕ) → ℕ
place_of v [] = 0
place_of v (r ∷ l) = cond (eqb (at r 0) v) 0 (suc (place_of v l))

-- the parents that set value x names; none where x stands for `?`
abbrev pub named : List (List ℕ) → ℕ → List ℕ
named U x = cond (eqb x mark) [] (r_set [] (value_row (get_or U x [])) (λ l. l))

-- the words w are x, all of them
pub record Filled (x : ℕ) (w : List ℕ) : Type 0 where
  pub is : (v : ℕ) → v < length w → get_or w v 0 ≡ x

-- word v is the place of the line of entity v
pub record Indexed (E : List (List ℕ)) (p : List ℕ) : Type 0 where
  pub is : (v : ℕ) → v < length p → get_or p v 0 ≡ place_of v E

-- word v is the item of the line of entity v that names its parents
pub record Listed (E : List (List ℕ)) (u : List ℕ) : Type 0 where
  pub is : (v : ℕ) → v < length u → place_of v E < length E → get_or u v 0 ≡ at (get_or E (place_of v E) []) 3

-- how many of the first n lines are not marked
unfoldable pub left : ℕ → List ℕ → ℕ
left zero m = 0
left (suc n) m = (1 - get_or m n 0) + left n m

-- the first t words of q are the entities of the marked lines
pub record Queue (E : List (List ℕ)) (m q : List ℕ) (t : ℕ) : Type 0 where
  pub lines : length E < HIDDEN
  pub marks : FAR < length m
  pub room : length E ≤ length q
  pub few : t + left (length E) m ≤ length E
  pub queued : (k : ℕ) → k < length E → 1 ≤ get_or m k 0 → (j : ℕ) × (j < t) × (place_of (get_or q j 0) E ≡ k)
  pub back : (j : ℕ) → j < t → (place_of (get_or q j 0) E < length E) × (1 ≤ get_or m (place_of (get_or q j 0) E) 0)

-- the place of v is marked too, no other, and v, if its line was not marked, is queued behind the others
pub record Grown (E : List (List ℕ)) (v : ℕ) (m q : List ℕ) (t : ℕ) (m' q' : List ℕ) (t' : ℕ) : Type 0 where
  pub queue : Queue E m' q' t'
  pub long : length m' ≡ length m
  pub longq : length q' ≡ length q
  pub more : t ≤ t'
  pub same : (j : ℕ) → j < t → get_or q' j 0 ≡ get_or q j 0
  pub kept : (k : ℕ) → 1 ≤ get_or m k 0 → 1 ≤ get_or m' k 0
  pub full : 1 ≤ get_or m' (place_of v E) 0
  pub only : (k : ℕ) → k ≤ length E → 1 ≤ get_or m' k 0 → (1 ≤ get_or m k 0) ⊎ (place_of v E ≡ k)
  pub hidden : 1 ≤ get_or m' HIDDEN 0 → 1 ≤ get_or m HIDDEN 0

-- where item x is `?` this is marked
pub record Opened (x : ℕ) (m m' : List ℕ) : Type 0 where
  pub known : (x ≡ mark → ⊥) → m' ≡ m
  pub unknown : x ≡ mark → m' ≡ set m HIDDEN 1

-- parent y is met: its place is marked, and it is noted, by the table of those met or as past its end
abbrev pub Taken : List (List ℕ) → List ℕ → List ℕ → ℕ → Type 0
Taken E w m y = (1 ≤ get_or m (place_of y E) 0) × (y < length w → 1 ≤ get_or w y 0) × (length w ≤ y → 1 ≤ get_or m FAR 0)

-- what the table notes is met
pub record Spot (E : List (List ℕ)) (w m : List ℕ) : Type 0 where
  pub is : (y : ℕ) → 1 ≤ get_or w y 0 → Taken E w m y

-- the first n of l are met too, no others, and those whose lines were not marked are queued behind the others
pub record Seen (E : List (List ℕ)) (l : List ℕ) (n : ℕ) (w m q : List ℕ) (t : ℕ) (w' m' q' : List ℕ) (t' : ℕ) : Type 0 where
  pub queue : Queue E m' q' t'
  pub spot : Spot E w' m'
  pub longw : length w' ≡ length w
  pub long : length m' ≡ length m
  pub longq : length q' ≡ length q
  pub more : t ≤ t'
  pub same : (j : ℕ) → j < t → get_or q' j 0 ≡ get_or q j 0
  pub kept : (k : ℕ) → 1 ≤ get_or m k 0 → 1 ≤ get_or m' k 0
  pub keptw : (y : ℕ) → 1 ≤ get_or w y 0 → 1 ≤ get_or w' y 0
  pub full : (i : ℕ) → i < n → Taken E w' m' (get_or l i 0)
  pub only : (k : ℕ) → k ≤ length E → 1 ≤ get_or m' k 0 → (1 ≤ get_or m k 0) ⊎ ((i : ℕ) × (i < n) × (place_of (get_or l i 0) E ≡ k))
  pub onlyw : (y : ℕ) → 1 ≤ get_or w' y 0 → (1 ≤ get_or w y 0) ⊎ ((i : ℕ) × (i < n) × (get_or l i 0 ≡ y))
  pub hidden : 1 ≤ get_or m' HIDDEN 0 → 1 ≤ get_or m HIDDEN 0

-- of a set value x whose byte is not 0 the members are met
pub record Spread (U E : List (List ℕ)) (s w m : List ℕ) : Type 0 where
  pub is : (x : ℕ) → 1 ≤ get_or s x 0 → (i : ℕ) → i < length (named U x) → Taken E w m (get_or (named U x) i 0)

-- the parents that item x names are met too
pub record Expanded (U E : List (List ℕ)) (x : ℕ) (s w m q : List ℕ) (t : ℕ) (s' w' m' q' : List ℕ) (t' : ℕ) : Type 0 where
  pub long : length s' ≡ length s
  pub seen : Seen E (named U x) (length (named U x)) w m q t w' m' q' t'
  pub spread : Spread U E s' w' m'

-- v itself or one of its ancestors
abbrev pub Self : List (List ℕ) → List (List ℕ) → ℕ → ℕ → Type 0
Self U E v x = (x ≡ v) ⊎ (mem_n x (ancestors U E v) ≡ true)

-- the parents on line k are `?`
unfoldable pub unknown_at : List (List ℕ) → ℕ → Bool
unknown_at E k = eqb (at (get_or E k []) 3) mark

-- the marks say which lines v reaches, its own among them, whether one that is not listed, and whether the parents on one of the lines are `?`
pub record Reached (U E : List (List ℕ)) (v : ℕ) (m : List ℕ) : Type 0 where
  pub only : (k : ℕ) → k ≤ length E → 1 ≤ get_or m k 0 → (x : ℕ) × (place_of x E ≡ k) × Self U E v x
  pub all : (x : ℕ) → Self U E v x → 1 ≤ get_or m (place_of x E) 0
  pub hidden : 1 ≤ get_or m HIDDEN 0 → (k : ℕ) × (k < length E) × (1 ≤ get_or m k 0) × (unknown_at E k ≡ true)
  pub shown : (k : ℕ) → k < length E → 1 ≤ get_or m k 0 → unknown_at E k ≡ true → 1 ≤ get_or m HIDDEN 0

-- the table says which values are ancestors of v; of one past its end there is a mark
pub record Found (U E : List (List ℕ)) (v : ℕ) (w m : List ℕ) : Type 0 where
  pub reached : Reached U E v m
  pub only : (y : ℕ) → 1 ≤ get_or w y 0 → mem_n y (ancestors U E v) ≡ true
  pub all : (y : ℕ) → mem_n y (ancestors U E v) ≡ true → y < length w → 1 ≤ get_or w y 0
  pub far : (y : ℕ) → mem_n y (ancestors U E v) ≡ true → length w ≤ y → 1 ≤ get_or m FAR 0

-- ---- what is asked of what was found

-- place i is marked, and f holds of it
unfoldable pub marked_at : (ℕ → Bool) → List ℕ → ℕ → Bool
marked_at f m i = not (eqb (get_or m i 0) 0) && f i

-- f holds of one of the marked places from i on, n of them
unfoldable pub any_marked : (ℕ → Bool) → List ℕ → ℕ → ℕ → Bool
any_marked f m i zero = false
any_marked f m i (suc n) = marked_at f m i || any_marked f m (suc i) n

-- t is a parent on line k
unfoldable pub names_at : List (List ℕ) → List (List ℕ) → ℕ → ℕ → Bool
names_at U E t k = mem_n t (parents_in U E (get_or E k []))

-- t was met
unfoldable pub is_met : List (List ℕ) → List (List ℕ) → List ℕ → List ℕ → ℕ → Bool
is_met U E w m t = cond (ltb t (length w)) (not (eqb (get_or w t 0) 0)) (not (eqb (get_or m FAR 0) 0) && any_marked (names_at U E t) m 0 (length E))

-- one of these was
unfoldable pub any_met : List (List ℕ) → List (List ℕ) → List ℕ → List ℕ → List ℕ → Bool
any_met U E w m [] = false
any_met U E w m (t ∷ l) = is_met U E w m t || any_met U E w m l
