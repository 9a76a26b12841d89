-- The rows of a sheet in words of their own: first the rows of principal and resource, each with a text of its own, then all rows as they stand in the
-- words a, so many words further on.
use Rattle.std.specs.Prelude.{◌≡◌, cond, List, [], ◌∷◌, ℕ, suc, ◌+◌, ◌≤◌, ◌<◌, ltb, length, get_or}
use Rattle.words.specs.Log.{part, room}
use Rattle.sheet.specs.Forms.{PRINCIPAL, RESOURCE}
use Rattle.table.specs.Layout.{TOP, heap, base, limit, rows_of}

-- the words of a row of principal or resource, tag, kind and text, and of both
abbrev pub LINE : ℕ
LINE = 3

abbrev pub AHEAD : ℕ
AHEAD = 6

-- where what stood at a place stands now
unfoldable pub moved : ℕ → ℕ
moved x = cond (ltb room x) x (x + AHEAD)

-- a row of principal or resource with this text
abbrev pub line_with : List ℕ → ℕ → List ℕ
line_with r t = get_or r 0 0 ∷ get_or r 1 0 ∷ t ∷ []

-- before e stand all words that say where the rows of key k begin in a, and where the last one ends
pub record Ends (a : List ℕ) (k e : ℕ) : Type 0 where
  pub most : e ≤ heap
  pub over : (i : ℕ) → i ≤ get_or a k 0 → base k + i < heap → base k + i < e

-- from w to w' the places of the rows of key k became those of a, moved
pub record MovesRows (k : ℕ) (a w w' : List ℕ) : Type 0 where
  pub long : length w' ≡ length w
  pub moves : (i : ℕ) → i ≤ get_or a k 0 → base k + i < heap → get_or w' (base k + i) 0 ≡ moved (get_or a (base k + i) 0)
  pub below : (i : ℕ) → i < base k → get_or w' i 0 ≡ get_or w i 0
  pub above : (i : ℕ) → heap ≤ i → get_or w' i 0 ≡ get_or w i 0

-- from w to w' the places of all rows, and of the heap's end, became those of a, moved
pub record Moves (a w w' : List ℕ) : Type 0 where
  pub long : length w' ≡ length w
  pub top : get_or w' TOP 0 ≡ moved (get_or a TOP 0)
  pub moves : (k i : ℕ) → k < TOP → i ≤ get_or a k 0 → i ≤ limit k → get_or w' (base k + i) 0 ≡ moved (get_or a (base k + i) 0)
  pub below : (i : ℕ) → i < TOP → get_or w' i 0 ≡ get_or w i 0
  pub above : (i : ℕ) → heap ≤ i → get_or w' i 0 ≡ get_or w i 0

-- the words w hold the rows of a, so many words further on
pub record Shifted (a w : List ℕ) : Type 0 where
  pub long : length w ≡ room
  pub counts : (k : ℕ) → k < TOP → get_or w k 0 ≡ get_or a k 0
  pub top : get_or w TOP 0 ≡ moved (get_or a TOP 0)
  pub places : (k i : ℕ) → k < TOP → i ≤ get_or a k 0 → i ≤ limit k → get_or w (base k + i) 0 ≡ moved (get_or a (base k + i) 0)
  pub rows : (i : ℕ) → heap ≤ i → i < get_or a TOP 0 → get_or w (i + AHEAD) 0 ≡ get_or a i 0

-- from w to w' row r became the first row of key k, from place s on
pub record Lays (k s : ℕ) (r w w' : List ℕ) : Type 0 where
  pub long : length w' ≡ length w
  pub first : get_or w' (base k) 0 ≡ s
  pub next : get_or w' (suc (base k)) 0 ≡ s + LINE
  pub row : part w' s (s + LINE) ≡ r
  pub index : (i : ℕ) → i < heap → (i ≡ base k → ⊥) → (i ≡ suc (base k) → ⊥) → get_or w' i 0 ≡ get_or w i 0
  pub below : (i : ℕ) → heap ≤ i → i < s → get_or w' i 0 ≡ get_or w i 0
  pub above : (i : ℕ) → s + LINE ≤ i → get_or w' i 0 ≡ get_or w i 0

-- a row of key k from place s on, the first of its key
pub record Stands (k s : ℕ) (r w : List ℕ) : Type 0 where
  pub first : get_or w (base k) 0 ≡ s
  pub next : get_or w (suc (base k)) 0 ≡ s + LINE
  pub row : part w s (s + LINE) ≡ r

-- no place of the rows of principal and resource
pub record Others (i : ℕ) : Type 0 where
  pub principal : i ≡ base PRINCIPAL → ⊥
  pub principal_end : i ≡ suc (base PRINCIPAL) → ⊥
  pub resource : i ≡ base RESOURCE → ⊥
  pub resource_end : i ≡ suc (base RESOURCE) → ⊥

-- the words w hold the rows of a with the text p of the principal and q of the resource
pub record Laid (a : List ℕ) (p q : ℕ) (w : List ℕ) : Type 0 where
  pub long : length w ≡ room
  pub counts : (k : ℕ) → k < TOP → get_or w k 0 ≡ get_or a k 0
  pub top : get_or w TOP 0 ≡ moved (get_or a TOP 0)
  pub places : (k i : ℕ) → k < TOP → i ≤ get_or a k 0 → i ≤ limit k → Others (base k + i) → get_or w (base k + i) 0 ≡ moved (get_or a (base k + i) 0)
  pub rows : (i : ℕ) → heap ≤ i → i < get_or a TOP 0 → get_or w (i + AHEAD) 0 ≡ get_or a i 0
  pub principal : Stands PRINCIPAL heap (line_with (get_or (rows_of a PRINCIPAL) 0 []) p) w
  pub resource : Stands RESOURCE (heap + LINE) (line_with (get_or (rows_of a RESOURCE) 0 []) q) w

-- there is room for them
pub record Roomy (a : List ℕ) : Type 0 where
  pub over : heap ≤ get_or a TOP 0
  pub under : get_or a TOP 0 + AHEAD ≤ room
  pub long : room ≤ length a
