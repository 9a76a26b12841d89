-- Where the rows of a sheet lie in the lent words, and what state the words hold. The first slice, `rows`: counts, for each key the places
-- where its rows begin, then the rows themselves. The second, `work`, while a sheet is read: pairs found to fit, depths, uses of nodes.
use Rattle.std.specs.Prelude.{cond, List, [], ◌∷◌, ◌≡◌, ℕ, zero, suc, ◌+◌, ◌≤◌, ◌<◌, eqb, length, get_or, take, drop, set, replicate}
use Rattle.sheet.specs.Forms.{tag, items, at, SHEET, TEXT, KIND, TYPE, SHAPE, VALUE, ENTITY, PRINCIPAL, ACTION, RESOURCE, CONTEXT, DAY, NODE, POLICY, LINK, TERM}
use Rattle.sheet.specs.State.{State}
use Rattle.words.specs.Log.{room}
pub use Rattle.words.specs.Log.{part}
use Rattle.forms.specs.Keys as K
pub use Rattle.forms.specs.Keys.{RUN, MADE, heap}
unfoldable pub use Rattle.forms.specs.Keys.{limit, bases, base}

-- ---- rows

-- a word for each key says how many lines it has; then how many policies run (RUN), how many values were made (MADE), and where the next row begins
abbrev pub TOP : ℕ
TOP = MADE + 1

-- the words of a policy's row, tag, id, effect and node, and of that of one that runs: its link's two values after them
abbrev pub POLICY_WORDS : ℕ
POLICY_WORDS = 4

abbrev pub RUN_WORDS : ℕ
RUN_WORDS = POLICY_WORDS + 2

-- the greatest number of rows of each key, of policies that run and of made values
unfoldable pub limits : List ℕ
limits = K.limits

-- the row whose beginning is said by word i: it ends where the next one begins
unfoldable pub row_at : List ℕ → ℕ → List ℕ
row_at w i = part w (get_or w i 0) (get_or w (suc i) 0)

-- n rows, from the one of word i on
unfoldable pub rows_at : List ℕ → ℕ → ℕ → List (List ℕ)
rows_at w i zero = []
rows_at w i (suc n) = row_at w i ∷ rows_at w (suc i) n

-- the rows of key k, as words
unfoldable pub rows_of : List ℕ → ℕ → List (List ℕ)
rows_of w k = rows_at w (base k) (get_or w k 0)

-- a text's row holds its place in the sheet, start and length; the state's row holds its bytes
abbrev pub text_row : List ℕ → List ℕ → List ℕ
text_row sheet r = tag r ∷ part sheet (at r 0) (at r 0 + at r 1)

abbrev pub text_rows : List ℕ → List (List ℕ) → List (List ℕ)
text_rows sheet [] = []
text_rows sheet (r ∷ rs) = text_row sheet r ∷ text_rows sheet rs

-- the row of a line of key k that words hold
abbrev pub row_in : List ℕ → ℕ → List ℕ → List ℕ
row_in sheet k r = cond (eqb k TEXT) (text_row sheet r) r

unfoldable pub lines_held : List ℕ → List ℕ → List (List (List ℕ))
lines_held sheet w =
    rows_of w SHEET ∷ text_rows sheet (rows_of w TEXT) ∷ rows_of w KIND ∷ rows_of w TYPE ∷ rows_of w SHAPE ∷ rows_of w VALUE ∷ rows_of w ENTITY
    ∷ rows_of w PRINCIPAL ∷ rows_of w ACTION ∷ rows_of w RESOURCE ∷ rows_of w CONTEXT ∷ rows_of w DAY ∷ rows_of w NODE ∷ rows_of w POLICY ∷ rows_of w LINK ∷ rows_of w TERM ∷ []

-- ---- work

-- words 0 to 4,095 remember pairs of a value and a type that fit, one bit each; then the depths of types, values and nodes; then uses of nodes;
-- then how many nodes are under each node, and which slots; then how many uses of nodes the policies have
abbrev pub TYPEDEPTHS : ℕ
TYPEDEPTHS = 4096

abbrev pub VALUEDEPTHS : ℕ
VALUEDEPTHS = 4224

abbrev pub NODEDEPTHS : ℕ
NODEDEPTHS = 5248

abbrev pub USES : ℕ
USES = 6272

abbrev pub SIZES : ℕ
SIZES = 7296

abbrev pub SLOTS : ℕ
SLOTS = 8320

abbrev pub SPENT : ℕ
SPENT = 9344

-- lines of the other keys refer to none of their own key: depth 1
abbrev pub ones : List ℕ → ℕ → List ℕ
ones w k = replicate (get_or w k 0) 1

abbrev pub depths_at : List ℕ → ℕ → ℕ → List ℕ
depths_at b i n = take n (drop i b)

-- where the depths of a key's lines stand, 0 where they are all 1
unfoldable pub depth_bases : List ℕ
depth_bases = 0 ∷ 0 ∷ 0 ∷ TYPEDEPTHS ∷ 0 ∷ VALUEDEPTHS ∷ 0 ∷ 0 ∷ 0 ∷ 0 ∷ 0 ∷ 0 ∷ NODEDEPTHS ∷ 0 ∷ 0 ∷ 0 ∷ []

unfoldable pub depth_base : ℕ → ℕ
depth_base k = get_or depth_bases k 0

abbrev pub depths_in : List ℕ → List ℕ → ℕ → List ℕ
depths_in w b k = cond (eqb (depth_base k) 0) (ones w k) (depths_at b (depth_base k) (get_or w k 0))

unfoldable pub depths_held : List ℕ → List ℕ → List (List ℕ)
depths_held w b =
    ones w SHEET ∷ ones w TEXT ∷ ones w KIND ∷ depths_at b TYPEDEPTHS (get_or w TYPE 0) ∷ ones w SHAPE ∷ depths_at b VALUEDEPTHS (get_or w VALUE 0) ∷ ones w ENTITY
    ∷ ones w PRINCIPAL ∷ ones w ACTION ∷ ones w RESOURCE ∷ ones w CONTEXT ∷ ones w DAY ∷ depths_at b NODEDEPTHS (get_or w NODE 0) ∷ ones w POLICY ∷ ones w LINK ∷ ones w TERM ∷ []

-- the state that the words hold
unfoldable pub held : List ℕ → List ℕ → List ℕ → State
held sheet w b = record { lines = lines_held sheet w; depths = depths_held w b; used = depths_at b USES (get_or w NODE 0) }

-- ---- a text's bytes, and a row more

-- the bytes of text t
unfoldable pub text_at : List ℕ → List ℕ → ℕ → List ℕ
text_at sheet w t = items (get_or (text_rows sheet (rows_of w TEXT)) t [])

-- the words from the heap's end up to e are a row of key k: its beginning and its end are stored, then how many rows the key has, and the heap's end
unfoldable pub with_row : List ℕ → ℕ → ℕ → List ℕ
with_row w k e =
    set (set (set (set w (base k + get_or w k 0) (get_or w TOP 0)) (suc (base k + get_or w k 0)) e) k (suc (get_or w k 0))) TOP e

-- no key after k has a row
pub record Last (w : List ℕ) (k : ℕ) : Type 0 where
  pub last : (j : ℕ) → k < j → j < TOP → get_or w j 0 ≡ 0

-- what the writers keep: no key has too many rows, each row lies in the heap, and the last row of the last key ends where the heap does
pub record Sound (w : List ℕ) : Type 0 where
  pub few : (k : ℕ) → k < TOP → get_or w k 0 ≤ limit k
  pub low : (k i : ℕ) → k < TOP → i < get_or w k 0 → heap ≤ get_or w (base k + i) 0
  pub high : (k i : ℕ) → k < TOP → i < get_or w k 0 → get_or w (suc (base k + i)) 0 ≤ get_or w TOP 0
  pub ends : (k : ℕ) → k < TOP → 1 ≤ get_or w k 0 → Last w k → get_or w (base k + get_or w k 0) 0 ≡ get_or w TOP 0
  pub over : heap ≤ get_or w TOP 0
  pub long : room ≤ length w
