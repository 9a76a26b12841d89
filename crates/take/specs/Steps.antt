-- What the reading of a sheet keeps, line after line, and what it leaves.
use Rattle.std.specs.Prelude.{◌≡◌, cond, List, ℕ, ◌+◌, ◌*◌, ◌≤◌, ◌<◌, eqb, length, get_or, drop, set}
use Rattle.sheet.specs.Forms.{Mode, row_of, key_of, TYPE, VALUE, DAY, NODE, POLICY}
use Rattle.sheet.specs.State.{State, empty}
use Rattle.sheet.specs.Sheet.{fault, more}
use Rattle.table.specs.Layout.{RUN, MADE, TOP, TYPEDEPTHS, VALUEDEPTHS, NODEDEPTHS, USES, SIZES, SLOTS, SPENT, part, Last, Sound, held}
use Rattle.fits.specs.Fit.{Known}
use Rattle.uses.specs.declared.Under as U
use Rattle.uses.specs.Under.{under_row, spent_on, Noted}

-- a line's depth, where lines of its key have one; a node is not yet used
unfoldable pub with_depth : List ℕ → ℕ → ℕ → ℕ → List ℕ
with_depth b k n d =
    cond (eqb k TYPE) (set b (TYPEDEPTHS + n) d)
    (cond (eqb k VALUE) (set b (VALUEDEPTHS + n) d)
    (cond (eqb k NODE) (set (set b (NODEDEPTHS + n) d) (USES + n) 0) b))

-- what is under a node, where it is noted
unfoldable pub with_under : List ℕ → ℕ → U.Under → List ℕ
with_under b n u = set (set b (SIZES + n) u.size) (SLOTS + n) u.slots

-- what is noted of the line of key k that the words from the heap's end up to e are: what is under a node, the uses with a policy
unfoldable pub notes_of : List ℕ → List ℕ → ℕ → ℕ → List ℕ
notes_of a b k e =
    cond (eqb k NODE) (with_under b (get_or a NODE 0) (under_row a b (part a (get_or a TOP 0) e)))
    (cond (eqb k POLICY) (set b SPENT (spent_on a b (part a (get_or a TOP 0) e))) b)

-- and its depth d
unfoldable pub with_notes : List ℕ → List ℕ → ℕ → ℕ → ℕ → List ℕ
with_notes a b k e d = with_depth (notes_of a b k e) k (get_or a k 0) d

-- a state that lines without fault lead to
pub data Reached (m : Mode) : State → Type 0 where
  before_any : Reached m empty
  after_line : {s : State} (l : List ℕ) → Reached m s → fault s (row_of m l) ≡ 0 → Reached m (more s (row_of m l))

-- between two lines: the rows are sound, no policy runs and nothing was made, what is remembered of pairs is true and is nothing before the entities, and
-- what is noted of nodes is so
pub record Ready (a b : List ℕ) : Type 0 where
  pub sound : Sound a
  pub none : get_or a RUN 0 ≡ 0
  pub made : get_or a MADE 0 ≡ 0
  pub known : Known a b
  pub noted : Noted a b
  pub blank : Last a VALUE → (i : ℕ) → i < TYPEDEPTHS → get_or b i 0 ≡ 0
  pub long : 16384 ≤ length b

-- the words that rows and nodes take, two bytes for a word and six more for a node
abbrev pub taken : List ℕ → ℕ
taken a = 2 * get_or a TOP 0 + 6 * get_or a NODE 0

-- a line of this row and so many bytes read: number f, and where it is 0 the state with the line; `day` has a letter less than the other keys, and its
-- row takes that much less
pub record Taken (sheet row a b a' b' : List ℕ) (bytes f : ℕ) : Type 0 where
  pub number : f ≡ fault (held sheet a b) row
  pub state : f ≡ 0 → held sheet a' b' ≡ more (held sheet a b) row
  pub ready : f ≡ 0 → Ready a' b'
  pub room : f ≡ 0 → taken a' ≤ taken a + bytes + 1
  pub day : key_of row ≡ DAY → f ≡ 0 → taken a' ≤ taken a + bytes
  pub rest_a : drop 16384 a' ≡ drop 16384 a
  pub rest_b : drop 16384 b' ≡ drop 16384 b
