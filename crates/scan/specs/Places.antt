-- What stands at a place of a sheet: the line, the next item, the next number.
use Rattle.std.specs.Prelude.{◌≡◌, ℕ, suc, ◌+◌, ◌/◌, ◌<◌, ◌≤◌, min, Bool, true, cond, ◌&&◌, List, [], ◌∷◌, length, take, drop, ◌==◌, ◌≢◌, nat_le, nat_lt, slice_index, Option, Some, None}
use Rattle.std.proofs.Math.Option as Math
use Rattle.std.proofs.Math.Option.{none, some}
use Rattle.std.specs.Int.Count.{count_trailing_zeros}
use Rattle.words.specs.Log.{part}
use Rattle.sheet.specs.Bytes.{up_to, split, printable, index}
use Rattle.sheet.specs.Forms.{Mode, keys, word_number, row_of_value, row_of}
use Rattle.sheet.specs.State.{State}
use Rattle.sheet.specs.Sheet.{Reading, reads, ending, line_read, reading, reading_on}
use Rattle.scan.specs.declared.Cursor.{Cursor}
use Rattle.scan.specs.declared.Line as L

abbrev pub place : ℕ → ℕ → Cursor
place k a = record { line = k; at = a }

-- ---- lines

-- a line's key and the byte of its first `=`
abbrev pub Heading : Type 0
Heading = Option (ℕ × ℕ)

abbrev pub keyed : ℕ → Math.Option ℕ → Heading
keyed n none = None
keyed n (some k) = Some (k, n)

-- "The value is the part of the caller's sheet after the first `=`": a line of known bytes with a key before its first `=`
unfoldable pub heading_of : List ℕ → Heading
heading_of l =
    cond (printable l && nat_lt (up_to 61 l) (length l)) (keyed (up_to 61 l) (word_number (take (up_to 61 l) l) keys)) None

-- the key before the first `=`, whatever follows
unfoldable pub start_of : List ℕ → Heading
start_of s = cond (nat_lt (up_to 61 s) (length s)) (keyed (up_to 61 s) (word_number (take (up_to 61 s) s) keys)) None

abbrev pub is_printable : ℕ → Bool
is_printable x = nat_le 32 x && nat_le x 126

-- how many bytes stand before the first that is not printable
abbrev pub plain_to : List ℕ → ℕ
plain_to [] = 0
plain_to (x ∷ l) = cond (is_printable x) (suc (plain_to l)) 0

-- marks of eight bytes: 0 where all are printable, else as many eights of zeros as bytes before the first that is not
pub record Marked (l : List ℕ) (m : ℕ) : Type 0 where
  pub none : m ≡ 0 → plain_to l ≡ 8
  pub some : (m ≢ 0) → plain_to l < 8
  pub before : count_trailing_zeros 64 m / 8 ≡ plain_to l

-- the next line's number, counted up to 2^64 - 1
abbrev pub line_after : ℕ → ℕ
line_after k = min (k + 1) 18446744073709551615

-- a line that begins at the cursor and ends at byte e
abbrev pub entered : Cursor → ℕ → Heading → L.Line
entered c e (Some (k, n)) = L.TheVariants.Entry k (place c.line (c.at + n)) e (place (line_after c.line) (e + 1))
entered c e None = L.TheVariants.Faulty

-- "Lines end in byte 10": what follows the last line end is no line, and must be empty. A faulty line is refused with 3, "form .. wrong"
unfoldable pub line_to : List ℕ → Cursor → ℕ → L.Line
line_to s c e =
    cond (nat_lt e (length s)) (entered c e (heading_of (part s c.at e)))
    (cond (nat_lt c.at (length s)) L.TheVariants.Faulty L.TheVariants.End)

abbrev pub line_at : List ℕ → Cursor → L.Line
line_at s c = line_to s c (c.at + up_to 10 (drop c.at s))

-- ---- items of a value, whose bytes count from 0

-- an item: its end, and the cursor at the next item
abbrev pub Item : Type 0
Item = Option (ℕ × Cursor)

-- an index in front of some bytes: its number, and how many bytes it takes
abbrev pub Leading : Type 0
Leading = Option (ℕ × ℕ)

-- an item read as an index, and the cursor at the next item
abbrev pub Counted : Type 0
Counted = Option (ℕ × Cursor)

-- the parts from a place on; none past the end
unfoldable pub parts_from : ℕ → List ℕ → ℕ → List (List ℕ)
parts_from b s a = cond (nat_le a (length s)) (split b (drop a s)) []

-- the items from the one on that begins at a cursor
abbrev pub items_at : List ℕ → Cursor → List (List ℕ)
items_at s c = parts_from 44 s c.at

-- the end of the item that begins at a byte
abbrev pub item_end : List ℕ → ℕ → ℕ
item_end s a = a + up_to 44 (drop a s)

-- the first of the items at a cursor
unfoldable pub item_at : List ℕ → Cursor → Item
item_at s c = cond (nat_le c.at (length s)) (Some (item_end s c.at, place c.line (item_end s c.at + 1))) None

-- the bytes before the first comma
abbrev pub lead : List ℕ → List ℕ
lead l = take (up_to 44 l) l

-- they as an index, and how many they are
abbrev pub told : ℕ → Math.Option ℕ → Leading
told k none = None
told k (some n) = Some (n, k)

abbrev pub index_in : List ℕ → Leading
index_in s = told (up_to 44 s) (index (lead s))

-- the index n of the first i bytes, where a comma follows or the end
abbrev pub ended_at : List ℕ → ℕ → ℕ → Leading
ended_at s n i = cond (nat_lt i (length s)) (cond (slice_index s i == 44) (Some (n, i)) None) (Some (n, i))

-- the item at a cursor as an index
abbrev pub handed : Cursor → Leading → Counted
handed c (Some (n, k)) = Some (n, place c.line (c.at + k + 1))
handed c None = None

unfoldable pub number_at : List ℕ → Cursor → Counted
number_at s c = cond (nat_le c.at (length s)) (handed c (index_in (drop c.at s))) None

-- ---- what each case of an answer is to the definition of the sheet

-- the row of a line, empty where its form is wrong
abbrev pub row_by : Mode → List ℕ → Heading → List ℕ
row_by m l (Some (k, n)) = row_of_value m k (drop (n + 1) l)
row_by m l None = []

-- the reading from line i on: the line's row and the lines after it; refusal 3, "form .. wrong"; the end of the sheet
abbrev pub reading_by : Mode → State → ℕ → List ℕ → L.Line → Reading
reading_by m st i s (L.TheVariants.Entry k equals e next) =
    line_read st i (row_of_value m k (part s (equals.at + 1) e)) (reading m (split 10 (drop next.at s)))
reading_by m st i s L.TheVariants.Faulty = reads st 3 i
reading_by m st i s L.TheVariants.End = ending st i

-- the items left: the one that was read and those after it
abbrev pub items_by : List ℕ → Cursor → Item → List (List ℕ)
items_by s c (Some (e, next)) = part s c.at e ∷ items_at s next
items_by s c None = []

-- an index, of digits or of an item: none, which is refusal 3, where it is malformed
abbrev pub lead_of : Leading → Math.Option ℕ
lead_of (Some (n, k)) = some n
lead_of None = none

abbrev pub index_by : Counted → Math.Option ℕ
index_by (Some (n, next)) = some n
index_by None = none

abbrev pub first_index : List (List ℕ) → Math.Option ℕ
first_index [] = none
first_index (x ∷ l) = index x

-- ---- the promises of those that read a line, an item or a number

-- the row of each line that begins with these bytes
pub record HeadingRead (s : List ℕ) (r : Heading) : Type 0 where
  pub is : r ≡ start_of s
  pub row : (m : Mode) (n : ℕ) → up_to 61 s < n → n ≤ length s → printable (take n s) ≡ true → row_of m (take n s) ≡ row_by m (take n s) r

pub record LineRead (s : List ℕ) (c : Cursor) (r : L.Line) : Type 0 where
  pub is : r ≡ line_at s c
  pub reads_on : (m : Mode) (st : State) (i : ℕ) → reading_on m (split 10 (drop c.at s)) st i ≡ reading_by m st i s r

pub record ItemRead (s : List ℕ) (c : Cursor) (r : Item) : Type 0 where
  pub is : r ≡ item_at s c
  pub items : items_at s c ≡ items_by s c r

-- the digit at a byte, or none where none stands there
pub record DigitRead (s : List ℕ) (i : ℕ) (r : Option ℕ) : Type 0 where
  pub there : (d : ℕ) → r ≡ Some d → (i < length s) × (d + 48 ≡ slice_index s i) × (d ≤ 9)
  pub none_there : r ≡ None → i < length s → 48 ≤ slice_index s i → slice_index s i ≤ 57 → ⊥

pub record LeadingRead (s : List ℕ) (r : Leading) : Type 0 where
  pub is : r ≡ index_in s
  pub index_is : lead_of r ≡ index (lead s)

pub record NumberRead (s : List ℕ) (c : Cursor) (r : Counted) : Type 0 where
  pub is : r ≡ number_at s c
  pub index_is : first_index (items_at s c) ≡ index_by r
