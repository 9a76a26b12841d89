-- What has been written into lent words.
use Rattle.std.specs.Prelude.{◌≡◌, cond, List, [], ◌∷◌, ℕ, zero, suc, ◌+◌, ◌-◌, ◌*◌, ◌≤◌, ◌<◌, leb, eqb, length, take, drop, Option, Some, None}
use Rattle.std.proofs.Math.Option as Math
use Rattle.std.proofs.Math.Option.{none, some}
use Rattle.words.specs.Log.{part, room}
use Rattle.sheet.specs.Forms.{Mode, Headed, item, items_from, counted, joined, or_empty, form_of, key_of, row_for, row_headed, no_tag, first_node, TEXT, NODE}
use Rattle.table.specs.Layout.{text_row}
use Rattle.scan.specs.declared.Cursor.{Cursor}
use Rattle.line.specs.declared.Head.{Head}
use Rattle.scan.specs.Places.{item_end, items_at}
use Rattle.forms.specs.Rows.{NUMBER, slot_of}
use Rattle.forms.specs.Tags.{TEXT_LINE, LONG_VALUE}

-- the items from place j on of a line of tag t, none where there may not be so many
abbrev pub counted_from : Mode → ℕ → ℕ → List (List ℕ) → Math.Option (List ℕ)
counted_from m t j fs = cond (counted t (j + length fs)) (items_from m t j fs) none

-- what is said of so many words: of 0 where nothing was written, and of at least one where something was
abbrev pub Wrote : (ℕ → Type 0) → Option ℕ → Type 0
Wrote P None = P 0
Wrote P (Some r) = P r × (1 ≤ r)

-- none where nothing was written
abbrev pub given : ℕ → List ℕ → Math.Option (List ℕ)
given zero l = none
given (suc n) l = some l

-- words below k, and those that no row may take, are as they were
pub record Kept (was is : List ℕ) (k : ℕ) : Type 0 where
  pub below : take k is ≡ take k was
  pub rest : drop room is ≡ drop room was

-- an item, of r words from k on
pub record Item (o : Math.Option (List ℕ)) (bytes was is : List ℕ) (slot k r : ℕ) : Type 0 where
  pub item : o ≡ given r (take r (drop k is))
  pub kept : Kept was is k
  pub few : r ≤ 2
  pub two : r ≡ 2 → slot ≡ NUMBER
  pub wide : 1 ≤ r → 1 ≤ length bytes

-- the item that begins at byte a, of r words from k on; the next one begins at byte n
pub record After (m : Mode) (s was is : List ℕ) (a slot k n r : ℕ) : Type 0 where
  pub next : n ≡ item_end s a + 1
  pub put : Item (item m (slot_of slot) (part s a (item_end s a))) (part s a (item_end s a)) was is slot k r

-- items of form t from byte e on of so many bytes, up to word r, which is 0 where one is malformed; one form alone has a long, of two words
pub record Items (o : Math.Option (List ℕ)) (was is : List ℕ) (t k r e bytes : ℕ) : Type 0 where
  pub items : o ≡ given r (take (r - k) (drop k is))
  pub kept : Kept was is k
  pub tight : 2 * r + e ≤ 2 * k + bytes + 3
  pub close : (t ≡ LONG_VALUE → ⊥) → 2 * r + e ≤ 2 * k + bytes + 1
  pub grows : 1 ≤ r → k ≤ r

-- a line of key k and heading hd has no form
pub record Headless (k : ℕ) (hd : Headed) : Type 0 where
  pub refused : (m : Mode) → row_headed m k hd ≡ []

-- a line of key k and heading hd, in the bytes s from byte a on, has tag t, and its items stand at the cursor
pub record Tagged (k : ℕ) (hd : Headed) (s : List ℕ) (a t : ℕ) (items : Cursor) : Type 0 where
  pub row : (m : Mode) → row_headed m k hd ≡ row_for m t (items_at s items)
  pub after : a ≤ items.at
  pub near : items.at ≤ length s + 1

-- the same where the first j items, none or one, are written behind the place of the tag, and so many half words are enough for the row
pub record Begun (k : ℕ) (hd : Headed) (bytes : ℕ) (s : List ℕ) (a : ℕ) (was is : List ℕ) (top t j : ℕ) (items : Cursor) : Type 0 where
  pub known : t < no_tag
  pub row : (m : Mode) → row_headed m k hd ≡ or_empty t (joined (some (take j (drop (top + 1) is))) (counted_from m t j (items_at s items)))
  pub kept : Kept was is top
  pub few : j ≤ 1
  pub node : 1 ≤ j → first_node ≤ t
  pub places : j ≤ length (form_of t).items
  pub after : a ≤ items.at
  pub near : items.at ≤ length s + 1
  pub close : length s + 5 - items.at ≤ bytes

-- what a line begins with, or that it has no form, and nothing was written
abbrev pub HeadRead : ℕ → Headed → ℕ → List ℕ → ℕ → List ℕ → List ℕ → ℕ → Option Head → Type 0
HeadRead k hd bytes s a was is top None = Headless k hd × (is ≡ was)
HeadRead k hd bytes s a was is top (Some h) = Begun k hd bytes s a was is top h.tag h.before h.items

-- a row of r words from top on
pub record Row (row was is : List ℕ) (top r bytes : ℕ) : Type 0 where
  pub count : r ≡ length row
  pub words : take r (drop top is) ≡ row
  pub kept : Kept was is top
  pub tight : 2 * r ≤ bytes

-- room for the words of a row of key k whose value has so many bytes: a node has a type of at least one byte and a name of at least two
abbrev pub row_room : ℕ → ℕ → ℕ
row_room k bytes = cond (eqb k NODE) bytes (bytes + 5)

-- the row that words hold: a text's words say where its bytes stand in the sheet
abbrev pub row_from_def : List ℕ → List ℕ → List ℕ
row_from_def sheet [] = []
row_from_def sheet (t ∷ l) = cond (eqb t TEXT_LINE) (text_row sheet (t ∷ l)) (t ∷ l)

-- a text of len bytes from start on
pub record Text (start len : ℕ) (was is : List ℕ) (top r : ℕ) : Type 0 where
  pub words : take r (drop top is) ≡ cond (leb len 128) (TEXT_LINE ∷ start ∷ len ∷ []) []
  pub count : r ≡ cond (leb len 128) 3 0
  pub kept : Kept was is top

-- the row of a line of so many bytes, in r words from top on; a row that is not a text's takes no more than so many half words
pub record Line (sheet row was is : List ℕ) (top r bytes : ℕ) : Type 0 where
  pub words : row_from_def sheet (take r (drop top is)) ≡ row
  pub empty : r ≡ 0 → row ≡ []
  pub full : row ≡ [] → r ≡ 0
  pub kept : Kept was is top
  pub tight : 2 * r ≤ bytes + 1
  pub short : (key_of row ≡ TEXT → ⊥) → 2 * r ≤ bytes
  pub node : key_of row ≡ NODE → 2 * r + 6 ≤ bytes + 1

-- the same where the line's value stands at byte start of whatever sheet
pub record Entry (v : List ℕ) (start : ℕ) (row was is : List ℕ) (top r : ℕ) : Type 0 where
  pub line : (sheet : List ℕ) → v ≡ part sheet start (start + length v) → Line sheet row was is top r (length v + 5)
