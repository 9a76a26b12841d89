-- What a row of the code's table says of its form.
use Rattle.std.specs.Prelude.{◌≡◌, cond, List, [], ◌∷◌, ◌++◌, ℕ, ◌+◌, ◌-◌, ◌/◌, ◌%◌, ltb, eqb, length, get_or}
use Prim.Native.String.{String}
use Rattle.sheet.specs.Ascii.{ascii}
use Rattle.sheet.specs.Bytes.{same}
use Rattle.sheet.specs.Forms.{Slot, entry, line, line_or, line_unknown, word, number, day, nothing, dash, asterisk, Form, TYPE, VALUE, NODE}
use Rattle.forms.specs.declared.Form as D

abbrev pub row : ℕ → ℕ → ℕ → ℕ → ℕ → ℕ → ℕ → ℕ → D.Form
row k n g m a b c d =
    record { key = k; items = n; group = g; from = m; first = a; second = b; third = c; fourth = d }

-- a row from one word: a byte for each of its numbers, the first the lowest
unfoldable pub unpacked : ℕ → D.Form
unpacked w =
    row (w % 256) (w / 256 % 256) (w / 65536 % 256) (w / 16777216 % 256) (w / 4294967296 % 256) (w / 1099511627776 % 256) (w / 281474976710656 % 256)
    (w / 72057594037927936 % 256)

-- ---- what may stand at a place, as a number; the code's constants have the same names

-- below 16: refers to no line
abbrev pub NONE : ℕ
NONE = 0

abbrev pub NUMBER : ℕ
NUMBER = 1

abbrev pub ENTRY : ℕ
ENTRY = 2

abbrev pub KIND_LETTER : ℕ
KIND_LETTER = 3

abbrev pub FIELD_LETTER : ℕ
FIELD_LETTER = 4

abbrev pub BIT : ℕ
BIT = 5

abbrev pub PART_LETTER : ℕ
PART_LETTER = 6

abbrev pub EFFECT : ℕ
EFFECT = 7

abbrev pub DATE : ℕ
DATE = 8

abbrev pub SLOT_LETTER : ℕ
SLOT_LETTER = 9

-- this and a key: a line of it; each of the next and a key: the same or `?`, `-`, `*`
abbrev pub LINE : ℕ
LINE = 16

abbrev pub UNKNOWN : ℕ
UNKNOWN = 32

abbrev pub DASH : ℕ
DASH = 48

abbrev pub STAR : ℕ
STAR = 64

abbrev pub OF_TYPE : ℕ
OF_TYPE = LINE + TYPE

abbrev pub OF_VALUE : ℕ
OF_VALUE = LINE + VALUE

abbrev pub OF_NODE : ℕ
OF_NODE = LINE + NODE

-- the words that may stand at a place are told apart by the first, those of a variable and of a slot by how many follow it
abbrev pub word_code : String → List String → ℕ
word_code w ws =
    cond (same (ascii w) (ascii "e")) KIND_LETTER
    (cond (same (ascii w) (ascii "o")) FIELD_LETTER
    (cond (same (ascii w) (ascii "0")) BIT
    (cond (same (ascii w) (ascii "p")) (cond (eqb (length ws) 1) SLOT_LETTER PART_LETTER) EFFECT)))

unfoldable pub code : Slot → ℕ
code nothing = NONE
code number = NUMBER
code day = DATE
code entry = ENTRY
code (word []) = NONE
code (word (w ∷ ws)) = word_code w ws
code (line k) = LINE + k
code (line_unknown k) = UNKNOWN + k
code (line_or b k) = cond (eqb b dash) DASH STAR + k

abbrev pub places : Form → List Slot
places f = f.items ++ f.group

-- from which place on the first of each group ascend, past all places where they need not
abbrev pub FLAT : ℕ
FLAT = 5

abbrev pub rises_from : Form → ℕ
rises_from f = cond f.ascends f.from FLAT

-- a form as a row of the code's table
unfoldable pub coded : Form → D.Form
coded f =
    row f.key (length f.items) (length f.group) (rises_from f) (code (get_or (places f) 0 nothing)) (code (get_or (places f) 1 nothing))
    (code (get_or (places f) 2 nothing)) (code (get_or (places f) 3 nothing))

-- ---- the same read back

-- what a number that refers to no line stands for
abbrev pub specials : List Slot
specials =
    nothing ∷ number ∷ entry ∷ word ("e" ∷ "a" ∷ []) ∷ word ("o" ∷ "r" ∷ []) ∷ word ("0" ∷ "1" ∷ []) ∷ word ("p" ∷ "a" ∷ "r" ∷ "c" ∷ [])
    ∷ word ("permit" ∷ "forbid" ∷ []) ∷ day ∷ word ("p" ∷ "r" ∷ []) ∷ []

unfoldable pub slot_of : ℕ → Slot
slot_of c =
    cond (ltb c LINE) (get_or specials c nothing)
    (cond (ltb c UNKNOWN) (line (c - LINE))
    (cond (ltb c DASH) (line_unknown (c - UNKNOWN)) (cond (ltb c STAR) (line_or dash (c - DASH)) (line_or asterisk (c - STAR)))))

-- a form's key, how many items it has, how many in its group, from which place on these ascend, and what may stand at its first four places
pub record Shape : Type 0 where
  pub key : ℕ
  pub items : ℕ
  pub group : ℕ
  pub from : ℕ
  pub slots : List Slot

abbrev pub shape : Form → Shape
shape f =
    record {
      key = f.key;
      items = length f.items;
      group = length f.group;
      from = rises_from f;
      slots = get_or (places f) 0 nothing ∷ get_or (places f) 1 nothing ∷ get_or (places f) 2 nothing ∷ get_or (places f) 3 nothing ∷ [];
    }

abbrev pub read : D.Form → Shape
read r =
    record {
      key = r.key;
      items = r.items;
      group = r.group;
      from = r.from;
      slots = slot_of r.first ∷ slot_of r.second ∷ slot_of r.third ∷ slot_of r.fourth ∷ [];
    }

-- the place of a form that place j of a line is, 4 for none, and what may stand there
abbrev pub place_in : D.Form → ℕ → ℕ
place_in r j = cond (ltb j r.items) j (cond (eqb r.group 0) 4 (r.items + (j - r.items) % r.group))

unfoldable pub code_in : D.Form → ℕ → ℕ
code_in r j = get_or (r.first ∷ r.second ∷ r.third ∷ r.fourth ∷ []) (place_in r j) NONE

-- the four places of a row in one word
pub record Packed (r : D.Form) (w : ℕ) : Type 0 where
  pub one : w % 256 ≡ r.first
  pub two : w / 256 % 256 ≡ r.second
  pub three : w / 65536 % 256 ≡ r.third
  pub four : w / 16777216 % 256 ≡ r.fourth
