-- Document 01, "The sheet": keys, their constructors and operations, and what stands at each place of a line, as one table.
-- A line is read as a row of numbers: its form's number in the table (the tag), then its items.
use Rattle.std.specs.Prelude.{Bool, true, false, cond, ◌&&◌, ◌||◌, List, [], ◌∷◌, ◌++◌, ℕ, suc, ◌-◌, ◌/◌, ◌%◌, leb, ltb, eqb, length, get_or, take, drop}
use Rattle.std.proofs.Math.Option.{Option, none, some}
use Prim.Native.String.{String}
use Rattle.sheet.specs.Ascii.{ascii}
use Rattle.sheet.specs.Bytes.{up_to, split, same, printable, index, long, date}

-- the two entries
pub data Mode : Type 0 where
  partial complete : Mode

-- ---- keys, in their order

unfoldable pub keys : List String
keys = "sheet" ∷ "text" ∷ "kind" ∷ "type" ∷ "shape" ∷ "value" ∷ "entity" ∷ "principal" ∷ "action" ∷ "resource" ∷ "context" ∷ "day" ∷ "node" ∷ "policy" ∷ "link" ∷ "term" ∷ []

abbrev pub SHEET : ℕ
SHEET = 0

abbrev pub TEXT : ℕ
TEXT = 1

abbrev pub KIND : ℕ
KIND = 2

abbrev pub TYPE : ℕ
TYPE = 3

abbrev pub SHAPE : ℕ
SHAPE = 4

abbrev pub VALUE : ℕ
VALUE = 5

abbrev pub ENTITY : ℕ
ENTITY = 6

abbrev pub PRINCIPAL : ℕ
PRINCIPAL = 7

abbrev pub ACTION : ℕ
ACTION = 8

abbrev pub RESOURCE : ℕ
RESOURCE = 9

abbrev pub CONTEXT : ℕ
CONTEXT = 10

abbrev pub DAY : ℕ
DAY = 11

abbrev pub NODE : ℕ
NODE = 12

abbrev pub POLICY : ℕ
POLICY = 13

abbrev pub LINK : ℕ
LINK = 14

abbrev pub TERM : ℕ
TERM = 15

-- past the keys, and past the table of forms below: what stands for a key or a form that there is not
abbrev pub no_key : ℕ
no_key = 16

abbrev pub no_tag : ℕ
no_tag = 54

-- the place of a word in a list; past its end where it is not there
abbrev pub place_in : List ℕ → List String → ℕ
place_in w [] = 0
place_in w (x ∷ l) = cond (same w (ascii x)) 0 (suc (place_in w l))

-- ---- what may stand at a place

pub data Slot : Type 0 where
  entry : Slot  -- `partial` or `complete`, as the entry wants
  line : ℕ → Slot  -- the number of a line of this key
  line_or : ℕ → ℕ → Slot  -- the same, or a mark, a byte: `-` or `*`
  line_unknown : ℕ → Slot  -- the same, or `?` on a partial sheet
  word : List String → Slot  -- one of these words
  number : Slot  -- a long
  day : Slot  -- a date
  nothing : Slot  -- nothing may stand here

-- the bytes `-` and `*`
abbrev pub dash : ℕ
dash = 45

abbrev pub asterisk : ℕ
asterisk = 42

-- a form: its key and constructor, its items, and those that may follow any number of times; whether the first of these ascend, and
-- from which place on
pub record Form : Type 0 where
  pub key : ℕ
  pub name : String
  pub items : List Slot
  pub group : List Slot
  pub ascends : Bool
  pub from : ℕ

abbrev pub plain : ℕ → String → List Slot → Form
plain k w is = record { key = k; name = w; items = is; group = []; ascends = false; from = length is }

abbrev pub with : ℕ → String → List Slot → List Slot → Form
with k w is g = record { key = k; name = w; items = is; group = g; ascends = false; from = length is }

abbrev pub rising : ℕ → String → List Slot → List Slot → Form
rising k w is g = record { key = k; name = w; items = is; group = g; ascends = true; from = length is }

-- "one or more ascending": an item, and any number more; all ascend
abbrev pub rising_all : ℕ → String → Slot → Form
rising_all k w i = record { key = k; name = w; items = i ∷ []; group = i ∷ []; ascends = true; from = 0 }

-- a node's first item is its type
abbrev pub node_with : String → List Slot → List Slot → Form
node_with w is g = with NODE w (line TYPE ∷ is) g

abbrev pub node1 : String → Form
node1 w = node_with w (line NODE ∷ []) []

abbrev pub node2 : String → Form
node2 w = node_with w (line NODE ∷ line NODE ∷ []) []

-- the forms of one key stand together; a form's place is its tag
unfoldable pub forms : List Form
forms =
    plain SHEET "" (entry ∷ [])
    ∷ plain TEXT "" []
    ∷ plain KIND "" (line TEXT ∷ word ("e" ∷ "a" ∷ []) ∷ [])
    ∷ plain TYPE "bool" []
    ∷ plain TYPE "long" []
    ∷ plain TYPE "string" []
    ∷ rising_all TYPE "entity" (line KIND)
    ∷ plain TYPE "set" (line TYPE ∷ [])
    ∷ rising TYPE "record" [] (line TEXT ∷ word ("o" ∷ "r" ∷ []) ∷ line TYPE ∷ [])
    ∷ rising SHAPE "" (line TYPE ∷ line_or dash TYPE ∷ []) (line KIND ∷ [])
    ∷ plain VALUE "bool" (word ("0" ∷ "1" ∷ []) ∷ [])
    ∷ plain VALUE "long" (number ∷ [])
    ∷ plain VALUE "text" (line TEXT ∷ [])
    ∷ plain VALUE "entity" (line KIND ∷ line TEXT ∷ [])
    ∷ rising VALUE "set" [] (line VALUE ∷ [])
    ∷ rising VALUE "record" [] (line TEXT ∷ line VALUE ∷ [])
    ∷ plain ENTITY "" (line VALUE ∷ line_unknown VALUE ∷ line_unknown VALUE ∷ line_unknown VALUE ∷ [])
    ∷ plain PRINCIPAL "" (line KIND ∷ line_unknown TEXT ∷ [])
    ∷ plain ACTION "" (line KIND ∷ line TEXT ∷ [])
    ∷ plain RESOURCE "" (line KIND ∷ line_unknown TEXT ∷ [])
    ∷ plain CONTEXT "" (line TYPE ∷ line_unknown VALUE ∷ [])
    ∷ node_with "lit" (line VALUE ∷ []) []
    ∷ node_with "err" [] []
    ∷ node_with "var" (word ("p" ∷ "a" ∷ "r" ∷ "c" ∷ []) ∷ []) []
    ∷ node2 "and"
    ∷ node2 "or"
    ∷ node2 "eq"
    ∷ node2 "lt"
    ∷ node2 "le"
    ∷ node2 "add"
    ∷ node2 "sub"
    ∷ node2 "mul"
    ∷ node2 "in"
    ∷ node2 "gettag"
    ∷ node2 "hastag"
    ∷ node2 "contains"
    ∷ node2 "all"
    ∷ node2 "any"
    ∷ node_with "if" (line NODE ∷ line NODE ∷ line NODE ∷ []) []
    ∷ node_with "is" (line NODE ∷ line KIND ∷ []) []
    ∷ node_with "like" (line NODE ∷ []) (line_or asterisk TEXT ∷ [])
    ∷ node_with "get" (line NODE ∷ line TEXT ∷ []) []
    ∷ node_with "has" (line NODE ∷ line TEXT ∷ []) []
    ∷ node_with "haspath" (line NODE ∷ line TEXT ∷ []) (line TEXT ∷ [])
    ∷ node1 "not"
    ∷ node1 "neg"
    ∷ node1 "empty"
    ∷ node_with "set" [] (line NODE ∷ [])
    ∷ rising NODE "record" (line TYPE ∷ []) (line TEXT ∷ line NODE ∷ [])
    ∷ node_with "slot" (word ("p" ∷ "r" ∷ []) ∷ []) []
    ∷ plain POLICY "" (line TEXT ∷ word ("permit" ∷ "forbid" ∷ []) ∷ line NODE ∷ [])
    ∷ plain DAY "" (day ∷ [])
    ∷ plain LINK "" (line POLICY ∷ line_or dash VALUE ∷ line_or dash VALUE ∷ [])
    ∷ plain TERM "" (line POLICY ∷ day ∷ day ∷ [])
    ∷ []

-- the tags of `type=bool`, `value=bool`, `node=..,lit` and `node=..,slot` in the table; the other constructors of these keys follow in its order
abbrev pub first_type : ℕ
first_type = 3

-- the row of `type=entity,kind`
abbrev pub alone_row : ℕ → List ℕ
alone_row k = 6 ∷ k ∷ []

abbrev pub first_value : ℕ
first_value = 10

abbrev pub first_node : ℕ
first_node = 21

abbrev pub slot_node : ℕ
slot_node = 49

-- no line has this form
abbrev pub no_form : Form
no_form = plain no_key "" (nothing ∷ [])

unfoldable pub form_of : ℕ → Form
form_of t = get_or forms t no_form

-- what may stand at place j of a line of tag t
abbrev pub slot_in : Form → ℕ → Slot
slot_in f j = cond (ltb j (length f.items)) (get_or f.items j nothing) (get_or f.group ((j - length f.items) % length f.group) nothing)

unfoldable pub slot_at : ℕ → ℕ → Slot
slot_at t j = slot_in (form_of t) j

-- whether a line of this form may have n items
abbrev pub counted_in : Form → ℕ → Bool
counted_in f n = eqb n (length f.items) || (ltb (length f.items) n && ltb 0 (length f.group) && eqb ((n - length f.items) % length f.group) 0)

unfoldable pub counted : ℕ → ℕ → Bool
counted t n = counted_in (form_of t) n

-- ---- items

-- what a mark (`?`, `-`, `*`) is in a row: no index has five digits
abbrev pub mark : ℕ
mark = 10000

abbrev pub one : Option ℕ → Option (List ℕ)
one none = none
one (some n) = some (n ∷ [])

-- a long is two numbers, both below 2^32
abbrev pub two : Option ℕ → Option (List ℕ)
two none = none
two (some n) = some (n / 4294967296 ∷ n % 4294967296 ∷ [])

abbrev pub word_number : List ℕ → List String → Option ℕ
word_number f ws = cond (ltb (place_in f ws) (length ws)) (some (place_in f ws)) none

abbrev pub mark_or : Bool → Option ℕ → Option ℕ
mark_or true o = some mark
mark_or false o = o

abbrev pub is_partial : Mode → Bool
is_partial partial = true
is_partial complete = false

abbrev pub mode_word : Mode → String
mode_word partial = "partial"
mode_word complete = "complete"

-- the numbers of an item, none where it is malformed
abbrev pub item : Mode → Slot → List ℕ → Option (List ℕ)
item m entry f = one (word_number f (mode_word m ∷ []))
item m (line k) f = one (index f)
item m (line_or b k) f = one (mark_or (same f (b ∷ [])) (index f))
item m (line_unknown k) f = one (mark_or (is_partial m && same f (ascii "?")) (index f))
item m (word ws) f = one (word_number f ws)
item m number f = two (long f)
item m day f = one (date f)
item m nothing f = none

abbrev pub joined : Option (List ℕ) → Option (List ℕ) → Option (List ℕ)
joined none o = none
joined (some k) none = none
joined (some k) (some l) = some (k ++ l)

-- the items from place j on of a line of tag t
abbrev pub items_from : Mode → ℕ → ℕ → List (List ℕ) → Option (List ℕ)
items_from m t j [] = some []
items_from m t j (f ∷ fs) = joined (item m (slot_at t j) f) (items_from m t (suc j) fs)

-- ---- rows

-- a line's constructor and its other items: the constructor is the first part of a type or value, the second of a node
pub record Headed : Type 0 where
  pub name : List ℕ
  pub items : List (List ℕ)

abbrev pub headed : List ℕ → List (List ℕ) → Headed
headed w fs = record { name = w; items = fs }

abbrev pub name_first : List (List ℕ) → Headed
name_first [] = headed [] []
name_first (w ∷ fs) = headed w fs

abbrev pub name_second : List (List ℕ) → Headed
name_second [] = headed [] []
name_second (f ∷ []) = headed [] (f ∷ [])
name_second (f ∷ w ∷ fs) = headed w (f ∷ fs)

abbrev pub heading : ℕ → List (List ℕ) → Headed
heading k fs = cond (eqb k NODE) (name_second fs) (cond (eqb k TYPE || eqb k VALUE) (name_first fs) (headed [] fs))

-- the number of the form of a key and constructor; past the table's end where there is none
abbrev pub form_in : ℕ → List ℕ → List Form → ℕ
form_in k w [] = 0
form_in k w (f ∷ fs) = cond (eqb k f.key && same w (ascii f.name)) 0 (suc (form_in k w fs))

unfoldable pub tag_of : ℕ → List ℕ → ℕ
tag_of k w = form_in k w forms

-- the row of a line, empty where its form is wrong
abbrev pub or_empty : ℕ → Option (List ℕ) → List ℕ
or_empty t none = []
or_empty t (some l) = t ∷ l

abbrev pub row_for : Mode → ℕ → List (List ℕ) → List ℕ
row_for m t fs = cond (counted t (length fs)) (or_empty t (items_from m t 0 fs)) []

abbrev pub row_headed : Mode → ℕ → Headed → List ℕ
row_headed m k h = row_for m (tag_of k h.name) h.items

-- "`text` is not split"; "at most 128 bytes"
abbrev pub row_of_text : List ℕ → List ℕ
row_of_text v = cond (leb (length v) 128) (1 ∷ v) []

abbrev pub row_of_value : Mode → ℕ → List ℕ → List ℕ
row_of_value m k v = cond (eqb k TEXT) (row_of_text v) (row_headed m k (heading k (split 44 v)))

-- "The value is the part .. after the first `=`"
abbrev pub row_cut : Mode → List ℕ → ℕ → List ℕ
row_cut m l e = cond (printable l && ltb e (length l)) (row_of_value m (place_in (take e l) keys) (drop (suc e) l)) []

unfoldable pub row_of : Mode → List ℕ → List ℕ
row_of m l = row_cut m l (up_to 61 l)

-- ---- parts of a row

abbrev pub tag : List ℕ → ℕ
tag r = get_or r 0 no_tag

abbrev pub items : List ℕ → List ℕ
items r = drop 1 r

-- item j
abbrev pub at : List ℕ → ℕ → ℕ
at r j = get_or r (suc j) 0

unfoldable pub key_of : List ℕ → ℕ
key_of r = (form_of (tag r)).key

abbrev pub is_line : ℕ → Slot → Bool
is_line k entry = false
is_line k (line l) = eqb k l
is_line k (line_or b l) = false
is_line k (line_unknown l) = false
is_line k (word ws) = false
is_line k number = false
is_line k day = false
is_line k nothing = false

abbrev pub keep : {A : Type 0} → Bool → A → List A → List A
keep true x l = x ∷ l
keep false x l = l

-- the items, from place j on, that are numbers of lines of key k
abbrev pub refs_from : ℕ → ℕ → ℕ → List ℕ → List ℕ
refs_from k t j [] = []
refs_from k t j (x ∷ l) = keep (is_line k (slot_at t j)) x (refs_from k t (suc j) l)

unfoldable pub refs : ℕ → List ℕ → List ℕ
refs k r = refs_from k (tag r) 0 (items r)

-- the items that must ascend: the first of each group of m items, from place c on
abbrev pub every_from : ℕ → ℕ → List ℕ → List ℕ
every_from m c [] = []
every_from m ℕ.zero (x ∷ l) = x ∷ every_from m (m - 1) l
every_from m (ℕ.suc c) (x ∷ l) = every_from m c l

abbrev pub rising_in : Form → List ℕ → List ℕ
rising_in f l = cond f.ascends (every_from (length f.group) f.from l) []

unfoldable pub ascendings : List ℕ → List ℕ
ascendings r = rising_in (form_of (tag r)) (items r)
