-- The names of operations, and the other words. Assumes nothing.
use mathlib.Core.Path.{◌≡◌, refl}
use mathlib.Core.Bool.{Bool, true, cond, ◌||◌}
use mathlib.Core.List.{List, [], ◌∷◌}
use Prim.Native.Nat.{ℕ, zero, suc, ◌<◌, ◌-◌, ◌≤◌}
use lib.ListN.{get_or}
use lib.Dec.{ltb}
use native.Mathlib.Omega.{arith}
use native.Mathlib.Decide.{dec_lt}
use borrow.Author.Tests.{le-ltb}
use Rattle.cedar.specs.Numbered.{mem_n}
use Rattle.sheet.specs.Ascii.{ascii}
use Rattle.sheet.specs.Bytes.{same}
use Rattle.sheet.specs.Forms.{forms, form_of, no_tag, first_node}
use Rattle.forms.specs.Tags.{LIT, ERR, VAR, AND, OR, EQ, LT, LE, ADD, SUB, MUL, IN, GETTAG, HASTAG, CONTAINS, ALL, ANY, IF, IS, LIKE, GET, HAS, HASPATH, NOT, NEG, EMPTY, SET_OF, RECORD_OF, SLOT, PART_P, PART_A, PART_R}
use Rattle.sheet.proofs.reading.Parsed.{all_below, all_below_law, past_table}
use Rattle.sheet.proofs.demand3.TwoSheets.{same_is}
use Rattle.forms.proofs.Tests.{other, NoneOf, none_of}
use Rattle.listing.specs.Names.{op_name_def}
use Rattle.listing.specs.Nodes.{letter}

-- ---- names of operations

-- the forms of nodes, the last first
abbrev pub op_numbers : List ℕ
op_numbers =
    SLOT ∷ RECORD_OF ∷ SET_OF ∷ EMPTY ∷ NEG ∷ NOT ∷ HASPATH ∷ HAS ∷ GET ∷ LIKE ∷ IS ∷ IF ∷ ANY ∷ ALL ∷ CONTAINS ∷ HASTAG ∷ GETTAG ∷ IN ∷ MUL ∷ SUB ∷ ADD ∷ LE ∷ LT ∷ EQ ∷ OR ∷ AND ∷ VAR ∷ ERR ∷ LIT ∷ []

-- no other form has a name here
nameless : ℕ → Bool
nameless t = mem_n t op_numbers || same [] (ascii (op_name_def t))

names : all_below nameless no_tag ≡ true
unfolding nameless op_name_def form_of forms
names = refl

pub no_name : (t : ℕ) → NoneOf op_numbers t → [] ≡ ascii (op_name_def t)
unfolding nameless op_name_def
no_name t d = go (dec_lt t no_tag)
  where
    go : Dec (t < no_tag) → [] ≡ ascii (op_name_def t)
    go (yes h) = same_is [] (ascii (op_name_def t)) (other (mem_n t op_numbers) (same [] (ascii (op_name_def t))) (none_of op_numbers t d) (all_below_law nameless no_tag t names h))
    go (no h) = rw (le-ltb t first_node (omega arith), past_table t (omega arith)) refl

-- the names in the order of their numbers
abbrev pub op_names : List (List ℕ)
op_names =
    ascii "lit" ∷ ascii "err" ∷ ascii "var" ∷ ascii "and" ∷ ascii "or" ∷ ascii "eq" ∷ ascii "lt" ∷ ascii "le" ∷ ascii "add" ∷ ascii "sub" ∷ ascii "mul" ∷ ascii "in" ∷ ascii "gettag" ∷ ascii "hastag" ∷ ascii "contains" ∷ ascii "all" ∷ ascii "any" ∷ ascii "if" ∷ ascii "is" ∷ ascii "like" ∷ ascii "get" ∷ ascii "has" ∷ ascii "haspath" ∷ ascii "not" ∷ ascii "neg" ∷ ascii "empty" ∷ ascii "set" ∷ ascii "record" ∷ ascii "slot" ∷ []

listed : ℕ → Bool
listed t = cond (ltb t LIT) true (same (ascii (op_name_def t)) (get_or op_names (t - LIT) []))

all_listed : all_below listed no_tag ≡ true
unfolding listed op_name_def form_of forms
all_listed = refl

pub op_named : (t : ℕ) → LIT ≤ t → t ≤ SLOT → ascii (op_name_def t) ≡ get_or op_names (t - LIT) []
unfolding listed
op_named t lo hi = same_is (ascii (op_name_def t)) (get_or op_names (t - LIT) []) (rw (le-ltb t LIT lo) at (all_below_law listed no_tag t all_listed (omega arith)))

-- ---- the other words

pub letter_said : (x : ℕ) → 44 ∷ letter x ≡ get_or (ascii ",p" ∷ ascii ",a" ∷ ascii ",r" ∷ []) x (ascii ",c")
letter_said zero = refl
letter_said (suc zero) = refl
letter_said (suc (suc zero)) = refl
letter_said (suc (suc (suc x))) = refl

pub letter_over : (x : ℕ) → (x ≡ PART_P → ⊥) → (x ≡ PART_A → ⊥) → (x ≡ PART_R → ⊥) → 44 ∷ ascii "c" ≡ 44 ∷ letter x
letter_over zero f g h = absurd (f refl)
letter_over (suc zero) f g h = absurd (g refl)
letter_over (suc (suc zero)) f g h = absurd (h refl)
letter_over (suc (suc (suc x))) f g h = refl
