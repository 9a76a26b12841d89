-- A word among others: the turns of the search, and the lists of the format. Assumes nothing.
use Rattle.std.proofs.Common.{◌≡◌, ℕ, zero, suc, ◌+◌, ◌-◌, ◌<◌, ◌≤◌, Bool, true, false, cond, ltb, List, [], ◌∷◌, map, length, drop, sym, refl, ap, ◌∙◌, arith, le-ltb, lt-ltb, Some, None, ltb-true, ltb-false}
use mathlib.Core.Option.{Option, none, some}
use Prim.Native.String.{String}
use lib.Dec.{leb-suc-suc}
use lib.ListN.{length-map}
use Rattle.words.specs.Log.{part}
use Rattle.sheet.specs.Ascii.{ascii}
use Rattle.sheet.specs.Bytes.{up_to, split, same}
use Rattle.sheet.specs.Forms.{keys, forms, place_in, word_number, tag_of, TYPE, VALUE, NODE, first_type, first_value, first_node, no_tag}
use Rattle.scan.specs.Numbers.{number_of, following, placed, form_after, Number, known_form}
use Rattle.scan.specs.Places.{parts_from}
use Rattle.scan.proofs.Splits.{split_at, from_on, from_end}

-- a place counted from i
pub later : ℕ → Option ℕ → Option ℕ
later i none = none
later i (some n) = some (i + n)

-- where a search stands: i words passed, the next one begins at a
pub record Searching (w l : List ℕ) (i a : ℕ) : Type 0 where
  pub near : a ≤ length l
  pub few : i ≤ a
  pub left : placed w (split 44 l) ≡ later i (placed w (split 44 (drop a l)))

later_zero : (o : Option ℕ) → later 0 o ≡ o
unfolding later
later_zero none = refl
later_zero (some n) = ap some (omega arith)

later_on : (i : ℕ) (o : Option ℕ) → later i (following o) ≡ later (i + 1) o
unfolding later
later_on i none = refl
later_on i (some n) = ap some (omega arith)

pub searching_start : (w l : List ℕ) → Searching w l 0 0
searching_start w l = record { near = omega arith; few = omega arith; left = sym (later_zero (placed w (split 44 l))) }

module _ (w l : List ℕ) (i a e : ℕ) (k : Searching w l i a) (f : e ≡ a + up_to 44 (drop a l)) (q : List ℕ) (p : q ≡ part l a e) (r : Bool) (s : r ≡ same w q) where
  here : placed w (split 44 (drop a l)) ≡ cond r (some 0) (following (placed w (parts_from 44 l (e + 1))))
  here =
      ap (placed w) (split_at 44 l a e k.near f)
      ∙ ap (λ (t : Bool). cond t (some 0) (following (placed w (parts_from 44 l (e + 1))))) (ap (same w) (sym p) ∙ sym s)

  pub searching_hit : r ≡ true → number_of (Some i) ≡ placed w (split 44 l)
  unfolding later
  searching_hit t =
      let z : i + 0 ≡ i = omega arith in
      let g : placed w (split 44 (drop a l)) ≡ some 0 = here ∙ rw t in
      sym (k.left ∙ ap (later i) g ∙ ap some z)

  pub searching_end : r ≡ false → length l ≤ e → number_of None ≡ placed w (split 44 l)
  unfolding later
  searching_end t h =
      let g : placed w (split 44 (drop a l)) ≡ none = here ∙ rw (t, from_end 44 l (e + 1) (omega arith)) in
      sym (k.left ∙ ap (later i) g)

  pub searching_on : r ≡ false → e < length l → Searching w l (i + 1) (e + 1)
  searching_on t h =
      let g : placed w (split 44 (drop a l)) ≡ following (placed w (split 44 (drop (e + 1) l))) = here ∙ rw (t, from_on 44 l (e + 1) (omega arith)) in
      record {
        near = omega arith;
        few = omega (arith, k.few);
        left = k.left ∙ ap (later i) g ∙ later_on i (placed w (split 44 (drop (e + 1) l)));
      }

-- ---- the words of a list, as document 01 writes them

pub word_number_law : (w : List ℕ) (ws : List String) → word_number w ws ≡ placed w (map ascii ws)
word_number_law w [] = refl
word_number_law w (x ∷ ws) = go (same w (ascii x)) (word_number_law w ws)
  where
    by_test : (t : Bool) → cond t (some (suc (place_in w ws))) none ≡ following (cond t (some (place_in w ws)) none)
    by_test true = refl
    by_test false = refl

    go : (t : Bool) → word_number w ws ≡ placed w (map ascii ws)
        → cond (ltb (cond t 0 (suc (place_in w ws))) (suc (length ws))) (some (cond t 0 (suc (place_in w ws)))) none ≡ cond t (some 0) (following (placed w (map ascii ws)))
    go true h = rw (lt-ltb 0 (suc (length ws)) (omega arith))
    go false h = rw (← h, leb-suc-suc (suc (place_in w ws)) (length ws)) (by_test (ltb (place_in w ws) (length ws)))

-- a list of words with commas between them
pub words_are : (w : List ℕ) (ws : List String) (l : List ℕ) (r : Number) → map ascii ws ≡ split 44 l → number_of r ≡ placed w (split 44 l) → number_of r ≡ word_number w ws
words_are w ws l r e h = h ∙ ap (placed w) (sym e) ∙ sym (word_number_law w ws)

-- a place in a list is below its length
pub placed_below : (w : List ℕ) (l : List (List ℕ)) (n : ℕ) → placed w l ≡ some n → n < length l
placed_below w [] n e = let z : ◌≡◌ {A = ℕ} 0 1 = cc in absurd (omega arith)
placed_below w (x ∷ l) n e = go (same w x) (placed w l) (placed_below w l) e
  where
    go : (t : Bool) (o : Option ℕ) → ((m : ℕ) → o ≡ some m → m < length l) → cond t (some 0) (following o) ≡ some n → n < suc (length l)
    go true o f q = let z : ◌≡◌ {A = ℕ} 0 n = cc in omega arith
    go false none f q = let z : ◌≡◌ {A = ℕ} 0 1 = cc in absurd (omega arith)
    go false (some m) f q = let z : suc m ≡ n = cc in omega (arith, f m refl)

-- ---- the keys

abbrev pub key_bytes : List ℕ
key_bytes = ascii "sheet,text,kind,type,shape,value,entity,principal,action,resource,context,day,node,policy,link,term"

keys_are : map ascii keys ≡ split 44 key_bytes
unfolding keys
keys_are = refl

pub key_number : (w : List ℕ) (r : Number) → number_of r ≡ placed w (split 44 key_bytes) → number_of r ≡ word_number w keys
key_number w r h = words_are w keys key_bytes r keys_are h

-- ---- the constructors of types, values and nodes

-- the forms of one key, one after the other, and r forms after them
abbrev run : List ℕ → List String → ℕ → ℕ
run w [] r = r
run w (x ∷ l) r = cond (same w (ascii x)) 0 (suc (run w l r))

past : ℕ → Option ℕ → ℕ
past m none = m
past m (some p) = p

run_is : (w : List ℕ) (ns : List String) (r : ℕ) → run w ns r ≡ past (length ns + r) (placed w (map ascii ns))
unfolding past
run_is w [] r = omega arith
run_is w (x ∷ ns) r = go (same w (ascii x)) (placed w (map ascii ns)) (run_is w ns r)
  where
    go : (t : Bool) (o : Option ℕ) → run w ns r ≡ past (length ns + r) o → cond t 0 (suc (run w ns r)) ≡ past (suc (length ns) + r) (cond t (some 0) (following o))
    go true o h = refl
    go false none h = omega arith
    go false (some p) h = ap suc h

abbrev sucs : ℕ → ℕ → ℕ
sucs zero n = n
sucs (suc k) n = suc (sucs k n)

sucs_is : (k n : ℕ) → sucs k n ≡ k + n
sucs_is zero n = omega arith
sucs_is (suc k) n = omega (arith, sucs_is k n)

-- how many forms stand in the table after those of one key, which begin at `first`
abbrev after : ℕ → List String → ℕ
after first ns = no_tag - (first + length ns)

-- a table with the forms of one key from `first` on
form_is : (w : List ℕ) (ns : List String) (l : List ℕ) (r : Number) (first rest t tag : ℕ) → map ascii ns ≡ split 44 l → number_of r ≡ placed w (split 44 l) → first + (length ns + rest) ≡ no_tag
    → t ≡ form_after first (number_of r) → tag ≡ sucs first (run w ns rest) → t ≡ tag
unfolding past
form_is w ns l r first rest t tag e h n et eg = go (number_of r) (h ∙ ap (placed w) (sym e)) et
  where
    go : (o : Option ℕ) → o ≡ placed w (map ascii ns) → t ≡ form_after first o → t ≡ tag
    go none p q = omega (arith, eg, sucs_is first (run w ns rest), run_is w ns rest ∙ ap (past (length ns + rest)) (sym p))
    go (some k) p q =
        let b : k < length (map ascii ns) = placed_below w (map ascii ns) k (sym p) in
        let m : length (map ascii ns) ≡ length ns = length-map ns ascii in
        let u : t ≡ first + k = q ∙ rw (lt-ltb k (no_tag - first) (omega arith)) in
        omega (arith, eg, sucs_is first (run w ns rest), run_is w ns rest ∙ ap (past (length ns + rest)) (sym p))

type_names : List String
type_names = "bool" ∷ "long" ∷ "string" ∷ "entity" ∷ "set" ∷ "record" ∷ []

abbrev pub type_bytes : List ℕ
type_bytes = ascii "bool,long,string,entity,set,record"

type_tag : (w : List ℕ) → tag_of TYPE w ≡ sucs first_type (run w type_names (after first_type type_names))
unfolding tag_of forms type_names
type_tag w = refl

type_names_law : map ascii type_names ≡ split 44 type_bytes
unfolding type_names
type_names_law = refl

type_count : first_type + (length type_names + after first_type type_names) ≡ no_tag
unfolding type_names
type_count = refl

pub type_form : (w : List ℕ) (r : Number) → number_of r ≡ placed w (split 44 type_bytes) → known_form (form_after first_type (number_of r)) ≡ known_form (tag_of TYPE w)
type_form w r h =
    ap known_form (form_is w type_names type_bytes r first_type (after first_type type_names) (form_after first_type (number_of r)) (tag_of TYPE w) type_names_law h type_count refl (type_tag w))

value_names : List String
value_names = "bool" ∷ "long" ∷ "text" ∷ "entity" ∷ "set" ∷ "record" ∷ []

abbrev pub value_bytes : List ℕ
value_bytes = ascii "bool,long,text,entity,set,record"

value_tag : (w : List ℕ) → tag_of VALUE w ≡ sucs first_value (run w value_names (after first_value value_names))
unfolding tag_of forms value_names
value_tag w = refl

value_names_law : map ascii value_names ≡ split 44 value_bytes
unfolding value_names
value_names_law = refl

value_count : first_value + (length value_names + after first_value value_names) ≡ no_tag
unfolding value_names
value_count = refl

pub value_form : (w : List ℕ) (r : Number) → number_of r ≡ placed w (split 44 value_bytes) → known_form (form_after first_value (number_of r)) ≡ known_form (tag_of VALUE w)
value_form w r h =
    ap known_form (form_is w value_names value_bytes r first_value (after first_value value_names) (form_after first_value (number_of r)) (tag_of VALUE w) value_names_law h value_count refl (value_tag w))

node_names : List String
node_names =
    "lit" ∷ "err" ∷ "var" ∷ "and" ∷ "or" ∷ "eq" ∷ "lt" ∷ "le" ∷ "add" ∷ "sub" ∷ "mul" ∷ "in" ∷ "gettag" ∷ "hastag" ∷ "contains" ∷ "all" ∷ "any"
    ∷ "if" ∷ "is" ∷ "like" ∷ "get" ∷ "has" ∷ "haspath" ∷ "not" ∷ "neg" ∷ "empty" ∷ "set" ∷ "record" ∷ "slot" ∷ []

abbrev pub node_bytes : List ℕ
node_bytes = ascii "lit,err,var,and,or,eq,lt,le,add,sub,mul,in,gettag,hastag,contains,all,any,if,is,like,get,has,haspath,not,neg,empty,set,record,slot"

node_tag : (w : List ℕ) → tag_of NODE w ≡ sucs first_node (run w node_names (after first_node node_names))
unfolding tag_of forms node_names
node_tag w = refl

node_names_law : map ascii node_names ≡ split 44 node_bytes
unfolding node_names
node_names_law = refl

node_count : first_node + (length node_names + after first_node node_names) ≡ no_tag
unfolding node_names
node_count = refl

pub node_form : (w : List ℕ) (r : Number) → number_of r ≡ placed w (split 44 node_bytes) → known_form (form_after first_node (number_of r)) ≡ known_form (tag_of NODE w)
node_form w r h =
    ap known_form (form_is w node_names node_bytes r first_node (after first_node node_names) (form_after first_node (number_of r)) (tag_of NODE w) node_names_law h node_count refl (node_tag w))

-- the answers of the code
module _ (first : ℕ) (r : Number) where
  pub after_value : (p : ℕ) → r ≡ Some p → p < no_tag - first → Some (first + p) ≡ known_form (form_after first (number_of r))
  after_value p v h = rw v (rw (lt-ltb p (no_tag - first) h) (rw (lt-ltb (first + p) no_tag (omega arith)) refl))

  pub after_past : (p : ℕ) → r ≡ Some p → no_tag - first ≤ p → None ≡ known_form (form_after first (number_of r))
  after_past p v h = rw v (rw (le-ltb p (no_tag - first) h) refl)

  pub after_most : (p : ℕ) → r ≡ Some p → no_tag ≤ first → None ≡ known_form (form_after first (number_of r))
  after_most p v h = after_past p v (omega arith)

  pub after_none : r ≡ None → None ≡ known_form (form_after first (number_of r))
  after_none v = rw v refl

-- ---- a form that is known

pub known_some : (t n : ℕ) → Some t ≡ known_form n → (t ≡ n) × (n < no_tag)
known_some t n e = go (ltb n no_tag) refl e
  where
    go : (b : Bool) → ltb n no_tag ≡ b → Some t ≡ cond b (Some n) None → (t ≡ n) × (n < no_tag)
    go true p q = let z : t ≡ n = cc in (z, ltb-true n no_tag p)
    go false p q = let z : ◌≡◌ {A = ℕ} 0 1 = cc in absurd (omega arith)

pub known_none : (n : ℕ) → None ≡ known_form n → no_tag ≤ n
known_none n e = go (ltb n no_tag) refl e
  where
    go : (b : Bool) → ltb n no_tag ≡ b → None ≡ cond b (Some n) None → no_tag ≤ n
    go true p q = let z : ◌≡◌ {A = ℕ} 0 1 = cc in absurd (omega arith)
    go false p q = ltb-false n no_tag p
