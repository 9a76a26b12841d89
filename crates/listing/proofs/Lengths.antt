-- How long the lines of made values and residual nodes can be. Assumes nothing.
use mathlib.Core.Path.{◌≡◌, refl}
use mathlib.Core.Bool.{Bool, true, false, cond, ◌||◌, ◌&&◌}
use mathlib.Core.List.{List, [], ◌∷◌, ◌++◌}
use Prim.Native.Nat.{ℕ, zero, suc, ◌+◌, ◌-◌, ◌*◌, ◌/◌, ◌≤◌}
use Prim.Native.String.{String}
use native.Mathlib.Omega.{arith}
use borrow.Author.Tests.{leb-true}
use lib.Dec.{eqb, leb, ltb}
use lib.IntN.{ℤ, pos, negsuc}
use lib.ListN.{length, get_or, drop, length-append, length-take, length-drop}
use Rattle.cedar.specs.Canonical.{bit}
use Rattle.cedar.specs.Rows.{Row, rbool, rlong, rtext, rent, rset, rrec}
use Rattle.sheet.specs.Ascii.{ascii}
use Rattle.sheet.specs.Bytes.{digits, signed, long_at, commas}
use Rattle.sheet.specs.Forms.{Form, forms, form_of, no_form, first_node, tag, items, at, mark, NODE, first_value, asterisk}
use Rattle.sheet.specs.State.{entries_of, value_row}
use Rattle.sheet.specs.Content.{rows_in}
use Rattle.sheet.specs.Answer.{printed, concat, numbers, entry_items, value_items, value_lines}
use Rattle.sheet.proofs.reading.Lines.{and_both}
use Rattle.forms.specs.Tags.{VAR, IS, LIKE, GET, HAS, HASPATH, RECORD_OF}
use Rattle.table.specs.Layout.{part, row_at, rows_at, rows_of, base, MADE}
use Rattle.table.proofs.Rows.{count_rows}
use Rattle.residual.specs.Rows.{word_at, stage_at, start_at}
use Rattle.residual.specs.declared.Stage.{Stage}
use Rattle.residual.specs.declared.Stage.TheVariants.{Value, Error, Open}
use Rattle.print.proofs.Writing.{digits_few}
use Rattle.listing.specs.Values.{made_lines}
use Rattle.listing.specs.Names.{op_name_def}
use Rattle.listing.specs.Nodes.{number_of, children_by, children_to, fields_to, letter, pieces, rest_items, left_items, left_at, said_as, said_at, node_line, lines_by, log_lines}

-- ---- items and lines

-- the bytes of items with one more for each
abbrev pub weigh : List (List ℕ) → ℕ
weigh [] = 0
weigh (x ∷ l) = length x + 1 + weigh l

commas_most : (l : List (List ℕ)) → length (commas l) ≤ weigh l
commas_most [] = omega arith
commas_most (x ∷ []) = omega arith
commas_most (x ∷ y ∷ l) = let h = commas_most (y ∷ l) in omega (arith, h, length-append x (44 ∷ commas (y ∷ l)))

pub printed_most : (key : String) (l : List (List ℕ)) → length (printed key l) ≤ length (ascii key) + weigh l + 2
printed_most key l =
    let h = commas_most l in
    omega (arith, h, length-append (ascii key) (61 ∷ commas l ++ (10 ∷ [])), length-append (commas l) (10 ∷ []))

pub numbers_most : (l : List ℕ) → weigh (numbers l) ≤ 21 * length l
numbers_most [] = omega arith
numbers_most (n ∷ l) = let h = numbers_most l in omega (arith, h, digits_few n)

-- ---- rows

abbrev AllShort : ℕ → List (List ℕ) → Type 0
AllShort m [] = Unit {0}
AllShort m (r ∷ rs) = (length r ≤ m) × AllShort m rs

part_short : (w : List ℕ) (s e : ℕ) → length (part w s e) ≤ length w
part_short w s e = omega (arith, length-take (e - s) (drop s w), length-drop s w)

rows_short : (a : List ℕ) (i n : ℕ) → AllShort (length a) (rows_at a i n)
unfolding rows_at row_at
rows_short a i zero = tt
rows_short a i (suc n) = (part_short a (get_or a i 0) (get_or a (suc i) 0), rows_short a (suc i) n)

short_at : (m : ℕ) (rs : List (List ℕ)) → AllShort m rs → (i : ℕ) → length (get_or rs i []) ≤ m
short_at m [] h i = omega arith
short_at m (r ∷ rs) h zero = h.0
short_at m (r ∷ rs) h (suc i) = short_at m rs h.1 i

all_short : (a : List ℕ) (k : ℕ) → length a ≤ 16384 → AllShort 16384 (rows_of a k)
unfolding rows_of
all_short a k h = more (rows_at a (base k) (get_or a k 0)) (rows_short a (base k) (get_or a k 0))
  where
    more : (rs : List (List ℕ)) → AllShort (length a) rs → AllShort 16384 rs
    more [] x = tt
    more (r ∷ rs) x = (omega (arith, x.0, h), more rs x.1)

items_short : (r : List ℕ) → length (items r) ≤ length r
items_short [] = omega arith
items_short (t ∷ l) = omega arith

-- ---- made values

signed_few : (z : ℤ) → length (signed z) ≤ 21
signed_few (pos n) = omega (arith, digits_few n)
signed_few (negsuc n) = omega (arith, digits_few (suc n))

entries_most : (l : List ℕ) → weigh (entry_items (entries_of l)) ≤ 21 * length l
entries_most [] = omega arith
entries_most (t ∷ []) = omega arith
entries_most (t ∷ v ∷ l) = let h = entries_most l in omega (arith, h, digits_few t, digits_few v)

AllMost : ℕ → List Row → Type 0
AllMost m [] = Unit {0}
AllMost m (q ∷ qs) = (weigh (value_items q) ≤ m) × AllMost m qs

most_at : (m : ℕ) (qs : List Row) → AllMost m qs → (b : Bool) → 60 ≤ m → (i : ℕ) → weigh (value_items (get_or qs i (rbool b))) ≤ m
unfolding AllMost
most_at m [] h b k i = omega (arith, k, digits_few (bit b))
most_at m (q ∷ qs) h b k zero = h.0
most_at m (q ∷ qs) h b k (suc i) = most_at m qs h.1 b k i

value_most : (r : List ℕ) → weigh (value_items (value_row r)) ≤ 21 * length r + 60
unfolding AllMost
value_most r =
    let z : ℤ = long_at (at r 0 * 4294967296 + at r 1) in
    let h = items_short r in
    most_at (21 * length r + 60) (rbool (eqb (at r 0) 1) ∷ rlong z ∷ rtext (at r 0) ∷ rent (at r 0) (at r 1) ∷ rset (items r) ∷ rrec (entries_of (items r)) ∷ []) (
      omega (arith, digits_few (bit (eqb (at r 0) 1))),
      (
        omega (arith, signed_few z),
        (
          omega (arith, digits_few (at r 0)),
          (
            omega (arith, digits_few (at r 0), digits_few (at r 1)),
            (omega (arith, numbers_most (items r), h), (omega (arith, entries_most (items r), h), tt)),
          ),
        ),
      ),
    )
    false (omega arith) (tag r - first_value)

values_most : (rs : List (List ℕ)) → AllShort 16384 rs → length (concat (value_lines (rows_in rs))) ≤ 400000 * length rs
values_most [] h = omega arith
values_most (r ∷ rs) h =
    let v : List (List ℕ) = value_items (value_row r) in
    let p : length (printed "value" v) ≤ 5 + weigh v + 2 = printed_most "value" v in
    let k = values_most rs h.1 in
    omega (arith, p, k, h.0, value_most r, length-append (printed "value" v) (concat (value_lines (rows_in rs))))

-- ---- residual nodes

-- names are short
AllNamed : List Form → Type 0
AllNamed [] = Unit {0}
AllNamed (f ∷ fs) = (length (ascii f.name) ≤ 20) × AllNamed fs

name_at : (fs : List Form) → AllNamed fs → (i : ℕ) → length (ascii (get_or fs i no_form).name) ≤ 20
unfolding AllNamed
name_at [] h i = omega arith
name_at (f ∷ fs) h zero = h.0
name_at (f ∷ fs) h (suc i) = name_at fs h.1 i

all_named : List Form → Bool
all_named [] = true
all_named (f ∷ fs) = leb (length (ascii f.name)) 20 && all_named fs

named_by : (fs : List Form) → all_named fs ≡ true → AllNamed fs
unfolding all_named AllNamed
named_by [] e = tt
named_by (f ∷ fs) e = and_both (leb (length (ascii f.name)) 20) (all_named fs) e (λ x y. (leb-true (length (ascii f.name)) 20 x, named_by fs y))

forms_named : all_named forms ≡ true
unfolding all_named forms
forms_named = refl

op_most : (t : ℕ) → length (ascii (op_name_def t)) ≤ 20
unfolding op_name_def form_of
op_most t = go (ltb t first_node)
  where
    go : (b : Bool) → length (ascii (cond b "" (form_of t).name)) ≤ 20
    go true = omega arith
    go false = name_at forms (named_by forms forms_named) t

letter_most : (x : ℕ) → length (letter x) ≤ 1
letter_most zero = omega arith
letter_most (suc zero) = omega arith
letter_most (suc (suc zero)) = omega arith
letter_most (suc (suc (suc x))) = omega arith

children_few : (l : List ℕ) (start n p : ℕ) → length (children_by l start n p) ≤ n
unfolding children_by
children_few l start zero p = omega arith
children_few l start (suc n) p = go (leb p start) (children_few l start n (start_at l p))
  where
    go : (b : Bool) → length (children_by l start n (start_at l p)) ≤ n → length (cond b [] (children_by l start n (start_at l p) ++ (number_of p ∷ []))) ≤ suc n
    go true h = omega arith
    go false h = omega (arith, h, length-append (children_by l start n (start_at l p)) (number_of p ∷ []))

fields_few : (r : List ℕ) (i : ℕ) (l : List ℕ) (start p : ℕ) → length (fields_to r i l start p) ≤ i
unfolding fields_to
fields_few r zero l start p = omega arith
fields_few r (suc zero) l start p = omega arith
fields_few r (suc (suc i)) l start p = go (leb p start) (fields_few r i l start (start_at l p))
  where
    go : (b : Bool) → length (fields_to r i l start (start_at l p)) ≤ i → length (cond b [] (fields_to r i l start (start_at l p) ++ (get_or r i 0 ∷ number_of p ∷ []))) ≤ suc (suc i)
    go true h = omega arith
    go false h = omega (arith, h, length-append (fields_to r i l start (start_at l p)) (get_or r i 0 ∷ number_of p ∷ []))

piece_most : (x : ℕ) (b : Bool) → length (cond b (asterisk ∷ []) (digits x)) ≤ 20
piece_most x true = omega arith
piece_most x false = digits_few x

pieces_most : (l : List ℕ) → weigh (pieces l) ≤ 21 * length l
pieces_most [] = omega arith
pieces_most (x ∷ l) = let h = pieces_most l in omega (arith, h, piece_most x (eqb x mark))

weigh_append : (k l : List (List ℕ)) → weigh (k ++ l) ≡ weigh k + weigh l
weigh_append [] l = omega arith
weigh_append (x ∷ k) l = omega (arith, weigh_append k l)

rest_most : (t : ℕ) (r : List ℕ) (k : ℕ) → weigh (rest_items t r k) ≤ 21 * length r + 21
unfolding rest_items
rest_most t r k = go (eqb t IS || (eqb t GET || eqb t HAS)) (eqb t LIKE) (eqb t HASPATH)
  where
    go : (x y z : Bool) → weigh (cond x (digits (at r 2) ∷ []) (cond y (pieces (drop 2 (items r))) (cond z (digits (at r (2 + k)) ∷ numbers (drop (3 + k) (items r))) []))) ≤ 21 * length r + 21
    go true y z = omega (arith, digits_few (at r 2))
    go false true z = omega (arith, pieces_most (drop 2 (items r)), length-drop 2 (items r), items_short r)
    go false false true = omega (arith, digits_few (at r (2 + k)), numbers_most (drop (3 + k) (items r)), length-drop (3 + k) (items r), items_short r)
    go false false false = omega arith

left_most : (t : ℕ) (r : List ℕ) (k : ℕ) (cs fs : List ℕ) → weigh (left_items t r k cs fs) ≤ 21 * (length cs + length fs + length r) + 21
unfolding left_items
left_most t r k cs fs = go (eqb t VAR) (eqb t RECORD_OF)
  where
    go : (x y : Bool) → weigh (cond x (letter (at r 1) ∷ []) (cond y (numbers fs) (numbers cs ++ rest_items t r k))) ≤ 21 * (length cs + length fs + length r) + 21
    go true y = omega (arith, letter_most (at r 1))
    go false true = omega (arith, numbers_most fs)
    go false false = omega (arith, weigh_append (numbers cs) (rest_items t r k), numbers_most cs, rest_most t r k)

module _ (nodes : List (List ℕ)) (l : List ℕ) (h : AllShort 16384 nodes) (e : ℕ) (low : e ≤ 16384) where
  left_at_law : weigh (left_at nodes l e) ≤ 21 * 49152 + 50
  unfolding left_at children_to
  left_at_law =
      let r : List ℕ = get_or nodes (word_at l e 1) [] in
      let k : ℕ = word_at l e 0 - 2 in
      let s : ℕ = start_at l e in
      let cs : List ℕ = children_by l s (e - 4) (e - 4) in
      let fs : List ℕ = fields_to r (length r) l s (e - 4) in
      omega (arith, op_most (tag r), left_most (tag r) r k cs fs, children_few l s (e - 4) (e - 4), fields_few r (length r) l s (e - 4), short_at 16384 nodes h (word_at l e 1))

  said_as_law : (s : Stage) → weigh (said_as nodes l e s) ≤ 21 * 49152 + 50
  said_as_law (Value v) = omega (arith, digits_few v)
  said_as_law Error = omega arith
  said_as_law Open = left_at_law

  node_most : length (node_line nodes l e) ≤ 1100000
  unfolding node_line said_at
  node_most =
      let y : List ℕ = digits (word_at l e 3) in
      let p : length (printed "node" (y ∷ said_at nodes l e)) ≤ 4 + weigh (y ∷ said_at nodes l e) + 2 = printed_most "node" (y ∷ said_at nodes l e) in
      omega (arith, p, digits_few (word_at l e 3), said_as_law (stage_at l e))

nodes_most : (nodes : List (List ℕ)) (l : List ℕ) → AllShort 16384 nodes → (n s : ℕ) → s + 4 * n ≤ 16384 → length (concat (lines_by nodes l n s)) ≤ 1100000 * n
unfolding lines_by
nodes_most nodes l h zero s k = omega arith
nodes_most nodes l h (suc n) s k =
    let i = nodes_most nodes l h n (s + 4) (omega (arith, k)) in
    omega (arith, i, node_most nodes l h (s + 4) (omega (arith, k)), length-append (node_line nodes l (s + 4)) (concat (lines_by nodes l n (s + 4))))

-- ---- both, in words of 16,384 at most

module _ (a : List ℕ) (h : length a ≤ 16384) where
  pub made_most : length (made_lines a) ≤ 400000 * get_or a MADE 0
  unfolding made_lines
  made_most = let d = values_most (rows_of a MADE) (all_short a MADE h) in omega (arith, d, count_rows a MADE)

  pub log_most : (l : List ℕ) → length l ≤ 16384 → length (concat (log_lines (rows_of a NODE) l)) ≤ 1100000 * (length l / 4)
  unfolding log_lines
  log_most l k = nodes_most (rows_of a NODE) l (all_short a NODE h) (length l / 4) 0 (omega (arith, k))
