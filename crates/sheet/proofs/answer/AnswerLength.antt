-- How long the answer of an accepted sheet can be: 1,048,576 bytes at most.
use mathlib.Core.Path.{◌≡◌, refl, sym, ◌∙◌, ap}
use mathlib.Core.Bool.{Bool, true, false, cond, not, ◌&&◌, ◌||◌}
use mathlib.Core.Option.{Option, none, some}
use mathlib.Core.List.{List, [], ◌∷◌, ◌++◌}
use Prim.Native.Nat.{ℕ, zero, suc, ◌≤◌, ◌+◌, ◌-◌, ◌*◌, ◌/◌, ◌%◌}
use Prim.Native.String.{String}
use native.Mathlib.Omega.{arith}
use borrow.Author.Tests.{eq-eqb, leb-true, le-ltb}
use lib.Dec.{leb, ltb, eqb}
use lib.IntN.{ℤ, pos, negsuc}
use lib.ListN.{length, get_or, drop, length-append, length-drop}
use Rattle.cedar.proofs.Tools.{both, and_both, and_left, and_right, no_some, no_true}
use Rattle.cedar.specs.Canonical.{bit}
use Rattle.cedar.specs.Types.{Ty, Var, principal, action, resource, context}
use Rattle.cedar.specs.Residual.{Node, Nodes, NodeArgs, lit, err, var, and, or, ite, un, bin, rel, get, has, haspath, set, rec, enil, econs, gnil, gcons, Un, unot, uneg, uempty, uis, ulike, Class, ctrue, cfalse, cerror, copen}
use Rattle.cedar.specs.Response.{Effect, permit, forbid, Verdict, Decision, allow, deny, undecided, decision}
use Rattle.cedar.specs.Rows.{Entries, stop, entry, Row, rbool, rlong, rtext, rent, rset, rrec}
use Rattle.cedar.specs.Numbered.{Give, made, old}
use Rattle.cedar.specs.Runs.{NVerdict, verdicts}
use Rattle.sheet.specs.Ascii.{ascii}
use Rattle.sheet.specs.Bytes.{digits_by, digits, signed, commas}
use Rattle.sheet.specs.Forms.{Mode, partial, complete, Slot, line, line_or, line_unknown, word, number, day, nothing, Form, forms, form_of, no_form, slot_in, slot_at, tag_of, mark, at, VALUE, PRINCIPAL, ACTION, RESOURCE, CONTEXT, NODE}
use Rattle.sheet.specs.Forms as F
use Rattle.sheet.specs.State.{State, line_at, count}
use Rattle.sheet.specs.Sheet.{read}
use Rattle.sheet.specs.Content.{types, value_rows, schema, n_env, known, on_term, n_policies}
use Rattle.sheet.specs.Why.{Name, why, why_item}
use Rattle.sheet.specs.Call.{Accepted, Returned, room, returns, checked_then, fitted, returned}
use Rattle.sheet.specs.Answer.{printed, concat, numbers, decision_word, effect_word, class_word, counts_of, head_lines, entry_items, value_items, value_lines, size, sizes, size_args, root, roots, arg_roots, op, un_tag, un_items, bin_tag, rel_tag, var_number, pattern_items, type_number, row_with, tree_rows, all_rows, arg_rows, residual_rows, item_out, items_out, node_items, node_lines, policy_items, partial_lines, complete_lines, ids, run, results, answer}
use Rattle.sheet.proofs.reading.Lines.{accepted_history}
use Rattle.sheet.proofs.reading.Checked.{lent_by, checked_by, accepted_read, accepted_short, accepted_from}
use Rattle.sheet.proofs.reading.Refusals.{read_small}
use Rattle.sheet.proofs.reading.Limits.{most_lines}
use Rattle.sheet.proofs.content.OnTerm.{on_term_few}
use Rattle.sheet.proofs.running.MadeCount.{policy_sizes, residual_sizes}
use Rattle.sheet.proofs.running.MadeWords.{fields_in, row_words, words_of, run_words}
use Rattle.sheet.proofs.running.NeverNine.{policy_sizes_law, residual_sizes_law, made_at_most}
use Rattle.sheet.proofs.demand3.Demand3Bytes.{facts}
use Rattle.sheet.proofs.running.LeftOver.{LeftLines, run_leaves}
use Rattle.sheet.proofs.content.SheetSmall.{Under, policies_under, asked_under}
use Rattle.sheet.proofs.answer.AnswerRead.{firsts_length, rows_are, made_values, residuals_small, few_types}
use Rattle.sheet.proofs.answer.AnswerBack.{GoodValues}
use Rattle.sheet.proofs.answer.DigitsBack.{plain_byte, IsLong}
use Rattle.sheet.proofs.answer.RowsBack.{comes, all_come, good_row, good_parts, AllSmall, SmallEntries, GoodValue}
use Rattle.sheet.proofs.answer.RowsGood.{all_good, residuals_good}
use Rattle.sheet.proofs.answer.ItemBytes.{scale, digits_short, weigh, like_tag, path_tag}
use Rattle.sheet.proofs.answer.TreeBytes.{un_bytes, tree_bytes, trees_bytes, args_bytes, residual_bytes, lines_bytes, path_out, policies_bytes}

-- ---- items and lines

pub digits_few : (n : ℕ) → length (digits n) ≤ 20
digits_few n = by_fuel 19 n
  where
    by_fuel : (k n : ℕ) → length (digits_by k n) ≤ suc k
    by_fuel zero n = omega arith
    by_fuel (suc k) n = go (ltb n 10) (by_fuel k (n / 10))
      where
        go : (b : Bool) → length (digits_by k (n / 10)) ≤ suc k → length (cond b ((48 + n) ∷ []) (digits_by k (n / 10) ++ ((48 + n % 10) ∷ []))) ≤ suc (suc k)
        go true h = omega arith
        go false h = let z = length-append (digits_by k (n / 10)) ((48 + n % 10) ∷ []) in omega (arith, h, z)

small_digits : (n : ℕ) → n ≤ 9999 → length (digits n) ≤ 4
small_digits n h = let z : scale 10 3 ≡ 10000 = refl in digits_short 19 3 n (omega (arith, h, z))

commas_most : (l : List (List ℕ)) → length (commas l) ≤ weigh l - 1
commas_most [] = omega arith
commas_most (x ∷ []) = omega arith
commas_most (x ∷ y ∷ l) = let h = commas_most (y ∷ l) in let z = length-append x (44 ∷ commas (y ∷ l)) in omega (arith, h, z)

pub printed_most : (key : String) (l : List (List ℕ)) → length (printed key l) ≤ length (ascii key) + 2 + (weigh l - 1)
printed_most key l =
    let h = commas_most l in
    let a = length-append (ascii key) (61 ∷ commas l ++ (10 ∷ [])) in
    let b = length-append (commas l) (10 ∷ []) in
    omega (arith, h, a, b)

numbers_most : (l : List ℕ) → weigh (numbers l) ≤ 21 * length l
numbers_most [] = omega arith
numbers_most (n ∷ l) = let h = numbers_most l in let d = digits_few n in omega (arith, h, d)

small_numbers : (l : List ℕ) → AllSmall l → weigh (numbers l) ≤ 5 * length l
small_numbers [] s = omega arith
small_numbers (n ∷ l) s = let h = small_numbers l s.1 in let d = small_digits n s.0 in omega (arith, h, d)

pub concat_length : (k l : List (List ℕ)) → length (concat (k ++ l)) ≡ length (concat k) + length (concat l)
concat_length [] l = omega arith
concat_length (x ∷ k) l = let h = concat_length k l in let a = length-append x (concat (k ++ l)) in let b = length-append x (concat k) in omega (arith, h, a, b)

-- ---- the lines that every answer begins with

decision_most : (d : Decision) → length (ascii (decision_word d)) ≤ 5
decision_most allow = omega arith
decision_most deny = omega arith
decision_most undecided = omega arith

-- whatever the name is
name_short : (name : Name) → length (why_item name) ≤ 20
name_short none = omega arith
name_short (some i) = digits_few i

pub head_most : (name : Name) (ls : List Verdict) → length (concat (head_lines name ls)) ≤ 215
head_most name ls =
    let d : List (List ℕ) = ascii (decision_word (decision ls)) ∷ [] in
    let c : List (List ℕ) = numbers (counts_of ls) in
    let w : List (List ℕ) = why_item name ∷ [] in
    let x : length (printed "decision" d) ≤ 8 + 2 + (weigh d - 1) = printed_most "decision" d in
    let y : length (printed "counts" c) ≤ 6 + 2 + (weigh c - 1) = printed_most "counts" c in
    let z : weigh c ≤ 21 * 8 = numbers_most (counts_of ls) in
    let e = decision_most (decision ls) in
    let f = length-append (printed "decision" d) (printed "counts" c ++ (printed "why" w ++ [])) in
    let g = length-append (printed "counts" c) (printed "why" w ++ []) in
    let h = length-append (printed "why" w) [] in
    let i : length (printed "why" w) ≤ 3 + 2 + (weigh w - 1) = printed_most "why" w in
    let j = name_short name in
    omega (arith, x, y, z, e, f, g, h, i, j)

-- ---- policies

effect_most : (e : Effect) → length (ascii (effect_word e)) ≤ 6
effect_most permit = omega arith
effect_most forbid = omega arith

class_most : (c : Class) → length (ascii (class_word c)) ≤ 5
class_most ctrue = omega arith
class_most cfalse = omega arith
class_most cerror = omega arith
class_most copen = omega arith

policy_most : (i : ℕ) (e : Effect) (c : Class) (l : List (List ℕ)) → length (printed "policy" (policy_items i e c l)) ≤ 41 + weigh l
policy_most i e c l =
    let a : length (printed "policy" (policy_items i e c l)) ≤ 6 + 2 + (weigh (policy_items i e c l) - 1) = printed_most "policy" (policy_items i e c l) in
    let x = digits_few i in let y = effect_most e in let z = class_most c in
    omega (arith, a, x, y, z)

complete_most : (is : List ℕ) (ls : List Verdict) → length (concat (complete_lines is ls)) ≤ 62 * length is
complete_most [] ls = omega arith
complete_most (i ∷ is) [] = omega arith
complete_most (i ∷ is) (l ∷ ls) =
    let a = policy_most i l.effect l.class [] in
    let h = complete_most is ls in
    let z = length-append (printed "policy" (policy_items i l.effect l.class [])) (concat (complete_lines is ls)) in
    omega (arith, a, h, z)

pub partial_most : (n : ℕ) (is : List ℕ) (ls : List NVerdict) → length (concat (partial_lines n is ls)) ≤ 62 * length is
partial_most n [] ls = omega arith
partial_most n (i ∷ is) [] = omega arith
partial_most n (i ∷ is) (l ∷ ls) =
    let d : List (List ℕ) = digits (root n l.root) ∷ [] in
    let a = policy_most i l.effect l.class d in
    let b = digits_few (root n l.root) in
    let h = partial_most (n + size l.root) is ls in
    let z = length-append (printed "policy" (policy_items i l.effect l.class d)) (concat (partial_lines (n + size l.root) is ls)) in
    omega (arith, a, b, h, z)

-- ---- made values: 5 bytes for a word, and 17 more for a value

signed_few : (z : ℤ) → IsLong z → length (signed z) ≤ 20
signed_few (pos n) h = let z : scale 10 18 ≡ 10000000000000000000 = refl in let a = digits_short 19 18 n (omega (arith, h, z)) in omega (arith, a)
signed_few (negsuc n) h = let z : scale 10 18 ≡ 10000000000000000000 = refl in let a = digits_short 19 18 (suc n) (omega (arith, h, z)) in omega (arith, a)

bit_few : (b : Bool) → length (digits (bit b)) ≤ 4
bit_few true = small_digits 1 (omega arith)
bit_few false = small_digits 0 (omega arith)

entries_most : (e : Entries) → SmallEntries e → weigh (entry_items e) ≤ 10 * fields_in e
entries_most stop s = omega arith
entries_most (entry t n e) s = let h = entries_most e s.2 in let a = small_digits t s.0 in let b = small_digits n s.1 in omega (arith, h, a, b)

items_of : (r : Row) → GoodValue r → weigh (value_items r) ≤ 5 * row_words r + 11
items_of (rbool b) g = let a = bit_few b in omega (arith, a)
items_of (rlong z) g = let a = signed_few z g in omega (arith, a)
items_of (rtext t) g = let a = small_digits t g in omega (arith, a)
items_of (rent k t) g = let a = small_digits k g.0 in let b = small_digits t g.1 in omega (arith, a, b)
items_of (rset l) g = let a = small_numbers l g in omega (arith, a)
items_of (rrec e) g = let a = entries_most e g in omega (arith, a)

values_most : (R : List Row) → GoodValues R → length (concat (value_lines R)) ≤ 5 * words_of R + 17 * length R
values_most [] g = omega arith
values_most (r ∷ R) g =
    let p : length (printed "value" (value_items r)) ≤ 5 + 2 + (weigh (value_items r) - 1) = printed_most "value" (value_items r) in
    let a = items_of r g.0 in
    let h = values_most R g.1 in
    let z = length-append (printed "value" (value_items r)) (concat (value_lines R)) in
    omega (arith, p, a, h, z)

words_both : (R Q : List Row) → words_of (R ++ Q) ≡ words_of R + words_of Q
words_both [] Q = omega arith
words_both (r ∷ R) Q = let a = words_both R Q in omega (arith, a)

-- what the request makes is an entity
abbrev given_words : Give → ℕ
given_words (made r) = row_words r
given_words (old n) = 0

known_words : (n : ℕ) (g : Give) (r : Row) → known n g ≡ some (made r) → row_words r ≡ given_words g
known_words n g r e = go (eqb n mark) e
  where
    go : (b : Bool) → cond b none (some g) ≡ some (made r) → row_words r ≡ given_words g
    go true q = no_some q
    go false q = ap (λ o. words_in o) (sym q)
      where
        words_in : Option Give → ℕ
        words_in none = 0
        words_in (some x) = given_words x

pub asked_words : (m : Mode) (s : State) (x : Var) (r : Row) → (n_env m s).request x ≡ some (made r) → row_words r ≤ 3
unfolding n_env
asked_words m s principal r e = let l = line_at s PRINCIPAL 0 in let a = known_words (at l 1) (made (rent (at l 0) (at l 1))) r e in omega (arith, a)
asked_words m s action r e = let l = line_at s ACTION 0 in let a = known_words (at l 1) (made (rent (at l 0) (at l 1))) r e in omega (arith, a)
asked_words m s resource r e = let l = line_at s RESOURCE 0 in let a = known_words (at l 1) (made (rent (at l 0) (at l 1))) r e in omega (arith, a)
asked_words m s context r e = let l = line_at s CONTEXT 0 in let a = known_words (at l 1) (old (at l 1)) r e in omega (arith, a)

-- ---- a node's items in the table of forms

short_words : List String → Bool
short_words [] = true
short_words (w ∷ ws) = leb (length (ascii w)) 4 && short_words ws

short_slot : Slot → Bool
short_slot F.entry = true
short_slot (line k) = true
short_slot (line_or b k) = true
short_slot (line_unknown k) = true
short_slot (word ws) = short_words ws
short_slot number = true
short_slot day = true
short_slot nothing = true

short_slots : List Slot → Bool
short_slots [] = true
short_slots (s ∷ l) = short_slot s && short_slots l

short_form : Form → Bool
short_form f = leb (length (ascii f.name)) 8 && (not (eqb f.key NODE) || (short_slots f.items && short_slots f.group))

short_forms : List Form → Bool
short_forms [] = true
short_forms (f ∷ fs) = short_form f && short_forms fs

all_short : short_forms forms ≡ true
unfolding short_forms short_form short_slots short_slot short_words forms
all_short = refl

form_short : (fs : List Form) → short_forms fs ≡ true → (t : ℕ) → short_form (get_or fs t no_form) ≡ true
unfolding short_forms short_form short_slots short_slot
form_short [] e t = refl
form_short (f ∷ fs) e zero = and_left (short_form f) (short_forms fs) e
form_short (f ∷ fs) e (suc t) = form_short fs (and_right (short_form f) (short_forms fs) e) t

slots_short : (l : List Slot) → short_slots l ≡ true → (j : ℕ) → short_slot (get_or l j nothing) ≡ true
unfolding short_slots short_slot
slots_short [] e j = refl
slots_short (s ∷ l) e zero = and_left (short_slot s) (short_slots l) e
slots_short (s ∷ l) e (suc j) = slots_short l (and_right (short_slot s) (short_slots l) e) j

in_form : (f : Form) → short_form f ≡ true → f.key ≡ NODE → (j : ℕ) → short_slot (slot_in f j) ≡ true
unfolding short_form
in_form f e n j =
    let a = and_right (leb (length (ascii f.name)) 8) (not (eqb f.key NODE) || (short_slots f.items && short_slots f.group)) e in
    let k : (short_slots f.items && short_slots f.group) ≡ true = sym (ap (λ b. not b || (short_slots f.items && short_slots f.group)) (eq-eqb f.key NODE n)) ∙ a in
    go (ltb j (length f.items)) (slots_short f.items (and_left (short_slots f.items) (short_slots f.group) k) j) (slots_short f.group (and_right (short_slots f.items) (short_slots f.group) k) ((j - length f.items) % length f.group))
  where
    go : (b : Bool) → short_slot (get_or f.items j nothing) ≡ true → short_slot (get_or f.group ((j - length f.items) % length f.group) nothing) ≡ true
        → short_slot (cond b (get_or f.items j nothing) (get_or f.group ((j - length f.items) % length f.group) nothing)) ≡ true
    go true x y = x
    go false x y = y

slot_short : (t j : ℕ) → (form_of t).key ≡ NODE → short_slot (slot_at t j) ≡ true
unfolding slot_at form_of
slot_short t j n = in_form (form_of t) (form_short forms all_short t) n j

name_most : (t : ℕ) → length (ascii (form_of t).name) ≤ 8
unfolding short_form form_of
name_most t = let f = form_of t in leb-true (length (ascii f.name)) 8 (and_left (leb (length (ascii f.name)) 8) (not (eqb f.key NODE) || (short_slots f.items && short_slots f.group)) (form_short forms all_short t))

words_most : (ws : List String) → short_words ws ≡ true → (x : ℕ) → length (ascii (get_or ws x "")) ≤ 4
unfolding short_words
words_most [] e x = omega arith
words_most (w ∷ ws) e zero = leb-true (length (ascii w)) 4 (and_left (leb (length (ascii w)) 4) (short_words ws) e)
words_most (w ∷ ws) e (suc x) = words_most ws (and_right (leb (length (ascii w)) 4) (short_words ws) e) x

out_most : (sl : Slot) (x : ℕ) → short_slot sl ≡ true → comes sl x ≡ true → length (item_out sl x) ≤ 4
unfolding short_slot
out_most F.entry x e c = no_true c
out_most (line k) x e c = small_digits x (leb-true x 9999 c)
out_most (line_or b k) x e c = go (eqb x mark) (and_right (ltb b 48 && plain_byte b) (eqb x mark || leb x 9999) c)
  where
    go : (t : Bool) → (t || leb x 9999) ≡ true → length (cond t (b ∷ []) (digits x)) ≤ 4
    go true h = omega arith
    go false h = small_digits x (leb-true x 9999 h)
out_most (line_unknown k) x e c = no_true c
out_most (word ws) x e c = words_most ws e x
out_most number x e c = no_true c
out_most day x e c = no_true c
out_most nothing x e c = no_true c

-- items of a node that read back have at most four bytes
module _ (t : ℕ) (n : (form_of t).key ≡ NODE) where
  first_most : (j x : ℕ) (l : List ℕ) → all_come t j (x ∷ l) ≡ true → (length (item_out (slot_at t j) x) ≤ 4) × (all_come t (suc j) l ≡ true)
  first_most j x l c = (out_most (slot_at t j) x (slot_short t j n) (and_left (comes (slot_at t j) x) (all_come t (suc j) l) c), and_right (comes (slot_at t j) x) (all_come t (suc j) l) c)

  items_most : (j : ℕ) (l : List ℕ) → all_come t j l ≡ true → weigh (items_out t j l) ≤ 5 * length l
  items_most j [] c = omega arith
  items_most j (x ∷ l) c = let (a, d) = first_most j x l c in let h = items_most (suc j) l d in omega (arith, a, h)

-- ---- residual nodes: 34 bytes for a node, and those of its pattern or path. A child's number, and its name in a record, are counted with the child

abbrev node_bytes : List (List ℕ) → ℕ
node_bytes [] = 0
node_bytes (r ∷ rs) = length (printed "node" (node_items r)) + node_bytes rs

lines_length : (rs : List (List ℕ)) → length (concat (node_lines rs)) ≡ node_bytes rs
lines_length [] = refl
lines_length (r ∷ rs) = let a = length-append (printed "node" (node_items r)) (concat (node_lines rs)) in let h = lines_length rs in omega (arith, a, h)

nodes_append : (k l : List (List ℕ)) → node_bytes (k ++ l) ≡ node_bytes k + node_bytes l
nodes_append [] l = omega arith
nodes_append (r ∷ k) l = let h = nodes_append k l in omega (arith, h)

like_is : op "like" ≡ like_tag
unfolding tag_of forms
like_is = refl

path_is : op "haspath" ≡ path_tag
unfolding tag_of forms
path_is = refl

-- what a node's row that reads back says of it
record Back (t y : ℕ) (l : List ℕ) : Type 0 where
  node : (form_of t).key ≡ NODE
  type : y ≤ 9999
  come : all_come t 1 l ≡ true

row_comes : (t y : ℕ) (l : List ℕ) → all_good ((t ∷ y ∷ l) ∷ []) ≡ true → Back t y l
row_comes t y l g = good_parts t y l (and_left (good_row (t ∷ y ∷ l)) true g) (λ a k b s c d. and_both (comes (slot_at t 0) y) (all_come t 1 l) d (λ p q.
    record { node = k; type = leb-true y 9999 (sym (ap (λ z. comes z y) s) ∙ p); come = q }))

good_split : {X : Type 0} (a b : List (List ℕ)) → all_good (a ++ b) ≡ true → (all_good a ≡ true → all_good b ≡ true → X) → X
good_split [] b e f = f refl e
good_split (r ∷ a) b e f = and_both (good_row r) (all_good (a ++ b)) e (λ p q. good_split a b q (λ x y. f (both p x) y))

un_items_law : (u : Un) (x y : ℕ) → Back (un_tag u) y (x ∷ un_items u) → weigh (items_out (un_tag u) 1 (x ∷ un_items u)) ≤ 10 + un_bytes u
un_items_law unot x y k = let a = items_most (op "not") k.node 1 (x ∷ []) k.come in omega (arith, a)
un_items_law uneg x y k = let a = items_most (op "neg") k.node 1 (x ∷ []) k.come in omega (arith, a)
un_items_law uempty x y k = let a = items_most (op "empty") k.node 1 (x ∷ []) k.come in omega (arith, a)
un_items_law (uis n) x y k = let a = items_most (op "is") k.node 1 (x ∷ n ∷ []) k.come in omega (arith, a)
un_items_law (ulike p) x y k = let (a, c) = first_most (op "like") k.node 1 x (pattern_items p) k.come in let z = ap (λ t. weigh (items_out t 2 (pattern_items p))) like_is in omega (arith, a, z)

path_items : (x y t : ℕ) (us : List ℕ) → Back (op "haspath") y (x ∷ t ∷ us) → weigh (items_out (op "haspath") 1 (x ∷ t ∷ us)) ≤ 10 + weigh (numbers us)
path_items x y t us k =
    let (a, d) = first_most (op "haspath") k.node 1 x (t ∷ us) k.come in
    let (b, e) = first_most (op "haspath") k.node 2 t us d in
    let c = path_out 0 us in
    let z = ap (λ i. weigh (items_out i 3 us)) path_is in
    omega (arith, a, b, c, z)

module _ (ts : List Ty) where
  last_row : (t : ℕ) (T : Ty) (l : List ℕ) → Back t (type_number ts T) l → node_bytes (row_with ts t T l) ≤ 19 + weigh (items_out t 1 l)
  last_row t T l k =
      let r = t ∷ type_number ts T ∷ l in
      let p : length (printed "node" (node_items r)) ≤ 4 + 2 + (weigh (node_items r) - 1) = printed_most "node" (node_items r) in
      let a = small_digits (type_number ts T) k.type in
      let b = name_most t in
      omega (arith, p, a, b)

  -- a tree's rows, where they read back, and ten bytes for its number and name above
  Long : List (List ℕ) → ℕ → Type 0
  Long A p = all_good A ≡ true → node_bytes A + 10 ≤ p

  -- the rows of a leaf, of one tree and a row over it, of two, of three
  leaf_long : (t : ℕ) (T : Ty) (l : List ℕ) → length l ≤ 1 → Long (row_with ts t T l) 34
  unfolding Long
  leaf_long t T l h g = let k = row_comes t (type_number ts T) l g in let a = last_row t T l k in let b = items_most t k.node 1 l k.come in omega (arith, a, b, h)

  one_long : (t : ℕ) (T : Ty) (l : List ℕ) (w p : ℕ) (A : List (List ℕ)) → Long A p → (Back t (type_number ts T) l → weigh (items_out t 1 l) ≤ 10 + w) → Long (A ++ row_with ts t T l) (p + w + 34)
  unfolding Long
  one_long t T l w p A h f g = good_split A (row_with ts t T l) g (λ x y.
      let k = row_comes t (type_number ts T) l y in let a = last_row t T l k in let b = nodes_append A (row_with ts t T l) in let c = f k in let d = h x in omega (arith, a, b, c, d))

  two_long : (t : ℕ) (T : Ty) (x y p q : ℕ) (A B : List (List ℕ)) → Long A p → Long B q → Long (A ++ B ++ row_with ts t T (x ∷ y ∷ [])) (p + q + 34)
  unfolding Long
  two_long t T x y p q A B h i g =
      let R = row_with ts t T (x ∷ y ∷ []) in
      good_split (A ++ B) R g (λ u v. good_split A B u (λ u w.
      let k = row_comes t (type_number ts T) (x ∷ y ∷ []) v in
      let a = last_row t T (x ∷ y ∷ []) k in let b = items_most t k.node 1 (x ∷ y ∷ []) k.come in
      let c = nodes_append (A ++ B) R in let d = nodes_append A B in let e = h u in let f = i w in
      omega (arith, a, b, c, d, e, f)))

  three_long : (t : ℕ) (T : Ty) (x y z p q r : ℕ) (A B C : List (List ℕ)) → Long A p → Long B q → Long C r → Long (A ++ B ++ C ++ row_with ts t T (x ∷ y ∷ z ∷ [])) (p + q + r + 34)
  unfolding Long
  three_long t T x y z p q r A B C h i j g =
      let R = row_with ts t T (x ∷ y ∷ z ∷ []) in
      good_split (A ++ B ++ C) R g (λ u v. good_split (A ++ B) C u (λ u w. good_split A B u (λ u o.
      let k = row_comes t (type_number ts T) (x ∷ y ∷ z ∷ []) v in
      let a = last_row t T (x ∷ y ∷ z ∷ []) k in let b = items_most t k.node 1 (x ∷ y ∷ z ∷ []) k.come in
      let c = nodes_append (A ++ B ++ C) R in let d = nodes_append (A ++ B) C in let e = nodes_append A B in let f = h u in let l = i o in let n = j w in
      omega (arith, a, b, c, d, e, f, l, n))))

  mutual
    unfolding Long

    tree_long : (n : ℕ) (e : Node ℕ) → all_good (tree_rows ts n e) ≡ true → node_bytes (tree_rows ts n e) + 10 ≤ 34 * size e + tree_bytes e
    tree_long n (lit T v) g = leaf_long (op "lit") T (v ∷ []) (omega arith) g
    tree_long n (err T) g = leaf_long (op "err") T [] (omega arith) g
    tree_long n (var T x) g = leaf_long (op "var") T (var_number x ∷ []) (omega arith) g
    tree_long n (and T a b) g = let z = two_long (op "and") T (root n a) (root (n + size a) b) _ _ (tree_rows ts n a) (tree_rows ts (n + size a) b) (tree_long n a) (tree_long (n + size a) b) g in omega (arith, z)
    tree_long n (or T a b) g = let z = two_long (op "or") T (root n a) (root (n + size a) b) _ _ (tree_rows ts n a) (tree_rows ts (n + size a) b) (tree_long n a) (tree_long (n + size a) b) g in omega (arith, z)
    tree_long n (ite T c a b) g = let z = three_long (op "if") T (root n c) (root (n + size c) a) (root (n + size c + size a) b) _ _ _ (tree_rows ts n c) (tree_rows ts (n + size c) a) (tree_rows ts (n + size c + size a) b) (tree_long n c) (tree_long (n + size c) a) (tree_long (n + size c + size a) b) g in omega (arith, z)
    tree_long n (un T u a) g = let z = one_long (un_tag u) T (root n a ∷ un_items u) (un_bytes u) _ (tree_rows ts n a) (tree_long n a) (un_items_law u (root n a) (type_number ts T)) g in omega (arith, z)
    tree_long n (bin T o a b) g = let z = two_long (bin_tag o) T (root n a) (root (n + size a) b) _ _ (tree_rows ts n a) (tree_rows ts (n + size a) b) (tree_long n a) (tree_long (n + size a) b) g in omega (arith, z)
    tree_long n (rel T o a b) g = let z = two_long (rel_tag o) T (root n a) (root (n + size a) b) _ _ (tree_rows ts n a) (tree_rows ts (n + size a) b) (tree_long n a) (tree_long (n + size a) b) g in omega (arith, z)
    tree_long n (get T a t) g = let z = one_long (op "get") T (root n a ∷ t ∷ []) 0 _ (tree_rows ts n a) (tree_long n a) (λ k. items_most (op "get") k.node 1 (root n a ∷ t ∷ []) k.come) g in omega (arith, z)
    tree_long n (has T a t) g = let z = one_long (op "has") T (root n a ∷ t ∷ []) 0 _ (tree_rows ts n a) (tree_long n a) (λ k. items_most (op "has") k.node 1 (root n a ∷ t ∷ []) k.come) g in omega (arith, z)
    tree_long n (haspath T a t us) g = let z = one_long (op "haspath") T (root n a ∷ t ∷ us) (weigh (numbers us)) _ (tree_rows ts n a) (tree_long n a) (path_items (root n a) (type_number ts T) t us) g in omega (arith, z)
    tree_long n (set T es) g = good_split (all_rows ts n es) (row_with ts (op "set") T (roots n es)) g (λ x y.
        let k = row_comes (op "set") (type_number ts T) (roots n es) y in
        let a = all_long n es x in let b = last_row (op "set") T (roots n es) k in let c = items_most (op "set") k.node 1 (roots n es) k.come in let d = nodes_append (all_rows ts n es) (row_with ts (op "set") T (roots n es)) in
        omega (arith, a, b, c, d))
    tree_long n (rec T gs) g = good_split (arg_rows ts n gs) (row_with ts (op "record") T (arg_roots n gs)) g (λ x y.
        let k = row_comes (op "record") (type_number ts T) (arg_roots n gs) y in
        let a = args_long n gs x in let b = last_row (op "record") T (arg_roots n gs) k in let c = items_most (op "record") k.node 1 (arg_roots n gs) k.come in let d = nodes_append (arg_rows ts n gs) (row_with ts (op "record") T (arg_roots n gs)) in
        omega (arith, a, b, c, d))

    all_long : (n : ℕ) (es : Nodes ℕ) → all_good (all_rows ts n es) ≡ true → node_bytes (all_rows ts n es) + 5 * length (roots n es) ≤ 34 * sizes es + trees_bytes es
    all_long n enil g = omega arith
    all_long n (econs e es) g = good_split (tree_rows ts n e) (all_rows ts (n + size e) es) g (λ x y.
        let a = tree_long n e x in let b = all_long (n + size e) es y in let c = nodes_append (tree_rows ts n e) (all_rows ts (n + size e) es) in omega (arith, a, b, c))

    args_long : (n : ℕ) (gs : NodeArgs ℕ) → all_good (arg_rows ts n gs) ≡ true → node_bytes (arg_rows ts n gs) + 5 * length (arg_roots n gs) ≤ 34 * size_args gs + args_bytes gs
    args_long n gnil g = omega arith
    args_long n (gcons t e gs) g = good_split (tree_rows ts n e) (arg_rows ts (n + size e) gs) g (λ x y.
        let a = tree_long n e x in let b = args_long (n + size e) gs y in let c = nodes_append (tree_rows ts n e) (arg_rows ts (n + size e) gs) in omega (arith, a, b, c))

  residuals_long : (n : ℕ) (ls : List NVerdict) → all_good (residual_rows ts n ls) ≡ true → node_bytes (residual_rows ts n ls) ≤ 34 * residual_sizes ls + residual_bytes ls
  residuals_long n [] g = omega arith
  residuals_long n (l ∷ ls) g = good_split (tree_rows ts n l.root) (residual_rows ts (n + size l.root) ls) g (λ x y.
      let a = tree_long n l.root x in let b = residuals_long (n + size l.root) ls y in let c = nodes_append (tree_rows ts n l.root) (residual_rows ts (n + size l.root) ls) in omega (arith, a, b, c))

-- ---- an accepted sheet

-- 64 policies of one pattern as long as the sheet without its policy lines, 34 bytes for each of 1,024 nodes, 1,024 made values of 3,084 words, 62 bytes for each policy, and 215 for the head
abbrev pub longest : ℕ
longest = 1046675

abbrev pub most_answer : ℕ
most_answer = 1048576

ids_few : (m : Mode) (sheet : List ℕ) → (read m sheet).number ≡ 0 → length (ids (read m sheet).state) ≤ 64
ids_few m sheet e =
    let s = (read m sheet).state in
    let (h, g) = accepted_history m sheet e in
    let a = firsts_length (on_term s) in
    let b = on_term_few s in
    let c = (most_lines m s h).policies in
    omega (arith, a, b, c)

module _ (sheet : List ℕ) (acc : Accepted partial sheet) where
  abbrev s : State
  s = (read partial sheet).state

  made_words : words_of (drop (count s VALUE) (run partial s).rows) ≤ 12 + 3 * policy_sizes (n_policies s)
  unfolding run
  made_words =
      let a = run_words (n_env partial s) (asked_words partial s) (schema s) (n_policies s) (value_rows s) in
      let b = ap words_of (rows_are sheet acc) in
      let c = words_both (value_rows s) (drop (count s VALUE) (run partial s).rows) in
      omega (arith, a, b, c)

  left_lines : LeftLines (n_policies s) (run partial s).lines
  unfolding run
  left_lines = let f = facts partial sheet acc in (run_leaves (Under s) (schema s) (n_env partial s) (asked_under s f) (n_policies s) (policies_under partial s f.history) (value_rows s)).lines

  few_made : length (drop (count s VALUE) (run partial s).rows) ≤ policy_sizes (n_policies s)
  few_made = let a = made_at_most partial sheet (accepted_read partial sheet acc) in let b = length-drop (count s VALUE) (run partial s).rows in omega (arith, a, b)

  rows_good : all_good (residual_rows (types s) 0 (run partial s).lines) ≡ true
  rows_good =
      let e = accepted_read partial sheet acc in
      let a = policy_sizes_law partial sheet e in
      let b = residual_sizes_law partial sheet e in
      residuals_good (types s) (few_types sheet acc) (run partial s).lines 0 (residuals_small sheet acc) (omega (arith, a, b))

  partial_length : length (answer partial s) ≤ longest
  unfolding answer
  partial_length =
      let e = accepted_read partial sheet acc in
      let r = run partial s in
      let hs : List (List ℕ) = head_lines (why (ids s) (verdicts r.lines)) (verdicts r.lines) in
      let vs : List (List ℕ) = value_lines (drop (count s VALUE) r.rows) in
      let ns : List (List ℕ) = node_lines (residual_rows (types s) 0 r.lines) in
      let ps : List (List ℕ) = partial_lines 0 (ids s) r.lines in
      let a = head_most (why (ids s) (verdicts r.lines)) (verdicts r.lines) in
      let b = values_most (drop (count s VALUE) r.rows) (made_values sheet acc) in
      let c = made_words in
      let q = few_made in
      let d = residuals_long (types s) 0 r.lines rows_good in
      let f = lines_length (residual_rows (types s) 0 r.lines) in
      let g = partial_most 0 (ids s) r.lines in
      let i = residual_sizes_law partial sheet e in
      let j = policy_sizes_law partial sheet e in
      let k = lines_bytes left_lines in
      let l = policies_bytes partial sheet e (accepted_short partial sheet acc) (facts partial sheet acc).history in
      let n = ids_few partial sheet e in
      let x = concat_length (hs ++ vs ++ ns) ps in
      let y = concat_length (hs ++ vs) ns in
      let z = concat_length hs vs in
      omega (arith, a, b, c, d, f, g, i, j, k, l, n, q, x, y, z)

complete_length : (sheet : List ℕ) → Accepted complete sheet → length (answer complete (read complete sheet).state) ≤ longest
unfolding answer
complete_length sheet acc =
    let s = (read complete sheet).state in
    let a = head_most (why (ids s) (results s)) (results s) in
    let b = complete_most (ids s) (results s) in
    let n = ids_few complete sheet (accepted_read complete sheet acc) in
    let x = concat_length (head_lines (why (ids s) (results s)) (results s)) (complete_lines (ids s) (results s)) in
    omega (arith, a, b, n, x)

-- no answer of an accepted sheet is longer
pub answer_length : (m : Mode) (sheet : List ℕ) → Accepted m sheet → length (answer m (read m sheet).state) ≤ longest
answer_length partial sheet acc = partial_length sheet acc
answer_length complete sheet acc = complete_length sheet acc

-- NO ANSWER HAS MORE THAN 1,048,576 BYTES, whatever short sheet is read without fault
pub answer_most : (m : Mode) (sheet : List ℕ) → length sheet ≤ room → (read m sheet).number ≡ 0 → length (answer m (read m sheet).state) ≤ most_answer
answer_most m sheet h e =
    let a = answer_length m sheet (accepted_from m sheet h e) in
    omega (arith, a)

-- A BUFFER OF 1,048,576 BYTES NEVER MEETS 10: every number returned there is one of 0 to 8
pub never_ten : (m : Mode) (work₁ work₂ out : ℕ) (sheet : List ℕ) → most_answer ≤ out → (returned m work₁ work₂ out sheet).number ≤ 8
unfolding returned
never_ten m work₁ work₂ out sheet b =
    lent_by Small work₁ work₂ (checked_then m sheet (fitted out n)) (λ t. omega arith)
    (λ t. checked_by Small m sheet (fitted out n) (omega arith) (λ i q. let s = read_small m sheet in omega (arith, q, s)) (λ h q. let a = answer_most m sheet h q in fits (ltb out n) (le-ltb out n (omega (arith, a, b)))))
  where
    n : ℕ
    n = length (answer m (read m sheet).state)

    Small : Returned → Type 0
    Small r = r.number ≤ 8

    fits : (c : Bool) → c ≡ false → Small (cond c (returns 10 0 n) (returns 0 0 n))
    fits true e = no_true (sym e)
    fits false e = omega arith
