-- Document 01, the table of numbers: the refusal of a line (3 to 8, in number order), and the reading of a sheet.
use Rattle.std.specs.Prelude.{Bool, true, false, cond, ◌&&◌, ◌||◌, not, List, [], ◌∷◌, ◌++◌, ℕ, zero, suc, ◌+◌, ◌-◌, max, leb, ltb, eqb, length, get_or, take, drop, set}
use Rattle.sheet.specs.Bytes.{same, split, starts}
use Rattle.sheet.specs.Forms.{Mode, Slot, entry, line, line_or, line_unknown, word, number, day, nothing, slot_at, mark, row_of, tag, items, at, key_of, refs, ascendings, TEXT, KIND, TYPE, VALUE, ENTITY, NODE, POLICY, LINK, TERM, no_key, alone_row}
use Rattle.cedar.specs.Numbered.{mem_n, r_ent}
use Rattle.sheet.specs.State.{State, empty, lines_of, count, line_at, depths_of, counts, before, type_row, entity_lines, value_at}
use Rattle.sheet.specs.Typing.{nodes_under, nodes_of, is_slot, slot_value, typed, on_entity, all_in, ancestor_fits}
use Rattle.sheet.specs.Ascii.{ascii}
use Rattle.sheet.specs.Parents.{ancestors}

-- ---- 3: key order, line missing

-- the least and the greatest number of lines of each key; "shape .. one per kind"
abbrev pub least : State → List ℕ
least s = 1 ∷ 0 ∷ 0 ∷ 0 ∷ count s KIND ∷ 0 ∷ 0 ∷ 1 ∷ 1 ∷ 1 ∷ 1 ∷ 1 ∷ 0 ∷ 0 ∷ 0 ∷ 0 ∷ []

abbrev pub greatest : State → List ℕ
greatest s = 1 ∷ 512 ∷ 32 ∷ 128 ∷ count s KIND ∷ 1024 ∷ 128 ∷ 1 ∷ 1 ∷ 1 ∷ 1 ∷ 1 ∷ 1024 ∷ 64 ∷ 64 ∷ 64 ∷ []

-- each of the first at least that of the second
abbrev pub reach : List ℕ → List ℕ → Bool
reach [] l = true
reach (x ∷ k) [] = true
reach (x ∷ k) (y ∷ l) = leb y x && reach k l

-- no line missing of the keys before k
abbrev pub enough : State → ℕ → Bool
enough s k = reach (take k (counts s)) (least s)

abbrev pub all_zero : List ℕ → Bool
all_zero [] = true
all_zero (x ∷ l) = eqb x 0 && all_zero l

-- "Keys in this order"
abbrev pub in_order : State → ℕ → Bool
in_order s k = all_zero (drop (suc k) (counts s)) && enough s k

-- ---- 4: one line too many, or too many node uses

-- the node uses of policy lines: each has the nodes under its root
abbrev pub uses : State → List (List ℕ) → ℕ
uses s [] = 0
uses s (r ∷ rs) = length (nodes_under s (at r 2)) + uses s rs

-- "Node uses summed over all policies may reach 1,024"
abbrev pub overused : State → ℕ → List ℕ → Bool
overused s k r = eqb k POLICY && ltb 1024 (uses s (r ∷ lines_of s POLICY))

abbrev pub too_many : State → ℕ → List ℕ → Bool
too_many s k r = leb (get_or (greatest s) k 0) (count s k) || overused s k r

-- ---- 5: references, repeats, order

-- what an item refers to is there, of `lines k` lines of key k
abbrev pub there_of : (ℕ → ℕ) → Slot → ℕ → Bool
there_of lines entry x = true
there_of lines (line k) x = ltb x (lines k)
there_of lines (line_or w k) x = eqb x mark || ltb x (lines k)
there_of lines (line_unknown k) x = eqb x mark || ltb x (lines k)
there_of lines (word ws) x = true
there_of lines number x = true
there_of lines day x = true
there_of lines nothing x = true

-- the items from place j on of a row of tag t
abbrev pub all_there_of : (ℕ → ℕ) → ℕ → ℕ → List ℕ → Bool
all_there_of lines t j [] = true
all_there_of lines t j (x ∷ l) = there_of lines (slot_at t j) x && all_there_of lines t (suc j) l

abbrev pub there_is : State → Slot → ℕ → Bool
there_is s sl x = there_of (count s) sl x

abbrev pub all_there : State → ℕ → ℕ → List ℕ → Bool
all_there s t j l = all_there_of (count s) t j l

-- strictly, and none under m
abbrev pub ascend : ℕ → List ℕ → Bool
ascend m [] = true
ascend m (x ∷ l) = leb m x && ascend (suc x) l

abbrev pub among : List ℕ → List (List ℕ) → Bool
among r [] = false
among r (x ∷ l) = same r x || among r l

abbrev pub firsts : List (List ℕ) → List ℕ
firsts [] = []
firsts (r ∷ l) = at r 0 ∷ firsts l

-- texts, types, values: distinct
abbrev pub new_row : State → ℕ → List ℕ → Bool
new_row s k r = not (among r (lines_of s k))

-- kinds: "names distinct"; policies: "ids distinct"
abbrev pub new_name : State → ℕ → List ℕ → Bool
new_name s k r = not (mem_n (at r 0) (firsts (lines_of s k)))

-- entities, links, terms: "ascending"
abbrev pub above : State → ℕ → List ℕ → Bool
above s k r = eqb (count s k) 0 || ltb (at (line_at s k (count s k - 1)) 0) (at r 0)

-- "Each kind so grouped needs a type line alone, earlier": of the type lines and the kinds of a new one, two or more
abbrev pub each_alone : List (List ℕ) → List ℕ → Bool
each_alone ts [] = true
each_alone ts (k ∷ []) = true
each_alone ts (k ∷ l ∷ ls) = all_in (λ m. among (alone_row m) ts) (k ∷ l ∷ ls)

abbrev pub new_type : State → List ℕ → Bool
new_type s r = new_row s TYPE r && on_entity true (type_row r) (each_alone (lines_of s TYPE))

-- whether slot x is among these nodes: 0 the principal's, `p`, and 1 the resource's, `r`
abbrev pub has_slot : ℕ → List (List ℕ) → Bool
has_slot x [] = false
has_slot x (r ∷ rs) = (is_slot r && eqb (slot_value 0 1 (at r 1)) x) || has_slot x rs

abbrev pub any_slot : List (List ℕ) → Bool
any_slot [] = false
any_slot (r ∷ rs) = is_slot r || any_slot rs

-- links: "A slot without a value gets 5", "a value for a slot that the policy lacks gets 5 there too"; slot x has its value at place x + 1
abbrev pub slot_given : State → List ℕ → ℕ → Bool
slot_given s r x = cond (has_slot x (nodes_of s (at r 0))) (not (eqb (at r (suc x)) mark)) (eqb (at r (suc x)) mark)

-- terms: "A last day before the first gets 5"
abbrev pub term_goes : List ℕ → Bool
term_goes r = leb (at r 1) (at r 2)

abbrev pub fresh : State → ℕ → List ℕ → Bool
fresh s k r = cond (eqb k TYPE) (new_type s r) (cond (eqb k TEXT || eqb k VALUE) (new_row s k r) (cond (eqb k KIND || eqb k POLICY) (new_name s k r) (cond (eqb k ENTITY) (above s k r) (cond (eqb k LINK) (above s k r && (slot_given s r 0 && slot_given s r 1)) (cond (eqb k TERM) (above s k r && term_goes r) true)))))

unfoldable pub found : State → ℕ → List ℕ → Bool
found s k r = all_there s (tag r) 0 (items r) && ascend 0 (ascendings r) && fresh s k r

-- ---- 6: depth

abbrev pub deepest : State → ℕ → List ℕ → ℕ
deepest s k [] = 0
deepest s k (n ∷ l) = max (get_or (depths_of s k) n 0) (deepest s k l)

-- "A leaf has depth 1": one more than the deepest line of the same key that the row refers to
unfoldable pub depth : State → ℕ → List ℕ → ℕ
depth s k r = suc (deepest s k (refs k r))

-- ---- 8: uses

-- nodes used in turn, each marked with x: 1 where a node uses it, 2 where a policy does
abbrev pub marked : ℕ → List ℕ → List ℕ → List ℕ
marked x u [] = u
marked x u (n ∷ l) = marked x (set u n x) l

-- "A policy root may now serve several policies; other nodes keep their single use"
abbrev pub used_twice : List ℕ → List ℕ → Bool
used_twice u [] = false
used_twice u (n ∷ l) = eqb (get_or u n 0) 1 || used_twice (set u n 1) l

-- ---- the refusal of a line with row r, 0 for none: 3 to 8 in number order

abbrev pub fault_of : State → ℕ → List ℕ → ℕ
fault_of s k r =
    cond (not (in_order s k)) 3
    (cond (too_many s k r) 4
    (cond (not (found s k r)) 5
    (cond (ltb 64 (depth s k r)) 6
    (cond (not (typed s r k)) 7
    (cond (used_twice s.used (refs NODE r)) 8 0)))))

unfoldable pub fault : State → List ℕ → ℕ
fault s [] = 3
fault s (t ∷ l) = fault_of s (key_of (t ∷ l)) (t ∷ l)

-- the state with the line
abbrev pub added : State → ℕ → List ℕ → State
added s k r = record {
  lines = set s.lines k (lines_of s k ++ (r ∷ []));
  depths = set s.depths k (depths_of s k ++ (depth s k r ∷ []));
  used = cond (eqb k NODE) (marked 1 s.used (refs NODE r) ++ (0 ∷ [])) (marked 2 s.used (refs NODE r));
}

unfoldable pub more : State → List ℕ → State
more s r = added s (key_of r) r

-- ---- the reading of a sheet

pub record Reading : Type 0 where
  pub number : ℕ
  pub line : ℕ
  pub state : State

abbrev pub reads : State → ℕ → ℕ → Reading
reads s n k = record { number = n; line = k; state = s }

-- ---- 7 after the entity lines. Document 02, 2.6: "Each ancestor's kind must be among those above: .. for all reached"

abbrev pub reached_fit : State → List ℕ → Bool
reached_fit s r = r_ent false (value_at s (at r 0)) (λ k t. all_in (ancestor_fits s k) (ancestors (lines_of s VALUE) (entity_lines s) (at r 0)))

-- the place of the first entity line that reaches a kind which is not above; as many as there are lines where none does
abbrev pub first_unfit : State → List (List ℕ) → ℕ
first_unfit s [] = 0
first_unfit s (r ∷ rs) = cond (reached_fit s r) (suc (first_unfit s rs)) 0

-- "7 at the entity line .. the lowest such entity line first", else what follows
abbrev pub fit_or : State → ℕ → Reading → Reading
fit_or s n rest = cond (ltb n (count s ENTITY)) (reads s 7 (suc (before s ENTITY + n))) rest

abbrev pub entities_fit : State → Reading → Reading
entities_fit s rest = fit_or s (first_unfit s (lines_of s ENTITY)) rest

-- "when a line that does not begin with `entity=` .. follows, before that line's own checks"
abbrev pub before_line : List ℕ → State → Reading → Reading
before_line l s rest = cond (starts (ascii "entity=") l) rest (entities_fit s rest)

-- ---- the end

-- the place of the first 0
abbrev pub first_unused : List ℕ → ℕ
first_unused [] = 0
first_unused (x ∷ l) = cond (eqb x 0) 0 (suc (first_unused l))

-- "or never (the line of the lowest such node, after all lines)"
abbrev pub all_used : State → ℕ → Reading
all_used s n = cond (ltb n (count s NODE)) (reads s 8 (suc (before s NODE + n))) (reads s 0 0)

-- the first of policy lines, numbered from n, that has a slot and no link line
abbrev pub first_unlinked : State → ℕ → List (List ℕ) → ℕ
first_unlinked s n [] = n
first_unlinked s n (r ∷ rs) = cond (any_slot (nodes_under s (at r 2)) && not (mem_n n (firsts (lines_of s LINK)))) n (first_unlinked s (suc n) rs)

-- "A slot whose policy has no link line gets 5 at the lowest such policy line, after the last line and before unused nodes"
abbrev pub all_linked : State → ℕ → Reading
all_linked s n = cond (ltb n (count s POLICY)) (reads s 5 (suc (before s POLICY + n))) (all_used s (first_unused s.used))

-- after the last line: "a line missing at the end has the number after the last"
abbrev pub ending : State → ℕ → Reading
ending s k = cond (enough s no_key) (all_linked s (first_unlinked s 0 (lines_of s POLICY))) (reads s 3 k)

-- "lines in turn, the first faulty line ending the reading", from number k; what follows the last line end must be empty, and is the sheet's end
abbrev pub go_on : State → ℕ → List ℕ → ℕ → (State → ℕ → Reading) → Reading
go_on s k r zero rest = rest (more s r) (suc k)
go_on s k r (suc n) rest = reads s (suc n) k

abbrev pub line_read : State → ℕ → List ℕ → (State → ℕ → Reading) → Reading
line_read s k r rest = go_on s k r (fault s r) rest

abbrev pub reading : Mode → List (List ℕ) → State → ℕ → Reading
reading m [] s k = entities_fit s (ending s k)
reading m (l ∷ []) s k = before_line l s (cond (same l []) (ending s k) (reads s 3 k))
reading m (l ∷ n ∷ ls) s k = before_line l s (line_read s k (row_of m l) (reading m (n ∷ ls)))

-- the same where nothing is refused before the first of the lines (for the code that reads a line)
abbrev pub reading_on : Mode → List (List ℕ) → State → ℕ → Reading
reading_on m [] s k = ending s k
reading_on m (l ∷ []) s k = cond (same l []) (ending s k) (reads s 3 k)
reading_on m (l ∷ n ∷ ls) s k = line_read s k (row_of m l) (reading m (n ∷ ls))

unfoldable pub read : Mode → List ℕ → Reading
read m sheet = reading m (split 10 sheet) empty 1
