-- A PRINTED ANSWER READS BACK AS WHAT WAS PRINTED, over lists of what is printed.
use mathlib.Core.Path.{◌≡◌, refl, sym, ◌∙◌, ap, ap₂}
use mathlib.Core.Bool.{Bool, true, false, cond, not, ◌&&◌}
use mathlib.Core.Option.{none, some}
use mathlib.Core.List.{List, [], ◌∷◌, ◌++◌, append_assoc}
use Prim.Native.Nat.{ℕ, suc, ◌≤◌, ◌+◌}
use native.Mathlib.Omega.{arith}
use borrow.Author.Tests.{lt-ltb, eq-eqb}
use lib.Dec.{eqb}
use lib.ListN.{length, get_or, drop, replicate}
use lib.Seq.{drop-append_seam}
use Rattle.cedar.proofs.Tools.{no_true}
use Rattle.cedar.specs.Value.{on_some}
use Rattle.cedar.specs.Residual.{Class, ctrue, cfalse, cerror, copen}
use Rattle.cedar.specs.Response.{Effect, permit, forbid, Verdict, Decision, allow, deny, undecided, decision, is_permit, is_forbid, is_true, is_open}
use Rattle.cedar.specs.Rows.{Row}
use Rattle.cedar.specs.Runs.{NVerdict, verdicts}
use Rattle.sheet.specs.Ascii.{ascii}
use Rattle.sheet.specs.Bytes.{split, digits, same}
use Rattle.sheet.specs.Forms.{Mode, partial, complete, Slot, line, word, joined, one, keys, forms, form_of, tag_of, counted, row_of, row_headed, heading, key_of, TEXT, VALUE, NODE, POLICY, no_key}
use Rattle.sheet.specs.Content.{rows_in}
use Rattle.sheet.specs.Answer.{concat, numbers, decision_word, effect_word, class_word, is_false, is_error, how_many, counts_of, head_lines, value_items, value_lines, size, root, node_items, node_lines, policy_items, partial_lines, complete_lines}
use Rattle.sheet.specs.Why.{Name, why_item}
use Rattle.sheet.specs.ReadAnswer.{PolicyLine, Said, items_by, decision_line, decision_of, counts_line, why_line, policy_line, policy_of, policy_lines, rows_first, said_with, rest_of, lines_say, read_answer}
use Rattle.sheet.proofs.reading.Lines.{and_both}
use Rattle.sheet.proofs.content.ValueRows.{back}
use Rattle.sheet.proofs.answer.DigitsBack.{index_back}
use Rattle.sheet.proofs.answer.LinesBack.{all_plain, unended, end_all, printed_ends, end_append, all_lack, lack_append, lines_back, line_lacks, items_back, items_show, decision_line_law, counts_line_law, why_line_law, policy_line_law}
use Rattle.sheet.proofs.answer.RowsBack.{AllSmall, GoodValue, good_row, small_plain, numbers_plain, value_plain, value_row_back, row_back, value_key, node_back, node_plain, node_key}
use Rattle.sheet.proofs.answer.RowsGood.{all_good}
use Rattle.sheet.proofs.running.MadeCount.{residual_sizes}

-- ---- decision and counts

abbrev decision_row : Decision → List ℕ
decision_row allow = 0 ∷ []
decision_row deny = 1 ∷ []
decision_row undecided = 2 ∷ []

decision_plain : (d : Decision) → all_plain (ascii (decision_word d) ∷ []) ≡ true
decision_plain allow = refl
decision_plain deny = refl
decision_plain undecided = refl

decision_reads : (d : Decision) → decision_line (unended "decision" (ascii (decision_word d) ∷ [])) ≡ some (decision_row d)
decision_reads allow = decision_line_law (word ("allow" ∷ "deny" ∷ "open" ∷ []) ∷ []) (ascii "allow") [] refl
decision_reads deny = decision_line_law (word ("allow" ∷ "deny" ∷ "open" ∷ []) ∷ []) (ascii "deny") [] refl
decision_reads undecided = decision_line_law (word ("allow" ∷ "deny" ∷ "open" ∷ []) ∷ []) (ascii "open") [] refl

decision_is : (d : Decision) → decision_of (decision_row d) ≡ d
decision_is allow = refl
decision_is deny = refl
decision_is undecided = refl

indices_back : (k : ℕ) (l : List ℕ) → AllSmall l → items_by (replicate (length l) (line k)) (numbers l) ≡ some l
indices_back k [] h = refl
indices_back k (n ∷ l) h = ap₂ (λ o p. joined (one o) p) (index_back n h.0) (indices_back k l h.1)

counts_reads : (a b c d e f g h : ℕ) → AllSmall (a ∷ b ∷ c ∷ d ∷ e ∷ f ∷ g ∷ h ∷ []) → counts_line (unended "counts" (numbers (a ∷ b ∷ c ∷ d ∷ e ∷ f ∷ g ∷ h ∷ []))) ≡ some (a ∷ b ∷ c ∷ d ∷ e ∷ f ∷ g ∷ h ∷ [])
counts_reads a b c d e f g h s = let l = b ∷ c ∷ d ∷ e ∷ f ∷ g ∷ h ∷ [] in
    counts_line_law (replicate 8 (line POLICY)) (digits a) (numbers l) (numbers_plain (a ∷ l) s) ∙ indices_back POLICY (a ∷ l) s

-- a name whose number has at most four digits
abbrev pub SmallName : Name → Type 0
SmallName none = Unit {0}
SmallName (some i) = i ≤ 9999

why_plain : (w : Name) → SmallName w → all_plain (why_item w ∷ []) ≡ true
why_plain none h = refl
why_plain (some i) h = rw (small_plain i h)

why_reads : (w : Name) → SmallName w → why_line (unended "why" (why_item w ∷ [])) ≡ some w
why_reads none h = refl
why_reads (some i) h = ap (λ o. on_some (cond (same (unended "why" (digits i ∷ [])) (ascii "why=none")) (some none) none) o (λ r. some (some (get_or r 0 0))))
    (why_line_law (line TEXT ∷ []) (digits i) [] (why_plain (some i) h) ∙ ap (λ o. joined (one o) (some [])) (index_back i h))

-- ---- policy lines

policy_plain : (i : ℕ) (e : Effect) (c : Class) (l : List (List ℕ)) → i ≤ 9999 → all_plain l ≡ true → all_plain (policy_items i e c l) ≡ true
policy_plain i permit ctrue l h p = rw (small_plain i h) p
policy_plain i permit cfalse l h p = rw (small_plain i h) p
policy_plain i permit cerror l h p = rw (small_plain i h) p
policy_plain i permit copen l h p = rw (small_plain i h) p
policy_plain i forbid ctrue l h p = rw (small_plain i h) p
policy_plain i forbid cfalse l h p = rw (small_plain i h) p
policy_plain i forbid cerror l h p = rw (small_plain i h) p
policy_plain i forbid copen l h p = rw (small_plain i h) p

-- the policy's line in each kind of answer
abbrev pub line_with : ℕ → Effect → Class → ℕ → PolicyLine
line_with i e c n = record { id = i; effect = e; class = c; root = n }

abbrev policy_row : ℕ → Effect → Class → List ℕ → List ℕ
policy_row i permit ctrue l = i ∷ 0 ∷ 0 ∷ l
policy_row i permit cfalse l = i ∷ 0 ∷ 1 ∷ l
policy_row i permit cerror l = i ∷ 0 ∷ 2 ∷ l
policy_row i permit copen l = i ∷ 0 ∷ 3 ∷ l
policy_row i forbid ctrue l = i ∷ 1 ∷ 0 ∷ l
policy_row i forbid cfalse l = i ∷ 1 ∷ 1 ∷ l
policy_row i forbid cerror l = i ∷ 1 ∷ 2 ∷ l
policy_row i forbid copen l = i ∷ 1 ∷ 3 ∷ l

abbrev policy_slots : List Slot → List Slot
policy_slots ss = line TEXT ∷ word ("permit" ∷ "forbid" ∷ []) ∷ word ("true" ∷ "false" ∷ "error" ∷ "open" ∷ []) ∷ ss

policy_items_law : (i : ℕ) (e : Effect) (c : Class) (ss : List Slot) (fs : List (List ℕ)) (l : List ℕ) → i ≤ 9999 → items_by ss fs ≡ some l → items_by (policy_slots ss) (policy_items i e c fs) ≡ some (policy_row i e c l)
policy_items_law i permit ctrue ss fs l h q = ap₂ (λ o p. joined (one o) (joined (some (0 ∷ [])) (joined (some (0 ∷ [])) p))) (index_back i h) q
policy_items_law i permit cfalse ss fs l h q = ap₂ (λ o p. joined (one o) (joined (some (0 ∷ [])) (joined (some (1 ∷ [])) p))) (index_back i h) q
policy_items_law i permit cerror ss fs l h q = ap₂ (λ o p. joined (one o) (joined (some (0 ∷ [])) (joined (some (2 ∷ [])) p))) (index_back i h) q
policy_items_law i permit copen ss fs l h q = ap₂ (λ o p. joined (one o) (joined (some (0 ∷ [])) (joined (some (3 ∷ [])) p))) (index_back i h) q
policy_items_law i forbid ctrue ss fs l h q = ap₂ (λ o p. joined (one o) (joined (some (1 ∷ [])) (joined (some (0 ∷ [])) p))) (index_back i h) q
policy_items_law i forbid cfalse ss fs l h q = ap₂ (λ o p. joined (one o) (joined (some (1 ∷ [])) (joined (some (1 ∷ [])) p))) (index_back i h) q
policy_items_law i forbid cerror ss fs l h q = ap₂ (λ o p. joined (one o) (joined (some (1 ∷ [])) (joined (some (2 ∷ [])) p))) (index_back i h) q
policy_items_law i forbid copen ss fs l h q = ap₂ (λ o p. joined (one o) (joined (some (1 ∷ [])) (joined (some (3 ∷ [])) p))) (index_back i h) q

policy_is : (i : ℕ) (e : Effect) (c : Class) (l : List ℕ) → policy_of (policy_row i e c l) ≡ line_with i e c (get_or l 0 0)
policy_is i permit ctrue l = refl
policy_is i permit cfalse l = refl
policy_is i permit cerror l = refl
policy_is i permit copen l = refl
policy_is i forbid ctrue l = refl
policy_is i forbid cfalse l = refl
policy_is i forbid cerror l = refl
policy_is i forbid copen l = refl

rooted : (i : ℕ) (e : Effect) (c : Class) (n : ℕ) → i ≤ 9999 → n ≤ 9999 → policy_line partial (unended "policy" (policy_items i e c (digits n ∷ []))) ≡ some (policy_row i e c (n ∷ []))
rooted i e c n h k = policy_line_law (policy_slots (line NODE ∷ [])) (digits i) (ascii (effect_word e) ∷ ascii (class_word c) ∷ digits n ∷ []) (policy_plain i e c (digits n ∷ []) h (rw (small_plain n k)))
    ∙ policy_items_law i e c (line NODE ∷ []) (digits n ∷ []) (n ∷ []) h (ap (λ o. joined (one o) (some [])) (index_back n k))

rootless : (i : ℕ) (e : Effect) (c : Class) → i ≤ 9999 → policy_line complete (unended "policy" (policy_items i e c [])) ≡ some (policy_row i e c [])
rootless i e c h = policy_line_law (policy_slots []) (digits i) (ascii (effect_word e) ∷ ascii (class_word c) ∷ []) (policy_plain i e c [] h refl) ∙ policy_items_law i e c [] [] [] h refl

-- with four items it has no row
no_row : (f g h i : List ℕ) → all_plain (f ∷ g ∷ h ∷ i ∷ []) ≡ true → row_of partial (unended "policy" (f ∷ g ∷ h ∷ i ∷ [])) ≡ []
unfolding row_of keys tag_of counted form_of forms
no_row f g h i e = λ j. cond (items_show (f ∷ g ∷ h ∷ i ∷ []) e j && lt-ltb 6 (length (unended "policy" (f ∷ g ∷ h ∷ i ∷ []))) (omega arith) j) (row_headed partial POLICY (heading POLICY (items_back f (g ∷ h ∷ i ∷ []) e j))) []

-- ---- lines without their ends

abbrev head_texts : Name → List Verdict → List (List ℕ)
head_texts w vs = unended "decision" (ascii (decision_word (decision vs)) ∷ []) ∷ unended "counts" (numbers (counts_of vs)) ∷ unended "why" (why_item w ∷ []) ∷ []

abbrev value_texts : List Row → List (List ℕ)
value_texts [] = []
value_texts (r ∷ rs) = unended "value" (value_items r) ∷ value_texts rs

abbrev node_texts : List (List ℕ) → List (List ℕ)
node_texts [] = []
node_texts (r ∷ rs) = unended "node" (node_items r) ∷ node_texts rs

abbrev partial_texts : ℕ → List ℕ → List NVerdict → List (List ℕ)
partial_texts n [] ls = []
partial_texts n (i ∷ is) [] = []
partial_texts n (i ∷ is) (l ∷ ls) = unended "policy" (policy_items i l.effect l.class (digits (root n l.root) ∷ [])) ∷ partial_texts (n + size l.root) is ls

abbrev complete_texts : List ℕ → List Verdict → List (List ℕ)
complete_texts [] ls = []
complete_texts (i ∷ is) [] = []
complete_texts (i ∷ is) (l ∷ ls) = unended "policy" (policy_items i l.effect l.class []) ∷ complete_texts is ls

head_ends : (w : Name) (vs : List Verdict) → head_lines w vs ≡ end_all (head_texts w vs)
head_ends w vs = λ i. printed_ends "decision" (ascii (decision_word (decision vs)) ∷ []) i ∷ printed_ends "counts" (numbers (counts_of vs)) i ∷ printed_ends "why" (why_item w ∷ []) i ∷ []

value_ends : (rs : List Row) → value_lines rs ≡ end_all (value_texts rs)
value_ends [] = refl
value_ends (r ∷ rs) = ap₂ ◌∷◌ (printed_ends "value" (value_items r)) (value_ends rs)

node_ends : (rs : List (List ℕ)) → node_lines rs ≡ end_all (node_texts rs)
node_ends [] = refl
node_ends (r ∷ rs) = ap₂ ◌∷◌ (printed_ends "node" (node_items r)) (node_ends rs)

partial_ends : (n : ℕ) (is : List ℕ) (ls : List NVerdict) → partial_lines n is ls ≡ end_all (partial_texts n is ls)
partial_ends n [] ls = refl
partial_ends n (i ∷ is) [] = refl
partial_ends n (i ∷ is) (l ∷ ls) = ap₂ ◌∷◌ (printed_ends "policy" (policy_items i l.effect l.class (digits (root n l.root) ∷ []))) (partial_ends (n + size l.root) is ls)

complete_ends : (is : List ℕ) (ls : List Verdict) → complete_lines is ls ≡ end_all (complete_texts is ls)
complete_ends [] ls = refl
complete_ends (i ∷ is) [] = refl
complete_ends (i ∷ is) (l ∷ ls) = ap₂ ◌∷◌ (printed_ends "policy" (policy_items i l.effect l.class [])) (complete_ends is ls)

-- no line holds a line end

head_lack : (w : Name) (vs : List Verdict) → SmallName w → AllSmall (counts_of vs) → all_lack (head_texts w vs) ≡ true
head_lack w vs g h = rw (line_lacks "why" (why_item w ∷ []) refl (why_plain w g), line_lacks "decision" (ascii (decision_word (decision vs)) ∷ []) refl (decision_plain (decision vs)), line_lacks "counts" (numbers (counts_of vs)) refl (numbers_plain (counts_of vs) h))

abbrev pub GoodValues : List Row → Type 0
GoodValues [] = Unit {0}
GoodValues (r ∷ rs) = GoodValue r × GoodValues rs

value_lack : (rs : List Row) → GoodValues rs → all_lack (value_texts rs) ≡ true
value_lack [] h = refl
value_lack (r ∷ rs) h = rw (line_lacks "value" (value_items r) refl (value_plain r h.0)) (value_lack rs h.1)

node_lack : (rs : List (List ℕ)) → all_good rs ≡ true → all_lack (node_texts rs) ≡ true
node_lack [] e = refl
node_lack (r ∷ rs) e = and_both (good_row r) (all_good rs) e (λ p q. rw (line_lacks "node" (node_items r) refl (node_plain r p)) (node_lack rs q))

partial_lack : (n : ℕ) (is : List ℕ) (ls : List NVerdict) → AllSmall is → n + residual_sizes ls ≤ 10000 → all_lack (partial_texts n is ls) ≡ true
partial_lack n [] ls h b = refl
partial_lack n (i ∷ is) [] h b = refl
partial_lack n (i ∷ is) (l ∷ ls) h b = rw (line_lacks "policy" (policy_items i l.effect l.class (digits (root n l.root) ∷ [])) refl (policy_plain i l.effect l.class (digits (root n l.root) ∷ []) h.0 (rw (small_plain (root n l.root) (omega arith)))))
    (partial_lack (n + size l.root) is ls h.1 (omega arith))

complete_lack : (is : List ℕ) (ls : List Verdict) → AllSmall is → all_lack (complete_texts is ls) ≡ true
complete_lack [] ls h = refl
complete_lack (i ∷ is) [] h = refl
complete_lack (i ∷ is) (l ∷ ls) h = rw (line_lacks "policy" (policy_items i l.effect l.class []) refl (policy_plain i l.effect l.class [] h.0 refl)) (complete_lack is ls h.1)

-- ---- the rows of lines that stand first

-- the first line is of another key
abbrev stops : ℕ → List (List ℕ) → Bool
stops k [] = true
stops k (l ∷ ls) = not (eqb (key_of (row_of partial l)) k)

first_none : (k : ℕ) (ls : List (List ℕ)) → stops k ls ≡ true → rows_first k ls ≡ []
first_none k [] e = refl
first_none k (l ∷ ls) e = go (eqb (key_of (row_of partial l)) k) e
  where
    go : (b : Bool) → not b ≡ true → cond b (row_of partial l ∷ rows_first k ls) [] ≡ []
    go true e = no_true e
    go false e = refl

abbrev backs : List Row → List (List ℕ)
backs [] = []
backs (r ∷ rs) = back r ∷ backs rs

values_first : (rs : List Row) (rest : List (List ℕ)) → GoodValues rs → stops VALUE rest ≡ true → rows_first VALUE (value_texts rs ++ rest) ≡ backs rs
values_first [] rest h e = first_none VALUE rest e
values_first (r ∷ rs) rest h e = ap (λ z. cond (eqb (key_of z) VALUE) (z ∷ rows_first VALUE (value_texts rs ++ rest)) []) (value_row_back partial r h.0)
    ∙ ap₂ (λ b z. cond b (back r ∷ z) []) (eq-eqb (key_of (back r)) VALUE (value_key r)) (values_first rs rest h.1 e)

nodes_first : (rs rest : List (List ℕ)) → all_good rs ≡ true → stops NODE rest ≡ true → rows_first NODE (node_texts rs ++ rest) ≡ rs
nodes_first [] rest h e = first_none NODE rest e
nodes_first (r ∷ rs) rest h e = and_both (good_row r) (all_good rs) h (λ p q. ap (λ z. cond (eqb (key_of z) NODE) (z ∷ rows_first NODE (node_texts rs ++ rest)) []) (node_back partial r p)
    ∙ ap₂ (λ b z. cond b (r ∷ z) []) (eq-eqb (key_of r) NODE (node_key r p)) (nodes_first rs rest q e))

values_count : (rs : List Row) → length (value_texts rs) ≡ length (backs rs)
values_count [] = refl
values_count (r ∷ rs) = ap suc (values_count rs)

nodes_count : (rs : List (List ℕ)) → length (node_texts rs) ≡ length rs
nodes_count [] = refl
nodes_count (r ∷ rs) = ap suc (nodes_count rs)

backs_back : (rs : List Row) → GoodValues rs → rows_in (backs rs) ≡ rs
backs_back [] h = refl
backs_back (r ∷ rs) h = ap₂ ◌∷◌ (row_back r h.0) (backs_back rs h.1)

-- the end of the text
abbrev the_end : List (List ℕ)
the_end = [] ∷ []

policies_stop : (k n : ℕ) → not (eqb no_key k) ≡ true → (is : List ℕ) (ls : List NVerdict) → AllSmall is → n + residual_sizes ls ≤ 10000 → stops k (partial_texts n is ls ++ the_end) ≡ true
unfolding row_of key_of form_of forms
policies_stop k n o [] ls h b = o
policies_stop k n o (i ∷ is) [] h b = o
policies_stop k n o (i ∷ is) (l ∷ ls) h b = ap (λ z. not (eqb (key_of z) k)) (no_row (digits i) (ascii (effect_word l.effect)) (ascii (class_word l.class)) (digits (root n l.root))
    (policy_plain i l.effect l.class (digits (root n l.root) ∷ []) h.0 (rw (small_plain (root n l.root) (omega arith))))) ∙ o

nodes_stop : (rs rest : List (List ℕ)) → all_good rs ≡ true → stops VALUE rest ≡ true → stops VALUE (node_texts rs ++ rest) ≡ true
nodes_stop [] rest h e = e
nodes_stop (r ∷ rs) rest h e = and_both (good_row r) (all_good rs) h (λ p q. ap (λ z. not (eqb (key_of z) VALUE)) (node_back partial r p) ∙ ap (λ z. not (eqb z VALUE)) (node_key r p))

-- ---- what the policy lines say

abbrev pub partial_policies : ℕ → List ℕ → List NVerdict → List PolicyLine
partial_policies n [] ls = []
partial_policies n (i ∷ is) [] = []
partial_policies n (i ∷ is) (l ∷ ls) = line_with i l.effect l.class (root n l.root) ∷ partial_policies (n + size l.root) is ls

abbrev pub complete_policies : List ℕ → List Verdict → List PolicyLine
complete_policies [] ls = []
complete_policies (i ∷ is) [] = []
complete_policies (i ∷ is) (l ∷ ls) = line_with i l.effect l.class 0 ∷ complete_policies is ls

-- one line before lines that end
next_line : (m : Mode) (l : List ℕ) (ls : List (List ℕ)) → policy_lines m (l ∷ (ls ++ the_end)) ≡ on_some none (policy_line m l) (λ r. on_some none (policy_lines m (ls ++ the_end)) (λ ps. some (policy_of r ∷ ps)))
next_line m l [] = refl
next_line m l (x ∷ ls) = refl

policies_back : (n : ℕ) (is : List ℕ) (ls : List NVerdict) → AllSmall is → n + residual_sizes ls ≤ 10000 → policy_lines partial (partial_texts n is ls ++ the_end) ≡ some (partial_policies n is ls)
policies_back n [] ls h b = refl
policies_back n (i ∷ is) [] h b = refl
policies_back n (i ∷ is) (l ∷ ls) h b = let t = unended "policy" (policy_items i l.effect l.class (digits (root n l.root) ∷ [])) in
    next_line partial t (partial_texts (n + size l.root) is ls)
    ∙ ap₂ (λ o p. on_some none o (λ r. on_some none p (λ ps. some (policy_of r ∷ ps)))) (rooted i l.effect l.class (root n l.root) h.0 (omega arith)) (policies_back (n + size l.root) is ls h.1 (omega arith))
    ∙ ap (λ x. some (x ∷ partial_policies (n + size l.root) is ls)) (policy_is i l.effect l.class (root n l.root ∷ []))

complete_back : (is : List ℕ) (ls : List Verdict) → AllSmall is → policy_lines complete (complete_texts is ls ++ the_end) ≡ some (complete_policies is ls)
complete_back [] ls h = refl
complete_back (i ∷ is) [] h = refl
complete_back (i ∷ is) (l ∷ ls) h = let t = unended "policy" (policy_items i l.effect l.class []) in
    next_line complete t (complete_texts is ls)
    ∙ ap₂ (λ o p. on_some none o (λ r. on_some none p (λ ps. some (policy_of r ∷ ps)))) (rootless i l.effect l.class h.0) (complete_back is ls h.1)
    ∙ ap (λ x. some (x ∷ complete_policies is ls)) (policy_is i l.effect l.class [])

-- ---- the whole

head_says : (m : Mode) (w : Name) (vs : List Verdict) (rest : List (List ℕ)) → SmallName w → AllSmall (counts_of vs) → lines_say m (head_texts w vs ++ rest) ≡ rest_of m (decision_row (decision vs)) (counts_of vs) w rest
head_says m w vs rest g h = ap (λ o. on_some none (decision_line (unended "decision" (ascii (decision_word (decision vs)) ∷ []))) (λ x. on_some none (counts_line (unended "counts" (numbers (counts_of vs)))) (λ y. on_some none o (λ z. rest_of m x y z rest)))) (why_reads w g)
    ∙ ap₂ (λ o p. on_some none o (λ x. on_some none p (λ y. rest_of m x y w rest))) (decision_reads (decision vs))
    (counts_reads (how_many is_permit is_true vs) (how_many is_permit is_false vs) (how_many is_permit is_error vs) (how_many is_permit is_open vs) (how_many is_forbid is_true vs) (how_many is_forbid is_false vs) (how_many is_forbid is_error vs) (how_many is_forbid is_open vs) h)

-- what is printed: made values, residual nodes, ids and lines
module _ (w : Name) (made : List Row) (nodes : List (List ℕ)) (is : List ℕ) (ls : List NVerdict)
    (name : SmallName w) (good : GoodValues made) (rows : all_good nodes ≡ true) (small : AllSmall is) (few : AllSmall (counts_of (verdicts ls))) (sizes : residual_sizes ls ≤ 10000) where
  abbrev partial_bytes : List ℕ
  partial_bytes = concat (head_lines w (verdicts ls) ++ value_lines made ++ node_lines nodes ++ partial_lines 0 is ls)

  abbrev partial_said : Said
  partial_said = record { decision = decision (verdicts ls); counts = counts_of (verdicts ls); why = w; made = made; nodes = nodes; policies = partial_policies 0 is ls }

  abbrev counts : List ℕ
  counts = counts_of (verdicts ls)

  abbrev P : List (List ℕ)
  P = partial_texts 0 is ls ++ the_end

  bytes_are : head_lines w (verdicts ls) ++ value_lines made ++ node_lines nodes ++ partial_lines 0 is ls ≡ end_all (head_texts w (verdicts ls) ++ value_texts made ++ node_texts nodes ++ partial_texts 0 is ls)
  bytes_are = (λ j. head_ends w (verdicts ls) j ++ value_ends made j ++ node_ends nodes j ++ partial_ends 0 is ls j)
      ∙ ap (λ z. z ++ end_all (node_texts nodes) ++ end_all (partial_texts 0 is ls)) (sym (end_append (head_texts w (verdicts ls)) (value_texts made)))
      ∙ ap (λ z. z ++ end_all (partial_texts 0 is ls)) (sym (end_append (head_texts w (verdicts ls) ++ value_texts made) (node_texts nodes)))
      ∙ sym (end_append (head_texts w (verdicts ls) ++ value_texts made ++ node_texts nodes) (partial_texts 0 is ls))

  none_ends : all_lack (head_texts w (verdicts ls) ++ value_texts made ++ node_texts nodes ++ partial_texts 0 is ls) ≡ true
  none_ends = lack_append (head_texts w (verdicts ls) ++ value_texts made ++ node_texts nodes) (partial_texts 0 is ls)
      (lack_append (head_texts w (verdicts ls) ++ value_texts made) (node_texts nodes) (lack_append (head_texts w (verdicts ls)) (value_texts made) (head_lack w (verdicts ls) name few) (value_lack made good)) (node_lack nodes rows))
      (partial_lack 0 is ls small (omega arith))

  parts : head_texts w (verdicts ls) ++ value_texts made ++ node_texts nodes ++ partial_texts 0 is ls ++ the_end ≡ head_texts w (verdicts ls) ++ (value_texts made ++ (node_texts nodes ++ P))
  parts = append_assoc (head_texts w (verdicts ls) ++ value_texts made ++ node_texts nodes) (partial_texts 0 is ls) the_end
      ∙ append_assoc (head_texts w (verdicts ls) ++ value_texts made) (node_texts nodes) P ∙ append_assoc (head_texts w (verdicts ls)) (value_texts made) (node_texts nodes ++ P)

  drop_counted : (k l : List (List ℕ)) (n : ℕ) → length k ≡ n → drop n (k ++ l) ≡ l
  drop_counted k l n e = ap (λ z. drop z (k ++ l)) (sym e) ∙ drop-append_seam k l

  rest_says : (d : List ℕ) → rest_of partial d counts w (value_texts made ++ (node_texts nodes ++ P)) ≡ some (record { decision = decision_of d; counts = counts; why = w; made = made; nodes = nodes; policies = partial_policies 0 is ls })
  rest_says d =
      ap (λ vs. let after = drop (length vs) (value_texts made ++ (node_texts nodes ++ P)) in said_with d counts w vs (rows_first NODE after) (policy_lines partial (drop (length (rows_first NODE after)) after)))
      (values_first made (node_texts nodes ++ P) good (nodes_stop nodes P rows (policies_stop VALUE 0 refl is ls small (omega arith))))
      ∙ ap (λ after. said_with d counts w (backs made) (rows_first NODE after) (policy_lines partial (drop (length (rows_first NODE after)) after))) (drop_counted (value_texts made) (node_texts nodes ++ P) (length (backs made)) (values_count made))
      ∙ ap (λ ns. said_with d counts w (backs made) ns (policy_lines partial (drop (length ns) (node_texts nodes ++ P)))) (nodes_first nodes P rows (policies_stop NODE 0 refl is ls small (omega arith)))
      ∙ ap (λ z. said_with d counts w (backs made) nodes (policy_lines partial z)) (drop_counted (node_texts nodes) P (length nodes) (nodes_count nodes))
      ∙ ap₂ (λ o r. on_some none o (λ ps. some (record { decision = decision_of d; counts = counts; why = w; made = r; nodes = nodes; policies = ps }))) (policies_back 0 is ls small (omega arith)) (backs_back made good)

  pub partial_reads : read_answer partial partial_bytes ≡ some partial_said
  unfolding read_answer
  partial_reads = ap (λ z. lines_say partial (split 10 (concat z))) bytes_are
      ∙ ap (lines_say partial) (lines_back (head_texts w (verdicts ls) ++ value_texts made ++ node_texts nodes ++ partial_texts 0 is ls) none_ends ∙ parts)
      ∙ head_says partial w (verdicts ls) (value_texts made ++ (node_texts nodes ++ P)) name few
      ∙ rest_says (decision_row (decision (verdicts ls)))
      ∙ ap (λ d. some (record { decision = d; counts = counts_of (verdicts ls); why = w; made = made; nodes = nodes; policies = partial_policies 0 is ls })) (decision_is (decision (verdicts ls)))

module _ (w : Name) (is : List ℕ) (vs : List Verdict) (name : SmallName w) (small : AllSmall is) (few : AllSmall (counts_of vs)) where
  abbrev complete_bytes : List ℕ
  complete_bytes = concat (head_lines w vs ++ complete_lines is vs)

  abbrev complete_said : Said
  complete_said = record { decision = decision vs; counts = counts_of vs; why = w; made = []; nodes = []; policies = complete_policies is vs }

  pub complete_reads : read_answer complete complete_bytes ≡ some complete_said
  unfolding read_answer
  complete_reads = ap (λ z. lines_say complete (split 10 (concat z))) ((λ j. head_ends w vs j ++ complete_ends is vs j) ∙ sym (end_append (head_texts w vs) (complete_texts is vs)))
      ∙ ap (lines_say complete) (lines_back (head_texts w vs ++ complete_texts is vs) (lack_append (head_texts w vs) (complete_texts is vs) (head_lack w vs name few) (complete_lack is vs small)) ∙ append_assoc (head_texts w vs) (complete_texts is vs) the_end)
      ∙ head_says complete w vs (complete_texts is vs ++ the_end) name few
      ∙ ap (said_with (decision_row (decision vs)) (counts_of vs) w [] []) (complete_back is vs small)
      ∙ ap (λ d. some (record { decision = d; counts = counts_of vs; why = w; made = []; nodes = []; policies = complete_policies is vs })) (decision_is (decision vs))
