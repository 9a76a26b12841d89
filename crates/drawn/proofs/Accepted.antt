-- Document 02, 2.12: "Every such sheet is accepted, given work slices and an answer buffer long enough."
use mathlib.Core.Path.{◌≡◌, refl, sym, ◌∙◌, ap, ap₂, subst}
use mathlib.Core.Bool.{true}
use mathlib.Core.List.{List, [], ◌∷◌, ◌++◌}
use Prim.Native.Nat.{ℕ, zero, suc, ◌+◌, ◌*◌, ◌≤◌}
use native.Mathlib.Omega.{arith}
use borrow.Author.Tests.{le-ltb}
use lib.ListN.{length, length-append}
use Rattle.cedar.proofs.Tools.{both}
use Rattle.sheet.specs.Ascii.{ascii}
use Rattle.sheet.specs.Bytes.{digits, split}
use Rattle.sheet.specs.Forms.{partial}
use Rattle.sheet.specs.State.{State, empty}
use Rattle.sheet.specs.Sheet.{reads, reading, read}
use Rattle.sheet.specs.Answer.{concat, printed, answer}
use Rattle.sheet.specs.Call.{Accepted, returns, returned, room}
use Rattle.drawn.specs.TestLoad.{Drawn, drawn, head_texts, head_rest, id_lines, tree_lines, nodes_in, nodes_from, root_after, effect_as, policies_from, sheet_of, load}
use Rattle.sheet.proofs.answer.DigitsBack.{number_plain}
use Rattle.sheet.proofs.answer.LinesBack.{all_lack, lack_append, end_all, end_append, concat_append, lines_back, line_lacks}
use Rattle.drawn.proofs.Lengths.{drawn_many, load_short}
use Rattle.drawn.proofs.Head.{Good, first_lines, rest_lines, id_lines_of, text_rows, text_depths, load_state, head_read}
use Rattle.drawn.proofs.Nodes.{tree_lines_of, node_lines_of, rows_of, depths_of, uses_of, nodes_read, few_nodes}
use Rattle.drawn.proofs.Policies.{policy_lines_of, policy_plain, policy_rows_of, used_of, ones_of, root_low, policies_read}

-- ---- the sheet's lines

abbrev sheet_lines : List Drawn → List (List ℕ)
sheet_lines ds = first_lines ++ (id_lines_of 0 (length ds) ++ (rest_lines ++ (node_lines_of 0 ds ++ policy_lines_of 0 0 ds)))

ends_append : (k l : List (List ℕ)) → concat (end_all (k ++ l)) ≡ concat (end_all k) ++ concat (end_all l)
ends_append k l = ap concat (end_append k l) ∙ concat_append (end_all k) (end_all l)

texts_are : concat (end_all first_lines) ≡ head_texts
unfolding head_texts
texts_are = refl

rest_is : concat (end_all rest_lines) ≡ head_rest
unfolding head_rest
rest_is = refl

ids_are : (i n : ℕ) → end_all (id_lines_of i n) ≡ id_lines i n
ids_are i zero = refl
ids_are i (suc n) = ap (λ z. printed "text" ((112 ∷ digits i) ∷ []) ∷ z) (ids_are (suc i) n)

tree_is : (m k : ℕ) → end_all (tree_lines_of m k) ≡ tree_lines m k
tree_is m zero = refl
tree_is m (suc zero) = refl
tree_is m (suc (suc k)) = refl

nodes_are : (m : ℕ) (ds : List Drawn) → end_all (node_lines_of m ds) ≡ nodes_from m ds
nodes_are m [] = refl
nodes_are m (d ∷ ds) = end_append (tree_lines_of m d.tree) (node_lines_of (m + nodes_in d.tree) ds) ∙ ap₂ (λ k l. k ++ l) (tree_is m d.tree) (nodes_are (m + nodes_in d.tree) ds)

policies_are : (i m : ℕ) (ds : List Drawn) → end_all (policy_lines_of i m ds) ≡ policies_from i m ds
policies_are i m [] = refl
policies_are i m (d ∷ ds) = ap (λ z. printed "policy" (digits (5 + i) ∷ effect_as d.effect ∷ digits (root_after m d.tree) ∷ []) ∷ z) (policies_are (suc i) (m + nodes_in d.tree) ds)

sheet_is : (ds : List Drawn) → concat (end_all (sheet_lines ds)) ≡ sheet_of ds
sheet_is ds =
    let i = id_lines_of 0 (length ds) in
    let n = node_lines_of 0 ds in
    let p = policy_lines_of 0 0 ds in
    ends_append first_lines (i ++ (rest_lines ++ (n ++ p)))
    ∙ ap₂ (λ x y. x ++ y) texts_are (ends_append i (rest_lines ++ (n ++ p))
    ∙ ap₂ (λ x y. concat x ++ y) (ids_are 0 (length ds)) (ends_append rest_lines (n ++ p)
    ∙ ap₂ (λ x y. x ++ y) rest_is (ends_append n p
    ∙ ap₂ (λ x y. concat x ++ concat y) (nodes_are 0 ds) (policies_are 0 0 ds))))

-- ---- no line has a line end in it

ids_lack : (n i : ℕ) → i + n ≤ 64 → all_lack (id_lines_of i n) ≡ true
ids_lack zero i h = refl
ids_lack (suc n) i h = both (line_lacks "text" ((112 ∷ digits i) ∷ []) refl (rw (number_plain i (omega (arith, h))))) (ids_lack n (suc i) (omega (arith, h)))

tree_lacks : (m k : ℕ) → m ≤ 9000 → all_lack (tree_lines_of m k) ≡ true
tree_lacks m zero h = refl
tree_lacks m (suc zero) h = refl
tree_lacks m (suc (suc k)) h =
    both (line_lacks "node" (digits 1 ∷ ascii "get" ∷ digits m ∷ digits 4 ∷ []) refl (rw (number_plain m (omega (arith, h)))))
    (both (line_lacks "node" (digits 0 ∷ ascii "like" ∷ digits (suc m) ∷ ascii "*" ∷ []) refl (rw (number_plain (suc m) (omega (arith, h))))) refl)

nodes_lack : (ds : List Drawn) (m : ℕ) → m + 3 * length ds ≤ 900 → all_lack (node_lines_of m ds) ≡ true
nodes_lack [] m h = refl
nodes_lack (d ∷ ds) m h = let f = few_nodes d.tree in
    lack_append (tree_lines_of m d.tree) (node_lines_of (m + nodes_in d.tree) ds) (tree_lacks m d.tree (omega (arith, h))) (nodes_lack ds (m + nodes_in d.tree) (omega (arith, h, f)))

policies_lack : (ds : List Drawn) (i m : ℕ) → i + length ds ≤ 64 → m + 3 * length ds ≤ 900 → all_lack (policy_lines_of i m ds) ≡ true
policies_lack [] i m h g = refl
policies_lack (d ∷ ds) i m h g =
    let f = few_nodes d.tree in
    let low = root_low m d.tree in
    let r = root_after m d.tree in
    both (line_lacks "policy" (digits (5 + i) ∷ effect_as d.effect ∷ digits r ∷ []) refl (policy_plain (5 + i) d.effect r (omega (arith, h)) (omega (arith, g, f, low))))
    (policies_lack ds (suc i) (m + nodes_in d.tree) (omega (arith, h)) (omega (arith, g, f)))

sheet_lacks : (ds : List Drawn) → length ds ≤ 64 → all_lack (sheet_lines ds) ≡ true
sheet_lacks ds h =
    lack_append first_lines (id_lines_of 0 (length ds) ++ (rest_lines ++ (node_lines_of 0 ds ++ policy_lines_of 0 0 ds))) refl
    (lack_append (id_lines_of 0 (length ds)) (rest_lines ++ (node_lines_of 0 ds ++ policy_lines_of 0 0 ds)) (ids_lack (length ds) 0 (omega (arith, h)))
    (lack_append rest_lines (node_lines_of 0 ds ++ policy_lines_of 0 0 ds) refl
    (lack_append (node_lines_of 0 ds) (policy_lines_of 0 0 ds) (nodes_lack ds 0 (omega (arith, h))) (policies_lack ds 0 0 (omega (arith, h)) (omega (arith, h))))))

-- ---- the reading

texts_many : (i : ℕ) → length (text_rows i) ≡ 5 + i
texts_many zero = refl
texts_many (suc i) = let a = length-append (text_rows i) ((1 ∷ 112 ∷ digits i) ∷ []) in let b = texts_many i in omega (arith, a, b)

-- the state that the sheet of these draws leaves
abbrev pub state_of : List Drawn → State
state_of ds = load_state (text_rows (length ds)) (text_depths (length ds)) (rows_of 0 ds) (depths_of ds) (used_of ds) (policy_rows_of 0 0 ds) (ones_of ds)

lines_read : (ds : List Drawn) → length ds ≤ 64 → Good (state_of ds) (sheet_lines ds) empty
lines_read ds h =
    let n = length ds in
    let t = text_rows n in
    let d = text_depths n in
    let lt = texts_many n in
    let p = policies_read t d (rows_of 0 ds) (depths_of ds) ds 0 0 [] [] (uses_of ds) [] [] refl refl refl refl tt refl tt (omega (arith, lt)) (omega (arith, h)) (omega (arith, h)) in
    head_read n (node_lines_of 0 ds ++ policy_lines_of 0 0 ds) h (nodes_read t d (omega (arith, lt)) ds 0 [] [] [] (policy_lines_of 0 0 ds) refl refl refl (omega (arith, h)) p)

sheet_read : (ds : List Drawn) → length ds ≤ 64 → read partial (sheet_of ds) ≡ reads (state_of ds) 0 0
unfolding read
sheet_read ds h = ap (λ l. reading partial (split 10 l) empty 1) (sym (sheet_is ds)) ∙ ap (λ l. reading partial l empty 1) (lines_back (sheet_lines ds) (sheet_lacks ds h)) ∙ lines_read ds h 1

-- A TEST LOAD IS READ WITHOUT REFUSAL, for every seed, and leaves the state of its draws
pub load_read : (seed n : ℕ) → n ≤ 64 → read partial (load seed n) ≡ reads (state_of (drawn seed n)) 0 0
unfolding load
load_read seed n h = sheet_read (drawn seed n) (subst (λ k. k ≤ 64) (sym (drawn_many seed n)) h)

pub load_number : (seed n : ℕ) → n ≤ 64 → (read partial (load seed n)).number ≡ 0
load_number seed n h = ap (λ x. x.number) (load_read seed n h)

-- THE THEOREM: "Every such sheet is accepted, given work slices and an answer buffer long enough"
pub load_accepted : (seed n work₁ work₂ out : ℕ) → n ≤ 64 → room ≤ work₁ → room ≤ work₂ → length (answer partial (read partial (load seed n)).state) ≤ out
    → returned partial work₁ work₂ out (load seed n) ≡ returns 0 0 (length (answer partial (read partial (load seed n)).state))
unfolding returned
load_accepted seed n work₁ work₂ out h a b c =
    let s = (read partial (load seed n)).state in
    rw (le-ltb work₁ room a, le-ltb work₂ room b, le-ltb room (length (load seed n)) (load_short seed n h), load_number seed n h, le-ltb out (length (answer partial s)) c)

pub load_accepts : (seed n : ℕ) → n ≤ 64 → Accepted partial (load seed n)
load_accepts seed n h =
    let a = length (answer partial (read partial (load seed n)).state) in
    record { work₁ = room; work₂ = room; out = a; zero_number = ap (λ r. r.number) (load_accepted seed n room room a h (omega arith) (omega arith) (omega arith)) }
