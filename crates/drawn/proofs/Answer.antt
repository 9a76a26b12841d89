-- The answer to a test load: its nodes are the sheet's own, and 16,384 bytes are a buffer long enough.
use mathlib.Core.Path.{◌≡◌, refl, sym, ◌∙◌, ap, ap₂, subst}
use mathlib.Core.List.{List, [], ◌∷◌, ◌++◌}
use Prim.Native.Nat.{ℕ, zero, suc, ◌+◌, ◌*◌, ◌-◌, ◌≤◌}
use native.Mathlib.Omega.{arith}
use lib.ListN.{length}
use Rattle.cedar.specs.Runs.{verdicts}
use Rattle.sheet.specs.Ascii.{ascii}
use Rattle.sheet.specs.Bytes.{digits}
use Rattle.sheet.specs.Forms.{partial, forms, form_of, slot_at, tag_of}
use Rattle.sheet.specs.Sheet.{read}
use Rattle.sheet.specs.Content.{types, on_term}
use Rattle.sheet.specs.Why.{Name, why}
use Rattle.sheet.specs.Answer.{concat, printed, head_lines, size, tree_rows, residual_rows, node_items, node_lines, partial_lines, ids, run, partial_of, answer}
use Rattle.sheet.specs.Call.{returned, room}
use Rattle.sheet.proofs.content.OnTerm.{on_term_few}
use Rattle.sheet.proofs.answer.AnswerRead.{firsts_length}
use Rattle.sheet.proofs.answer.AnswerLength.{concat_length, head_most, partial_most}
use Rattle.drawn.specs.TestLoad.{Drawn, drawn, tree_lines, nodes_in, nodes_from, load}
use Rattle.drawn.proofs.Lengths.{nodes_few, drawn_many}
use Rattle.drawn.proofs.Policies.{policy_rows_of}
use Rattle.drawn.proofs.Accepted.{state_of, load_read, load_accepted}
use Rattle.drawn.proofs.Run.{the_types, the_rows, tree_as, lines_as, load_run}

-- ---- the nodes are the sheet's

tree_size : (t : ℕ) → size (tree_as t) ≡ nodes_in t
tree_size zero = refl
tree_size (suc zero) = refl
tree_size (suc (suc t)) = refl

tree_lines_law : (k t : ℕ) → node_lines (tree_rows the_types k (tree_as t)) ≡ tree_lines k t
unfolding tag_of form_of forms slot_at
tree_lines_law k zero = refl
tree_lines_law k (suc zero) = refl
tree_lines_law k (suc (suc t)) =
    let a : k + 1 - 1 ≡ k = omega arith in
    let b : k + 2 - 1 ≡ suc k = omega arith in
    λ i. printed "node" (digits 3 ∷ ascii "var" ∷ ascii "c" ∷ []) ∷ printed "node" (digits 1 ∷ ascii "get" ∷ digits (a i) ∷ digits 4 ∷ []) ∷ printed "node" (digits 0 ∷ ascii "like" ∷ digits (b i) ∷ ascii "*" ∷ []) ∷ []

lines_append : (k l : List (List ℕ)) → node_lines (k ++ l) ≡ node_lines k ++ node_lines l
lines_append [] l = refl
lines_append (r ∷ k) l = ap (λ z. printed "node" (node_items r) ∷ z) (lines_append k l)

-- THE ANSWER'S NODES ARE THE SHEET'S
pub same_nodes : (k : ℕ) (ds : List Drawn) → node_lines (residual_rows the_types k (lines_as ds)) ≡ nodes_from k ds
same_nodes k [] = refl
same_nodes k (d ∷ ds) =
    let t = d.tree in
    lines_append (tree_rows the_types k (tree_as t)) (residual_rows the_types (k + size (tree_as t)) (lines_as ds))
    ∙ ap₂ (λ x y. x ++ y) (tree_lines_law k t) (ap (λ z. node_lines (residual_rows the_types (k + z) (lines_as ds))) (tree_size t) ∙ same_nodes (k + nodes_in t) ds)

-- ---- lengths

policies_many : (i k : ℕ) (ds : List Drawn) → length (policy_rows_of i k ds) ≡ length ds
policies_many i k [] = refl
policies_many i k (d ∷ ds) = ap suc (policies_many (suc i) (k + nodes_in d.tree) ds)

ids_few : (ds : List Drawn) → length (ids (state_of ds)) ≤ length ds
ids_few ds = let a = firsts_length (on_term (state_of ds)) in let b = on_term_few (state_of ds) in let c = policies_many 0 0 ds in omega (arith, a, b, c)

printed_few : (name : Name) (is : List ℕ) (ds : List Drawn) → length is ≤ length ds → length ds ≤ 64
    → length (concat (head_lines name (verdicts (lines_as ds)) ++ ([] ++ (node_lines (residual_rows the_types 0 (lines_as ds)) ++ partial_lines 0 is (lines_as ds))))) ≤ 16384
printed_few name is ds m h =
    let H = head_lines name (verdicts (lines_as ds)) in
    let N = node_lines (residual_rows the_types 0 (lines_as ds)) in
    let P = partial_lines 0 is (lines_as ds) in
    let a = concat_length H (N ++ P) in
    let b = concat_length N P in
    let hh = head_most name (verdicts (lines_as ds)) in
    let nn : length (concat N) ≤ 82 * length ds = subst (λ z. length (concat z) ≤ 82 * length ds) (sym (same_nodes 0 ds)) (nodes_few 0 ds) in
    let pp = partial_most 0 is (lines_as ds) in
    omega (arith, a, b, hh, nn, pp, m, h)

answer_few : (ds : List Drawn) → length ds ≤ 64 → length (partial_of (state_of ds) (record { rows = the_rows; lines = lines_as ds })) ≤ 16384
unfolding types
answer_few ds h = printed_few (why (ids (state_of ds)) (verdicts (lines_as ds))) (ids (state_of ds)) ds (ids_few ds) h

-- AN ANSWER TO A TEST LOAD IS NO LONGER THAN A SHEET MAY BE
pub load_answer_short : (seed n : ℕ) → n ≤ 64 → length (answer partial (read partial (load seed n)).state) ≤ 16384
unfolding answer
load_answer_short seed n h =
    let ds = drawn seed n in
    let a : partial_of (read partial (load seed n)).state (run partial (read partial (load seed n)).state) ≡ partial_of (state_of ds) (record { rows = the_rows; lines = lines_as ds }) =
    ap₂ (λ x r. partial_of x.state r) (load_read seed n h) (load_run seed n h) in
    subst (λ l. length l ≤ 16384) (sym a) (answer_few ds (subst (λ k. k ≤ 64) (sym (drawn_many seed n)) h))

-- so 16,384 bytes are always long enough
pub load_accepted_there : (seed n work₁ work₂ out : ℕ) → n ≤ 64 → room ≤ work₁ → room ≤ work₂ → 16384 ≤ out → (returned partial work₁ work₂ out (load seed n)).number ≡ 0
load_accepted_there seed n work₁ work₂ out h a b c = let l = load_answer_short seed n h in ap (λ r. r.number) (load_accepted seed n work₁ work₂ out h a b (omega (arith, l, c)))
