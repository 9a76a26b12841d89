-- A test load is no longer than a sheet may be.
use mathlib.Core.Path.{◌≡◌, refl, sym, ap, subst}
use mathlib.Core.List.{List, [], ◌∷◌, ◌++◌}
use Prim.Native.Nat.{ℕ, zero, suc, ◌+◌, ◌*◌, ◌-◌, ◌≤◌}
use native.Mathlib.Omega.{arith}
use lib.ListN.{length, length-append}
use Rattle.sheet.specs.Ascii.{ascii}
use Rattle.sheet.specs.Bytes.{digits}
use Rattle.sheet.specs.Answer.{concat, printed}
use Rattle.sheet.proofs.answer.ItemBytes.{weigh}
use Rattle.sheet.proofs.answer.AnswerLength.{digits_few, printed_most, concat_length}
use Rattle.drawn.specs.TestLoad.{Drawn, drawn, next, head_texts, head_rest, id_lines, tree_lines, nodes_in, nodes_from, effect_as, root_after, policies_from, sheet_of, load}

ids_few : (i n : ℕ) → length (concat (id_lines i n)) ≤ 27 * n
ids_few i zero = omega arith
ids_few i (suc n) =
    let l : List (List ℕ) = (112 ∷ digits i) ∷ [] in
    let a = length-append (printed "text" l) (concat (id_lines (suc i) n)) in
    let b : length (printed "text" l) ≤ 4 + 2 + (weigh l - 1) = printed_most "text" l in
    let c = digits_few i in
    let d = ids_few (suc i) n in
    omega (arith, a, b, c, d)

-- a node's line with one number that may be long
node_few : (a b c : List ℕ) (n : ℕ) → length (printed "node" (a ∷ b ∷ digits n ∷ c ∷ [])) ≤ 29 + length a + length b + length c
node_few a b c n =
    let l : List (List ℕ) = a ∷ b ∷ digits n ∷ c ∷ [] in
    let x : length (printed "node" l) ≤ 4 + 2 + (weigh l - 1) = printed_most "node" l in
    let d = digits_few n in
    omega (arith, x, d)

tree_few : (k t : ℕ) → length (concat (tree_lines k t)) ≤ 82
tree_few k zero = omega arith
tree_few k (suc zero) = omega arith
tree_few k (suc (suc t)) =
    let g = printed "node" (digits 1 ∷ ascii "get" ∷ digits k ∷ digits 4 ∷ []) in
    let l = printed "node" (digits 0 ∷ ascii "like" ∷ digits (suc k) ∷ ascii "*" ∷ []) in
    let a = length-append g (l ++ []) in
    let b = length-append l [] in
    let c : length g ≤ 34 = node_few (digits 1) (ascii "get") (digits 4) k in
    let d : length l ≤ 35 = node_few (digits 0) (ascii "like") (ascii "*") (suc k) in
    omega (arith, a, b, c, d)

pub nodes_few : (k : ℕ) (ds : List Drawn) → length (concat (nodes_from k ds)) ≤ 82 * length ds
nodes_few k [] = omega arith
nodes_few k (d ∷ ds) =
    let a = concat_length (tree_lines k d.tree) (nodes_from (k + nodes_in d.tree) ds) in
    let b = tree_few k d.tree in
    let c = nodes_few (k + nodes_in d.tree) ds in
    omega (arith, a, b, c)

effect_few : (e : ℕ) → length (effect_as e) ≤ 6
effect_few zero = omega arith
effect_few (suc e) = omega arith

policies_few : (i k : ℕ) (ds : List Drawn) → length (concat (policies_from i k ds)) ≤ 56 * length ds
policies_few i k [] = omega arith
policies_few i k (d ∷ ds) =
    let l : List (List ℕ) = digits (5 + i) ∷ effect_as d.effect ∷ digits (root_after k d.tree) ∷ [] in
    let a = length-append (printed "policy" l) (concat (policies_from (suc i) (k + nodes_in d.tree) ds)) in
    let b : length (printed "policy" l) ≤ 6 + 2 + (weigh l - 1) = printed_most "policy" l in
    let x = digits_few (5 + i) in
    let y = effect_few d.effect in
    let z = digits_few (root_after k d.tree) in
    let c = policies_few (suc i) (k + nodes_in d.tree) ds in
    omega (arith, a, b, x, y, z, c)

pub drawn_many : (s n : ℕ) → length (drawn s n) ≡ n
drawn_many s zero = refl
drawn_many s (suc n) = ap suc (drawn_many (next (next s)) n)

texts_long : length head_texts ≡ 71
unfolding head_texts
texts_long = refl

rest_long : length head_rest ≡ 200
unfolding head_rest
rest_long = refl

sheet_short : (ds : List Drawn) → length ds ≤ 64 → length (sheet_of ds) ≤ 16384
sheet_short ds h =
    let i = concat (id_lines 0 (length ds)) in
    let m = concat (nodes_from 0 ds) in
    let p = concat (policies_from 0 0 ds) in
    let a : length (sheet_of ds) ≡ length head_texts + length (i ++ (head_rest ++ (m ++ p))) = length-append head_texts (i ++ (head_rest ++ (m ++ p))) in
    let b = length-append i (head_rest ++ (m ++ p)) in
    let c = length-append head_rest (m ++ p) in
    let e = length-append m p in
    let x = ids_few 0 (length ds) in
    let y = nodes_few 0 ds in
    let z = policies_few 0 0 ds in
    omega (arith, a, b, c, e, x, y, z, h, texts_long, rest_long)

-- THE THEOREM
pub load_short : (seed n : ℕ) → n ≤ 64 → length (load seed n) ≤ 16384
unfolding load
load_short seed n h = sheet_short (drawn seed n) (subst (λ k. k ≤ 64) (sym (drawn_many seed n)) h)
