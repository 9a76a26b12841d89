-- The lines of a test load as the code prints them. Assumes nothing.
use Rattle.std.proofs.Common.{◌≡◌, ℕ, zero, suc, ◌+◌, ◌-◌, ◌≤◌, List, [], ◌∷◌, ◌++◌, sym, refl, ap, ◌∙◌, append_assoc, add-one, arith}
use Rattle.sheet.specs.Ascii.{ascii}
use Rattle.sheet.specs.Bytes.{digits}
use Rattle.sheet.specs.Answer.{concat, printed}
use Rattle.print.specs.declared.Out.{Out}
use Rattle.print.specs.Out.{Prints}
use Rattle.print.proofs.Outs.{prints_as, prints_three, prints_five}
use Rattle.drawn.specs.TestLoad.{line_ends, tree_lines, nodes_in, root_after, effect_as}

-- ---- a text

pub id_line_law : {o a b is : Out} (i : ℕ) → Prints o (ascii "text=p") a → Prints a (digits i) b → Prints b (10 ∷ []) is → Prints o (printed "text" ((112 ∷ digits i) ∷ [])) is
id_line_law i u v w = prints_as (prints_three u v w) refl

-- ---- the nodes of a tree

pub tree_true : {o is : Out} (node t : ℕ) → t ≡ 0 → Prints o (line_ends (ascii "node=0,lit,1/")) is → Prints o (concat (tree_lines node t)) is
tree_true node t e w = prints_as w (sym (ap (λ t. concat (tree_lines node t)) e))

pub tree_false : {o is : Out} (node t : ℕ) → t ≡ 1 → Prints o (line_ends (ascii "node=0,lit,0/")) is → Prints o (concat (tree_lines node t)) is
tree_false node t e w = prints_as w (sym (ap (λ t. concat (tree_lines node t)) e))

like_bytes : (x y : List ℕ) → (((line_ends (ascii "node=3,var,c/node=1,get,") ++ x) ++ line_ends (ascii ",4/node=0,like,")) ++ y) ++ line_ends (ascii ",*/")
    ≡ concat (printed "node" (digits 3 ∷ ascii "var" ∷ ascii "c" ∷ []) ∷ printed "node" (digits 1 ∷ ascii "get" ∷ x ∷ digits 4 ∷ []) ∷ printed "node" (digits 0 ∷ ascii "like" ∷ y ∷ ascii "*" ∷ []) ∷ [])
like_bytes x y = simp append_assoc

pub like_lines_law : {o a b c d is : Out} (node : ℕ) → Prints o (line_ends (ascii "node=3,var,c/node=1,get,")) a → Prints a (digits node) b → Prints b (line_ends (ascii ",4/node=0,like,")) c
    → Prints c (digits (node + 1)) d → Prints d (line_ends (ascii ",*/")) is → Prints o (concat (tree_lines node 2)) is
like_lines_law node s t u v w = prints_as (prints_five s t u v w) (like_bytes (digits node) (digits (node + 1)) ∙ ap (λ n. concat (printed "node" (digits 3 ∷ ascii "var" ∷ ascii "c" ∷ []) ∷ printed "node" (digits 1 ∷ ascii "get" ∷ digits node ∷ digits 4 ∷ []) ∷ printed "node" (digits 0 ∷ ascii "like" ∷ digits n ∷ ascii "*" ∷ []) ∷ [])) (add-one node))

-- ---- a policy

policy_bytes : (x e y : List ℕ) → (((ascii "policy=" ++ x) ++ ((44 ∷ e) ++ (44 ∷ []))) ++ y) ++ (10 ∷ []) ≡ printed "policy" (x ∷ e ∷ y ∷ [])
policy_bytes x e y = simp append_assoc

pub policy_line_law : {o a b c d is : Out} (id e root : ℕ) → Prints o (ascii "policy=") a → Prints a (digits id) b → Prints b ((44 ∷ effect_as e) ++ (44 ∷ [])) c
    → Prints c (digits root) d → Prints d (10 ∷ []) is → Prints o (printed "policy" (digits id ∷ effect_as e ∷ digits root ∷ [])) is
policy_line_law id e root s t u v w = prints_as (prints_five s t u v w) (policy_bytes (digits id) (effect_as e) (digits root))

-- the last node of a tree is its root
pub root_last : (node t : ℕ) → node + nodes_in t - 1 ≡ root_after node t
root_last node zero = omega arith
root_last node (suc zero) = omega arith
root_last node (suc (suc t)) = omega arith

pub nodes_few : (t : ℕ) → (1 ≤ nodes_in t) × (nodes_in t ≤ 3)
nodes_few zero = (omega arith, omega arith)
nodes_few (suc zero) = (omega arith, omega arith)
nodes_few (suc (suc t)) = (omega arith, omega arith)
