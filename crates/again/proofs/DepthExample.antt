-- Depths of small trees, by computation: "A leaf has depth 1", and the deepest child counts, wherever it stands.
use mathlib.Core.Path.{◌≡◌, refl}
use mathlib.Core.List.{[], ◌∷◌}
use Prim.Native.Nat.{ℕ}
use lib.ListN.{replicate}
use Rattle.cedar.specs.Types.{tbool, principal}
use Rattle.cedar.specs.Residual.{Node, lit, err, var, and, or, ite, un, unot, bin, beq, rel, rin, get, has, haspath, set, rec, enil, econs, gnil, gcons}
use Rattle.again.specs.TreeDepth.{tree_depth}

abbrev leaf : Node ℕ
leaf = lit tbool 0

abbrev deep : Node ℕ
deep = un tbool unot leaf

leaves : tree_depth leaf ∷ tree_depth (err tbool) ∷ tree_depth (var tbool principal) ∷ [] ≡ replicate 3 1
leaves = refl

above_one : tree_depth deep ∷ tree_depth (get tbool leaf 0) ∷ tree_depth (has tbool leaf 0) ∷ tree_depth (haspath tbool leaf 0 []) ∷ [] ≡ replicate 4 2
above_one = refl

above_two : tree_depth (and tbool deep leaf) ∷ tree_depth (and tbool leaf deep) ∷ tree_depth (or tbool deep leaf) ∷ tree_depth (or tbool leaf deep)
    ∷ tree_depth (bin tbool beq deep leaf) ∷ tree_depth (bin tbool beq leaf deep) ∷ tree_depth (rel tbool rin deep leaf) ∷ tree_depth (rel tbool rin leaf deep) ∷ []
    ≡ replicate 8 3
above_two = refl

above_more : tree_depth (ite tbool deep leaf leaf) ∷ tree_depth (ite tbool leaf deep leaf) ∷ tree_depth (ite tbool leaf leaf deep)
    ∷ tree_depth (set tbool (econs deep (econs leaf enil))) ∷ tree_depth (set tbool (econs leaf (econs deep enil)))
    ∷ tree_depth (rec tbool (gcons 0 deep (gcons 1 leaf gnil))) ∷ tree_depth (rec tbool (gcons 0 leaf (gcons 1 deep gnil))) ∷ []
    ≡ replicate 7 3
above_more = refl
