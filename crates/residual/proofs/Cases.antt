-- The definitions on small cases. Assumes nothing.
use mathlib.Core.Path.{◌≡◌, refl}
use mathlib.Core.Bool.{true, false}
use mathlib.Core.List.{List, [], ◌∷◌}
use Prim.Native.Nat.{ℕ}
use Rattle.cedar.specs.Types.{tbool, tlong, context}
use Rattle.cedar.specs.Residual.{lit, var, and, get, haspath}
use Rattle.forms.specs.Tags.{VAR, AND, GET, HASPATH, PART_P, PART_C}
use Rattle.residual.specs.Rows.{VALUE_ROW, LEFT_ROW, word_at, stage_at, start_at}
use Rattle.residual.specs.Errs.{op_errs_def, blocks_by, blocks_err, row_errs, errs_by}
use Rattle.residual.specs.Trees.{Res, rlit, rleft, rnil, rcons, flat, flats, left_tree, suits, tree_of, trees_of}
use Rattle.residual.specs.declared.Stage.TheVariants.{Open}

-- nodes 0 `var,p`, 1 `var,c`, 2 `get,1,5`, 3 `and,0,2`, 4 `haspath,0,7,8,9`
nodes : List (List ℕ)
nodes = (VAR ∷ 0 ∷ PART_P ∷ []) ∷ (VAR ∷ 0 ∷ PART_C ∷ []) ∷ (GET ∷ 0 ∷ 1 ∷ 5 ∷ []) ∷ (AND ∷ 0 ∷ 0 ∷ 2 ∷ []) ∷ (HASPATH ∷ 0 ∷ 0 ∷ 7 ∷ 8 ∷ 9 ∷ []) ∷ []

-- "open and false" over a left side that can err stays `and`
kept : Res
kept = rleft 3 0 0 (rcons (rleft 2 0 0 (rcons (rleft 1 0 0 rnil) rnil)) (rcons (rlit 6 0) rnil))

words : flat kept ≡ LEFT_ROW ∷ 1 ∷ 4 ∷ 0 ∷ LEFT_ROW ∷ 2 ∷ 8 ∷ 0 ∷ VALUE_ROW ∷ 6 ∷ 4 ∷ 0 ∷ LEFT_ROW ∷ 3 ∷ 16 ∷ 0 ∷ []
unfolding kept flat flats
words = refl

tree : tree_of (tbool ∷ []) nodes kept ≡ and tbool (get tbool (var tbool context) 5) (lit tbool 6)
unfolding kept nodes tree_of trees_of left_tree
tree = refl

errs : (errs_by nodes (flat kept) 64 16 ≡ true) × (errs_by nodes (flat kept) 64 4 ≡ false) × (stage_at (flat kept) 16 ≡ Open) × (start_at (flat kept) 16 ≡ 0) × (start_at (flat kept) 12 ≡ 8)
unfolding kept nodes flat flats word_at stage_at start_at op_errs_def blocks_by blocks_err row_errs errs_by
errs = (refl, refl, refl, refl, refl)

-- a path of which one step was taken, to value 2 of type 1
left : tree_of (tbool ∷ tlong ∷ []) nodes (rleft 4 1 0 (rcons (rlit 2 1) rnil)) ≡ haspath tbool (lit tlong 2) 8 (9 ∷ [])
unfolding nodes tree_of trees_of left_tree
left = refl

suited : suits (HASPATH ∷ 0 ∷ 0 ∷ 7 ∷ []) 1 ≡ true
unfolding suits
suited = refl
