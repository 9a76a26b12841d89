-- Document 01: "A leaf has depth 1; a tree is never deeper than 64": the depth of a tree, as `sheet` has it of rows.
use Rattle.std.specs.Prelude.{ℕ, suc, max}
use Rattle.cedar.specs.Residual.{Node, Nodes, NodeArgs, lit, err, var, and, or, ite, un, bin, rel, get, has, haspath, set, rec, enil, econs, gnil, gcons}

abbrev mutual
  pub tree_depth : Node ℕ → ℕ
  tree_depth (lit T v) = 1
  tree_depth (err T) = 1
  tree_depth (var T x) = 1
  tree_depth (and T a b) = suc (max (tree_depth a) (tree_depth b))
  tree_depth (or T a b) = suc (max (tree_depth a) (tree_depth b))
  tree_depth (ite T c a b) = suc (max (tree_depth c) (max (tree_depth a) (tree_depth b)))
  tree_depth (un T u a) = suc (tree_depth a)
  tree_depth (bin T o a b) = suc (max (tree_depth a) (tree_depth b))
  tree_depth (rel T o a b) = suc (max (tree_depth a) (tree_depth b))
  tree_depth (get T a t) = suc (tree_depth a)
  tree_depth (has T a t) = suc (tree_depth a)
  tree_depth (haspath T a t ts) = suc (tree_depth a)
  tree_depth (set T es) = suc (deepest_of es)
  tree_depth (rec T gs) = suc (deepest_arg gs)

  pub deepest_of : Nodes ℕ → ℕ
  deepest_of enil = 0
  deepest_of (econs e es) = max (tree_depth e) (deepest_of es)

  pub deepest_arg : NodeArgs ℕ → ℕ
  deepest_arg gnil = 0
  deepest_arg (gcons t e gs) = max (tree_depth e) (deepest_arg gs)
