-- Document 02, 2.13, "within the depth limit": what is left of a tree is no deeper than the tree.
use Prim.Native.Nat.{ℕ, ◌≤◌}
use native.Mathlib.Omega.{arith}
use Rattle.cedar.specs.Residual.{Node, Nodes, NodeArgs, lit, err, var, and, or, ite, un, bin, rel, get, has, haspath, set, rec}
use Rattle.sheet.proofs.running.LeftOver.{Left, as_lit, as_err, as_var, in_and, and_one, and_two, in_or, or_one, or_two, in_if, if_one, if_two, in_un, in_bin, in_rel, in_get, in_has, in_path, on_path, in_set, in_rec, LeftAll, left_nil, left_cons, LeftArgs, left_stop, left_arg}
use Rattle.again.specs.TreeDepth.{tree_depth, deepest_of, deepest_arg}

depth_least : (e : Node ℕ) → 1 ≤ tree_depth e
depth_least (lit T v) = omega arith
depth_least (err T) = omega arith
depth_least (var T x) = omega arith
depth_least (and T a b) = omega arith
depth_least (or T a b) = omega arith
depth_least (ite T c a b) = omega arith
depth_least (un T u a) = omega arith
depth_least (bin T o a b) = omega arith
depth_least (rel T o a b) = omega arith
depth_least (get T a t) = omega arith
depth_least (has T a t) = omega arith
depth_least (haspath T a t ts) = omega arith
depth_least (set T es) = omega arith
depth_least (rec T gs) = omega arith

mutual
  pub left_deep : {e r : Node ℕ} → Left e r → tree_depth r ≤ tree_depth e
  left_deep (as_lit {e = e}) = depth_least e
  left_deep (as_err {e = e}) = depth_least e
  left_deep as_var = omega arith
  left_deep (in_and a b) = let x = left_deep a in let y = left_deep b in omega (arith, x, y)
  left_deep (and_one a) = let x = left_deep a in omega (arith, x)
  left_deep (and_two b) = let y = left_deep b in omega (arith, y)
  left_deep (in_or a b) = let x = left_deep a in let y = left_deep b in omega (arith, x, y)
  left_deep (or_one a) = let x = left_deep a in omega (arith, x)
  left_deep (or_two b) = let y = left_deep b in omega (arith, y)
  left_deep (in_if a b c) = let x = left_deep a in let y = left_deep b in let z = left_deep c in omega (arith, x, y, z)
  left_deep (if_one b) = let y = left_deep b in omega (arith, y)
  left_deep (if_two c) = let z = left_deep c in omega (arith, z)
  left_deep (in_un a) = let x = left_deep a in omega (arith, x)
  left_deep (in_bin a b) = let x = left_deep a in let y = left_deep b in omega (arith, x, y)
  left_deep (in_rel a b) = let x = left_deep a in let y = left_deep b in omega (arith, x, y)
  left_deep (in_get a) = let x = left_deep a in omega (arith, x)
  left_deep (in_has a) = let x = left_deep a in omega (arith, x)
  left_deep (in_path a) = let x = left_deep a in omega (arith, x)
  left_deep (on_path {a = a} p) = let x = depth_least a in omega (arith, x)
  left_deep (in_set k) = let x = all_deep k in omega (arith, x)
  left_deep (in_rec k) = let x = args_deep k in omega (arith, x)

  all_deep : {es fs : Nodes ℕ} → LeftAll es fs → deepest_of fs ≤ deepest_of es
  all_deep left_nil = omega arith
  all_deep (left_cons a k) = let x = left_deep a in let y = all_deep k in omega (arith, x, y)

  args_deep : {gs hs : NodeArgs ℕ} → LeftArgs gs hs → deepest_arg hs ≤ deepest_arg gs
  args_deep left_stop = omega arith
  args_deep (left_arg a k) = let x = left_deep a in let y = args_deep k in omega (arith, x, y)
