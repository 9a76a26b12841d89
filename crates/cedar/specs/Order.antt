-- Binary trees of numbers and their order: a leaf before a node, then from left to right. It is a strict total order.
use Prim.Native.Nat.{ℕ, compare, Ordering}

pub data Tree : Type 0 where
  leaf : ℕ → Tree
  node : Tree → Tree → Tree

abbrev pub and_then : Ordering → Ordering → Ordering
and_then Ordering.lt o = Ordering.lt
and_then Ordering.eq o = o
and_then Ordering.gt o = Ordering.gt

abbrev pub cmp : Tree → Tree → Ordering
cmp (leaf m) (leaf n) = compare m n
cmp (leaf m) (node c d) = Ordering.lt
cmp (node a b) (leaf n) = Ordering.gt
cmp (node a b) (node c d) = and_then (cmp a c) (cmp b d)
