-- `value::making::clear_of` meets its contract. Assumes nothing.
use Prim.Native.Nat.{◌≤◌}
use Rattle.value.specs.Clear.{Clear}
use Rattle.value.proofs.making.clear_of.Given as goal

abbrev pub invariant-loop-i : goal.invariant-loop-i
invariant-loop-i l = Clear l.rows l.i × (l.i ≤ l.n)
