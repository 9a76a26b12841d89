-- `skip`: each step so far is one of the texts.
use Prim.Native.Nat.{◌≤◌}
use Rattle.pathtypes.specs.Paths.{Skipped}
use Rattle.pathtypes.proofs.skip.Given as goal

abbrev pub invariant-loop-i : goal.invariant-loop-i
invariant-loop-i l = Skipped l.line l.texts l.start l.i × (1 ≤ l.i)
