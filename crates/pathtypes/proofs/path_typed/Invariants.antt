-- `path_typed`: what is left of the path decides.
use Prim.Native.Nat.{◌-◌}
use lib.ListN.{length}
use Rattle.pathtypes.proofs.PathLaws.{Single}
use Rattle.pathtypes.proofs.path_typed.Given as goal

abbrev pub invariant-loop-y : goal.invariant-loop-y
invariant-loop-y l = Single l.rows l.line l.ty l.z l.i

abbrev pub decreases-loop-y : goal.decreases-loop-y
decreases-loop-y l = length l.line - l.i
