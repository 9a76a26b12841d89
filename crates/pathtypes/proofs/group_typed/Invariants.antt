-- `group_typed`: what is left of the path is asked of all record types reached.
use Prim.Native.Nat.{◌-◌}
use mathlib.Core.Path.{◌≡◌}
use lib.ListN.{length}
use Rattle.typesets.specs.Sets.{TYPE_WORDS}
use Rattle.pathtypes.proofs.PathLaws.{Path, Kept}
use Rattle.pathtypes.proofs.group_typed.Given as goal

abbrev pub invariant-loop-i : goal.invariant-loop-i
invariant-loop-i l = Path l.rows l.line l.start l.ty l.records l.i × Kept l.rows l.records l.kept × (l.memory.rows.now ≡ l.rows) × (length l.records ≡ TYPE_WORDS) × (length l.kept ≡ 16)

abbrev pub decreases-loop-i : goal.decreases-loop-i
decreases-loop-i l = length l.line - l.i
