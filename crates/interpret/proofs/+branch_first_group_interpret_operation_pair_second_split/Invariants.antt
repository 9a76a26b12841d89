-- What the loop of `group` keeps, and the measures of the cycle of calls of `interpret`.
use mathlib.Core.Path.{◌≡◌}
use Prim.Native.Nat.{◌+◌, ◌*◌}
use lib.ListN.{length}
use Rattle.sheet.specs.Forms.{partial}
use Rattle.value.specs.Clear.{Clear}
use Rattle.tpe.specs.Run.{interp_of}
use Rattle.tpe.specs.Joins.{join_in}
use Rattle.interpret.proofs.Turns.{Turning}
use Rattle.interpret.proofs.+branch_first_group_interpret_operation_pair_second_split.Given as goal

abbrev pub decreases-branch : goal.decreases-branch
decreases-branch l = l.depth * 8 + 2

abbrev pub decreases-first : goal.decreases-first
decreases-first l = l.depth * 8 + 2

abbrev pub decreases-group : goal.decreases-group
decreases-group l = l.depth * 8 + 1

abbrev pub decreases-interpret : goal.decreases-interpret
decreases-interpret l = l.depth * 8

abbrev pub decreases-operation : goal.decreases-operation
decreases-operation l = l.depth * 8 + 3

abbrev pub decreases-pair : goal.decreases-pair
decreases-pair l = l.depth * 8 + 1

abbrev pub decreases-second : goal.decreases-second
decreases-second l = l.depth * 8 + 1

abbrev pub decreases-split : goal.decreases-split
decreases-split l = l.depth * 8 + 1

abbrev pub invariant-group-loop-i : goal.invariant-group-loop-i
invariant-group-loop-i l =
    Turning (interp_of partial l.setting.sheet.now l.setting.principal l.setting.resource l.depth) l.node l.step l.start l.most l.initial.rows l.initial.log.words.now l.rows l.log.words.now l.log.top (join_in l.joined) l.i
    × ((length l.rows ≡ length l.initial.rows) × (l.log.words.ghost_name ≡ l.initial.log.words.ghost_name) × Clear l.rows l.setting.skip)
