-- `line::put_items` meets its contract. Assumes nothing.
use Prim.Native.Nat.{◌+◌, ◌-◌}
use lib.ListN.{length}
use Rattle.line.proofs.LawsItems.{Walk}
use Rattle.line.proofs.put_items.Given as goal

abbrev pub invariant-loop-cursor : goal.invariant-loop-cursor
invariant-loop-cursor l = Walk l.bytes l.partial l.tag l.initial.rows l.initial.cursor.at l.j-2 l.word-2 l.rows l.cursor.at l.j l.word

abbrev pub decreases-loop-cursor : goal.decreases-loop-cursor
decreases-loop-cursor l = length l.bytes + 1 - l.cursor.at
