-- `value::making::Search::by_words` meets its contract. Assumes nothing.
use Prim.Native.Nat.{◌-◌}
use Rattle.table.specs.Layout.{rows_of}
use Rattle.value.proofs.Makes.{Finding}
use Rattle.value.proofs.making.Search.by_words.Given as goal

abbrev pub invariant-loop-i : goal.invariant-loop-i
invariant-loop-i l = Finding l.line (rows_of l.rows l.self.key) l.many l.i

abbrev pub decreases-loop-i : goal.decreases-loop-i
decreases-loop-i l = l.many - l.i
