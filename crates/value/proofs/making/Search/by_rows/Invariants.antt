-- `value::making::Search::by_rows` meets its contract. Assumes nothing.
use Rattle.table.specs.Layout.{rows_of}
use Rattle.value.proofs.Makes.{Finding}
use Rattle.value.proofs.making.Search.by_rows.Given as goal

abbrev pub invariant-loop-i : goal.invariant-loop-i
invariant-loop-i l = Finding l.self.line.now (rows_of l.self.rows.now l.self.key) l.n l.i
