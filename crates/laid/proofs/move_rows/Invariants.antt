-- `laid::move_rows` meets its contract. Assumes nothing.
use Rattle.laid.proofs.Copying.{Moving}
use Rattle.table.specs.Layout.{base}
use Rattle.laid.proofs.move_rows.Given as goal

abbrev pub invariant-loop-i : goal.invariant-loop-i
invariant-loop-i l = Moving l.rows l.initial.own (base l.key) l.own l.i
