-- `agree::seek` meets its contract. Assumes nothing.
use Rattle.sheet.specs.Forms.{ENTITY}
use Rattle.table.specs.Layout.{rows_of}
use Rattle.agree.proofs.Merging.{Seeking}
use Rattle.agree.proofs.seek.Given as goal

abbrev pub invariant-loop-i : goal.invariant-loop-i
invariant-loop-i l = Seeking l.value (rows_of l.rows ENTITY) l.from l.n l.i
