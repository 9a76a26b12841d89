-- `wording::row_lines` meets its contract. Assumes nothing.
use Rattle.wording.proofs.Lines.{Lining}
use Rattle.wording.proofs.row_lines.Given as goal

abbrev pub invariant-loop-i : goal.invariant-loop-i
invariant-loop-i l = Lining l.rows l.initial.out l.out l.i
