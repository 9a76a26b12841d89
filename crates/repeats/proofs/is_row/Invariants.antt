-- `repeats::is_row` meets its contract. Assumes nothing.
use Rattle.sheet.specs.Bytes.{same}
use Rattle.repeats.proofs.SearchLaws.{Scanned}
use Rattle.repeats.proofs.is_row.Given as goal

abbrev pub invariant-loop-i : goal.invariant-loop-i
invariant-loop-i l = Scanned (same l.line) l.rows l.key l.i
