-- `print::bytes_at` meets its contract. Assumes nothing.
use Rattle.std.proofs.Common.{rules}
use Rattle.print.proofs.Writing.{written_none, written_next}
use Rattle.print.proofs.bytes_at.Goals as goal

pub loop-b-init : goal.loop-b-init
loop-b-init c = search (written_none, rules)

pub loop-b-preserved : goal.loop-b-preserved
loop-b-preserved c = search (written_next, rules)
