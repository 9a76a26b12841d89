-- `testload::id_line` meets its contract. Assumes nothing.
use Rattle.testload.proofs.Lines.{id_line_law}
use Rattle.std.proofs.Common.{rules}
use Rattle.testload.proofs.id_line.Goals as goal

pub returns : goal.returns
returns c = search (id_line_law, rules)
