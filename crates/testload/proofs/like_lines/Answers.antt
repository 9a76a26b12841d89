-- `testload::like_lines` meets its contract. Assumes nothing.
use Rattle.testload.proofs.Lines.{like_lines_law}
use Rattle.std.proofs.Common.{rules}
use Rattle.testload.proofs.like_lines.Goals as goal

pub returns : goal.returns
returns c = search (like_lines_law, rules)
