-- `testload::tree_lines` meets its contract. Assumes nothing.
use Rattle.testload.proofs.Lines.{tree_true, tree_false}
use Rattle.std.proofs.Common.{rules}
use Rattle.testload.proofs.tree_lines.Goals as goal

pub returns-in-0 : goal.returns-in-0
returns-in-0 c = search (tree_true, rules)

pub returns-in-1 : goal.returns-in-1
returns-in-1 c = search (tree_false, rules)
