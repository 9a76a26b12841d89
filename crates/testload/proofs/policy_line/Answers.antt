-- `testload::policy_line` meets its contract. Assumes nothing.
use Rattle.testload.proofs.Lines.{policy_line_law}
use Rattle.std.proofs.Common.{rules}
use Rattle.testload.proofs.policy_line.Goals as goal

pub returns : goal.returns
returns c = search (policy_line_law, rules)
