-- `reach::lines` meets its contract. Assumes nothing.
use Rattle.reach.proofs.Steps.{few_lines, many_lines}
use native.Mathlib.Omega.{arith}
use Rattle.reach.proofs.lines.Goals as goal

pub returns-then-n : goal.returns-then-n
returns-then-n c = many_lines _ _ c.count-n.ensures (omega arith)

pub returns : goal.returns
returns c = few_lines _ _ c.count-n.ensures (omega arith)
