-- `yielding::start_in` meets its contract. Assumes nothing.
use Rattle.yielding.proofs.Turning.{back_none, back_end, back_more}
use borrow.Author.Rules.{rules}
use Rattle.yielding.proofs.start_in.Goals as goal

pub loop-n-preserved : goal.loop-n-preserved
loop-n-preserved c = search (back_more, rules)

pub returns-then-left-eq0 : goal.returns-then-left-eq0
returns-then-left-eq0 c = search (back_end, rules)

pub returns : goal.returns
returns c = search (back_none, rules)
