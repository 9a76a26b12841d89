-- `yielding::classes` meets its contract. Assumes nothing.
use Rattle.yielding.proofs.Turning.{classes_more, classes_end}
use borrow.Author.Rules.{rules}
use Rattle.yielding.proofs.classes.Goals as goal

pub loop-i-preserved : goal.loop-i-preserved
loop-i-preserved c = (search (classes_more, rules), search rules)

pub returns : goal.returns
returns c = search (classes_end, rules)
