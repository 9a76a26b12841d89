-- `value::making::clear_of` meets its contract. Assumes nothing.
use Rattle.value.proofs.Skips.{clear_next}
use borrow.Author.Rules.{rules}
use Rattle.value.proofs.making.clear_of.Goals as goal

pub loop-i-preserved : goal.loop-i-preserved
loop-i-preserved c = (search (clear_next, rules), search rules)
