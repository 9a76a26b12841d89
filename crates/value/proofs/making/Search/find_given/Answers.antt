-- `value::making::Search::find_given` meets its contract. Assumes nothing.
use Rattle.value.proofs.Skips.{past_all}
use borrow.Author.Rules.{rules}
use Rattle.value.proofs.making.Search.find_given.Goals as goal

pub returns-then-self-n : goal.returns-then-self-n
returns-then-self-n c = search (past_all, rules)
