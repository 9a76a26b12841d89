-- `response::answer::partial` meets its contract. Assumes nothing.
use Rattle.response.proofs.Rooted.{partial_is}
use borrow.Author.Rules.{rules}
use Rattle.response.proofs.answer.partial.Goals as goal

pub returns : goal.returns
returns c = search (partial_is, rules)
