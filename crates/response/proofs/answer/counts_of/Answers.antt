-- `response::answer::counts_of` meets its contract. Assumes nothing.
use Rattle.response.proofs.Printing.{counts_four}
use borrow.Author.Rules.{rules}
use Rattle.response.proofs.answer.counts_of.Goals as goal

pub returns : goal.returns
returns c = search (counts_four, rules)
