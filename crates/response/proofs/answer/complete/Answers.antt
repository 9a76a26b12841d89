-- `response::answer::complete` meets its contract. Assumes nothing.
use Rattle.response.proofs.Printing.{complete_is}
use borrow.Author.Rules.{rules}
use Rattle.response.proofs.answer.complete.Goals as goal

pub returns : goal.returns
returns c = search (complete_is, rules)
