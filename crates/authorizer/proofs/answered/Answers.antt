-- `authorizer::answered` meets its contract. Assumes nothing.
use Rattle.authorizer.proofs.Answering.{refused, partial_when, complete_when}
use borrow.Author.Rules.{rules}
use Rattle.authorizer.proofs.answered.Goals as goal

pub returns-in-Err : goal.returns-in-Err
returns-in-Err c = search (refused, rules)

pub returns-then-partial : goal.returns-then-partial
returns-then-partial c = search (partial_when, rules)

pub returns : goal.returns
returns c = search (complete_when, rules)
