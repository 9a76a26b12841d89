-- `response::answer::policy_start` meets its contract. Assumes nothing.
use Rattle.response.proofs.Printing.{policy_start_law}
use borrow.Author.Rules.{rules}
use Rattle.response.proofs.answer.policy_start.Goals as goal

pub returns : goal.returns
returns c = search (policy_start_law, rules)
