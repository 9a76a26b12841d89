-- `response::answer::policy_id` meets its contract. Assumes nothing.
use Rattle.response.proofs.Printing.{policy_id_law}
use borrow.Author.Rules.{rules}
use Rattle.response.proofs.answer.policy_id.Goals as goal

pub returns : goal.returns
returns c = search (policy_id_law, rules)
