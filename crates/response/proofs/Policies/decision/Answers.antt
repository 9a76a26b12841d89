-- `response::Policies::decision` meets its contract. Assumes nothing.
use Rattle.response.proofs.Counting.{any_of, decision_is}
use borrow.Author.Rules.{rules}
use Rattle.response.proofs.Policies.decision.Goals as goal

pub returns : goal.returns
returns c = search (any_of, decision_is, rules)
