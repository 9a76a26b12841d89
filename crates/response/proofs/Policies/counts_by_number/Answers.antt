-- `response::Policies::counts_by_number` meets its contract. Assumes nothing.
use borrow.Author.Rules.{rules}
use Rattle.response.proofs.Counting.{other_effect}
use Rattle.response.proofs.Policies.counts_by_number.Goals as goal

pub returns-in_default-clause-trues : goal.returns-in_default-clause-trues
returns-in_default-clause-trues c = search (other_effect, rules)

pub returns-in_default-clause-falses : goal.returns-in_default-clause-falses
returns-in_default-clause-falses c = search (other_effect, rules)

pub returns-in_default-clause-errors : goal.returns-in_default-clause-errors
returns-in_default-clause-errors c = search (other_effect, rules)

pub returns-in_default-clause-opens : goal.returns-in_default-clause-opens
returns-in_default-clause-opens c = search (other_effect, rules)
