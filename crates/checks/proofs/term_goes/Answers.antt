-- `checks::term_goes` meets its contract. Assumes nothing.
use Rattle.checks.proofs.FoundLaws.{goes_days}
use borrow.Author.Rules.{rules}
use Rattle.checks.proofs.term_goes.Goals as goal

pub returns : goal.returns
returns c = search (goes_days, rules)
