-- `firm::check` meets its contract. Assumes nothing.
use Rattle.firm.proofs.Calling.{check_refused, check_passed, check_fails}
use borrow.Author.Rules.{rules}
use Rattle.firm.proofs.check.Goals as goal

pub returns-then-f-ne0 : goal.returns-then-f-ne0
returns-then-f-ne0 c = search (check_refused, rules)

pub returns-then-fits : goal.returns-then-fits
returns-then-fits c = search (check_passed, rules)

pub returns : goal.returns
returns c = search (check_fails, rules)
