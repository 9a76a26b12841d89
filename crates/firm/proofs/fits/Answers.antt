-- `firm::fits` meets its contract. Assumes nothing.
use Rattle.firm.proofs.Calling.{asks_not, asks_both}
use borrow.Author.Rules.{rules}
use Rattle.firm.proofs.fits.Goals as goal

pub returns-then-not-text_fits : goal.returns-then-not-text_fits
returns-then-not-text_fits c = search (asks_not, rules)

pub returns : goal.returns
returns c = search (asks_both, rules)
