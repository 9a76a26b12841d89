-- `firm::text_fits` meets its contract. Assumes nothing.
use Rattle.firm.proofs.Calling.{text_absent, text_open, text_known}
use borrow.Author.Rules.{rules}
use Rattle.firm.proofs.text_fits.Goals as goal

pub returns-then-text-count : goal.returns-then-text-count
returns-then-text-count c = search (text_absent, rules)

pub returns-then-known-eq-MARK : goal.returns-then-known-eq-MARK
returns-then-known-eq-MARK c = search (text_open, rules)

pub returns : goal.returns
returns c = search (text_known, rules)
