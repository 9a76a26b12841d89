-- `dates::is_leap` meets its contract. Assumes nothing.
use borrow.Author.Rules.{rules}
use Rattle.dates.proofs.Calendar.{leap_no, leap_yes, leap_last}
use Rattle.dates.proofs.is_leap.Goals as goal

pub returns-then-year-ne0 : goal.returns-then-year-ne0
returns-then-year-ne0 c = search (leap_no, rules)

pub returns-then-year-ne0-2 : goal.returns-then-year-ne0-2
returns-then-year-ne0-2 c = search (leap_yes, rules)

pub returns : goal.returns
returns c = search (leap_last, rules)
