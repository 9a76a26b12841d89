-- `dates::is_date` meets its contract. Assumes nothing.
use borrow.Author.Rules.{rules}
use Rattle.dates.proofs.Calendar.{too_early, too_late, no_day, day_or_not}
use Rattle.dates.proofs.is_date.Goals as goal

pub returns-then-year-lt-FIRST_YEAR : goal.returns-then-year-lt-FIRST_YEAR
returns-then-year-lt-FIRST_YEAR c = search (too_early, rules)

pub returns-then-year-gt-LAST_YEAR : goal.returns-then-year-gt-LAST_YEAR
returns-then-year-gt-LAST_YEAR c = search (too_late, rules)

pub returns-then-day-lt1 : goal.returns-then-day-lt1
returns-then-day-lt1 c = search (no_day, rules)

pub returns : goal.returns
returns c = search (day_or_not, rules)
