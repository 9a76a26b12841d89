-- `dates::days_in` meets its contract. Assumes nothing.
use borrow.Author.Rules.{rules}
use Rattle.dates.proofs.Calendar.{long_february, short_february, no_month}
use Rattle.dates.proofs.days_in.Goals as goal

pub returns-then-is_leap : goal.returns-then-is_leap
returns-then-is_leap c = search (long_february, rules)

pub returns-else-is_leap : goal.returns-else-is_leap
returns-else-is_leap c = search (short_february, rules)

pub returns-in_default : goal.returns-in_default
returns-in_default c = no_month c.args.year c.args.month c.in_default.in_default-own.rest
