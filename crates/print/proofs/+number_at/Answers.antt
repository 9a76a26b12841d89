-- `print::number_at` meets its contract. Assumes nothing.
use Rattle.std.proofs.Common.{rules}
use Rattle.print.proofs.Writing.{number_one, number_two, number_more}
use Rattle.print.proofs.+number_at.Goals as goal

pub returns-then-n-lt10 : goal.returns-then-n-lt10
returns-then-n-lt10 t c = search (number_one, rules)

pub returns-then-n-lt100 : goal.returns-then-n-lt100
returns-then-n-lt100 t c = search (number_two, rules)

pub returns : goal.returns
returns t c = search (number_more, rules)
