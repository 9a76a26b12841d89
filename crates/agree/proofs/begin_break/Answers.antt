-- `agree::begin_break` meets its contract. Assumes nothing.
use Rattle.agree.proofs.Alike.{begin_none, begin_less, begin_some}
use borrow.Author.Rules.{rules}
use Rattle.agree.proofs.begin_break.Goals as goal

pub returns-then-n-count : goal.returns-then-n-count
returns-then-n-count c = search (begin_none, begin_less, rules)

pub returns-then-n-count-2 : goal.returns-then-n-count-2
returns-then-n-count-2 c = search (begin_less, rules)

pub returns : goal.returns
returns c = search (begin_some, rules)
