-- `wording::number_of` meets its contract. Assumes nothing.
use Rattle.wording.proofs.Numbers.{number_empty, number_one, number_zero, number_more}
use borrow.Author.Rules.{rules}
use Rattle.wording.proofs.number_of.Goals as goal

pub returns-then-word-eq0 : goal.returns-then-word-eq0
returns-then-word-eq0 c = search (number_empty, rules)

pub returns-then-word-eq1 : goal.returns-then-word-eq1
returns-then-word-eq1 c = search (number_one, rules)

pub returns-then-word-eq48 : goal.returns-then-word-eq48
returns-then-word-eq48 c = search (number_zero, rules)

pub returns : goal.returns
returns c = search (number_more, rules)
