-- `value::row_of` meets its contract. Assumes nothing.
use Rattle.value.proofs.Shaped.{row_given, row_made, row_absent}
use borrow.Author.Rules.{rules}
use Rattle.value.proofs.row_of.Goals as goal

pub returns-then-value-n : goal.returns-then-value-n
returns-then-value-n c = search (row_given, rules)

pub returns-then-w-m : goal.returns-then-w-m
returns-then-w-m c = search (row_made, rules)

pub returns : goal.returns
returns c = search (row_absent, rules)
