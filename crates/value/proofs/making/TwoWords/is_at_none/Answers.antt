-- `value::making::TwoWords::is_at_none` meets its contract. Assumes nothing.
use Rattle.value.proofs.Passes.{four_1, four_2, four_3, four_4}
use borrow.Author.Rules.{rules}
use Rattle.value.proofs.making.TwoWords.is_at_none.Goals as goal

pub returns-then-is_at : goal.returns-then-is_at
returns-then-is_at c = search (four_1, rules)

pub returns-then-is_at-2 : goal.returns-then-is_at-2
returns-then-is_at-2 c = search (four_2, rules)

pub returns-then-is_at-3 : goal.returns-then-is_at-3
returns-then-is_at-3 c = search (four_3, rules)

pub returns : goal.returns
returns c = search (four_4, rules)
