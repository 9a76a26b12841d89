-- `value::making::TwoWords::next_place` meets its contract. Assumes nothing.
use Rattle.value.proofs.Passes.{passing_end, passing_hit, passing_on}
use borrow.Author.Rules.{rules}
use Rattle.value.proofs.making.TwoWords.next_place.Goals as goal

pub loop-i-preserved : goal.loop-i-preserved
loop-i-preserved c = search (passing_on, rules)

pub returns : goal.returns
returns c = search (passing_end, rules)

pub returns-then-is_at : goal.returns-then-is_at
returns-then-is_at c = search (passing_hit, rules)
