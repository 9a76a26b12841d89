-- `value::making::TwoWords::passed_by_fours` meets its contract. Assumes nothing.
use Rattle.value.proofs.Passes.{passing_four}
use borrow.Author.Rules.{rules}
use Rattle.value.proofs.making.TwoWords.passed_by_fours.Goals as goal

pub loop-i-preserved : goal.loop-i-preserved
loop-i-preserved c = search (passing_four, rules)
