-- `value::making::paired` meets its contract. Assumes nothing.
use Rattle.value.proofs.Fills.{pair_rows, paired_end, paired_on}
use borrow.Author.Rules.{rules}
use Rattle.value.proofs.making.paired.Goals as goal

pub loop-pair-preserved : goal.loop-pair-preserved
loop-pair-preserved c = search (paired_on, rules)

pub returns-then-top-q : goal.returns-then-top-q
returns-then-top-q c = search (pair_rows, rules)

pub returns : goal.returns
returns c = search (paired_end, rules)
