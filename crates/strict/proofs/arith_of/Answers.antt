-- `strict::arith_of` meets its contract. Assumes nothing.
use Rattle.strict.proofs.Plain.{longs_first, longs_second, longs_both}
use borrow.Author.Rules.{rules}
use Rattle.strict.proofs.arith_of.Goals as goal

pub returns-in_default : goal.returns-in_default
returns-in_default c = search (longs_first, rules)

pub returns-in_default-t : goal.returns-in_default-t
returns-in_default-t c = search (longs_second, longs_both, rules)

pub returns : goal.returns
returns c = search (longs_second, longs_both, rules)
