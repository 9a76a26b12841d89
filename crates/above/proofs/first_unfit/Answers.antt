-- `above::first_unfit` meets its contract. Assumes nothing.
use Rattle.reach.specs.Marks.{LINES}
use Rattle.above.proofs.Fits.{blank, firsts_end, firsts_hit, firsts_none, firsts_on, none_fit}
use borrow.Author.Rules.{rules}
use Rattle.above.proofs.first_unfit.Goals as goal

pub returns-then-n-eq0 : goal.returns-then-n-eq0
returns-then-n-eq0 c = search (firsts_none, rules)

pub ask_last-requires : goal.ask_last-requires
ask_last-requires c = none_fit _ _ (blank LINES)

pub returns-then-not-reached_fit : goal.returns-then-not-reached_fit
returns-then-not-reached_fit c = search (firsts_hit, rules)

pub loop-i-preserved : goal.loop-i-preserved
loop-i-preserved c = search (firsts_on, rules)

pub returns : goal.returns
returns c = search (firsts_end, rules)
