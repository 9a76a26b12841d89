-- `value::reach` meets its contract. Assumes nothing.
use Rattle.value.proofs.Lists.{reach_last, reach_stop, reach_on}
use mathlib.Core.Path.{◌∙◌}
use borrow.Author.Rules.{rules}
use Rattle.value.proofs.reach.Goals as goal

pub loop-j-preserved : goal.loop-j-preserved
loop-j-preserved c = search (reach_on, rules)

pub returns : goal.returns
returns c = let l = c.loop-j in c.max.ensures ∙ reach_last c.args.words.now c.args.value c.args.from l.j l.invariant c.loop-j-test.false l.auto.j-end

pub returns-then-words-j : goal.returns-then-words-j
returns-then-words-j c = search (reach_stop, rules)
