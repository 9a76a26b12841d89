-- `seen::mixed_words` meets its contract. Assumes nothing.
use Rattle.seen.proofs.SeenLaws.{mixing_words, mixing_on, mixing_end}
use borrow.Author.Rules.{rules}
use Rattle.seen.proofs.mixed_words.Goals as goal

pub loop-i-init : goal.loop-i-init
loop-i-init c = search (mixing_words, rules)

pub loop-i-preserved : goal.loop-i-preserved
loop-i-preserved c = search (mixing_on, rules)

pub returns : goal.returns
returns c = search (mixing_end, rules)
