-- `join_places`: what is left of the set is asked.
use Rattle.typesets.proofs.SlotLaws.{gone_start, gone_on, gone_end}
use borrow.Author.Rules.{rules}
use Rattle.typesets.proofs.join_places.Goals as goal

pub loop-w-init : goal.loop-w-init
loop-w-init c = (search gone_start, search rules)

pub loop-w-preserved : goal.loop-w-preserved
loop-w-preserved c = let z = c in (gone_on z.args.images.now z.args.slot z.args.records.now z.args.reached.now c.loop-w.reached c.loop-w.w c.loop-w.invariant.0 c.read.result c.join_word.new.reached c.read.ensures c.join_word.ensures, search rules)

pub returns : goal.returns
returns c = search gone_end
