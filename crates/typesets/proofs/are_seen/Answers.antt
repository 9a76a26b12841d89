-- `are_seen`: a word of the set is in the word of the slot.
use Rattle.typesets.proofs.SlotLaws.{below_start, below_not, below_on, below_end}
use Rattle.typesets.proofs.are_seen.Goals as goal

pub loop-w-init : goal.loop-w-init
loop-w-init c = search below_start

pub returns-then-x-read : goal.returns-then-x-read
returns-then-x-read c = search below_not

pub loop-w-preserved : goal.loop-w-preserved
loop-w-preserved c = search below_on

pub returns : goal.returns
returns c = search below_end
