-- `add_above`: what is left of the shape's row joins.
use Rattle.words.proofs.Bits.{length_added}
use Rattle.typing.proofs.SeenSets.{adding_on, adding_end}
use borrow.Author.Rules.{rules}
use Rattle.typing.proofs.lines.add_above.Goals as goal

pub loop-kind-preserved : goal.loop-kind-preserved
loop-kind-preserved c = (search adding_on, search (length_added, rules))

pub returns : goal.returns
returns c = search adding_end
