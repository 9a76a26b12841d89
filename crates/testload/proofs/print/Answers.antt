-- `testload::print` meets its contract. Assumes nothing.
use Rattle.drawn.specs.TestLoad.{head_texts, head_rest}
use Rattle.testload.proofs.Calling.{whole_sheet}
use Rattle.testload.proofs.print.Goals as goal

pub returns : goal.returns
unfolding head_texts head_rest
returns c = let x = c.args in whole_sheet x.seed x.count c.bytes.ensures c.ids.ensures c.bytes-2.ensures c.nodes.ensures c.policies.ensures
