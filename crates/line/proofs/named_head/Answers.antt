-- `line::named_head` meets its contract. Assumes nothing.
use Rattle.line.proofs.LawsItem.{item_there}
use Rattle.line.proofs.LawsValue.{named_head_law, named_none}
use Rattle.line.proofs.named_head.Goals as goal

pub returns-in_err-end : goal.returns-in_err-end
returns-in_err-end c = item_there c.args.bytes.now c.args.cursor c.item.result c.item.ensures c.requires.0 c.in_err-end.was

pub returns-in_err-tag : goal.returns-in_err-tag
returns-in_err-tag c = rw c.from_residual-in_err-tag.ensures (named_none c.args.bytes.now c.args.cursor c.item.result c.item.ensures c.in_ok-end.end c.in_ok-end.items c.in_ok-end.was c.args.value c.part_of.result.now c.part_of.ensures c.in_err-tag.ensures)

pub returns : goal.returns
returns c = named_head_law c.args.bytes.now c.args.cursor c.item.result c.item.ensures c.in_ok-end.end c.in_ok-end.items c.in_ok-end.was c.args.value _ c.part_of.result.now c.part_of.ensures c.in_ok-tag.ensures
