-- `wording::says_complete` meets its contract. Assumes nothing.
use Rattle.std.proofs.Common.{◌∙◌, ap}
use Rattle.sheet.specs.Bytes.{same}
use Rattle.wording.proofs.Lines.{says}
use Rattle.wording.proofs.says_complete.Goals as goal

pub returns : goal.returns
returns c = says c.args.sheet.now c.front.result.now c.find-n.result _ c.find-n.ensures c.front.ensures (c.eq-is_complete.ensures ∙ ap (same c.front.result.now) c.as_slice.ensures)
