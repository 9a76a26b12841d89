-- `line::effect` meets its contract. Assumes nothing.
use Rattle.std.proofs.Common.{◌∙◌, ap}
use Rattle.sheet.specs.Bytes.{same}
use Rattle.line.proofs.LawsItem.{effect_none}
use Rattle.line.proofs.effect.Goals as goal

pub returns : goal.returns
returns c =
    let f = c.args.bytes.now in
    effect_none f _ (c.eq.ensures ∙ ap (same f) c.as_slice.ensures) _ (c.eq-2.ensures ∙ ap (same f) c.as_slice-2.ensures) c.if-eq.false c.if-eq-2.false
