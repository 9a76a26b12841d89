-- `kinds_tags_are`: each kind is asked.
use mathlib.Core.Path.{◌∙◌, ap}
use Rattle.std.proofs.Common.{rules}
use Rattle.std.proofs.lemmas.Iterator.{YieldsList-from_slice}
use Rattle.std.proofs.lemmas.Iterator.Search.{all_from_yields_List}
use Rattle.sheet.specs.Typing.{all_in}
use Rattle.fits.proofs.KindLaws.{all_is}
use Rattle.typerows.specs.Types.{tags_are}
use Rattle.typing.proofs.nodes.kinds_tags_are.Goals as goal

pub returns : goal.returns
unfolding tags_are
returns c =
    let f = tags_are c.args.rows.now c.args.ty in
    let l = c.kinds.result.now in
    all_from_yields_List f _ _ c.all.result c.all.ensures.ran (YieldsList-from_slice l cc) (λ x b q k. search rules) ∙ all_is f l ∙ ap (all_in f) c.kinds.ensures
