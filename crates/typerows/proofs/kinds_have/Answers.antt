-- `kinds_have`: each kind is asked.
use mathlib.Core.Path.{◌∙◌, ap}
use Rattle.std.proofs.Common.{rules}
use Rattle.std.proofs.lemmas.Iterator.{YieldsList-from_slice}
use Rattle.std.proofs.lemmas.Iterator.Search.{all_from_yields_List}
use Rattle.sheet.specs.Typing.{all_in}
use Rattle.fits.proofs.KindLaws.{all_is}
use Rattle.typerows.specs.Types.{always, of_kind}
use Rattle.typerows.proofs.KindWalks.{asked}
use Rattle.typerows.proofs.kinds_have.Goals as goal

pub returns : goal.returns
returns c =
    let f = of_kind c.args.rows.now always in
    let l = c.kinds.result.now in
    all_from_yields_List f _ _ c.all.result c.all.ensures.ran (YieldsList-from_slice l cc) (λ x b q k. search (rules, asked)) ∙ all_is f l ∙ ap (all_in f) c.kinds.ensures
