-- `share_kind`: each kind is looked for.
use mathlib.Core.Path.{◌∙◌, ap}
use Rattle.std.proofs.Common.{rules}
use Rattle.std.proofs.lemmas.Iterator.{YieldsList-from_slice}
use Rattle.std.proofs.lemmas.Iterator.Search.{any_from_yields_List}
use Rattle.cedar.specs.Types.{some_kind}
use Rattle.rules.proofs.Rulings.{some_is}
use Rattle.fits.specs.Fit.{kind_in}
use Rattle.rules.proofs.share_kind.Goals as goal

pub returns : goal.returns
returns c =
    let f = kind_in c.args.others.now.row.now in
    let l = c.kinds.result.now in
    any_from_yields_List f _ _ c.any.result c.any.ensures.ran (YieldsList-from_slice l cc) (λ x b q k. search rules) ∙ some_is f l ∙ ap (some_kind f) c.kinds.ensures
