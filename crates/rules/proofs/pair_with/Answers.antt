-- `pair_with`: the kind itself, or one above it.
use mathlib.Core.Path.{◌≡◌, ◌∙◌, ap}
use Rattle.std.proofs.Common.{rules}
use Rattle.std.proofs.lemmas.Iterator.{YieldsList-from_slice}
use Rattle.std.proofs.lemmas.Iterator.Search.{any_from_yields_List}
use Rattle.cedar.specs.Types.{some_kind}
use Rattle.rules.proofs.Rulings.{some_is}
use Rattle.typerows.specs.Types.{above_at}
use Rattle.fits.specs.Fit.{kind_in}
use Rattle.rules.proofs.KindSets.{pair_own, pair_above}
use Rattle.rules.proofs.pair_with.Goals as goal

pub returns-then-has : goal.returns-then-has
returns-then-has c = search pair_own

pub returns-else-has : goal.returns-else-has
returns-else-has c =
    let f = kind_in c.args.others.now.row.now in
    let l = c.kinds_above.result.now in
    let e : c.any.result ≡ some_kind f (above_at c.args.rows.now c.args.kind) = any_from_yields_List f _ _ c.any.result c.any.ensures.ran (YieldsList-from_slice l cc) (λ x b q k. search rules) ∙ some_is f l ∙ ap (some_kind f) c.kinds_above.ensures in
    search pair_above
