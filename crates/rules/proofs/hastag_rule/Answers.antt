-- `hastag_rule`: each kind is asked.
use mathlib.Core.Path.{◌≡◌, ◌∙◌, ap}
use Rattle.std.proofs.Common.{rules}
use Rattle.std.proofs.lemmas.Iterator.{YieldsList-from_slice}
use Rattle.std.proofs.lemmas.Iterator.Search.{all_from_yields_List}
use Rattle.sheet.specs.Typing.{all_in}
use Rattle.fits.proofs.KindLaws.{all_is}
use Rattle.fits.specs.Fit.{kinds_in}
use Rattle.rules.specs.Rules.{untagged}
use Rattle.rules.proofs.Rulings.{tags_other, tags_kinds}
use Rattle.rules.proofs.hastag_rule.Goals as goal

pub returns-then-tag-ne-ENTITY_TYPE : goal.returns-then-tag-ne-ENTITY_TYPE
returns-then-tag-ne-ENTITY_TYPE c = search tags_other

pub returns : goal.returns
returns c =
    let f = untagged c.args.rows.now in
    let l = c.kinds.result.now in
    let e : c.all.result ≡ all_in f (kinds_in c.row-q.result.now) = all_from_yields_List f _ _ c.all.result c.all.ensures.ran (YieldsList-from_slice l cc) (λ x b q k. search rules) ∙ all_is f l ∙ ap (all_in f) c.kinds.ensures in
    search tags_kinds
