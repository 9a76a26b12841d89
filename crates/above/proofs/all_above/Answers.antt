-- `above::all_above` meets its contract. Assumes nothing.
use mathlib.Core.Path.{◌∙◌}
use Prim.Native.Nat.{ℕ}
use borrow.Author.Rules.{rules}
use Rattle.std.proofs.lemmas.Iterator.{YieldsList-from_slice}
use Rattle.std.proofs.lemmas.Iterator.Search.{all_from_yields_List}
use Rattle.fits.proofs.KindLaws.{all_is}
use Rattle.typing.specs.Rules.{ancestor_rule}
use Rattle.above.specs.Fitting.{all_above}
use Rattle.above.proofs.all_above.Goals as goal

pub returns : goal.returns
unfolding all_above
returns c =
    all_from_yields_List (λ (v : ℕ). ancestor_rule c.args.rows.now v c.args.kind) _ _ c.all.result c.all.ensures.ran (YieldsList-from_slice c.args.list.now cc) (λ x b q k. search rules)
    ∙ all_is (λ v. ancestor_rule c.args.rows.now v c.args.kind) c.args.list.now
