-- `children_are`: each child is asked.
use mathlib.Core.Path.{◌∙◌, ap}
use Rattle.std.proofs.Common.{rules}
use Rattle.std.proofs.lemmas.Iterator.{YieldsList-from_slice}
use Rattle.std.proofs.lemmas.Iterator.Search.{all_from_yields_List}
use Rattle.sheet.specs.Typing.{all_in}
use Rattle.fits.proofs.KindLaws.{all_is}
use Prim.Native.Nat.{ℕ}
use mathlib.Core.Bool.{Bool}
use lib.Dec.{eqb}
use Rattle.typing.specs.Rules.{node_type_at, all_of}
use Rattle.typing.proofs.Rulings.{rest_is}
use Rattle.typing.proofs.nodes.children_are.Goals as goal

pub returns : goal.returns
unfolding all_of
returns c =
    let f : ℕ → Bool = λ n. eqb (node_type_at c.args.rows.now n) c.args.ty in
    let l = c.cut.result.now in
    all_from_yields_List f _ _ c.all.result c.all.ensures.ran (YieldsList-from_slice l cc) (λ x b q k. search rules) ∙ all_is f l ∙ ap (all_in f) (rest_is c.args.rows.now c.args.line.now l c.cut.ensures)
