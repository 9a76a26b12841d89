-- `above::any_unfit` meets its contract. Assumes nothing.
use native.Mathlib.Omega.{arith}
use borrow.Author.Rules.{rules}
use Rattle.std.proofs.lemmas.Iterator.{YieldsList-from_range}
use Rattle.std.proofs.lemmas.Iterator.Search.{any_from_yields_List}
use Rattle.reach.specs.Marks.{marked_at}
use Rattle.reach.proofs.Steps.{asked_is}
use Rattle.above.specs.Fitting.{unfit_at}
use Rattle.above.proofs.any_unfit.Goals as goal

pub returns : goal.returns
returns c =
    asked_is (unfit_at c.args.rows.now c.args.kind) c.args.marks.now c.lines.result _ c.any.result c.lines.ensures.0
    (any_from_yields_List (marked_at (unfit_at c.args.rows.now c.args.kind) c.args.marks.now) _ _ c.any.result c.any.ensures.ran (YieldsList-from_range 0 c.lines.result c.lines.result (cc) (omega arith)) (λ x b q k. search rules))
