-- `reach::meets_above` meets its contract. Assumes nothing.
use mathlib.Core.Path.{◌∙◌}
use borrow.Author.Rules.{rules}
use Rattle.std.proofs.lemmas.Iterator.{YieldsList-from_slice}
use Rattle.std.proofs.lemmas.Iterator.Search.{any_from_yields_List}
use Rattle.sheet.specs.Forms.{VALUE}
use Rattle.table.specs.Layout.{rows_of}
use Rattle.reach.specs.Marks.{line_rows, is_met}
use Rattle.reach.proofs.Steps.{any_is}
use Rattle.reach.proofs.meets_above.Goals as goal

pub returns : goal.returns
returns c =
    let a = c.args.rows.now in
    any_from_yields_List (is_met (rows_of a VALUE) (line_rows a) c.args.met.now c.args.marks.now) _ _ c.any.result c.any.ensures.ran (YieldsList-from_slice c.args.targets.now cc) (λ x b q k. search rules)
    ∙ any_is a c.args.met.now c.args.marks.now c.args.targets.now
