-- `reach::names` meets its contract. Assumes nothing.
use native.Mathlib.Omega.{arith}
use borrow.Author.Rules.{rules}
use Rattle.std.proofs.lemmas.Iterator.{YieldsList-from_range}
use Rattle.std.proofs.lemmas.Iterator.Search.{any_from_yields_List}
use Rattle.sheet.specs.Forms.{VALUE}
use Rattle.table.specs.Layout.{rows_of}
use Rattle.reach.specs.Marks.{line_rows, marked_at, names_at}
use Rattle.reach.proofs.Steps.{asked_is}
use Rattle.reach.proofs.names.Goals as goal

pub returns : goal.returns
returns c =
    let a = c.args.rows.now in
    asked_is (names_at (rows_of a VALUE) (line_rows a) c.args.value) c.args.marks.now c.lines.result _ c.any.result c.lines.ensures.0
    (any_from_yields_List (marked_at (names_at (rows_of a VALUE) (line_rows a) c.args.value) c.args.marks.now) _ _ c.any.result c.any.ensures.ran (YieldsList-from_range 0 c.lines.result c.lines.result (cc) (omega arith)) (λ x b q k. search rules))
