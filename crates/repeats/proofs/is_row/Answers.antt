-- `repeats::is_row` meets its contract. Assumes nothing.
use mathlib.Core.Path.{◌∙◌}
use Rattle.sheet.specs.Bytes.{same}
use Rattle.table.specs.Layout.{rows_of}
use Rattle.repeats.proofs.SearchLaws.{scan_found, scan_on, scan_end, any_row, no_row}
use Rattle.repeats.proofs.is_row.Goals as goal

pub returns-then-is_row_at : goal.returns-then-is_row_at
returns-then-is_row_at c = let w = c.loop-i in
    let u = c in
    let z = c.args in
    scan_found (same z.line.now) z.rows.now z.key u.count-n.result c.base_of-b.result w.i c.cut-starts.result.now w.invariant u.count-n.ensures c.base_of-b.ensures c.cut-starts.ensures c.is_row_at.result c.loop-i-test.true c.is_row_at.ensures c.if-is_row_at.true
    ∙ any_row z.line.now (rows_of z.rows.now z.key)

pub loop-i-preserved : goal.loop-i-preserved
loop-i-preserved c = let w = c.loop-i in
    let u = c in
    let z = c.args in
    scan_on (same z.line.now) z.rows.now z.key u.count-n.result c.base_of-b.result w.i c.cut-starts.result.now w.invariant u.count-n.ensures c.base_of-b.ensures c.cut-starts.ensures c.is_row_at.result c.loop-i-test.true c.is_row_at.ensures c.if-is_row_at.false

pub returns : goal.returns
returns c = let w = c.loop-i in
    let u = c in
    let z = c.args in
    scan_end (same z.line.now) z.rows.now z.key u.count-n.result c.base_of-b.result w.i c.cut-starts.result.now w.invariant u.count-n.ensures c.base_of-b.ensures c.cut-starts.ensures c.loop-i-test.false (no_row z.line.now c.requires)
    ∙ any_row z.line.now (rows_of z.rows.now z.key)
