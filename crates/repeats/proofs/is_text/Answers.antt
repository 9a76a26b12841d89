-- `repeats::is_text` meets its contract. Assumes nothing.
use mathlib.Core.Path.{refl, ◌∙◌}
use Prim.Native.Nat.{ℕ}
use mathlib.Core.List.{List, ◌∷◌}
use Rattle.sheet.specs.Bytes.{same}
use Rattle.table.specs.Layout.{rows_of, text_row}
use Rattle.repeats.proofs.SearchLaws.{scan_found, scan_on, scan_end, any_text}
use Rattle.sheet.specs.Forms.{TEXT}
use Rattle.forms.specs.Tags.{TEXT_LINE}
use Rattle.repeats.proofs.is_text.Goals as goal

pub returns-then-is_text_at : goal.returns-then-is_text_at
returns-then-is_text_at c = let w = c.loop-i in
    let u = c in
    let z = c.args in
    scan_found (λ (q : List ℕ). same (TEXT_LINE ∷ z.text.now) (text_row z.sheet.now q)) z.rows.now TEXT u.count-n.result c.base_of-b.result w.i c.cut-starts.result.now w.invariant u.count-n.ensures c.base_of-b.ensures c.cut-starts.ensures c.is_text_at.result c.loop-i-test.true c.is_text_at.ensures c.if-is_text_at.true
    ∙ any_text z.sheet.now (TEXT_LINE ∷ z.text.now) (rows_of z.rows.now TEXT)

pub loop-i-preserved : goal.loop-i-preserved
loop-i-preserved c = let w = c.loop-i in
    let u = c in
    let z = c.args in
    scan_on (λ (q : List ℕ). same (TEXT_LINE ∷ z.text.now) (text_row z.sheet.now q)) z.rows.now TEXT u.count-n.result c.base_of-b.result w.i c.cut-starts.result.now w.invariant u.count-n.ensures c.base_of-b.ensures c.cut-starts.ensures c.is_text_at.result c.loop-i-test.true c.is_text_at.ensures c.if-is_text_at.false

pub returns : goal.returns
returns c = let w = c.loop-i in
    let u = c in
    let z = c.args in
    scan_end (λ (q : List ℕ). same (TEXT_LINE ∷ z.text.now) (text_row z.sheet.now q)) z.rows.now TEXT u.count-n.result c.base_of-b.result w.i c.cut-starts.result.now w.invariant u.count-n.ensures c.base_of-b.ensures c.cut-starts.ensures c.loop-i-test.false refl
    ∙ any_text z.sheet.now (TEXT_LINE ∷ z.text.now) (rows_of z.rows.now TEXT)
