-- `line::row_entry` meets its contract. Assumes nothing.
use Prim.Native.Nat.{◌+◌}
use Rattle.line.proofs.LawsRow.{wrote_as}
use Rattle.line.proofs.LawsLine.{entry_row, entry_text}
use Rattle.line.proofs.row_entry.Goals as goal

pub returns-then-key-eq-TEXT : goal.returns-then-key-eq-TEXT
returns-then-key-eq-TEXT c =
    let a = c.args in
    wrote_as _ _ c.row_text.result (λ r q. entry_text a.rows.now c.row_text.new.rows a.bytes.now a.partial a.key a.top r (a.equals.at + 1) c.if-key-eq-TEXT.true q) c.row_text.ensures

pub returns : goal.returns
returns c =
    let a = c.args in
    wrote_as _ _ c.row_value.result (λ r q. entry_row a.rows.now c.row_value.new.rows a.bytes.now a.partial a.key a.top r (a.equals.at + 1) c.items.result c.items.ensures.1 c.if-key-eq-TEXT.false q) c.row_value.ensures
