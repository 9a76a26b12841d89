-- `line::head_of` meets its contract. Assumes nothing.
use Rattle.line.proofs.LawsValue.{begun_plain, begun_none}
use Rattle.line.proofs.head_of.Goals as goal

pub returns-in_err-tag : goal.returns-in_err-tag
returns-in_err-tag c = let a = c.args in rw c.from_residual.ensures (begun_none a.key a.top a.bytes.now a.rows.now a.cursor c.requires.0 c.if-key-eq-NODE.false c.if-key-eq-TYPE.false c.if-key-eq-VALUE.false c.in_err-tag.ensures)

pub returns : goal.returns
returns c = let a = c.args in begun_plain a.key a.top a.bytes.now a.rows.now a.cursor c.requires.0 c.if-key-eq-NODE.false c.if-key-eq-TYPE.false c.if-key-eq-VALUE.false _ c.in_ok-tag.ensures
