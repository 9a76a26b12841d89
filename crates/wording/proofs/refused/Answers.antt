-- `wording::refused` meets its contract. Assumes nothing.
use Rattle.wording.proofs.Lines.{refused_line}
use Rattle.wording.proofs.refused.Goals as goal

pub returns : goal.returns
returns c = refused_line c.args.n c.args.line c.args.length c.bytes.ensures c.number.ensures c.byte.ensures c.number-2.ensures c.byte-2.ensures c.number-3.ensures c.byte-3.ensures
