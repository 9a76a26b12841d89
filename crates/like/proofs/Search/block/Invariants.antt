-- `like::Search::block` meets its contract. Assumes nothing.
use Rattle.table.specs.Layout.{text_at}
use Rattle.like.proofs.Globbing.{Blocking}
use Rattle.like.proofs.Search.block.Given as goal

abbrev pub invariant-loop-p : goal.invariant-loop-p
invariant-loop-p l = Blocking (text_at l.self.glob.sheet.now l.self.glob.rows.now) l.self.glob.pattern.now l.self.glob.bytes.now l.self.from l.self.at l.p l.e
