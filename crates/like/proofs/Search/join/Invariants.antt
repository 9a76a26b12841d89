-- `like::Search::join` meets its contract. Assumes nothing.
use Rattle.table.specs.Layout.{text_at}
use Rattle.like.proofs.Joining.{Joining}
use Rattle.like.proofs.Search.join.Given as goal

abbrev pub invariant-loop-p : goal.invariant-loop-p
invariant-loop-p l = Joining (text_at l.self.glob.sheet.now l.self.glob.rows.now) l.self.glob.pattern.now l.self.from l.initial.block l.block l.p l.n l.empty
