-- `like::Search::go_on` meets its contract. Assumes nothing.
use Prim.Native.Nat.{◌-◌, ◌+◌}
use lib.ListN.{length}
use Rattle.table.specs.Layout.{text_at}
use Rattle.like.proofs.Globbing.{Globbing}
use Rattle.like.proofs.Search.go_on.Given as goal

abbrev pub invariant-loop-p : goal.invariant-loop-p
invariant-loop-p l = Globbing (text_at l.self.glob.sheet.now l.self.glob.rows.now) l.self.glob.pattern.now l.self.glob.bytes.now l.self.from l.self.at l.from l.at

abbrev pub decreases-loop-p : goal.decreases-loop-p
decreases-loop-p l = length l.self.glob.pattern.now - l.from + (length l.self.glob.bytes.now - l.at)
