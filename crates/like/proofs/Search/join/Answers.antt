-- `like::Search::join` meets its contract. Assumes nothing.
use Rattle.table.specs.Layout.{text_at}
use Rattle.like.proofs.Joining.{join_start, join_last, join_idle, join_star, join_long, join_on}
use borrow.Author.Rules.{rules}
use Rattle.like.proofs.Search.join.Goals as goal

pub loop-p-init : goal.loop-p-init
loop-p-init c = let s = c.args.self.now in
    join_start (text_at s.glob.sheet.now s.glob.rows.now) s.glob.pattern.now s.from c.args.block.now s.item

pub loop-p-preserved-then-idle : goal.loop-p-preserved-then-idle
loop-p-preserved-then-idle c = search (join_idle, rules)

pub loop-p-preserved : goal.loop-p-preserved
loop-p-preserved c = search (join_on, rules)

pub returns : goal.returns
returns c = search (join_last, rules)

pub returns-then-x-eq-MARK : goal.returns-then-x-eq-MARK
returns-then-x-eq-MARK c = search (join_star, rules)

pub returns-then-piece-block : goal.returns-then-piece-block
returns-then-piece-block c = search (join_long, rules)
