-- `like::Search::block` meets its contract. Assumes nothing.
use Rattle.like.proofs.Globbing.{block_end, block_star, block_miss, block_on}
use borrow.Author.Rules.{rules}
use Rattle.like.proofs.Search.block.Goals as goal

pub loop-p-preserved : goal.loop-p-preserved
loop-p-preserved c = search (block_on, rules)

pub returns : goal.returns
returns c = search (block_end, rules)

pub returns-then-x-eq-MARK : goal.returns-then-x-eq-MARK
returns-then-x-eq-MARK c = search (block_star, rules)

pub returns-then-not-begins : goal.returns-then-not-begins
returns-then-not-begins c = search (block_miss, rules)
