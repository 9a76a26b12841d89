-- `agree::seek` meets its contract. Assumes nothing.
use Rattle.agree.proofs.Merging.{seek_start}
use borrow.Author.Rules.{rules}
use Rattle.agree.proofs.seek.Goals as goal

pub loop-i-init : goal.loop-i-init
loop-i-init c = search (seek_start, rules)
