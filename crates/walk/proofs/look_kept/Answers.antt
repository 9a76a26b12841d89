-- `walk::look_kept` meets its contract. Assumes nothing.
use Rattle.walk.proofs.Finding.{found_kept}
use borrow.Author.Rules.{rules}
use Rattle.walk.proofs.look_kept.Goals as goal

pub returns : goal.returns
returns c = search (found_kept, rules)
