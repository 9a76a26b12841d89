-- `take::put_uses` meets its contract. Assumes nothing.
use Rattle.take.proofs.Noting.{put_uses_law}
use borrow.Author.Rules.{rules}
use Rattle.take.proofs.put_uses.Goals as goal

pub returns : goal.returns
returns c = search (put_uses_law, rules)
