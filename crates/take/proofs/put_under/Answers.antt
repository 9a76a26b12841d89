-- `take::put_under` meets its contract. Assumes nothing.
use Rattle.take.proofs.Noting.{put_under}
use borrow.Author.Rules.{rules}
use Rattle.take.proofs.put_under.Goals as goal

pub returns : goal.returns
returns c = search (put_under, rules)
