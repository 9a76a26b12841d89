-- `words::has` meets its contract. Assumes nothing.
use Rattle.words.proofs.Bits.{has_is}
use borrow.Author.Rules.{rules}
use Rattle.words.proofs.has.Goals as goal

pub returns : goal.returns
returns c = search (has_is, rules)
