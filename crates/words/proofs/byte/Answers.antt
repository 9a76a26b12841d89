-- `words::byte` meets its contract. Assumes nothing.
use Rattle.words.specs.Bits.{byte_of}
use borrow.Author.Rules.{rules}
use Rattle.words.proofs.byte.Goals as goal

pub returns : goal.returns
unfolding byte_of
returns c = search rules
