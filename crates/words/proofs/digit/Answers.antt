-- `words::digit` meets its contract. Assumes nothing.
use Rattle.words.specs.Bits.{digit_of}
use borrow.Author.Rules.{rules}
use Rattle.words.proofs.digit.Goals as goal

pub returns : goal.returns
unfolding digit_of
returns c = search rules
