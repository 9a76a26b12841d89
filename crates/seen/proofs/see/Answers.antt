-- `seen::see` meets its contract. Assumes nothing.
use Rattle.words.proofs.Bits.{added_there}
use Rattle.seen.proofs.SeenLaws.{see_there, see_new}
use borrow.Author.Rules.{rules}
use Rattle.seen.proofs.see.Goals as goal

pub returns-then-has : goal.returns-then-has
returns-then-has c = record { new = search (see_there, rules); with = search (added_there, rules) }

pub returns : goal.returns
returns c = record { new = search (see_new, rules); with = search rules }
