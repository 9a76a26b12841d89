-- `words::clear` meets its contract. Assumes nothing.
use Rattle.words.proofs.Stores.{cleared_short, cleared_long}
use borrow.Author.Rules.{rules}
use Rattle.words.proofs.clear.Goals as goal

pub returns-then-words-lt-ROOM : goal.returns-then-words-lt-ROOM
returns-then-words-lt-ROOM c = search (cleared_short, rules)

pub returns : goal.returns
returns c = search (cleared_long, rules)
