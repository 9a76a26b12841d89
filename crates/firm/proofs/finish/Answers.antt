-- `firm::finish` meets its contract. Assumes nothing.
use Rattle.firm.proofs.Calling.{own_short, other_short, now_cleared}
use borrow.Author.Rules.{rules}
use Rattle.firm.proofs.finish.Goals as goal

pub returns-then-work1-lt-ROOM : goal.returns-then-work1-lt-ROOM
returns-then-work1-lt-ROOM c = search (own_short, other_short, rules)

pub returns-then-work2-lt-ROOM : goal.returns-then-work2-lt-ROOM
returns-then-work2-lt-ROOM c = search (own_short, other_short, rules)

pub returns : goal.returns
returns c = search (now_cleared, rules)
