-- `like::begins` meets its contract. Assumes nothing.
use Rattle.like.proofs.Globbing.{begins_past, begins_long, begins_none, begins_first, begins_last, begins_told}
use borrow.Author.Rules.{rules}
use Rattle.like.proofs.begins.Goals as goal

pub returns-then-at-bytes : goal.returns-then-at-bytes
returns-then-at-bytes c = search (begins_past, rules)

pub returns-then-n-bytes : goal.returns-then-n-bytes
returns-then-n-bytes c = search (begins_long, rules)

pub returns-then-n-eq0 : goal.returns-then-n-eq0
returns-then-n-eq0 c = search (begins_none, rules)

pub returns-then-piece-bytes : goal.returns-then-piece-bytes
returns-then-piece-bytes c = search (begins_first, rules)

pub returns-then-piece-n : goal.returns-then-piece-n
returns-then-piece-n c = search (begins_last, rules)

pub returns : goal.returns
returns c = search (begins_told, rules)
