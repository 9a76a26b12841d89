-- `seen::mixed` meets its contract. Assumes nothing.
use Rattle.seen.specs.Seen.{mixed}
use borrow.Author.Rules.{rules}
use Rattle.seen.proofs.mixed.Goals as goal

pub returns : goal.returns
unfolding mixed
returns c = search rules
