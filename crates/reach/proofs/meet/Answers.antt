-- `reach::meet` meets its contract. Assumes nothing.
use Rattle.reach.proofs.Steps.{meet_new, meet_queue}
use borrow.Author.Rules.{rules}
use Rattle.reach.proofs.meet.Goals as goal

pub see_at-requires : goal.see_at-requires
see_at-requires c = search (meet_queue, rules)

pub returns : goal.returns
returns c = search (meet_new, rules)
