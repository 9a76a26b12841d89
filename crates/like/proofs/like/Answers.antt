-- `like::like` meets its contract. Assumes nothing.
use Rattle.like.proofs.Globbing.{first_misses, first_ends, first_most, first_within, first_star}
use borrow.Author.Rules.{rules}
use Rattle.like.proofs.like.Goals as goal

pub invariant_of-go_on : goal.invariant_of-go_on
invariant_of-go_on c = record { item = search (first_most, rules); place = search (first_within, rules) }

pub returns-in-Misses : goal.returns-in-Misses
returns-in-Misses c = search (first_misses, first_ends, first_star, rules)

pub returns-in-Ends : goal.returns-in-Ends
returns-in-Ends c = search (first_misses, first_ends, first_star, rules)

pub returns-in-Star : goal.returns-in-Star
returns-in-Star c = search (first_misses, first_ends, first_star, rules)
