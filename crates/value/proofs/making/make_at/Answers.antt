-- `value::making::make_at` meets its contract. Assumes nothing.
use Rattle.value.proofs.Makes.{make_found, make_full, make_added}
use borrow.Author.Rules.{rules}
use Rattle.value.proofs.making.make_at.Goals as goal

pub returns-then-v-total : goal.returns-then-v-total
returns-then-v-total c = search (make_found, rules)

pub returns-then-not-has_room : goal.returns-then-not-has_room
returns-then-not-has_room c = search (make_full, rules)

pub returns : goal.returns
returns c = search (make_added, rules)
