-- `value::making::has_room` meets its contract. Assumes nothing.
use Rattle.value.proofs.Makes.{room_made, room_low, room_long, room_test}
use borrow.Author.Rules.{rules}
use Rattle.value.proofs.making.has_room.Goals as goal

pub returns-then-read-ge1024 : goal.returns-then-read-ge1024
returns-then-read-ge1024 c = search (room_made, rules)

pub returns-then-top-lt-HEAP : goal.returns-then-top-lt-HEAP
returns-then-top-lt-HEAP c = search (room_low, rules)

pub returns-then-size-gt16384 : goal.returns-then-size-gt16384
returns-then-size-gt16384 c = search (room_long, rules)

pub returns : goal.returns
returns c = search (room_test, rules)
