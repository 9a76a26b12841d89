-- `carried::member_rows` meets its contract. Assumes nothing.
use Rattle.carried.specs.Carry.{number_there}
use Rattle.carried.proofs.Carrying.{Members}
use Rattle.carried.proofs.member_rows.Given as goal

abbrev pub invariant-loop-member : goal.invariant-loop-member
invariant-loop-member l = Members l.list (number_there l.numbers.given l.numbers.noted.now) l.log l.end l.member-index
