-- `laid::move_places` meets its contract. Assumes nothing.
use Rattle.laid.proofs.Copying.{MovingKeys}
use Rattle.laid.proofs.move_places.Given as goal

abbrev pub invariant-loop-key : goal.invariant-loop-key
invariant-loop-key l = MovingKeys l.rows l.initial.own l.own l.key
