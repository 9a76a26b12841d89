-- `residual::Log::push_value` meets its contract. Assumes nothing.
use Rattle.residual.proofs.Pushes.{room_after}
use Rattle.residual.proofs.Log.push_value.Goals as goal

pub invariant_of-self : goal.invariant_of-self
invariant_of-self c = search (room_after, c.args.self.now.room)
