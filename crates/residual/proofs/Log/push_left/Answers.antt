-- `residual::Log::push_left` meets its contract. Assumes nothing.
use native.Mathlib.Omega.{arith}
use Rattle.residual.proofs.Pushes.{room_after}
use Rattle.residual.proofs.Log.push_left.Goals as goal

pub invariant_of-self : goal.invariant_of-self
invariant_of-self c = record { room = room_after _ _ _ _ _ _ c.push_left-self.ensures c.args.self.now.room (omega arith) }
