-- `args_fit`: what is left of the row decides.
use lib.ListN.{length}
use Rattle.typing.proofs.Rulings.{Args}
use Rattle.typing.proofs.nodes.args_fit.Given as goal

abbrev pub invariant-loop-rest : goal.invariant-loop-rest
invariant-loop-rest l = Args l.rows l.line l.ty l.rest

abbrev pub decreases-loop-rest : goal.decreases-loop-rest
decreases-loop-rest l = length l.rest
