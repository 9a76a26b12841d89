-- `walk::walk_firsts` meets its contract. Assumes nothing.
use Rattle.walk.specs.Walks.{walk_from}
use Rattle.walk.proofs.Walking.{Following}
use Rattle.walk.proofs.walk_firsts.Given as goal

abbrev pub invariant-loop-i : goal.invariant-loop-i
invariant-loop-i l = Following l.complete l.rows (walk_from l.complete l.rows l.value 0 l.path) l.path l.cells l.n l.i
