-- `walk::walk_noted` meets its contract. Assumes nothing.
use lib.ListN.{drop}
use Rattle.walk.specs.Walks.{walk_from}
use Rattle.walk.proofs.Walking.{Stepping}
use Rattle.walk.proofs.walk_noted.Given as goal

abbrev pub invariant-loop-i : goal.invariant-loop-i
invariant-loop-i l = Stepping l.complete l.chains.rows.now (walk_from l.complete l.chains.rows.now l.value l.first (drop l.first l.path)) l.path l.spans l.cells l.n l.i
