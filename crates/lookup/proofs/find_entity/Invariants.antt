-- `lookup::find_entity` meets its contract. Assumes nothing.
use Rattle.lookup.proofs.Finds.{Walking}
use Rattle.lookup.proofs.find_entity.Given as goal

abbrev pub invariant-loop-i : goal.invariant-loop-i
invariant-loop-i l = Walking l.rows l.kind l.text l.n l.i l.s
