-- `walk::walk_chained` meets its contract. Assumes nothing.
use native.Mathlib.Omega.{arith}
use Rattle.reach.specs.Marks.{VALUES}
use Rattle.notes.specs.Chains.{TEXTS}
use Rattle.notes.proofs.Noting.{noted_none}
use Rattle.notes.proofs.Chaining.{clear_none}
use borrow.Author.Rules.{rules}
use Rattle.walk.proofs.walk_chained.Goals as goal

pub index-requires : goal.index-requires
index-requires c = clear_none TEXTS

pub invariant_of-chains : goal.invariant_of-chains
invariant_of-chains c = record { first = c.index.ensures.first; next = λ j. c.index.ensures.next j (omega arith) }

pub walk_noted-requires : goal.walk_noted-requires
walk_noted-requires c = record { first_in_bounds = search rules; noted = noted_none _ _ VALUES; firsts = search rules }
