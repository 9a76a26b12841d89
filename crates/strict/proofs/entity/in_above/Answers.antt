-- `strict::entity::in_above` meets its contract. Assumes nothing.
use Rattle.reach.specs.Marks.{VALUES, MARKS}
use Rattle.reach.proofs.Steps.{filled_new}
use borrow.Author.Rules.{rules}
use Rattle.strict.proofs.entity.in_above.Goals as goal

pub in_found-requires : goal.in_found-requires
in_found-requires c = record { in_bounds = search rules; filled = (filled_new VALUES 0, filled_new MARKS 0) }
