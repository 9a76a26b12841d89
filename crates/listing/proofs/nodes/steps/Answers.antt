-- `listing::nodes::steps` meets its contract. Assumes nothing.
use Rattle.listing.proofs.NodeLines.{steps_are}
use borrow.Author.Rules.{rules}
use Rattle.listing.proofs.nodes.steps.Goals as goal

pub returns : goal.returns
returns c = search (steps_are, rules)
