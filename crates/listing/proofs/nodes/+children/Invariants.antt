-- `listing::nodes::children` calls itself up to an earlier end.
use Rattle.listing.proofs.nodes.+children.Given as goal

abbrev pub decreases-children : goal.decreases-children
decreases-children l = l.end
