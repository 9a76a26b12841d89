-- `listing::nodes::fields` calls itself on two words fewer.
use Rattle.listing.proofs.nodes.+fields.Given as goal

abbrev pub decreases-fields : goal.decreases-fields
decreases-fields l = l.i
