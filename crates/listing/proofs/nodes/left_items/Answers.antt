-- `listing::nodes::left_items` meets its contract. Assumes nothing.
use Rattle.listing.proofs.NodeLines.{items_var, items_record, items_others}
use borrow.Author.Rules.{rules}
use Rattle.listing.proofs.nodes.left_items.Goals as goal

pub returns-in-23 : goal.returns-in-23
returns-in-23 c = search (items_var, rules)

pub returns-in-48 : goal.returns-in-48
returns-in-48 c = search (items_record, rules)

pub returns-in_default : goal.returns-in_default
returns-in_default c = search (items_others, rules)
