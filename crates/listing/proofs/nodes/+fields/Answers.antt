-- `listing::nodes::fields` meets its contract. Assumes nothing.
use Rattle.listing.proofs.NodeLines.{fields_few, fields_none, fields_more}
use borrow.Author.Rules.{rules}
use Rattle.listing.proofs.nodes.+fields.Goals as goal

pub returns-then-i-lt2 : goal.returns-then-i-lt2
returns-then-i-lt2 t c = search (fields_few, rules)

pub returns-then-end-start : goal.returns-then-end-start
returns-then-end-start t c = search (fields_none, rules)

pub returns : goal.returns
returns t c = search (fields_more, rules)
