-- `uses::use_nodes` meets its contract. Assumes nothing.
use Rattle.uses.proofs.UseLaws.{use_before}
use borrow.Author.Rules.{rules}
use Rattle.uses.proofs.use_nodes.Goals as goal

pub returns-then-tag-lt-AND : goal.returns-then-tag-lt-AND
returns-then-tag-lt-AND c = search (use_before, rules)

pub use_two-requires : goal.use_two-requires
use_two-requires c = c.is_on_two.ensures c.if-is_on_two.true
