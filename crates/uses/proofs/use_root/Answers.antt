-- `uses::use_root` meets its contract. Assumes nothing.
use Rattle.uses.proofs.UseLaws.{use_neither, use_rootless, use_root_law}
use borrow.Author.Rules.{rules}
use Rattle.uses.proofs.use_root.Goals as goal

pub returns-then-key-ne-POLICY : goal.returns-then-key-ne-POLICY
returns-then-key-ne-POLICY c = search (use_neither, rules)

pub returns-then-line-lt4 : goal.returns-then-line-lt4
returns-then-line-lt4 c = search (use_rootless, rules)

pub returns : goal.returns
returns c = use_root_law _ _ c.requires.0 c.if-key-ne-POLICY.false _ _ c.if-line-lt4.false _ c.item.ensures _ _ c.use_node.ensures
