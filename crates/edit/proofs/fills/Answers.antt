-- `edit::fills` meets its contract. Assumes nothing.
use borrow.Author.Rules.{rules}
use Rattle.edit.proofs.Filling.{fills_two_lines, fills_old, fills_new, fills_so}
use Rattle.edit.proofs.fills.Goals as goal

pub returns-then-contains : goal.returns-then-contains
returns-then-contains c = fills_two_lines c.args.old.now c.args.new.now _ c.contains.ensures.value c.if-contains.true

pub returns-then-not-may_fill : goal.returns-then-not-may_fill
returns-then-not-may_fill c = search (fills_old, rules)

pub returns-then-not-may_fill-2 : goal.returns-then-not-may_fill-2
returns-then-not-may_fill-2 c = search (fills_new, rules)

pub returns : goal.returns
returns c = search (fills_so, rules)
