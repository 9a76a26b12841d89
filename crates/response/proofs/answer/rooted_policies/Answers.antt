-- `response::answer::rooted_policies` meets its contract. Assumes nothing.
use mathlib.Core.Path.{refl}
use Rattle.response.proofs.Rooted.{rooted_on, rooted_end}
use Rattle.listing.proofs.Printing.{printing_start}
use Rattle.response.specs.Printed.{rooted_lines}
use borrow.Author.Rules.{rules}
use Rattle.response.proofs.answer.rooted_policies.Goals as goal

pub loop-i-init : goal.loop-i-init
unfolding rooted_lines
loop-i-init c = printing_start _ _ c.args.out.now refl

pub loop-i-preserved : goal.loop-i-preserved
loop-i-preserved c = search (rooted_on, rules)

pub returns : goal.returns
returns c = search (rooted_end, rules)
