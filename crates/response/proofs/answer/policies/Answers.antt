-- `response::answer::policies` meets its contract. Assumes nothing.
use mathlib.Core.Path.{refl}
use Rattle.listing.proofs.Printing.{printing_start}
use Rattle.response.proofs.Printing.{policies_on, policies_end}
use Rattle.response.specs.Verdicts.{verdicts_in}
use Rattle.response.specs.Printed.{policy_lines}
use borrow.Author.Rules.{rules}
use Rattle.response.proofs.answer.policies.Goals as goal

pub loop-i-init : goal.loop-i-init
unfolding policy_lines verdicts_in
loop-i-init c = printing_start _ _ c.args.out.now refl

pub loop-i-preserved : goal.loop-i-preserved
loop-i-preserved c = search (policies_on, rules)

pub returns : goal.returns
returns c = search (policies_end, rules)
