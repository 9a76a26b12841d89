-- `listing::values::made_values` meets its contract. Assumes nothing.
use mathlib.Core.Path.{refl}
use Rattle.listing.specs.Values.{made_lines}
use Rattle.listing.proofs.Printing.{printing_start}
use Rattle.listing.proofs.Made.{made_on, made_end}
use borrow.Author.Rules.{rules}
use Rattle.listing.proofs.values.made_values.Goals as goal

pub loop-i-init : goal.loop-i-init
unfolding made_lines
loop-i-init c = printing_start _ _ c.args.out.now refl

pub loop-i-preserved : goal.loop-i-preserved
loop-i-preserved c = search (made_on, rules)

pub returns : goal.returns
returns c = search (made_end, rules)
