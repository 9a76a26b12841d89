-- `agree::entity_break` meets its contract. Assumes nothing.
use Rattle.agree.proofs.Merging.{break_start, break_off, break_on}
use borrow.Author.Rules.{rules}
use Rattle.agree.proofs.entity_break.Goals as goal

pub loop-i-init : goal.loop-i-init
loop-i-init c = search (break_start, rules)

pub returns-then-not-line_agrees : goal.returns-then-not-line_agrees
returns-then-not-line_agrees c = search (break_off, rules)

pub loop-i-preserved : goal.loop-i-preserved
loop-i-preserved c = search (break_on, rules)
