-- `agree::any_unlisted` meets its contract. Assumes nothing.
use Rattle.agree.proofs.Merging.{list_start, list_off, list_on}
use borrow.Author.Rules.{rules}
use Rattle.agree.proofs.any_unlisted.Goals as goal

pub loop-i-init : goal.loop-i-init
loop-i-init c = search (list_start, rules)

pub returns-then-not-is_line_of : goal.returns-then-not-is_line_of
returns-then-not-is_line_of c = search (list_off, rules)

pub loop-i-preserved : goal.loop-i-preserved
loop-i-preserved c = search (list_on, rules)
