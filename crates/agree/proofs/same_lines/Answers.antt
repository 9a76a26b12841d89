-- `agree::same_lines` meets its contract. Assumes nothing.
use Rattle.agree.proofs.Alike.{match_short, match_off, match_on, match_end}
use borrow.Author.Rules.{rules}
use Rattle.agree.proofs.same_lines.Goals as goal

pub returns-then-i-m : goal.returns-then-i-m
returns-then-i-m c = search (match_short, rules)

pub returns-then-not-same_line : goal.returns-then-not-same_line
returns-then-not-same_line c = search (match_off, rules)

pub loop-i-preserved : goal.loop-i-preserved
loop-i-preserved c = search (match_on, rules)

pub returns : goal.returns
returns c = search (match_end, rules)
