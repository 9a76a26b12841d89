-- `scan::place` meets its contract. Assumes nothing.
use Rattle.std.proofs.Common.{rules}
use Rattle.scan.proofs.Wordlists.{searching_start, searching_hit, searching_on, searching_end}
use Rattle.scan.proofs.place.Goals as goal

pub loop-word-init : goal.loop-word-init
loop-word-init c = search (searching_start, rules)

pub returns-then-eq : goal.returns-then-eq
returns-then-eq c = search (searching_hit, rules)

pub returns-then-e-list : goal.returns-then-e-list
returns-then-e-list c = search (searching_end, rules)

pub loop-word-preserved : goal.loop-word-preserved
loop-word-preserved c = search (searching_on, rules)
