-- `depths::is_there` meets its contract. Assumes nothing.
use Rattle.depths.proofs.ThereLaws.{ref_none, ref_in, ref_out, ref_mark}
use borrow.Author.Rules.{rules}
use Rattle.depths.proofs.is_there.Goals as goal

pub returns-then-slot-lt-LINE : goal.returns-then-slot-lt-LINE
returns-then-slot-lt-LINE c = search (ref_none, rules)

pub returns-then-x-count : goal.returns-then-x-count
returns-then-x-count c = search (ref_in, rules)

pub returns-then-slot-ge-UNKNOWN : goal.returns-then-slot-ge-UNKNOWN
returns-then-slot-ge-UNKNOWN c = search (ref_mark, rules)

pub returns-else-slot-ge-UNKNOWN : goal.returns-else-slot-ge-UNKNOWN
returns-else-slot-ge-UNKNOWN c = search (ref_out, rules)
