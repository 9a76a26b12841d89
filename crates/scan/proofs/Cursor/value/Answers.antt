-- `scan::Cursor::value` meets its contract. Assumes nothing.
use Rattle.scan.proofs.Scans.{value_none}
use Rattle.std.proofs.Common.{rules}
use Rattle.scan.proofs.Cursor.value.Goals as goal

pub returns-then-at-sheet : goal.returns-then-at-sheet
returns-then-at-sheet c = search (value_none, rules)
