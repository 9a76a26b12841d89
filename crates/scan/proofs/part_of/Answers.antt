-- `scan::part_of` meets its contract. Assumes nothing.
use Rattle.std.proofs.Common.{arith, rules}
use Rattle.scan.proofs.Scans.{rest_part}
use Rattle.words.proofs.Stores.{part_none}
use Rattle.scan.proofs.part_of.Goals as goal

pub returns-then-end-bytes : goal.returns-then-end-bytes
returns-then-end-bytes c = let x = c.args in part_none x.bytes.now x.start x.end (omega arith)

pub returns : goal.returns
returns c = search (rest_part, rules)
