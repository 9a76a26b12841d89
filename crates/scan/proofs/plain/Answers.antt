-- `scan::plain` meets its contract. Assumes nothing.
use Rattle.scan.proofs.Scans.{plain_low, plain_high}
use Rattle.std.proofs.Common.{rules}
use Rattle.scan.proofs.plain.Goals as goal

pub returns-then-byte-lt32 : goal.returns-then-byte-lt32
returns-then-byte-lt32 c = search (plain_low, rules)

pub returns : goal.returns
returns c = search (plain_high, rules)
