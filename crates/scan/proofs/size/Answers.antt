-- `scan::size` meets its contract. Assumes nothing.
use Rattle.scan.proofs.Decimals.{size_empty, size_one, size_zero, size_more}
use Rattle.std.proofs.Common.{rules}
use Rattle.scan.proofs.size.Goals as goal

pub returns-then-bytes-eq0 : goal.returns-then-bytes-eq0
returns-then-bytes-eq0 c = search (size_empty, rules)

pub returns-then-bytes-eq1 : goal.returns-then-bytes-eq1
returns-then-bytes-eq1 c = search (size_one, rules)

pub returns-then-bytes-eq48 : goal.returns-then-bytes-eq48
returns-then-bytes-eq48 c = search (size_zero, rules)

pub returns : goal.returns
returns c = search (size_more, rules)
