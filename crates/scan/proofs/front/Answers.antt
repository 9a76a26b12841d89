-- `scan::front` meets its contract. Assumes nothing.
use Rattle.scan.proofs.Scans.{front_is, front_all}
use Rattle.std.proofs.Common.{rules}
use Rattle.scan.proofs.front.Goals as goal

pub returns-then-end-bytes : goal.returns-then-end-bytes
returns-then-end-bytes c = front_is c.args.bytes.now c.args.end

pub returns : goal.returns
returns c = search (front_all, rules)
