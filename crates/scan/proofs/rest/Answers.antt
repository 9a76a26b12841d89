-- `scan::rest` meets its contract. Assumes nothing.
use Rattle.scan.proofs.Scans.{rest_is, rest_none}
use Rattle.std.proofs.Common.{rules}
use Rattle.scan.proofs.rest.Goals as goal

pub returns-then-start-bytes : goal.returns-then-start-bytes
returns-then-start-bytes c = rest_is c.args.bytes.now c.args.start

pub returns : goal.returns
returns c = search (rest_none, rules)
