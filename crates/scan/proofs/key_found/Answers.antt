-- `scan::key_found` meets its contract. Assumes nothing.
use Rattle.std.proofs.Common.{rules}
use Rattle.scan.proofs.Starts.{heading_read, key_none, key_keyed, key_unkeyed}
use Rattle.scan.proofs.key_found.Goals as goal

pub returns-then-n-bytes : goal.returns-then-n-bytes
returns-then-n-bytes c = heading_read _ _ (search (key_none, rules))

pub returns-in_err-key : goal.returns-in_err-key
returns-in_err-key c = heading_read _ _ (search (key_unkeyed, rules))

pub returns : goal.returns
returns c = heading_read _ _ (key_keyed _ _ c.find-n.ensures _ c.front.ensures _ c.key_of.ensures c.if-n-bytes.false _ c.in_ok-key.was)
