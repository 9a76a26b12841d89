-- `seen::mixed_bytes` meets its contract. Assumes nothing.
use Rattle.seen.proofs.SeenLaws.{mixing_bytes, mixing_on, mixing_end}
use borrow.Author.Rules.{rules}
use Rattle.seen.proofs.mixed_bytes.Goals as goal

pub loop-byte-init : goal.loop-byte-init
loop-byte-init c = search (mixing_bytes, rules)

pub loop-byte-preserved : goal.loop-byte-preserved
loop-byte-preserved c = search (mixing_on, rules)

pub returns : goal.returns
returns c = search (mixing_end, rules)
