-- `seen::mixed_bytes` meets its contract. Assumes nothing.
use Rattle.seen.specs.Seen.{mixed_on}
use Rattle.seen.proofs.SeenLaws.{Mixing}
use Rattle.seen.proofs.mixed_bytes.Given as goal

abbrev pub invariant-loop-byte : goal.invariant-loop-byte
invariant-loop-byte l = Mixing (mixed_on l.tag l.text) l.text l.sum l.byte-index
