-- `value::making::paired` meets its contract. Assumes nothing.
use Rattle.value.proofs.Fills.{Pairing, text_at}
use Rattle.value.proofs.making.paired.Given as goal

abbrev pub invariant-loop-pair : goal.invariant-loop-pair
invariant-loop-pair l = Pairing l.line l.initial.log l.at l.start l.top l.log l.p (text_at l.pair-index) l.q
