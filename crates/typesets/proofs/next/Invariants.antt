-- `next`: nothing before is a member.
use Rattle.typesets.proofs.FirstBit.{Looked}
use Rattle.typesets.proofs.next.Given as goal

abbrev pub invariant-loop-w : goal.invariant-loop-w
invariant-loop-w l = Looked l.set l.number l.w
