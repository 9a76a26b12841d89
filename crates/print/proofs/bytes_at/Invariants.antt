use Rattle.std.proofs.Common.{take}
use Rattle.print.specs.Written.{Written}
use Rattle.print.proofs.bytes_at.Given as goal

abbrev pub invariant-loop-b : goal.invariant-loop-b
invariant-loop-b l = Written l.initial.buffer l.at (take l.b-index l.text) l.buffer l.place
