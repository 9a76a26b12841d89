-- `firm::firm` meets its contract. Assumes nothing.
use Rattle.std.proofs.Common.{◌≡◌, length}
use Rattle.firm.proofs.Quoting.{checking, Checking, Deciding}
use Rattle.firm.proofs.firm.Given as goal

abbrev pub invariant-loop-i : goal.invariant-loop-i
invariant-loop-i l = Checking l.work1 l.rows (checking l.work1 0 l.rows l.initial.f) l.f l.i

abbrev pub invariant-loop-j : goal.invariant-loop-j
invariant-loop-j l = (length l.own ≡ 16384) × Deciding l.sheet l.initial.rows l.work1 l.initial.work2 l.initial.f l.rows l.work2 l.f l.j
