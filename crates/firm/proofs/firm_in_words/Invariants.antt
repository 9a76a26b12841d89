-- `firm::firm_in_words` meets its contract. Assumes nothing.
use mathlib.Core.Path.{◌≡◌}
use lib.ListN.{length}
use Rattle.firm.specs.Words.{rows_of_words}
use Rattle.firm.proofs.Quoting.{checking, Checking}
use Rattle.firm.proofs.Wording.{Wording}
use Rattle.firm.proofs.firm_in_words.Given as goal

abbrev pub invariant-loop-i : goal.invariant-loop-i
invariant-loop-i l = Checking l.work1 (rows_of_words l.words) (checking l.work1 0 (rows_of_words l.words) l.initial.f) l.f l.i

abbrev pub invariant-loop-j : goal.invariant-loop-j
invariant-loop-j l = (length l.own ≡ 16384) × Wording l.sheet l.initial.words l.work1 l.initial.work2 l.initial.f l.words l.work2 l.f l.j
