-- `seen::mixed_words` meets its contract. Assumes nothing.
use lib.ListN.{drop}
use Rattle.sheet.specs.Forms.{tag}
use Rattle.seen.specs.Seen.{mixed_on}
use Rattle.seen.proofs.SeenLaws.{Mixing}
use Rattle.seen.proofs.mixed_words.Given as goal

abbrev pub invariant-loop-i : goal.invariant-loop-i
invariant-loop-i l = Mixing (mixed_on (tag l.line) (drop 1 l.line)) l.line l.sum l.i
