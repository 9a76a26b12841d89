-- `value::covers` meets its contract. Assumes nothing.
use lib.ListN.{length, drop}
use Rattle.cedar.specs.Numbered.{all_n}
use Rattle.value.proofs.Lists.{Seeking}
use Rattle.value.proofs.covers.Given as goal

abbrev pub invariant-loop-v : goal.invariant-loop-v
invariant-loop-v l = Seeking (all_n l.words l.among) (all_n (drop l.v-index l.words) l.among) l.among l.u l.j l.v-index (length l.words)
