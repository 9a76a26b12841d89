-- `value::meets` meets its contract. Assumes nothing.
use lib.ListN.{length, drop}
use Rattle.cedar.specs.Numbered.{any_n}
use Rattle.value.proofs.Lists.{Seeking}
use Rattle.value.proofs.meets.Given as goal

abbrev pub invariant-loop-v : goal.invariant-loop-v
invariant-loop-v l = Seeking (any_n l.words l.among) (any_n (drop l.v-index l.words) l.among) l.among l.u l.j l.v-index (length l.words)
