use lib.ListN.{drop}
use Rattle.listing.proofs.Printing.{Printing}
use Rattle.listing.proofs.Made.{pairs_out}
use Rattle.listing.proofs.values.entries.Given as goal

abbrev pub invariant-loop-pair : goal.invariant-loop-pair
invariant-loop-pair l = Printing (pairs_out l.pairs) (pairs_out (drop l.pair-index l.pairs)) l.initial.out l.out
