use lib.ListN.{drop}
use Rattle.listing.specs.Values.{after}
use Rattle.listing.specs.Nodes.{pieces}
use Rattle.listing.proofs.Printing.{Printing}
use Rattle.listing.proofs.nodes.pattern.Given as goal

abbrev pub invariant-loop-text : goal.invariant-loop-text
invariant-loop-text l = Printing (after (pieces l.words)) (after (pieces (drop l.text-index l.words))) l.initial.out l.out
