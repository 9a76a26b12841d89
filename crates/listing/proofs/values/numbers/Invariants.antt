use lib.ListN.{drop}
use Rattle.listing.specs.Values.{after}
use Rattle.listing.proofs.Printing.{Printing}
use Rattle.sheet.specs.Answer.{numbers}
use Rattle.listing.proofs.values.numbers.Given as goal

abbrev pub invariant-loop-word : goal.invariant-loop-word
invariant-loop-word l = Printing (after (numbers l.words)) (after (numbers (drop l.word-index l.words))) l.initial.out l.out
