-- `carried::field_words` meets its contract. Assumes nothing.
use Rattle.carried.specs.Carry.{number_there}
use Rattle.carried.proofs.Carrying.{Fields}
use Rattle.carried.proofs.field_words.Given as goal

abbrev pub invariant-loop-pair : goal.invariant-loop-pair
invariant-loop-pair l = Fields l.pairs (number_there l.numbers.given l.numbers.noted.now) l.log l.end l.pair-index
