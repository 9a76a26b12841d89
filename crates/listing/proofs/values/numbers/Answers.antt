-- `listing::values::numbers` meets its contract. Assumes nothing.
use mathlib.Core.Path.{refl}
use mathlib.Core.List.{List, ◌∷◌}
use Prim.Native.Nat.{ℕ}
use Rattle.sheet.specs.Bytes.{digits}
use Rattle.sheet.specs.Answer.{numbers}
use Rattle.listing.specs.Values.{after}
use Rattle.listing.proofs.Printing.{each_on}
use Rattle.listing.proofs.values.numbers.Goals as goal

pub loop-word-preserved : goal.loop-word-preserved
loop-word-preserved c = each_on (λ (m : List ℕ). after (numbers m)) c.args.words.now _ c.loop-word.invariant (λ x. 44 ∷ digits x) (λ x m. refl) 0 c.loop-word-test.true c.number_after.ensures
