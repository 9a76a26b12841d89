-- `listing::nodes::pattern` meets its contract. Assumes nothing.
use mathlib.Core.Path.{refl}
use mathlib.Core.List.{List, ◌∷◌}
use Prim.Native.Nat.{ℕ}
use Rattle.sheet.specs.Answer.{item_out}
use Rattle.sheet.specs.Forms.{line_or, TEXT, asterisk}
use Rattle.listing.specs.Values.{after}
use Rattle.listing.specs.Nodes.{pieces}
use Rattle.listing.proofs.Printing.{each_on}
use Rattle.listing.proofs.nodes.pattern.Goals as goal

pub loop-text-preserved : goal.loop-text-preserved
loop-text-preserved c = each_on (λ (m : List ℕ). after (pieces m)) c.args.words.now _ c.loop-text.invariant (λ x. 44 ∷ item_out (line_or asterisk TEXT) x) (λ x m. refl) 0 c.loop-text-test.true c.piece.ensures
