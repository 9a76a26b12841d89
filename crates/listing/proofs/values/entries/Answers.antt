-- `listing::values::entries` meets its contract. Assumes nothing.
use mathlib.Core.Path.{refl}
use mathlib.Core.List.{[], ◌∷◌, ◌++◌}
use Prim.Native.Nat.{◌/◌}
use lib.ListN.{length, get_or}
use Rattle.sheet.specs.Bytes.{digits}
use Rattle.print.proofs.Outs.{prints_as}
use Rattle.listing.proofs.Printing.{each_on, each_end}
use Rattle.listing.proofs.Made.{pairs_out, pairs_law}
use mathlib.Core.Path.{ap, ◌∙◌}
use Rattle.listing.proofs.values.entries.Goals as goal

pub loop-pair-preserved : goal.loop-pair-preserved
loop-pair-preserved c = each_on pairs_out _ _ c.loop-pair.invariant (λ q. (44 ∷ digits (get_or q 0 0)) ++ (44 ∷ digits (get_or q 1 0))) (λ q m. refl) [] c.loop-pair-test.true c.entry.ensures

pub returns : goal.returns
returns c = let l = c.args.words.now in prints_as (each_end pairs_out _ _ c.loop-pair.invariant refl c.loop-pair-test.false) (ap pairs_out c.as_chunks.ensures.front ∙ pairs_law (length l / 2) l refl)
