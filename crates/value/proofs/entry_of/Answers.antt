-- `value::entry_of` meets its contract. Assumes nothing.
use mathlib.Core.Path.{refl, ap, ◌∙◌}
use mathlib.Core.List.{[]}
use Prim.Native.Nat.{◌/◌}
use lib.ListN.{length}
use Rattle.value.proofs.Lists.{entry_among, entry_end, entry_hit, entry_pairs}
use Rattle.value.proofs.entry_of.Goals as goal

pub returns-then-text-pair : goal.returns-then-text-pair
returns-then-text-pair c =
    let l = c.args.words.now in
    entry_hit _ _ _ c.loop-pair.invariant [] c.loop-pair-test.true c.if-text-pair.true ∙ ap (entry_among c.args.text) c.as_chunks.ensures.front ∙ entry_pairs c.args.text (length l / 2) l refl

pub returns : goal.returns
returns c =
    let l = c.args.words.now in
    entry_end _ _ _ c.loop-pair.invariant c.loop-pair-test.false ∙ ap (entry_among c.args.text) c.as_chunks.ensures.front ∙ entry_pairs c.args.text (length l / 2) l refl
