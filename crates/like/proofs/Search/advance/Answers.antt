-- `like::Search::advance` meets its contract. Assumes nothing.
use mathlib.Core.Path.{sym}
use Prim.Native.Nat.{◌≤◌}
use lib.ListN.{length}
use lib.Seq.{length-take-le}
use Rattle.table.specs.Layout.{text_at}
use Rattle.like.proofs.Joining.{inner_room, last_room, advance_long, advance_first, advance_last, advance_step}
use borrow.Author.Rules.{rules}
use Rattle.like.proofs.Search.advance.Goals as goal

pub slice_bounds-block-end : goal.slice_bounds-block-end
slice_bounds-block-end c = search (inner_room, rules)

pub slice_bounds-first-end : goal.slice_bounds-first-end
slice_bounds-first-end c = sym (length-take-le _ _ (search (inner_room, rules)))

pub slice_bounds-block-end-in-Last : goal.slice_bounds-block-end-in-Last
slice_bounds-block-end-in-Last c = search (last_room, rules)

pub slice_bounds-last-end : goal.slice_bounds-last-end
slice_bounds-last-end c = sym (length-take-le _ _ (search (last_room, rules)))

pub returns-then-self-le-BLOCK : goal.returns-then-self-le-BLOCK
returns-then-self-le-BLOCK c = let s = c.args.self.now in
    let j = c.join-joined in
    let l : 128 ≤ length j.new.block = search rules in
    advance_long (text_at s.glob.sheet.now s.glob.rows.now) s.glob.pattern.now s.glob.bytes.now s.from s.at s.item s.place j.new.block j.result j.ensures (search rules) l c.if-self-le-BLOCK.true

pub returns-in-Inner : goal.returns-in-Inner
returns-in-Inner c = search (advance_first, rules)

pub returns-in-Last : goal.returns-in-Last
returns-in-Last c = search (advance_last, rules)

pub returns-else-self-le-BLOCK : goal.returns-else-self-le-BLOCK
returns-else-self-le-BLOCK c = search (advance_step, rules)
