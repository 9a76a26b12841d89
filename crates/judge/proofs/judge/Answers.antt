-- `judge::judge` meets its contract. Assumes nothing.
use mathlib.Core.Path.{refl, ap}
use mathlib.Core.Bool.{not}
use lib.ListN.{take}
use Rattle.words.specs.Log.{room}
use Rattle.judge.proofs.Judging.{depth_low, marked_other, key_in_table, key_of_line, front_long, known_front, noted_front, unlike_front, order_front, judged_3, judged_4, judged_5, judged_6, judged_7, judged_8, judged_0}
use Rattle.judge.proofs.judge.Goals as goal

pub slice_bounds-rows-end : goal.slice_bounds-rows-end
slice_bounds-rows-end c = let s = c in front_long s.args.rows.now s.requires.key_value.2

pub slice_bounds-work-end-2 : goal.slice_bounds-work-end-2
slice_bounds-work-end-2 c = let s = c in front_long s.args.work.now s.requires.key_value.3

pub in_turn-requires : goal.in_turn-requires
in_turn-requires c = let s = c in
    (key_in_table s.args.line.now s.args.key s.requires.key_value.0, order_front s.args.sheet.now s.args.rows.now s.args.work.now s.args.line.now s.requires.key_value.2 s.requires.key_value.3 s.args.last s.requires.key_value.4)

pub returns-then-not-in_turn : goal.returns-then-not-in_turn
returns-then-not-in_turn c = let s = c in
    let z = c.args in
    let o = c.in_turn in
    judged_3 z.sheet.now z.rows.now z.work.now z.line.now s.requires.key_value.2 s.requires.key_value.3 s.requires.known.0 s.args.key s.requires.key_value.0 o.result o.ensures
    (ap not c.if-not-in_turn.true) 3 0 0 refl

pub too_many-requires : goal.too_many-requires
too_many-requires c = let s = c in noted_front s.args.sheet.now s.args.rows.now s.args.work.now s.args.line.now s.requires.key_value.2 s.requires.key_value.3 s.requires.known.1

pub returns-then-too_many : goal.returns-then-too_many
returns-then-too_many c = let s = c in
    let z = c.args in
    let o = c.in_turn in
    let u = c.too_many in
    judged_4 z.sheet.now z.rows.now z.work.now z.line.now s.requires.key_value.2 s.requires.key_value.3 s.requires.known.0 s.args.key s.requires.key_value.0 o.result o.ensures
    (ap not c.if-not-in_turn.false) u.result u.ensures c.if-too_many.true 4 0 0 refl

pub depth_of-requires : goal.depth_of-requires
depth_of-requires c = let s = c in
    let z = s.args in
    let u = c.too_many in record {
      key_value = (s.requires.key_value.0, key_of_line (take room z.rows.now) z.key z.line.now u.result u.ensures c.if-too_many.false);
      noted = (noted_front z.sheet.now z.rows.now z.work.now z.line.now s.requires.key_value.2 s.requires.key_value.3 s.requires.known.1, unlike_front z.sheet.now z.rows.now z.work.now z.line.now s.requires.key_value.2 s.requires.key_value.3 z.new s.requires.known.2);
    }

pub returns-in_default : goal.returns-in_default
returns-in_default c = let s = c in
    let z = c.args in
    let o = c.in_turn in
    let u = c.too_many in
    judged_5 z.sheet.now z.rows.now z.work.now z.line.now s.requires.key_value.2 s.requires.key_value.3 s.requires.known.0 s.args.key s.requires.key_value.0 o.result o.ensures
    (ap not c.if-not-in_turn.false) u.result u.ensures c.if-too_many.false c.in_default.ensures 5 0 0 refl

pub returns-then-is_too_deep : goal.returns-then-is_too_deep
returns-then-is_too_deep c = let s = c in
    let z = c.args in
    let o = c.in_turn in
    let u = c.too_many in
    let q = c.is_too_deep in
    judged_6 z.sheet.now z.rows.now z.work.now z.line.now s.requires.key_value.2 s.requires.key_value.3 s.requires.known.0 s.args.key s.requires.key_value.0 o.result o.ensures
    (ap not c.if-not-in_turn.false) u.result u.ensures c.if-too_many.false c.in-Some.depth c.in-Some.ensures q.result q.ensures c.if-is_too_deep.true 6 0 0 refl

pub typed_line-requires : goal.typed_line-requires
typed_line-requires c = let s = c in known_front s.args.sheet.now s.args.rows.now s.args.work.now s.args.line.now s.requires.key_value.2 s.requires.key_value.3 s.requires.known.0

pub returns-then-not-typed_line : goal.returns-then-not-typed_line
returns-then-not-typed_line c = let s = c in
    let z = c.args in
    let o = c.in_turn in
    let u = c.too_many in
    let q = c.is_too_deep in
    let y = c.typed_line in
    judged_7 z.sheet.now z.rows.now z.work.now z.line.now s.requires.key_value.2 s.requires.key_value.3 s.requires.known.0 s.args.key s.requires.key_value.0 o.result o.ensures
    (ap not c.if-not-in_turn.false) u.result u.ensures c.if-too_many.false c.in-Some.depth c.in-Some.ensures q.result q.ensures c.if-is_too_deep.false y.new.work y.result y.ensures (ap not c.if-not-typed_line.true) 7 0 0 refl

pub use_root-requires : goal.use_root-requires
use_root-requires c = let s = c in (s.requires.key_value.0, s.requires.key_value.1)

pub returns-then-use_root : goal.returns-then-use_root
returns-then-use_root c = let s = c in
    let z = c.args in
    let o = c.in_turn in
    let u = c.too_many in
    let q = c.is_too_deep in
    let y = c.typed_line in
    let x = c.use_root in
    judged_8 z.sheet.now z.rows.now z.work.now z.line.now s.requires.key_value.2 s.requires.key_value.3 s.requires.known.0 s.args.key s.requires.key_value.0 o.result o.ensures
    (ap not c.if-not-in_turn.false) u.result u.ensures c.if-too_many.false c.in-Some.depth c.in-Some.ensures q.result q.ensures c.if-is_too_deep.false y.new.work y.result y.ensures (ap not c.if-not-typed_line.false) x.new.work x.result (marked_other (take room z.rows.now) y.new.work z.line.now x.new.work x.result z.key s.requires.key_value.0 s.requires.key_value.1 x.ensures) c.if-use_root.true 8 0 0 refl

pub overflow_cast-result : goal.overflow_cast-result
overflow_cast-result c = let q = c.is_too_deep in record { fits = depth_low c.in-Some.depth q.result q.ensures c.if-is_too_deep.false }

pub returns : goal.returns
returns c = let s = c in
    let z = c.args in
    let o = c.in_turn in
    let u = c.too_many in
    let q = c.is_too_deep in
    let y = c.typed_line in
    let x = c.use_root in
    judged_0 z.sheet.now z.rows.now z.work.now z.line.now s.requires.key_value.2 s.requires.key_value.3 s.requires.known.0 s.args.key s.requires.key_value.0 o.result o.ensures
    (ap not c.if-not-in_turn.false) u.result u.ensures c.if-too_many.false c.in-Some.depth c.in-Some.ensures q.result q.ensures c.if-is_too_deep.false y.new.work y.result y.ensures (ap not c.if-not-typed_line.false) x.new.work x.result (marked_other (take room z.rows.now) y.new.work z.line.now x.new.work x.result z.key s.requires.key_value.0 s.requires.key_value.1 x.ensures) c.if-use_root.false
