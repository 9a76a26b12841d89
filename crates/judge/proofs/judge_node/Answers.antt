-- `judge::judge_node` meets its contract. Assumes nothing.
use mathlib.Core.Path.{refl, sym, ap}
use native.Mathlib.Omega.{arith}
use mathlib.Core.Bool.{not}
use lib.ListN.{take}
use Rattle.words.specs.Log.{room}
use Rattle.sheet.specs.Forms.{NODE}
use Rattle.judge.proofs.Judging.{depth_low, typed_node, depth_node, marked_node, front_long, known_front, order_front, judged_3, judged_4, judged_5, judged_6, judged_7, judged_8, judged_0}
use Rattle.judge.proofs.judge_node.Goals as goal

pub slice_bounds-rows-end : goal.slice_bounds-rows-end
slice_bounds-rows-end c = let s = c in front_long s.args.rows.now s.requires.line_value.1

pub slice_bounds-work-end-2 : goal.slice_bounds-work-end-2
slice_bounds-work-end-2 c = let s = c in front_long s.args.work.now s.requires.line_value.2

pub in_turn-requires : goal.in_turn-requires
in_turn-requires c = let s = c in
    (omega arith, order_front s.args.sheet.now s.args.rows.now s.args.work.now s.args.line.now s.requires.line_value.1 s.requires.line_value.2 s.args.last s.requires.line_value.3)

pub returns-then-not-in_turn : goal.returns-then-not-in_turn
returns-then-not-in_turn c = let s = c in
    let z = c.args in
    let o = c.in_turn in
    judged_3 z.sheet.now z.rows.now z.work.now z.line.now s.requires.line_value.1 s.requires.line_value.2 s.requires.known.0 NODE (sym s.requires.line_value.0) o.result o.ensures
    (ap not c.if-not-in_turn.true) 3 0 0 refl

pub returns-then-nodes_full : goal.returns-then-nodes_full
returns-then-nodes_full c = let s = c in
    let z = c.args in
    let o = c.in_turn in
    let u = c.nodes_full in
    judged_4 z.sheet.now z.rows.now z.work.now z.line.now s.requires.line_value.1 s.requires.line_value.2 s.requires.known.0 NODE (sym s.requires.line_value.0) o.result o.ensures
    (ap not c.if-not-in_turn.false) u.result (u.ensures z.line.now) c.if-nodes_full.true 4 0 0 refl

pub returns-in_default : goal.returns-in_default
returns-in_default c = let s = c in
    let z = c.args in
    let o = c.in_turn in
    let u = c.nodes_full in
    judged_5 z.sheet.now z.rows.now z.work.now z.line.now s.requires.line_value.1 s.requires.line_value.2 s.requires.known.0 NODE (sym s.requires.line_value.0) o.result o.ensures
    (ap not c.if-not-in_turn.false) u.result (u.ensures z.line.now) c.if-nodes_full.false (depth_node z.sheet.now (take room z.rows.now) (take room z.work.now) z.line.now _ s.requires.line_value.0 c.in_default.ensures) 5 0 0 refl

pub returns-then-is_too_deep : goal.returns-then-is_too_deep
returns-then-is_too_deep c = let s = c in
    let z = c.args in
    let o = c.in_turn in
    let u = c.nodes_full in
    let q = c.is_too_deep in
    judged_6 z.sheet.now z.rows.now z.work.now z.line.now s.requires.line_value.1 s.requires.line_value.2 s.requires.known.0 NODE (sym s.requires.line_value.0) o.result o.ensures
    (ap not c.if-not-in_turn.false) u.result (u.ensures z.line.now) c.if-nodes_full.false c.in-Some.depth (depth_node z.sheet.now (take room z.rows.now) (take room z.work.now) z.line.now _ s.requires.line_value.0 c.in-Some.ensures) q.result q.ensures c.if-is_too_deep.true 6 0 0 refl

pub node_typed-requires : goal.node_typed-requires
node_typed-requires c = let s = c in known_front s.args.sheet.now s.args.rows.now s.args.work.now s.args.line.now s.requires.line_value.1 s.requires.line_value.2 s.requires.known.0

pub returns-then-not-node_typed : goal.returns-then-not-node_typed
returns-then-not-node_typed c = let s = c in
    let z = c.args in
    let o = c.in_turn in
    let u = c.nodes_full in
    let q = c.is_too_deep in
    let y = c.node_typed in
    judged_7 z.sheet.now z.rows.now z.work.now z.line.now s.requires.line_value.1 s.requires.line_value.2 s.requires.known.0 NODE (sym s.requires.line_value.0) o.result o.ensures
    (ap not c.if-not-in_turn.false) u.result (u.ensures z.line.now) c.if-nodes_full.false c.in-Some.depth (depth_node z.sheet.now (take room z.rows.now) (take room z.work.now) z.line.now _ s.requires.line_value.0 c.in-Some.ensures) q.result q.ensures c.if-is_too_deep.false y.new.work y.result (typed_node (take room z.rows.now) (take room z.work.now) y.new.work z.line.now y.result y.ensures) (ap not c.if-not-node_typed.true) 7 0 0 refl

pub returns-then-use_nodes : goal.returns-then-use_nodes
returns-then-use_nodes c = let s = c in
    let z = c.args in
    let o = c.in_turn in
    let u = c.nodes_full in
    let q = c.is_too_deep in
    let y = c.node_typed in
    let x = c.use_nodes in
    judged_8 z.sheet.now z.rows.now z.work.now z.line.now s.requires.line_value.1 s.requires.line_value.2 s.requires.known.0 NODE (sym s.requires.line_value.0) o.result o.ensures
    (ap not c.if-not-in_turn.false) u.result (u.ensures z.line.now) c.if-nodes_full.false c.in-Some.depth (depth_node z.sheet.now (take room z.rows.now) (take room z.work.now) z.line.now _ s.requires.line_value.0 c.in-Some.ensures) q.result q.ensures c.if-is_too_deep.false y.new.work y.result (typed_node (take room z.rows.now) (take room z.work.now) y.new.work z.line.now y.result y.ensures) (ap not c.if-not-node_typed.false) x.new.work x.result (marked_node (take room z.rows.now) y.new.work z.line.now x.new.work x.result s.requires.line_value.0 x.ensures) c.if-use_nodes.true 8 0 0 refl

pub overflow_cast-result : goal.overflow_cast-result
overflow_cast-result c = let q = c.is_too_deep in record { fits = depth_low c.in-Some.depth q.result q.ensures c.if-is_too_deep.false }

pub returns : goal.returns
returns c = let s = c in
    let z = c.args in
    let o = c.in_turn in
    let u = c.nodes_full in
    let q = c.is_too_deep in
    let y = c.node_typed in
    let x = c.use_nodes in
    judged_0 z.sheet.now z.rows.now z.work.now z.line.now s.requires.line_value.1 s.requires.line_value.2 s.requires.known.0 NODE (sym s.requires.line_value.0) o.result o.ensures
    (ap not c.if-not-in_turn.false) u.result (u.ensures z.line.now) c.if-nodes_full.false c.in-Some.depth (depth_node z.sheet.now (take room z.rows.now) (take room z.work.now) z.line.now _ s.requires.line_value.0 c.in-Some.ensures) q.result q.ensures c.if-is_too_deep.false y.new.work y.result (typed_node (take room z.rows.now) (take room z.work.now) y.new.work z.line.now y.result y.ensures) (ap not c.if-not-node_typed.false) x.new.work x.result (marked_node (take room z.rows.now) y.new.work z.line.now x.new.work x.result s.requires.line_value.0 x.ensures) c.if-use_nodes.false
