-- `line::node_head` meets its contract. Assumes nothing.
use Rattle.std.proofs.Common.{refl}
use native.Mathlib.Omega.{arith}
use Rattle.line.proofs.LawsValue.{node_untyped, node_alone, node_none, node_head_law}
use Rattle.line.proofs.node_head.Goals as goal

pub returns-in_err-first : goal.returns-in_err-first
returns-in_err-first c = rw c.from_residual.ensures (node_untyped c.args.bytes.now c.args.cursor c.requires.0 c.number.result c.number.ensures c.in_err-first.was, refl)

pub returns-in_err-end : goal.returns-in_err-end
returns-in_err-end c = rw c.from_residual-in_err-end.ensures (node_alone c.args.bytes.now c.args.cursor c.requires.0 c.number.result c.number.ensures c.in_ok-first.first c.in_ok-first.typed c.in_ok-first.was c.item.result c.item.ensures c.in_err-end.was, refl)

pub returns-in_err-tag : goal.returns-in_err-tag
returns-in_err-tag c = rw c.from_residual-in_err-tag.ensures (node_none c.args.bytes.now c.args.cursor c.requires.0 c.number.result c.number.ensures c.in_ok-first.first c.in_ok-first.typed c.in_ok-first.was c.item.result c.item.ensures c.in_ok-end.end c.in_ok-end.items c.in_ok-end.was c.part_of.result.now c.part_of.ensures c.in_err-tag.ensures, refl)

pub returns : goal.returns
returns c = node_head_law c.args.bytes.now c.args.cursor c.requires.0 c.number.result c.number.ensures c.in_ok-first.first c.in_ok-first.typed c.in_ok-first.was c.item.result c.item.ensures c.in_ok-end.end c.in_ok-end.items c.in_ok-end.was c.part_of.result.now c.part_of.ensures _ c.in_ok-tag.ensures c.args.top c.args.rows.now (omega arith) (omega arith)
