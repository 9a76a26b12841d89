-- `sent::send_complete` meets its contract. Assumes nothing.
use mathlib.Core.Path.{ap}
use native.Mathlib.Omega.{arith}
use Rattle.sheet.specs.Why.{Name}
use Rattle.table.specs.Layout.{RUN}
use Rattle.response.proofs.Sending.{sends_as, print_whole, send_short, send_whole}
use Rattle.response.specs.Naming.{name_of}
use Rattle.response.specs.Printed.{complete_bytes}
use Rattle.response.proofs.Lengths.{complete_within, complete_counted}
use Rattle.sent.proofs.send_complete.Goals as goal

pub returns-then-out-count : goal.returns-then-out-count
returns-then-out-count c = let s = c in
    let a = s.args.rows.now in
    let cs = s.args.classes.now in
    let y = c.why-why in
    let name = name_of a y.result in
    let w = c.print_complete-n in
    sends_as (ap (λ (n : Name). complete_bytes n a cs) y.ensures) (print_whole (complete_bytes name a cs) s.args.out.now w.new.buffer w.result w.ensures (omega (arith, complete_within name a cs, c.count.ensures, c.if-out-count.true)))

pub returns-then-out-k : goal.returns-then-out-k
returns-then-out-k c = let s = c in
    let a = s.args.rows.now in
    let cs = s.args.classes.now in
    let y = c.why-why in
    let name = name_of a y.result in
    let w = c.print_complete-k in
    sends_as (ap (λ (n : Name). complete_bytes n a cs) y.ensures) (send_short (complete_bytes name a cs) s.args.out.now w.new.buffer w.result w.ensures (complete_counted name a cs (c.shared_slice_known-1.given RUN).fits) c.if-out-k.true)

pub returns : goal.returns
returns c = let s = c in
    let a = s.args.rows.now in
    let cs = s.args.classes.now in
    let y = c.why-why in
    let name = name_of a y.result in
    let w = c.print_complete-k in
    let v = c.print_complete in
    sends_as (ap (λ (n : Name). complete_bytes n a cs) y.ensures) (send_whole (complete_bytes name a cs) s.args.out.now w.new.buffer w.result w.ensures (complete_counted name a cs (c.shared_slice_known-1.given RUN).fits) v.new.buffer v.result c.if-out-k.false v.ensures)
