-- `sent::send_partial` meets its contract. Assumes nothing.
use mathlib.Core.Path.{ap}
use Rattle.sheet.specs.Why.{Name}
use Rattle.table.specs.Layout.{RUN, MADE}
use Rattle.response.specs.Naming.{name_of}
use Rattle.response.specs.Printed.{partial_bytes}
use Rattle.response.proofs.Lengths.{partial_counted}
use Rattle.response.proofs.Sending.{sends_as, send_short, send_whole}
use Rattle.sent.proofs.send_partial.Goals as goal

pub returns-then-out-n : goal.returns-then-out-n
returns-then-out-n c = let s = c in
    let a = s.args.rows.now in
    let l = s.args.log.now in
    let cs = s.args.classes.now in
    let es = s.args.roots.now in
    let w = c.print_partial-n in
    let g = c.shared_slice_known-1 in
    let y = c.why-why in
    let name = name_of a y.result in
    sends_as (ap (λ (n : Name). partial_bytes n a l cs es) y.ensures) (send_short (partial_bytes name a l cs es) s.args.out.now w.new.buffer w.result w.ensures (partial_counted name a l cs es s.requires.0 s.requires.1 (g.given RUN).fits (g.given MADE).fits) c.if-out-n.true)

pub returns : goal.returns
returns c = let s = c in
    let a = s.args.rows.now in
    let l = s.args.log.now in
    let cs = s.args.classes.now in
    let es = s.args.roots.now in
    let w = c.print_partial-n in
    let g = c.shared_slice_known-1 in
    let y = c.why-why in
    let name = name_of a y.result in
    let v = c.print_partial in
    sends_as (ap (λ (n : Name). partial_bytes n a l cs es) y.ensures) (send_whole (partial_bytes name a l cs es) s.args.out.now w.new.buffer w.result w.ensures (partial_counted name a l cs es s.requires.0 s.requires.1 (g.given RUN).fits (g.given MADE).fits) v.new.buffer v.result c.if-out-n.false v.ensures)
