-- `sent::fill_partial` meets its contract. Assumes nothing.
use mathlib.Core.Path.{ap}
use Rattle.sheet.specs.Why.{Name}
use Rattle.response.specs.Printed.{partial_bytes}
use Rattle.response.proofs.Sending.{print_whole}
use Rattle.print.proofs.Writing.{written_as}
use Rattle.response.specs.Naming.{why_in}
use Rattle.sent.proofs.fill_partial.Goals as goal

pub returns : goal.returns
returns c = let s = c in
    let a = s.args.rows.now in
    let l = s.args.log.now in
    let cs = s.args.classes.now in
    let es = s.args.roots.now in
    let y = c.why-why in
    let w = c.print_partial-n in
    print_whole (partial_bytes (why_in a cs) a l cs es) s.args.out.now w.new.buffer w.result (written_as w.ensures (ap (λ (n : Name). partial_bytes n a l cs es) y.ensures))
