-- `testload::load` meets its contract. Assumes nothing.
use Rattle.std.proofs.Common.{◌++◌}
use Rattle.drawn.specs.TestLoad.{load}
use Rattle.print.proofs.Sending.{send_short, send_whole}
use Rattle.testload.proofs.Calling.{counted, load_none, load_many, load_sent}
use Rattle.testload.proofs.load.Goals.{then-policies-lt1-via-then-policies-lt1, then-policies-lt1-via-else-policies-lt1+then-policies-gt-MOST}
use Rattle.testload.proofs.load.Goals as goal

pub returns-then-policies-lt1 : goal.returns-then-policies-lt1
returns-then-policies-lt1 c = let x = c.args in
    rw c.from.ensures
    (elim c.then-policies-lt1.branch [
      | then-policies-lt1-via-then-policies-lt1 w ↦ load_none x.seed x.policies x.out.now w.if-policies-lt1.true
      | then-policies-lt1-via-else-policies-lt1+then-policies-gt-MOST w ↦ load_many x.seed x.policies x.out.now w.if-policies-gt-MOST.true
    ])

pub returns-then-out-n : goal.returns-then-out-n
returns-then-out-n c = let x = c.args in
    let g = c.if-policies-gt-MOST.false in
    let w = c.sheet-n in
    rw c.from-then-out-n.ensures
    (load_sent x.seed x.policies x.out.now 10 w.result (w.new.buffer ++ x.out.now) c.if-policies-lt1.false g
    (send_short (load x.seed x.policies) x.out.now w.new.buffer w.result w.ensures (counted x.seed x.policies g) c.if-out-n.true))

pub returns : goal.returns
returns c = let x = c.args in
    let g = c.if-policies-gt-MOST.false in
    let w = c.sheet-n in
    let v = c.sheet in
    load_sent x.seed x.policies x.out.now 0 w.result v.new.buffer c.if-policies-lt1.false g
    (send_whole (load x.seed x.policies) x.out.now w.new.buffer w.result w.ensures (counted x.seed x.policies g) v.new.buffer v.result c.if-out-n.false v.ensures)
