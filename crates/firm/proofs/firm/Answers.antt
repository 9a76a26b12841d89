-- `firm::firm` meets its contract. Assumes nothing.
use Rattle.std.proofs.Common.{sym, ◌∙◌}
use Rattle.firm.proofs.Quoting.{checking_start, checking_on, deciding_start, decided_on, decided_all}
use Rattle.firm.proofs.firm.Goals as goal

pub loop-i-init : goal.loop-i-init
loop-i-init c = checking_start _ _ _

pub loop-i-preserved : goal.loop-i-preserved
loop-i-preserved c = checking_on _ _ _ _ _ c.loop-i.invariant _ _ c.loop-i-test.true c.check-f.ensures

pub loop-j-init : goal.loop-j-init
loop-j-init c = (sym c.row_words-own.ensures, deciding_start _ _ _ _ _)

pub loop-j-preserved : goal.loop-j-preserved
loop-j-preserved c =
    let g = c.begin-f in
    let k = c.loop-j in
    let s = c.single-r in (
      s.auto.own ∙ k.invariant.0,
      decided_on c.args.sheet.now c.args.rows.now c.args.work1.now c.args.work2.now g.new.work1 g.new.work2 g.result g.ensures g.auto.work1 g.auto.work2
          c.loop-i.f c.loop-i.i c.loop-i.invariant c.loop-i-test.false k.rows k.work2 k.f k.j k.invariant.1 _ c.loop-j-test.true s.result s.new.work2 s.auto.work2 s.ensures
          c.join-f.result c.join-f.ensures,
    )

pub returns : goal.returns
returns c =
    let g = c.begin-f in
    let k = c.loop-j in
    let e = c.finish in
    decided_all c.args.sheet.now c.args.rows.now c.args.work1.now c.args.work2.now g.new.work1 g.new.work2 g.result g.ensures g.auto.work1 g.auto.work2
    c.loop-i.f c.loop-i.i c.loop-i.invariant c.loop-i-test.false k.rows k.work2 k.f k.j k.invariant.1 c.loop-j-test.false e.result e.ensures.is e.new.work1 e.new.work2
    e.ensures.first e.ensures.second
