-- `firsts::enter_all` meets its contract. Assumes nothing.
use Rattle.firsts.proofs.Leading.{entering_start, entering_near, entering_line, entering_on, entering_end}
use borrow.Author.Rules.{rules}
use Rattle.firsts.proofs.enter_all.Goals as goal

pub loop-i-init : goal.loop-i-init
loop-i-init c = search (entering_start, rules)

pub enter-requires : goal.enter-requires
enter-requires c =
    let h = c.loop-i-test.true in
    record {
      number_in_bounds = entering_near _ _ _ _ _ _ c.loop-i.invariant h;
      line_value = entering_line _ _ _ _ _ _ c.loop-i.invariant _ _ c.base_of-b.ensures c.read-end.ensures h _ c.cut.ensures;
      entered = c.loop-i.invariant.entered;
    }

pub loop-i-preserved : goal.loop-i-preserved
loop-i-preserved c = entering_on _ _ _ _ _ _ c.loop-i.invariant _ _ c.base_of-b.ensures c.read-end.ensures _ _ c.enter.ensures

pub returns : goal.returns
returns c = search (entering_end, rules)
