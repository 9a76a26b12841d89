-- `finish::answered` meets its contract. Assumes nothing.
use Rattle.finish.proofs.Finishing.{partial_refused, left_open, partial_passed}
use mathlib.Core.Path.{◌≡◌}
use native.Mathlib.Omega.{arith}
use borrow.Author.Rules.{rules}
use Rattle.faults.specs.Numbers.{number_of, line_of}
use Rattle.finish.proofs.answered.Goals as goal

pub returns-in-Err : goal.returns-in-Err
returns-in-Err c = search (partial_refused, rules)

pub completed-requires : goal.completed-requires
completed-requires c = let s = c in
    let o = c.open in
    let l = c.leave-n in
    let q = c.cut in
    let z : number_of o.result ≡ 0 = search rules in record {
      in_bounds = omega (arith, l.auto.log, o.auto.work, s.requires.1);
      left = left_open s.args.partial.now (number_of o.result) (line_of o.result) o.new.rows o.new.work l.new.rows l.new.residuals q.result.now l.result
          o.ensures z l.ensures q.ensures;
    }

pub returns : goal.returns
returns c = search (partial_passed, rules)
