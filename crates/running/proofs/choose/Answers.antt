-- `running::choose` meets its contract. Assumes nothing.
use mathlib.Core.Logic.{⊎_elim}
use Rattle.std.proofs.lemmas.Bool.{cases_Bool}
use native.Mathlib.Omega.{arith}
use Rattle.running.proofs.Runs.{choose_start, choose_end, choose_skip, choose_run, runnable}
use borrow.Author.Rules.{rules}
use Rattle.running.proofs.choose.Goals as goal

pub loop-i-init : goal.loop-i-init
loop-i-init c = search (choose_start, rules)

pub run_row-requires : goal.run_row-requires
run_row-requires c = search (runnable, rules)

pub loop-i-preserved : goal.loop-i-preserved
loop-i-preserved c =
    let run = choose_run c.requires c.count-i-end.ensures c.loop-i.invariant c.loop-i-test.true c.runs_on.ensures {w' = _} in
    let skip = choose_skip c.requires c.count-i-end.ensures c.loop-i.invariant c.loop-i-test.true c.runs_on.ensures {w' = _} in
    ⊎_elim (λ e. run e (grind arith)) (λ e. skip e (grind arith)) (cases_Bool c.runs_on.result)

pub returns : goal.returns
returns c = choose_end c.requires c.count-i-end.ensures c.loop-i.invariant c.loop-i-test.false
