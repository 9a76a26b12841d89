-- `evaluator::run` meets its contract. Assumes nothing.
use mathlib.Core.Path.{◌∙◌}
use Rattle.evaluator.proofs.Kept.{eval_clear}
use Rattle.evaluator.proofs.Ways.{run_start, run_more, run_end}
use native.Mathlib.Omega.{arith}
use borrow.Author.Rules.{rules}
use Rattle.evaluator.proofs.run.Goals as goal

pub loop-i-init : goal.loop-i-init
loop-i-init c = (search (run_start, rules), search rules, search rules, search rules)

pub loop-i-preserved : goal.loop-i-preserved
loop-i-preserved c = (
  run_more _ _ _ _ _ _ _ c.loop-i.invariant.0 _ _ _ _ _ _ _ _ _ _ _ (omega arith) c.row-policy.ensures c.item-root.ensures c.item.ensures c.item-in-loop-i.ensures c.eval-yielded.ensures c.eval-yielded.auto.log c.class_of.ensures c.into.ensures c.push-end.ensures,
  c.eval-yielded.auto.rows ∙ c.loop-i.invariant.1,
  c.push-end.auto.words ∙ c.eval-yielded.auto.log ∙ c.loop-i.invariant.2,
  eval_clear _ _ _ _ _ _ _ _ _ _ _ _ _ c.loop-i.invariant.3 c.eval-yielded.ensures,
)

pub returns : goal.returns
returns c = run_end _ _ _ _ _ _ _ c.loop-i.invariant.0 (omega arith)
