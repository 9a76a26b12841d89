-- The measures of the evaluator's cycle of calls: the depth falls with each node.
use Prim.Native.Nat.{◌+◌, ◌*◌}
use Rattle.evaluator.proofs.+branch_eval_kids_lazy_one_record_set_step_two.Given as goal

abbrev pub decreases-branch : goal.decreases-branch
decreases-branch l = l.depth * 65536 + 1

abbrev pub decreases-eval : goal.decreases-eval
decreases-eval l = l.depth * 65536

abbrev pub decreases-kids : goal.decreases-kids
decreases-kids l = l.depth * 65536 + l.most + 1

abbrev pub decreases-lazy : goal.decreases-lazy
decreases-lazy l = l.depth * 65536 + 1

abbrev pub decreases-one : goal.decreases-one
decreases-one l = l.depth * 65536 + 1

abbrev pub decreases-record : goal.decreases-record
decreases-record l = l.depth * 65536 + 16386

abbrev pub decreases-set : goal.decreases-set
decreases-set l = l.depth * 65536 + 16386

abbrev pub decreases-step : goal.decreases-step
decreases-step l = l.depth * 65536 + 16387

abbrev pub decreases-two : goal.decreases-two
decreases-two l = l.depth * 65536 + 1
