-- The evaluator's cycle of calls meets its contracts: the depth falls with each node. Assumes nothing.
use Rattle.std.proofs.Common.{arith}
use Rattle.evaluator.proofs.Kept.{eval_clear}
use Rattle.evaluator.proofs.Ways.{eval_none, eval_step, if_false, if_other, if_true, kids_end, kids_error, kids_more, kids_none, lazy_made, lazy_other, lazy_right, more_room, one_error, one_on, same_room, record_error, record_made, set_error, set_made, step_and, step_err, step_if, step_lit, step_one, step_or, step_past, step_record, step_set, step_slot, step_two, step_var, two_error, two_on, two_right}
use Rattle.evaluator.proofs.+branch_eval_kids_lazy_one_record_set_step_two.Goals as goal

pub eval-returns-then-depth-eq0 : goal.eval-returns-then-depth-eq0
eval-returns-then-depth-eq0 t c = search eval_none

pub eval-returns : goal.eval-returns
eval-returns t c = search eval_step

pub kids-returns-then-most-eq0 : goal.kids-returns-then-most-eq0
kids-returns-then-most-eq0 t c = search kids_none

pub kids-returns-then-i-row : goal.kids-returns-then-i-row
kids-returns-then-i-row t c = search kids_end

pub step-returns-then-tag-lt-ERR : goal.step-returns-then-tag-lt-ERR
step-returns-then-tag-lt-ERR t c = search step_lit

pub step-returns-then-tag-lt-IF : goal.step-returns-then-tag-lt-IF
step-returns-then-tag-lt-IF t c = search step_two

pub step-returns-then-tag-lt-SET_OF : goal.step-returns-then-tag-lt-SET_OF
step-returns-then-tag-lt-SET_OF t c = search step_one

pub step-returns-in-22 : goal.step-returns-in-22
step-returns-in-22 t c = search step_err

pub step-returns-in-23 : goal.step-returns-in-23
step-returns-in-23 t c = search step_var

pub step-returns-in-24 : goal.step-returns-in-24
step-returns-in-24 t c = search step_and

pub step-returns-in-25 : goal.step-returns-in-25
step-returns-in-25 t c = search step_or

pub step-returns-in-38 : goal.step-returns-in-38
step-returns-in-38 t c = search step_if

pub step-returns-in-47 : goal.step-returns-in-47
step-returns-in-47 t c = search step_set

pub step-returns-in-48 : goal.step-returns-in-48
step-returns-in-48 t c = search step_record

pub step-returns-in-49 : goal.step-returns-in-49
step-returns-in-49 t c = search step_slot

pub step-returns-else-tag-lt-SET_OF : goal.step-returns-else-tag-lt-SET_OF
step-returns-else-tag-lt-SET_OF t c = search step_past

pub branch-returns-in_err-x : goal.branch-returns-in_err-x
branch-returns-in_err-x t c = if_other _ _ _ _ _ _ _ _ _ c.word_of.ensures _ _ _ c.eval-test.ensures _ c.truth_of.ensures _ c.ok_or.ensures.ok_part _ c.in_err-x.was _ c.from_residual.ensures.0

pub branch-eval-requires : goal.branch-eval-requires
branch-eval-requires t c = (omega arith, (same_room _ _ _ c.requires.room c.eval-test.auto.log, eval_clear _ _ _ _ _ _ _ _ _ _ _ _ _ c.requires.clear c.eval-test.ensures))

pub branch-eval-requires-2 : goal.branch-eval-requires-2
branch-eval-requires-2 t c = (omega arith, (same_room _ _ _ c.requires.room c.eval-test.auto.log, eval_clear _ _ _ _ _ _ _ _ _ _ _ _ _ c.requires.clear c.eval-test.ensures))

pub branch-returns-then-x : goal.branch-returns-then-x
branch-returns-then-x t c = if_true _ _ _ _ _ _ _ _ _ c.word_of.ensures _ _ _ c.eval-test.ensures _ c.truth_of.ensures _ c.ok_or.ensures.ok_part _ c.in_ok-x.was _ _ _ _ c.eval.ensures c.if-x.true c.word_of-then.ensures

pub branch-returns : goal.branch-returns
branch-returns t c = if_false _ _ _ _ _ _ _ _ _ c.word_of.ensures _ _ _ c.eval-test.ensures _ c.truth_of.ensures _ c.ok_or.ensures.ok_part _ c.in_ok-x.was _ _ _ _ c.eval-2.ensures c.if-x.false c.word_of-other.ensures

pub kids-returns-in_err-value : goal.kids-returns-in_err-value
kids-returns-in_err-value t c = kids_error _ _ _ _ _ _ _ _ _ _ _ c.requires.room c.if-most-eq0.false _ c.row.ensures c.if-i-row.false _ c.word_of.ensures _ _ _ c.eval.ensures _ c.in_err-value.was _ c.from_residual.ensures.0

pub kids-kids-requires : goal.kids-kids-requires
kids-kids-requires t c = (omega arith, (more_room _ _ _ _ _ _ c.requires.room c.eval.auto.log c.push_value-end.ensures, ((omega arith, omega arith), eval_clear _ _ _ _ _ _ _ _ _ _ _ _ _ c.requires.clear c.eval.ensures)))

pub kids-returns : goal.kids-returns
kids-returns t c = kids_more _ _ _ _ _ _ _ _ _ _ _ c.requires.room c.if-most-eq0.false _ c.row.ensures c.if-i-row.false _ c.word_of.ensures _ _ _ c.eval.ensures c.eval.auto.log _ _ _ c.in_ok-value.was c.push_value-end.ensures _ _ _ c.kids.ensures

pub lazy-returns-in_err-x : goal.lazy-returns-in_err-x
lazy-returns-in_err-x t c = lazy_other _ _ _ _ _ _ _ _ _ c.word_of.ensures _ _ _ c.eval-left.ensures _ c.truth_of.ensures _ c.ok_or.ensures.ok_part _ _ c.in_err-x.was _ c.from_residual.ensures.0

pub lazy-make_bool_after-requires : goal.lazy-make_bool_after-requires
lazy-make_bool_after-requires t c = eval_clear _ _ _ _ _ _ _ _ _ _ _ _ _ c.requires.clear c.eval-left.ensures

pub lazy-returns-then-x-stop : goal.lazy-returns-then-x-stop
lazy-returns-then-x-stop t c = lazy_made _ _ _ _ _ _ _ _ _ c.word_of.ensures _ _ _ c.eval-left.ensures _ c.truth_of.ensures _ c.ok_or.ensures.ok_part _ c.in_ok-x.was _ _ _ c.if-x-stop.true c.make_bool_after.ensures

pub lazy-eval-r-requires : goal.lazy-eval-r-requires
lazy-eval-r-requires t c = (omega arith, (same_room _ _ _ c.requires.room c.eval-left.auto.log, eval_clear _ _ _ _ _ _ _ _ _ _ _ _ _ c.requires.clear c.eval-left.ensures))

pub lazy-returns : goal.lazy-returns
lazy-returns t c = lazy_right _ _ _ _ _ _ _ _ _ c.word_of.ensures _ _ _ c.eval-left.ensures _ c.truth_of.ensures _ c.ok_or.ensures.ok_part _ c.in_ok-x.was _ _ _ _ _ _ c.if-x-stop.false c.word_of-right.ensures c.eval-r.ensures c.only_bool.ensures

pub one-returns-in_err-value : goal.one-returns-in_err-value
one-returns-in_err-value t c = one_error _ _ _ _ _ _ _ _ _ c.word_of.ensures _ _ _ c.eval.ensures _ _ c.in_err-value.was _ c.from_residual.ensures.0

pub one-apply_one-requires-clause-clear : goal.one-apply_one-requires-clause-clear
one-apply_one-requires-clause-clear t c = eval_clear _ _ _ _ _ _ _ _ _ _ _ _ _ c.requires.clear c.eval.ensures

pub one-returns : goal.one-returns
one-returns t c = one_on _ _ _ _ _ _ _ _ _ c.word_of.ensures _ _ _ c.eval.ensures _ _ _ _ c.in_ok-value.was c.apply_one.ensures

pub record-returns-in_err-end : goal.record-returns-in_err-end
record-returns-in_err-end t c = record_error _ _ _ _ _ _ _ _ c.requires.room _ _ _ c.in_err-end.ensures _ c.from_residual.ensures.0

pub record-returns : goal.record-returns
record-returns t c = record_made _ _ _ _ _ _ _ _ c.requires.room _ _ c.kids.auto.log _ c.in_ok-end.ensures _ _ _ c.make_record.ensures

pub set-returns-in_err-end : goal.set-returns-in_err-end
set-returns-in_err-end t c = set_error _ _ _ _ _ _ _ _ c.requires.room _ _ _ c.in_err-end.ensures _ c.from_residual.ensures.0

pub set-returns : goal.set-returns
set-returns t c = set_made _ _ _ _ _ _ _ _ c.requires.room _ _ c.kids.auto.log _ c.in_ok-end.ensures _ _ _ c.make_set.ensures

pub two-returns-in_err-first : goal.two-returns-in_err-first
two-returns-in_err-first t c = two_error _ _ _ _ _ _ _ _ _ c.word_of.ensures _ _ _ c.eval.ensures _ _ c.in_err-first.was _ c.from_residual.ensures.0

pub two-eval-requires-2 : goal.two-eval-requires-2
two-eval-requires-2 t c = (omega arith, (same_room _ _ _ c.requires.room c.eval.auto.log, eval_clear _ _ _ _ _ _ _ _ _ _ _ _ _ c.requires.clear c.eval.ensures))

pub two-returns-in_err-second : goal.two-returns-in_err-second
two-returns-in_err-second t c = two_right _ _ _ _ _ _ _ _ _ c.word_of.ensures _ _ _ c.eval.ensures _ c.word_of-right.ensures _ _ _ c.eval-2.ensures _ _ _ c.in_ok-first.was c.in_err-second.was _ c.from_residual-in_err-second.ensures.0

pub two-apply_two-requires-clause-clear : goal.two-apply_two-requires-clause-clear
two-apply_two-requires-clause-clear t c = eval_clear _ _ _ _ _ _ _ _ _ _ _ _ _ (eval_clear _ _ _ _ _ _ _ _ _ _ _ _ _ c.requires.clear c.eval.ensures) c.eval-2.ensures

pub two-returns : goal.two-returns
two-returns t c = two_on _ _ _ _ _ _ _ _ _ c.word_of.ensures _ _ _ c.eval.ensures _ c.word_of-right.ensures _ _ _ c.eval-2.ensures _ _ _ _ _ c.in_ok-first.was c.in_ok-second.was c.apply_two.ensures
