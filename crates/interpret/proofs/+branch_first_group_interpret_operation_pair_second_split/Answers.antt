-- The cycle of calls of `interpret` meets its contracts. Assumes nothing.
use Rattle.tpe.proofs.Kept.{interp_clear}
use Rattle.interpret.proofs.Laws.{branch_true, branch_false, branch_error, branch_open, first_stops, first_goes, first_wrong, first_unsure, pair_is, split_is}
use Rattle.interpret.proofs.Turns.{turn_start, turn_on, turn_end, interpret_deep, interpret_leaf, interpret_operation, interpret_set, interpret_record, interpret_slot, interpret_other, on_first, on_pair, on_branch, on_one}
use borrow.Author.Rules.{rules}
use Rattle.interpret.proofs.+branch_first_group_interpret_operation_pair_second_split.Goals as goal

pub branch-returns-in-True : goal.branch-returns-in-True
branch-returns-in-True t c = search branch_true

pub branch-returns-in-False : goal.branch-returns-in-False
branch-returns-in-False t c = search branch_false

pub branch-returns-in-Error : goal.branch-returns-in-Error
branch-returns-in-Error t c = search branch_error

pub branch-returns-in-Open : goal.branch-returns-in-Open
branch-returns-in-Open t c = search (branch_open, c.args.log.now.room, c.requires.start_le_top)

pub first-returns-in-Stops : goal.first-returns-in-Stops
first-returns-in-Stops t c = search first_stops

pub first-returns-in-Goes : goal.first-returns-in-Goes
first-returns-in-Goes t c = search first_goes

pub first-returns-in-Wrong : goal.first-returns-in-Wrong
first-returns-in-Wrong t c = search first_wrong

pub first-returns-in-Unsure : goal.first-returns-in-Unsure
first-returns-in-Unsure t c = search (first_unsure, c.args.log.now.room, c.requires.start_le_top)

pub group-loop-i-init : goal.group-loop-i-init
group-loop-i-init t c = (search turn_start, (search rules, search rules, search rules))

pub group-loop-i-preserved : goal.group-loop-i-preserved
group-loop-i-preserved t c = (search turn_on, (search rules, search rules, search interp_clear))

pub group-returns : goal.group-returns
group-returns t c = search turn_end

pub interpret-returns-then-depth-eq0 : goal.interpret-returns-then-depth-eq0
interpret-returns-then-depth-eq0 t c = search interpret_deep

pub interpret-returns-then-tag-lt-AND : goal.interpret-returns-then-tag-lt-AND
interpret-returns-then-tag-lt-AND t c = search interpret_leaf

pub interpret-returns-then-tag-lt-SET_OF : goal.interpret-returns-then-tag-lt-SET_OF
interpret-returns-then-tag-lt-SET_OF t c = search interpret_operation

pub interpret-returns-in-47 : goal.interpret-returns-in-47
interpret-returns-in-47 t c = search interpret_set

pub interpret-returns-in-48 : goal.interpret-returns-in-48
interpret-returns-in-48 t c = search interpret_record

pub interpret-returns-in-49 : goal.interpret-returns-in-49
interpret-returns-in-49 t c = search interpret_slot

pub interpret-returns-in_default : goal.interpret-returns-in_default
interpret-returns-in_default t c = search interpret_other

pub operation-first-requires : goal.operation-first-requires
operation-first-requires t c = (search rules, (search rules, search interp_clear))

pub operation-returns-then-tag-lt-EQ : goal.operation-returns-then-tag-lt-EQ
operation-returns-then-tag-lt-EQ t c = search (on_first, c.args.log.now.room, c.requires.le_tag)

pub operation-pair-requires : goal.operation-pair-requires
operation-pair-requires t c = (search rules, (search rules, search interp_clear))

pub operation-returns-then-tag-lt-IF : goal.operation-returns-then-tag-lt-IF
operation-returns-then-tag-lt-IF t c = search (on_pair, c.args.log.now.room, c.requires.le_tag)

pub operation-branch-setting-requires : goal.operation-branch-setting-requires
operation-branch-setting-requires t c = (search rules, (search rules, search interp_clear))

pub operation-returns-then-tag-lt-IS : goal.operation-returns-then-tag-lt-IS
operation-returns-then-tag-lt-IS t c = search (on_branch, c.args.log.now.room, c.requires.le_tag)

pub operation-one-requires-clause-clear : goal.operation-one-requires-clause-clear
operation-one-requires-clause-clear t c = search interp_clear

pub operation-returns : goal.operation-returns
operation-returns t c = search (on_one, c.args.log.now.room, c.requires.le_tag)

pub pair-two-requires-clause-clear : goal.pair-two-requires-clause-clear
pair-two-requires-clause-clear t c = search interp_clear

pub pair-returns : goal.pair-returns
pair-returns t c = search pair_is

pub second-beside-requires-clause-clear : goal.second-beside-requires-clause-clear
second-beside-requires-clause-clear t c = search interp_clear

pub split-interpret-requires-2 : goal.split-interpret-requires-2
split-interpret-requires-2 t c = (search rules, search interp_clear)

pub split-returns : goal.split-returns
split-returns t c = search (split_is, c.requires.start_le_top)
