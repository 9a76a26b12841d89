-- `parents_typed`: what is left of the set decides.
use Rattle.typing.proofs.KeyRules.{parents_unknown, parents_sort, parents_start}
use Rattle.typing.proofs.SeenSets.{above_set}
use borrow.Author.Rules.{rules}
use Rattle.typing.proofs.lines.parents_typed.Goals as goal

pub returns-then-value-eq-MARK : goal.returns-then-value-eq-MARK
returns-then-value-eq-MARK c = search parents_unknown

pub returns-then-tag-ne-SET_VALUE : goal.returns-then-tag-ne-SET_VALUE
returns-then-tag-ne-SET_VALUE c = search parents_sort

pub loop-parent-init : goal.loop-parent-init
loop-parent-init c = (search parents_start, search above_set, search rules)
