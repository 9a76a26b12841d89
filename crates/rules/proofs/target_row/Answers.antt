-- `target_row`: an element counts where it is an earlier type.
use Rattle.rules.proofs.Rulings.{target_own, target_earlier, target_later}
use Rattle.rules.proofs.target_row.Goals as goal

pub returns-then-tag-ne-SET_TYPE : goal.returns-then-tag-ne-SET_TYPE
returns-then-tag-ne-SET_TYPE c = search target_own

pub returns-then-e-ty : goal.returns-then-e-ty
returns-then-e-ty c = search target_earlier

pub returns : goal.returns
returns c = search target_later
