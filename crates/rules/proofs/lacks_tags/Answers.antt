-- `lacks_tags`: one law for each answer.
use Rattle.rules.proofs.Rulings.{tags_action, tags_own}
use Rattle.rules.proofs.lacks_tags.Goals as goal

pub returns-then-is_action : goal.returns-then-is_action
returns-then-is_action c = search tags_action

pub returns : goal.returns
returns c = search tags_own
