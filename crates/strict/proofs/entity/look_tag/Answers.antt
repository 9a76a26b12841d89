-- `strict::entity::look_tag` meets its contract. Assumes nothing.
use Rattle.strict.proofs.Entities.{tag_first, tag_second, tag_both}
use borrow.Author.Rules.{rules}
use Rattle.strict.proofs.entity.look_tag.Goals as goal

pub returns-in_default : goal.returns-in_default
returns-in_default c = search (tag_first, tag_second, tag_both, rules)

pub returns-in_default-d : goal.returns-in_default-d
returns-in_default-d c = search (tag_first, tag_second, tag_both, rules)

pub returns : goal.returns
returns c = search (tag_first, tag_second, tag_both, rules)
