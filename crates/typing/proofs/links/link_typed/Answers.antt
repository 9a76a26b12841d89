-- `link_typed`: the root's slots, at the whole depth.
use Rattle.typing.proofs.LinkLaws.{link_is}
use Rattle.typing.proofs.links.link_typed.Goals as goal

pub returns : goal.returns
returns c = search link_is
