-- `typed`: the rules over words are those of the state.
use Rattle.typing.proofs.Joined.{typed_is}
use Rattle.typing.proofs.lines.typed.Goals as goal

pub returns : goal.returns
returns c = search typed_is
