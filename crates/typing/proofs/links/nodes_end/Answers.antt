-- `nodes_end`: one law for each answer.
use Rattle.typing.proofs.LinkLaws.{end_like, end_path}
use Rattle.typing.proofs.links.nodes_end.Goals as goal

pub returns-in-40 : goal.returns-in-40
returns-in-40 c = search end_like

pub returns-in-43 : goal.returns-in-43
returns-in-43 c = search end_path
