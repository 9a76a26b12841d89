-- `record_typed`: one law for each answer.
use Rattle.typing.proofs.Rulings.{record_lacks, record_none, record_some}
use Rattle.typing.proofs.nodes.record_typed.Goals as goal

pub returns-in_default : goal.returns-in_default
returns-in_default c = search (record_none, c.in_default.ensures)

pub returns-then-not-complete : goal.returns-then-not-complete
returns-then-not-complete c = search (record_lacks, c.in-Some.ensures)

pub returns : goal.returns
returns c = search (record_some, c.in-Some.ensures)
