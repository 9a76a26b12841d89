-- `tpe::steps::make_many` meets its contract. Assumes nothing.
use Rattle.tpe.proofs.Settling.{row_set, row_record}
use Rattle.tpe.proofs.steps.make_many.Goals as goal

pub returns-then-tag-le-SET_OF : goal.returns-then-tag-le-SET_OF
returns-then-tag-le-SET_OF c = search row_set

pub returns : goal.returns
returns c = search row_record
