-- `tpe::steps::give_one` meets its contract. Assumes nothing.
use Rattle.tpe.proofs.Operated.{gives_is, gives_like, gives_get, gives_has, gives_not, gives_neg, gives_empty}
use Rattle.tpe.proofs.steps.give_one.Goals as goal

pub returns-then-tag-le-IS : goal.returns-then-tag-le-IS
returns-then-tag-le-IS c = search gives_is

pub returns-in-40 : goal.returns-in-40
returns-in-40 c = search gives_like

pub returns-in-41 : goal.returns-in-41
returns-in-41 c = search gives_get

pub returns-in-42 : goal.returns-in-42
returns-in-42 c = search gives_has

pub returns-in-44 : goal.returns-in-44
returns-in-44 c = search gives_not

pub returns-in-45 : goal.returns-in-45
returns-in-45 c = search gives_neg

pub returns-in_default : goal.returns-in_default
returns-in_default c = search gives_empty
