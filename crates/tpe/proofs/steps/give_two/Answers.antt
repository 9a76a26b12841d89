-- `tpe::steps::give_two` meets its contract. Assumes nothing.
use Rattle.tpe.proofs.Operated.{gives_eq, gives_arith, gives_in, gives_gettag, gives_hastag, gives_contains, gives_all, gives_any}
use Rattle.tpe.proofs.steps.give_two.Goals as goal

pub returns-then-tag-le-EQ : goal.returns-then-tag-le-EQ
returns-then-tag-le-EQ c = search gives_eq

pub returns-then-tag-le-MUL : goal.returns-then-tag-le-MUL
returns-then-tag-le-MUL c = search gives_arith

pub returns-in-32 : goal.returns-in-32
returns-in-32 c = search gives_in

pub returns-in-33 : goal.returns-in-33
returns-in-33 c = search gives_gettag

pub returns-in-34 : goal.returns-in-34
returns-in-34 c = search gives_hastag

pub returns-in-35 : goal.returns-in-35
returns-in-35 c = search gives_contains

pub returns-in-36 : goal.returns-in-36
returns-in-36 c = search gives_all

pub returns-in_default : goal.returns-in_default
returns-in_default c = search gives_any
