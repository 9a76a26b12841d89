-- `evaluator::operands::two_given` meets its contract. Assumes nothing.
use Rattle.evaluator.proofs.Given.{two_eq, two_in, two_gettag, two_hastag, two_contains, two_all, two_any, two_arith}
use Rattle.evaluator.proofs.operands.two_given.Goals as goal

pub returns-in-26 : goal.returns-in-26
returns-in-26 c = search two_eq

pub returns-in-32 : goal.returns-in-32
returns-in-32 c = search two_in

pub returns-in-33 : goal.returns-in-33
returns-in-33 c = search two_gettag

pub returns-in-34 : goal.returns-in-34
returns-in-34 c = search two_hastag

pub returns-in-35 : goal.returns-in-35
returns-in-35 c = search two_contains

pub returns-in-36 : goal.returns-in-36
returns-in-36 c = search two_all

pub returns-in-37 : goal.returns-in-37
returns-in-37 c = search two_any

pub returns-in_default : goal.returns-in_default
returns-in_default c = search two_arith
