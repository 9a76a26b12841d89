-- `carried::carry_one` meets its contract. Assumes nothing.
use Rattle.carried.proofs.Carrying.{one_set, one_record, one_other}
use Rattle.carried.proofs.carry_one.Goals as goal

pub returns-in-14 : goal.returns-in-14
returns-in-14 c = search one_set

pub returns-in-15 : goal.returns-in-15
returns-in-15 c = search one_record

pub returns-in_default : goal.returns-in_default
returns-in_default c = search one_other
