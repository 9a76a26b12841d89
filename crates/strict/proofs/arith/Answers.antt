-- `strict::arith` meets its contract. Assumes nothing.
use Rattle.strict.proofs.Plain.{arith_lt, arith_le, arith_add, arith_sub, arith_mul}
use borrow.Author.Rules.{rules}
use Rattle.strict.proofs.arith.Goals as goal

pub returns-in-27 : goal.returns-in-27
returns-in-27 c = search (arith_lt, arith_le, arith_add, arith_sub, arith_mul, rules)

pub returns-in-28 : goal.returns-in-28
returns-in-28 c = search (arith_lt, arith_le, arith_add, arith_sub, arith_mul, rules)

pub returns-in-29 : goal.returns-in-29
returns-in-29 c = search (arith_lt, arith_le, arith_add, arith_sub, arith_mul, rules)

pub returns-in-30 : goal.returns-in-30
returns-in-30 c = search (arith_lt, arith_le, arith_add, arith_sub, arith_mul, rules)

pub returns-in_default : goal.returns-in_default
returns-in_default c = search (arith_lt, arith_le, arith_add, arith_sub, arith_mul, rules)
