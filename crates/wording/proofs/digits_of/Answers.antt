-- `wording::digits_of` meets its contract. Assumes nothing.
use Rattle.wording.proofs.Numbers.{reading_full, reading_over}
use borrow.Author.Rules.{rules}
use Rattle.wording.proofs.digits_of.Goals as goal

pub returns-then-n : goal.returns-then-n
returns-then-n c = search (reading_full, rules)

pub returns-then-digit-tens : goal.returns-then-digit-tens
returns-then-digit-tens c = search (reading_over, rules)
