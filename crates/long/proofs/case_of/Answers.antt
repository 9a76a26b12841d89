-- `long::case_of` meets its contract. Assumes nothing.
use Rattle.long.proofs.ProductWords.{first_case, second_case, later_case}
use borrow.Author.Rules.{rules}
use Rattle.long.proofs.case_of.Goals as goal

pub returns-then-is_among : goal.returns-then-is_among
returns-then-is_among c = search (first_case, rules)

pub returns-then-is_among-2 : goal.returns-then-is_among-2
returns-then-is_among-2 c = search (second_case, rules)

pub returns : goal.returns
returns c = search (later_case, rules)
