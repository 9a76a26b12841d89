-- `repeats::is_text_at` meets its contract. Assumes nothing.
use Rattle.repeats.proofs.SearchLaws.{text_otherwise, text_compared}
use borrow.Author.Rules.{rules}
use Rattle.repeats.proofs.is_text_at.Goals as goal

pub returns-then-ends-p : goal.returns-then-ends-p
returns-then-ends-p c = search (text_otherwise, rules)

pub returns : goal.returns
returns c = search (text_compared, rules)
