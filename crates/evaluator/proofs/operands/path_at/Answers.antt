-- `evaluator::operands::path_at` meets its contract. Assumes nothing.
use Rattle.evaluator.proofs.Given.{path_none, path_some}
use borrow.Author.Rules.{rules}
use Rattle.evaluator.proofs.operands.path_at.Goals as goal

pub returns-then-path-lt1 : goal.returns-then-path-lt1
returns-then-path-lt1 c = search (path_none, rules)

pub returns : goal.returns
returns c = search (path_some, rules)
