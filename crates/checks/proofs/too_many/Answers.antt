-- `checks::too_many` meets its contract. Assumes nothing.
use Rattle.uses.proofs.NotedLaws.{many_uses}
use borrow.Author.Rules.{rules}
use Rattle.checks.proofs.too_many.Goals as goal

pub returns-then-key-eq-POLICY : goal.returns-then-key-eq-POLICY
returns-then-key-eq-POLICY c = search (many_uses, rules)
