-- `openrules::quoted` meets its contract. Assumes nothing.
use Rattle.openrules.proofs.Quoting.{firm_refusal, firm_answer}
use borrow.Author.Rules.{rules}
use Rattle.openrules.proofs.quoted.Goals as goal

pub returns-then-f-ne0 : goal.returns-then-f-ne0
returns-then-f-ne0 c = search (firm_refusal, rules)

pub returns : goal.returns
returns c = search (firm_answer, rules)
