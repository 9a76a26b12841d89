-- `openrules::finished` meets its contract. Assumes nothing.
use Rattle.openrules.proofs.Showing.{finish_answer, finish_refusal}
use borrow.Author.Rules.{rules}
use Rattle.openrules.proofs.finished.Goals as goal

pub returns-then-f-eq0 : goal.returns-then-f-eq0
returns-then-f-eq0 c = search (finish_answer, rules)

pub returns : goal.returns
returns c = search (finish_refusal, rules)
