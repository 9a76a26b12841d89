-- `openrules::paged` meets its contract. Assumes nothing.
use Rattle.openrules.proofs.Showing.{page_answer, page_refusal}
use borrow.Author.Rules.{rules}
use Rattle.openrules.proofs.paged.Goals as goal

pub returns-then-p-eq0 : goal.returns-then-p-eq0
returns-then-p-eq0 c = search (page_answer, rules)

pub returns : goal.returns
returns c = search (page_refusal, rules)
