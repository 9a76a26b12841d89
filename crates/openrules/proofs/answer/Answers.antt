-- `openrules::answer` meets its contract. Assumes nothing.
use Rattle.openrules.proofs.Showing.{shows_answer, shows_refusal}
use borrow.Author.Rules.{rules}
use Rattle.openrules.proofs.answer.Goals as goal

pub returns-then-r-eq0 : goal.returns-then-r-eq0
returns-then-r-eq0 c = search (shows_answer, rules)

pub returns : goal.returns
returns c = search (shows_refusal, rules)
