-- `openrules::previewed` meets its contract. Assumes nothing.
use Rattle.openrules.proofs.Showing.{preview_answer, preview_refusal}
use borrow.Author.Rules.{rules}
use Rattle.openrules.proofs.previewed.Goals as goal

pub returns-then-p-eq0 : goal.returns-then-p-eq0
returns-then-p-eq0 c = search (preview_answer, rules)

pub returns : goal.returns
returns c = search (preview_refusal, rules)
