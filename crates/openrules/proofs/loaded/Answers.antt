-- `openrules::loaded` meets its contract. Assumes nothing.
use Rattle.openrules.proofs.Loading.{load_answer, load_refusal}
use borrow.Author.Rules.{rules}
use Rattle.openrules.proofs.loaded.Goals as goal

pub returns-then-l-eq0 : goal.returns-then-l-eq0
returns-then-l-eq0 c = search (load_answer, rules)

pub returns : goal.returns
returns c = search (load_refusal, rules)
