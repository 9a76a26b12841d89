-- `lookup::has_text` meets its contract. Assumes nothing.
use Rattle.lookup.proofs.Finds.{text_free, text_read}
use borrow.Author.Rules.{rules}
use Rattle.lookup.proofs.has_text.Goals as goal

pub returns-then-text-eq0 : goal.returns-then-text-eq0
returns-then-text-eq0 c = search (text_free, rules)

pub returns : goal.returns
returns c = search (text_read, rules)
