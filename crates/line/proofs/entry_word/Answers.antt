-- `line::entry_word` meets its contract. Assumes nothing.
use Rattle.line.proofs.LawsItem.{entry_partial, entry_complete}
use borrow.Author.Rules.{rules}
use Rattle.line.proofs.entry_word.Goals as goal

pub returns-then-partial : goal.returns-then-partial
returns-then-partial c = search (entry_partial, rules)

pub returns : goal.returns
returns c = search (entry_complete, rules)
