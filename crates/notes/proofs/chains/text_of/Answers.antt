-- `notes::chains::text_of` meets its contract. Assumes nothing.
use Rattle.notes.proofs.Chaining.{text_past, text_short, text_word}
use borrow.Author.Rules.{rules}
use Rattle.notes.proofs.chains.text_of.Goals as goal

pub returns-then-value-count : goal.returns-then-value-count
returns-then-value-count c = search (text_past, rules)

pub returns-then-start-end : goal.returns-then-start-end
returns-then-start-end c = search (text_short, rules)

pub returns : goal.returns
returns c = search (text_word, rules)
