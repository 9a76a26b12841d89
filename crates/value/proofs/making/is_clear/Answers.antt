-- `value::making::is_clear` meets its contract. Assumes nothing.
use Rattle.value.proofs.Skips.{clear_low, clear_high, clear_word}
use borrow.Author.Rules.{rules}
use Rattle.value.proofs.making.is_clear.Goals as goal

pub returns-then-start-lt-HEAP : goal.returns-then-start-lt-HEAP
returns-then-start-lt-HEAP c = search (clear_low, rules)

pub returns-then-start-read : goal.returns-then-start-read
returns-then-start-read c = search (clear_high, rules)

pub returns : goal.returns
returns c = search (clear_word, rules)
