-- `value::making::lower` meets its contract. Assumes nothing.
use Rattle.value.proofs.Sorting.{best_low, best_first, best_less}
use borrow.Author.Rules.{rules}
use Rattle.value.proofs.making.lower.Goals as goal

pub returns-then-value-low : goal.returns-then-value-low
returns-then-value-low c = search (best_low, best_first, best_less, rules)

pub returns-in-None : goal.returns-in-None
returns-in-None c = search (best_first, best_less, rules)

pub returns-in-Some : goal.returns-in-Some
returns-in-Some c = search (best_low, best_first, best_less, rules)
