-- `repeats::is_first` meets its contract. Assumes nothing.
use Rattle.repeats.proofs.NamedLaws.{named_found, named_end}
use borrow.Author.Rules.{rules}
use Rattle.repeats.proofs.is_first.Goals as goal

pub returns-then-x-item : goal.returns-then-x-item
returns-then-x-item c = search (named_found, rules)

pub returns : goal.returns
returns c = search (named_end, rules)
