-- `carried::Numbers::there` meets its contract. Assumes nothing.
use Rattle.carried.proofs.Carrying.{there_given, there_made}
use borrow.Author.Rules.{rules}
use Rattle.carried.proofs.Numbers.there.Goals as goal

pub returns-then-value-self : goal.returns-then-value-self
returns-then-value-self c = search (there_given, rules)

pub returns : goal.returns
returns c = search (there_made, rules)
