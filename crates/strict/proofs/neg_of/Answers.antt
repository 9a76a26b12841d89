-- `strict::neg_of` meets its contract. Assumes nothing.
use Rattle.strict.proofs.Plain.{neg_is, neg_other}
use borrow.Author.Rules.{rules}
use Rattle.strict.proofs.neg_of.Goals as goal

pub returns-in_default : goal.returns-in_default
returns-in_default c = search (neg_is, neg_other, rules)

pub returns : goal.returns
returns c = search (neg_is, neg_other, rules)
