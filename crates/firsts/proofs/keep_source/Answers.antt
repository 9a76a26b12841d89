-- `firsts::keep_source` meets its contract. Assumes nothing.
use Rattle.firsts.proofs.Leading.{sourced_all}
use borrow.Author.Rules.{rules}
use Rattle.firsts.proofs.keep_source.Goals as goal

pub returns : goal.returns
returns c = search (sourced_all, rules)
