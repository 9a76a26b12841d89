-- `trial::words_kept` meets its contract. Assumes nothing.
use Rattle.trial.proofs.Trying.{kept_rest}
use borrow.Author.Rules.{rules}
use Rattle.trial.proofs.words_kept.Goals as goal

pub returns-then-is_every : goal.returns-then-is_every
returns-then-is_every c = search (kept_rest, rules)
