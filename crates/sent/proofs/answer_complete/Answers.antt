-- `sent::answer_complete` meets its contract. Assumes nothing.
use Rattle.response.proofs.Completing.{complete_runs}
use borrow.Author.Rules.{rules}
use Rattle.sent.proofs.answer_complete.Goals as goal

pub returns : goal.returns
returns c = search (complete_runs, rules)
