-- `running::run_row` meets its contract. Assumes nothing.
use Rattle.running.proofs.Runs.{run_few, run_is}
use borrow.Author.Rules.{rules}
use Rattle.running.proofs.run_row.Goals as goal

pub add_row-requires : goal.add_row-requires
add_row-requires c = run_few _ _ c.requires _ c.read-top.ensures _ _ _ _ _ _ _ c.store.ensures

pub returns : goal.returns
returns c = search (run_is, rules)
