-- `interpret::run_all` meets its contract. Assumes nothing.
use Rattle.tpe.proofs.Kept.{interp_clear}
use Rattle.interpret.proofs.Turns.{run_on, run_end}
use borrow.Author.Rules.{rules}
use Rattle.interpret.proofs.run_all.Goals as goal

pub loop-i-preserved : goal.loop-i-preserved
loop-i-preserved c = (search run_on, (search rules, search rules, search interp_clear))

pub returns : goal.returns
returns c = search run_end
