-- `notes::entries::skip` meets its contract. Assumes nothing.
use Rattle.notes.proofs.Leaping.{skips_on}
use borrow.Author.Rules.{rules}
use Rattle.notes.proofs.entries.skip.Goals as goal

pub loop-i-preserved : goal.loop-i-preserved
loop-i-preserved c = search (skips_on, rules)
