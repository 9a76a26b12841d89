-- `notes::entries::rises` meets its contract. Assumes nothing.
use Rattle.notes.proofs.Leaping.{rises_end, rises_odd, rises_off, rises_on}
use borrow.Author.Rules.{rules}
use Rattle.notes.proofs.entries.rises.Goals as goal

pub loop-i-preserved : goal.loop-i-preserved
loop-i-preserved c = search (rises_on, rules)

pub returns-then-words-i-lt1 : goal.returns-then-words-i-lt1
returns-then-words-i-lt1 c = search (rises_end, rises_odd, rises_off, rules)

pub returns-then-words-i-lt2 : goal.returns-then-words-i-lt2
returns-then-words-i-lt2 c = search (rises_end, rises_odd, rises_off, rules)

pub returns-then-x-low : goal.returns-then-x-low
returns-then-x-low c = search (rises_end, rises_odd, rises_off, rules)
