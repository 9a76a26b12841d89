-- `notes::entries::entry_rising` meets its contract. Assumes nothing.
use Rattle.notes.proofs.Leaping.{skips_none, even_far, even_near, skips_found}
use borrow.Author.Rules.{rules}
use Rattle.notes.proofs.entries.entry_rising.Goals as goal

pub skip-i-requires : goal.skip-i-requires
skip-i-requires c = search (skips_none, even_far, rules)

pub skip-j-requires : goal.skip-j-requires
skip-j-requires c = search (even_near, rules)

pub returns : goal.returns
returns c = search (skips_found, rules)
