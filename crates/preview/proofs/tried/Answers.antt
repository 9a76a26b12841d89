-- `preview::tried` meets its contract. Assumes nothing.
use Rattle.preview.proofs.Trying.{kept_too_long, not_filled, copy_tried}
use borrow.Author.Rules.{rules}
use Rattle.preview.proofs.tried.Goals as goal

pub returns-then-sheet-gt-ROOM : goal.returns-then-sheet-gt-ROOM
returns-then-sheet-gt-ROOM c = search (kept_too_long, rules)

pub returns-then-not-fills : goal.returns-then-not-fills
returns-then-not-fills c = search (not_filled, rules)

pub returns : goal.returns
returns c = search (copy_tried, rules)
