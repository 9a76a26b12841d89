-- `preview::preview` meets its contract. Assumes nothing.
use Rattle.preview.proofs.Calling.{preview_first, preview_second, preview_tried}
use borrow.Author.Rules.{rules}
use Rattle.preview.proofs.preview.Goals as goal

pub returns-then-work1-lt-ROOM : goal.returns-then-work1-lt-ROOM
returns-then-work1-lt-ROOM c = search (preview_first, rules)

pub returns-then-work2-lt-ROOM : goal.returns-then-work2-lt-ROOM
returns-then-work2-lt-ROOM c = search (preview_second, rules)

pub returns : goal.returns
returns c = search (preview_tried, rules)
