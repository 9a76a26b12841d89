-- `like::first` meets its contract. Assumes nothing.
use Rattle.like.proofs.Joining.{first_fails, first_on, first_fits}
use borrow.Author.Rules.{rules}
use Rattle.like.proofs.first.Goals as goal

pub returns-then-not-begins : goal.returns-then-not-begins
returns-then-not-begins c = search (first_fails, rules)

pub overflow_add-result : goal.overflow_add-result
overflow_add-result c = let s = c in
    let f = first_fits s.args.piece.now s.args.bytes.now s.args.at s.args.next c.seek-u.result c.seek-u.ensures c.begins.result c.begins.ensures s.requires (search rules) in
    search (f, rules)

pub returns : goal.returns
returns c = search (first_on, rules)
