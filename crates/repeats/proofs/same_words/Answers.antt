-- `repeats::same_words` meets its contract. Assumes nothing.
use borrow.Author.Rules.{rules}
use Rattle.repeats.proofs.SearchLaws.{other_length, other_end}
use Rattle.repeats.proofs.same_words.Goals as goal

pub returns-then-left-right : goal.returns-then-left-right
returns-then-left-right c = search (other_length, rules)

pub returns-then-ne : goal.returns-then-ne
returns-then-ne c = let s = c.in-Some-Some in
    other_end c.args.left.now c.args.right.now s.end.now s.other.now _ c.ne.result s.ensures.cases.1 s.ensures'.cases.1 c.ne.ensures c.if-ne.true
