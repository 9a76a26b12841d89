-- `value::making::Search::by_words` meets its contract. Assumes nothing.
use Rattle.value.proofs.Skips.{past_start}
use Rattle.value.proofs.Passes.{telling_end, telling_hit, telling_on}
use borrow.Author.Rules.{rules}
use Rattle.value.proofs.making.Search.by_words.Goals as goal

pub loop-i-init : goal.loop-i-init
loop-i-init c = search (past_start, rules)

pub loop-i-preserved : goal.loop-i-preserved
loop-i-preserved c = let n = c in
    let l = n in
    let k = l in
    let j = k in
    let s = j.args.self.now in
    telling_on s.line.now s.rows.now s.key j.args.first j.args.many j.requires.0 j.requires.1 j.requires.2 j.telling-j.result j.telling-j.ensures k.one_before-k.result k.one_before-k.ensures
    l.loop-i.i n.next_place-i.result l.loop-i.invariant n.next_place-i.ensures c.if-i-many.false c.is_row.result c.is_row.ensures c.if-is_row.false

pub returns-then-i-many : goal.returns-then-i-many
returns-then-i-many c = let n = c in
    let l = n in
    let k = l in
    let j = k in
    let s = j.args.self.now in
    telling_end s.line.now s.rows.now s.key j.args.first j.args.many j.requires.0 j.requires.1 j.requires.2 j.telling-j.result j.telling-j.ensures k.one_before-k.result k.one_before-k.ensures
    l.loop-i.i n.next_place-i.result l.loop-i.invariant n.next_place-i.ensures c.if-i-many.true

pub returns-then-is_row : goal.returns-then-is_row
returns-then-is_row c = search (telling_hit, rules)
