-- `notes::chains::Chains::find` meets its contract. Assumes nothing.
use Rattle.notes.proofs.Chaining.{chained_by, chase_start, chase_hit, chase_less, chase_on, chase_end}
use borrow.Author.Rules.{rules}
use Rattle.notes.proofs.chains.Chains.find.Goals as goal

pub loop-left-init : goal.loop-left-init
loop-left-init c =
    let s = c.args.self.now in
    search (chase_start, chained_by s.rows.now s.heads.now s.links.now s.first s.next, rules)

pub returns-then-is_entity : goal.returns-then-is_entity
returns-then-is_entity c = search (chase_hit, rules)

pub loop-left-smaller : goal.loop-left-smaller
loop-left-smaller c =
    let s = c.args.self.now in
    search (chase_less, chained_by s.rows.now s.heads.now s.links.now s.first s.next, rules)

pub loop-left-preserved : goal.loop-left-preserved
loop-left-preserved c =
    let s = c.args.self.now in
    search (chase_on, chained_by s.rows.now s.heads.now s.links.now s.first s.next, rules)

pub returns : goal.returns
returns c = search (chase_end, rules)
