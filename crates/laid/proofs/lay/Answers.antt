-- `laid::lay` meets its contract. Assumes nothing.
use Rattle.laid.proofs.Laying.{near_principal, near_resource, laid_by}
use borrow.Author.Rules.{rules}
use Rattle.laid.proofs.lay.Goals as goal

pub lay_line-requires : goal.lay_line-requires
lay_line-requires c = search (near_principal, rules)

pub lay_line-requires-2 : goal.lay_line-requires-2
lay_line-requires-2 c = search (near_resource, rules)

pub returns : goal.returns
returns c = laid_by c.args.rows.now c.shift.new.own c.lay_line.new.own c.lay_line-2.new.own c.row.result.now c.row-2.result.now c.args.principal c.args.resource c.shift.ensures c.row.ensures c.lay_line.ensures c.row-2.ensures c.lay_line-2.ensures
