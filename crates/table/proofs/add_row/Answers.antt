-- `table::add_row` meets its contract. Assumes nothing.
use Rattle.table.proofs.Rows.{with_row_is}
use Rattle.table.proofs.add_row.Goals as goal

pub returns : goal.returns
returns c = let s = c in
    let x = c in
    let p₁ = c.put in
    let p₂ = c.put-2 in
    let p₃ = c.put-3 in
    let p₄ = c.put-4 in
    with_row_is s.args.rows.now s.args.key s.args.end x.read-top.result x.read-n.result x.base_of.result
    p₁.new.items p₂.new.items p₃.new.items p₄.new.items
    x.read-top.ensures x.read-n.ensures x.base_of.ensures.0 p₁.ensures p₂.ensures p₃.ensures p₄.ensures
