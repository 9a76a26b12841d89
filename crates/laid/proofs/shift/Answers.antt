-- `laid::shift` meets its contract. Assumes nothing.
use Rattle.laid.proofs.Laying.{shifted_by}
use Rattle.laid.proofs.shift.Goals as goal

pub returns : goal.returns
returns c = shifted_by c.args.rows.now c.args.own.now c.store.new.items c.move_places.new.own c.store-2.new.items c.cut.result.now c.cut-2.result.now c.read.result c.requires.1 c.cut.ensures c.store.ensures c.move_places.ensures c.read.ensures c.cut-2.ensures c.store-2.ensures
