-- `lookup::led_by` meets its contract. Assumes nothing.
use Prim.Native.Nat.{◌-◌}
use Rattle.sheet.specs.Forms.{ENTITY}
use Rattle.table.specs.Layout.{rows_of}
use Rattle.lookup.specs.Lookups.{HALVINGS}
use Rattle.lookup.proofs.Halving.{Halving}
use Rattle.lookup.proofs.led_by.Given as goal

abbrev pub invariant-loop : goal.invariant-loop
invariant-loop l = Halving (rows_of l.rows ENTITY) l.value (HALVINGS - l.counter) l.step l.line
