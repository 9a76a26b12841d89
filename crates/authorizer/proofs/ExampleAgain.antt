-- The hypothesis of `again_calls` is met on a sheet with a link, a group of kinds and terms. Assumes nothing.
use mathlib.Core.Path.{◌≡◌}
use mathlib.Core.List.{List}
use Prim.Native.Nat.{ℕ}
use lib.ListN.{length}
use Rattle.sheet.specs.Forms.{partial}
use Rattle.again.specs.Again.{Again}
use Rattle.again.proofs.ExampleAgain.{any_broker, any_broker_accepted}
use Rattle.authorizer.specs.Calls.{bytes_in}
use Rattle.authorizer.proofs.Again.{again_calls}
use Rattle.authorizer.proofs.Example.{run_of, at_lengths}

handed_back_law : (w v o : List ℕ) → length w ≡ 16384 → length v ≡ 20000 → length o ≡ 400 → Again any_broker (bytes_in (run_of partial any_broker w v o))
handed_back_law w v o hw hv ho = again_calls any_broker (run_of partial any_broker w v o) (at_lengths partial any_broker 16384 20000 400 any_broker_accepted w v o hw hv ho)
