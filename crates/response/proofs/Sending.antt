-- An answer counted without room, then printed where the buffer has room for it; or printed at once into a buffer that is long enough. Assumes nothing.
use mathlib.Core.Path.{◌≡◌, refl}
use mathlib.Core.List.{List}
use Prim.Native.Nat.{ℕ}
use borrow.Author.Tests.{le-ltb}
use lib.ListN.{length}
use Rattle.sheet.specs.Call.{returns, fitted}
use Rattle.print.specs.Written.{Written}
use Rattle.print.proofs.Writing.{written_over}
pub use Rattle.print.proofs.Sending.{gives_as, sends_as, send_short, send_whole}
use Rattle.response.specs.Runs.{Prints}

pub print_whole : (bytes out is : List ℕ) (next : ℕ) → Written out 0 bytes is next → Prints bytes out 0 next is
print_whole bytes out is next w h =
    let (o, k) = written_over out bytes is next w h in
    let r : returns 0 0 (length bytes) ≡ fitted (length out) (length bytes) = rw (le-ltb (length out) (length bytes) h) in
    gives_as r (record { number_is = refl; line_is = refl; length_is = k; buffer = o })
