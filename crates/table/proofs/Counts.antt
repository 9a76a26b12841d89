-- How many lines of a key words hold. Assumes nothing.
use mathlib.Core.Path.{◌≡◌, ap, ◌∙◌}
use mathlib.Core.List.{List}
use Prim.Native.Nat.{ℕ, ◌+◌, ◌<◌}
use native.Mathlib.Omega.{arith}
use lib.ListN.{get_or}
use Rattle.sheet.specs.Forms.{no_key}
use Rattle.table.proofs.Held.{get_d_tab, counts_in}

pub count_at : (a : List ℕ) (i : ℕ) → i < no_key → get_or (counts_in a) i 0 ≡ get_or a i 0
count_at a i h = let z : 0 + i ≡ i = omega arith in get_d_tab (λ (k : ℕ). get_or a k 0) 0 no_key i 0 h ∙ ap (λ (k : ℕ). get_or a k 0) z
