-- One law for each way through `lines`. Assumes nothing.
use mathlib.Core.Path.{◌≡◌, ap}
use mathlib.Core.List.{List}
use Prim.Native.Nat.{ℕ, suc, ◌+◌, ◌-◌, ◌/◌, ◌≤◌, ◌<◌}
use native.Mathlib.Omega.{arith}
use lib.ListN.{set}
use Rattle.residual.specs.Rows.{ROW, stage_at, start_at}
use Rattle.residual.specs.Classes.{class_number}
use Rattle.tpe.specs.Run.{class_by}
use Rattle.interpret.specs.Lines.{CLASSES, ROOTS, lines_from}

pub lines_none : (a b : List ℕ) (k e : ℕ) → k ≤ 0 → lines_from a k e b ≡ b
unfolding lines_from
lines_none a b k e h = let z : k ≡ 0 = omega arith in rw z

pub lines_step : (a b : List ℕ) (k e : ℕ) → 0 < k
    → lines_from a k e b ≡ lines_from a (k - 1) (start_at b e) (set (set b (CLASSES + (k - 1)) (class_number (class_by a (stage_at b e)))) (ROOTS + (k - 1)) (e / ROW - 1))
unfolding lines_from
lines_step a b k e h = let z : k ≡ suc (k - 1) = omega arith in ap (λ (j : ℕ). lines_from a j e b) z
