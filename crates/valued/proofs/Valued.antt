-- Rows in a list, as the code has them. Assumes nothing.
use mathlib.Core.Path.{◌≡◌, refl, ap, ◌∙◌}
use mathlib.Core.Bool.{Bool, ◌&&◌}
use mathlib.Core.List.{List, [], ◌∷◌}
use Prim.Native.Nat.{ℕ, zero, suc, ◌/◌}
use native.Mathlib.Omega.{arith}
use lib.Dec.{eqb}
use lib.ListN.{length, get_or}
use Rattle.std.specs.List.{list_all}
use Rattle.std.specs.Simd.{first_chunks}
use Rattle.residual.specs.Rows.{VALUE_ROW}
use Rattle.valued.specs.Values.{all_values}

abbrev pub is_value : List ℕ → Bool
is_value q = eqb (get_or q 0 0) VALUE_ROW

each_value : (n : ℕ) (q : List ℕ) → n ≡ length q / 4 → list_all is_value (first_chunks 4 n q) ≡ all_values q
unfolding all_values
each_value n [] e = let z : n ≡ 0 = omega arith in rw z
each_value n (t ∷ []) e = let z : n ≡ 0 = omega arith in rw z
each_value n (t ∷ v ∷ []) e = let z : n ≡ 0 = omega arith in rw z
each_value n (t ∷ v ∷ w ∷ []) e = let z : n ≡ 0 = omega arith in rw z
each_value zero (t ∷ v ∷ w ∷ y ∷ q) e = absurd (omega arith)
each_value (suc n) (t ∷ v ∷ w ∷ y ∷ q) e = ap (λ (b : Bool). eqb t VALUE_ROW && b) (each_value n q (omega arith))

pub valued_listed : (q : List ℕ) (s : List (List ℕ)) → s ≡ first_chunks 4 (length q / 4) q → list_all is_value s ≡ all_values q
valued_listed q s e = ap (list_all is_value) e ∙ each_value (length q / 4) q refl
