-- Rows of residuals that are all values.
use Rattle.std.specs.Prelude.{Bool, true, ◌&&◌, List, [], ◌∷◌, ℕ, eqb}
use Rattle.residual.specs.Rows.{VALUE_ROW}

-- whether each row is a value
unfoldable pub all_values : List ℕ → Bool
all_values [] = true
all_values (t ∷ []) = true
all_values (t ∷ v ∷ []) = true
all_values (t ∷ v ∷ w ∷ []) = true
all_values (t ∷ v ∷ w ∷ y ∷ q) = eqb t VALUE_ROW && all_values q
