-- A call at its edges, by computation, and limits that no short sheet comes to. Each fails if one line of a definition is changed (scripts/mutants.txt).
use mathlib.Core.Path.{◌≡◌, refl}
use mathlib.Core.Bool.{true, false}
use mathlib.Core.List.{[], ◌∷◌, ◌++◌}
use Prim.Native.Nat.{ℕ}
use lib.ListN.{take, drop, replicate}
use Rattle.sheet.specs.Forms.{partial, VALUE, NODE}
use Rattle.sheet.specs.State.{State}
use Rattle.sheet.specs.Sheet.{too_many}
use Rattle.sheet.specs.Call.{returned, outputs, worked}

-- short slices and a sheet too long: 1 before 2
one_before_two : (returned partial 0 0 0 (replicate 16385 33)).number ≡ 1
unfolding returned
one_before_two = refl

-- a refusal leaves the buffer
buffer_kept : outputs 10 (1 ∷ []) (7 ∷ 7 ∷ []) ≡ 7 ∷ 7 ∷ []
buffer_kept = refl

-- a work slice of 16,385 words: the first 16,384 become 0, the last is kept
first_words_zero : take 1 (worked (replicate 16385 7) 16384) ≡ 0 ∷ []
unfolding worked
first_words_zero = refl

other_words_kept : drop 16384 (worked (replicate 16385 7) 16384) ≡ 7 ∷ []
unfolding worked
other_words_kept = refl

-- n lines of key k, and whether one more is too many
abbrev only : ℕ → ℕ → State
only k n = record { lines = replicate k [] ++ (replicate n [] ∷ []); depths = []; used = [] }

most_values : too_many (only VALUE 1023) VALUE [] ∷ too_many (only VALUE 1024) VALUE [] ∷ [] ≡ false ∷ true ∷ []
most_values = refl

most_nodes : too_many (only NODE 1023) NODE [] ∷ too_many (only NODE 1024) NODE [] ∷ [] ≡ false ∷ true ∷ []
most_nodes = refl
