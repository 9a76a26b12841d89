-- A new type line: the kinds of a group have lines alone, as the code looks for them. Assumes nothing.
use mathlib.Core.Path.{◌≡◌, refl, sym, ap, ◌∙◌}
use mathlib.Core.Bool.{Bool, true, false, not, ◌&&◌}
use mathlib.Core.List.{List, [], ◌∷◌}
use Prim.Native.Nat.{ℕ, zero, suc, ◌-◌, ◌≤◌, ◌<◌}
use native.Mathlib.Omega.{arith}
use lib.ListN.{length, get_or, drop}
use Rattle.std.specs.List.{list_all}
use Rattle.sheet.specs.Forms.{tag, items, at, first_type, alone_row, TYPE}
use Rattle.sheet.specs.State.{bool, long, string, entity, set', record', declareds, type_row}
use Rattle.sheet.specs.Typing.{on_entity, all_in}
use Rattle.sheet.specs.Sheet.{among, each_alone, new_type}
use Rattle.table.specs.Layout.{rows_of}
use Rattle.table.proofs.Rows.{lines_held_law}
use Rattle.forms.specs.Tags.{ENTITY_TYPE}
use Rattle.order.proofs.OrderLaws.{rows_held}

-- whether each kind of a group of row r has a line alone, by the rows of types ts
abbrev all_alone : List (List ℕ) → List ℕ → Bool
all_alone ts r = on_entity true (type_row r) (each_alone ts)

pub alone_other : (ts : List (List ℕ)) (r : List ℕ) (t : ℕ) → t ≡ tag r → (t ≡ ENTITY_TYPE → ⊥) → true ≡ all_alone ts r
alone_other ts r t e n = go (tag r - first_type) refl
  where
    go : (j : ℕ) → j ≡ tag r - first_type → true ≡ on_entity true (get_or (bool ∷ long ∷ string ∷ entity (at r 0) (drop 1 (items r)) ∷ set' (at r 0) ∷ record' (declareds (items r)) ∷ []) j bool) (each_alone ts)
    go zero q = refl
    go (suc zero) q = refl
    go (suc (suc zero)) q = refl
    go (suc (suc (suc zero))) q = absurd (n (omega arith))
    go (suc (suc (suc (suc zero)))) q = refl
    go (suc (suc (suc (suc (suc zero))))) q = refl
    go (suc (suc (suc (suc (suc (suc j)))))) q = refl

-- one kind is no group
pub alone_short : (ts : List (List ℕ)) (r : List ℕ) (t : ℕ) → t ≡ tag r → t ≡ ENTITY_TYPE → length (items r) < 2 → true ≡ all_alone ts r
alone_short ts [] t e q l = absurd (omega arith)
alone_short ts (x ∷ []) t e q l = let z : x ≡ ENTITY_TYPE = sym e ∙ q in rw z refl
alone_short ts (x ∷ y ∷ []) t e q l = let z : x ≡ ENTITY_TYPE = sym e ∙ q in rw z refl
alone_short ts (x ∷ y ∷ z ∷ r) t e q l = absurd (omega arith)

all_same : (p : ℕ → Bool) (l : List ℕ) → list_all p l ≡ all_in p l
all_same p [] = refl
all_same p (x ∷ l) = ap (λ (b : Bool). p x && b) (all_same p l)

-- of two and more each is asked
pub alone_each : (ts : List (List ℕ)) (r : List ℕ) (t : ℕ) → t ≡ tag r → t ≡ ENTITY_TYPE → 2 ≤ length (items r) → list_all (λ (m : ℕ). among (alone_row m) ts) (items r) ≡ all_alone ts r
alone_each ts [] t e q l = absurd (omega arith)
alone_each ts (x ∷ []) t e q l = absurd (omega arith)
alone_each ts (x ∷ y ∷ []) t e q l = absurd (omega arith)
alone_each ts (x ∷ y ∷ z ∷ r) t e q l = let w : x ≡ ENTITY_TYPE = sym e ∙ q in all_same (λ (m : ℕ). among (alone_row m) ts) (y ∷ z ∷ r) ∙ rw w refl

-- ---- a type line that repeats no other

module _ (a r : List ℕ) (b : Bool) (hb : b ≡ not (among r (rows_of a TYPE))) where
  type_new : new_type (rows_held a) r ≡ (b && all_alone (rows_of a TYPE) r)
  type_new = rw (lines_held_law [] a [] TYPE (omega arith) (λ q. absurd (omega arith)), ← hb) refl

  pub type_again : b ≡ false → false ≡ new_type (rows_held a) r
  type_again q = sym (type_new ∙ rw q refl)

  pub type_once : b ≡ true → (v : Bool) → v ≡ all_alone (rows_of a TYPE) r → v ≡ new_type (rows_held a) r
  type_once q v h = h ∙ sym (type_new ∙ rw q refl)
