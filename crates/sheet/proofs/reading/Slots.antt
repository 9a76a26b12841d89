-- What stands at the places of a node line that repeat: the items of `like`, `haspath`, `set` and `record`.
use mathlib.Core.Path.{◌≡◌, ap₂}
use mathlib.Core.Bool.{cond}
use mathlib.Core.List.{[], ◌∷◌}
use Prim.Native.Nat.{ℕ, suc, ◌+◌, ◌-◌, ◌%◌}
use native.Mathlib.Omega.{arith}
use borrow.Author.Tests.{le-ltb}
use lib.ListN.{get_or}
use Rattle.sheet.specs.Forms.{line, line_or, nothing, forms, form_of, slot_at, NODE}

pub like_slot : (j : ℕ) → slot_at 40 (suc (suc j)) ≡ line_or 42 1
unfolding slot_at form_of forms
like_slot j = let d : (suc (suc j) - 2) % 1 ≡ 0 = omega arith in ap₂ (λ b d. cond b (get_or (line 3 ∷ line NODE ∷ []) (suc (suc j)) nothing) (get_or (line_or 42 1 ∷ []) d nothing)) (le-ltb (suc (suc j)) 2 (omega arith)) d

pub path_slot : (j : ℕ) → slot_at 43 (suc (suc (suc j))) ≡ line 1
unfolding slot_at form_of forms
path_slot j = let d : (suc (suc (suc j)) - 3) % 1 ≡ 0 = omega arith in ap₂ (λ b d. cond b (get_or (line 3 ∷ line NODE ∷ line 1 ∷ []) (suc (suc (suc j))) nothing) (get_or (line 1 ∷ []) d nothing)) (le-ltb (suc (suc (suc j))) 3 (omega arith)) d

pub set_slot : (j : ℕ) → slot_at 47 (suc j) ≡ line NODE
unfolding slot_at form_of forms
set_slot j = let d : (suc j - 1) % 1 ≡ 0 = omega arith in ap₂ (λ b d. cond b (get_or (line 3 ∷ []) (suc j) nothing) (get_or (line NODE ∷ []) d nothing)) (le-ltb (suc j) 1 (omega arith)) d

pub name_slot : (i : ℕ) → slot_at 48 (suc (i + i)) ≡ line 1
unfolding slot_at form_of forms
name_slot i = let d : (suc (i + i) - 1) % 2 ≡ 0 = omega arith in ap₂ (λ b d. cond b (get_or (line 3 ∷ []) (suc (i + i)) nothing) (get_or (line 1 ∷ line NODE ∷ []) d nothing)) (le-ltb (suc (i + i)) 1 (omega arith)) d

pub field_slot : (i : ℕ) → slot_at 48 (suc (suc (i + i))) ≡ line NODE
unfolding slot_at form_of forms
field_slot i = let d : (suc (suc (i + i)) - 1) % 2 ≡ 1 = omega arith in ap₂ (λ b d. cond b (get_or (line 3 ∷ []) (suc (suc (i + i))) nothing) (get_or (line 1 ∷ line NODE ∷ []) d nothing)) (le-ltb (suc (suc (i + i))) 1 (omega arith)) d
