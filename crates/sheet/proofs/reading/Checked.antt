-- What holds of each number of a call holds of what it returns: 1, 2, 3 to 8 of a reading, and what follows. A sheet is accepted exactly if
-- it is short enough and read without fault.
use mathlib.Core.Path.{◌≡◌, refl, ap₂}
use mathlib.Core.Bool.{Bool, true, false, cond, ◌||◌}
use mathlib.Core.List.{List}
use Prim.Native.Nat.{ℕ, zero, suc, ◌≤◌}
use native.Mathlib.Omega.{arith}
use borrow.Author.Tests.{ltb-false, le-ltb}
use lib.Dec.{ltb}
use lib.ListN.{length}
use Rattle.sheet.specs.Forms.{Mode}
use Rattle.sheet.specs.Sheet.{read}
use Rattle.sheet.specs.Answer.{answer}
use Rattle.sheet.specs.Call.{Returned, returns, room, lent_then, short_then, refused_then, read_then, checked_then, fitted, returned, Accepted}
use Rattle.sheet.proofs.reading.Lines.{zero_not_suc}

module _ (P : Returned → Type 0) where
  pub lent_by : (work₁ work₂ : ℕ) (r : Returned) → ((ltb work₁ room || ltb work₂ room) ≡ true → P (returns 1 0 0)) → ((ltb work₁ room || ltb work₂ room) ≡ false → P r) → P (lent_then work₁ work₂ r)
  lent_by work₁ work₂ r one then = go (ltb work₁ room || ltb work₂ room) refl
    where
      go : (b : Bool) → (ltb work₁ room || ltb work₂ room) ≡ b → P (cond b (returns 1 0 0) r)
      go true e = one e
      go false e = then e

  pub short_by : (sheet : List ℕ) (r : Returned) → P (returns 2 0 0) → (length sheet ≤ room → P r) → P (short_then sheet r)
  short_by sheet r two then = go (ltb room (length sheet)) refl
    where
      go : (b : Bool) → ltb room (length sheet) ≡ b → P (cond b (returns 2 0 0) r)
      go true e = two
      go false e = then (ltb-false room (length sheet) e)

  pub read_by : (m : Mode) (sheet : List ℕ) (r : Returned) → ((n : ℕ) → (read m sheet).number ≡ suc n → P (returns (suc n) (read m sheet).line 0)) → ((read m sheet).number ≡ 0 → P r) → P (read_then m sheet r)
  read_by m sheet r refused then = go (read m sheet).number refl
    where
      go : (n : ℕ) → (read m sheet).number ≡ n → P (refused_then n (read m sheet).line r)
      go zero e = then e
      go (suc n) e = refused n e

  pub checked_by : (m : Mode) (sheet : List ℕ) (r : Returned) → P (returns 2 0 0) → ((n : ℕ) → (read m sheet).number ≡ suc n → P (returns (suc n) (read m sheet).line 0)) → (length sheet ≤ room → (read m sheet).number ≡ 0 → P r) → P (checked_then m sheet r)
  checked_by m sheet r two refused then = short_by sheet (read_then m sheet r) two (λ h. read_by m sheet r refused (then h))

-- a refusal by these checks is the same, whatever follows them
pub same_refusal : (m : Mode) (sheet : List ℕ) (work₁ work₂ : ℕ) (r r' : Returned) → (lent_then work₁ work₂ (checked_then m sheet r) ≡ r → ⊥)
    → lent_then work₁ work₂ (checked_then m sheet r) ≡ lent_then work₁ work₂ (checked_then m sheet r')
same_refusal m sheet work₁ work₂ r r' = go (ltb work₁ room || ltb work₂ room) (ltb room (length sheet)) (read m sheet).number
  where
    k : ℕ
    k = (read m sheet).line

    go : (x y : Bool) (n : ℕ) → (cond x (returns 1 0 0) (cond y (returns 2 0 0) (refused_then n k r)) ≡ r → ⊥)
        → cond x (returns 1 0 0) (cond y (returns 2 0 0) (refused_then n k r)) ≡ cond x (returns 1 0 0) (cond y (returns 2 0 0) (refused_then n k r'))
    go true y n f = refl
    go false true n f = refl
    go false false zero f = absurd (f refl)
    go false false (suc n) f = refl

-- ---- an accepted sheet

pub accepted_read : (m : Mode) (sheet : List ℕ) → Accepted m sheet → (read m sheet).number ≡ 0
unfolding returned
accepted_read m sheet a =
    let r = fitted a.out (length (answer m (read m sheet).state)) in
    lent_by Read a.work₁ a.work₂ (checked_then m sheet r) (λ t e. zero_not_suc e) (λ t. checked_by Read m sheet r (λ e. zero_not_suc e) (λ n q e. zero_not_suc e) (λ h q e. q)) a.zero_number
  where
    Read : Returned → Type 0
    Read r = r.number ≡ 0 → (read m sheet).number ≡ 0

pub accepted_short : (m : Mode) (sheet : List ℕ) → Accepted m sheet → length sheet ≤ room
unfolding returned
accepted_short m sheet a =
    let r = fitted a.out (length (answer m (read m sheet).state)) in
    lent_by Short a.work₁ a.work₂ (checked_then m sheet r) (λ t e. zero_not_suc e) (λ t. checked_by Short m sheet r (λ e. zero_not_suc e) (λ n q e. zero_not_suc e) (λ h q e. h)) a.zero_number
  where
    Short : Returned → Type 0
    Short r = r.number ≡ 0 → length sheet ≤ room

roomy : (m : Mode) (sheet : List ℕ) → length sheet ≤ room → (read m sheet).number ≡ 0 → (returned m room room (length (answer m (read m sheet).state)) sheet).number ≡ 0
unfolding returned
roomy m sheet h e = rw (le-ltb room (length sheet) h) (rw e (rw (le-ltb (length (answer m (read m sheet).state)) (length (answer m (read m sheet).state)) (omega arith))))

pub accepted_from : (m : Mode) (sheet : List ℕ) → length sheet ≤ room → (read m sheet).number ≡ 0 → Accepted m sheet
accepted_from m sheet h e = record { work₁ = room; work₂ = room; out = length (answer m (read m sheet).state); zero_number = roomy m sheet h e }

-- its checks are passed
pub passes : (m : Mode) (sheet : List ℕ) (r : Returned) → Accepted m sheet → checked_then m sheet r ≡ r
passes m sheet r a = ap₂ (λ b n. cond b (returns 2 0 0) (refused_then n (read m sheet).line r)) (le-ltb room (length sheet) (accepted_short m sheet a)) (accepted_read m sheet a)
