-- The values that a link gives to the slots of its policy, as the code looks at them. Assumes nothing.
use mathlib.Core.Path.{◌≡◌, refl, sym, ap, ap₂, ◌∙◌}
use mathlib.Core.Bool.{Bool, true, false, cond, not, ◌&&◌, ◌||◌}
use mathlib.Core.List.{List, []}
use Prim.Native.Nat.{ℕ}
use lib.Dec.{eqb}
use lib.ListN.{get_or}
use native.Mathlib.Omega.{arith}
use Rattle.sheet.specs.Forms.{at, mark, POLICY, LINK}
use Rattle.sheet.specs.State.{line_at}
use Rattle.sheet.specs.Typing.{nodes_under, nodes_of}
use Rattle.sheet.specs.Sheet.{has_slot, above, slot_given}
use Rattle.table.specs.Layout.{rows_of}
use Rattle.table.proofs.Rows.{lines_held_law}
use Rattle.uses.specs.declared.Under.{Under}
use Rattle.uses.specs.Under.{NO_SLOT, FOR_PRINCIPAL, FOR_RESOURCE, FOR_BOTH, size_at, slots_at, slots_of, under, Noted}
use Rattle.order.proofs.OrderLaws.{rows_held}
use Rattle.uses.proofs.NotedLaws.{noted_slots}

-- ---- which slots are there

-- the principal's and the resource's, by the number that says which
module _ (rs : List (List ℕ)) (n : ℕ) (e : n ≡ slots_of rs) where
  pub has_first : (eqb n FOR_PRINCIPAL || eqb n FOR_BOTH) ≡ has_slot 0 rs
  unfolding slots_of
  has_first = rw e (go (has_slot 0 rs) (has_slot 1 rs))
    where
      go : (p q : Bool) → (eqb (cond p (cond q FOR_BOTH FOR_PRINCIPAL) (cond q FOR_RESOURCE NO_SLOT)) FOR_PRINCIPAL || eqb (cond p (cond q FOR_BOTH FOR_PRINCIPAL) (cond q FOR_RESOURCE NO_SLOT)) FOR_BOTH) ≡ p
      go true true = refl
      go true false = refl
      go false true = refl
      go false false = refl

  pub has_second : (eqb n FOR_RESOURCE || eqb n FOR_BOTH) ≡ has_slot 1 rs
  unfolding slots_of
  has_second = rw e (go (has_slot 0 rs) (has_slot 1 rs))
    where
      go : (p q : Bool) → (eqb (cond p (cond q FOR_BOTH FOR_PRINCIPAL) (cond q FOR_RESOURCE NO_SLOT)) FOR_RESOURCE || eqb (cond p (cond q FOR_BOTH FOR_PRINCIPAL) (cond q FOR_RESOURCE NO_SLOT)) FOR_BOTH) ≡ q
      go true true = refl
      go true false = refl
      go false true = refl
      go false false = refl

-- ---- the values of both

module _ (a b r : List ℕ) (i : Noted a b) (k : ℕ) (q : List ℕ) (root : ℕ) (hk : k ≡ get_or r 1 0) (hq : q ≡ get_or (rows_of a POLICY) k []) (hr : root ≡ get_or q 3 0)
    (u : Under) (hu : u ≡ under (size_at a b root) (slots_at a b root)) where
  abbrev both : Bool
  both = slot_given (rows_held a) r 0 && slot_given (rows_held a) r 1

  root_is : root ≡ at (line_at (rows_held a) POLICY (at r 0)) 2
  root_is = hr ∙ ap (λ (l : List ℕ). get_or l 3 0) (hq ∙ ap₂ (λ (rs : List (List ℕ)) (j : ℕ). get_or rs j []) (sym (lines_held_law [] a [] POLICY (omega arith) (λ z. absurd (omega arith)))) hk)

  slots_are : u.slots ≡ slots_of (nodes_of (rows_held a) (at r 0))
  slots_are = ap (λ (v : Under). v.slots) hu ∙ noted_slots a b i root ∙ ap (λ (m : ℕ). slots_of (nodes_under (rows_held a) m)) root_is

  -- the principal's value, and whether it is there
  module _ (p : Bool) (hp : p ≡ (eqb u.slots FOR_PRINCIPAL || eqb u.slots FOR_BOTH)) (x : ℕ) (hx : x ≡ get_or r 2 0) (v : Bool) (hv : v ≡ cond p (not (eqb x mark)) (eqb x mark)) where
    first_is : v ≡ slot_given (rows_held a) r 0
    first_is = hv ∙ ap₂ (λ (t : Bool) (y : ℕ). cond t (not (eqb y mark)) (eqb y mark)) (hp ∙ has_first (nodes_of (rows_held a) (at r 0)) u.slots slots_are) hx

    pub first_off : v ≡ false → false ≡ both
    first_off e = sym (rw (← first_is, e) refl)

    pub first_on : v ≡ true → (s : Bool) → s ≡ (eqb u.slots FOR_RESOURCE || eqb u.slots FOR_BOTH) → (y : ℕ) → y ≡ get_or r 3 0 → (w : Bool) → w ≡ cond s (not (eqb y mark)) (eqb y mark) → w ≡ both
    first_on e s hs y hy w hw =
        let second : w ≡ slot_given (rows_held a) r 1 = hw ∙ ap₂ (λ (t : Bool) (z : ℕ). cond t (not (eqb z mark)) (eqb z mark)) (hs ∙ has_second (nodes_of (rows_held a) (at r 0)) u.slots slots_are) hy in
        second ∙ sym (rw (← first_is, e) refl)

-- ---- and the order

module _ (a r : List ℕ) (b : Bool) (hb : b ≡ above (rows_held a) LINK r) where
  pub link_below : b ≡ false → false ≡ (above (rows_held a) LINK r && (slot_given (rows_held a) r 0 && slot_given (rows_held a) r 1))
  link_below n = sym (rw (← hb, n) refl)

  pub link_above : b ≡ true → (v : Bool) → v ≡ (slot_given (rows_held a) r 0 && slot_given (rows_held a) r 1) → v ≡ (above (rows_held a) LINK r && (slot_given (rows_held a) r 0 && slot_given (rows_held a) r 1))
  link_above n v hv = hv ∙ sym (rw (← hb, n) refl)
