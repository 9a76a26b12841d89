-- What is under a node, as the code gathers it. Assumes nothing.
use mathlib.Core.Path.{◌≡◌, refl, sym, ap, ap₂, ◌∙◌}
use mathlib.Core.Bool.{Bool, true, false, cond}
use mathlib.Core.List.{List, [], ◌∷◌}
use Prim.Native.Nat.{ℕ, suc, ◌+◌, ◌≤◌, ◌<◌, min}
use native.Mathlib.Numerals.{add-one}
use native.Mathlib.Omega.{arith}
use native.Mathlib.Decide.{dec_lt}
use borrow.Author.Tests.{eq-eqb, ne_eqb, lt-ltb, le-ltb}
use lib.Dec.{ltb, eqb}
use lib.ListN.{length, get_or, drop, length-drop}
use Rattle.sheet.specs.Forms.{tag, items, keep, refs_from, refs, NODE}
use Rattle.table.specs.Layout.{SIZES, SLOTS, SPENT}
use Rattle.forms.specs.Rows.{OF_TYPE, OF_NODE}
use Rattle.forms.specs.Tags.{AND, SLOT, SLOT_P}
use Rattle.uses.specs.declared.Under as D
use Rattle.depths.specs.declared.Places.{Places}
use Rattle.depths.specs.Codes.{places_at, place_code, places_after}
use Rattle.depths.specs.Depths.{OnTwo}
use Rattle.uses.specs.Under.{NO_SLOT, FOR_PRINCIPAL, FOR_RESOURCE, FOR_BOTH, MANY, capped, both_of, own_slot, size_at, slots_at, under, with_under, gathered_on, under_row, spent_on}
use Rattle.depths.proofs.FormTable.{place_here, place_next}
use Rattle.depths.proofs.ThereLaws.{item_in, items_end}
use Rattle.depths.proofs.DepthLaws.{refs_at, on_type, on_first, on_second}
use Rattle.uses.proofs.UseLaws.{refs_before}

-- ---- sums up to one too many, and slots of two

pub capped_min : (n : ℕ) → capped n ≡ min n MANY
unfolding capped
capped_min n = go (dec_lt n MANY)
  where
    go : Dec (n < MANY) → cond (ltb n MANY) n MANY ≡ min n MANY
    go (yes h) = rw (lt-ltb n MANY h) (omega arith)
    go (no h) = rw (le-ltb n MANY (omega arith)) (omega arith)

pub sum_is : (n m : ℕ) → m ≡ min n MANY → m ≡ capped n
sum_is n m h = h ∙ sym (capped_min n)

module _ (x y : ℕ) where
  pub both_same : x ≡ y → x ≡ both_of x y
  unfolding both_of
  both_same e = sym (rw (eq-eqb x y e) refl)

  module _ (n : x ≡ y → ⊥) where
    pub both_second : x ≡ NO_SLOT → y ≡ both_of x y
    unfolding both_of
    both_second e = sym (rw (ne_eqb x y n, eq-eqb x NO_SLOT e) refl)

    module _ (f : x ≡ NO_SLOT → ⊥) where
      pub both_first : y ≡ NO_SLOT → x ≡ both_of x y
      unfolding both_of
      both_first e = sym (rw (ne_eqb x y n, ne_eqb x NO_SLOT f, eq-eqb y NO_SLOT e) refl)

      pub both_two : (y ≡ NO_SLOT → ⊥) → FOR_BOTH ≡ both_of x y
      unfolding both_of
      both_two g = sym (rw (ne_eqb x y n, ne_eqb x NO_SLOT f, ne_eqb y NO_SLOT g) refl)

-- ---- the slot that a row is

module _ (r : List ℕ) (t : ℕ) (e : t ≡ tag r) where
  pub slot_none : (t ≡ SLOT → ⊥) → NO_SLOT ≡ own_slot r
  unfolding own_slot
  slot_none n = sym (rw (← e, ne_eqb t SLOT n) refl)

  module _ (s : t ≡ SLOT) (x : ℕ) (hx : x ≡ get_or r 2 0) where
    pub slot_first : x ≡ SLOT_P → FOR_PRINCIPAL ≡ own_slot r
    unfolding own_slot
    slot_first h = sym (rw (← e, eq-eqb t SLOT s, ← hx, eq-eqb x SLOT_P h) refl)

    pub slot_second : (x ≡ SLOT_P → ⊥) → FOR_RESOURCE ≡ own_slot r
    unfolding own_slot
    slot_second h = sym (rw (← e, eq-eqb t SLOT s, ← hx, ne_eqb x SLOT_P h) refl)

-- ---- what is noted of a node

module _ (a b : List ℕ) (x n : ℕ) (hn : n ≡ get_or a NODE 0) where
  pub noted_none : n ≤ x → under 0 NO_SLOT ≡ under (size_at a b x) (slots_at a b x)
  unfolding size_at slots_at
  noted_none h = sym (rw (← hn, le-ltb x n h) refl)

  pub noted_some : x < n → (v s : ℕ) → v ≡ get_or b (SIZES + x) 0 → s ≡ get_or b (SLOTS + x) 0 → under v s ≡ under (size_at a b x) (slots_at a b x)
  unfolding size_at slots_at
  noted_some h v s hv hs = ap₂ under hv hs ∙ sym (rw (← hn, lt-ltb x n h) refl)

-- the uses of the policies and of one more
pub spent_sum : (a b r : List ℕ) (x i n : ℕ) (v : D.Under) → x ≡ get_or b SPENT 0 → i ≡ get_or r 3 0 → v ≡ under (size_at a b i) (slots_at a b i) → n ≡ capped (x + v.size) → n ≡ spent_on a b r
unfolding spent_on
spent_sum a b r x i n v hx hi hv hn = hn ∙ ap₂ (λ (y z : ℕ). capped (y + z)) hx (ap (λ (u : D.Under). u.size) hv ∙ ap (size_at a b) hi)

-- ---- with one node more

module _ (a b : List ℕ) (c x : ℕ) (u : D.Under) where
  pub node_other : (c ≡ OF_NODE → ⊥) → u ≡ gathered_on a b (keep (eqb c OF_NODE) x []) u
  unfolding gathered_on
  node_other n = sym (rw (ne_eqb c OF_NODE n) refl)

  pub node_more : c ≡ OF_NODE → (v w : D.Under) → v ≡ under (size_at a b x) (slots_at a b x) → w ≡ with_under u v → w ≡ gathered_on a b (keep (eqb c OF_NODE) x []) u
  unfolding gathered_on
  node_more e v w hv hw = rw (eq-eqb c OF_NODE e) (hw ∙ ap (with_under u) hv)

gathered_keep : (a b : List ℕ) (v : Bool) (x : ℕ) (l : List ℕ) (u : D.Under) → gathered_on a b (keep v x l) u ≡ gathered_on a b l (gathered_on a b (keep v x []) u)
unfolding gathered_on
gathered_keep a b true x l u = refl
gathered_keep a b false x l u = refl

-- ---- the nodes of a row, in turn

pub record Gathering (a b r : List ℕ) (p : Places) (u : D.Under) (j : ℕ) : Type 0 where
  pub left : under_row a b r ≡ gathered_on a b (refs_from NODE (tag r) j (drop (suc j) r)) u
  pub places : p ≡ places_at (tag r) j

pub gathering_start : (a b r : List ℕ) (t s : ℕ) (p : Places) → t ≡ tag r → p ≡ places_at t 0 → s ≡ own_slot r → Gathering a b r p (under 1 s) 0
unfolding under_row refs
gathering_start a b r t s p ht hp hs =
    record {
      left = ap (λ (y : ℕ). gathered_on a b (refs_from NODE (tag r) 0 (items r)) (under 1 y)) (sym hs);
      places = hp ∙ ap (λ (x : ℕ). places_at x 0) ht;
    }

module _ (a b r : List ℕ) (p : Places) (u : D.Under) (j : ℕ) (i : Gathering a b r p u j) where
  pub gathering_on : (x c : ℕ) → j < length (items r) → c ≡ place_code p → x ≡ get_or (items r) j 0 → (v : D.Under) → v ≡ gathered_on a b (keep (eqb c OF_NODE) x []) u → (q : Places) → q ≡ places_after p → Gathering a b r q v (j + 1)
  gathering_on x c h hc hx v hv q hq =
      let here = item_in r j x h hx in
      let rest = refs_from NODE (tag r) (suc j) (drop (suc (suc j)) r) in
      record {
        left = i.left ∙ ap (λ (l : List ℕ). gathered_on a b l u) (refs_at NODE (omega arith) r j (tag r) x c refl here.0 here.1 (place_here (tag r) j p c i.places hc)) ∙ gathered_keep a b (eqb c OF_NODE) x rest u ∙ ap (gathered_on a b rest) (sym hv)
            ∙ ap (λ (n : ℕ). gathered_on a b (refs_from NODE (tag r) n (drop (suc n) r)) v) (sym (add-one j));
        places = place_next (tag r) j p q i.places hq;
      }

  pub gathering_end : length (items r) ≤ j → u ≡ under_row a b r
  unfolding gathered_on
  gathering_end h = sym (i.left ∙ ap (λ (l : List ℕ). gathered_on a b (refs_from NODE (tag r) j l) u) (items_end r j (omega (arith, length-drop 1 r))))

-- ---- rows without nodes, and nodes that work on two

pub under_leaf : (a b r : List ℕ) (t : ℕ) → t ≡ tag r → t < AND → under 1 NO_SLOT ≡ under_row a b r
unfolding under_row gathered_on
under_leaf a b r t e h = sym (rw (refs_before r t e h) (ap (under 1) (sym (slot_none r t e (λ q. absurd (omega arith))))))

refs_two : (r : List ℕ) → OnTwo r → refs NODE r ≡ get_or r 2 0 ∷ get_or r 3 0 ∷ []
unfolding refs
refs_two r two =
    refs_at NODE (omega arith) r 0 (tag r) (get_or r 1 0) OF_TYPE refl (omega (arith, two.long)) refl (on_type [] [] r two)
    ∙ refs_at NODE (omega arith) r 1 (tag r) (get_or r 2 0) OF_NODE refl (omega (arith, two.long)) refl (on_first [] [] r two)
    ∙ ap (λ (l : List ℕ). get_or r 2 0 ∷ l)
    (refs_at NODE (omega arith) r 2 (tag r) (get_or r 3 0) OF_NODE refl (omega (arith, two.long)) refl (on_second [] [] r two)
    ∙ ap (λ (l : List ℕ). get_or r 3 0 ∷ refs_from NODE (tag r) 3 l) (items_end r 3 (omega (arith, two.long))))

pub under_two_law : (a b r : List ℕ) → OnTwo r → (x y : ℕ) (u v w w' : D.Under) → x ≡ get_or r 2 0 → y ≡ get_or r 3 0 → u ≡ under (size_at a b x) (slots_at a b x) → w ≡ with_under (under 1 NO_SLOT) u
    → v ≡ under (size_at a b y) (slots_at a b y) → w' ≡ with_under w v → w' ≡ under_row a b r
unfolding under_row gathered_on
under_two_law a b r two x y u v w w' hx hy hu hw hv hw' =
    let none : own_slot r ≡ NO_SLOT = sym (slot_none r (tag r) refl (λ q. absurd (omega (arith, two.high, q)))) in
    let noted : ℕ → D.Under = λ z. under (size_at a b z) (slots_at a b z) in
    rw (refs_two r two, none) (hw' ∙ ap₂ with_under (hw ∙ ap (with_under (under 1 NO_SLOT)) (hu ∙ ap noted hx)) (hv ∙ ap noted hy))
