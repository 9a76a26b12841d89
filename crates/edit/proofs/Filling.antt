-- One line for another, by the tests of the code. Assumes nothing.
use Rattle.std.proofs.Common.{nat_eq}
use Rattle.std.specs.List.{list_any}
use mathlib.Core.Path.{◌≡◌, refl, sym, ap, ap₂, ◌∙◌}
use mathlib.Core.Bool.{Bool, true, false, ◌&&◌, ◌||◌, not}
use mathlib.Core.List.{List, [], ◌∷◌}
use Prim.Native.Nat.{ℕ, suc, ◌+◌, ◌≤◌, ◌<◌}
use native.Mathlib.Omega.{arith}
use native.Mathlib.Decide.{dec_le}
use borrow.Author.Tests.{le-leb, lt-leb, not-true, not-false, eq-eqb, ne_eqb, eqb-true, eqb-false}
use lib.Dec.{leb, eqb}
use lib.ListN.{length, take, drop}
use Rattle.words.specs.Log.{part}
use Rattle.cedar.specs.Types.{among}
use Rattle.sheet.specs.Ascii.{ascii}
use Rattle.sheet.specs.Bytes.{up_to, split, same}
use Rattle.scan.specs.Places.{parts_from}
use Rattle.scan.proofs.Splits.{split_parts, split_at, from_on, from_end}
use Rattle.previewed.specs.Preview.{key_in, items_in, may_fill, fills_only, fills}

-- a search from the start
at_start : (c : ℕ) (l : List ℕ) (e : ℕ) → e ≡ 0 + up_to c (drop 0 l) → e ≡ up_to c l
at_start c l e f = omega arith

-- ---- the key

and_true : (t : Bool) → (t && true) ≡ t
and_true true = refl
and_true false = refl

-- ---- an item

module _ (old new : List ℕ) (t : Bool) (s : t ≡ same old new) where
  pub was_unknown : t ≡ false → (u : Bool) → u ≡ same old (ascii "?") → u ≡ (same old new || same old (ascii "?"))
  was_unknown e u q = rw (← s, e) q

-- ---- the items of two values

-- where the comparison stands: the next items begin at i and at j
pub record Filling (old new : List ℕ) (i j : ℕ) : Type 0 where
  pub near_old : i ≤ length old
  pub near_new : j ≤ length new
  pub left : fills_only (split 44 old) (split 44 new) ≡ fills_only (split 44 (drop i old)) (split 44 (drop j new))

module _ (old new : List ℕ) (i j e f : ℕ) (k : Filling old new i j) (p : e ≡ i + up_to 44 (drop i old)) (q : f ≡ j + up_to 44 (drop j new))
    (x y : List ℕ) (xp : x ≡ part old i e) (yp : y ≡ part new j f) (b : Bool) (s : b ≡ (same x y || same x (ascii "?"))) where
  here : fills_only (split 44 old) (split 44 new) ≡ (b && fills_only (parts_from 44 old (e + 1)) (parts_from 44 new (f + 1)))
  here =
      k.left ∙ ap₂ fills_only (split_at 44 old i e k.near_old p) (split_at 44 new j f k.near_new q)
      ∙ ap (λ (t : Bool). t && fills_only (parts_from 44 old (e + 1)) (parts_from 44 new (f + 1)))
      (ap₂ (λ (v w : List ℕ). same v w || same v (ascii "?")) (sym xp) (sym yp) ∙ sym s)

  pub filling_other : not b ≡ true → false ≡ fills_only (split 44 old) (split 44 new)
  filling_other n = sym (here ∙ rw (not-true b n) refl)

  module _ (n : not b ≡ false) where
    on : fills_only (split 44 old) (split 44 new) ≡ fills_only (parts_from 44 old (e + 1)) (parts_from 44 new (f + 1))
    on = here ∙ rw (not-false b n) refl

    pub filling_end : length old ≤ e → (t : Bool) → t ≡ leb (length new) f → t ≡ fills_only (split 44 old) (split 44 new)
    filling_end h t g = go (dec_le (length new) f)
      where
        go : Dec (length new ≤ f) → t ≡ fills_only (split 44 old) (split 44 new)
        go (yes l) = g ∙ le-leb (length new) f l ∙ sym (on ∙ ap₂ fills_only (from_end 44 old (e + 1) (omega arith)) (from_end 44 new (f + 1) (omega arith)))
        go (no l) =
            g ∙ lt-leb (length new) f (omega arith)
            ∙ sym (on ∙ ap₂ fills_only (from_end 44 old (e + 1) (omega arith)) (from_on 44 new (f + 1) (omega arith)) ∙ ap (fills_only []) (split_parts 44 (drop (f + 1) new)))

    pub filling_more : e < length old → length new ≤ f → false ≡ fills_only (split 44 old) (split 44 new)
    filling_more h g =
        sym (on ∙ ap₂ fills_only (from_on 44 old (e + 1) (omega arith) ∙ split_parts 44 (drop (e + 1) old)) (from_end 44 new (f + 1) (omega arith)))

    pub filling_on : e < length old → f < length new → Filling old new (e + 1) (f + 1)
    filling_on h g = record {
      near_old = omega arith;
      near_new = omega arith;
      left = on ∙ ap₂ fills_only (from_on 44 old (e + 1) (omega arith)) (from_on 44 new (f + 1) (omega arith));
    }

-- ---- the whole line

-- the key is the same, and some items are filled
abbrev Filled : List ℕ → List ℕ → Bool
Filled old new = same (key_in old) (key_in new) && (fills_only (items_in old) (items_in new) && not (same old new))

module _ (old new : List ℕ) (t : Bool) (s : t ≡ same old new) where
  module _ (other : t ≡ false) (was is : ℕ) (p : was ≡ 0 + up_to 61 (drop 0 old)) (q : is ≡ 0 + up_to 61 (drop 0 new)) (x y : List ℕ) (xp : x ≡ take was old) (yp : y ≡ take is new)
      (b : Bool) (kb : b ≡ not (same x y)) where
    keys_are : same (key_in old) (key_in new) ≡ same x y
    keys_are = ap₂ same (ap (λ (i : ℕ). take i old) (sym (at_start 61 old was p)) ∙ sym xp) (ap (λ (i : ℕ). take i new) (sym (at_start 61 new is q)) ∙ sym yp)

    pub filled_key : b ≡ true → false ≡ Filled old new
    filled_key n = sym (ap (λ (u : Bool). u && (fills_only (items_in old) (items_in new) && not (same old new))) (keys_are ∙ not-true (same x y) (sym kb ∙ n)))

    pub filled_items : b ≡ false → (u v : List ℕ) → u ≡ drop (was + 1) old → v ≡ drop (is + 1) new → (r : Bool) → r ≡ fills_only (split 44 u) (split 44 v) → r ≡ Filled old new
    filled_items n u v up vp r f =
        let z : was + 1 ≡ suc (up_to 61 old) = omega (arith, at_start 61 old was p) in
        let w : is + 1 ≡ suc (up_to 61 new) = omega (arith, at_start 61 new is q) in
        f ∙ ap₂ (λ (k l : List ℕ). fills_only (split 44 k) (split 44 l)) (up ∙ ap (λ (i : ℕ). drop i old) z) (vp ∙ ap (λ (i : ℕ). drop i new) w)
        ∙ sym (ap₂ (λ (k l : Bool). k && (fills_only (items_in old) (items_in new) && not l)) (keys_are ∙ not-false (same x y) (sym kb ∙ n)) (sym s ∙ other) ∙ and_true (fills_only (items_in old) (items_in new)))

among_any : (c : ℕ) (l : List ℕ) → list_any (λ y. nat_eq y c) l ≡ among c l
among_any c [] = refl
among_any c (x ∷ l) = ap₂ (λ (a b : Bool). a || b) (same_test x c) (among_any c l)
  where
    same_test : (x y : ℕ) → eqb x y ≡ eqb y x
    same_test x y = go (eqb x y) refl
      where
        go : (t : Bool) → eqb x y ≡ t → t ≡ eqb y x
        go true e = sym (eq-eqb y x (sym (eqb-true x y e)))
        go false e = sym (ne_eqb y x (λ z. eqb-false x y e (sym z)))

module _ (old new : List ℕ) (t : Bool) (f : t ≡ list_any (λ y. nat_eq y 10) new) where
  abbrev rules : Bool → Bool → Bool → Bool → Bool
  rules a b c d = not a && (b && (c && d))

  lone : among 10 new ≡ t
  lone = sym (f ∙ among_any 10 new)

  pub fills_two_lines : t ≡ true → false ≡ fills old new
  unfolding fills
  fills_two_lines h = sym (ap (λ (u : Bool). rules u (may_fill old) (may_fill new) (Filled old new)) (lone ∙ h))

  module _ (h : t ≡ false) (b : Bool) (bp : b ≡ may_fill old) where
    pub fills_old : not b ≡ true → false ≡ fills old new
    unfolding fills
    fills_old n = sym (ap₂ (λ (u v : Bool). rules u v (may_fill new) (Filled old new)) (lone ∙ h) (sym bp ∙ not-true b n))

    module _ (n : not b ≡ false) (c : Bool) (cp : c ≡ may_fill new) where
      pub fills_new : not c ≡ true → false ≡ fills old new
      unfolding fills
      fills_new m = sym (ap₂ (λ (u v : Bool). rules u v (may_fill new) (Filled old new)) (lone ∙ h) (sym bp ∙ not-false b n) ∙ ap (λ (w : Bool). w && Filled old new) (sym cp ∙ not-true c m))

      pub fills_so : not c ≡ false → (d : Bool) → d ≡ Filled old new → d ≡ fills old new
      unfolding fills
      fills_so m d g =
          g ∙ sym (ap₂ (λ (u v : Bool). rules u v (may_fill new) (Filled old new)) (lone ∙ h) (sym bp ∙ not-false b n) ∙ ap (λ (w : Bool). w && Filled old new) (sym cp ∙ not-false c m))
