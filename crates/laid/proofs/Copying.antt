-- Places moved in a row's own words. Assumes nothing.
use mathlib.Core.Path.{◌≡◌, refl, sym, ap, ◌∙◌, subst}
use mathlib.Core.Bool.{Bool, cond}
use mathlib.Core.List.{List}
use Prim.Native.Nat.{ℕ, ◌+◌, ◌≤◌, ◌<◌}
use native.Mathlib.Omega.{arith}
use native.Mathlib.Decide.{ℕ_discrete}
use borrow.Author.Tests.{lt-ltb, le-ltb}
use lib.ListN.{length, get_or, drop, set, length-set}
use lib.Seq.{sets, get_or-set_same, get_or-set_other}
use Rattle.forms.proofs.Keys.{regions_rise, regions_low, regions_high}
use Rattle.table.specs.Layout.{TOP, heap, base, limit}
use Rattle.laid.specs.Laid.{AHEAD, moved, Ends, MovesRows, Moves}

-- ---- a place moved

pub moved_far : (x : ℕ) → 16384 < x → x ≡ moved x
unfolding moved
moved_far x h = sym (ap (λ (t : Bool). cond t x (x + AHEAD)) (lt-ltb 16384 x h))

pub moved_near : (x : ℕ) → x ≤ 16384 → x + 6 ≡ moved x
unfolding moved
moved_near x h = sym (ap (λ (t : Bool). cond t x (x + AHEAD)) (le-ltb 16384 x h))

-- ---- the places of a key's rows

-- from s up to i they are moved
pub record Moving (a w₀ : List ℕ) (s : ℕ) (w : List ℕ) (i : ℕ) : Type 0 where
  pub long : length w ≡ length w₀
  pub most : i ≤ heap
  pub least : s ≤ i
  pub moves : (j : ℕ) → s ≤ j → j < i → get_or w j 0 ≡ moved (get_or a j 0)
  pub below : (j : ℕ) → j < s → get_or w j 0 ≡ get_or w₀ j 0
  pub above : (j : ℕ) → i ≤ j → get_or w j 0 ≡ get_or w₀ j 0

pub moving_start : (a w : List ℕ) (s : ℕ) → s < heap → Moving a w s w s
moving_start a w s h = record { long = refl; most = omega (arith, h); least = omega arith; moves = λ j p q. absurd (omega (arith, p, q)); below = λ j p. refl; above = λ j p. refl }

module _ (a w₀ : List ℕ) (s : ℕ) (w : List ℕ) (i : ℕ) (m : Moving a w₀ s w i) where
  pub moving_on : (k e x : ℕ) → x ≡ moved (get_or a i 0) → Ends a k e → i < e → heap ≤ length w₀ → Moving a w₀ s (set w i x) (i + 1)
  moving_on k e x is z h l = record {
    long = length-set w i x ∙ m.long;
    most = omega (arith, h, z.most);
    least = omega (arith, m.least);
    moves = λ j p q. go j p q (ℕ_discrete j i);
    below = λ j p. get_or-set_other w i j x 0 (omega (arith, p, m.least)) ∙ m.below j p;
    above = λ j p. get_or-set_other w i j x 0 (omega (arith, p)) ∙ m.above j (omega (arith, p));
  }
    where
      go : (j : ℕ) → s ≤ j → j < i + 1 → Dec (j ≡ i) → get_or (set w i x) j 0 ≡ moved (get_or a j 0)
      go j p q (yes d) = rw d (get_or-set_same w i x 0 (omega (arith, h, l, m.long, z.most)) ∙ is)
      go j p q (no d) = get_or-set_other w i j x 0 d ∙ m.moves j p (omega (arith, q, d))

  pub moving_end : (k e : ℕ) → s ≡ base k → Ends a k e → e ≤ i → MovesRows k a w₀ w
  moving_end k e is z h = record {
    long = m.long;
    moves = λ j p q. let l = z.over j p q in m.moves (base k + j) (omega (arith, is)) (omega (arith, l, h));
    below = λ j p. m.below j (omega (arith, p, is));
    above = λ j p. m.above j (omega (arith, p, m.most));
  }

-- ---- those of all rows, up to those of key k, and of the heap's end

pub record MovingKeys (a w₀ w : List ℕ) (k : ℕ) : Type 0 where
  pub long : length w ≡ length w₀
  pub most : k ≤ TOP
  pub moves : (j i : ℕ) → j < k → i ≤ get_or a j 0 → i ≤ limit j → get_or w (base j + i) 0 ≡ moved (get_or a (base j + i) 0)
  pub below : (i : ℕ) → i < TOP → get_or w i 0 ≡ get_or w₀ i 0
  pub above : (i : ℕ) → heap ≤ i → get_or w i 0 ≡ get_or w₀ i 0

pub keys_start : (a w : List ℕ) → MovingKeys a w w 0
keys_start a w = record { long = refl; most = omega arith; moves = λ j i p q r. absurd (omega (arith, p)); below = λ i p. refl; above = λ i p. refl }

module _ (a w₀ w : List ℕ) (k : ℕ) (m : MovingKeys a w₀ w k) where
  pub keys_on : (w' : List ℕ) → k < TOP → MovesRows k a w w' → MovingKeys a w₀ w' (k + 1)
  keys_on w' h r =
      let lo = regions_low k (omega (arith, h)) in
      record {
        long = r.long ∙ m.long;
        most = omega (arith, h);
        moves = λ j i p q l. go j i p q l (ℕ_discrete j k);
        below = λ i p. r.below i (omega (arith, p, lo)) ∙ m.below i p;
        above = λ i p. r.above i p ∙ m.above i p;
      }
    where
      own : (i : ℕ) → i ≤ get_or a k 0 → i ≤ limit k → get_or w' (base k + i) 0 ≡ moved (get_or a (base k + i) 0)
      own i q l = let z = regions_high k (omega (arith, h)) in r.moves i q (omega (arith, z, l))

      go : (j i : ℕ) → j < k + 1 → i ≤ get_or a j 0 → i ≤ limit j → Dec (j ≡ k) → get_or w' (base j + i) 0 ≡ moved (get_or a (base j + i) 0)
      go j i p q l (yes d) = subst (λ (n : ℕ). i ≤ get_or a n 0 → i ≤ limit n → get_or w' (base n + i) 0 ≡ moved (get_or a (base n + i) 0)) (sym d) (own i) q l
      go j i p q l (no d) = let z = regions_rise k j (omega (arith, h)) (omega (arith, p, d)) in r.below (base j + i) (omega (arith, z, l)) ∙ m.moves j i (omega (arith, p, d)) q l

  pub keys_end : (x : ℕ) → TOP ≤ k → x ≡ moved (get_or a TOP 0) → heap ≤ length w₀ → Moves a w₀ (set w 18 x)
  keys_end x h e l = record {
    long = length-set w 18 x ∙ m.long;
    top = get_or-set_same w 18 x 0 (omega (arith, l, m.long)) ∙ e;
    moves = λ j i p q f. let lo = regions_low j (omega (arith, p)) in get_or-set_other w 18 (base j + i) x 0 (omega (arith, lo)) ∙ m.moves j i (omega (arith, p, h)) q f;
    below = λ i p. get_or-set_other w 18 i x 0 (omega (arith, p)) ∙ m.below i p;
    above = λ i p. get_or-set_other w 18 i x 0 (omega (arith, p)) ∙ m.above i p;
  }
