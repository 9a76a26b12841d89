-- Sets as bits: what is asked of their members, and what a walk over them gathers.
use mathlib.Core.Path.{◌≡◌, refl, sym, ap, subst, ◌∙◌}
use mathlib.Core.Bool.{Bool, true, false, not}
use mathlib.Core.List.{List}
use mathlib.Core.Logic.{◌⊎◌, inl, inr}
use Prim.Native.Nat.{ℕ, zero, suc, ◌+◌, ◌/◌, ◌%◌, ◌≤◌, ◌<◌}
use native.Mathlib.Omega.{arith}
use native.Mathlib.Decide.{dec_lt, ℕ_discrete}
use Rattle.cedar.proofs.Tools.{no_true}
use borrow.Author.Tests.{not-true, not-false}
use lib.ListN.{length, get_or, replicate}
use Rattle.words.specs.Bits.{member, added}
use Rattle.words.proofs.Bits.{added_is}
use Rattle.typesets.proofs.FirstBit.{bit_of_zero, member_out}
use Rattle.typesets.specs.Sets.{TYPES, From, Each, Next, Asked, Gathered}

-- ---- members of a set

pub zero_in : (n i : ℕ) → ◌≡◌ {A = ℕ} (get_or (replicate n 0) i 0) 0
zero_in zero i = refl
zero_in (suc n) zero = refl
zero_in (suc n) (suc i) = zero_in n i

pub member_zeros : (n x : ℕ) → member (replicate n 0) x ≡ false
unfolding member
member_zeros n x = rw (zero_in n (x / 32)) (bit_of_zero (x % 32))

module _ (s : List ℕ) (f : ℕ → Bool) where
  -- a set without members
  pub each_none : ((x : ℕ) → member s x ≡ false) → Each s f
  each_none h = record { at = λ x l m. no_true (sym (h x) ∙ m) }

  -- one member more
  module _ (p : ℕ) (l : p / 32 < length s) where
    pub each_old : Each (added s p) f → Each s f
    each_old e = record { at = λ x z m. e.at x z ((added_is s p).kept x m) }

    pub each_new : Each (added s p) f → f p ≡ true
    each_new e = e.at p (omega arith) ((added_is s p).here l)

  pub each_added : (p : ℕ) → Each s f → f p ≡ true → Each (added s p) f
  each_added p e h = record { at = λ x z m. go x ((added_is s p).joined x m) }
    where
      go : (x : ℕ) → (member s x ≡ true) ⊎ (x ≡ p) → f x ≡ true
      go x (inl m) = e.at x (omega arith) m
      go x (inr q) = ap f q ∙ h

pub each_zeros : (n : ℕ) (f : ℕ → Bool) → Each (replicate n 0) f
each_zeros n f = each_none (replicate n 0) f (member_zeros n)

-- what is in a set passes
pub seen_is : (s : List ℕ) (f : ℕ → Bool) → Each s f → (x : ℕ) (b : Bool) → b ≡ member s x → b ≡ true → true ≡ f x
seen_is s f e x b eb h = sym (e.at x (omega arith) (sym eb ∙ h))

-- ---- what is asked, in other words

pub gathered_as : {w v : List ℕ} (q p : Asked) {b : Bool} → ((f : ℕ → Bool) → q f → p f) → ((f : ℕ → Bool) → p f → q f) → Gathered w v q b → Gathered w v p b
gathered_as q p to back g = record {
  asks = λ e f v. let (x, y) = g.asks e f v in (x, to f y);
  joins = λ e f w y. g.joins e f w (back f y);
  fails = λ e f w y. g.fails e f w (back f y);
}

-- nothing is asked; what is asked never passes
pub nothing_asked : (w : List ℕ) (q : Asked) → ((f : ℕ → Bool) → q f) → Gathered w w q true
nothing_asked w q h = record { asks = λ e f v. (v, h f); joins = λ e f v y. v; fails = λ e f v y. no_true (sym e) }

pub never_passes : (w v : List ℕ) (q : Asked) → ((f : ℕ → Bool) → q f → ⊥) → Gathered w v q false
never_passes w v q h = record { asks = λ e f v. no_true e; joins = λ e f w y. no_true e; fails = λ e f w y. h f y }

-- one member is asked
pub one_asked : (w v : List ℕ) (q : Asked) (p : ℕ) → v ≡ added w p → p / 32 < length w → ((f : ℕ → Bool) → q f → f p ≡ true) → ((f : ℕ → Bool) → f p ≡ true → q f) → Gathered w v q true
one_asked w v q p ev l to back = subst (λ (u : List ℕ). Gathered w u q true) (sym ev) (record {
  asks = λ e f v. (each_old w f p l v, back f (each_new w f p l v));
  joins = λ e f v y. each_added w f p v (to f y);
  fails = λ e f v y. no_true (sym e);
})

-- ---- a walk: to ask w and q is to ask v, gathered so far, and p, what is left

pub record Turned (w : List ℕ) (q : Asked) (v : List ℕ) (p : Asked) : Type 0 where
  pub to : (f : ℕ → Bool) → Each w f → q f → Each v f × p f
  pub back : (f : ℕ → Bool) → Each v f → p f → Each w f × q f

pub turn_start : (w : List ℕ) (q p : Asked) → ((f : ℕ → Bool) → q f → p f) → ((f : ℕ → Bool) → p f → q f) → Turned w q w p
turn_start w q p to back = record { to = λ f e y. (e, to f y); back = λ f e y. (e, back f y) }

module _ (w v : List ℕ) (q p : Asked) (t : Turned w q v p) where
  pub turn_done : ((f : ℕ → Bool) → p f) → Gathered w v q true
  turn_done h = record { asks = λ e f x. t.back f x (h f); joins = λ e f x y. (t.to f x y).0; fails = λ e f x y. no_true (sym e) }

  module _ (u : List ℕ) (s : Asked) (b : Bool) (g : Gathered v u s b) where
    pub turn_off : b ≡ false → ((f : ℕ → Bool) → p f → s f) → Gathered w u q false
    turn_off e h = never w u q (λ f x y. let (z, l) = t.to f x y in g.fails e f z (h f l))
      where
        never : (w u : List ℕ) (q : Asked) → ((f : ℕ → Bool) → Each w f → q f → ⊥) → Gathered w u q false
        never w u q h = record { asks = λ e f x. no_true e; joins = λ e f x y. no_true e; fails = λ e f x y. h f x y }

    pub turn_on : (r : Asked) → b ≡ true → ((f : ℕ → Bool) → p f → s f) → ((f : ℕ → Bool) → p f → r f) → ((f : ℕ → Bool) → s f → r f → p f) → Turned w q u r
    turn_on r e first rest join = record {
      to = λ f x y. let (z, l) = t.to f x y in (g.joins e f z (first f l), rest f l);
      back = λ f x y. let (z, l) = g.asks e f x in t.back f z (join f l y);
    }

-- ---- all members of a set, one after the other: g of a test is asked of each

abbrev pub Test : Type 0
Test = (ℕ → Bool) → ℕ → Bool

pub record Walked (g : Test) (w s v : List ℕ) (y : ℕ) : Type 0 where
  pub turned : Turned w (λ f. Each s (g f)) v (λ f. From s y (g f))
  pub here : y < TYPES → member s y ≡ true

module _ (g : Test) (w s : List ℕ) where
  pub walk_start : (y : ℕ) → Next s 0 y → Walked g w s w y
  walk_start y n = record {
    turned = turn_start w (λ f. Each s (g f)) (λ f. From s y (g f))
        (λ f e. record { at = λ x l m. e.at x (omega arith) m })
        (λ f e. record { at = λ x l m. go x (dec_lt x y) m (λ h. e.at x h m) });
    here = n.here;
  }
    where
      go : {f : ℕ → Bool} (x : ℕ) → Dec (x < y) → member s x ≡ true → (y ≤ x → g f x ≡ true) → g f x ≡ true
      go x (yes l) m h = no_true (sym (n.none x (omega arith) l) ∙ m)
      go x (no l) m h = h (omega (arith, l))

  module _ (v : List ℕ) (y : ℕ) (k : Walked g w s v y) where
    pub walk_end : TYPES ≤ y → length s ≡ 4 → Gathered w v (λ f. Each s (g f)) true
    walk_end h l = turn_done w v (λ f. Each s (g f)) (λ f. From s y (g f)) k.turned (λ f. record { at = λ x z m. no_true (sym (member_out s x (omega arith)) ∙ m) })

    module _ (u : List ℕ) (b : Bool) (d : Gathered v u (λ f. g f y ≡ true) b) (h : y < TYPES) where
      first : (f : ℕ → Bool) → From s y (g f) → g f y ≡ true
      first f e = e.at y (omega arith) (k.here h)

      pub walk_off : not b ≡ true → Gathered w u (λ f. Each s (g f)) false
      walk_off e = turn_off w v (λ f. Each s (g f)) (λ f. From s y (g f)) k.turned u (λ f. g f y ≡ true) b d (not-true b e) first

      pub walk_on : (z : ℕ) → not b ≡ false → Next s (y + 1) z → Walked g w s u z
      walk_on z e n = record {
        turned = turn_on w v (λ f. Each s (g f)) (λ f. From s y (g f)) k.turned u (λ f. g f y ≡ true) b d (λ f. From s z (g f)) (not-false b e) first
            (λ f a. record { at = λ x l m. a.at x (let q = n.low in omega (arith, q)) m })
            (λ f p a. record { at = λ x l m. go f p a x (dec_lt x z) (ℕ_discrete x y) l m });
        here = n.here;
      }
        where
          go : (f : ℕ → Bool) → g f y ≡ true → From s z (g f) → (x : ℕ) → Dec (x < z) → Dec (x ≡ y) → y ≤ x → member s x ≡ true → g f x ≡ true
          go f p a x (no j) q l m = a.at x (omega (arith, j)) m
          go f p a x (yes j) (yes q) l m = ap (g f) q ∙ p
          go f p a x (yes j) (no q) l m = no_true (sym (n.none x (omega (arith, q)) j) ∙ m)
