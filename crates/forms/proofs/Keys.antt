-- The code's table of keys is the definition's, and where the rows of keys may lie. Assumes nothing.
use mathlib.Core.Path.{◌≡◌, refl, sym, ap}
use mathlib.Core.Bool.{Bool, true, ◌&&◌, and-eq-true_iff}
use mathlib.Core.List.{List, [], ◌∷◌}
use Prim.Native.Nat.{ℕ, suc, ◌+◌, ◌-◌, ◌≤◌, ◌<◌}
use native.Mathlib.Omega.{arith}
use borrow.Author.Tests.{ltb-true, leb-true, ne_eqb}
use lib.Dec.{leb, ltb}
use lib.ListN.{length, get_or-eq_default}
use Rattle.sheet.specs.Forms.{Form, forms, form_in, tag_of, no_key, no_tag}
use Rattle.sheet.proofs.reading.Parsed.{all_below, all_below_law}
use Rattle.forms.specs.declared.Key as D
use Rattle.forms.specs.Keys.{MADE, INDEX, limits, limit, bases, base, heap, key_row, keyed}
use Rattle.forms.proofs.Tests.{small, entry_small, NoneOf, below, past}

-- ---- past the last key

low_keys : List Form → Bool
low_keys [] = true
low_keys (f ∷ fs) = ltb f.key no_key && low_keys fs

past_keys : (k : ℕ) (w : List ℕ) (fs : List Form) → no_key ≤ k → low_keys fs ≡ true → form_in k w fs ≡ length fs
unfolding low_keys
past_keys k w [] h e = refl
past_keys k w (f ∷ fs) h e =
    let b = (and-eq-true_iff (ltb f.key no_key) (low_keys fs)).0 e in
    rw (ne_eqb k f.key (λ z. absurd (omega (arith, ltb-true f.key no_key b.0, z)))) (ap suc (past_keys k w fs h b.1))

tag_none : (k : ℕ) → no_key ≤ k → no_tag ≡ tag_of k []
unfolding tag_of forms low_keys
tag_none k h = sym (past_keys k [] forms h refl)

-- the policies that run and made values stand after the last key
pub key_out : (k : ℕ) → NoneOf (below (suc MADE)) k → key_row 0 0 no_tag ≡ keyed k
unfolding keyed base bases limit
key_out k h =
    let l : suc MADE ≤ k = past (suc MADE) k h in
    λ i. record { base = sym (get_or-eq_default bases 0 l) i; most = sym (get_or-eq_default limits 0 l) i; tag = tag_none k (omega arith) i }

base_small : (k : ℕ) → base k < heap
unfolding base bases small
base_small k = omega (arith, entry_small (heap - 1) bases k 0 (omega arith) refl)

module _ (k : ℕ) (r : D.Key) (e : r ≡ keyed k) where
  pub most_is : r.most ≡ limit k
  unfolding keyed
  most_is = ap (λ (x : D.Key). x.most) e

  pub tag_is : r.tag ≡ tag_of k []
  unfolding keyed
  tag_is = ap (λ (x : D.Key). x.tag) e

  pub base_is : (r.base ≡ base k) × (r.base < heap)
  unfolding keyed
  base_is = let p : r.base ≡ base k = ap (λ (x : D.Key). x.base) e in (p, omega (arith, p, base_small k))

-- ---- the regions of the index lie one after another

pub regions_rise : (k j : ℕ) → k < suc MADE → j < k → base j + limit j < base k
unfolding base bases limit
regions_rise k j h l =
    ltb-true (base j + limit j) (base k)
    (all_below_law (λ (i : ℕ). ltb (base i + limit i) (base k)) k j (all_below_law (λ (m : ℕ). all_below (λ (i : ℕ). ltb (base i + limit i) (base m)) m) (suc MADE) k refl h) l)

pub regions_low : (k : ℕ) → k < suc MADE → INDEX ≤ base k
unfolding base bases
regions_low k h = leb-true INDEX (base k) (all_below_law (λ (m : ℕ). leb INDEX (base m)) (suc MADE) k refl h)

pub regions_high : (k : ℕ) → k < suc MADE → base k + limit k < heap
unfolding base bases limit
regions_high k h = ltb-true (base k + limit k) heap (all_below_law (λ (m : ℕ). ltb (base m + limit m) heap) (suc MADE) k refl h)

pub limit_small : (k : ℕ) → limit k ≤ 1024
unfolding limit small
limit_small k = entry_small 1024 limits k 0 (omega arith) refl
