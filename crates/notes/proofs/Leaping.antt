-- Leaps over entries whose texts ascend. Assumes nothing.
use mathlib.Core.Path.{◌≡◌, refl, sym, ap, ◌∙◌}
use mathlib.Core.Bool.{Bool, true, false, and-eq-true_iff}
use mathlib.Core.List.{List, [], ◌∷◌}
use Prim.Native.Nat.{ℕ, zero, suc, ◌+◌, ◌-◌, ◌≤◌, ◌<◌}
use native.Mathlib.Numerals.{add-one}
use native.Mathlib.Omega.{arith}
use borrow.Author.Tests.{ne_eqb, leb-true, le-leb, lt-leb}
use lib.Dec.{leb}
use lib.ListN.{length, get_or, take, drop, length-drop}
use lib.Seq.{take_all}
use Rattle.std.specs.Prelude.{Option as Maybe}
use Rattle.cedar.specs.Numbered.{entry_of, pick_n}
use Rattle.sheet.specs.State.{entries_of}
use Rattle.value.specs.Shapes.{value_found}
use Rattle.value.proofs.Lists.{Going, uncons, uncons2, spent}
use Rattle.notes.specs.Leaps.{rising, Even, Skips}

-- ---- whether they ascend

module _ (l : List ℕ) (lo i : ℕ) (g : Going (rising 0 l) (rising lo (drop i l)) i (length l)) where
  pub rises_end : length l - i < 1 → true ≡ rising 0 l
  unfolding rising
  rises_end h = sym (g.left ∙ ap (rising lo) (spent l i (omega (arith, h))))

  pub rises_odd : 1 ≤ length l - i → length l - i < 2 → false ≡ rising 0 l
  unfolding rising
  rises_odd m h = sym (g.left ∙ ap (rising lo) (uncons l 0 i (omega (arith, m))) ∙ ap (λ (k : List ℕ). rising lo (get_or l i 0 ∷ k)) (spent l (i + 1) (omega (arith, h))))

  pub rises_off : 2 ≤ length l - i → get_or l i 0 < lo → false ≡ rising 0 l
  unfolding rising
  rises_off m h = sym (g.left ∙ ap (rising lo) (uncons2 l i (omega (arith, m))) ∙ rw (lt-leb lo (get_or l i 0) h))

  pub rises_on : 2 ≤ length l - i → lo ≤ get_or l i 0 → Going (rising 0 l) (rising (get_or l i 0 + 1) (drop (i + 2) l)) (i + 2) (length l)
  unfolding rising
  rises_on m h = record { near = omega (arith, m); left = g.left ∙ ap (rising lo) (uncons2 l i (omega (arith, m))) ∙ rw (le-leb lo (get_or l i 0) h, add-one (get_or l i 0)) }

-- ---- leaps

rising_low : (m lo : ℕ) (l : List ℕ) (j : ℕ) → rising lo l ≡ true → j ≡ m + m → j < length l → lo ≤ get_or l j 0
unfolding rising
rising_low m lo [] j e q h = absurd (omega (arith, h))
rising_low m lo (t ∷ []) j e q h = let z : ◌≡◌ {A = ℕ} 0 1 = cc in absurd (omega arith)
rising_low zero lo (t ∷ v ∷ l) j e q h =
    let z : j ≡ 0 = omega (arith, q) in
    rw z (leb-true lo t ((and-eq-true_iff (leb lo t) (rising (suc t) l)).0 e).0)
rising_low (suc m) lo (t ∷ v ∷ l) j e q h =
    let z : j ≡ suc (suc (m + m)) = omega (arith, q) in
    let a = (and-eq-true_iff (leb lo t) (rising (suc t) l)).0 e in
    let y : suc t ≤ get_or l (m + m) 0 = rising_low m (suc t) l (m + m) a.1 refl (omega (arith, z, h)) in
    rw z (omega (arith, y, leb-true lo t a.0))

rising_skip : (m lo : ℕ) (l : List ℕ) (u j : ℕ) → rising lo l ≡ true → j ≡ m + m → j < length l → get_or l j 0 ≤ u → entry_of u (entries_of l) ≡ entry_of u (entries_of (drop j l))
unfolding rising
rising_skip m lo [] u j e q h s = absurd (omega (arith, h))
rising_skip m lo (t ∷ []) u j e q h s = let z : ◌≡◌ {A = ℕ} 0 1 = cc in absurd (omega arith)
rising_skip zero lo (t ∷ v ∷ l) u j e q h s =
    let z : 0 ≡ j = omega (arith, q) in
    ap (λ (x : ℕ). entry_of u (entries_of (drop x (t ∷ v ∷ l)))) z
rising_skip (suc m) lo (t ∷ v ∷ l) u j e q h s =
    let z : j ≡ suc (suc (m + m)) = omega (arith, q) in
    let a = (and-eq-true_iff (leb lo t) (rising (suc t) l)).0 e in
    let y : suc t ≤ get_or l (m + m) 0 = rising_low m (suc t) l (m + m) a.1 refl (omega (arith, z, h)) in
    let w : get_or (t ∷ v ∷ l) j 0 ≡ get_or l (m + m) 0 = ap (λ (x : ℕ). get_or (t ∷ v ∷ l) x 0) z in
    ap (λ (b : Bool). pick_n b v (entry_of u (entries_of l))) (ne_eqb u t (λ p. omega (arith, p, y, w, s)))
    ∙ rising_skip m (suc t) l u (m + m) a.1 refl (omega (arith, z, h)) (omega (arith, w, s))
    ∙ sym (ap (λ (x : ℕ). entry_of u (entries_of (drop x (t ∷ v ∷ l)))) z)

pub skips_none : (l : List ℕ) (u : ℕ) → Skips l u 0
skips_none l u = record { half = 0; even = omega arith; near = omega arith; is = refl }

pub even_far : Even 128
even_far = record { half = 64; even = omega arith; some = omega arith }

pub even_near : Even 16
even_near = record { half = 8; even = omega arith; some = omega arith }

pub skips_on : (l : List ℕ) (u i n : ℕ) → rising 0 l ≡ true → Skips l u i → Even n → n < length l - i → get_or l (i + n) 0 ≤ u → Skips l u (i + n)
skips_on l u i n e g k h s =
    let z : i + n ≡ (g.half + k.half) + (g.half + k.half) = omega (arith, g.even, k.even) in
    record { half = g.half + k.half; even = z; near = omega (arith, h); is = rising_skip (g.half + k.half) 0 l u (i + n) e z (omega (arith, h)) s }

pub skips_found : (l : List ℕ) (u i : ℕ) (y : Maybe ℕ) → Skips l u i → value_found y ≡ entry_of u (entries_of (take (length l - i) (drop i l))) → value_found y ≡ entry_of u (entries_of l)
skips_found l u i y g e = e ∙ ap (λ (k : List ℕ). entry_of u (entries_of k)) (take_all (length l - i) (drop i l) (omega (arith, length-drop i l))) ∙ sym g.is
