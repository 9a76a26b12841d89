-- The loop over a line's items: what the items left give, after what is written, is what all give. Assumes nothing.
use mathlib.Core.Path.{◌≡◌, refl, sym, ap, ◌∙◌}
use mathlib.Core.Bool.{Bool, true, false, cond}
use mathlib.Core.Option.{Option, none, some}
use mathlib.Core.List.{List, [], ◌∷◌, ◌++◌, append-nil, append_assoc}
use Prim.Native.Nat.{ℕ, zero, suc, ◌+◌, ◌-◌, ◌*◌, ◌≤◌, ◌<◌}
use native.Mathlib.Omega.{arith}
use native.Mathlib.Decide.{ℕ_discrete, dec_lt}
use native.Mathlib.Numerals.{add-one}
use lib.ListN.{length, take, drop}
use lib.Seq.{take-take, take-add, drop-drop}
use Rattle.words.specs.Log.{part}
use Rattle.words.specs.Bits.{byte_of}
use Rattle.words.proofs.Stores.{length_part}
use Rattle.sheet.specs.Forms.{Mode, Slot, form_of, slot_at, counted, item, joined, items_from}
use Rattle.scan.specs.Places.{parts_from, item_end}
use Rattle.scan.proofs.Scans.{drop_take}
use Rattle.scan.proofs.Splits.{found_le, split_parts, split_at, from_on, from_end}
use Rattle.forms.specs.Tags.{LONG_VALUE}
use Rattle.line.specs.Codes.{mode_of, SlotAt}
use Rattle.line.specs.Written.{given, counted_from, Kept, After, Items}
use Rattle.line.proofs.LawsTable.{Places, one_long, slot_here, counted_equal, counted_less, counted_alone, counted_within, place_again}

-- ---- words

-- what stands from k₀ to k, and n words more
pub more_words : (w w₂ : List ℕ) (k₀ k n : ℕ) → k₀ ≤ k → take k w₂ ≡ take k w → take (k - k₀) (drop k₀ w) ++ take n (drop k w₂) ≡ take (k + n - k₀) (drop k₀ w₂)
more_words w w₂ k₀ k n h e =
    let p : take (k - k₀) (drop k₀ w₂) ≡ take (k - k₀) (drop k₀ w) = sym (drop_take k k₀ w₂) ∙ ap (drop k₀) e ∙ drop_take k k₀ w in
    let q : k₀ + (k - k₀) ≡ k = omega arith in
    let s : k - k₀ + n ≡ k + n - k₀ = omega arith in
    sym (ap (λ (i : ℕ). take i (drop k₀ w₂)) (sym s) ∙ take-add (k - k₀) n (drop k₀ w₂) ∙ rw (p, drop-drop (k - k₀) k₀ w₂, q) refl)

pub kept_both : {w w₁ w₂ : List ℕ} {k₀ k : ℕ} → k₀ ≤ k → Kept w w₁ k₀ → Kept w₁ w₂ k → Kept w w₂ k₀
kept_both {w₁ = w₁} {w₂ = w₂} {k₀ = k₀} {k = k} h a b =
    record { below = sym (take-take k₀ k w₂ h) ∙ ap (take k₀) b.below ∙ take-take k₀ k w₁ h ∙ a.below; rest = b.rest ∙ a.rest }

pub given_some : (r : ℕ) (l : List ℕ) → 1 ≤ r → given r l ≡ some l
given_some zero l h = absurd (omega arith)
given_some (suc r) l h = refl

pub none_given : (n : ℕ) → n ≡ 0 → (l : List ℕ) (o : Option (List ℕ)) → joined (given n l) o ≡ none
none_given zero z l o = refl
none_given (suc n) z l o = absurd (omega arith)

-- ---- items

pub joined_none : (o : Option (List ℕ)) → joined o none ≡ none
joined_none none = refl
joined_none (some l) = refl

pub joined_empty : (o : Option (List ℕ)) → joined (some []) o ≡ o
joined_empty none = refl
joined_empty (some l) = refl

pub joined_twice : (k l : List ℕ) (o : Option (List ℕ)) → joined (some k) (joined (some l) o) ≡ joined (some (k ++ l)) o
joined_twice k l none = refl
joined_twice k l (some m) = ap some (sym (append_assoc k l m))

-- ---- the walk

pub counted_cons : (m : Mode) (t j : ℕ) (f : List ℕ) (fs : List (List ℕ)) → counted_from m t j (f ∷ fs) ≡ joined (item m (slot_at t j) f) (counted_from m t (j + 1) fs)
counted_cons m t j f fs =
    let z : j + suc (length fs) ≡ j + 1 + length fs = omega arith in
    rw (z, add-one j) (go (counted t (suc j + length fs)) (items_from m t (suc j) fs))
  where
    go : (b : Bool) (o : Option (List ℕ)) → cond b (joined (item m (slot_at t j) f) o) none ≡ joined (item m (slot_at t j) f) (cond b o none)
    go true o = refl
    go false o = sym (joined_none (item m (slot_at t j) f))

pub record Walk (s : List ℕ) (p : Bool) (t : ℕ) (w₀ : List ℕ) (e₀ j₀ k₀ : ℕ) (w : List ℕ) (e j k : ℕ) : Type 0 where
  pub items : counted_from (mode_of p) t j₀ (parts_from 44 s e₀) ≡ joined (some (take (k - k₀) (drop k₀ w))) (counted_from (mode_of p) t j (parts_from 44 s e))
  pub kept : Kept w₀ w k₀
  pub long : length w ≡ length w₀
  pub grows : k₀ ≤ k
  pub further : e₀ ≤ e
  pub near : e ≤ length s + 1
  pub within : j ≤ length (form_of t).items + length (form_of t).group
  pub full : j ≡ length (form_of t).items + length (form_of t).group → length (form_of t).group ≡ 0
  pub first : t ≡ LONG_VALUE → j ≡ 0 → k ≡ k₀
  pub room : 2 * k + e₀ ≤ 2 * k₀ + e + 2
  pub close : (t ≡ LONG_VALUE → ⊥) → 2 * k + e₀ ≤ 2 * k₀ + e

module _ (s : List ℕ) (p : Bool) (t : ℕ) (w₀ : List ℕ) (e₀ j₀ k₀ : ℕ) (w : List ℕ) (e j k : ℕ) (u : Walk s p t w₀ e₀ j₀ k₀ w e j k) (n g : ℕ)
    (hn : (n ≡ length (form_of t).items) × (n ≤ 4)) (hg : (g ≡ length (form_of t).group) × (g ≤ 3)) where
  -- no row
  refused : (w₂ : List ℕ) → Kept w w₂ k → counted_from (mode_of p) t j (parts_from 44 s e) ≡ none → Items (counted_from (mode_of p) t j₀ (parts_from 44 s e₀)) w₀ w₂ t k₀ 0 e₀ (length s)
  refused w₂ h o =
      record {
        items = u.items ∙ ap (joined (some (take (k - k₀) (drop k₀ w)))) o;
        kept = kept_both u.grows u.kept h;
        tight = omega (arith, u.further, u.near);
        close = λ y. omega (arith, u.further, u.near);
        grows = λ y. absurd (omega arith);
      }

  uncounted : counted t (j + length (parts_from 44 s e)) ≡ false → Items (counted_from (mode_of p) t j₀ (parts_from 44 s e₀)) w₀ w t k₀ 0 e₀ (length s)
  uncounted o = refused w (record { below = refl; rest = refl }) (rw o refl)

  module _ (h : length s < e) where
    none_left : j + length (parts_from 44 s e) ≡ j
    none_left = ap (λ (l : List (List ℕ)). j + length l) (from_end 44 s e h) ∙ omega arith

    pub walk_end : j ≡ n → 1 ≤ k₀ → Items (counted_from (mode_of p) t j₀ (parts_from 44 s e₀)) w₀ w t k₀ k e₀ (length s)
    walk_end q l =
        let x = take (k - k₀) (drop k₀ w) in
        let z : j + 0 ≡ n = omega arith in
        let o : counted_from (mode_of p) t j (parts_from 44 s e) ≡ some [] = rw (from_end 44 s e h) (rw (z, counted_equal t n g hn hg) refl) in
        record {
          items = u.items ∙ rw o (ap some (append-nil x)) ∙ sym (given_some k x (omega (arith, u.grows)));
          kept = u.kept;
          tight = omega (arith, u.room, u.near);
          close = λ z. omega (arith, u.close z, u.near);
          grows = λ z. u.grows;
        }

    pub walk_short : (j ≡ n → ⊥) → Items (counted_from (mode_of p) t j₀ (parts_from 44 s e₀)) w₀ w t k₀ 0 e₀ (length s)
    walk_short q = uncounted (ap (counted t) none_left ∙ go (dec_lt j n) (ℕ_discrete j (n + g)))
      where
        go : Dec (j < n) → Dec (j ≡ n + g) → counted t j ≡ false
        go (yes d) x = counted_less t n g hn hg j d
        go (no d) (yes x) = absurd (omega (arith, u.full (omega (arith, hn.0, hg.0)), hg.0))
        go (no d) (no x) = counted_within t n g hn hg j (omega arith) (omega (arith, u.within, hn.0, hg.0))

  module _ (h : e ≤ length s) where
    pub walk_long : j ≡ n + g → Items (counted_from (mode_of p) t j₀ (parts_from 44 s e₀)) w₀ w t k₀ 0 e₀ (length s)
    walk_long q =
        let z : g ≡ 0 = omega (arith, u.full (omega (arith, hn.0, hg.0)), hg.0) in
        let more : 1 ≤ length (parts_from 44 s e) = omega (arith, ap length (from_on 44 s e h ∙ split_parts 44 (drop e s))) in
        uncounted (counted_alone t n g hn hg (j + length (parts_from 44 s e)) (omega arith) z)

    module _ (slots x e₂ r : ℕ) (w₂ : List ℕ) (hs : Places t slots) (hx : x ≡ byte_of slots j) (ne : j ≡ n + g → ⊥) (y : After (mode_of p) s w w₂ e x k e₂ r) where
      inside : j < n + g
      inside = omega (arith, u.within, hn.0, hg.0)

      at : SlotAt t j x
      at = slot_here t n g hn hg j slots x inside hs hx

      inside_item : item_end s e ≤ length s
      inside_item = found_le 44 s e (item_end s e) h refl

      pub walk_near : (e < e₂) × (e₂ ≤ length s + 1)
      walk_near = (omega (arith, y.next), omega (arith, y.next, inside_item))

      parts : parts_from 44 s e ≡ part s e (item_end s e) ∷ parts_from 44 s e₂
      parts = rw y.next (from_on 44 s e h ∙ split_at 44 s e (item_end s e) h refl)

      here : counted_from (mode_of p) t j (parts_from 44 s e) ≡ joined (given r (take r (drop k w₂))) (counted_from (mode_of p) t (j + 1) (parts_from 44 s e₂))
      here =
          ap (counted_from (mode_of p) t j) parts ∙ counted_cons (mode_of p) t j (part s e (item_end s e)) (parts_from 44 s e₂)
          ∙ ap (λ (o : Option (List ℕ)). joined o (counted_from (mode_of p) t (j + 1) (parts_from 44 s e₂))) (ap (λ (l : Slot). item (mode_of p) l (part s e (item_end s e))) (sym at.is) ∙ y.put.item)

      pub walk_bad : r ≡ 0 → Items (counted_from (mode_of p) t j₀ (parts_from 44 s e₀)) w₀ w₂ t k₀ 0 e₀ (length s)
      walk_bad z = refused w₂ y.put.kept (here ∙ none_given r z (take r (drop k w₂)) (counted_from (mode_of p) t (j + 1) (parts_from 44 s e₂)))

      module _ (z : r ≡ 0 → ⊥) (l : length w₂ ≡ length w) where
        far : e + 2 ≤ e₂
        far = omega (arith, y.put.wide (omega arith), length_part s e (item_end s e) inside_item, y.next)

        moved : (j₂ : ℕ) → counted_from (mode_of p) t (j + 1) (parts_from 44 s e₂) ≡ counted_from (mode_of p) t j₂ (parts_from 44 s e₂) → j₂ ≤ length (form_of t).items + length (form_of t).group
            → (j₂ ≡ length (form_of t).items + length (form_of t).group → length (form_of t).group ≡ 0) → (t ≡ LONG_VALUE → j₂ ≡ 0 → ⊥) → Walk s p t w₀ e₀ j₀ k₀ w₂ e₂ j₂ (k + r)
        moved j₂ same in₂ full₂ first₂ =
            let b = take r (drop k w₂) in
            let o = counted_from (mode_of p) t j₂ (parts_from 44 s e₂) in
            let a = take (k - k₀) (drop k₀ w) in
            record {
              items = u.items ∙ ap (joined (some a)) (here ∙ ap (joined (given r b)) same ∙ ap (λ (y : Option (List ℕ)). joined y o) (given_some r b (omega arith)))
                  ∙ joined_twice a b o ∙ ap (λ (y : List ℕ). joined (some y) o) (more_words w w₂ k₀ k r u.grows y.put.kept.below);
              kept = kept_both u.grows u.kept y.put.kept;
              long = l ∙ u.long;
              grows = omega (arith, u.grows);
              further = omega (arith, u.further, far);
              near = walk_near.1;
              within = in₂;
              full = full₂;
              first = λ q d. absurd (first₂ q d);
              room = roomy (ℕ_discrete r 2) far;
              close = λ q. closer (λ d. q (at.alone (y.put.two d))) (u.close q) far;
            }
          where
            roomy : Dec (r ≡ 2) → e + 2 ≤ e₂ → 2 * (k + r) + e₀ ≤ 2 * k₀ + e₂ + 2
            roomy (yes d) q = omega (arith, u.first (at.alone (y.put.two d)) (at.first (y.put.two d)), d, q, u.further)
            roomy (no d) q = omega (arith, u.room, d, y.put.few, q)

            closer : (r ≡ 2 → ⊥) → 2 * k + e₀ ≤ 2 * k₀ + e → e + 2 ≤ e₂ → 2 * (k + r) + e₀ ≤ 2 * k₀ + e₂
            closer d q m = omega (arith, d, q, y.put.few, m)

        pub walk_on : (j + 1 ≡ n + g → ⊥) → Walk s p t w₀ e₀ j₀ k₀ w₂ e₂ (j + 1) (k + r)
        walk_on q = moved (j + 1) refl (omega (arith, inside, hn.0, hg.0)) (λ d. absurd (q (omega (arith, d, hn.0, hg.0)))) (λ d c. absurd (omega arith))

        pub walk_again : j + 1 ≡ n + g → Walk s p t w₀ e₀ j₀ k₀ w₂ e₂ n (k + r)
        walk_again q =
            moved n (place_again t n g hn hg (mode_of p) (parts_from 44 s e₂) (j + 1) q) (omega (arith, hn.0)) (λ d. omega (arith, d, hn.0)) (λ d c. one_long t n hn.0 d c)
