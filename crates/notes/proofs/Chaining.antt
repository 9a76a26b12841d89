-- Chains of lines, as the code makes them and follows them. Assumes nothing.
use mathlib.Core.Path.{◌≡◌, refl, sym, ap, ◌∙◌}
use mathlib.Core.Bool.{Bool, true, false, cond}
use mathlib.Core.Option.{some}
use mathlib.Core.List.{List, [], ◌∷◌}
use Prim.Native.Nat.{ℕ, zero, suc, ◌+◌, ◌-◌, ◌≤◌, ◌<◌}
use native.Mathlib.Numerals.{add-one}
use native.Mathlib.Omega.{arith}
use native.Mathlib.Decide.{dec_lt}
use borrow.Author.Tests.{eqb-true, eqb-false}
use lib.Dec.{eqb}
use lib.ListN.{length, get_or, drop, set, replicate, length-set, length-drop}
use lib.Seq.{get_or-set_same, get_or-set_other, get_or-drop, drop-nil, drop-cons, drop-drop}
use Rattle.std.specs.Prelude.{Some, None}
use Rattle.cedar.specs.Rows.{rent}
use Rattle.words.specs.Log.{part}
use Rattle.words.proofs.Stores.{part_at}
use Rattle.sheet.specs.Forms.{at, VALUE, ENTITY}
use Rattle.sheet.specs.State.{value_row}
use Rattle.table.specs.Layout.{base, rows_of, heap}
use Rattle.table.proofs.Rows.{count_rows, row_none, row_some, row_at_is}
use Rattle.value.proofs.Lists.{spent}
use Rattle.lookup.specs.Lookups.{is_entity_at, line_at, line_in}
use Rattle.notes.specs.Chains.{text_of, left_of, Clear, Chained}
use Rattle.lookup.proofs.Finds.{not_same, not_entity, word_none, entity_from, Seeking, seek_start, seek_end, seek_hit, seek_on}

-- ---- the text of an entity

module _ (a : List ℕ) (v n : ℕ) (en : n ≡ get_or a VALUE 0) where
  pub text_past : n ≤ v → 0 ≡ text_of a v
  unfolding text_of
  text_past h = ap (λ (l : List ℕ). get_or l 2 0) (row_none a VALUE v n en h)

  module _ (b s e : ℕ) (h : v < n) (hb : (b ≡ base VALUE) × (b < heap)) (es : s ≡ get_or a (b + v) 0) (ee : e ≡ get_or a (b + v + 1) 0) where
    value_line_law : part a s e ≡ get_or (rows_of a VALUE) v []
    value_line_law = row_some a VALUE v n b (part a s e) en h hb.0 (row_at_is a (b + v) s e (part a s e) es ee refl)

    pub text_short : e ≤ s + 2 → 0 ≡ text_of a v
    unfolding text_of
    text_short m = word_none a s e 2 m ∙ ap (λ (l : List ℕ). get_or l 2 0) value_line_law

    pub text_word : (x : ℕ) → s + 2 < e → x ≡ get_or a (s + 2) 0 → x ≡ text_of a v
    unfolding text_of
    text_word x m ex = ex ∙ sym (part_at a s e 2 (omega arith)) ∙ ap (λ (l : List ℕ). get_or l 2 0) value_line_law

other_text : (a : List ℕ) (t k v : ℕ) → eqb (text_of a v) t ≡ false → false ≡ is_entity_at a v k t
unfolding text_of is_entity_at
other_text a t k v e = not_same (value_row (get_or (rows_of a VALUE) v [])) (rent k t) (not_entity (get_or (rows_of a VALUE) v []) k t (eqb-false (get_or (get_or (rows_of a VALUE) v []) 2 0) t e))

-- ---- how many lines are left

module _ (a : List ℕ) (t : ℕ) where
  left_most : (rs : List (List ℕ)) → left_of a t rs ≤ length rs
  unfolding left_of
  left_most [] = omega arith
  left_most (r ∷ rs) = go (eqb (text_of a (at r 0)) t) (left_most rs)
    where
      go : (b : Bool) → left_of a t rs ≤ length rs → cond b (suc (length rs)) (left_of a t rs) ≤ suc (length rs)
      go true h = omega arith
      go false h = omega (arith, h)

  left_text : (rs : List (List ℕ)) → 1 ≤ left_of a t rs → text_of a (at (get_or rs (length rs - left_of a t rs) []) 0) ≡ t
  unfolding left_of
  left_text [] h = absurd (omega (arith, h))
  left_text (r ∷ rs) h = go (eqb (text_of a (at r 0)) t) refl h (left_text rs)
    where
      go : (b : Bool) → eqb (text_of a (at r 0)) t ≡ b → 1 ≤ cond b (suc (length rs)) (left_of a t rs) → (1 ≤ left_of a t rs → text_of a (at (get_or rs (length rs - left_of a t rs) []) 0) ≡ t)
          → text_of a (at (get_or (r ∷ rs) (suc (length rs) - cond b (suc (length rs)) (left_of a t rs)) []) 0) ≡ t
      go true e l f =
          let z : suc (length rs) - suc (length rs) ≡ 0 = omega arith in
          ap (λ (m : ℕ). text_of a (at (get_or (r ∷ rs) m []) 0)) z ∙ eqb-true (text_of a (at r 0)) t e
      go false e l f =
          let z : suc (length rs) - left_of a t rs ≡ suc (length rs - left_of a t rs) = omega (arith, left_most rs) in
          ap (λ (m : ℕ). text_of a (at (get_or (r ∷ rs) m []) 0)) z ∙ f l

  -- the lines before are of other entities
  left_skip : (k : ℕ) (rs : List (List ℕ)) → entity_from a k t rs ≡ entity_from a k t (drop (length rs - left_of a t rs) rs)
  unfolding left_of entity_from
  left_skip k [] = sym (ap (entity_from a k t) (drop-nil (length {A = List ℕ} [] - left_of a t [])))
  left_skip k (r ∷ rs) = go (eqb (text_of a (at r 0)) t) refl (left_skip k rs)
    where
      go : (b : Bool) → eqb (text_of a (at r 0)) t ≡ b → entity_from a k t rs ≡ entity_from a k t (drop (length rs - left_of a t rs) rs)
          → cond (is_entity_at a (at r 0) k t) (some r) (entity_from a k t rs) ≡ entity_from a k t (drop (suc (length rs) - cond b (suc (length rs)) (left_of a t rs)) (r ∷ rs))
      go true e f =
          let z : suc (length rs) - suc (length rs) ≡ 0 = omega arith in
          sym (ap (λ (m : ℕ). entity_from a k t (drop m (r ∷ rs))) z)
      go false e f =
          let z : suc (length rs) - left_of a t rs ≡ suc (length rs - left_of a t rs) = omega (arith, left_most rs) in
          ap (λ (c : Bool). cond c (some r) (entity_from a k t rs)) (sym (other_text a t k (at r 0) e)) ∙ f ∙ sym (ap (λ (m : ℕ). entity_from a k t (drop m (r ∷ rs))) z)

-- ---- chains made

blank : (n j : ℕ) → ◌≡◌ {A = ℕ} (get_or (replicate n 0) j 0) 0
blank zero j = refl
blank (suc n) zero = refl
blank (suc n) (suc j) = blank n j

pub clear_none : (n : ℕ) → Clear (replicate n 0)
clear_none n = record { is = blank n }

chained_start : (a : List ℕ) (E : List (List ℕ)) (n : ℕ) (heads links : List ℕ) → length E ≤ n → Clear heads → Chained a E n heads links
unfolding left_of
chained_start a E n heads links h c = record { first = λ t l. c.is t ∙ sym (ap (left_of a t) (spent E n h)); next = λ j i l m z. absurd (omega (arith, h, i, l)) }

module _ (a : List ℕ) (E : List (List ℕ)) (i : ℕ) (h l h' l' : List ℕ) (t : ℕ) (g : Chained a E (suc i) h l) (near : i < length E) (et : t ≡ text_of a (at (get_or E i []) 0)) (eh : h' ≡ set h t (length E - i)) (el : l' ≡ set l i (get_or h t 0)) where
  long_h : length h' ≡ length h
  long_h = ap length eh ∙ length-set h t (length E - i)

  long_l : length l' ≡ length l
  long_l = ap length el ∙ length-set l i (get_or h t 0)

  left_here : (u : ℕ) → left_of a u (drop i E) ≡ cond (eqb t u) (length E - i) (left_of a u (drop (suc i) E))
  unfolding left_of
  left_here u =
      let z : suc (length (drop (suc i) E)) ≡ length E - i = omega (arith, length-drop (suc i) E, near) in
      ap (left_of a u) (drop-cons E i [] near)
      ∙ ap (λ (x : ℕ). cond (eqb x u) (suc (length (drop (suc i) E))) (left_of a u (drop (suc i) E))) (sym et)
      ∙ ap (λ (m : ℕ). cond (eqb t u) m (left_of a u (drop (suc i) E))) z

  first_more : (u : ℕ) → u < length h' → get_or h' u 0 ≡ left_of a u (drop i E)
  first_more u m = go (eqb t u) refl ∙ sym (left_here u)
    where
      go : (b : Bool) → eqb t u ≡ b → get_or h' u 0 ≡ cond b (length E - i) (left_of a u (drop (suc i) E))
      go true e = ap (λ (w : List ℕ). get_or w u 0) eh ∙ ap (λ (x : ℕ). get_or (set h x (length E - i)) u 0) (eqb-true t u e) ∙ get_or-set_same h u (length E - i) 0 (omega (arith, long_h, m))
      go false e = ap (λ (w : List ℕ). get_or w u 0) eh ∙ get_or-set_other h t u (length E - i) 0 (λ z. eqb-false t u e (sym z)) ∙ g.first u (omega (arith, long_h, m))

  next_more : (j : ℕ) → i ≤ j → j < length E → j < length l' → text_of a (at (get_or E j []) 0) < length h' → get_or l' j 0 ≡ left_of a (text_of a (at (get_or E j []) 0)) (drop (suc j) E)
  next_more j p q r s = go (eqb j i) refl
    where
      far : eqb j i ≡ false → Dec (i < j) → i < j
      far e (yes m) = m
      far e (no m) = absurd (eqb-false j i e (omega (arith, p, m)))

      go : (b : Bool) → eqb j i ≡ b → get_or l' j 0 ≡ left_of a (text_of a (at (get_or E j []) 0)) (drop (suc j) E)
      go true e =
          let z : i ≡ j = sym (eqb-true j i e) in
          let y : t ≡ text_of a (at (get_or E j []) 0) = et ∙ ap (λ (x : ℕ). text_of a (at (get_or E x []) 0)) z in
          ap (λ (w : List ℕ). get_or w j 0) el ∙ ap (λ (x : ℕ). get_or (set l x (get_or h t 0)) j 0) z ∙ get_or-set_same l j (get_or h t 0) 0 (omega (arith, long_l, r))
          ∙ g.first t (omega (arith, y, s, long_h))
          ∙ ap (λ (x : ℕ). left_of a t (drop (suc x) E)) z
          ∙ ap (λ (x : ℕ). left_of a x (drop (suc j) E)) y
      go false e =
          ap (λ (w : List ℕ). get_or w j 0) el ∙ get_or-set_other l i j (get_or h t 0) 0 (eqb-false j i e)
          ∙ g.next j (far e (dec_lt i j)) q (omega (arith, long_l, r)) (omega (arith, long_h, s))

  chained_more : Chained a E i h' l'
  chained_more = record { first = first_more; next = next_more }

pub record Chaining (a heads₀ links₀ heads links : List ℕ) (n i end : ℕ) : Type 0 where
  pub all : n ≡ get_or a ENTITY 0
  pub near : i ≤ n
  pub start : end ≡ get_or a (base ENTITY + i) 0
  pub chained : Chained a (rows_of a ENTITY) i heads links
  pub longh : length heads ≡ length heads₀
  pub longl : length links ≡ length links₀

pub chaining_start : (a heads links : List ℕ) (n b end : ℕ) → Clear heads → n ≡ get_or a ENTITY 0 → (b ≡ base ENTITY) × (b < heap) → end ≡ get_or a (b + n) 0 → Chaining a heads links heads links n n end
chaining_start a heads links n b end c en hb ee = record {
  all = en;
  near = omega arith;
  start = ee ∙ ap (λ (x : ℕ). get_or a (x + n) 0) hb.0;
  chained = chained_start a (rows_of a ENTITY) n heads links (omega (arith, en, count_rows a ENTITY)) c;
  longh = refl;
  longl = refl;
}

module _ (a heads₀ links₀ heads links : List ℕ) (n i end : ℕ) (g : Chaining a heads₀ links₀ heads links n i end) where
  pub chaining_on : 0 < i → (b s v t y : ℕ) (heads' links' : List ℕ) → (b ≡ base ENTITY) × (b < heap) → s ≡ get_or a (b + (i - 1)) 0 → v ≡ get_or (part a s end) 1 0 → t ≡ text_of a v
      → y ≡ get_or heads t 0 → links' ≡ set links (i - 1) y → heads' ≡ set heads t (n - (i - 1)) → Chaining a heads₀ links₀ heads' links' n (i - 1) s
  chaining_on h b s v t y heads' links' hb es ev et ey el eh = record {
    all = g.all;
    near = omega (arith, g.near);
    start = here;
    chained = chained_more a (rows_of a ENTITY) (i - 1) heads links heads' links' t (let z : suc (i - 1) ≡ i = omega (arith, h) in rw z g.chained) (omega (arith, h, g.near, count)) (et ∙ ap (text_of a) (ev ∙ ap (λ (r : List ℕ). get_or r 1 0) line)) (eh ∙ ap (λ (m : ℕ). set heads t (m - (i - 1))) count) (el ∙ ap (set links (i - 1)) ey);
    longh = ap length eh ∙ length-set heads t (n - (i - 1)) ∙ g.longh;
    longl = ap length el ∙ length-set links (i - 1) y ∙ g.longl;
  }
    where
      count : n ≡ length (rows_of a ENTITY)
      count = g.all ∙ sym (count_rows a ENTITY)

      here : s ≡ get_or a (base ENTITY + (i - 1)) 0
      here = es ∙ ap (λ (x : ℕ). get_or a (x + (i - 1)) 0) hb.0

      line : part a s end ≡ get_or (rows_of a ENTITY) (i - 1) []
      line =
          let z : base ENTITY + i ≡ base ENTITY + (i - 1) + 1 = omega (arith, h) in
          row_some a ENTITY (i - 1) n (base ENTITY) (part a s end) g.all (omega (arith, h, g.near)) refl (row_at_is a (base ENTITY + (i - 1)) s end (part a s end) here (g.start ∙ ap (λ (x : ℕ). get_or a x 0) z) refl)

-- ---- chains followed

pub record Chasing (a : List ℕ) (k t n left : ℕ) : Type 0 where
  pub seeking : Seeking a k t n (n - left)
  pub low : left ≤ n
  pub text : 1 ≤ left → text_of a (at (get_or (rows_of a ENTITY) (n - left) []) 0) ≡ t

chase_from : (a : List ℕ) (k t n i left : ℕ) → Seeking a k t n i → left ≡ left_of a t (drop i (rows_of a ENTITY)) → Chasing a k t n left
chase_from a k t n i left s e = record {
  seeking = record { all = s.all; near = omega arith; left = s.left ∙ left_skip a t k (drop i (rows_of a ENTITY)) ∙ ap (entity_from a k t) (drop-drop (length (drop i (rows_of a ENTITY)) - left_of a t (drop i (rows_of a ENTITY))) i (rows_of a ENTITY) ∙ ap (λ (x : ℕ). drop x (rows_of a ENTITY)) place) };
  low = omega (arith, most, long);
  text = λ h. ap (λ (r : List ℕ). text_of a (at r 0)) (sym (get_or-drop i (rows_of a ENTITY) (length (drop i (rows_of a ENTITY)) - left_of a t (drop i (rows_of a ENTITY))) [] ∙ ap (λ (x : ℕ). get_or (rows_of a ENTITY) x []) place)) ∙ left_text a t (drop i (rows_of a ENTITY)) (omega (arith, e, h));
}
  where
    long : length (drop i (rows_of a ENTITY)) ≡ n - i
    long = length-drop i (rows_of a ENTITY) ∙ ap (λ (m : ℕ). m - i) (count_rows a ENTITY ∙ sym s.all)

    most : left ≤ length (drop i (rows_of a ENTITY))
    most = omega (arith, e, left_most a t (drop i (rows_of a ENTITY)))

    place : i + (length (drop i (rows_of a ENTITY)) - left_of a t (drop i (rows_of a ENTITY))) ≡ n - left
    place = omega (arith, e, most, long, s.near)

-- what `Chains` says of its tables
pub chained_by : (a heads links : List ℕ) → ((t : ℕ) → t < length heads → get_or heads t 0 ≡ left_of a t (rows_of a ENTITY))
    → ((j : ℕ) → j < length (rows_of a ENTITY) → j < length links → text_of a (at (get_or (rows_of a ENTITY) j []) 0) < length heads → get_or links j 0 ≡ left_of a (text_of a (at (get_or (rows_of a ENTITY) j []) 0)) (drop (suc j) (rows_of a ENTITY)))
    → Chained a (rows_of a ENTITY) 0 heads links
chained_by a heads links f g = record { first = f; next = λ j i. g j }

pub chase_start : (a : List ℕ) (k t n left : ℕ) (heads links : List ℕ) → Chained a (rows_of a ENTITY) 0 heads links → t < length heads → n ≡ get_or a ENTITY 0 → left ≡ get_or heads t 0 → Chasing a k t n left
chase_start a k t n left heads links c h en el = chase_from a k t n 0 left (seek_start a k t n en) (el ∙ c.first t h)

module _ (a : List ℕ) (k t n left : ℕ) (g : Chasing a k t n left) where
  pub chase_end : left ≤ 0 → line_at (rows_of a ENTITY) None ≡ line_in a k t
  chase_end h = seek_end a k t n (n - left) g.seeking (omega arith)

  module _ (h : 0 < left) (r : List ℕ) (er : r ≡ get_or (rows_of a ENTITY) (n - left) []) (x : ℕ) (ex : x ≡ get_or r 1 0) (b : Bool) (eb : b ≡ is_entity_at a x k t) where
    pub chase_hit : b ≡ true → line_at (rows_of a ENTITY) (Some (n - left)) ≡ line_in a k t
    chase_hit z = seek_hit a k t n (n - left) g.seeking (omega (arith, h, g.low)) r er x ex b eb z

    module _ (z : b ≡ false) (heads links : List ℕ) (c : Chained a (rows_of a ENTITY) 0 heads links) (ht : t < length heads) (hl : n ≤ length links) (next : ℕ) (en : next ≡ get_or links (n - left) 0) where
      after : next ≡ left_of a t (drop (n - left + 1) (rows_of a ENTITY))
      after =
          let y : text_of a (at (get_or (rows_of a ENTITY) (n - left) []) 0) ≡ t = g.text (omega arith) in
          en ∙ c.next (n - left) (omega arith) (omega (arith, h, g.low, g.seeking.all, count_rows a ENTITY)) (omega (arith, h, g.low, hl)) (omega (arith, y, ht))
          ∙ ap (λ (u : ℕ). left_of a u (drop (suc (n - left)) (rows_of a ENTITY))) y
          ∙ ap (λ (j : ℕ). left_of a t (drop j (rows_of a ENTITY))) (sym (add-one (n - left)))

      pub chase_on : Chasing a k t n next
      chase_on = chase_from a k t n (n - left + 1) next (seek_on a k t n (n - left) g.seeking (omega (arith, h, g.low)) r er x ex b eb z) after

      pub chase_less : next < left
      chase_less = omega (arith, after, left_most a t (drop (n - left + 1) (rows_of a ENTITY)), length-drop (n - left + 1) (rows_of a ENTITY), count_rows a ENTITY, g.seeking.all, g.low, h)
