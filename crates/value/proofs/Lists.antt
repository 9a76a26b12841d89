-- Searches through lists of numbers: what is left decides the whole. Assumes nothing.
use mathlib.Core.Path.{◌≡◌, refl, sym, ap, ◌∙◌}
use mathlib.Core.Bool.{Bool, true, false, not, cond, ◌&&◌, and-eq-true_iff}
use mathlib.Core.List.{List, [], ◌∷◌, ◌++◌}
use mathlib.Core.Option.{Option, some, none}
use Prim.Native.Nat.{ℕ, zero, suc, ◌+◌, ◌-◌, ◌/◌, ◌≤◌, ◌<◌, max}
use native.Mathlib.Numerals.{add-one}
use native.Mathlib.Nat.{le_refl}
use native.Mathlib.Omega.{arith}
use native.Mathlib.Decide.{dec_lt, ℕ_discrete}
use borrow.Author.Tests.{eq-eqb, ne_eqb, lt-ltb, le-ltb, lt-leb, le-leb, leb-true, ltb-true, ltb-false, not-true, not-false}
use lib.Dec.{eqb, leb, ltb}
use lib.ListN.{length, get_or, take, drop, drop_of_length-le, length-drop, get_or-append}
use lib.Seq.{drop-cons, drop-drop, take_all, get_or-append-add}
use Rattle.cedar.specs.Numbered.{mem_n, all_n, any_n, pick_n, entry_of}
use Rattle.sheet.specs.Bytes.{same}
use Rattle.sheet.specs.State.{entries_of}
use Rattle.sheet.specs.Sheet.{ascend}
use Rattle.sheet.proofs.demand3.TwoSheets.{same_is}
use Rattle.value.specs.Places.{lower_than}
use Rattle.std.specs.List.{list_any, IsAllAdjacentAnswer}
use Rattle.std.specs.Simd.{first_chunks}

-- a loop over n places has come to place i, and what is left gives what the whole gives
pub record Going {A : Type 0} (whole rest : A) (i n : ℕ) : Type 0 where
  pub near : i ≤ n
  pub left : whole ≡ rest

pub uncons : {A : Type 0} (s : List A) (d : A) (i : ℕ) → i < length s → drop i s ≡ get_or s i d ∷ drop (i + 1) s
uncons s d i h = rw (add-one, drop-cons s i d)

pub spent : {A : Type 0} (s : List A) (i : ℕ) → length s ≤ i → drop i s ≡ []
spent s i h = drop_of_length-le s h

-- ---- members

turned : (x y : ℕ) → eqb x y ≡ eqb y x
turned x y = go (ℕ_discrete x y)
  where
    go : Dec (x ≡ y) → eqb x y ≡ eqb y x
    go (yes e) = eq-eqb x y e ∙ sym (eq-eqb y x (sym e))
    go (no n) = ne_eqb x y n ∙ sym (ne_eqb y x (λ e. n (sym e)))

pub mem_listed : (v : ℕ) (l : List ℕ) → list_any (λ y. eqb y v) l ≡ mem_n v l
mem_listed v [] = refl
mem_listed v (x ∷ l) = rw (turned x v, mem_listed v l)

module _ (k l : List ℕ) (i : ℕ) (g : Going (all_n k l) (all_n (drop i k) l) i (length k)) where
  pub all_off : (b : Bool) → i < length k → b ≡ mem_n (get_or k i 0) l → not b ≡ true → false ≡ all_n k l
  all_off b h e f =
      let z : mem_n (get_or k i 0) l ≡ false = sym e ∙ not-true b f in
      sym (g.left ∙ ap (λ (x : List ℕ). all_n x l) (uncons k 0 i h) ∙ rw z)

  pub all_on : (b : Bool) → i < length k → b ≡ mem_n (get_or k i 0) l → not b ≡ false → Going (all_n k l) (all_n (drop (i + 1) k) l) (i + 1) (length k)
  all_on b h e f =
      let z : mem_n (get_or k i 0) l ≡ true = sym e ∙ not-false b f in
      record { near = omega arith; left = g.left ∙ ap (λ (x : List ℕ). all_n x l) (uncons k 0 i h) ∙ rw z }

module _ (k l : List ℕ) (i : ℕ) (g : Going (any_n k l) (any_n (drop i k) l) i (length k)) where
  pub any_hit : (b : Bool) → i < length k → b ≡ mem_n (get_or k i 0) l → b ≡ true → true ≡ any_n k l
  any_hit b h e f =
      let z : mem_n (get_or k i 0) l ≡ true = sym e ∙ f in
      sym (g.left ∙ ap (λ (x : List ℕ). any_n x l) (uncons k 0 i h) ∙ rw z)

  pub any_on : (b : Bool) → i < length k → b ≡ mem_n (get_or k i 0) l → b ≡ false → Going (any_n k l) (any_n (drop (i + 1) k) l) (i + 1) (length k)
  any_on b h e f =
      let z : mem_n (get_or k i 0) l ≡ false = sym e ∙ f in
      record { near = omega arith; left = g.left ∙ ap (λ (x : List ℕ). any_n x l) (uncons k 0 i h) ∙ rw z }

-- ---- members that ascend

-- each is below the next
abbrev Up : List ℕ → Type 0
Up l = (k : ℕ) → k + 1 < length l → true ≡ ltb (get_or l k 0) (get_or l (k + 1) 0)

up_next : (x y : ℕ) (l : List ℕ) → Up (x ∷ y ∷ l) → Up (y ∷ l)
up_next x y l f k h = let z : suc k + 1 ≡ suc (k + 1) = omega arith in rw z at (f (suc k) (omega arith))

ascend_up : (m : ℕ) (l : List ℕ) → Up l → (0 < length l → m ≤ get_or l 0 0) → ascend m l ≡ true
ascend_up m [] f h = refl
ascend_up m (x ∷ []) f h = rw (le-leb m x (h (omega arith)))
ascend_up m (x ∷ y ∷ l) f h =
    rw (le-leb m x (h (omega arith))) (ascend_up (suc x) (y ∷ l) (up_next x y l f) (λ _. omega (arith, ltb-true x y (sym (f 0 (omega arith))))))

none_true : (b : Bool) → (b && false) ≡ false
none_true true = refl
none_true false = refl

ascend_not : (m : ℕ) (l : List ℕ) (k : ℕ) → k + 1 < length l → false ≡ ltb (get_or l k 0) (get_or l (k + 1) 0) → ascend m l ≡ false
ascend_not m [] k h e = absurd (omega arith)
ascend_not m (x ∷ []) k h e = absurd (omega arith)
ascend_not m (x ∷ y ∷ l) zero h e = rw (lt-leb (suc x) y (omega (arith, ltb-false x y (sym e)))) (none_true (leb m x))
ascend_not m (x ∷ y ∷ l) (suc k) h e =
    let z : suc k + 1 ≡ suc (k + 1) = omega arith in
    rw (ascend_not (suc x) (y ∷ l) k (omega arith) (rw z at e)) (none_true (leb m x))

pub ascend_answer : (l : List ℕ) (b : Bool) → IsAllAdjacentAnswer (λ x y c. c ≡ ltb x y) l b → b ≡ ascend 0 l
ascend_answer l true h = sym (ascend_up 0 l (λ k p. h k 0 p) (λ _. omega arith))
ascend_answer l false h = sym (ascend_not 0 l h.0 h.1 (h.2 0))

-- what is below the first of them is none of them
ascend_above : (m v : ℕ) (l : List ℕ) → ascend m l ≡ true → v < m → mem_n v l ≡ false
ascend_above m v [] e h = refl
ascend_above m v (x ∷ l) e h =
    let a = (and-eq-true_iff (leb m x) (ascend (suc x) l)).0 e in
    let k : m ≤ x = leb-true m x a.0 in
    rw (ne_eqb v x (λ z. omega arith)) (ascend_above (suc x) v l a.1 (omega arith))

ascend_low : (m : ℕ) (l : List ℕ) → ascend m l ≡ true → ascend 0 l ≡ true
ascend_low m [] e = refl
ascend_low m (x ∷ l) e = rw (le-leb 0 x (omega arith)) ((and-eq-true_iff (leb m x) (ascend (suc x) l)).0 e).1

ascend_rest : (j m : ℕ) (l : List ℕ) → ascend m l ≡ true → ascend 0 (drop j l) ≡ true
ascend_rest zero m l e = ascend_low m l e
ascend_rest (suc j) m [] e = refl
ascend_rest (suc j) m (x ∷ l) e = ascend_rest j (suc x) l ((and-eq-true_iff (leb m x) (ascend (suc x) l)).0 e).1

module _ (l : List ℕ) (v j : ℕ) where
  pub stands_above : (up : Bool) → (up ≡ true → ascend 0 l ≡ true) → up ≡ true → j < length l → v < get_or l j 0 → false ≡ mem_n v (drop j l)
  stands_above up eu u h b =
      let a : ascend 0 (get_or l j 0 ∷ drop (j + 1) l) ≡ true = ap (ascend 0) (sym (uncons l 0 j h)) ∙ ascend_rest j 0 l (eu u) in
      let r = ((and-eq-true_iff (leb 0 (get_or l j 0)) (ascend (suc (get_or l j 0)) (drop (j + 1) l))).0 a).1 in
      sym (ap (mem_n v) (uncons l 0 j h) ∙ rw (ne_eqb v (get_or l j 0) (λ z. omega arith)) (ascend_above (suc (get_or l j 0)) v (drop (j + 1) l) r (omega arith)))

-- ---- the first place that is not below a number

pub record Reaching (l : List ℕ) (v from j : ℕ) : Type 0 where
  pub left : from + lower_than v (drop from l) ≡ j + lower_than v (drop j l)

pub reach_start : (l : List ℕ) (v j : ℕ) → Reaching l v j j
reach_start l v j = record { left = refl }

module _ (l : List ℕ) (v from j : ℕ) (g : Reaching l v from j) where
  pub reach_end : length l ≤ j → j ≡ from + lower_than v (drop from l)
  unfolding lower_than
  reach_end h =
      let z : j + 0 ≡ j = omega arith in
      sym (g.left ∙ ap (λ (x : List ℕ). j + lower_than v x) (spent l j h) ∙ z)

  pub reach_last : length l ≤ j → (from ≤ length l → j ≤ length l) → max from (length l) ≡ from + lower_than v (drop from l)
  unfolding lower_than
  reach_last h k = go (dec_lt (length l) from)
    where
      go : Dec (length l < from) → max from (length l) ≡ from + lower_than v (drop from l)
      go (yes b) =
          let z : from + lower_than v (drop from l) ≡ from + 0 = ap (λ (x : List ℕ). from + lower_than v x) (spent l from (omega arith)) in
          omega (arith, z)
      go (no b) = let z = reach_end h in omega (arith, z, k)

  pub reach_stop : j < length l → v ≤ get_or l j 0 → j ≡ from + lower_than v (drop from l)
  unfolding lower_than
  reach_stop h b =
      let z : j + 0 ≡ j = omega arith in
      sym (g.left ∙ ap (λ (x : List ℕ). j + lower_than v x) (uncons l 0 j h) ∙ rw (le-ltb (get_or l j 0) v b) z)

  pub reach_on : j < length l → get_or l j 0 < v → Reaching l v from (j + 1)
  unfolding lower_than
  reach_on h b =
      let s : j + suc (lower_than v (drop (j + 1) l)) ≡ j + 1 + lower_than v (drop (j + 1) l) = omega arith in
      record { left = g.left ∙ ap (λ (x : List ℕ). j + lower_than v x) (uncons l 0 j h) ∙ rw (lt-ltb (get_or l j 0) v b) s }

mem_past : (v w : ℕ) (l : List ℕ) → v ≤ w → mem_n w (drop (lower_than v l) l) ≡ mem_n w l
unfolding lower_than
mem_past v w [] h = refl
mem_past v w (x ∷ l) h = go (dec_lt x v) (mem_past v w l h)
  where
    go : Dec (x < v) → mem_n w (drop (lower_than v l) l) ≡ mem_n w l → mem_n w (drop (cond (ltb x v) (suc (lower_than v l)) 0) (x ∷ l)) ≡ mem_n w (x ∷ l)
    go (yes b) e = rw (lt-ltb x v b, ne_eqb w x (λ z. omega arith)) e
    go (no b) e = rw (le-ltb x v (omega arith))

-- a member of k is looked for from place j on, which was reached for u: what is not below u is no member before it
pub record Seeking {A : Type 0} (whole rest : A) (l : List ℕ) (u j i n : ℕ) : Type 0 where
  pub going : Going whole rest i n
  pub skip : (w : ℕ) → u ≤ w → mem_n w l ≡ mem_n w (drop j l)

pub seek_start : {A : Type 0} (whole : A) (l : List ℕ) (n : ℕ) → Seeking whole whole l 0 0 0 n
seek_start whole l n = record { going = record { near = omega arith; left = refl }; skip = λ w h. refl }

module _ (l : List ℕ) (u j : ℕ) (skip : (w : ℕ) → u ≤ w → mem_n w l ≡ mem_n w (drop j l)) (v r k : ℕ)
    (er : r ≡ cond (ltb v u) 0 j) (ek : k ≡ r + lower_than v (drop r l)) where
  from_there : (w : ℕ) → v ≤ w → mem_n w l ≡ mem_n w (drop r l)
  from_there w h = go (dec_lt v u)
    where
      go : Dec (v < u) → mem_n w l ≡ mem_n w (drop r l)
      go (yes b) = let z : r ≡ 0 = er ∙ rw (lt-ltb v u b) in rw z
      go (no b) = let z : r ≡ j = er ∙ rw (le-ltb v u (omega arith)) in rw z (skip w (omega arith))

  skipped : (w : ℕ) → v ≤ w → mem_n w l ≡ mem_n w (drop k l)
  skipped w h =
      from_there w h ∙ sym (mem_past v w (drop r l) h) ∙ ap (mem_n w) (drop-drop (lower_than v (drop r l)) r l ∙ ap (λ (n : ℕ). drop n l) (sym ek))

module _ (k l : List ℕ) (u j i : ℕ) (r j' : ℕ) (b : Bool) (er : r ≡ cond (ltb (get_or k i 0) u) 0 j) (ej : j' ≡ r + lower_than (get_or k i 0) (drop r l))
    (eb : b ≡ mem_n (get_or k i 0) (drop j' l)) where
  is_member : ((w : ℕ) → u ≤ w → mem_n w l ≡ mem_n w (drop j l)) → b ≡ mem_n (get_or k i 0) l
  is_member skip = eb ∙ sym (skipped l u j skip (get_or k i 0) r j' er ej (get_or k i 0) (le_refl (get_or k i 0)))

  module _ (g : Seeking (all_n k l) (all_n (drop i k) l) l u j i (length k)) where
    pub covers_off : i < length k → not b ≡ true → false ≡ all_n k l
    covers_off h f = all_off k l i g.going b h (is_member g.skip) f

    pub covers_on : i < length k → not b ≡ false → Seeking (all_n k l) (all_n (drop (i + 1) k) l) l (get_or k i 0) j' (i + 1) (length k)
    covers_on h f = record { going = all_on k l i g.going b h (is_member g.skip) f; skip = skipped l u j g.skip (get_or k i 0) r j' er ej }

  module _ (g : Seeking (any_n k l) (any_n (drop i k) l) l u j i (length k)) where
    pub meets_hit : i < length k → b ≡ true → true ≡ any_n k l
    meets_hit h f = any_hit k l i g.going b h (is_member g.skip) f

    pub meets_on : i < length k → b ≡ false → Seeking (any_n k l) (any_n (drop (i + 1) k) l) l (get_or k i 0) j' (i + 1) (length k)
    meets_on h f = record { going = any_on k l i g.going b h (is_member g.skip) f; skip = skipped l u j g.skip (get_or k i 0) r j' er ej }

-- ---- entries

-- of the items of a record
abbrev pub entry_in : ℕ → List ℕ → Option ℕ
entry_in t l = entry_of t (entries_of l)

pub uncons2 : (s : List ℕ) (i : ℕ) → i + 2 ≤ length s → drop i s ≡ get_or s i 0 ∷ get_or s (i + 1) 0 ∷ drop (i + 2) s
uncons2 s i h =
    let e : i + 1 + 1 ≡ i + 2 = omega arith in
    uncons s 0 i (omega arith) ∙ ap (λ (x : List ℕ). get_or s i 0 ∷ x) (uncons s 0 (i + 1) (omega arith) ∙ ap (λ (j : ℕ). get_or s (i + 1) 0 ∷ drop j s) e)

-- of the pairs that they are
abbrev pub entry_among : ℕ → List (List ℕ) → Option ℕ
entry_among t [] = none
entry_among t (p ∷ l) = pick_n (eqb t (get_or p 0 0)) (get_or p 1 0) (entry_among t l)

pub entry_pairs : (t n : ℕ) (l : List ℕ) → n ≡ length l / 2 → entry_among t (first_chunks 2 n l) ≡ entry_in t l
entry_pairs t n [] e = let z : n ≡ 0 = omega arith in rw z
entry_pairs t n (x ∷ []) e = let z : n ≡ 0 = omega arith in rw z
entry_pairs t zero (x ∷ y ∷ l) e = absurd (omega arith)
entry_pairs t (suc n) (x ∷ y ∷ l) e = ap (pick_n (eqb t x) y) (entry_pairs t n l (omega arith))

module _ (t : ℕ) (s : List (List ℕ)) (i : ℕ) (g : entry_among t s ≡ entry_among t (drop i s)) where
  pub entry_end : length s ≤ i → none ≡ entry_among t s
  entry_end h = sym (g ∙ ap (entry_among t) (spent s i h))

  module _ (d : List ℕ) (h : i < length s) where
    pub entry_hit : t ≡ get_or (get_or s i d) 0 0 → some (get_or (get_or s i d) 1 0) ≡ entry_among t s
    entry_hit e = sym (g ∙ ap (entry_among t) (uncons s d i h) ∙ rw (eq-eqb t (get_or (get_or s i d) 0 0) e))

    pub entry_on : (t ≡ get_or (get_or s i d) 0 0 → ⊥) → entry_among t s ≡ entry_among t (drop (i + 1) s)
    entry_on e = g ∙ ap (entry_among t) (uncons s d i h) ∙ rw (ne_eqb t (get_or (get_or s i d) 0 0) e)

-- ---- two lists

pub same_apart : (x y : List ℕ) → (length x ≡ length y → ⊥) → false ≡ same x y
same_apart [] [] h = absurd (h refl)
same_apart [] (b ∷ y) h = refl
same_apart (a ∷ x) [] h = refl
same_apart (a ∷ x) (b ∷ y) h = go (eqb a b) (same_apart x y (λ e. h (ap suc e)))
  where
    go : (t : Bool) → false ≡ same x y → false ≡ (t && same x y)
    go true e = e
    go false e = refl

module _ (x y : List ℕ) (i : ℕ) (e : length x ≡ length y) (g : Going (same x y) (same (drop i x) (drop i y)) i (length x)) where
  step : i < length x → same (drop i x) (drop i y) ≡ (eqb (get_or x i 0) (get_or y i 0) && same (drop (i + 1) x) (drop (i + 1) y))
  step h = rw (uncons x 0 i h, uncons y 0 i (omega arith))

  pub same_off : i < length x → (get_or x i 0 ≡ get_or y i 0 → ⊥) → false ≡ same x y
  same_off h n = sym (g.left ∙ step h ∙ rw (ne_eqb (get_or x i 0) (get_or y i 0) n))

  pub same_on : i < length x → get_or x i 0 ≡ get_or y i 0 → Going (same x y) (same (drop (i + 1) x) (drop (i + 1) y)) (i + 1) (length x)
  same_on h n = record { near = omega arith; left = g.left ∙ step h ∙ rw (eq-eqb (get_or x i 0) (get_or y i 0) n) }

  pub same_all : length x ≤ i → true ≡ same x y
  same_all h = sym (g.left ∙ rw (spent x i h, spent y i (omega arith)))

pub same_differ : (x y : List ℕ) (j : ℕ) → (get_or x j 0 ≡ get_or y j 0 → ⊥) → false ≡ same x y
same_differ x y j h = go (same x y) refl
  where
    go : (b : Bool) → same x y ≡ b → false ≡ b
    go true e = absurd (h (ap (λ (l : List ℕ). get_or l j 0) (same_is x y e)))
    go false e = refl

-- ---- two lists in a row

pub get_d_first : {A : Type 0} (x y : List A) (d : A) (v n : ℕ) (q : A) → n ≡ length x → v < n → q ≡ get_or x v d → q ≡ get_or (x ++ y) v d
get_d_first x y d v n q e h p = p ∙ sym (get_or-append x y d v (omega arith))

pub get_d_second : {A : Type 0} (x y : List A) (d : A) (v n : ℕ) (q : A) → n ≡ length x → n ≤ v → q ≡ get_or y (v - n) d → q ≡ get_or (x ++ y) v d
get_d_second x y d v n q e h p =
    let s : length x + (v - n) ≡ v = omega arith in
    p ∙ sym (get_or-append-add x y (v - n) d) ∙ ap (λ (j : ℕ). get_or (x ++ y) j d) s
