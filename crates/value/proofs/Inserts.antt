-- Numbers put one by one in their places at the end of a log. Assumes nothing.
use mathlib.Core.Path.{◌≡◌, refl, sym, ap, ◌∙◌}
use mathlib.Core.Bool.{Bool, true, false, cond, ◌&&◌}
use mathlib.Core.List.{List, [], ◌∷◌, ◌++◌, append_assoc, append-nil}
use Prim.Native.Nat.{ℕ, zero, suc, ◌+◌, ◌-◌, ◌*◌, ◌/◌, ◌≤◌, ◌<◌, compare, Ordering}
use native.Mathlib.Nat.{le_refl}
use native.Mathlib.Omega.{arith}
use native.Mathlib.Decide.{dec_lt}
use borrow.Author.Tests.{eq-eqb, ne_eqb, lt-ltb, le-ltb}
use lib.Dec.{eqb, ltb}
use lib.ListN.{length, get_or, take, drop, set, length-set, length-append, length-drop}
use lib.Seq.{drop-drop, take-nil, take-take, take_at, drop_at, take-set-lt, length-take-le}
use Rattle.std.specs.List.{copy_within}
use Rattle.std.proofs.lemmas.List.{set-append_left}
use Rattle.std.proofs.lemmas.List.Edits.{take-paste}
use Rattle.std.proofs.lemmas.Grind.{take-set_at}
use Rattle.words.specs.Log.{part, Room, Holds}
use Rattle.words.proofs.Stores.{length_part, part_at, get_d_below}
use Rattle.cedar.specs.Making.{place_n, insert_n, sort_n}
use Rattle.cedar.proofs.OrderLaws.{compare_eq, compare_lt, compare_gt}
use Rattle.value.specs.Places.{lower_than}
use Rattle.value.specs.Made.{ROW, SOURCE, Shifted, Inserted, values_in, push_all}
use Rattle.value.proofs.Sorting.{short, uncons4}
use Rattle.value.proofs.Fills.{drop_take, push_all_law}

-- ---- one place on

pub shift_is : (b : List ℕ) (j p x : ℕ) → j ≤ p → p < length b → (q : List ℕ) → q ≡ copy_within b j p (j + 1) → length q ≡ length b → Shifted b j p x (set q j x)
shift_is b j p x h k q e n =
    let z : j + 1 + (p - j) ≡ p + 1 = omega arith in
    let m : take (p + 1) q ≡ take (j + 1) b ++ part b j p = ap (take (p + 1)) e ∙ ap (λ (n : ℕ). take n (copy_within b j p (j + 1))) (sym z) ∙ take-paste b (j + 1) (drop j b) (p - j) (omega arith) (omega (arith, length-drop j b)) in
    let s : j < length (take (j + 1) b) = omega (arith, length-take-le (j + 1) b (omega arith)) in
    let f : set (take (j + 1) b) j x ≡ take j b ++ (x ∷ []) = sym (take-set-lt (j + 1) b j x (omega arith)) ∙ take-set_at b j (j + 1) x refl (omega arith) in
    record {
      words = take-set-lt (p + 1) q j x (omega arith) ∙ rw (m, set-append_left (take (j + 1) b) (part b j p) j x s, f, append_assoc (take j b) (x ∷ []) (part b j p));
      len = length-set q j x ∙ n;
    }

-- ---- a place among others

lower_most : (x : ℕ) (l : List ℕ) → lower_than x l ≤ length l
unfolding lower_than
lower_most x [] = omega arith
lower_most x (y ∷ l) = go (ltb y x) (lower_most x l)
  where
    go : (b : Bool) → lower_than x l ≤ length l → cond b (suc (lower_than x l)) 0 ≤ suc (length l)
    go true h = omega arith
    go false h = omega arith

abbrev there : ℕ → ℕ → List ℕ → Bool
there x m l = ltb m (length l) && eqb (get_or l m 0) x

there_next : (x m y : ℕ) (l : List ℕ) → there x (suc m) (y ∷ l) ≡ there x m l
there_next x m y l = ap (λ (b : Bool). b && eqb (get_or l m 0) x) (go (dec_lt m (length l)))
  where
    go : Dec (m < length l) → ltb (suc m) (suc (length l)) ≡ ltb m (length l)
    go (yes h) = lt-ltb (suc m) (suc (length l)) (omega arith) ∙ sym (lt-ltb m (length l) h)
    go (no h) = le-ltb (suc m) (suc (length l)) (omega arith) ∙ sym (le-ltb m (length l) (omega arith))

insert_split : (x : ℕ) (l : List ℕ) → insert_n x l ≡ cond (there x (lower_than x l) l) l (take (lower_than x l) l ++ (x ∷ drop (lower_than x l) l))
unfolding lower_than
insert_split x [] = refl
insert_split x (y ∷ l) = go (compare x y) refl (insert_split x l)
  where
    more : (c : Bool) → y ∷ cond c l (take (lower_than x l) l ++ (x ∷ drop (lower_than x l) l)) ≡ cond c (y ∷ l) (y ∷ (take (lower_than x l) l ++ (x ∷ drop (lower_than x l) l)))
    more true = refl
    more false = refl

    go : (o : Ordering) → compare x y ≡ o → insert_n x l ≡ cond (there x (lower_than x l) l) l (take (lower_than x l) l ++ (x ∷ drop (lower_than x l) l))
        → place_n o x y l (insert_n x l) ≡ cond (there x (cond (ltb y x) (suc (lower_than x l)) 0) (y ∷ l)) (y ∷ l) (take (cond (ltb y x) (suc (lower_than x l)) 0) (y ∷ l) ++ (x ∷ drop (cond (ltb y x) (suc (lower_than x l)) 0) (y ∷ l)))
    go Ordering.lt c ih =
        let h = compare_lt x y c in
        rw (le-ltb y x (omega arith), lt-ltb 0 (suc (length l)) (omega arith), ne_eqb y x (λ z. omega arith))
    go Ordering.eq c ih =
        let h = compare_eq x y c in
        rw (le-ltb y x (omega arith), lt-ltb 0 (suc (length l)) (omega arith), eq-eqb y x (sym h))
    go Ordering.gt c ih =
        let h = compare_gt x y c in
        rw (lt-ltb y x h, there_next x (lower_than x l) y l) (ap (λ (m : List ℕ). y ∷ m) ih ∙ more (there x (lower_than x l) l))

-- ---- a number among the words from at to p

take_add : (n m : ℕ) (l : List ℕ) → take (n + m) l ≡ take n l ++ take m (drop n l)
take_add zero m l = let z : 0 + m ≡ m = omega arith in rw z
take_add (suc n) m [] = take-nil (suc n + m) ∙ sym (take-nil m)
take_add (suc n) m (x ∷ l) = let z : suc n + m ≡ suc (n + m) = omega arith in rw z (ap (λ (k : List ℕ). x ∷ k) (take_add n m l))

module _ (b : List ℕ) (at p x : ℕ) (h : at ≤ p) (k : p < length b) (l : List ℕ) (el : l ≡ part b at p) (r : ℕ) (er : r ≡ 0 + lower_than x (drop 0 l)) where
  width : length (part b at p) ≡ p - at
  width = length_part b at p (omega arith)

  place : r ≡ lower_than x (part b at p)
  place = let z : 0 + lower_than x l ≡ lower_than x l = omega arith in er ∙ z ∙ ap (lower_than x) el

  pub insert_low : at + r ≤ p
  insert_low = omega (arith, place, width, lower_most x (part b at p))

  module _ (c : Bool) (ec : c ≡ (ltb (at + r) p && eqb (get_or b (at + r) 0) x)) where
    test : there x r (part b at p) ≡ c
    test = go (dec_lt (at + r) p) ∙ sym ec
      where
        go : Dec (at + r < p) → there x r (part b at p) ≡ (ltb (at + r) p && eqb (get_or b (at + r) 0) x)
        go (yes q) = rw (lt-ltb (at + r) p q, lt-ltb r (length (part b at p)) (omega (arith, width)), part_at b at p r (omega arith))
        go (no q) = rw (le-ltb (at + r) p (omega arith), le-ltb r (length (part b at p)) (omega (arith, width)))

    split : insert_n x (part b at p) ≡ cond c (part b at p) (take r (part b at p) ++ (x ∷ drop r (part b at p)))
    split =
        let e : there x (lower_than x (part b at p)) (part b at p) ≡ c = rw place at test in
        insert_split x (part b at p) ∙ rw (e, ← place)

    pub insert_same : c ≡ true → Inserted b at p x b p
    insert_same q =
        let z : at + (p - at) ≡ p = omega arith in
        let t : take p b ≡ take at b ++ part b at p = ap (λ (n : ℕ). take n b) (sym z) ∙ take_add at (p - at) b in
        let s : insert_n x (part b at p) ≡ part b at p = split ∙ rw q in
        record { words = t ∙ ap (λ (m : List ℕ). take at b ++ m) (sym s); low = h; high = omega arith; len = refl }

    pub insert_shift : c ≡ false → (b' : List ℕ) → Shifted b (at + r) p x b' → Inserted b at p x b' (p + 1)
    insert_shift q b' w =
        let s : insert_n x (part b at p) ≡ take r (part b at p) ++ (x ∷ drop r (part b at p)) = split ∙ rw q in
        let f : take (at + r) b ≡ take at b ++ take r (part b at p) = take_add at r b ∙ ap (λ (m : List ℕ). take at b ++ m) (sym (take-take r (p - at) (drop at b) (omega (arith, insert_low)))) in
        let z : p - at - r ≡ p - (at + r) = omega arith in
        let d : drop r (part b at p) ≡ part b (at + r) p = drop_take r (p - at) (drop at b) ∙ ap (take (p - at - r)) (drop-drop r at b) ∙ ap (λ (n : ℕ). take n (drop (at + r) b)) z in
        record {
          words = w.words ∙ rw (f, ← d, append_assoc (take at b) (take r (part b at p)) (x ∷ drop r (part b at p))) (ap (λ (m : List ℕ). take at b ++ m) (sym s));
          low = omega arith;
          high = le_refl (p + 1);
          len = w.len;
        }

pub there_none : (b : List ℕ) (j p x : ℕ) → p ≤ j → false ≡ (ltb j p && eqb (get_or b j 0) x)
there_none b j p x h = sym (rw (le-ltb j p h))

-- ---- the values of rows, the last row's first

-- those from row i on stand at the end of the log
pub record Inserting (b₀ : List ℕ) (at start bt : ℕ) (b : List ℕ) (p i : ℕ) : Type 0 where
  pub len : length b ≡ length b₀
  pub grows : at ≤ p
  pub most : p + i ≤ at + length (part b₀ start bt)
  pub fits : ROW * i ≤ length (part b₀ start bt)
  pub is : take p b ≡ take at b₀ ++ sort_n (values_in (drop (ROW * i) (part b₀ start bt)))

module _ (b₀ : List ℕ) (at start bt : ℕ) (h : Room b₀ at) (k : bt ≤ at) (r : at + length (part b₀ start bt) ≤ 16384) where
  pub inserting_start : (l : List ℕ) → l ≡ part b₀ start bt → Inserting b₀ at start bt b₀ at (length l / ROW)
  inserting_start l el =
      let n : length (part b₀ start bt) ≡ length l = ap length (sym el) in
      let w : length (drop (ROW * (length l / ROW)) (part b₀ start bt)) < ROW = rw (length-drop (ROW * (length l / ROW)) (part b₀ start bt)) (omega arith) in
      let e : values_in (drop (ROW * (length l / ROW)) (part b₀ start bt)) ≡ [] = short (drop (ROW * (length l / ROW)) (part b₀ start bt)) w in
      record { len = refl; grows = le_refl at; most = omega arith; fits = omega arith; is = rw e (sym (append-nil (take at b₀))) }

  module _ (b : List ℕ) (p i : ℕ) (g : Inserting b₀ at start bt b p i) where
    base : length (take at b₀) ≡ at
    base = length-take-le at b₀ (omega (arith, h.low, h.long))

    pub inserting_room : 0 < i → p < length b
    inserting_room o = omega (arith, g.most, g.len, h.long)

    pub inserting_near : 0 < i → start + ROW * (i - 1) + ROW ≤ 16384
    inserting_near o = omega (arith, g.fits, length_part b₀ start bt (omega (arith, h.low, h.long)), h.low)

    pub inserting_end : i ≤ 0 → Holds at b p (push_all (take at b₀) (sort_n (values_in (part b₀ start bt))))
    inserting_end o =
        let z : ROW * i ≡ 0 = omega arith in
        let e : take p b ≡ take at b₀ ++ sort_n (values_in (part b₀ start bt)) = rw z at g.is in
        let n : length (take p b) ≡ p = length-take-le p b (omega (arith, g.most, g.len, h.long)) in
        let m : length (take at b₀) + length (sort_n (values_in (part b₀ start bt))) ≤ 16384 = omega (arith, length-append (take at b₀) (sort_n (values_in (part b₀ start bt))), ap length e, g.most) in
        record { is = e ∙ sym (push_all_law (take at b₀) (sort_n (values_in (part b₀ start bt))) m); low = omega (arith, g.most); grows = g.grows }

    module _ (o : 0 < i) (x : ℕ) (ex : x ≡ get_or b (start + ROW * (i - 1) + SOURCE) 0) (b' : List ℕ) (p' : ℕ) (w : Inserted b at p x b' p') where
      kept : take at b ≡ take at b₀
      kept = sym (take-take at p b g.grows) ∙ ap (take at) g.is ∙ take_at (take at b₀) (sort_n (values_in (drop (ROW * i) (part b₀ start bt)))) at base

      held : part b at p ≡ sort_n (values_in (drop (ROW * i) (part b₀ start bt)))
      held = sym (drop_take at p b) ∙ ap (drop at) g.is ∙ drop_at (take at b₀) (sort_n (values_in (drop (ROW * i) (part b₀ start bt)))) at base

      wide : length (part b₀ start bt) ≡ bt - start
      wide = length_part b₀ start bt (omega (arith, h.low, h.long))

      value : get_or (part b₀ start bt) (ROW * (i - 1) + SOURCE) 0 ≡ x
      value =
          let z : start + (ROW * (i - 1) + SOURCE) ≡ start + ROW * (i - 1) + SOURCE = omega arith in
          part_at b₀ start bt (ROW * (i - 1) + SOURCE) (omega (arith, g.fits, wide))
          ∙ ap (λ (j : ℕ). get_or b₀ j 0) z
          ∙ sym (ex ∙ get_d_below at b₀ b kept (start + ROW * (i - 1) + SOURCE) (omega (arith, g.fits, wide)))

      four : values_in (drop (ROW * (i - 1)) (part b₀ start bt)) ≡ x ∷ values_in (drop (ROW * i) (part b₀ start bt))
      unfolding values_in
      four =
          let z : ROW * (i - 1) + ROW ≡ ROW * i = omega arith in
          ap values_in (uncons4 (part b₀ start bt) (ROW * (i - 1)) (omega (arith, g.fits))) ∙ rw (value, z)

      pub inserting_on : Inserting b₀ at start bt b' p' (i - 1)
      inserting_on =
          record {
            len = w.len ∙ g.len;
            grows = w.low;
            most = omega (arith, w.high, g.most);
            fits = omega (arith, g.fits);
            is = w.words ∙ rw (kept, held, four);
          }
