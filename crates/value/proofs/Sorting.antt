-- The least number from a place on, again and again, gives the numbers ascending and without repeats. Assumes nothing.
use mathlib.Core.Path.{◌≡◌, refl, sym, ap, ◌∙◌}
use mathlib.Core.Bool.{Bool, true, false, cond}
use mathlib.Core.List.{List, [], ◌∷◌}
use mathlib.Core.Option.{Option, none, some}
use Prim.Native.Nat.{ℕ, zero, suc, ◌+◌, ◌/◌, ◌≤◌, ◌<◌, min, compare, Ordering}
use native.Mathlib.Numerals.{add-one}
use native.Mathlib.Omega.{arith}
use native.Mathlib.Decide.{dec_lt}
use borrow.Author.Tests.{lt-ltb, le-ltb}
use lib.Dec.{ltb}
use lib.ListN.{length, get_or, drop}
use Rattle.cedar.specs.Making.{place_n, insert_n, sort_n}
use Rattle.cedar.proofs.OrderLaws.{compare_eq, compare_lt, compare_gt}
use Rattle.std.specs.Prelude.{Option as Maybe, Some, None}
use Rattle.std.specs.Simd.{first_chunks}
use Rattle.value.specs.Shapes.{value_found}
use Rattle.value.specs.Made.{ROW, SOURCE, lower_of, least_of, values_in}
use Rattle.value.proofs.Lists.{uncons, spent, uncons2}

-- ---- one number more

lower_low : (lo : ℕ) (e : Option ℕ) (x : ℕ) → x < lo → e ≡ lower_of lo e x
unfolding lower_of
lower_low lo none x h = rw (lt-ltb x lo h)
lower_low lo (some y) x h = rw (lt-ltb x lo h)

module _ (lo : ℕ) (e : Option ℕ) (x : ℕ) (h : lo ≤ x) where
  lower_first : e ≡ none → some x ≡ lower_of lo e x
  unfolding lower_of
  lower_first z = rw (z, le-ltb x lo h)

  lower_less : (y : ℕ) → e ≡ some y → x < y → some x ≡ lower_of lo e x
  unfolding lower_of
  lower_less y z l = rw (z, le-ltb x lo h, lt-ltb x y l)

  lower_more : (y : ℕ) → e ≡ some y → y ≤ x → some y ≡ lower_of lo e x
  unfolding lower_of
  lower_more y z l = rw (z, le-ltb x lo h, le-ltb x y l)

-- the same by the code's word for the best so far
module _ (lo : ℕ) (e : Maybe ℕ) (x : ℕ) where
  pub best_low : x < lo → value_found e ≡ lower_of lo (value_found e) x
  best_low h = lower_low lo (value_found e) x h

  pub best_first : lo ≤ x → e ≡ None → value_found (Some x) ≡ lower_of lo (value_found e) x
  best_first h z = lower_first lo (value_found e) x h (ap value_found z)

  pub best_less : (y m : ℕ) → lo ≤ x → e ≡ Some y → m ≡ min y x → value_found (Some m) ≡ lower_of lo (value_found e) x
  best_less y m h z q = go (dec_lt x y)
    where
      go : Dec (x < y) → value_found (Some m) ≡ lower_of lo (value_found e) x
      go (yes l) = let w : m ≡ x = omega arith in rw w (lower_less lo (value_found e) x h y (ap value_found z) l)
      go (no l) = let w : m ≡ y = omega arith in rw w (lower_more lo (value_found e) x h y (ap value_found z) (omega arith))

-- two numbers in either order
swap : (lo : ℕ) (e : Option ℕ) (x y : ℕ) → lower_of lo (lower_of lo e x) y ≡ lower_of lo (lower_of lo e y) x
swap lo e x y = low (dec_lt x lo) (dec_lt y lo)
  where
    empty : lo ≤ x → lo ≤ y → Dec (x < y) → Dec (y < x) → lower_of lo (lower_of lo none x) y ≡ lower_of lo (lower_of lo none y) x
    empty a b (yes c) d =
        rw (← (lower_first lo none x a refl), ← (lower_first lo none y b refl), ← (lower_less lo (some y) x a y refl c), ← (lower_more lo (some x) y b x refl (omega arith)))
    empty a b (no c) (yes d) =
        rw (← (lower_first lo none x a refl), ← (lower_first lo none y b refl), ← (lower_more lo (some y) x a y refl (omega arith)), ← (lower_less lo (some x) y b x refl d))
    empty a b (no c) (no d) = let z : x ≡ y = omega arith in rw z

    at_least : (u v : ℕ) → lo ≤ u → lower_of lo (some v) u ≡ some (cond (ltb u v) u v)
    at_least u v a = go (dec_lt u v)
      where
        go : Dec (u < v) → lower_of lo (some v) u ≡ some (cond (ltb u v) u v)
        go (yes c) = sym (lower_less lo (some v) u a v refl c) ∙ rw (lt-ltb u v c)
        go (no c) = sym (lower_more lo (some v) u a v refl (omega arith)) ∙ rw (le-ltb u v (omega arith))

    three : (z : ℕ) → Dec (x < z) → Dec (y < z) → Dec (x < y) → Dec (y < x) → cond (ltb y (cond (ltb x z) x z)) y (cond (ltb x z) x z) ≡ cond (ltb x (cond (ltb y z) y z)) x (cond (ltb y z) y z)
    three z (yes a) (yes b) (yes c) d = rw (lt-ltb x z a, lt-ltb y z b, lt-ltb x y c, le-ltb y x (omega arith))
    three z (yes a) (yes b) (no c) (yes d) = rw (lt-ltb x z a, lt-ltb y z b, le-ltb x y (omega arith), lt-ltb y x d)
    three z (yes a) (yes b) (no c) (no d) = let q : x ≡ y = omega arith in rw q
    three z (yes a) (no b) c d = rw (lt-ltb x z a, le-ltb y z (omega arith), le-ltb y x (omega arith), lt-ltb x z a)
    three z (no a) (yes b) c d = rw (le-ltb x z (omega arith), lt-ltb y z b, le-ltb x y (omega arith))
    three z (no a) (no b) c d = rw (le-ltb x z (omega arith), le-ltb y z (omega arith), le-ltb x z (omega arith))

    both : (f : Option ℕ) → lo ≤ x → lo ≤ y → lower_of lo (lower_of lo f x) y ≡ lower_of lo (lower_of lo f y) x
    both none a b = empty a b (dec_lt x y) (dec_lt y x)
    both (some z) a b =
        rw (at_least x z a, at_least y z b, at_least y (cond (ltb x z) x z) b, at_least x (cond (ltb y z) y z) a)
        (ap some (three z (dec_lt x z) (dec_lt y z) (dec_lt x y) (dec_lt y x)))

    low : Dec (x < lo) → Dec (y < lo) → lower_of lo (lower_of lo e x) y ≡ lower_of lo (lower_of lo e y) x
    low (yes a) d = rw (← (lower_low lo e x a), ← (lower_low lo (lower_of lo e y) x a))
    low (no a) (yes b) = rw (← (lower_low lo e y b), ← (lower_low lo (lower_of lo e x) y b))
    low (no a) (no b) = both e (omega arith) (omega arith)

-- the first number of a list may as well come last
last : (lo : ℕ) (e : Option ℕ) (x : ℕ) (l : List ℕ) → least_of lo (lower_of lo e x) l ≡ lower_of lo (least_of lo e l) x
unfolding least_of
last lo e x [] = refl
last lo e x (y ∷ l) = ap (λ (f : Option ℕ). least_of lo f l) (swap lo e x y) ∙ last lo (lower_of lo e y) x l

-- ---- from a place on

abbrev pub from_n : ℕ → List ℕ → List ℕ
from_n lo [] = []
from_n lo (x ∷ l) = cond (ltb x lo) (from_n lo l) (x ∷ l)

head_n : List ℕ → Option ℕ
head_n [] = none
head_n (x ∷ l) = some x

pub from_none : (l : List ℕ) → from_n 0 l ≡ l
from_none [] = refl
from_none (x ∷ l) = rw (le-ltb x 0 (omega arith))

head_insert : (lo m : ℕ) (s : List ℕ) → head_n (from_n lo (insert_n m s)) ≡ lower_of lo (head_n (from_n lo s)) m
unfolding head_n lower_of
head_insert lo m [] = go (ltb m lo)
  where
    go : (b : Bool) → head_n (cond b [] (m ∷ [])) ≡ cond b none (some m)
    go true = refl
    go false = refl
head_insert lo m (n ∷ l) = go (compare m n) refl (dec_lt m lo) (dec_lt n lo) (head_insert lo m l)
  where
    go : (o : Ordering) → compare m n ≡ o → Dec (m < lo) → Dec (n < lo) → head_n (from_n lo (insert_n m l)) ≡ lower_of lo (head_n (from_n lo l)) m
        → head_n (from_n lo (place_n o m n l (insert_n m l))) ≡ lower_of lo (head_n (from_n lo (n ∷ l))) m
    go Ordering.lt c (yes a) d ih = rw (lt-ltb m lo a) (lower_low lo (head_n (from_n lo (n ∷ l))) m a)
    go Ordering.lt c (no a) d ih =
        let h = compare_lt m n c in
        rw (le-ltb m lo (omega arith), le-ltb n lo (omega arith), le-ltb m lo (omega arith), lt-ltb m n h)
    go Ordering.eq c (yes a) d ih = lower_low lo (head_n (from_n lo (n ∷ l))) m a
    go Ordering.eq c (no a) d ih =
        let h = compare_eq m n c in
        rw (le-ltb n lo (omega arith), le-ltb m lo (omega arith), le-ltb m n (omega arith))
    go Ordering.gt c (yes a) (yes b) ih = rw (lt-ltb n lo b) ih
    go Ordering.gt c (yes a) (no b) ih = let h = compare_gt m n c in absurd (omega arith)
    go Ordering.gt c (no a) (yes b) ih = rw (lt-ltb n lo b) ih
    go Ordering.gt c (no a) (no b) ih =
        let h = compare_gt m n c in
        rw (le-ltb n lo (omega arith), le-ltb m lo (omega arith), le-ltb m n (omega arith))

-- the least number from lo on is the first of those in order
least_head : (lo : ℕ) (l : List ℕ) → least_of lo none l ≡ head_n (from_n lo (sort_n l))
unfolding least_of head_n
least_head lo [] = refl
least_head lo (x ∷ l) = last lo none x l ∙ ap (λ (e : Option ℕ). lower_of lo e x) (least_head lo l) ∙ sym (head_insert lo x (sort_n l))

-- numbers that ascend, from lo on
data Up : ℕ → List ℕ → Type 0 where
  up0 : {lo : ℕ} → Up lo []
  up1 : {lo x : ℕ} {l : List ℕ} → lo ≤ x → Up (suc x) l → Up lo (x ∷ l)

insert_up : {lo : ℕ} (l : List ℕ) (m : ℕ) → lo ≤ m → Up lo l → Up lo (insert_n m l)
insert_up [] m h u = up1 h up0
insert_up {lo} (n ∷ l) m h (up1 k u) = go (compare m n) refl (λ g. insert_up l m g u)
  where
    go : (o : Ordering) → compare m n ≡ o → (suc n ≤ m → Up (suc n) (insert_n m l)) → Up lo (place_n o m n l (insert_n m l))
    go Ordering.lt c r = up1 h (up1 (compare_lt m n c) u)
    go Ordering.eq c r = up1 k u
    go Ordering.gt c r = up1 k (r (compare_gt m n c))

sort_up : (l : List ℕ) → Up 0 (sort_n l)
sort_up [] = up0
sort_up (x ∷ l) = insert_up (sort_n l) x (omega arith) (sort_up l)

from_all : (lo : ℕ) (l : List ℕ) → Up lo l → from_n lo l ≡ l
from_all lo [] u = refl
from_all lo (x ∷ l) (up1 h u) = rw (le-ltb x lo h)

head_low : (lo x : ℕ) (l : List ℕ) → head_n (from_n lo l) ≡ some x → lo ≤ x
unfolding head_n
head_low lo x [] e = let z : ◌≡◌ {A = ℕ} 0 1 = cc in absurd (omega arith)
head_low lo x (n ∷ l) e = go (dec_lt n lo) e (head_low lo x l)
  where
    go : Dec (n < lo) → head_n (cond (ltb n lo) (from_n lo l) (n ∷ l)) ≡ some x → (head_n (from_n lo l) ≡ some x → lo ≤ x) → lo ≤ x
    go (yes a) q ih = ih (rw (lt-ltb n lo a) at q)
    go (no a) q ih =
        let r : some n ≡ some x = rw (le-ltb n lo (omega arith)) at q in
        let z : n ≡ x = cc in
        omega arith

from_on : {b : ℕ} (lo x : ℕ) (l : List ℕ) → Up b l → head_n (from_n lo l) ≡ some x → from_n lo l ≡ x ∷ from_n (x + 1) l
unfolding head_n
from_on lo x [] u e = let z : ◌≡◌ {A = ℕ} 0 1 = cc in absurd (omega arith)
from_on {b} lo x (n ∷ l) (up1 h u) e = go (dec_lt n lo) e (λ q. from_on lo x l u q)
  where
    go : Dec (n < lo) → head_n (cond (ltb n lo) (from_n lo l) (n ∷ l)) ≡ some x → (head_n (from_n lo l) ≡ some x → from_n lo l ≡ x ∷ from_n (x + 1) l)
        → cond (ltb n lo) (from_n lo l) (n ∷ l) ≡ x ∷ cond (ltb n (x + 1)) (from_n (x + 1) l) (n ∷ l)
    go (yes a) q ih =
        let p : head_n (from_n lo l) ≡ some x = rw (lt-ltb n lo a) at q in
        let k : lo ≤ x = head_low lo x l p in
        rw (lt-ltb n lo a, lt-ltb n (x + 1) (omega arith)) (ih p)
    go (no a) q ih =
        let r : some n ≡ some x = rw (le-ltb n lo (omega arith)) at q in
        let z : n ≡ x = cc in
        rw (le-ltb n lo (omega arith), ← z, lt-ltb n (n + 1) (omega arith), add-one n) (ap (λ (m : List ℕ). n ∷ m) (sym (from_all (suc n) l u)))

nothing_left : (l : List ℕ) → head_n l ≡ none → l ≡ []
unfolding head_n
nothing_left [] e = refl
nothing_left (x ∷ l) e = let z : ◌≡◌ {A = ℕ} 0 1 = cc in absurd (omega arith)

-- what one more number does to what is left
pub least_none : (lo : ℕ) (l : List ℕ) → least_of lo none l ≡ none → from_n lo (sort_n l) ≡ []
least_none lo l e = nothing_left (from_n lo (sort_n l)) (sym (least_head lo l) ∙ e)

pub least_some : (lo x : ℕ) (l : List ℕ) → least_of lo none l ≡ some x → from_n lo (sort_n l) ≡ x ∷ from_n (x + 1) (sort_n l)
least_some lo x l e = from_on lo x (sort_n l) (sort_up l) (sym (least_head lo l) ∙ e)

-- ---- rows of four words

pub uncons4 : (s : List ℕ) (i : ℕ) → i + 4 ≤ length s → drop i s ≡ get_or s i 0 ∷ get_or s (i + 1) 0 ∷ get_or s (i + 2) 0 ∷ get_or s (i + 2 + 1) 0 ∷ drop (i + 4) s
uncons4 s i h =
    let e : i + 2 + 2 ≡ i + 4 = omega arith in
    uncons2 s i (omega arith) ∙ ap (λ (x : List ℕ). get_or s i 0 ∷ get_or s (i + 1) 0 ∷ x)
    (uncons2 s (i + 2) (omega arith) ∙ ap (λ (j : ℕ). get_or s (i + 2) 0 ∷ get_or s (i + 2 + 1) 0 ∷ drop j s) e)

pub short : (l : List ℕ) → length l < ROW → values_in l ≡ []
unfolding values_in
short [] h = refl
short (a ∷ []) h = refl
short (a ∷ b ∷ []) h = refl
short (a ∷ b ∷ c ∷ []) h = refl
short (a ∷ b ∷ c ∷ d ∷ l) h = absurd (omega arith)

abbrev pub sources : List (List ℕ) → List ℕ
sources [] = []
sources (q ∷ s) = get_or q SOURCE 0 ∷ sources s

pub values_listed : (n : ℕ) (l : List ℕ) → n ≡ length l / ROW → sources (first_chunks ROW n l) ≡ values_in l
unfolding values_in
values_listed n [] e = let z : n ≡ 0 = omega arith in rw z
values_listed n (t ∷ []) e = let z : n ≡ 0 = omega arith in rw z
values_listed n (t ∷ v ∷ []) e = let z : n ≡ 0 = omega arith in rw z
values_listed n (t ∷ v ∷ m ∷ []) e = let z : n ≡ 0 = omega arith in rw z
values_listed zero (t ∷ v ∷ m ∷ y ∷ l) e = absurd (omega arith)
values_listed (suc n) (t ∷ v ∷ m ∷ y ∷ l) e = ap (λ (k : List ℕ). v ∷ k) (values_listed n l (omega arith))

-- what is left of the rows from number i on, and the best of those before
pub record Lowering (s : List (List ℕ)) (lo : ℕ) (e : Maybe ℕ) (i : ℕ) : Type 0 where
  pub left : least_of lo none (sources s) ≡ least_of lo (value_found e) (sources (drop i s))

module _ (s : List (List ℕ)) (lo : ℕ) (e : Maybe ℕ) (i : ℕ) (g : Lowering s lo e i) where
  pub lowering_on : (d : List ℕ) (f : Maybe ℕ) → i < length s → value_found f ≡ lower_of lo (value_found e) (get_or (get_or s i d) SOURCE 0) → Lowering s lo f (i + 1)
  unfolding least_of
  lowering_on d f h q =
      record { left = g.left ∙ ap (λ (l : List (List ℕ)). least_of lo (value_found e) (sources l)) (uncons s d i h) ∙ ap (λ (o : Option ℕ). least_of lo o (sources (drop (i + 1) s))) (sym q) }

  pub lowering_end : length s ≤ i → (l : List ℕ) → s ≡ first_chunks ROW (length l / ROW) l → value_found e ≡ least_of lo none (values_in l)
  unfolding least_of
  lowering_end h l q =
      sym (sym (ap (least_of lo none) (ap sources q ∙ values_listed (length l / ROW) l refl)) ∙ g.left ∙ ap (λ (k : List (List ℕ)). least_of lo (value_found e) (sources k)) (spent s i h))
