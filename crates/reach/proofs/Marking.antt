-- The parents met and the queue of marked lines while they are expanded, and what they say at the end. Assumes nothing.
use mathlib.Core.Path.{◌≡◌, refl, sym, ◌∙◌, ap, subst}
use mathlib.Core.Bool.{Bool, true, false, cond}
use mathlib.Core.Option.{none, some}
use mathlib.Core.List.{List, [], ◌∷◌}
use mathlib.Core.Logic.{◌⊎◌, inl, inr}
use Prim.Native.Nat.{ℕ, zero, suc, ◌+◌, ◌-◌, ◌<◌, ◌≤◌}
use native.Mathlib.Omega.{arith}
use borrow.Author.Tests.{ltb-true, ltb-false, eqb-true, eqb-false, eq-eqb}
use lib.Dec.{ltb, eqb}
use lib.ListN.{length, get_or, set, length-set}
use lib.Seq.{get_or-set_same}
use Rattle.cedar.proofs.Tools.{no_true, or_left, or_right, either}
use Rattle.cedar.specs.Value.{on_some}
use Rattle.cedar.specs.Numbered.{mem_n}
use Rattle.sheet.specs.Forms.{at, mark}
use Rattle.sheet.specs.Parents.{line_for, parents_in, parents, ancestors}
use Rattle.sheet.proofs.content.Reaching.{parents_are, closed_above, all_above_law}
use Rattle.sheet.proofs.reading.Lines.{set_cases}
use Rattle.met.specs.Noting.{Noted, Skipped}
use Rattle.reach.specs.Marks.{HIDDEN, FAR, place_of, left, named, Queue, Grown, Opened, Taken, Spot, Seen, Spread, Expanded, Self, unknown_at, Found}

-- ---- the place of a line

pub place_most : (v : ℕ) (l : List (List ℕ)) → place_of v l ≤ length l
unfolding place_of
place_most v [] = omega arith
place_most v (r ∷ l) = go (eqb (at r 0) v) (place_most v l)
  where
    go : (b : Bool) → place_of v l ≤ length l → cond b 0 (suc (place_of v l)) ≤ suc (length l)
    go true h = omega arith
    go false h = omega (arith, h)

pub line_there : (v : ℕ) (l : List (List ℕ)) → place_of v l < length l → line_for v l ≡ some (get_or l (place_of v l) [])
unfolding place_of
line_there v [] h = absurd (omega arith)
line_there v (r ∷ l) h = go (eqb (at r 0) v) h (λ q. line_there v l q)
  where
    go : (b : Bool) → cond b 0 (suc (place_of v l)) < suc (length l) → (place_of v l < length l → line_for v l ≡ some (get_or l (place_of v l) [])) → cond b (some r) (line_for v l) ≡ some (get_or (r ∷ l) (cond b 0 (suc (place_of v l))) [])
    go true h f = refl
    go false h f = f (omega (arith, h))

pub line_not : (v : ℕ) (l : List (List ℕ)) → length l ≤ place_of v l → line_for v l ≡ none
unfolding place_of
line_not v [] h = refl
line_not v (r ∷ l) h = go (eqb (at r 0) v) h (λ q. line_not v l q)
  where
    go : (b : Bool) → suc (length l) ≤ cond b 0 (suc (place_of v l)) → (length l ≤ place_of v l → line_for v l ≡ none) → cond b (some r) (line_for v l) ≡ none
    go true h f = absurd (omega (arith, h))
    go false h f = f (omega (arith, h))

module _ (U E : List (List ℕ)) where
  pub parents_at : (x : ℕ) → place_of x E < length E → parents U E x ≡ parents_in U E (get_or E (place_of x E) [])
  parents_at x h = ap (λ o. on_some [] o (parents_in U E)) (line_there x E h)

  pub parents_none : (x : ℕ) → length E ≤ place_of x E → parents U E x ≡ []
  parents_none x h = ap (λ o. on_some [] o (parents_in U E)) (line_not x E h)

  -- one that has parents is listed
  pub with_parents : (x y : ℕ) → mem_n y (parents U E x) ≡ true → place_of x E < length E
  with_parents x y i = go (ltb (place_of x E) (length E)) refl
    where
      go : (b : Bool) → ltb (place_of x E) (length E) ≡ b → place_of x E < length E
      go true e = ltb-true (place_of x E) (length E) e
      go false e = no_true (subst (λ l. mem_n y l ≡ true) (parents_none x (ltb-false (place_of x E) (length E) e)) i)

-- ---- members by place

at_member : (l : List ℕ) (i : ℕ) → i < length l → mem_n (get_or l i 0) l ≡ true
at_member [] i h = absurd (omega arith)
at_member (x ∷ l) zero h = or_left (eqb x x) (mem_n x l) (eq-eqb x x refl)
at_member (x ∷ l) (suc i) h = or_right (eqb (get_or l i 0) x) (mem_n (get_or l i 0) l) (at_member l i (omega (arith, h)))

member_at : (y : ℕ) (l : List ℕ) → mem_n y l ≡ true → (i : ℕ) × (i < length l) × (get_or l i 0 ≡ y)
member_at y [] e = no_true e
member_at y (x ∷ l) e = either (eqb y x) (mem_n y l) e
    (λ z. (0, omega arith, sym (eqb-true y x z)))
    (λ z. let (i, h, q) = member_at y l z in (suc i, omega (arith, h), q))

-- ---- how many lines are not marked

left_most : (n : ℕ) (m : List ℕ) → left n m ≤ n
unfolding left
left_most zero m = omega arith
left_most (suc n) m = let a = left_most n m in omega (arith, a)

left_less : (n : ℕ) (m : List ℕ) (k : ℕ) → k < n → k < length m → get_or m k 0 ≡ 0 → left n (set m k 1) < left n m
unfolding left
left_less zero m k h l z = absurd (omega arith)
left_less (suc n) m k h l z = go (eqb k n) refl (λ i. left_less n m k i l z)
  where
    apart : (k n : ℕ) → k < suc n → (k ≡ n → ⊥) → k < n
    apart k n h z = omega (arith, h, z)

    before : (j : ℕ) → j ≤ k → left j (set m k 1) ≡ left j m
    before zero g = refl
    before (suc j) g = let a = before j (omega (arith, g)) in set_cases m k j 1 0 (λ e. omega (arith, a, e)) (λ e q. absurd (omega (arith, e, g)))

    go : (x : Bool) → eqb k n ≡ x → (k < n → left n (set m k 1) < left n m) → (1 - get_or (set m k 1) n 0) + left n (set m k 1) < (1 - get_or m n 0) + left n m
    go true e ih = let a = eqb-true k n e in let b = before n (omega (arith, a)) in let c : get_or (set m k 1) n 0 ≡ 1 = subst (λ j. get_or (set m k 1) j 0 ≡ 1) a (get_or-set_same m k 1 0 l) in
        let d : get_or m n 0 ≡ 0 = subst (λ j. get_or m j 0 ≡ 0) a z in omega (arith, b, c, d)
    go false e ih = let a = eqb-false k n e in let b = ih (apart k n h a) in set_cases m k n 1 0 (λ q. omega (arith, b, q)) (λ q w. absurd (a (sym q)))

left_before : (n : ℕ) (m : List ℕ) (k : ℕ) → n ≤ k → left n (set m k 1) ≡ left n m
unfolding left
left_before zero m k h = refl
left_before (suc n) m k h = let a = left_before n m k (omega (arith, h)) in set_cases m k n 1 0 (λ e. omega (arith, a, e)) (λ e q. absurd (omega (arith, e, h)))

-- ---- the queue grows

set_stays : (m : List ℕ) (k i : ℕ) → 1 ≤ get_or m i 0 → 1 ≤ get_or (set m k 1) i 0
set_stays m k i a = set_cases m k i 1 0 (λ w. omega (arith, a, w)) (λ w x. omega (arith, x))

-- a mark past those of the lines
queue_beside : (E : List (List ℕ)) (m q : List ℕ) (t k : ℕ) → Queue E m q t → length E ≤ k → Queue E (set m k 1) q t
queue_beside E m q t k c h = record {
  lines = c.lines;
  marks = let a = length-set m k 1 in let b = c.marks in omega (arith, a, b);
  room = c.room;
  few = let a = left_before (length E) m k h in let b = c.few in omega (arith, a, b);
  queued = λ i l a. c.queued i l (set_cases m k i 1 0 (λ w. omega (arith, a, w)) (λ w x. absurd (omega (arith, w, l, h))));
  back = λ j l. let d = c.back j l in (d.0, set_stays m k (place_of (get_or q j 0) E) d.1);
}

-- by nothing
pub grown_old : (E : List (List ℕ)) (v : ℕ) (m q : List ℕ) (t : ℕ) → Queue E m q t → 1 ≤ get_or m (place_of v E) 0 → Grown E v m q t m q t
grown_old E v m q t c f = record { queue = c; long = refl; longq = refl; more = omega arith; same = λ j h. refl; kept = λ k h. h; full = f; only = λ k h a. inl a; hidden = λ a. a }

-- there is room
pub room_left : (E : List (List ℕ)) (m q : List ℕ) (t k : ℕ) → Queue E m q t → k < length E → get_or m k 0 ≡ 0 → t < length E
room_left E m q t k c h z = let a = left_less (length E) m k h (let b = c.marks in let d = c.lines in omega (arith, b, d, h)) z in let d = c.few in omega (arith, a, d)

module _ (E : List (List ℕ)) (v : ℕ) (m q : List ℕ) (t : ℕ) (c : Queue E m q t) (k : ℕ) (e : k ≡ place_of v E) where
  longm : k < length m
  longm = let a = place_most v E in let b = c.marks in let d = c.lines in omega (arith, a, b, d, e)

  mine : 1 ≤ get_or (set m k 1) k 0
  mine = let a = get_or-set_same m k 1 0 longm in omega (arith, a)

  mine_only : (i : ℕ) → 1 ≤ get_or (set m k 1) i 0 → (1 ≤ get_or m i 0) ⊎ (place_of v E ≡ i)
  mine_only i a = set_cases m k i 1 0 (λ w. inl (omega (arith, a, w))) (λ w x. inr (sym e ∙ sym w))

  mine_hidden : 1 ≤ get_or (set m k 1) HIDDEN 0 → 1 ≤ get_or m HIDDEN 0
  mine_hidden a = set_cases m k HIDDEN 1 0 (λ w. omega (arith, a, w)) (λ w x. let b = place_most v E in let d = c.lines in absurd (omega (arith, w, e, b, d)))

  -- by one that is not listed
  pub grown_beside : length E ≤ k → Grown E v m q t (set m k 1) q t
  grown_beside h = record { queue = queue_beside E m q t k c h; long = length-set m k 1; longq = refl; more = omega arith; same = λ j l. refl; kept = λ i a. set_stays m k i a; full = subst (λ i. 1 ≤ get_or (set m k 1) i 0) e mine; only = λ i l a. mine_only i a; hidden = mine_hidden }

  -- by one line
  module _ (h : k < length E) (z : get_or m k 0 ≡ 0) where
    longt : t < length q
    longt = let a = room_left E m q t k c h z in let b = c.room in omega (arith, a, b)

    old : (j : ℕ) → j < t → get_or (set q t v) j 0 ≡ get_or q j 0
    old j l = set_cases q t j v 0 (λ w. w) (λ w x. absurd (omega (arith, l, w)))

    here : place_of (get_or (set q t v) t 0) E ≡ k
    here = ap (λ y. place_of y E) (get_or-set_same q t v 0 longt) ∙ sym e

    pub grown_one : Grown E v m q t (set m k 1) (set q t v) (t + 1)
    grown_one = record {
      queue = record {
        lines = c.lines;
        marks = let a = length-set m k 1 in let b = c.marks in omega (arith, a, b);
        room = let a = length-set q t v in let b = c.room in omega (arith, a, b);
        few = let a = left_less (length E) m k h longm z in let b = c.few in omega (arith, a, b);
        queued = λ i l a. set_cases m k i 1 0
            (λ w. let (j, g, x) = c.queued i l (omega (arith, a, w)) in (j, omega (arith, g), ap (λ y. place_of y E) (old j g) ∙ x))
            (λ w x. (t, omega arith, here ∙ sym w));
        back = λ j l. last j l (eqb j t) refl;
      };
      long = length-set m k 1;
      longq = length-set q t v;
      more = omega arith;
      same = old;
      kept = λ i a. set_stays m k i a;
      full = subst (λ i. 1 ≤ get_or (set m k 1) i 0) e mine;
      only = λ i l a. mine_only i a;
      hidden = mine_hidden;
    }
      where
        last : (j : ℕ) → j < t + 1 → (b : Bool) → eqb j t ≡ b → (place_of (get_or (set q t v) j 0) E < length E) × (1 ≤ get_or (set m k 1) (place_of (get_or (set q t v) j 0) E) 0)
        last j l true y = let a = eqb-true j t y in let b : place_of (get_or (set q t v) j 0) E ≡ k = subst (λ i. place_of (get_or (set q t v) i 0) E ≡ k) (sym a) here in (omega (arith, b, h), subst (λ i. 1 ≤ get_or (set m k 1) i 0) (sym b) mine)
        last j l false y = let a = eqb-false j t y in let g : j < t = omega (arith, a, l) in let b = ap (λ y. place_of y E) (old j g) in let d = c.back j g in
            (let x = d.0 in omega (arith, b, x), subst (λ i. 1 ≤ get_or (set m k 1) i 0) (sym b) (set_stays m k (place_of (get_or q j 0) E) d.1))

-- ---- parents are met

noted_cases : {X : Type 0} (n v : ℕ) (m m₁ : List ℕ) → Noted FAR n v m m₁ → (m₁ ≡ m → v < n → X) → (m₁ ≡ set m FAR 1 → X) → X
noted_cases {X} n v m m₁ d f g = go (ltb v n) refl
  where
    go : (b : Bool) → ltb v n ≡ b → X
    go true e = f (d.near (ltb-true v n e)) (ltb-true v n e)
    go false e = g (d.far (ltb-false v n e))

pub noted_queue : (E : List (List ℕ)) (n v : ℕ) (m m₁ q : List ℕ) (t : ℕ) → Queue E m q t → Noted FAR n v m m₁ → Queue E m₁ q t
noted_queue E n v m m₁ q t c o = noted_cases n v m m₁ o (λ e h. subst (λ u. Queue E u q t) (sym e) c) (λ e. subst (λ u. Queue E u q t) (sym e) (queue_beside E m q t FAR c (let a = c.lines in omega (arith, a))))

pub taken_on : (E : List (List ℕ)) (w m w' m' : List ℕ) (y : ℕ) → length w' ≡ length w → ((k : ℕ) → 1 ≤ get_or m k 0 → 1 ≤ get_or m' k 0) → ((z : ℕ) → 1 ≤ get_or w z 0 → 1 ≤ get_or w' z 0) → Taken E w m y → Taken E w' m' y
taken_on E w m w' m' y e f g (a, b, c) = (f (place_of y E) a, (λ h. g y (b (omega (arith, e, h)))), (λ h. f FAR (c (omega (arith, e, h)))))

-- by nothing
pub seen_none : (E : List (List ℕ)) (l : List ℕ) (n : ℕ) (w m q : List ℕ) (t : ℕ) → Queue E m q t → Spot E w m → ((i : ℕ) → i < n → Taken E w m (get_or l i 0)) → Seen E l n w m q t w m q t
seen_none E l n w m q t c d f = record { queue = c; spot = d; longw = refl; long = refl; longq = refl; more = omega arith; same = λ j h. refl; kept = λ k h. h; keptw = λ y h. h; full = f; only = λ k h a. inl a; onlyw = λ y a. inl a; hidden = λ a. a }

pub seen_old : (E : List (List ℕ)) (v : ℕ) (w m q : List ℕ) (t : ℕ) → Queue E m q t → Spot E w m → 1 ≤ get_or w v 0 → Seen E (v ∷ []) 1 w m q t w m q t
seen_old E v w m q t c d h = seen_none E (v ∷ []) 1 w m q t c d go
  where
    go : (i : ℕ) → i < 1 → Taken E w m (get_or (v ∷ []) i 0)
    go zero l = d.is v h
    go (suc i) l = absurd (omega (arith, l))

-- by one
module _ (E : List (List ℕ)) (v : ℕ) (w m q : List ℕ) (t : ℕ) (c : Queue E m q t) (d : Spot E w m) (w' : List ℕ) (ew : w' ≡ set w v 1) (m₁ : List ℕ) (o : Noted FAR (length w') v m m₁) where
  longer : length w' ≡ length w
  longer = ap length ew ∙ length-set w v 1

  noted_kept : (k : ℕ) → 1 ≤ get_or m k 0 → 1 ≤ get_or m₁ k 0
  noted_kept k a = noted_cases (length w') v m m₁ o (λ e h. subst (λ u. 1 ≤ get_or u k 0) (sym e) a) (λ e. subst (λ u. 1 ≤ get_or u k 0) (sym e) (set_stays m FAR k a))

  noted_back : (k : ℕ) → k < FAR → 1 ≤ get_or m₁ k 0 → 1 ≤ get_or m k 0
  noted_back k h a = noted_cases (length w') v m m₁ o (λ e l. subst (λ u. 1 ≤ get_or u k 0) e a) (λ e. let b : 1 ≤ get_or (set m FAR 1) k 0 = subst (λ u. 1 ≤ get_or u k 0) e a in set_cases m FAR k 1 0 (λ x. omega (arith, b, x)) (λ x y. absurd (omega (arith, x, h))))

  noted_long : length m₁ ≡ length m
  noted_long = noted_cases (length w') v m m₁ o (λ e h. ap length e) (λ e. ap length e ∙ length-set m FAR 1)

  noted_far : length w' ≤ v → 1 ≤ get_or m₁ FAR 0
  noted_far l = noted_cases (length w') v m m₁ o (λ e h. absurd (omega (arith, l, h))) (λ e. let a = get_or-set_same m FAR 1 0 c.marks in subst (λ u. 1 ≤ get_or u FAR 0) (sym e) (omega (arith, a)))

  module _ (m' q' : List ℕ) (t' : ℕ) (g : Grown E v m₁ q t m' q' t') where
    keeps : (k : ℕ) → 1 ≤ get_or m k 0 → 1 ≤ get_or m' k 0
    keeps k a = g.kept k (noted_kept k a)

    keepsw : (y : ℕ) → 1 ≤ get_or w y 0 → 1 ≤ get_or w' y 0
    keepsw y a = subst (λ u. 1 ≤ get_or u y 0) (sym ew) (set_stays w v y a)

    taken : Taken E w' m' v
    taken = (g.full, (λ h. subst (λ u. 1 ≤ get_or u v 0) (sym ew) (let a = get_or-set_same w v 1 0 (omega (arith, longer, h)) in omega (arith, a))), (λ h. g.kept FAR (noted_far h)))

    onlys : (y : ℕ) → 1 ≤ get_or w' y 0 → (1 ≤ get_or w y 0) ⊎ (v ≡ y)
    onlys y a = let b : 1 ≤ get_or (set w v 1) y 0 = subst (λ u. 1 ≤ get_or u y 0) ew a in set_cases w v y 1 0 (λ x. inl (omega (arith, b, x))) (λ x z. inr (sym x))

    pub seen_new : Seen E (v ∷ []) 1 w m q t w' m' q' t'
    seen_new = record {
      queue = g.queue;
      spot = record { is = λ y a. noted y (onlys y a) };
      longw = longer;
      long = g.long ∙ noted_long;
      longq = g.longq;
      more = g.more;
      same = g.same;
      kept = keeps;
      keptw = keepsw;
      full = first;
      only = λ k h a. other k h (g.only k h a);
      onlyw = λ y a. mine_w y (onlys y a);
      hidden = λ a. noted_back HIDDEN (omega arith) (g.hidden a);
    }
      where
        noted : (y : ℕ) → (1 ≤ get_or w y 0) ⊎ (v ≡ y) → Taken E w' m' y
        noted y (inl a) = taken_on E w m w' m' y longer keeps keepsw (d.is y a)
        noted y (inr e) = subst (Taken E w' m') e taken

        first : (i : ℕ) → i < 1 → Taken E w' m' (get_or (v ∷ []) i 0)
        first zero l = taken
        first (suc i) l = absurd (omega (arith, l))

        other : (k : ℕ) → k ≤ length E → (1 ≤ get_or m₁ k 0) ⊎ (place_of v E ≡ k) → (1 ≤ get_or m k 0) ⊎ ((i : ℕ) × (i < 1) × (place_of (get_or (v ∷ []) i 0) E ≡ k))
        other k h (inl a) = inl (noted_back k (let b = c.lines in omega (arith, b, h)) a)
        other k h (inr e) = inr (0, omega arith, e)

        mine_w : (y : ℕ) → (1 ≤ get_or w y 0) ⊎ (v ≡ y) → (1 ≤ get_or w y 0) ⊎ ((i : ℕ) × (i < 1) × (get_or (v ∷ []) i 0 ≡ y))
        mine_w y (inl a) = inl a
        mine_w y (inr e) = inr (0, omega arith, e)

-- by one more
pub seen_more : (E : List (List ℕ)) (l : List ℕ) (n : ℕ) (w m q : List ℕ) (t : ℕ) (w₁ m₁ q₁ : List ℕ) (t₁ : ℕ) (w₂ m₂ q₂ : List ℕ) (t₂ : ℕ) → Seen E l n w m q t w₁ m₁ q₁ t₁ → Seen E (get_or l n 0 ∷ []) 1 w₁ m₁ q₁ t₁ w₂ m₂ q₂ t₂ → Seen E l (n + 1) w m q t w₂ m₂ q₂ t₂
seen_more E l n w m q t w₁ m₁ q₁ t₁ w₂ m₂ q₂ t₂ a b = record {
  queue = b.queue;
  spot = b.spot;
  longw = b.longw ∙ a.longw;
  long = b.long ∙ a.long;
  longq = b.longq ∙ a.longq;
  more = let x = a.more in let y = b.more in omega (arith, x, y);
  same = λ j h. b.same j (let x = a.more in omega (arith, x, h)) ∙ a.same j h;
  kept = λ k h. b.kept k (a.kept k h);
  keptw = λ k h. b.keptw k (a.keptw k h);
  full = λ i h. each i h (eqb i n) refl;
  only = λ k h g. other k h (b.only k h g);
  onlyw = λ y g. otherw y (b.onlyw y g);
  hidden = λ h. a.hidden (b.hidden h);
}
  where
    each : (i : ℕ) → i < n + 1 → (x : Bool) → eqb i n ≡ x → Taken E w₂ m₂ (get_or l i 0)
    each i h true e = let z = eqb-true i n e in subst (λ j. Taken E w₂ m₂ (get_or l j 0)) (sym z) (b.full 0 (omega arith))
    each i h false e = let z = eqb-false i n e in taken_on E w₁ m₁ w₂ m₂ (get_or l i 0) b.longw b.kept b.keptw (a.full i (omega (arith, h, z)))

    last : {A : Type 0} (f : ℕ → A) (k : A) (i : ℕ) → i < 1 → f (get_or (get_or l n 0 ∷ []) i 0) ≡ k → f (get_or l n 0) ≡ k
    last f k zero h e = e
    last f k (suc i) h e = absurd (omega (arith, h))

    widen : (f : ℕ → ℕ) (X : Type 0) (k : ℕ) → X ⊎ ((i : ℕ) × (i < n) × (f (get_or l i 0) ≡ k)) → X ⊎ ((i : ℕ) × (i < n + 1) × (f (get_or l i 0) ≡ k))
    widen f X k (inl x) = inl x
    widen f X k (inr (i, h, e)) = inr (i, omega (arith, h), e)

    other : (k : ℕ) → k ≤ length E → (1 ≤ get_or m₁ k 0) ⊎ ((i : ℕ) × (i < 1) × (place_of (get_or (get_or l n 0 ∷ []) i 0) E ≡ k)) → (1 ≤ get_or m k 0) ⊎ ((i : ℕ) × (i < n + 1) × (place_of (get_or l i 0) E ≡ k))
    other k h (inl x) = widen (λ y. place_of y E) (1 ≤ get_or m k 0) k (a.only k h x)
    other k h (inr (i, g, e)) = inr (n, omega arith, last (λ y. place_of y E) k i g e)

    otherw : (y : ℕ) → (1 ≤ get_or w₁ y 0) ⊎ ((i : ℕ) × (i < 1) × (get_or (get_or l n 0 ∷ []) i 0 ≡ y)) → (1 ≤ get_or w y 0) ⊎ ((i : ℕ) × (i < n + 1) × (get_or l i 0 ≡ y))
    otherw y (inl x) = widen (λ z. z) (1 ≤ get_or w y 0) y (a.onlyw y x)
    otherw y (inr (i, g, e)) = inr (n, omega arith, last (λ z. z) y i g e)

-- by those that were met before
pub seen_skip : (E : List (List ℕ)) (l : List ℕ) (n j : ℕ) (w m q : List ℕ) (t : ℕ) (w' m' q' : List ℕ) (t' : ℕ) → Seen E l n w m q t w' m' q' t' → Skipped w' l n j → Seen E l j w m q t w' m' q' t'
seen_skip E l n j w m q t w' m' q' t' a b = record {
  queue = a.queue;
  spot = a.spot;
  longw = a.longw;
  long = a.long;
  longq = a.longq;
  more = a.more;
  same = a.same;
  kept = a.kept;
  keptw = a.keptw;
  full = λ i h. each i h (ltb i n) refl;
  only = λ k h g. widen (λ y. place_of y E) (1 ≤ get_or m k 0) k (a.only k h g);
  onlyw = λ y g. widen (λ z. z) (1 ≤ get_or w y 0) y (a.onlyw y g);
  hidden = a.hidden;
}
  where
    each : (i : ℕ) → i < j → (x : Bool) → ltb i n ≡ x → Taken E w' m' (get_or l i 0)
    each i h true e = a.full i (ltb-true i n e)
    each i h false e = a.spot.is (get_or l i 0) (b.is i (ltb-false i n e) h)

    widen : (f : ℕ → ℕ) (X : Type 0) (k : ℕ) → X ⊎ ((i : ℕ) × (i < n) × (f (get_or l i 0) ≡ k)) → X ⊎ ((i : ℕ) × (i < j) × (f (get_or l i 0) ≡ k))
    widen f X k (inl x) = inl x
    widen f X k (inr (i, h, e)) = inr (i, let z = b.more in omega (arith, h, z), e)

-- ---- unknown parents are marked

opened_cases : {X : Type 0} (x : ℕ) (m m₁ : List ℕ) → Opened x m m₁ → (m₁ ≡ m → X) → (x ≡ mark → m₁ ≡ set m HIDDEN 1 → X) → X
opened_cases {X} x m m₁ o f g = go (eqb x mark) refl
  where
    go : (b : Bool) → eqb x mark ≡ b → X
    go true e = g (eqb-true x mark e) (o.unknown (eqb-true x mark e))
    go false e = f (o.known (eqb-false x mark e))

module _ (x : ℕ) (m m₁ : List ℕ) (o : Opened x m m₁) where
  pub opened_kept : (k : ℕ) → 1 ≤ get_or m k 0 → 1 ≤ get_or m₁ k 0
  opened_kept k a = opened_cases x m m₁ o (λ e. subst (λ u. 1 ≤ get_or u k 0) (sym e) a) (λ z e. subst (λ u. 1 ≤ get_or u k 0) (sym e) (set_stays m HIDDEN k a))

  opened_back : (k : ℕ) → k < HIDDEN → 1 ≤ get_or m₁ k 0 → 1 ≤ get_or m k 0
  opened_back k h a = opened_cases x m m₁ o (λ e. subst (λ u. 1 ≤ get_or u k 0) e a) (λ z e. let b : 1 ≤ get_or (set m HIDDEN 1) k 0 = subst (λ u. 1 ≤ get_or u k 0) e a in set_cases m HIDDEN k 1 0 (λ y. omega (arith, b, y)) (λ y w. absurd (omega (arith, y, h))))

  pub opened_long : length m₁ ≡ length m
  opened_long = opened_cases x m m₁ o (λ e. ap length e) (λ z e. ap length e ∙ length-set m HIDDEN 1)

  opened_queue : (E : List (List ℕ)) (q : List ℕ) (t : ℕ) → Queue E m q t → Queue E m₁ q t
  opened_queue E q t c = opened_cases x m m₁ o (λ e. subst (λ u. Queue E u q t) (sym e) c) (λ z e. subst (λ u. Queue E u q t) (sym e) (queue_beside E m q t HIDDEN c (let a = c.lines in omega (arith, a))))

  opened_taken : (E : List (List ℕ)) (w : List ℕ) (y : ℕ) → Taken E w m y → Taken E w m₁ y
  opened_taken E w y a = taken_on E w m w m₁ y refl opened_kept (λ z h. h) a

-- ---- the search from v

-- the first h of the queue have had their parents met
pub record Marks (U E : List (List ℕ)) (v : ℕ) (s w m q : List ℕ) (t h : ℕ) : Type 0 where
  pub queue : Queue E m q t
  pub spot : Spot E w m
  pub spread : Spread U E s w m
  pub near : h ≤ t
  pub only : (k : ℕ) → k ≤ length E → 1 ≤ get_or m k 0 → (x : ℕ) × (place_of x E ≡ k) × Self U E v x
  pub onlyw : (y : ℕ) → 1 ≤ get_or w y 0 → mem_n y (ancestors U E v) ≡ true
  pub own : 1 ≤ get_or m (place_of v E) 0
  pub done : (j : ℕ) → j < h → (i : ℕ) → i < length (parents_in U E (get_or E (place_of (get_or q j 0) E) [])) → Taken E w m (get_or (parents_in U E (get_or E (place_of (get_or q j 0) E) [])) i 0)
  pub hidden : 1 ≤ get_or m HIDDEN 0 → (k : ℕ) × (k < length E) × (1 ≤ get_or m k 0) × (unknown_at E k ≡ true)
  pub shown : (j : ℕ) → j < h → unknown_at E (place_of (get_or q j 0) E) ≡ true → 1 ≤ get_or m HIDDEN 0

module _ (U E : List (List ℕ)) (v : ℕ) where
  -- a parent of what is reached is reached
  pub up : (x y : ℕ) → Self U E v x → mem_n y (parents U E x) ≡ true → mem_n y (ancestors U E v) ≡ true
  up x y (inl e) i = parents_are U E v y (subst (λ z. mem_n y (parents U E z) ≡ true) e i)
  up x y (inr h) i = closed_above U E v x y h i

  -- the next line is looked at
  module _ (s w m q : List ℕ) (t h : ℕ) (c : Marks U E v s w m q t h) (lt : h < t) (k : ℕ) (ek : k ≡ place_of (get_or q h 0) E) (x : ℕ) (ex : x ≡ at (get_or E k []) 3) (m₁ : List ℕ) (o : Opened x m m₁) where
    pub marks_open : Marks U E v s w m₁ q t h
    unfolding unknown_at
    marks_open = record {
      queue = opened_queue x m m₁ o E q t c.queue;
      spot = record { is = λ y a. opened_taken x m m₁ o E w y (c.spot.is y a) };
      spread = record { is = λ y a i b. opened_taken x m m₁ o E w (get_or (named U y) i 0) (c.spread.is y a i b) };
      near = c.near;
      only = λ i a b. c.only i a (opened_back x m m₁ o i (let z = c.queue.lines in omega (arith, z, a)) b);
      onlyw = c.onlyw;
      own = opened_kept x m m₁ o (place_of v E) c.own;
      done = λ j a i b. opened_taken x m m₁ o E w (get_or (parents_in U E (get_or E (place_of (get_or q j 0) E) [])) i 0) (c.done j a i b);
      hidden = λ a. opened_cases x m m₁ o
          (λ e. let (i, l, b, z) = c.hidden (subst (λ u. 1 ≤ get_or u HIDDEN 0) e a) in (i, l, opened_kept x m m₁ o i b, z))
          (λ z e. let b = c.queue.back h lt in (k, let d = b.0 in omega (arith, d, ek), opened_kept x m m₁ o k (subst (λ i. 1 ≤ get_or m i 0) (sym ek) b.1), eq-eqb (at (get_or E k []) 3) mark (sym ex ∙ z)));
      shown = λ j a e. opened_kept x m m₁ o HIDDEN (c.shown j a e);
    }

    pub marks_shown : unknown_at E k ≡ true → 1 ≤ get_or m₁ HIDDEN 0
    unfolding unknown_at
    marks_shown e = let z = o.unknown (ex ∙ eqb-true (at (get_or E k []) 3) mark e) in let a = get_or-set_same m HIDDEN 1 0 (let b = c.queue.marks in omega (arith, b)) in subst (λ u. 1 ≤ get_or u HIDDEN 0) (sym z) (omega (arith, a))

  -- its parents are met
  module _ (s w m q : List ℕ) (t h : ℕ) (c : Marks U E v s w m q t h) (lt : h < t) (k : ℕ) (ek : k ≡ place_of (get_or q h 0) E) (x : ℕ) (ex : x ≡ at (get_or E k []) 3) (sh : unknown_at E k ≡ true → 1 ≤ get_or m HIDDEN 0) (s' w' m' q' : List ℕ) (t' : ℕ) (g : Expanded U E x s w m q t s' w' m' q' t') where
    seen : Seen E (parents_in U E (get_or E k [])) (length (parents_in U E (get_or E k []))) w m q t w' m' q' t'
    seen = subst (λ (y : ℕ). Seen E (named U y) (length (named U y)) w m q t w' m' q' t') ex g.seen

    there : (k < length E) × (1 ≤ get_or m k 0)
    there = let a = c.queue.back h lt in (let b = a.0 in omega (arith, b, ek), subst (λ i. 1 ≤ get_or m i 0) (sym ek) a.1)

    -- a parent on line k is reached
    on_it : (j : ℕ) → j < length (parents_in U E (get_or E k [])) → mem_n (get_or (parents_in U E (get_or E k [])) j 0) (ancestors U E v) ≡ true
    on_it j b = let f = there.0 in let (x, p, z) = c.only k (omega (arith, f)) there.1 in
        up x (get_or (parents_in U E (get_or E k [])) j 0) z (subst (λ y. mem_n (get_or (parents_in U E (get_or E k [])) j 0) y ≡ true) (sym (parents_at U E x (omega (arith, p, f)) ∙ ap (λ n. parents_in U E (get_or E n [])) p)) (at_member (parents_in U E (get_or E k [])) j b))

    new_only : (i : ℕ) → i ≤ length E → (1 ≤ get_or m i 0) ⊎ ((j : ℕ) × (j < length (parents_in U E (get_or E k []))) × (place_of (get_or (parents_in U E (get_or E k [])) j 0) E ≡ i)) → (x : ℕ) × (place_of x E ≡ i) × Self U E v x
    new_only i a (inl b) = c.only i a b
    new_only i a (inr (j, b, e)) = (get_or (parents_in U E (get_or E k [])) j 0, e, inr (on_it j b))

    new_onlyw : (y : ℕ) → (1 ≤ get_or w y 0) ⊎ ((j : ℕ) × (j < length (parents_in U E (get_or E k []))) × (get_or (parents_in U E (get_or E k [])) j 0 ≡ y)) → mem_n y (ancestors U E v) ≡ true
    new_onlyw y (inl b) = c.onlyw y b
    new_onlyw y (inr (j, b, e)) = subst (λ z. mem_n z (ancestors U E v) ≡ true) e (on_it j b)

    queued_same : (j : ℕ) → j < t → place_of (get_or q j 0) E ≡ place_of (get_or q' j 0) E
    queued_same j l = ap (λ y. place_of y E) (sym (seen.same j l))

    After : ℕ → Type 0
    After n = (i : ℕ) → i < length (parents_in U E (get_or E n [])) → Taken E w' m' (get_or (parents_in U E (get_or E n [])) i 0)

    each : (j : ℕ) → j < h + 1 → (b : Bool) → eqb j h ≡ b → After (place_of (get_or q' j 0) E)
    unfolding After
    each j a true e = let z = eqb-true j h e in subst After (ek ∙ queued_same h lt ∙ ap (λ i. place_of (get_or q' i 0) E) (sym z)) seen.full
    each j a false e = let z = eqb-false j h e in let b : j < h = omega (arith, a, z) in subst After (queued_same j (omega (arith, b, lt))) (λ i x. taken_on E w m w' m' (get_or (parents_in U E (get_or E (place_of (get_or q j 0) E) [])) i 0) seen.longw seen.kept seen.keptw (c.done j b i x))

    before : (j : ℕ) → j < h + 1 → (b : Bool) → eqb j h ≡ b → unknown_at E (place_of (get_or q' j 0) E) ≡ true → 1 ≤ get_or m HIDDEN 0
    before j a true e f = let z = eqb-true j h e in sh (subst (λ i. unknown_at E i ≡ true) (sym (ek ∙ queued_same h lt ∙ ap (λ i. place_of (get_or q' i 0) E) (sym z))) f)
    before j a false e f = let z = eqb-false j h e in let b : j < h = omega (arith, a, z) in c.shown j b (subst (λ i. unknown_at E i ≡ true) (sym (queued_same j (omega (arith, b, lt)))) f)

    pub marks_on : Marks U E v s' w' m' q' t' (h + 1)
    unfolding After
    marks_on = record {
      queue = seen.queue;
      spot = seen.spot;
      spread = g.spread;
      near = let a = seen.more in omega (arith, a, lt);
      only = λ i a b. new_only i a (seen.only i a b);
      onlyw = λ y b. new_onlyw y (seen.onlyw y b);
      own = seen.kept (place_of v E) c.own;
      done = λ j a. each j a (eqb j h) refl;
      hidden = λ a. let (i, l, b, z) = c.hidden (seen.hidden a) in (i, l, seen.kept i b, z);
      shown = λ j a e. seen.kept HIDDEN (before j a (eqb j h) refl e);
    }

  -- at the start: no mark but its own, and nothing is met
  pub queue_start : (m q : List ℕ) → length E < HIDDEN → FAR < length m → length E ≤ length q → ((k : ℕ) → k < length m → get_or m k 0 ≡ 0) → Queue E m q 0
  queue_start m q n a b f = record { lines = n; marks = a; room = b; few = let z = left_most (length E) m in omega (arith, z); queued = λ k h z. let w = f k (omega (arith, h, n, a)) in absurd (omega (arith, w, z)); back = λ j h. absurd (omega arith) }

  pub marks_start : (s w m q m' q' : List ℕ) (t : ℕ) → length E < HIDDEN → FAR < length m → ((k : ℕ) → k < length m → get_or m k 0 ≡ 0) → ((x : ℕ) → get_or s x 0 ≡ 0) → ((y : ℕ) → get_or w y 0 ≡ 0) → Grown E v m q 0 m' q' t → Marks U E v s w m' q' t 0
  marks_start s w m q m' q' t p a f n o g = record {
    queue = g.queue;
    spot = record { is = λ y h. let z = o y in absurd (omega (arith, z, h)) };
    spread = record { is = λ x h. let z = n x in absurd (omega (arith, z, h)) };
    near = omega arith;
    only = λ k h b. mine_at k h (g.only k h b);
    onlyw = λ y h. let z = o y in absurd (omega (arith, z, h));
    own = g.full;
    done = λ j h. absurd (omega arith);
    hidden = λ h. let z = f HIDDEN (omega (arith, a)) in let b = g.hidden h in absurd (omega (arith, z, b));
    shown = λ j h. absurd (omega arith);
  }
    where
      mine_at : (k : ℕ) → k ≤ length E → (1 ≤ get_or m k 0) ⊎ (place_of v E ≡ k) → (x : ℕ) × (place_of x E ≡ k) × Self U E v x
      mine_at k h (inl b) = let z = f k (omega (arith, h, p, a)) in absurd (omega (arith, z, b))
      mine_at k h (inr e) = (v, e, inl refl)

  -- at the end
  pub marks_end : (s w m q : List ℕ) (t h : ℕ) → Marks U E v s w m q t h → t ≤ h → Found U E v w m
  marks_end s w m q t h c e = record {
    reached = record { only = c.only; all = λ x z. go x z; hidden = c.hidden; shown = open_line };
    only = c.onlyw;
    all = λ y i. (every y i).1;
    far = λ y i. (every y i).2;
  }
    where
      found : (y : ℕ) (l : List ℕ) → ((i : ℕ) → i < length l → Taken E w m (get_or l i 0)) → mem_n y l ≡ true → Taken E w m y
      found y l f i = let (j, a, b) = member_at y l i in subst (Taken E w m) b (f j a)

      step : (x y : ℕ) → 1 ≤ get_or m (place_of x E) 0 → mem_n y (parents U E x) ≡ true → Taken E w m y
      step x y f i = let l = with_parents U E x y i in let (j, a, b) = c.queue.queued (place_of x E) l f in
          found y (parents_in U E (get_or E (place_of (get_or q j 0) E) [])) (c.done j (omega (arith, a, e))) (subst (λ z. mem_n y z ≡ true) (parents_at U E x l ∙ ap (λ n. parents_in U E (get_or E n [])) (sym b)) i)

      every : (y : ℕ) → mem_n y (ancestors U E v) ≡ true → Taken E w m y
      every y i = all_above_law U E (Taken E w m) v (λ z j. step v z c.own j) (λ x z p j. step x z p.0 j) y i

      open_line : (k : ℕ) → k < length E → 1 ≤ get_or m k 0 → unknown_at E k ≡ true → 1 ≤ get_or m HIDDEN 0
      open_line k l f z = let (j, a, b) = c.queue.queued k l f in c.shown j (omega (arith, a, e)) (subst (λ i. unknown_at E i ≡ true) (sym b) z)

      go : (x : ℕ) → Self U E v x → 1 ≤ get_or m (place_of x E) 0
      go x (inl e) = subst (λ z. 1 ≤ get_or m (place_of z E) 0) (sym e) c.own
      go x (inr i) = (every x i).0
