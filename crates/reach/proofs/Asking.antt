-- What is asked of the marked lines is asked of the ancestors. Assumes nothing.
use mathlib.Core.Path.{◌≡◌, refl, sym, ◌∙◌, ap, ap₂, subst}
use mathlib.Core.Bool.{Bool, true, false, cond, not, ◌&&◌, ◌||◌}
use mathlib.Core.List.{List, [], ◌∷◌}
use mathlib.Core.Logic.{◌⊎◌, inl, inr}
use Prim.Native.Nat.{ℕ, zero, suc, ◌+◌, ◌<◌, ◌≤◌}
use native.Mathlib.Omega.{arith}
use borrow.Author.Tests.{ltb-true, ltb-false, eqb-true, eqb-false, eq-eqb, ne_eqb}
use lib.Dec.{ltb, eqb}
use lib.ListN.{length, get_or}
use Rattle.cedar.proofs.Tools.{no_true, or_left, or_right, either, both, and_both, iff}
use Rattle.cedar.specs.Value.{on_some}
use Rattle.cedar.specs.Numbered.{mem_n, any_n}
use Rattle.sheet.specs.Forms.{at, mark}
use Rattle.sheet.specs.Parents.{Reaches, parent, beyond, parents_in, parents, ancestors, is_open, any_open, unknown_above}
use Rattle.sheet.proofs.content.Reaching.{parents_are, closed_above, are_reached, reached_are}
use Rattle.reach.specs.Marks.{HIDDEN, FAR, place_of, Self, Reached, Found, any_marked, names_at, unknown_at, is_met, any_met, marked_at}
use Rattle.reach.proofs.Marking.{place_most, parents_at, with_parents, line_there, line_not}

-- ---- one of some places

nonzero : (x : ℕ) → 1 ≤ x → not (eqb x 0) ≡ true
nonzero zero h = absurd (omega arith)
nonzero (suc x) h = ap not (ne_eqb (suc x) 0 (λ z. omega (arith, z)))

not_zero : (x : ℕ) → not (eqb x 0) ≡ true → 1 ≤ x
not_zero zero h = no_true (sym (ap not (eq-eqb 0 0 refl)) ∙ h)
not_zero (suc x) h = omega arith

pub marked_in : (f : ℕ → Bool) (m : List ℕ) (i n k : ℕ) → i ≤ k → k < i + n → 1 ≤ get_or m k 0 → f k ≡ true → any_marked f m i n ≡ true
unfolding any_marked marked_at
marked_in f m i zero k a b h e = absurd (omega (arith, a, b))
marked_in f m i (suc n) k a b h e = go (eqb i k) refl (λ z. marked_in f m (suc i) n k z (omega (arith, b)) h e)
  where
    go : (x : Bool) → eqb i k ≡ x → (suc i ≤ k → any_marked f m (suc i) n ≡ true) → ((not (eqb (get_or m i 0) 0) && f i) || any_marked f m (suc i) n) ≡ true
    go true q ih = let z = eqb-true i k q in or_left (not (eqb (get_or m i 0) 0) && f i) (any_marked f m (suc i) n) (both (nonzero (get_or m i 0) (subst (λ j. 1 ≤ get_or m j 0) (sym z) h)) (ap f z ∙ e))
    go false q ih = let z = eqb-false i k q in or_right (not (eqb (get_or m i 0) 0) && f i) (any_marked f m (suc i) n) (ih (omega (arith, a, z)))

pub marked_out : {X : Type 0} (f : ℕ → Bool) (m : List ℕ) (i n : ℕ) → any_marked f m i n ≡ true → ((k : ℕ) → i ≤ k → k < i + n → 1 ≤ get_or m k 0 → f k ≡ true → X) → X
unfolding any_marked marked_at
marked_out f m i zero e g = no_true e
marked_out f m i (suc n) e g = either (not (eqb (get_or m i 0) 0) && f i) (any_marked f m (suc i) n) e
    (λ z. and_both (not (eqb (get_or m i 0) 0)) (f i) z (λ p q. g i (omega arith) (omega arith) (not_zero (get_or m i 0) p) q))
    (λ z. marked_out f m (suc i) n z (λ k a b h q. g k (omega (arith, a)) (omega (arith, b)) h q))

open_in : (U E : List (List ℕ)) (l : List ℕ) (y : ℕ) → mem_n y l ≡ true → is_open U E y ≡ true → any_open U E l ≡ true
open_in U E [] y i h = no_true i
open_in U E (x ∷ l) y i h = either (eqb y x) (mem_n y l) i (λ z. or_left (is_open U E x) (any_open U E l) (subst (λ w. is_open U E w ≡ true) (eqb-true y x z) h)) (λ z. or_right (is_open U E x) (any_open U E l) (open_in U E l y z h))

open_out : {X : Type 0} (U E : List (List ℕ)) (l : List ℕ) → any_open U E l ≡ true → ((y : ℕ) → mem_n y l ≡ true → is_open U E y ≡ true → X) → X
open_out U E [] e f = no_true e
open_out U E (x ∷ l) e f = either (is_open U E x) (any_open U E l) e (λ z. f x (or_left (eqb x x) (mem_n x l) (eq-eqb x x refl)) z) (λ z. open_out U E l z (λ y i h. f y (or_right (eqb y x) (mem_n y l) i) h))

-- ---- the marked lines and the ancestors

steps : {X : Type 0} (U E : List (List ℕ)) {n m : ℕ} → Reaches (parents U E) n m → ((x : ℕ) → (x ≡ n) ⊎ Reaches (parents U E) n x → mem_n m (parents U E x) ≡ true → X) → X
steps U E {n} (parent e) f = f n (inl refl) e
steps U E (beyond {p = p} h e) f = f p (inr h) e

module _ (U E : List (List ℕ)) (v : ℕ) (m : List ℕ) (h : Reached U E v m) where
  -- the last step to an ancestor
  last_step : {X : Type 0} (t : ℕ) → mem_n t (ancestors U E v) ≡ true → ((x : ℕ) → Self U E v x → mem_n t (parents U E x) ≡ true → X) → X
  last_step {X} t i f = steps U E (are_reached U E v t i) (λ x s j. f x (self x s) j)
    where
      self : (x : ℕ) → (x ≡ v) ⊎ Reaches (parents U E) v x → Self U E v x
      self x (inl e) = inl e
      self x (inr r) = inr (reached_are U E r)

  -- a line on which t is a parent
  pub line_of : {X : Type 0} (t : ℕ) → mem_n t (ancestors U E v) ≡ true → ((k : ℕ) → k < length E → 1 ≤ get_or m k 0 → mem_n t (parents_in U E (get_or E k [])) ≡ true → X) → X
  line_of t i f = last_step t i (λ x s j. let l = with_parents U E x t j in f (place_of x E) l (h.all x s) (subst (λ q. mem_n t q ≡ true) (parents_at U E x l) j))

  pub on_line : (k t : ℕ) → k < length E → 1 ≤ get_or m k 0 → mem_n t (parents_in U E (get_or E k [])) ≡ true → mem_n t (ancestors U E v) ≡ true
  on_line k t l a i = let (x, p, s) = h.only k (omega (arith, l)) a in go x s (subst (λ q. mem_n t q ≡ true) (sym (parents_at U E x (omega (arith, p, l)) ∙ ap (λ n. parents_in U E (get_or E n [])) p)) i)
    where
      go : (x : ℕ) → Self U E v x → mem_n t (parents U E x) ≡ true → mem_n t (ancestors U E v) ≡ true
      go x (inl e) j = parents_are U E v t (subst (λ z. mem_n t (parents U E z) ≡ true) e j)
      go x (inr e) j = closed_above U E v x t e j

  -- a parent on a marked line is an ancestor
  names_is : (t : ℕ) → any_marked (names_at U E t) m 0 (length E) ≡ mem_n t (ancestors U E v)
  unfolding names_at
  names_is t = iff (any_marked (names_at U E t) m 0 (length E)) (mem_n t (ancestors U E v))
      (λ e. marked_out (names_at U E t) m 0 (length E) e (λ k a b c d. on_line k t (omega (arith, b)) c d))
      (λ e. line_of t e (λ k a b c. marked_in (names_at U E t) m 0 (length E) k (omega arith) (omega (arith, a)) b c))

  -- ---- THEY ARE UNKNOWN

  is_open_law : (x : ℕ) → place_of x E < length E → is_open U E x ≡ eqb (at (get_or E (place_of x E) []) 3) mark
  is_open_law x l = ap (λ o. on_some true o (λ r. eqb (at r 3) mark)) (line_there x E l)

  is_unlisted : (x : ℕ) → length E ≤ place_of x E → is_open U E x ≡ true
  is_unlisted x l = ap (λ o. on_some true o (λ r. eqb (at r 3) mark)) (line_not x E l)

  pub open_is : (not (eqb (get_or m HIDDEN 0) 0) || not (eqb (get_or m (length E) 0) 0)) ≡ unknown_above U E v
  unfolding unknown_at unknown_above
  open_is = iff (not (eqb (get_or m HIDDEN 0) 0) || not (eqb (get_or m (length E) 0) 0)) (is_open U E v || any_open U E (ancestors U E v))
      (λ e. either (not (eqb (get_or m HIDDEN 0) 0)) (not (eqb (get_or m (length E) 0) 0)) e
      (λ z. let (k, b, c, d) = h.hidden (not_zero (get_or m HIDDEN 0) z) in let (x, p, s) = h.only k (omega (arith, b)) c in self x s (is_open_law x (omega (arith, p, b)) ∙ ap (λ n. eqb (at (get_or E n []) 3) mark) p ∙ d))
      (λ z. let (x, p, s) = h.only (length E) (omega arith) (not_zero (get_or m (length E) 0) z) in self x s (is_unlisted x (omega (arith, p)))))
      (λ e. either (is_open U E v) (any_open U E (ancestors U E v)) e
      (λ z. opens v (inl refl) z (ltb (place_of v E) (length E)) refl)
      (λ z. open_out U E (ancestors U E v) z (λ y i j. opens y (inr i) j (ltb (place_of y E) (length E)) refl)))
    where
      self : (x : ℕ) → Self U E v x → is_open U E x ≡ true → (is_open U E v || any_open U E (ancestors U E v)) ≡ true
      self x (inl e) o = or_left (is_open U E v) (any_open U E (ancestors U E v)) (subst (λ z. is_open U E z ≡ true) e o)
      self x (inr i) o = or_right (is_open U E v) (any_open U E (ancestors U E v)) (open_in U E (ancestors U E v) x i o)

      opens : (x : ℕ) → Self U E v x → is_open U E x ≡ true → (b : Bool) → ltb (place_of x E) (length E) ≡ b → (not (eqb (get_or m HIDDEN 0) 0) || not (eqb (get_or m (length E) 0) 0)) ≡ true
      opens x s o true q = let l = ltb-true (place_of x E) (length E) q in or_left (not (eqb (get_or m HIDDEN 0) 0)) (not (eqb (get_or m (length E) 0) 0)) (nonzero (get_or m HIDDEN 0) (h.shown (place_of x E) l (h.all x s) (sym (is_open_law x l) ∙ o)))
      opens x s o false q = let a = place_most x E in let b = ltb-false (place_of x E) (length E) q in let e : place_of x E ≡ length E = omega (arith, a, b) in
          or_right (not (eqb (get_or m HIDDEN 0) 0)) (not (eqb (get_or m (length E) 0) 0)) (nonzero (get_or m (length E) 0) (subst (λ k. 1 ≤ get_or m k 0) e (h.all x s)))

-- ---- WHAT WAS MET ARE THE ANCESTORS

module _ (U E : List (List ℕ)) (v : ℕ) (w m : List ℕ) (h : Found U E v w m) where
  noted_is : (t : ℕ) → t < length w → not (eqb (get_or w t 0) 0) ≡ mem_n t (ancestors U E v)
  noted_is t l = iff (not (eqb (get_or w t 0) 0)) (mem_n t (ancestors U E v)) (λ e. h.only t (not_zero (get_or w t 0) e)) (λ e. nonzero (get_or w t 0) (h.all t e l))

  past_is : (t : ℕ) → length w ≤ t → (not (eqb (get_or m FAR 0) 0) && any_marked (names_at U E t) m 0 (length E)) ≡ mem_n t (ancestors U E v)
  past_is t l = iff (not (eqb (get_or m FAR 0) 0) && any_marked (names_at U E t) m 0 (length E)) (mem_n t (ancestors U E v))
      (λ e. and_both (not (eqb (get_or m FAR 0) 0)) (any_marked (names_at U E t) m 0 (length E)) e (λ a b. sym (names_is U E v m h.reached t) ∙ b))
      (λ e. both (nonzero (get_or m FAR 0) (h.far t e l)) (names_is U E v m h.reached t ∙ e))

  met_is : (t : ℕ) → is_met U E w m t ≡ mem_n t (ancestors U E v)
  unfolding is_met
  met_is t = go (ltb t (length w)) refl
    where
      go : (b : Bool) → ltb t (length w) ≡ b → cond b (not (eqb (get_or w t 0) 0)) (not (eqb (get_or m FAR 0) 0) && any_marked (names_at U E t) m 0 (length E)) ≡ mem_n t (ancestors U E v)
      go true e = noted_is t (ltb-true t (length w) e)
      go false e = past_is t (ltb-false t (length w) e)

  pub meets_is : (l : List ℕ) → any_met U E w m l ≡ any_n l (ancestors U E v)
  unfolding any_met
  meets_is [] = refl
  meets_is (t ∷ l) = ap₂ (λ a b. a || b) (met_is t) (meets_is l)
