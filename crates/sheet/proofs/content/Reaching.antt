-- Ancestors are all entities reached through parents: the least set that holds the parents and the parents of its members. More steps than
-- there are entity lines add nothing, since each step that adds something reaches one more entity that is listed.
use mathlib.Core.Path.{◌≡◌, refl, sym, ◌∙◌, ap, subst}
use mathlib.Core.Bool.{Bool, true, false, cond, ◌&&◌}
use mathlib.Core.Option.{some}
use mathlib.Core.List.{List, [], ◌∷◌, ◌++◌}
use Prim.Native.Nat.{ℕ, zero, suc, ◌≤◌}
use native.Mathlib.Omega.{arith}
use borrow.Author.Tests.{eq-eqb}
use lib.Dec.{eqb}
use lib.ListN.{length}
use Rattle.cedar.proofs.Tools.{no_true, eqb_true, neither, or_left, or_right, either, and_both, iff}
use Rattle.cedar.specs.Value.{on_some}
use Rattle.cedar.specs.Numbered.{mem_n, all_n}
use Rattle.sheet.specs.Forms.{at}
use Rattle.sheet.specs.Sheet.{firsts}
use Rattle.sheet.specs.Parents.{line_for, with_all, parents_of, within, Reaches, parent, beyond, parents_in, parents, ancestors, is_open, any_open, unknown_above}

-- ---- members

abbrev In : ℕ → List ℕ → Type 0
In x l = mem_n x l ≡ true

with_left : (x : ℕ) (l k : List ℕ) → In x l → In x (with_all l k)
with_left x l [] e = e
with_left x l (y ∷ k) e = with_left x (cond (mem_n y l) l (y ∷ l)) k (go (mem_n y l))
  where
    go : (b : Bool) → In x (cond b l (y ∷ l))
    go true = e
    go false = or_right (eqb x y) (mem_n x l) e

with_right : (x : ℕ) (l k : List ℕ) → In x k → In x (with_all l k)
with_right x l [] e = no_true e
with_right x l (y ∷ k) e = either (eqb x y) (mem_n x k) e (λ q. with_left x (cond (mem_n y l) l (y ∷ l)) k (go q (mem_n y l) refl)) (λ q. with_right x (cond (mem_n y l) l (y ∷ l)) k q)
  where
    go : eqb x y ≡ true → (b : Bool) → mem_n y l ≡ b → In x (cond b l (y ∷ l))
    go q true z = subst (λ i. In i l) (sym (eqb_true x y q)) z
    go q false z = or_left (eqb x y) (mem_n x l) q

with_out : {X : Type 0} (x : ℕ) (l k : List ℕ) → In x (with_all l k) → (In x l → X) → (In x k → X) → X
with_out x l [] e f g = f e
with_out {X} x l (y ∷ k) e f g = with_out x (cond (mem_n y l) l (y ∷ l)) k e (λ q. go (mem_n y l) q) (λ q. g (or_right (eqb x y) (mem_n x k) q))
  where
    go : (b : Bool) → In x (cond b l (y ∷ l)) → X
    go true q = f q
    go false q = either (eqb x y) (mem_n x l) q (λ z. g (or_left (eqb x y) (mem_n x k) z)) f

append_left : (x : ℕ) (a b : List ℕ) → In x a → In x (a ++ b)
append_left x [] b e = no_true e
append_left x (y ∷ a) b e = either (eqb x y) (mem_n x a) e (λ q. or_left (eqb x y) (mem_n x (a ++ b)) q) (λ q. or_right (eqb x y) (mem_n x (a ++ b)) (append_left x a b q))

append_right : (x : ℕ) (a b : List ℕ) → In x b → In x (a ++ b)
append_right x [] b e = e
append_right x (y ∷ a) b e = or_right (eqb x y) (mem_n x (a ++ b)) (append_right x a b e)

append_out : {X : Type 0} (x : ℕ) (a b : List ℕ) → In x (a ++ b) → (In x a → X) → (In x b → X) → X
append_out x [] b e f g = g e
append_out x (y ∷ a) b e f g = either (eqb x y) (mem_n x (a ++ b)) e (λ q. f (or_left (eqb x y) (mem_n x a) q)) (λ q. append_out x a b q (λ z. f (or_right (eqb x y) (mem_n x a) z)) g)

pub all_at : (k l : List ℕ) (y : ℕ) → all_n k l ≡ true → In y k → In y l
all_at [] l y e i = no_true i
all_at (x ∷ k) l y e i = and_both (mem_n x l) (all_n k l) e (λ a b. either (eqb y x) (mem_n y k) i (λ q. subst (λ z. In z l) (sym (eqb_true y x q)) a) (λ q. all_at k l y b q))

missing : {X : Type 0} (k l : List ℕ) → all_n k l ≡ false → ((y : ℕ) → In y k → mem_n y l ≡ false → X) → X
missing [] l e f = no_true (sym e)
missing {X} (x ∷ k) l e f = go (mem_n x l) refl e (λ d. missing k l d (λ y i n. f y (or_right (eqb y x) (mem_n y k) i) n))
  where
    go : (b : Bool) → mem_n x l ≡ b → (b && all_n k l) ≡ false → (all_n k l ≡ false → X) → X
    go true q e ih = ih e
    go false q e ih = f x (or_left (eqb x x) (mem_n x k) (eq-eqb x x refl)) q

-- ---- how many of these are in a list

bit : Bool → ℕ → ℕ
bit true n = suc n
bit false n = n

among : List ℕ → List ℕ → ℕ
among [] l = 0
among (d ∷ ds) l = bit (mem_n d l) (among ds l)

among_most : (ds l : List ℕ) → among ds l ≤ length ds
unfolding among bit
among_most [] l = omega arith
among_most (d ∷ ds) l = let h = among_most ds l in go (mem_n d l) h
  where
    go : (b : Bool) → among ds l ≤ length ds → bit b (among ds l) ≤ suc (length ds)
    go true h = omega (arith, h)
    go false h = omega (arith, h)

among_grows : (ds l k : List ℕ) → ((x : ℕ) → In x l → In x k) → among ds l ≤ among ds k
unfolding among bit
among_grows [] l k f = omega arith
among_grows (d ∷ ds) l k f = go (mem_n d l) (mem_n d k) (f d) (among_grows ds l k f)
  where
    go : (a b : Bool) → (a ≡ true → b ≡ true) → among ds l ≤ among ds k → bit a (among ds l) ≤ bit b (among ds k)
    go true true g h = omega (arith, h)
    go true false g h = no_true (g refl)
    go false true g h = omega (arith, h)
    go false false g h = h

among_more : (ds l k : List ℕ) → ((x : ℕ) → In x l → In x k) → (d : ℕ) → In d ds → mem_n d l ≡ false → In d k → suc (among ds l) ≤ among ds k
unfolding among bit
among_more [] l k f d i n m = no_true i
among_more (c ∷ ds) l k f d i n m = either (eqb d c) (mem_n d ds) i (λ q. let e = eqb_true d c q in here (mem_n c l) (mem_n c k) (subst (λ z. mem_n z l ≡ false) e n) (subst (λ z. In z k) e m) (among_grows ds l k f))
    (λ q. there (mem_n c l) (mem_n c k) (f c) (among_more ds l k f d q n m))
  where
    here : (a b : Bool) → a ≡ false → b ≡ true → among ds l ≤ among ds k → suc (bit a (among ds l)) ≤ bit b (among ds k)
    here true b p q h = no_true (sym p)
    here false true p q h = omega (arith, h)
    here false false p q h = no_true q

    there : (a b : Bool) → (a ≡ true → b ≡ true) → suc (among ds l) ≤ among ds k → suc (bit a (among ds l)) ≤ bit b (among ds k)
    there true true g h = omega (arith, h)
    there true false g h = no_true (g refl)
    there false true g h = omega (arith, h)
    there false false g h = h

-- ---- steps

module _ (above : ℕ → List ℕ) where
  parents_in_law : (l : List ℕ) (x y : ℕ) → In x l → In y (above x) → In y (parents_of above l)
  parents_in_law [] x y i j = no_true i
  parents_in_law (z ∷ l) x y i j = either (eqb x z) (mem_n x l) i (λ q. append_left y (above z) (parents_of above l) (subst (λ w. In y (above w)) (eqb_true x z q) j)) (λ q. append_right y (above z) (parents_of above l) (parents_in_law l x y q j))

  parents_out : {X : Type 0} (l : List ℕ) (y : ℕ) → In y (parents_of above l) → ((x : ℕ) → In x l → In y (above x) → X) → X
  parents_out [] y i f = no_true i
  parents_out (z ∷ l) y i f = append_out y (above z) (parents_of above l) i (λ q. f z (or_left (eqb z z) (mem_n z l) (eq-eqb z z refl)) q) (λ q. parents_out l y q (λ x a b. f x (or_right (eqb x z) (mem_n x l) a) b))

  pub from_start : (j : ℕ) (l : List ℕ) (x : ℕ) → In x l → In x (within above j l)
  from_start zero l x i = i
  from_start (suc j) l x i = with_left x (within above j l) (parents_of above (within above j l)) (from_start j l x i)

  -- what holds of the first and of the parents of whatever it holds of, holds of all that is reached
  pub reached_all : (Q : ℕ → Type 0) → ((x y : ℕ) → Q x → In y (above x) → Q y) → (l : List ℕ) → ((x : ℕ) → In x l → Q x) → (j x : ℕ) → In x (within above j l) → Q x
  reached_all Q up l q zero x i = q x i
  reached_all Q up l q (suc j) x i = with_out x (within above j l) (parents_of above (within above j l)) i (λ a. reached_all Q up l q j x a)
      (λ a. parents_out (within above j l) x a (λ z b c. up z x (reached_all Q up l q j z b) c))

  abbrev pub Closed : List ℕ → Type 0
  Closed l = (x y : ℕ) → In x l → In y (above x) → In y l

  decide : {X : Type 0} (l : List ℕ) → (Closed l → X) → ((x y : ℕ) → In x l → In y (above x) → mem_n y l ≡ false → X) → X
  decide {X} l f g = go (all_n (parents_of above l) l) refl
    where
      go : (b : Bool) → all_n (parents_of above l) l ≡ b → X
      go true e = f (λ x y i j. all_at (parents_of above l) l y e (parents_in_law l x y i j))
      go false e = missing (parents_of above l) l e (λ y i n. parents_out l y i (λ x a b. g x y a b n))

  -- each step that adds something reaches one more of those that have parents
  module _ (ds : List ℕ) (listed : (x y : ℕ) → In y (above x) → In x ds) (l : List ℕ) where
    data Stage (j : ℕ) : Type 0 where
      done : Closed (within above j l) → Stage j
      more : suc j ≤ among ds (within above j l) → Stage j

    step : (j : ℕ) → Stage j → Stage (suc j)
    step j (done h) = done (λ x y i k. with_left y w (parents_of above w) (with_out x w (parents_of above w) i (λ a. h x y a k) (λ a. parents_out w x a (λ z b c. h x y (h z x b c) k))))
      where
        w : List ℕ
        w = within above j l
    step j (more q) = decide (within above (suc j) l) done (λ x y a b c. more (
        let n : mem_n x (within above j l) ≡ false = new x y a b c (mem_n x (within above j l)) refl in
        let h = among_more ds (within above j l) (within above (suc j) l) (λ z i. with_left z (within above j l) (parents_of above (within above j l)) i) x (listed x y b) n a in
        omega (arith, h, q)))
      where
        new : (x y : ℕ) → In x (within above (suc j) l) → In y (above x) → mem_n y (within above (suc j) l) ≡ false → (b : Bool) → mem_n x (within above j l) ≡ b → mem_n x (within above j l) ≡ false
        new x y a b c true e = no_true (sym c ∙ with_right y (within above j l) (parents_of above (within above j l)) (parents_in_law (within above j l) x y e b))
        new x y a b c false e = e

    stage : (j : ℕ) → Stage j
    stage zero = decide l done (λ x y a b c. more (let h = among_more ds [] l (λ z i. no_true i) x (listed x y b) refl a in omega (arith, h)))
    stage (suc j) = step j (stage j)

    pub closed_within : (j : ℕ) → length ds ≤ j → Closed (within above j l)
    closed_within j h = go (stage j)
      where
        go : Stage j → Closed (within above j l)
        go (done c) = c
        go (more q) = let k = among_most ds (within above j l) in absurd (omega (arith, h, q, k))

-- ---- the ancestors of an entity

firsts_length : (l : List (List ℕ)) → length (firsts l) ≡ length l
firsts_length [] = refl
firsts_length (r ∷ l) = ap suc (firsts_length l)

module _ (values entities : List (List ℕ)) where
  has_line : (x y : ℕ) → In y (parents values entities x) → In x (firsts entities)
  has_line x y i = go entities i
    where
      at_first : (q : List ℕ) (l : List (List ℕ)) (b : Bool) → eqb (at q 0) x ≡ b → (In y (on_some [] (line_for x l) (parents_in values entities)) → In x (firsts l)) → In y (on_some [] (cond b (some q) (line_for x l)) (parents_in values entities)) → In x (at q 0 ∷ firsts l)
      at_first q l true e ih i = or_left (eqb x (at q 0)) (mem_n x (firsts l)) (subst (λ z. eqb z (at q 0) ≡ true) (eqb_true (at q 0) x e) (eq-eqb (at q 0) (at q 0) refl))
      at_first q l false e ih i = or_right (eqb x (at q 0)) (mem_n x (firsts l)) (ih i)

      go : (l : List (List ℕ)) → In y (on_some [] (line_for x l) (parents_in values entities)) → In x (firsts l)
      go [] i = no_true i
      go (q ∷ l) i = at_first q l (eqb (at q 0) x) refl (λ j. go l j) i

  -- parents are ancestors; so are the parents of ancestors; and nothing else is
  pub parents_are : (n x : ℕ) → In x (parents values entities n) → In x (ancestors values entities n)
  unfolding ancestors
  parents_are n x i = from_start (parents values entities) (length entities) (parents values entities n) x i

  pub closed_above : (n : ℕ) → Closed (parents values entities) (ancestors values entities n)
  unfolding ancestors
  closed_above n = closed_within (parents values entities) (firsts entities) has_line (parents values entities n) (length entities) (let h = firsts_length entities in omega (arith, h))

  pub all_above_law : (Q : ℕ → Type 0) (n : ℕ) → ((x : ℕ) → In x (parents values entities n) → Q x) → ((x y : ℕ) → Q x → In y (parents values entities x) → Q y) → (x : ℕ) → In x (ancestors values entities n) → Q x
  unfolding ancestors
  all_above_law Q n q up x i = reached_all (parents values entities) Q up (parents values entities n) q (length entities) x i

  -- "all entities reached through them, circles allowed": they are what is reached in any number of steps
  pub reached_are : {n m : ℕ} → Reaches (parents values entities) n m → In m (ancestors values entities n)
  reached_are {n} {m} (parent e) = parents_are n m e
  reached_are {n} {m} (beyond {p = p} h e) = closed_above n p m (reached_are h) e

  pub are_reached : (n m : ℕ) → In m (ancestors values entities n) → Reaches (parents values entities) n m
  are_reached n m i = all_above_law (Reaches (parents values entities) n) n (λ x e. parent e) (λ x y h e. beyond h e) m i

  -- more steps add nothing
  pub no_more : (n j x : ℕ) → In x (within (parents values entities) j (parents values entities n)) → In x (ancestors values entities n)
  no_more n j x i = reached_all (parents values entities) (λ z. In z (ancestors values entities n)) (λ z y a b. closed_above n z y a b) (parents values entities n) (λ z a. parents_are n z a) j x i

-- ---- two sheets

-- none of these is open
none_open : (values entities : List (List ℕ)) (l : List ℕ) → any_open values entities l ≡ false → (x : ℕ) → In x l → is_open values entities x ≡ false
none_open v e [] q x i = no_true i
none_open v e (y ∷ l) q x i = let (a, b) = neither (is_open v e y) (any_open v e l) q in
    either (eqb x y) (mem_n x l) i (λ z. subst (λ w. is_open v e w ≡ false) (sym (eqb_true x y z)) a) (λ z. none_open v e l b x z)

-- ANCESTORS THAT ARE KNOWN STAY: if on the one sheet neither n nor what it reaches is open, and on the other every entity that is not open here has
-- the same parents, then n has the same ancestors there
module _ (values entities more_values more-entities : List (List ℕ)) (same : (x : ℕ) → is_open values entities x ≡ false → parents more_values more-entities x ≡ parents values entities x) where
  pub same_above : (n : ℕ) → unknown_above values entities n ≡ false → (y : ℕ) → mem_n y (ancestors more_values more-entities n) ≡ mem_n y (ancestors values entities n)
  unfolding unknown_above
  same_above n q y = let (a, b) = neither (is_open values entities n) (any_open values entities (ancestors values entities n)) q in
      iff (mem_n y (ancestors more_values more-entities n)) (mem_n y (ancestors values entities n)) (down a b) (λ i. (up a b i).1)
    where
      down : is_open values entities n ≡ false → any_open values entities (ancestors values entities n) ≡ false → In y (ancestors more_values more-entities n) → In y (ancestors values entities n)
      down a b i = all_above_law more_values more-entities (λ x. In x (ancestors values entities n)) n
          (λ x j. parents_are values entities n x (subst (In x) (same n a) j))
          (λ x z j h. closed_above values entities n x z j (subst (In z) (same x (none_open values entities (ancestors values entities n) b x j)) h)) y i

      up : is_open values entities n ≡ false → any_open values entities (ancestors values entities n) ≡ false → In y (ancestors values entities n) → In y (ancestors values entities n) × In y (ancestors more_values more-entities n)
      up a b i = all_above_law values entities (λ x. In x (ancestors values entities n) × In x (ancestors more_values more-entities n)) n
          (λ x j. (parents_are values entities n x j, parents_are more_values more-entities n x (subst (In x) (sym (same n a)) j)))
          (λ x z j h. (closed_above values entities n x z j.0 h, closed_above more_values more-entities n x z j.1 (subst (In z) (sym (same x (none_open values entities (ancestors values entities n) b x j.0))) h))) y i
