-- A path is typed step by step over the set of types reached.
use mathlib.Core.Path.{◌≡◌, refl, sym, ap, subst, ◌∙◌}
use mathlib.Core.Bool.{Bool, true, false, not, ◌&&◌}
use mathlib.Core.List.{List, [], ◌∷◌}
use mathlib.Core.Option.{Option, none, some}
use mathlib.Core.Logic.{◌⊎◌, inl, inr}
use Prim.Native.Nat.{ℕ, zero, suc, ◌+◌, ◌-◌, ◌≤◌, ◌<◌}
use native.Mathlib.Omega.{arith}
use borrow.Author.Tests.{le-leb, lt-leb, not-true, not-false}
use lib.ListN.{length, get_or, drop, replicate, drop_of_length-le}
use Rattle.cedar.proofs.Tools.{no_true, iff}
use Rattle.std.specs.Prelude.{nat_eq}
use Rattle.std.specs.Cmp.Lexicographic.{pointwise, same_text}
use Rattle.words.proofs.Bits.{added_is}
use Rattle.cedar.specs.Value.{on_some}
use Rattle.sheet.specs.Forms.{TYPE}
use Rattle.words.specs.Bits.{member, added}
use Rattle.std.proofs.lemmas.List.{drop_more}
use Rattle.typesets.specs.Sets.{TYPES, Each, Gathered}
use Rattle.typesets.proofs.Members.{member_zeros, each_none}
use Rattle.typerows.specs.Types.{attribute_at, each_at}
use Rattle.pathtypes.specs.Paths.{Skipped, Placed, of_each, declared_each, of_step, path_from, path_at}
use Rattle.pathtypes.specs.declared.Place as P

-- what a path asks of each record type that its first type has
abbrev step_test : List ℕ → List ℕ → ℕ → ℕ → Bool
step_test a [] t z = true
step_test a (u ∷ us) t z = on_some true (attribute_at a z t) (path_from a us u)

path_each : (a us : List ℕ) (t y : ℕ) → path_from a us t y ≡ each_at a y (step_test a us t)
unfolding path_from
path_each a [] t y = refl
path_each a (u ∷ us) t y = refl

-- so what it asks of a record type is asked of the record types of the type that this one declares
step_declared : (a us : List ℕ) (t u z : ℕ) → step_test a (u ∷ us) t z ≡ declared_each a t (step_test a us u) z
step_declared a us t u z = go (attribute_at a z t)
  where
    go : (o : Option ℕ) → on_some true o (path_from a us u) ≡ on_some true o (λ x. each_at a x (step_test a us u))
    go none = refl
    go (some x) = path_each a us u x

-- what is left from word i on, its first step the word before it; after that step; and what that step asks of a record type
abbrev left_at : List ℕ → List ℕ → ℕ → ℕ → Bool
left_at a r i = path_from a (drop i r) (get_or r (i - 1) 0)

abbrev rest_at : List ℕ → List ℕ → ℕ → ℕ → Bool
rest_at a r i = path_from a (drop (i + 1) r) (get_or r i 0)

abbrev step_at : List ℕ → List ℕ → ℕ → ℕ → Bool
step_at a r i = step_test a (drop i r) (get_or r (i - 1) 0)

-- and what the step after it asks
abbrev next_at : List ℕ → List ℕ → ℕ → ℕ → Bool
next_at a r i = step_test a (drop (i + 1) r) (get_or r i 0)

step_next : (a r : List ℕ) (i x : ℕ) → i < length r → step_at a r i x ≡ declared_each a (get_or r (i - 1) 0) (next_at a r i) x
step_next a r i x l = rw (drop_more r i 0 l) (step_declared a (drop (i + 1) r) (get_or r (i - 1) 0) (get_or r i 0) x)

-- ---- a step from all record types of a set

-- to ask what the record types declare for text t is to ask the record types of the other set
pub record Steps (a types : List ℕ) (t : ℕ) (reached : List ℕ) : Type 0 where
  pub to : (f : ℕ → Bool) → of_step a types t f → Each reached f
  pub back : (f : ℕ → Bool) → Each reached f → of_step a types t f

no_member : (n : ℕ) (z : List ℕ) (f : ℕ → Bool) → z ≡ replicate n 0 → Each z f
no_member n z f e = each_none z f (λ x. ap (λ (s : List ℕ). member s x) e ∙ member_zeros n x)

steps_is : (a types : List ℕ) (t : ℕ) (z reached : List ℕ) (b : Bool) → z ≡ replicate 4 0 → Gathered z reached (of_step a types t) b → not b ≡ false → Steps a types t reached
steps_is a types t z reached b ez g h = record { to = λ f e. g.joins (not-false b h) f (no_member 4 z f ez) e; back = λ f e. (g.asks (not-false b h) f e).1 }

-- the texts whose step leaves the set as it is
pub record Kept (a types texts : List ℕ) : Type 0 where
  pub by : (t : ℕ) → member texts t ≡ true → Steps a types t types

kept_none : (a types z : List ℕ) → z ≡ replicate 16 0 → Kept a types z
kept_none a types z e = record { by = λ t m. no_true (sym (ap (λ (s : List ℕ). member s t) e ∙ member_zeros 16 t) ∙ m) }

kept_more : (a types texts : List ℕ) (t : ℕ) → Kept a types texts → Steps a types t types → Kept a types (added texts t)
kept_more a types texts t k s = record { by = λ x m. go x ((added_is texts t).joined x m) }
  where
    go : (x : ℕ) → (member texts x ≡ true) ⊎ (x ≡ t) → Steps a types x types
    go x (inl m) = k.by x m
    go x (inr e) = subst (λ (u : ℕ). Steps a types u types) (sym e) s

-- ---- from a group on

-- what is left of row r's path, from word i on, is asked of all record types reached, and decides the path from word s and type y on
pub record Path (a r : List ℕ) (s y : ℕ) (types : List ℕ) (i : ℕ) : Type 0 where
  pub asks : left_at a r s y ≡ true → Each types (step_at a r i)
  pub says : Each types (step_at a r i) → left_at a r s y ≡ true
  pub low : 1 ≤ i

-- a step more
path_step_law : (a r : List ℕ) (s y : ℕ) (types reached : List ℕ) (i : ℕ) → Path a r s y types i → i < length r → Steps a types (get_or r (i - 1) 0) reached → Path a r s y reached (i + 1)
path_step_law a r s y types reached i w l k = record {
  asks = λ e. rw j (k.to (next_at a r i) (record { at = λ x o m. sym (step_next a r i x l) ∙ (w.asks e).at x o m }));
  says = λ e. w.says (record { at = λ x o m. step_next a r i x l ∙ (k.back (next_at a r i) (subst (λ (n : ℕ). Each reached (step_test a (drop (i + 1) r) (get_or r n 0))) j e)).at x o m });
  low = omega (arith, w.low);
}
  where
    j : i + 1 - 1 ≡ i
    j = omega arith

-- steps that leave the set as it is
path_skip : (a r : List ℕ) (s y : ℕ) (types texts : List ℕ) (i j : ℕ) → Path a r s y types i → Kept a types texts → Skipped r texts i j → Path a r s y types j
path_skip a r s y types texts i j w k d = let l = d.low in subst (λ (n : ℕ). Path a r s y types n) (omega (arith, l)) (go (j - i) (omega (arith, l)))
  where
    go : (n : ℕ) → i + n ≤ j → Path a r s y types (i + n)
    go zero h = subst (λ (m : ℕ). Path a r s y types m) (omega arith) w
    go (suc n) h =
        let (l, m) = d.each (i + n) (omega arith) (omega arith) in
        subst (λ (m : ℕ). Path a r s y types m) (omega arith) (path_step_law a r s y types types (i + n) (go n (omega arith)) l (k.by (get_or r (i + n - 1) 0) m))

false_is : (b : Bool) → (b ≡ true → ⊥) → false ≡ b
false_is true h = absurd (h refl)
false_is false h = refl

module _ (a r : List ℕ) (s y : ℕ) where
  module _ (z v : List ℕ) (b : Bool) (ez : z ≡ replicate 4 0) (g : Gathered z v (of_each a y) b) where
    pub path_none : not b ≡ true → false ≡ left_at a r s y
    path_none h = false_is (left_at a r s y) (λ e. g.fails (not-true b h) (step_at a r s) (no_member 4 z (step_at a r s) ez) (sym (path_each a (drop s r) (get_or r (s - 1) 0) y) ∙ e))

    pub path_start : not b ≡ false → 1 ≤ s → Path a r s y v s
    path_start h l = record {
      asks = λ e. g.joins (not-false b h) (step_at a r s) (no_member 4 z (step_at a r s) ez) (sym (path_each a (drop s r) (get_or r (s - 1) 0) y) ∙ e);
      says = λ e. path_each a (drop s r) (get_or r (s - 1) 0) y ∙ (g.asks (not-false b h) (step_at a r s) e).1;
      low = l;
    }

  pub kept_start : (types z : List ℕ) → z ≡ replicate 16 0 → Kept a types z
  kept_start = kept_none a

  module _ (types texts : List ℕ) (i : ℕ) (w : Path a r s y types i) (k : Kept a types texts) (j : ℕ) (d : Skipped r texts i j) where
    here : Path a r s y types j
    here = path_skip a r s y types texts i j w k d

    -- at the end nothing is asked
    pub path_end : length r ≤ j → true ≡ left_at a r s y
    path_end l = sym (here.says (record { at = λ x o m. ap (λ (us : List ℕ). step_test a us (get_or r (j - 1) 0) x) (drop_of_length-le r {i = j} l) }))

    module _ (t : ℕ) (u reached : List ℕ) (c : Bool) (l : j < length r) (et : t ≡ get_or r (j - 1) 0) (eu : u ≡ replicate 4 0) (a' : List ℕ) (ea : a' ≡ a) (q' : Gathered u reached (of_step a' types t) c) where
      q : Gathered u reached (of_step a types t) c
      q = subst (λ (x : List ℕ). Gathered u reached (of_step x types t) c) ea q'

      -- what is left asks for the step
      asks_step : Each types (step_at a r j) → of_step a types t (next_at a r j)
      asks_step e = record { at = λ x o m. ap (λ (n : ℕ). declared_each a n (next_at a r j) x) et ∙ sym (step_next a r j x l) ∙ e.at x o m }

      pub path_lost : not c ≡ true → false ≡ left_at a r s y
      path_lost e = false_is (left_at a r s y) (λ p. q.fails (not-true c e) (next_at a r j) (no_member 4 u (next_at a r j) eu) (asks_step (here.asks p)))

      module _ (e : not c ≡ false) where
        steps : Steps a types (get_or r (j - 1) 0) reached
        steps = subst (λ (n : ℕ). Steps a types n reached) et (steps_is a types t u reached c eu q e)

        pub path_on : Path a r s y reached (j + 1)
        path_on = path_step_law a r s y types reached j here l steps

        -- the set is as it was
        module _ (v : Bool) (ev : v ≡ pointwise nat_eq types reached) (o : v ≡ true) where
          as_was : reached ≡ types
          as_was = sym (same_text types reached (sym o ∙ ev))

          pub path_same : Path a r s y types (j + 1)
          path_same = subst (λ (n : List ℕ). Path a r s y n (j + 1)) as_was path_on

          pub kept_same : (more : List ℕ) → more ≡ added texts t → Kept a types more
          kept_same more em = subst (Kept a types) (sym em) (kept_more a types texts t k (subst (λ (n : List ℕ). Steps a types t n) as_was (subst (λ (n : ℕ). Steps a types n reached) (sym et) steps)))

-- ---- any path

-- what is left of row r's path, from word i and type z on, decides the path from type y
pub record Single (a r : List ℕ) (y z i : ℕ) : Type 0 where
  pub left : path_from a (drop 4 r) (get_or r 3 0) y ≡ left_at a r i z
  pub low : 4 ≤ i

module _ (a r : List ℕ) (y n : ℕ) (en : n ≡ get_or a TYPE 0) where
  pub path_many : TYPES < n → false ≡ path_at a r y
  unfolding path_at
  path_many h = ap (λ (b : Bool). b && path_from a (drop 4 r) (get_or r 3 0) y) (sym (lt-leb (get_or a TYPE 0) TYPES (omega arith)))

  pub single_start : Single a r y y 4
  single_start = record { left = refl; low = omega arith }

  module _ (few : n ≤ TYPES) (z i : ℕ) (w : Single a r y z i) (p : P.Place) (q : Placed a z p) where
    path_few : path_at a r y ≡ left_at a r i z
    unfolding path_at
    path_few = ap (λ (b : Bool). b && path_from a (drop 4 r) (get_or r 3 0) y) (le-leb (get_or a TYPE 0) TYPES (omega arith)) ∙ w.left

    pub single_nowhere : p ≡ P.TheVariants.Nowhere → false ≡ path_at a r y
    single_nowhere e = false_is (path_at a r y) (λ h. q.place.nowhere e (step_at a r i) (sym (path_each a (drop i r) (get_or r (i - 1) 0) z) ∙ sym path_few ∙ h))

    pub single_left : (b : Bool) → b ≡ left_at a r i z → b ≡ path_at a r y
    single_left b eb = eb ∙ sym path_few

    module _ (x : ℕ) (e : p ≡ P.TheVariants.Alone x) where
      one_record : left_at a r i z ≡ step_at a r i x
      one_record =
          let test = step_at a r i in
          let (to, back) = q.place.alone x e test in
          path_each a (drop i r) (get_or r (i - 1) 0) z ∙ iff (each_at a z test) (test x) to back

      pub single_end : length r ≤ i → true ≡ path_at a r y
      single_end l = sym (path_few ∙ one_record ∙ ap (λ (us : List ℕ). step_test a us (get_or r (i - 1) 0) x) (drop_of_length-le r {i = i} l))

      module _ (l : i < length r) (t : ℕ) (et : t ≡ get_or r (i - 1) 0) where
        single_step : left_at a r i z ≡ on_some true (attribute_at a x t) (rest_at a r i)
        single_step = one_record ∙ rw (drop_more r i 0 l, ← et)

        pub single_free : none ≡ attribute_at a x t → true ≡ path_at a r y
        single_free e = sym (path_few ∙ single_step ∙ ap (λ (o : Option ℕ). on_some true o (rest_at a r i)) (sym e))

        pub single_on : (v : ℕ) → some v ≡ attribute_at a x t → Single a r y v (i + 1)
        single_on v e =
            let j : i + 1 - 1 ≡ i = omega arith in
            record {
              left = w.left ∙ single_step ∙ ap (λ (o : Option ℕ). on_some true o (rest_at a r i)) (sym e) ∙ ap (λ (k : ℕ). path_from a (drop (i + 1) r) (get_or r k 0) v) (sym j);
              low = omega (arith, w.low);
            }
