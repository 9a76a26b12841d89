-- A path of texts, as the code walks it: by what is looked up, by notes, by cells. Assumes nothing.
use mathlib.Core.Path.{◌≡◌, refl, sym, ap, ◌∙◌}
use mathlib.Core.Bool.{Bool, true, false}
use mathlib.Core.List.{List}
use Prim.Native.Nat.{ℕ, suc, ◌+◌, ◌≤◌, ◌<◌}
use native.Mathlib.Numerals.{add-one}
use native.Mathlib.Omega.{arith}
use lib.ListN.{get_or, length, drop}
use Rattle.std.specs.Prelude.{Option as Maybe, Some}
use Rattle.cedar.specs.Evaluate.{is_nil}
use Rattle.value.proofs.Lists.{uncons, spent}
use Rattle.lookup.specs.Lookups.{look_attr}
use Rattle.walk.specs.Walks.{walk_step, walk_from, Found}
use Rattle.lookup.specs.declared.Look.{Look}
use Rattle.lookup.specs.declared.Look.TheVariants.{At as Atˡ, Missing, Unknown as Unknownˡ, Bad}
use Rattle.walk.specs.declared.Walked.{Walked}
use Rattle.walk.specs.declared.Walked.TheVariants.{Holds, Fails as Failsʷ, Left}
use Rattle.notes.specs.Noted.{Noted}
use Rattle.firsts.specs.Firsts.{Firsts, Leads}
use Rattle.notes.specs.declared.Span.{Span}
use Rattle.firsts.specs.declared.Cell.{Cell}

-- ---- a path that leads to w

pub record Walking (c : Bool) (a : List ℕ) (w : Walked) (path : List ℕ) (n i : ℕ) : Type 0 where
  pub near : i ≤ length path
  pub left : w ≡ walk_from c a n i (drop i path)

pub walk_start : (c : Bool) (a : List ℕ) (path : List ℕ) (n i : ℕ) → i ≤ length path → Walking c a (walk_from c a n i (drop i path)) path n i
walk_start c a path n i h = record { near = h; left = refl }

nil_drop : (l : List ℕ) (i : ℕ) → length l ≤ i → is_nil (drop i l) ≡ true
nil_drop l i h = ap is_nil (spent l i h)

cons_drop : (l : List ℕ) (i : ℕ) → i < length l → is_nil (drop i l) ≡ false
cons_drop l i h = ap is_nil (uncons l 0 i h)

module _ (c : Bool) (a : List ℕ) (w : Walked) (path : List ℕ) (n i : ℕ) (g : Walking c a w path n i) where
  pub walk_end : length path ≤ i → Failsʷ ≡ w
  unfolding walk_from
  walk_end h = sym (g.left ∙ ap (walk_from c a n i) (spent path i h))

  module _ (h : i < length path) (l : Look) (el : l ≡ look_attr c a n (get_or path i 0)) where
    walk_one : walk_from c a n i (drop i path) ≡ walk_step n i l (is_nil (drop (i + 1) path)) (λ x. walk_from c a x (suc i) (drop (i + 1) path))
    unfolding walk_from
    walk_one = ap (walk_from c a n i) (uncons path 0 i h) ∙ ap (λ (x : Look). walk_step n i x (is_nil (drop (i + 1) path)) (λ y. walk_from c a y (suc i) (drop (i + 1) path))) (sym el)

    pub walk_bad : l ≡ Bad → Failsʷ ≡ w
    walk_bad e = sym (g.left ∙ walk_one ∙ rw e)

    pub walk_missing : l ≡ Missing → Holds false ≡ w
    walk_missing e = sym (g.left ∙ walk_one ∙ rw e)

    pub walk_unknown : (k : ℕ) → l ≡ Unknownˡ k → Left n k i ≡ w
    walk_unknown k e = sym (g.left ∙ walk_one ∙ rw e)

    module _ (x : ℕ) (e : l ≡ Atˡ x) where
      pub walk_last : length path ≤ i + 1 → Holds true ≡ w
      walk_last m = sym (g.left ∙ walk_one ∙ rw (e, nil_drop path (i + 1) m))

      pub walk_on : i + 1 < length path → Walking c a w path x (i + 1)
      walk_on m = record { near = omega arith; left = g.left ∙ walk_one ∙ rw (e, cons_drop path (i + 1) m, ← (add-one i)) }

-- ---- by notes

pub record Stepping (c : Bool) (a : List ℕ) (w : Walked) (path : List ℕ) (spans : List Span) (cells : List Cell) (n i : ℕ) : Type 0 where
  pub walking : Walking c a w path n i
  pub noted : Noted c a spans
  pub right : Firsts a cells

module _ (c : Bool) (a : List ℕ) (w : Walked) (path : List ℕ) (spans : List Span) (cells : List Cell) (n i : ℕ) (g : Stepping c a w path spans cells n i) where
  pub step_end : length path ≤ i → Failsʷ ≡ w
  step_end h = walk_end c a w path n i g.walking h

  module _ (h : i < length path) (spans' : List Span) (cells' : List Cell) (l : Look) (k : Found c a n (get_or path i 0) spans' cells' l) where
    pub step_bad : l ≡ Bad → Failsʷ ≡ w
    step_bad e = walk_bad c a w path n i g.walking h l k.is e

    pub step_missing : l ≡ Missing → Holds false ≡ w
    step_missing e = walk_missing c a w path n i g.walking h l k.is e

    pub step_unknown : (j : ℕ) → l ≡ Unknownˡ j → Left n j i ≡ w
    step_unknown j e = walk_unknown c a w path n i g.walking h l k.is j e

    module _ (x : ℕ) (e : l ≡ Atˡ x) where
      pub step_last : length path ≤ i + 1 → Holds true ≡ w
      step_last m = walk_last c a w path n i g.walking h l k.is x e m

      pub step_on : i + 1 < length path → Stepping c a w path spans' cells' x (i + 1)
      step_on m = record { walking = walk_on c a w path n i g.walking h l k.is x e m; noted = k.noted; right = k.right }

-- ---- by cells

pub record Following (c : Bool) (a : List ℕ) (w : Walked) (path : List ℕ) (cells : List Cell) (n i : ℕ) : Type 0 where
  pub walking : Walking c a w path n i
  pub right : Firsts a cells

module _ (c : Bool) (a : List ℕ) (w : Walked) (path : List ℕ) (cells : List Cell) (n i : ℕ) (g : Following c a w path cells n i) where
  pub follow_end : length path ≤ i → Failsʷ ≡ w
  follow_end h = walk_end c a w path n i g.walking h

  module _ (h : i < length path) (o : Maybe ℕ) (leads : Leads cells n (get_or path i 0) o) (x : ℕ) (e : o ≡ Some x) where
    pub follow_last : length path ≤ i + 1 → Holds true ≡ w
    follow_last m = walk_last c a w path n i g.walking h (Atˡ x) (leads.is a g.right x e c) x refl m

    pub follow_on : i + 1 < length path → Following c a w path cells x (i + 1)
    follow_on m = record { walking = walk_on c a w path n i g.walking h (Atˡ x) (leads.is a g.right x e c) x refl m; right = g.right }
