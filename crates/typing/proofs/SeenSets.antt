-- A set of the kinds above a kind: its members are not asked again.
use mathlib.Core.Path.{◌≡◌, refl, sym, ap, subst, ◌∙◌}
use mathlib.Core.Bool.{Bool, true}
use mathlib.Core.List.{List, [], ◌∷◌}
use Prim.Native.Nat.{ℕ, ◌+◌, ◌≤◌, ◌<◌}
use borrow.Author.Tests.{eq-eqb}
use Rattle.cedar.proofs.Tools.{or_left, or_right}
use lib.Dec.{eqb}
use lib.ListN.{length, get_or, drop, replicate, drop_of_length-le}
use Rattle.cedar.specs.Numbered.{mem_n}
use Rattle.sheet.specs.Forms.{tag, VALUE}
use Rattle.forms.specs.Tags.{ENTITY_VALUE}
use Rattle.words.specs.Bits.{member, added}
use Rattle.table.specs.Layout.{rows_of}
use Rattle.std.proofs.lemmas.List.{drop_more}
use Rattle.typesets.specs.Sets.{KIND_WORDS, Each, with_all}
use Rattle.typesets.proofs.Members.{each_zeros, seen_is, each_added}
use Rattle.typerows.specs.Types.{above_at, is_above_at}
use Rattle.typing.specs.Rules.{ancestor_rule}
use Rattle.typing.proofs.KeyRules.{ancestor_yes}

-- ---- all numbers of a list

all_pass : (l w : List ℕ) (f : ℕ → Bool) → Each w f → ((x : ℕ) → mem_n x l ≡ true → f x ≡ true) → Each (with_all w l) f
unfolding with_all
all_pass [] w f e h = e
all_pass (y ∷ l) w f e h =
    all_pass l (added w y) f (each_added w f y e (h y (or_left (eqb y y) (mem_n y l) (eq-eqb y y refl)))) (λ x m. h x (or_right (eqb x y) (mem_n x l) m))

-- what is left of the kinds above, l from kind i on, joins set v
pub record Adding (a w l : List ℕ) (k : ℕ) (v : List ℕ) (i : ℕ) : Type 0 where
  pub left : with_all w (above_at a k) ≡ with_all v (drop i l)

module _ (a w l : List ℕ) (k : ℕ) where
  pub adding_start : l ≡ above_at a k → Adding a w l k w 0
  adding_start e = record { left = ap (with_all w) (sym e) }

  module _ (v : List ℕ) (i : ℕ) (d : Adding a w l k v i) where
    pub adding_on : (u : List ℕ) → i < length l → u ≡ added v (get_or l i 0) → Adding a w l k u (i + 1)
    unfolding with_all
    adding_on u h eu = record { left = d.left ∙ rw (drop_more l i 0 h, eu) }

    pub adding_end : length l ≤ i → v ≡ with_all w (above_at a k)
    unfolding with_all
    adding_end h = sym (d.left ∙ rw (drop_of_length-le l h))

-- the kinds above kind k
pub above_set : (a : List ℕ) (k : ℕ) (w v : List ℕ) → w ≡ replicate KIND_WORDS 0 → v ≡ with_all w (above_at a k) → Each v (is_above_at a k)
unfolding is_above_at
above_set a k w v ew ev =
    subst (λ (u : List ℕ). Each u (is_above_at a k)) (sym ev)
    (all_pass (above_at a k) w (is_above_at a k) (subst (λ (u : List ℕ). Each u (is_above_at a k)) (sym ew) (each_zeros KIND_WORDS (is_above_at a k))) (λ x m. m))

-- ---- an entity whose kind is in the set

pub ancestor_seen : (a q : List ℕ) (x k t : ℕ) → q ≡ get_or (rows_of a VALUE) x [] → t ≡ tag q → t ≡ ENTITY_VALUE → (s : List ℕ) → Each s (is_above_at a k) → (l : ℕ) (b : Bool) → l ≡ get_or q 1 0 → b ≡ member s l → b ≡ true → true ≡ ancestor_rule a x k
ancestor_seen a q x k t eq et h s e l b el eb hb = ancestor_yes a q x k t eq et true l h el (seen_is s (is_above_at a k) e l b eb hb)
