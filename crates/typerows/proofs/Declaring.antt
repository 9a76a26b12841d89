-- What a record type declares; a set of record types that were found to declare it: its members are not asked again.
use mathlib.Core.Path.{◌≡◌, sym, subst, ◌∙◌}
use mathlib.Core.Bool.{Bool, true, false, not}
use mathlib.Core.List.{List}
use Prim.Native.Nat.{ℕ}
use borrow.Author.Tests.{not-true, not-false}
use lib.Dec.{eqb}
use lib.ListN.{replicate}
use Rattle.words.specs.Bits.{member, added}
use mathlib.Core.Path.{◌≡◌, sym, ◌∙◌}
use mathlib.Core.Bool.{Bool, true, false, not}
use mathlib.Core.List.{List}
use mathlib.Core.Option.{none, some}
use Prim.Native.Nat.{ℕ}
use borrow.Author.Tests.{not-true, not-false}
use lib.Dec.{eqb}
use Rattle.fits.specs.Fit.{found_in}
use Rattle.std.specs.Prelude.{Option, Some, None}
use Rattle.std.specs.Option.{option_eq}
use Rattle.typesets.specs.Sets.{TYPE_WORDS, Each}
use Rattle.typesets.proofs.Members.{each_zeros, seen_is, each_added}
use Rattle.typerows.specs.Types.{record_at, attribute_at, of_record, declares_as}

-- ---- what a record type declares

module _ (a : List ℕ) (z t o : ℕ) where
  pub declares_none : none ≡ record_at a z → false ≡ of_record a (declares_as a t o) z
  unfolding of_record
  declares_none e = rw (← e)

  pub declares_is : (y : ℕ) (g : Option ℕ) (b : Bool) → some y ≡ record_at a z → found_in g ≡ attribute_at a y t → b ≡ option_eq eqb (Some o) g → b ≡ of_record a (declares_as a t o) z
  unfolding of_record declares_as
  declares_is y None b e eg q = rw (← e, ← eg) q
  declares_is y (Some x) b e eg q = rw (← e, ← eg) q

-- ---- record types

module _ (a : List ℕ) (g : ℕ → Bool) where
  pub records_none : Each (replicate TYPE_WORDS 0) (of_record a g)
  records_none = each_zeros TYPE_WORDS (of_record a g)

  module _ (y : ℕ) (b : Bool) where
    pub record_seen : (s : List ℕ) → Each s (of_record a g) → b ≡ member s y → b ≡ true → true ≡ of_record a g y
    record_seen s e = seen_is s (of_record a g) e y b

    module _ (eb : b ≡ of_record a g y) where
      pub record_fails : not b ≡ true → false ≡ of_record a g y
      record_fails h = sym (not-true b h) ∙ eb

      pub record_passes : not b ≡ false → true ≡ of_record a g y
      record_passes h = sym (not-false b h) ∙ eb

      pub record_joins : (s v : List ℕ) → Each s (of_record a g) → not b ≡ false → v ≡ added s y → Each v (of_record a g)
      record_joins s v e h ev = subst (λ (u : List ℕ). Each u (of_record a g)) (sym ev) (each_added s (of_record a g) y e (sym (record_passes h)))
