-- "One statement over groups covers the old single kinds too": at a group of one, each rule is document 01's.
use mathlib.Core.Path.{◌≡◌, refl, ap}
use mathlib.Core.Bool.{Bool, true, false, not, ◌||◌, ◌&&◌}
use mathlib.Core.Option.{some}
use Prim.Native.Nat.{ℕ}
use lib.Dec.{eqb}
use Rattle.cedar.specs.Value.{vent}
use Rattle.cedar.specs.Types.{Ty, tstr, tset, Attrs, among, declared, Schema, Fits, fent}
use Rattle.cedar.specs.Residual.{uis, beq, rin, rgettag, rhastag}
use Rattle.cedar.specs.Typing.{Each, RelOk, get_tag_ok}
use Rattle.cedar.specs.Interpret.{alone}
use Rattle.cedar.specs.TypeRules.{ordinary, undeclared, false_if, un_rule, bin_rule, rel_rule, has_rule}
use Rattle.cedar.proofs.Tools.{only_kind, in_alone, one_kind_law}

or_false : (b : Bool) → (b || false) ≡ b
or_false true = refl
or_false false = refl

and_true : (b : Bool) → (b && true) ≡ b
and_true true = refl
and_true false = refl

-- an entity fits its kind, and no other
pub fits_alone : (k t : ℕ) → Fits (vent k t) (alone k)
fits_alone k t = fent (in_alone k)

pub alone_fits : {k t l : ℕ} → Fits (vent k t) (alone l) → k ≡ l
alone_fits {k = k} {l = l} (fent m) = only_kind k l m

module _ (S : Schema) where
  -- "is follows the kind"
  pub is_alone : (k l : ℕ) → un_rule S (uis k) (alone l) ≡ some (eqb k l)
  is_alone k l = refl

  -- "eq of two different kinds is false"
  pub eq_alone : (k l : ℕ) → bin_rule S beq (alone k) (alone l) ≡ false_if (not (eqb k l))
  eq_alone k l = rw (or_false (eqb k l), or_false (eqb k l)) refl

  -- "in is false if neither the kinds are equal nor the right is above the left", of a set too
  pub in_alone_rule : (k l : ℕ) → rel_rule S rin (alone k) (alone l) ≡ false_if (not (eqb k l || among l (S.shape k).above))
  in_alone_rule k l = rw (or_false (eqb k l || among l (S.shape k).above), or_false (eqb k l || among l (S.shape k).above)) refl

  pub in_set_alone : (k l : ℕ) → rel_rule S rin (alone k) (tset (alone l)) ≡ false_if (not (eqb k l || among l (S.shape k).above))
  in_set_alone k l = rw (or_false (eqb k l || among l (S.shape k).above), or_false (eqb k l || among l (S.shape k).above)) refl

  -- "hastag is false for an `e` kind with `-`"
  pub hastag_alone : (k : ℕ) (B : Ty) → rel_rule S rhastag (alone k) B ≡ false_if (ordinary (S.shape k) && undeclared (S.shape k).tags)
  hastag_alone k B = ap false_if (and_true (ordinary (S.shape k) && undeclared (S.shape k).tags))

  -- "has .. false if the attribute is undeclared in .. an `e` kind"
  pub has_alone : (t k : ℕ) → has_rule S t (alone k) ≡ false_if (ordinary (S.shape k) && undeclared (declared t (S.shape k).attrs))
  has_alone t k = ap false_if (and_true (ordinary (S.shape k) && undeclared (declared t (S.shape k).attrs)))

  -- "get a declared attribute (entity or record)": what the one kind declares
  pub each_alone : (P : Attrs → Type 0) (k : ℕ) → P (S.shape k).attrs → Each S (alone k) P
  each_alone P k p = one_kind_law (λ l. P (S.shape l).attrs) k p

  pub alone_each : (P : Attrs → Type 0) (k : ℕ) → Each S (alone k) P → P (S.shape k).attrs
  alone_each P k e = e k (in_alone k)

  -- "gettag the tag type"
  pub gettag_alone : (k : ℕ) {T : Ty} → (S.shape k).tags ≡ some T → RelOk S rgettag (alone k) tstr T
  gettag_alone k {T} e = get_tag_ok (one_kind_law (λ l. (S.shape l).tags ≡ some T) k e)
