-- "Type rule for `has` or `hastag` on an action kind: not applied."
use mathlib.Core.Path.{◌≡◌, refl, sym, ◌∙◌, ap}
use mathlib.Core.Bool.{Bool, true, false, not, ◌&&◌}
use mathlib.Core.Option.{none}
use mathlib.Core.List.{List, ◌∷◌}
use Prim.Native.Nat.{ℕ}
use Rattle.cedar.specs.Types.{Ty, tent, among, each_kind, declared, Schema}
use Rattle.cedar.specs.Residual.{rhastag}
use Rattle.cedar.specs.TypeRules.{ordinary, undeclared, false_if, rel_rule, has_rule}
use Rattle.cedar.proofs.Tools.{no_true, each_at}

-- a test that one kind of a group does not pass
not_each : (f : ℕ → Bool) (ks : List ℕ) (k : ℕ) → among k ks ≡ true → f k ≡ false → each_kind f ks ≡ false
not_each f ks k m e = go (each_kind f ks) refl
  where
    go : (b : Bool) → each_kind f ks ≡ b → b ≡ false
    go true q = no_true (sym e ∙ each_at f ks q k m)
    go false q = refl

-- in a group with an action kind
module _ (S : Schema) (k l : ℕ) (ls : List ℕ) (m : among k (l ∷ ls) ≡ true) (a : (S.shape k).is_action ≡ true) where
  pub has_not_ruled : (t : ℕ) → has_rule S t (tent l ls) ≡ none
  has_not_ruled t = ap false_if (not_each (λ k. ordinary (S.shape k) && undeclared (declared t (S.shape k).attrs)) (l ∷ ls) k m (ap (λ b. not b && undeclared (declared t (S.shape k).attrs)) a))

  pub hastag_not_ruled : (B : Ty) → rel_rule S rhastag (tent l ls) B ≡ none
  hastag_not_ruled B = ap false_if (not_each (λ k. ordinary (S.shape k) && undeclared (S.shape k).tags) (l ∷ ls) k m (ap (λ b. not b && undeclared (S.shape k).tags) a))
