-- Document 01, "Interpretation", with the rules of request 2.7 for groups of kinds: the type rules, which decide a node by the types of its operands alone; `none` where no rule decides.
use Rattle.std.specs.Prelude.{Bool, true, false, not, ◌||◌, ◌&&◌, List, [], ◌∷◌, ℕ, eqb}
use Rattle.std.proofs.Math.Option.{Option, none, some}
use Rattle.cedar.specs.Types.{Ty, tbool, tlong, tstr, tent, tset, trec, among, some_kind, each_kind, declared, Shape, Schema}
use Rattle.cedar.specs.Residual.{Un, unot, uneg, uempty, uis, ulike, Bin, beq, blt, ble, badd, bsub, bmul, bcontains, ball, bany, Rel, rin, rgettag, rhastag}

-- The kinds of an entity type; below, those of an entity type or of a set of entities. `d` for other types.
abbrev pub on_kinds : {A : Type 0} → A → Ty → (List ℕ → A) → A
on_kinds d tbool f = d
on_kinds d tlong f = d
on_kinds d tstr f = d
on_kinds d (tent k ks) f = f (k ∷ ks)
on_kinds d (tset A) f = d
on_kinds d (trec R) f = d

abbrev pub on_targets : {A : Type 0} → A → Ty → (List ℕ → A) → A
on_targets d tbool f = d
on_targets d tlong f = d
on_targets d tstr f = d
on_targets d (tent k ks) f = f (k ∷ ks)
on_targets d (tset A) f = on_kinds d A f
on_targets d (trec R) f = d

abbrev pub undeclared : {A : Type 0} → Option A → Bool
undeclared none = true
undeclared (some a) = false

-- "an `e` kind": "Type rule for `has` or `hastag` on an action kind: not applied."
abbrev pub ordinary : Shape → Bool
ordinary s = not s.is_action

-- A rule that decides false, or nothing.
abbrev pub false_if : Bool → Option Bool
false_if true = some false
false_if false = none

-- "`is` is false if the kind is absent and true if it is the sole one"
abbrev pub is_rule : ℕ → List ℕ → Option Bool
is_rule k [] = none
is_rule k (l ∷ []) = some (eqb k l)
is_rule k (l ∷ m ∷ ms) = false_if (not (among k (l ∷ m ∷ ms)))

module _ (S : Schema) where
  abbrev pub un_rule : Un → Ty → Option Bool
  un_rule unot A = none
  un_rule uneg A = none
  un_rule uempty A = none
  un_rule (uis k) A = on_kinds none A (is_rule k)
  un_rule (ulike p) A = none

  -- "eq is false for groups without a common kind"
  abbrev pub bin_rule : Bin → Ty → Ty → Option Bool
  bin_rule beq A B = on_kinds none A (λ ks. on_kinds none B (λ ls. false_if (not (some_kind (λ k. among k ls) ks))))
  bin_rule blt A B = none
  bin_rule ble A B = none
  bin_rule badd A B = none
  bin_rule bsub A B = none
  bin_rule bmul A B = none
  bin_rule bcontains A B = none
  bin_rule ball A B = none
  bin_rule bany A B = none

  -- A pair allows in: "the kinds are equal", or "the right is above the left".
  abbrev pub allows : ℕ → ℕ → Bool
  allows k l = eqb k l || among l (S.shape k).above

  -- "in is false if no pair allows it"; "tags are ruled out if every kind is `e` and none declares them"
  abbrev pub rel_rule : Rel → Ty → Ty → Option Bool
  rel_rule rin A B = on_kinds none A (λ ks. on_targets none B (λ ls. false_if (not (some_kind (λ k. some_kind (allows k) ls) ks))))
  rel_rule rgettag A B = none
  rel_rule rhastag A B = on_kinds none A (λ ks. false_if (each_kind (λ k. ordinary (S.shape k) && undeclared (S.shape k).tags) ks))

  -- "has, and the first step of a haspath left over, are false if the attribute is undeclared in a record";
  -- "attributes .. are ruled out if every kind is `e` and none declares them"
  abbrev pub has_rule : ℕ → Ty → Option Bool
  has_rule t tbool = none
  has_rule t tlong = none
  has_rule t tstr = none
  has_rule t (tent k ks) = false_if (each_kind (λ l. ordinary (S.shape l) && undeclared (declared t (S.shape l).attrs)) (k ∷ ks))
  has_rule t (tset A) = none
  has_rule t (trec R) = false_if (undeclared (declared t R))
