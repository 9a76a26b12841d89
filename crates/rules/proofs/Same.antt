-- The rules do not depend on the sheet's bytes: they ask for types and shapes alone.
use mathlib.Core.Path.{◌≡◌, refl, ap, ap₂, ◌∙◌}
use mathlib.Core.List.{List, []}
use Prim.Native.Nat.{ℕ}
use lib.ListN.{get_or}
use Rattle.cedar.specs.Types.{Ty, tbool, tlong, tstr, tent, tset, trec}
use Rattle.cedar.specs.Residual.{Un, unot, uneg, uempty, uis, ulike, Bin, beq, blt, ble, badd, bsub, bmul, bcontains, ball, bany, Rel, rin, rgettag, rhastag}
use Rattle.cedar.specs.Interpret.{alone}
use Rattle.cedar.specs.TypeRules.{un_rule, bin_rule, rel_rule, has_rule}
use Rattle.sheet.specs.Content.{types, schema}
use Rattle.table.specs.Layout.{held, lines_held}
use Rattle.rules.specs.Rules.{schema_at, ty_at}

module _ (sheet a : List ℕ) where
  pub ty_same : (y : ℕ) → get_or (types (held sheet a [])) y tbool ≡ ty_at a y
  unfolding ty_at types held lines_held
  ty_same y = refl

  pub shape_same : (k : ℕ) → (schema (held sheet a [])).shape k ≡ (schema_at a).shape k
  unfolding schema_at schema types held lines_held
  shape_same k = refl

  -- of any types
  un_of : (u : Un) (A : Ty) → un_rule (schema (held sheet a [])) u A ≡ un_rule (schema_at a) u A
  un_of unot A = refl
  un_of uneg A = refl
  un_of uempty A = refl
  un_of (uis k) A = refl
  un_of (ulike p) A = refl

  bin_of : (p : Bin) (A B : Ty) → bin_rule (schema (held sheet a [])) p A B ≡ bin_rule (schema_at a) p A B
  bin_of beq A B = refl
  bin_of blt A B = refl
  bin_of ble A B = refl
  bin_of badd A B = refl
  bin_of bsub A B = refl
  bin_of bmul A B = refl
  bin_of bcontains A B = refl
  bin_of ball A B = refl
  bin_of bany A B = refl

  rel_of : (p : Rel) (A B : Ty) → rel_rule (schema (held sheet a [])) p A B ≡ rel_rule (schema_at a) p A B
  unfolding schema_at schema types held lines_held
  rel_of rin A B = refl
  rel_of rgettag A B = refl
  rel_of rhastag A B = refl

  has_kinds_same : (t k : ℕ) (ks : List ℕ) → has_rule (schema (held sheet a [])) t (tent k ks) ≡ has_rule (schema_at a) t (tent k ks)
  unfolding schema_at schema types held lines_held
  has_kinds_same t k ks = refl

  pub has_kind_same : (t k : ℕ) → has_rule (schema (held sheet a [])) t (alone k) ≡ has_rule (schema_at a) t (alone k)
  has_kind_same t k = has_kinds_same t k []

  has_of : (t : ℕ) (A : Ty) → has_rule (schema (held sheet a [])) t A ≡ has_rule (schema_at a) t A
  has_of t tbool = refl
  has_of t tlong = refl
  has_of t tstr = refl
  has_of t (tent k ks) = has_kinds_same t k ks
  has_of t (tset A) = refl
  has_of t (trec R) = refl

  -- of the types that the words hold
  pub un_same : (u : Un) (y : ℕ) → un_rule (schema (held sheet a [])) u (get_or (types (held sheet a [])) y tbool) ≡ un_rule (schema_at a) u (ty_at a y)
  un_same u y = un_of u (get_or (types (held sheet a [])) y tbool) ∙ ap (un_rule (schema_at a) u) (ty_same y)

  pub bin_same : (p : Bin) (y z : ℕ) → bin_rule (schema (held sheet a [])) p (get_or (types (held sheet a [])) y tbool) (get_or (types (held sheet a [])) z tbool) ≡ bin_rule (schema_at a) p (ty_at a y) (ty_at a z)
  bin_same p y z = bin_of p (get_or (types (held sheet a [])) y tbool) (get_or (types (held sheet a [])) z tbool) ∙ ap₂ (bin_rule (schema_at a) p) (ty_same y) (ty_same z)

  pub rel_same : (p : Rel) (y z : ℕ) → rel_rule (schema (held sheet a [])) p (get_or (types (held sheet a [])) y tbool) (get_or (types (held sheet a [])) z tbool) ≡ rel_rule (schema_at a) p (ty_at a y) (ty_at a z)
  rel_same p y z = rel_of p (get_or (types (held sheet a [])) y tbool) (get_or (types (held sheet a [])) z tbool) ∙ ap₂ (rel_rule (schema_at a) p) (ty_same y) (ty_same z)

  pub has_same : (t y : ℕ) → has_rule (schema (held sheet a [])) t (get_or (types (held sheet a [])) y tbool) ≡ has_rule (schema_at a) t (ty_at a y)
  has_same t y = has_of t (get_or (types (held sheet a [])) y tbool) ∙ ap (has_rule (schema_at a) t) (ty_same y)
