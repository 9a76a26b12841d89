-- An attribute found by its cell, or looked up and put there. Assumes nothing.
use mathlib.Core.Path.{◌≡◌, sym, ap, ◌∙◌}
use mathlib.Core.Bool.{Bool, true, false, cond}
use mathlib.Core.Option.{Option, none, some}
use mathlib.Core.List.{List}
use Prim.Native.Nat.{ℕ}
use native.Mathlib.Omega.{arith}
use Rattle.cedar.specs.Rows.{Row, rbool, rlong, rtext, rent, rset, rrec}
use Rattle.lookup.specs.Lookups.{ATTRIBUTES, value_in, line_in, part_of_line, part_in, look_in, look_value, look_attr}
use Rattle.lookup.specs.declared.Look.{Look}
use Rattle.lookup.specs.declared.Look.TheVariants.{At as Atˡ, Missing, Unknown as Unknownˡ, Bad}
use Rattle.notes.specs.Noted.{Looked}
use Rattle.firsts.specs.Firsts.{Firsts, Kept}
use Rattle.notes.specs.declared.Span.{Span}
use Rattle.firsts.specs.declared.Cell.{Cell}
use Rattle.walk.specs.Walks.{Found}

-- ---- what is found is found in either mode: they differ where an entity is not listed, and there nothing is found

abbrev is_at : Look → ℕ
is_at (Atˡ x) = 1
is_at Missing = 0
is_at (Unknownˡ k) = 0
is_at Bad = 0

module _ (c d : Bool) (a : List ℕ) (u x : ℕ) where
  no_line : (k : ℕ) (b : Bool) → Atˡ x ≡ look_in a k (cond b (some none) none) u → ⊥
  no_line k true e = let y : ◌≡◌ {A = ℕ} 1 0 = ap is_at e in omega (arith, y)
  no_line k false e = let y : ◌≡◌ {A = ℕ} 1 0 = ap is_at e in omega (arith, y)

  at_line_law : (k : ℕ) (o : Option (List ℕ)) → Atˡ x ≡ look_in a k (part_of_line c o ATTRIBUTES) u → Atˡ x ≡ look_in a k (part_of_line d o ATTRIBUTES) u
  at_line_law k none e = absurd (no_line k c e)
  at_line_law k (some r) e = e

  at_row : (r : Row) → Atˡ x ≡ look_value c a r u → Atˡ x ≡ look_value d a r u
  unfolding part_in
  at_row (rbool b) e = e
  at_row (rlong n) e = e
  at_row (rtext t) e = e
  at_row (rent k t) e = at_line_law k (line_in a k t) e
  at_row (rset l) e = e
  at_row (rrec m) e = e

  at_either : (v : ℕ) → Atˡ x ≡ look_attr c a v u → Atˡ x ≡ look_attr d a v u
  unfolding look_attr
  at_either v e = at_row (value_in a v) e

-- ---- found

pub found_kept : (c : Bool) (a : List ℕ) (v u x : ℕ) (spans : List Span) (cells cells' : List Cell) (l : Look) → Kept v u x cells cells' → l ≡ Atˡ x → Firsts a cells → Looked c a v u spans l → Found c a v u spans cells' (Atˡ x)
found_kept c a v u x spans cells cells' l p e f k = record { is = sym e ∙ k.is; noted = k.noted; right = p.is a f (λ d. at_either c d a u x v (sym e ∙ k.is)) }
