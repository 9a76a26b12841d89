-- The line of an entity by its value number: the laws of halving; where each line is the first of its entity, it gives what a look-up gives. Assumes nothing.
use mathlib.Core.Path.{◌≡◌, refl, sym, ap, ◌∙◌, subst}
use mathlib.Core.Bool.{Bool, true, false, cond, ◌&&◌}
use mathlib.Core.Option.{some}
use mathlib.Core.List.{List, []}
use Prim.Native.Nat.{ℕ, suc, ◌+◌, ◌*◌, ◌/◌, ◌≤◌, ◌<◌}
use native.Mathlib.Omega.{arith}
use borrow.Author.Tests.{eq-eqb, ne_eqb, eqb-true, lt-ltb, le-ltb, ltb-true, le-leb, lt-leb}
use lib.Dec.{eqb, leb, ltb}
use lib.ListN.{length, get_or}
use Rattle.cedar.specs.Rows.{rent, same_row}
use Rattle.sheet.specs.Forms.{Mode, at, ENTITY}
use Rattle.sheet.specs.State.{State, lines_of, value_at}
use Rattle.sheet.specs.Content.{look_up, line_given, n_env}
use Rattle.table.specs.Layout.{rows_of, held, lines_held}
use Rattle.table.proofs.Rows.{count_rows}
use Rattle.std.specs.Prelude.{Option as Maybe, Some}
use Rattle.lookup.specs.Lookups.{HALF, HALVINGS, state_in, is_entity_at, line_at, line_in, nearer, led_from, is_line, line_or, line_by, env_by}

-- ---- of two lines the nearer

module _ (a : List ℕ) (v i j n : ℕ) (en : n ≡ get_or a ENTITY 0) where
  there : n ≡ length (rows_of a ENTITY)
  there = en ∙ sym (count_rows a ENTITY)

  pub near_none : n ≤ j → i ≡ nearer (rows_of a ENTITY) v i j
  unfolding nearer
  near_none h = rw (← there, le-ltb j n h)

  module _ (h : j < n) (r : List ℕ) (er : r ≡ get_or (rows_of a ENTITY) j []) (x : ℕ) (ex : x ≡ get_or r 1 0) where
    line_at_law : at (get_or (rows_of a ENTITY) j []) 0 ≡ x
    line_at_law = sym (ex ∙ ap (λ (q : List ℕ). get_or q 1 0) er)

    pub near_later : x ≤ v → j ≡ nearer (rows_of a ENTITY) v i j
    unfolding nearer
    near_later l = rw (← there, lt-ltb j n h, line_at_law, le-leb x v l)

    pub near_before : v < x → i ≡ nearer (rows_of a ENTITY) v i j
    unfolding nearer
    near_before l = rw (← there, lt-ltb j n h, line_at_law, lt-leb x v l)

nearer_low : (E : List (List ℕ)) (v i j : ℕ) → i ≤ j → nearer E v i j ≤ j
unfolding nearer
nearer_low E v i j h = go (ltb j (length E)) (leb (at (get_or E j []) 0) v)
  where
    go : (b c : Bool) → cond b (cond c j i) i ≤ j
    go true true = omega arith
    go true false = h
    go false c = h

-- ---- halving

-- n steps are left, the next of so many lines, from line i on
pub record Halving (E : List (List ℕ)) (v n step i : ℕ) : Type 0 where
  pub left : led_from E v n step i ≡ led_from E v HALVINGS HALF 0
  pub short : step ≤ HALF
  pub low : i + 64 * n ≤ 448

module _ (a : List ℕ) (v n step i : ℕ) (g : Halving (rows_of a ENTITY) v n step i) where
  pub halving_on : (m : ℕ) → n ≡ m + 1 → (j : ℕ) → j ≡ nearer (rows_of a ENTITY) v i (i + step) → Halving (rows_of a ENTITY) v m (step / 2) j
  unfolding led_from
  halving_on m h j e =
      let z : n ≡ suc m = omega (arith, h) in
      let l : led_from (rows_of a ENTITY) v (suc m) step i ≡ led_from (rows_of a ENTITY) v HALVINGS HALF 0 = rw z at g.left in
      let y = nearer_low (rows_of a ENTITY) v i (i + step) (omega arith) in
      record { left = ap (led_from (rows_of a ENTITY) v m (step / 2)) e ∙ l; short = omega (arith, g.short); low = omega (arith, y, e, g.short, g.low) }

  pub halving_end : n ≤ 0 → i ≡ led_from (rows_of a ENTITY) v HALVINGS HALF 0
  unfolding led_from
  halving_end h = let z : n ≡ 0 = omega (arith, h) in subst (λ (m : ℕ). led_from (rows_of a ENTITY) v m step i ≡ led_from (rows_of a ENTITY) v HALVINGS HALF 0) z g.left

-- ---- whether it is the line

module _ (a : List ℕ) (v k t i n : ℕ) (en : n ≡ get_or a ENTITY 0) where
  pub line_none : n ≤ i → false ≡ is_line a v k t i
  unfolding is_line
  line_none h = rw (← there a v i i n en, le-ltb i n h)

  module _ (h : i < n) (r : List ℕ) (er : r ≡ get_or (rows_of a ENTITY) i []) (x : ℕ) (ex : x ≡ get_or r 1 0) where
    pub line_other : (x ≡ v → ⊥) → false ≡ is_line a v k t i
    unfolding is_line
    line_other e = rw (← there a v i i n en, lt-ltb i n h, line_at_law a v i i n en h r er x ex, ne_eqb x v e)

    pub line_same : x ≡ v → (b : Bool) → b ≡ is_entity_at a v k t → b ≡ is_line a v k t i
    unfolding is_line
    line_same e b eb = rw (← there a v i i n en, lt-ltb i n h, line_at_law a v i i n en h r er x ex, eq-eqb x v e) eb

module _ (a : List ℕ) (v k t i : ℕ) (ei : i ≡ led_from (rows_of a ENTITY) v HALVINGS HALF 0) (b : Bool) (eb : b ≡ is_line a v k t i) where
  by_line : line_by a v k t ≡ cond b (some (get_or (rows_of a ENTITY) i [])) (line_in a k t)
  unfolding line_by
  by_line = ap (line_or a v k t) (sym ei) ∙ ap (λ (c : Bool). cond c (some (get_or (rows_of a ENTITY) i [])) (line_in a k t)) (sym eb)

  pub line_led : b ≡ true → line_at (rows_of a ENTITY) (Some i) ≡ line_by a v k t
  line_led e = sym (by_line ∙ ap (λ (c : Bool). cond c (some (get_or (rows_of a ENTITY) i [])) (line_in a k t)) e)

  pub line_found_law : b ≡ false → (r : Maybe ℕ) → line_at (rows_of a ENTITY) r ≡ line_in a k t → line_at (rows_of a ENTITY) r ≡ line_by a v k t
  line_found_law e r h = h ∙ sym (by_line ∙ ap (λ (c : Bool). cond c (some (get_or (rows_of a ENTITY) i [])) (line_in a k t)) e)

-- ---- each line is the first of its entity

pub record Single (s : State) : Type 0 where
  pub is : (i k t : ℕ) → i < length (lines_of s ENTITY) → same_row (value_at s (at (get_or (lines_of s ENTITY) i []) 0)) (rent k t) ≡ true → look_up s k t ≡ some (get_or (lines_of s ENTITY) i [])

module _ (a : List ℕ) (s : Single (held [] a [])) where
  single_here : (i k t : ℕ) → i < length (rows_of a ENTITY) → is_entity_at a (at (get_or (rows_of a ENTITY) i []) 0) k t ≡ true → line_in a k t ≡ some (get_or (rows_of a ENTITY) i [])
  unfolding is_entity_at line_in state_in held lines_held
  single_here i k t l e = s.is i k t l e

  single_or : (v k t i : ℕ) → line_or a v k t i ≡ line_in a k t
  unfolding is_line
  single_or v k t i = go (ltb i (length (rows_of a ENTITY))) refl (eqb (at (get_or (rows_of a ENTITY) i []) 0) v) refl (is_entity_at a v k t) refl
    where
      go : (b : Bool) → ltb i (length (rows_of a ENTITY)) ≡ b → (c : Bool) → eqb (at (get_or (rows_of a ENTITY) i []) 0) v ≡ c → (d : Bool) → is_entity_at a v k t ≡ d
          → cond (b && (c && d)) (some (get_or (rows_of a ENTITY) i [])) (line_in a k t) ≡ line_in a k t
      go true eb true ec true ed =
          let z : at (get_or (rows_of a ENTITY) i []) 0 ≡ v = eqb-true (at (get_or (rows_of a ENTITY) i []) 0) v ec in
          sym (single_here i k t (ltb-true i (length (rows_of a ENTITY)) eb) (ap (λ (w : ℕ). is_entity_at a w k t) z ∙ ed))
      go true eb true ec false ed = refl
      go true eb false ec d ed = refl
      go false eb c ec d ed = refl

  pub single_line : (v k t : ℕ) → line_by a v k t ≡ line_in a k t
  unfolding line_by
  single_line v k t = single_or v k t (led_from (rows_of a ENTITY) v HALVINGS HALF 0)

  -- so the entities are those that the words hold
  pub single_env : (m : Mode) (v : ℕ) → env_by m a v ≡ n_env m (held [] a [])
  unfolding env_by n_env line_in state_in
  single_env m v = λ i. record { request = (n_env m (held [] a [])).request; line = λ k t. line_given m (held [] a []) (single_line v k t i) }
