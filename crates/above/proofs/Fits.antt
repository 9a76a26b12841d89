-- What is asked of the marked lines is asked of all that is reached, and of the state that the words hold. Assumes nothing.
use mathlib.Core.Path.{◌≡◌, refl, sym, ◌∙◌, ap, ap₂, subst}
use mathlib.Core.Bool.{Bool, true, false, cond, not, ◌&&◌}
use mathlib.Core.List.{List, [], ◌∷◌}
use mathlib.Core.Logic.{◌⊎◌, inl, inr}
use Prim.Native.Nat.{ℕ, zero, suc, ◌+◌, ◌-◌, ◌<◌, ◌≤◌}
use native.Mathlib.Omega.{arith}
use borrow.Author.Tests.{eq-eqb, eqb-true, ltb-true, ltb-false, not-true, not-false}
use lib.Dec.{ltb, eqb}
use lib.ListN.{length, get_or, take, drop, set, replicate}
use lib.Seq.{get_or-take}
use Rattle.cedar.proofs.Tools.{no_true, or_left, or_right, both, iff}
use Rattle.cedar.specs.Rows.{Row, rbool, rlong, rtext, rent, rset, rrec}
use Rattle.cedar.specs.Numbered.{mem_n, r_ent}
use Rattle.sheet.specs.Forms.{tag, at, SHAPE, VALUE, ENTITY}
use Rattle.sheet.specs.State.{value_row}
use Rattle.sheet.specs.Typing.{all_in}
use Rattle.sheet.specs.Parents.{parents_in, ancestors}
use Rattle.sheet.specs.Sheet.{first_unfit, reached_fit}
use Rattle.sheet.proofs.content.Ancestors.{all_in_at}
use Rattle.sheet.proofs.content.Reaching.{all_above_law, closed_above}
use Rattle.sheet.proofs.reading.Lines.{set_cases}
use Rattle.forms.specs.Tags.{LONG_VALUE, ENTITY_VALUE}
use Rattle.table.specs.Layout.{rows_of, held, lines_held}
use Rattle.table.proofs.Rows.{count_rows}
use Rattle.value.proofs.Lists.{uncons, spent}
use Rattle.fits.proofs.Sorts.{no_entity, sort_tag}
use Rattle.typing.specs.Rules.{ancestor_rule}
use Rattle.typerows.specs.Types.{is_above_at}
use Rattle.typing.proofs.Joined.{drop_three}
use Rattle.reach.specs.Marks.{LINES, VALUES, FAR, line_rows, place_of, Self, Found, marked_at, any_marked}
use Rattle.met.proofs.Meeting.{not_none}
use Rattle.reach.proofs.Steps.{lines_most, mark_some}
use Rattle.reach.proofs.Asking.{marked_in, marked_out, line_of, on_line}
use Rattle.above.specs.Fitting.{all_above, unfit_at, unfit_value, Unfit, is_kind, Passed, Passes, Fit, Fitted, reached_rule, unfit_from}

-- ---- unfit_at, unfit_value

pub unfit_some : (a : List ℕ) (d : ℕ) (m : List ℕ) (k x : ℕ) → x ≡ get_or m k 0 → (x ≡ 0 → ⊥) → (q : List ℕ) → q ≡ parents_in (rows_of a VALUE) (line_rows a) (get_or (line_rows a) k []) → (b : Bool) → b ≡ all_above a d q → not b ≡ marked_at (unfit_at a d) m k
unfolding unfit_at
unfit_some a d m k x ex e q eq b eb = mark_some (unfit_at a d) m k x ex e (not b) (ap not (eb ∙ ap (all_above a d) eq))

pub value_some : (a : List ℕ) (d : ℕ) (w : List ℕ) (v x : ℕ) → x ≡ get_or w v 0 → (x ≡ 0 → ⊥) → (b : Bool) → b ≡ ancestor_rule a v d → not b ≡ marked_at (unfit_value a d) w v
unfolding unfit_value
value_some a d w v x ex e b eb = mark_some (unfit_value a d) w v x ex e (not b) (ap not eb)

-- ---- all that is reached

all_from : (f : ℕ → Bool) (l : List ℕ) → ((y : ℕ) → mem_n y l ≡ true → f y ≡ true) → all_in f l ≡ true
all_from f [] g = refl
all_from f (x ∷ l) g = both (g x (or_left (eqb x x) (mem_n x l) (eq-eqb x x refl))) (all_from f l (λ y i. g y (or_right (eqb y x) (mem_n y l) i)))

not_all : {X : Type 0} (f : ℕ → Bool) (l : List ℕ) → not (all_in f l) ≡ true → ((y : ℕ) → mem_n y l ≡ true → f y ≡ false → X) → X
not_all f [] e g = no_true e
not_all {X} f (x ∷ l) e g = go (f x) refl e (λ d. not_all f l d (λ y i z. g y (or_right (eqb y x) (mem_n y l) i) z))
  where
    go : (b : Bool) → f x ≡ b → not (b && all_in f l) ≡ true → (not (all_in f l) ≡ true → X) → X
    go true q e ih = ih e
    go false q e ih = g x (or_left (eqb x x) (mem_n x l) (eq-eqb x x refl)) q

not_in : (f : ℕ → Bool) (l : List ℕ) (y : ℕ) → mem_n y l ≡ true → f y ≡ false → not (all_in f l) ≡ true
not_in f l y i z = go (all_in f l) refl
  where
    go : (b : Bool) → all_in f l ≡ b → not b ≡ true
    go true e = no_true (sym z ∙ all_in_at f l y e i)
    go false e = refl

unfit_is : (a : List ℕ) (d v : ℕ) (w m : List ℕ) (r : Bool) → Found (rows_of a VALUE) (line_rows a) v w m → r ≡ any_marked (unfit_at a d) m 0 (length (line_rows a)) → r ≡ not (all_above a d (ancestors (rows_of a VALUE) (line_rows a) v))
unfolding unfit_at all_above
unfit_is a d v w m r h er = er ∙ iff (any_marked (unfit_at a d) m 0 (length (line_rows a))) (not (all_in (λ y. ancestor_rule a y d) (ancestors (rows_of a VALUE) (line_rows a) v)))
    (λ e. marked_out (unfit_at a d) m 0 (length (line_rows a)) e (λ k p q c z. not_all (λ y. ancestor_rule a y d) (parents_in (rows_of a VALUE) (line_rows a) (get_or (line_rows a) k [])) z (λ y i w. not_in (λ y. ancestor_rule a y d) (ancestors (rows_of a VALUE) (line_rows a) v) y (on_line (rows_of a VALUE) (line_rows a) v m h.reached k y (omega (arith, q)) c i) w)))
    (λ e. not_all (λ y. ancestor_rule a y d) (ancestors (rows_of a VALUE) (line_rows a) v) e (λ y i w. line_of (rows_of a VALUE) (line_rows a) v m h.reached y i (λ k p q c. marked_in (unfit_at a d) m 0 (length (line_rows a)) k (omega arith) (omega (arith, p)) q (not_in (λ y. ancestor_rule a y d) (parents_in (rows_of a VALUE) (line_rows a) (get_or (line_rows a) k [])) y c w))))

-- by the table of those met, where none is past its end
value_is : (a : List ℕ) (d v : ℕ) (w m : List ℕ) (r : Bool) → Found (rows_of a VALUE) (line_rows a) v w m → (x : ℕ) → x ≡ get_or m FAR 0 → x ≡ 0 → r ≡ any_marked (unfit_value a d) w 0 (length w) → r ≡ not (all_above a d (ancestors (rows_of a VALUE) (line_rows a) v))
unfolding unfit_value all_above
value_is a d v w m r h x ex e er = er ∙ iff (any_marked (unfit_value a d) w 0 (length w)) (not (all_in (λ y. ancestor_rule a y d) (ancestors (rows_of a VALUE) (line_rows a) v)))
    (λ e. marked_out (unfit_value a d) w 0 (length w) e (λ y p q c z. not_in (λ y. ancestor_rule a y d) (ancestors (rows_of a VALUE) (line_rows a) v) y (h.only y c) (not-true (ancestor_rule a y d) z)))
    (λ e. not_all (λ y. ancestor_rule a y d) (ancestors (rows_of a VALUE) (line_rows a) v) e (λ y i z. go y i z (ltb y (length w)) refl))
  where
    go : (y : ℕ) → mem_n y (ancestors (rows_of a VALUE) (line_rows a) v) ≡ true → ancestor_rule a y d ≡ false → (b : Bool) → ltb y (length w) ≡ b → any_marked (unfit_value a d) w 0 (length w) ≡ true
    go y i z true q = let l = ltb-true y (length w) q in marked_in (unfit_value a d) w 0 (length w) y (omega arith) (omega (arith, l)) (h.all y i l) (ap not z)
    go y i z false q = let l = h.far y i (ltb-false y (length w) q) in absurd (omega (arith, l, ex, e))

-- ---- what a line of the same kind reaches

-- the entity of a line found by its place
own_place : (x : ℕ) (l : List (List ℕ)) → place_of x l < length l → at (get_or l (place_of x l) []) 0 ≡ x
unfolding place_of
own_place x [] h = absurd (omega arith)
own_place x (r ∷ l) h = go (eqb (at r 0) x) refl h (λ q. own_place x l q)
  where
    go : (b : Bool) → eqb (at r 0) x ≡ b → cond b 0 (suc (place_of x l)) < suc (length l) → (place_of x l < length l → at (get_or l (place_of x l) []) 0 ≡ x) → at (get_or (r ∷ l) (cond b 0 (suc (place_of x l))) []) 0 ≡ x
    go true e h f = eqb-true (at r 0) x e
    go false e h f = f (omega (arith, h))

ent_kind : (r : Row) (g : ℕ → Bool) (d : ℕ) → r_ent false r (λ e t. eqb e d) ≡ true → g d ≡ true → r_ent false r (λ e t. g e) ≡ true
ent_kind (rbool b) g d e h = no_true e
ent_kind (rlong n) g d e h = no_true e
ent_kind (rtext t) g d e h = no_true e
ent_kind (rent k t) g d e h = subst (λ (z : ℕ). g z ≡ true) (sym (eqb-true k d e)) h
ent_kind (rset l) g d e h = no_true e
ent_kind (rrec l) g d e h = no_true e

same_row_law : (a : List ℕ) (j : ℕ) → j < length (line_rows a) → get_or (line_rows a) j [] ≡ get_or (rows_of a ENTITY) j []
unfolding line_rows
same_row_law a j l = let z = lines_most a in get_or-take LINES (rows_of a ENTITY) j [] (omega (arith, z, l))

module _ (a : List ℕ) (d v : ℕ) (w m : List ℕ) (h : Found (rows_of a VALUE) (line_rows a) v w m) (e : all_above a d (ancestors (rows_of a VALUE) (line_rows a) v) ≡ true) where
  -- what one that v reaches reaches
  beyond_fit : (x : ℕ) → Self (rows_of a VALUE) (line_rows a) v x → all_above a d (ancestors (rows_of a VALUE) (line_rows a) x) ≡ true
  unfolding all_above
  beyond_fit x (inl z) = subst (λ (y : ℕ). all_in (λ u. ancestor_rule a u d) (ancestors (rows_of a VALUE) (line_rows a) y) ≡ true) (sym z) e
  beyond_fit x (inr i) = all_from (λ u. ancestor_rule a u d) (ancestors (rows_of a VALUE) (line_rows a) x) (λ y k. all_in_at (λ u. ancestor_rule a u d) (ancestors (rows_of a VALUE) (line_rows a) v) y e (on y k))
    where
      on : (y : ℕ) → mem_n y (ancestors (rows_of a VALUE) (line_rows a) x) ≡ true → mem_n y (ancestors (rows_of a VALUE) (line_rows a) v) ≡ true
      on y k = all_above_law (rows_of a VALUE) (line_rows a) (λ z. mem_n z (ancestors (rows_of a VALUE) (line_rows a) v) ≡ true) x (λ z q. closed_above (rows_of a VALUE) (line_rows a) v x z i q) (λ p z q s. closed_above (rows_of a VALUE) (line_rows a) v p z q s) y k

  covered : (j : ℕ) → j < length (line_rows a) → 1 ≤ get_or m j 0 → is_kind a d j ≡ true → reached_rule a (get_or (line_rows a) j []) ≡ true
  unfolding is_kind reached_rule
  covered j l k q = let (x, p, s) = h.reached.only j (omega (arith, l)) k in
      let ex : at (get_or (line_rows a) j []) 0 ≡ x = ap (λ (i : ℕ). at (get_or (line_rows a) i []) 0) (sym p) ∙ own_place x (line_rows a) (omega (arith, p, l)) in
      ent_kind (value_row (get_or (rows_of a VALUE) (at (get_or (line_rows a) j []) 0) [])) (λ z. all_above a z (ancestors (rows_of a VALUE) (line_rows a) (at (get_or (line_rows a) j []) 0))) d q (subst (λ (z : ℕ). all_above a d (ancestors (rows_of a VALUE) (line_rows a) z) ≡ true) (sym ex) (beyond_fit x s))

  pub covered_fit : (f f' : List ℕ) → Fit a f → Passes a d m (length (line_rows a)) f f' → Fit a f'
  covered_fit f f' c g = record { is = λ j i. go j (g.is j i) }
    where
      go : (j : ℕ) → (1 ≤ get_or f j 0) ⊎ ((j < length (line_rows a)) × (1 ≤ get_or m j 0) × (is_kind a d j ≡ true)) → reached_rule a (get_or (rows_of a ENTITY) j []) ≡ true
      go j (inl i) = c.is j i
      go j (inr (l, k, q)) = subst (λ (r : List ℕ). reached_rule a r ≡ true) (same_row_law a j l) (covered j l k q)

-- ---- pass_at, pass

pub passed_none : (a : List ℕ) (d : ℕ) (m : List ℕ) (k : ℕ) (f : List ℕ) → Passed a d m k f f
passed_none a d m k f = record { is = λ j h. inl h }

module _ (a : List ℕ) (d : ℕ) (m : List ℕ) (k x : ℕ) (ex : x ≡ get_or m k 0) (nx : x ≡ 0 → ⊥) (r : List ℕ) (er : r ≡ get_or (line_rows a) k []) (v : ℕ) (ev : v ≡ get_or r 1 0) (q : List ℕ) (eq : q ≡ get_or (rows_of a VALUE) v []) (t : ℕ) (et : t ≡ tag q) (en : t ≡ ENTITY_VALUE) (e : ℕ) (ee : e ≡ get_or q 1 0) (ed : e ≡ d) where
  kind_is : is_kind a d k ≡ true
  unfolding is_kind
  kind_is = let z : tag q ≡ ENTITY_VALUE = sym et ∙ en in
      ap (λ (y : ℕ). r_ent false (value_row (get_or (rows_of a VALUE) y [])) (λ e t. eqb e d)) (sym (ev ∙ ap (λ (s : List ℕ). get_or s 1 0) er)) ∙ ap (λ (s : List ℕ). r_ent false (value_row s) (λ e t. eqb e d)) (sym eq) ∙ rw z (eq-eqb (get_or q 1 0) d (sym ee ∙ ed))

  pub passed_one : (f f' : List ℕ) → f' ≡ set f k 1 → Passed a d m k f f'
  passed_one f f' ef = record { is = λ j h. let g : 1 ≤ get_or (set f k 1) j 0 = subst (λ (u : List ℕ). 1 ≤ get_or u j 0) ef h in set_cases f k j 1 0 (λ z. inl (omega (arith, g, z))) (λ z y. inr (z, subst (λ (i : ℕ). 1 ≤ get_or m i 0) (sym z) (subst (λ (u : ℕ). 1 ≤ u) ex (not_none x nx)), subst (λ (i : ℕ). is_kind a d i ≡ true) (sym z) kind_is)) }

pub record Passing (a : List ℕ) (d : ℕ) (m f₀ f : List ℕ) (n i : ℕ) : Type 0 where
  pub long : length f ≡ length f₀
  pub all : n ≡ length (line_rows a)
  pub near : i ≤ n
  pub passes : Passes a d m i f₀ f

pub passing_start : (a : List ℕ) (d : ℕ) (m f : List ℕ) (n : ℕ) → n ≡ length (line_rows a) → Passing a d m f f n 0
passing_start a d m f n e = record { long = refl; all = e; near = omega arith; passes = record { is = λ j h. inl h } }

module _ (a : List ℕ) (d : ℕ) (m f₀ f : List ℕ) (n i : ℕ) (c : Passing a d m f₀ f n i) where
  pub passing_on : i < n → (f' : List ℕ) → length f' ≡ length f → Passed a d m i f f' → Passing a d m f₀ f' n (i + 1)
  passing_on h f' l g = record { long = l ∙ c.long; all = c.all; near = omega (arith, h); passes = record { is = λ j k. go j (g.is j k) } }
    where
      old : (j : ℕ) → (1 ≤ get_or f₀ j 0) ⊎ ((j < i) × (1 ≤ get_or m j 0) × (is_kind a d j ≡ true)) → (1 ≤ get_or f₀ j 0) ⊎ ((j < i + 1) × (1 ≤ get_or m j 0) × (is_kind a d j ≡ true))
      old j (inl x) = inl x
      old j (inr (x, y, z)) = inr (omega (arith, x), y, z)

      go : (j : ℕ) → (1 ≤ get_or f j 0) ⊎ ((j ≡ i) × (1 ≤ get_or m j 0) × (is_kind a d j ≡ true)) → (1 ≤ get_or f₀ j 0) ⊎ ((j < i + 1) × (1 ≤ get_or m j 0) × (is_kind a d j ≡ true))
      go j (inl x) = old j (c.passes.is j x)
      go j (inr (x, y, z)) = inr (omega (arith, x), y, z)

  pub passing_end : n ≤ i → Passes a d m (length (line_rows a)) f₀ f
  passing_end h = subst (λ (k : ℕ). Passes a d m k f₀ f) (let x = c.near in let y = c.all in let z : i ≡ length (line_rows a) = omega (arith, h, x, y) in z) c.passes

-- ---- found_unfit

module _ (a : List ℕ) (d v : ℕ) (w m : List ℕ) (h : Found (rows_of a VALUE) (line_rows a) v w m) (f : List ℕ) (c : Fit a f) where
  pub unfit_far : (r : Bool) → r ≡ any_marked (unfit_at a d) m 0 (length (line_rows a)) → Unfit a d v f r
  unfit_far r er = record { is = unfit_is a d v w m r h er; fit = c }

  module _ (x : ℕ) (ex : x ≡ get_or m FAR 0) (e : x ≡ 0) (r : Bool) (er : r ≡ any_marked (unfit_value a d) w 0 (length w)) where
    pub unfit_yes : r ≡ true → Unfit a d v f true
    unfit_yes z = record { is = sym z ∙ value_is a d v w m r h x ex e er; fit = c }

    pub unfit_no : r ≡ false → (f' : List ℕ) → Passes a d m (length (line_rows a)) f f' → Unfit a d v f' false
    unfit_no z f' g = record { is = none; fit = covered_fit a d v w m h (not-false (all_above a d (ancestors (rows_of a VALUE) (line_rows a) v)) (sym none)) f f' c g }
      where
        none : false ≡ not (all_above a d (ancestors (rows_of a VALUE) (line_rows a) v))
        none = sym z ∙ value_is a d v w m r h x ex e er

-- ---- reaches_unfit

pub cut_most : (n : ℕ) (l : List ℕ) → n ≤ VALUES → length (take n l) ≤ VALUES
cut_most n l h = let z = go n l in omega (arith, z, h)
  where
    go : (n : ℕ) (l : List ℕ) → length (take n l) ≤ n
    go zero l = omega arith
    go (suc n) [] = omega arith
    go (suc n) (x ∷ l) = let z = go n l in omega (arith, z)

-- ---- reached_fit

module _ (a r : List ℕ) (v : ℕ) (ev : v ≡ get_or r 1 0) (q : List ℕ) (eq : q ≡ get_or (rows_of a VALUE) v []) (t : ℕ) (et : t ≡ tag q) where
  rule_by : reached_rule a r ≡ r_ent false (value_row q) (λ d t. all_above a d (ancestors (rows_of a VALUE) (line_rows a) v))
  unfolding reached_rule
  rule_by = ap (λ (x : ℕ). r_ent false (value_row (get_or (rows_of a VALUE) x [])) (λ d t. all_above a d (ancestors (rows_of a VALUE) (line_rows a) x))) (sym ev) ∙ ap (λ (z : List ℕ). r_ent false (value_row z) (λ d t. all_above a d (ancestors (rows_of a VALUE) (line_rows a) v))) (sym eq)

  fit_other : (t ≡ ENTITY_VALUE → ⊥) → false ≡ reached_rule a r
  fit_other n = sym (rule_by ∙ no_entity false (value_row q) (λ d t. all_above a d (ancestors (rows_of a VALUE) (line_rows a) v)) (λ x. n (et ∙ sort_tag q (ENTITY_VALUE - LONG_VALUE) x)))

  fit_entity : t ≡ ENTITY_VALUE → (d : ℕ) → d ≡ get_or q 1 0 → (u : Bool) → u ≡ not (all_above a d (ancestors (rows_of a VALUE) (line_rows a) v)) → not u ≡ reached_rule a r
  fit_entity e d ed u h =
      let z : tag q ≡ ENTITY_VALUE = sym et ∙ e in
      ap not h ∙ twice (all_above a d (ancestors (rows_of a VALUE) (line_rows a) v)) ∙ sym (rule_by ∙ rw (z, ← ed) refl)
    where
      twice : (b : Bool) → not (not b) ≡ b
      twice true = refl
      twice false = refl

  module _ (k : ℕ) (er : r ≡ get_or (rows_of a ENTITY) k []) where
    pub fitted_other : (f : List ℕ) → Fit a f → (t ≡ ENTITY_VALUE → ⊥) → Fitted a k f false
    fitted_other f c n = record { is = fit_other n ∙ ap (reached_rule a) er; fit = c }

    pub fitted_by : t ≡ ENTITY_VALUE → (d : ℕ) → d ≡ get_or q 1 0 → (f : List ℕ) (u : Bool) → Unfit a d v f u → Fitted a k f (not u)
    fitted_by e d ed f u h = record { is = fit_entity e d ed u h.is ∙ ap (reached_rule a) er; fit = h.fit }

pub fitted_old : (a f : List ℕ) → Fit a f → (k x : ℕ) → x ≡ get_or f k 0 → (x ≡ 0 → ⊥) → Fitted a k f true
fitted_old a f c k x ex n = record { is = sym (c.is k (subst (λ (y : ℕ). 1 ≤ y) ex (not_none x n))); fit = c }

-- ---- first_unfit

pub record Firsts (a : List ℕ) (n : ℕ) (f : List ℕ) (i : ℕ) : Type 0 where
  pub long : length f ≡ LINES
  pub all : n ≡ get_or a ENTITY 0
  pub near : i ≤ n
  pub fit : Fit a f
  pub rest : unfit_from a (rows_of a ENTITY) ≡ i + unfit_from a (drop i (rows_of a ENTITY))

pub blank : (n j : ℕ) → ◌≡◌ {A = ℕ} (get_or (replicate n 0) j 0) 0
blank zero j = refl
blank (suc n) zero = refl
blank (suc n) (suc j) = blank n j

pub none_fit : (a f : List ℕ) → ((j : ℕ) → get_or f j 0 ≡ 0) → Fit a f
none_fit a f g = record { is = λ j h. let z = g j in absurd (omega (arith, z, h)) }

module _ (a : List ℕ) (n : ℕ) where
  pub firsts_start : (f : List ℕ) → length f ≡ LINES → Fit a f → n ≡ get_or a ENTITY 0 → Firsts a n f 0
  firsts_start f l g e = record { long = l; all = e; near = omega arith; fit = g; rest = omega arith }

  pub firsts_none : n ≡ get_or a ENTITY 0 → n ≡ 0 → 0 ≡ unfit_from a (rows_of a ENTITY)
  unfolding unfit_from
  firsts_none e h = let y : unfit_from a (rows_of a ENTITY) ≡ 0 = ap (unfit_from a) (spent (rows_of a ENTITY) 0 (let x = count_rows a ENTITY in omega (arith, x, e, h))) in sym y

  module _ (f : List ℕ) (i : ℕ) (c : Firsts a n f i) where
    module _ (h : i < n) (f' : List ℕ) (b : Bool) (g : Fitted a i f' b) where
      front : unfit_from a (drop i (rows_of a ENTITY)) ≡ cond b (suc (unfit_from a (drop (i + 1) (rows_of a ENTITY)))) 0
      unfolding unfit_from
      front = ap (unfit_from a) (uncons (rows_of a ENTITY) [] i (let z = count_rows a ENTITY in let y = c.all in omega (arith, z, y, h)))
          ∙ ap (λ (x : Bool). cond x (suc (unfit_from a (drop (i + 1) (rows_of a ENTITY)))) 0) (sym g.is)

      pub firsts_hit : not b ≡ true → i ≡ unfit_from a (rows_of a ENTITY)
      firsts_hit e = let z = c.rest in let y : unfit_from a (drop i (rows_of a ENTITY)) ≡ 0 = front ∙ ap (λ (x : Bool). cond x (suc (unfit_from a (drop (i + 1) (rows_of a ENTITY)))) 0) (not-true b e) in omega (arith, z, y)

      pub firsts_on : length f' ≡ length f → not b ≡ false → Firsts a n f' (i + 1)
      firsts_on l e = record {
        long = l ∙ c.long;
        all = c.all;
        near = omega (arith, h);
        fit = g.fit;
        rest = let z = c.rest in let y : unfit_from a (drop i (rows_of a ENTITY)) ≡ suc (unfit_from a (drop (i + 1) (rows_of a ENTITY))) = front ∙ ap (λ (x : Bool). cond x (suc (unfit_from a (drop (i + 1) (rows_of a ENTITY)))) 0) (not-false b e) in omega (arith, z, y);
      }

    pub firsts_end : n ≤ i → i ≡ unfit_from a (rows_of a ENTITY)
    unfolding unfit_from
    firsts_end h = let z = c.rest in let y : unfit_from a (drop i (rows_of a ENTITY)) ≡ 0 = ap (unfit_from a) (spent (rows_of a ENTITY) i (let x = count_rows a ENTITY in let w = c.all in omega (arith, x, w, h))) in omega (arith, z, y)

-- ---- the sheet's own

reached_is : (sheet a b r : List ℕ) → reached_rule a r ≡ reached_fit (held sheet a b) r
unfolding reached_rule all_above ancestor_rule is_above_at held lines_held line_rows
reached_is sheet a b r = λ i. r_ent false (value_row (get_or (rows_of a VALUE) (at r 0) [])) (λ k t. all_in (λ v. r_ent false (value_row (get_or (rows_of a VALUE) v [])) (λ l u. mem_n l (sym (drop_three (get_or (rows_of a SHAPE) k [])) i))) (ancestors (rows_of a VALUE) (take LINES (rows_of a ENTITY)) (at r 0)))

-- IT IS THE SHEET'S: the first entity line that reaches a kind which is not above
pub first_is : (sheet a b : List ℕ) → unfit_from a (rows_of a ENTITY) ≡ first_unfit (held sheet a b) (rows_of a ENTITY)
unfolding unfit_from
first_is sheet a b = go (rows_of a ENTITY)
  where
    go : (rs : List (List ℕ)) → unfit_from a rs ≡ first_unfit (held sheet a b) rs
    go [] = refl
    go (r ∷ rs) = ap₂ (λ (x : Bool) (n : ℕ). cond x (suc n) 0) (reached_is sheet a b r) (go rs)
