-- The strict operations and the type rules by tag: the laws of `give_one`, `give_two`, `rule_one` and `rule_two`. Assumes nothing.
use mathlib.Core.Path.{◌≡◌, refl, sym, ap, ◌∙◌}
use mathlib.Core.Bool.{Bool, false}
use mathlib.Core.Option.{Option, none}
use mathlib.Core.List.{List, [], ◌∷◌}
use Prim.Native.Nat.{ℕ, zero, suc, ◌+◌, ◌-◌, ◌≤◌, ◌<◌}
use native.Mathlib.Omega.{arith}
use lib.Dec.{eqb}
use lib.ListN.{get_or, take, drop, length, length-drop}
use lib.Seq.{take_all}
use Rattle.cedar.specs.Types.{tstr}
use Rattle.cedar.specs.Residual.{uempty, uis, ulike, beq, bany, rin, rhastag}
use Rattle.cedar.specs.TypeRules.{un_rule, bin_rule, rel_rule, has_rule}
use Rattle.cedar.specs.Numbered.{NOut, truly, n_un, n_bin}
use Rattle.forms.specs.Tags.{EQ, LT, MUL, IN, GETTAG, HASTAG, CONTAINS, ALL, ANY, IS, LIKE, GET, HAS, NOT, NEG}
use Rattle.sheet.specs.Forms.{partial, items, at, NODE}
use Rattle.sheet.specs.Content.{schema, pattern_of}
use Rattle.table.specs.Layout.{rows_of, text_at, held}
use Rattle.strict.specs.Gives.{out_of, longs_out, not_out, neg_out, empty_out, is_out, like_out, arith_out, contains_out, all_out, any_out}
use Rattle.lookup.specs.Lookups.{values, value_in}
use Rattle.strict.specs.Entities.{get_out, has_out, gettag_out, hastag_out, in_out}
use Rattle.strict.specs.declared.Given.{Given}
use Rattle.strict.proofs.Links.{like_link, bytes_link}
use Rattle.rules.specs.Rules.{rule_in, schema_at, ty_at}
use Rattle.std.specs.Prelude as P
use Rattle.std.specs.Prelude.{None}
use Rattle.tpe.specs.Run as W
use Rattle.tpe.specs.Gives.{one_gives, one_give, one_rule, two_gives, two_give, two_rule}

-- ---- one operand

same_bytes : (sheet a : List ℕ) → (schema (held sheet a [])).bytes ≡ text_at sheet a
same_bytes sheet a = λ i t. bytes_link false a sheet [] t i

module _ (sheet a : List ℕ) (n t v : ℕ) (r : List ℕ) (g : Given) (er : r ≡ get_or (rows_of a NODE) n []) where
  abbrev Gives₁ : Type 0
  Gives₁ = out_of g ≡ one_give sheet t a (get_or (rows_of a NODE) n []) v

  place_one : (j : ℕ) → t - IS ≡ j → out_of g ≡ get_or (one_gives sheet a r v) j (n_un (W.schema_in partial sheet a) uempty (W.value_in partial sheet a v)) → Gives₁
  unfolding one_give
  place_one j e h = rw (← er, e) h

  pub gives_is : (x : ℕ) → x ≡ get_or r 3 0 → t ≤ IS → out_of g ≡ is_out x (value_in a v) → Gives₁
  unfolding is_out value_in values
  gives_is x ex h q = place_one 0 (omega arith) (rw (← ex) q)

  pub gives_like : (l : List ℕ) → l ≡ drop 2 (items r) → t ≡ LIKE → out_of g ≡ like_out (text_at sheet a) l (value_in a v) → Gives₁
  unfolding value_in values W.schema_in
  gives_like l el h q = place_one 1 (omega arith)
      (q ∙ ap (λ (f : ℕ → List ℕ). like_out f l (value_in a v)) (sym (same_bytes sheet a)) ∙ like_link (schema (held sheet a [])) (value_in a v) l
      ∙ ap (λ (k : List ℕ). n_un (schema (held sheet a [])) (ulike (pattern_of k)) (value_in a v)) el)

  pub gives_get : (x : ℕ) → x ≡ get_or r 3 0 → t ≡ GET → out_of g ≡ get_out false a v x → Gives₁
  unfolding get_out value_in values
  gives_get x ex h q = place_one 2 (omega arith) (rw (← ex) q)

  pub gives_has : (x : ℕ) → x ≡ get_or r 3 0 → t ≡ HAS → out_of g ≡ has_out false a v x → Gives₁
  unfolding has_out value_in values
  gives_has x ex h q = place_one 3 (omega arith) (rw (← ex) q)

  pub gives_not : t ≡ NOT → out_of g ≡ not_out (value_in a v) → Gives₁
  unfolding not_out value_in values
  gives_not h q = place_one 5 (omega arith) q

  pub gives_neg : t ≡ NEG → out_of g ≡ neg_out (value_in a v) → Gives₁
  unfolding neg_out value_in values
  gives_neg h q = place_one 6 (omega arith) q

  abbrev empty₁ : NOut
  empty₁ = n_un (W.schema_in partial sheet a) uempty (W.value_in partial sheet a v)

  others_one : (j : ℕ) → (j ≡ 0 → ⊥) → (j ≡ 1 → ⊥) → (j ≡ 2 → ⊥) → (j ≡ 3 → ⊥) → (j ≡ 5 → ⊥) → (j ≡ 6 → ⊥) → get_or (one_gives sheet a r v) j empty₁ ≡ empty₁
  others_one zero h i j k l m = absurd (h refl)
  others_one (suc zero) h i j k l m = absurd (i refl)
  others_one (suc (suc zero)) h i j k l m = absurd (j refl)
  others_one (suc (suc (suc zero))) h i j k l m = absurd (k refl)
  others_one (suc (suc (suc (suc zero)))) h i j k l m = refl
  others_one (suc (suc (suc (suc (suc zero))))) h i j k l m = absurd (l refl)
  others_one (suc (suc (suc (suc (suc (suc zero)))))) h i j k l m = absurd (m refl)
  others_one (suc (suc (suc (suc (suc (suc (suc x))))))) h i j k l m = refl

  pub gives_empty : IS < t → (t ≡ LIKE → ⊥) → (t ≡ GET → ⊥) → (t ≡ HAS → ⊥) → (t ≡ NOT → ⊥) → (t ≡ NEG → ⊥) → out_of g ≡ empty_out (value_in a v) → Gives₁
  unfolding empty_out value_in values
  gives_empty h i j k l m q =
      place_one (t - IS) refl
      (q ∙ sym (others_one (t - IS) (λ e. omega (arith, e, h)) (λ e. i (omega (arith, e))) (λ e. j (omega (arith, e))) (λ e. k (omega (arith, e))) (λ e. l (omega (arith, e))) (λ e. m (omega (arith, e)))))

module _ (a : List ℕ) (n t x y : ℕ) (r : List ℕ) (q : P.Option Bool) (er : r ≡ get_or (rows_of a NODE) n []) (ex : x ≡ get_or r 3 0) where
  pub rules_is : t ≤ IS → rule_in q ≡ un_rule (schema_at a) (uis x) (ty_at a y) → rule_in q ≡ one_rule t a (get_or (rows_of a NODE) n []) y
  unfolding one_rule
  rules_is h e = let z : t - IS ≡ 0 = omega arith in rw (← er, z, ← ex) e

  pub rules_has : t ≡ HAS → rule_in q ≡ has_rule (schema_at a) x (ty_at a y) → rule_in q ≡ one_rule t a (get_or (rows_of a NODE) n []) y
  unfolding one_rule
  rules_has h e = let z : t - IS ≡ 3 = omega arith in rw (← er, z, ← ex) e

no_rule_one : (j : ℕ) (p q : Option Bool) → (j ≡ 0 → ⊥) → (j ≡ 3 → ⊥) → get_or (p ∷ none ∷ none ∷ q ∷ []) j none ≡ none
no_rule_one zero p q h k = absurd (h refl)
no_rule_one (suc zero) p q h k = refl
no_rule_one (suc (suc zero)) p q h k = refl
no_rule_one (suc (suc (suc zero))) p q h k = absurd (k refl)
no_rule_one (suc (suc (suc (suc j)))) p q h k = refl

pub rules_none : (a r : List ℕ) (t y : ℕ) → IS < t → (t ≡ HAS → ⊥) → rule_in None ≡ one_rule t a r y
unfolding one_rule
rules_none a r t y h k = sym (no_rule_one (t - IS) (un_rule (schema_at a) (uis (at r 2)) (ty_at a y)) (has_rule (schema_at a) (at r 2) (ty_at a y)) (λ e. omega (arith, e, h)) (λ e. k (omega (arith, e))))

-- the texts of a row
pub texts_none : (r : List ℕ) → length r < 3 → take 0 (drop 0 r) ≡ drop 2 (items r)
texts_none [] h = refl
texts_none (x ∷ []) h = refl
texts_none (x ∷ y ∷ []) h = refl
texts_none (x ∷ y ∷ z ∷ r) h = absurd (omega (arith, h))

pub texts_some : (r : List ℕ) → 3 ≤ length r → take (length r - 3) (drop 3 r) ≡ drop 2 (items r)
texts_some [] h = absurd (omega (arith, h))
texts_some (x ∷ r) h = take_all (length (x ∷ r) - 3) (drop 2 r) (omega (arith, length-drop 2 r))

-- ---- two operands

above : (t x : ℕ) → t ≡ IN + x → (x ≡ 0 → ⊥) → (x ≡ 1 → ⊥) → (x ≡ 2 → ⊥) → (x ≡ 3 → ⊥) → (x ≡ 4 → ⊥) → ANY ≤ t
above t zero e i j k l m = absurd (i refl)
above t (suc zero) e i j k l m = absurd (j refl)
above t (suc (suc zero)) e i j k l m = absurd (k refl)
above t (suc (suc (suc zero))) e i j k l m = absurd (l refl)
above t (suc (suc (suc (suc zero)))) e i j k l m = absurd (m refl)
above t (suc (suc (suc (suc (suc x))))) e i j k l m = omega (arith, e)

past : (t : ℕ) → ANY ≤ t → t - EQ ≡ suc (suc (suc (suc (suc (suc (suc (suc (suc (suc (suc (t - ANY)))))))))))
past t n = omega (arith, n)

module _ (a : List ℕ) (t v w : ℕ) (g : Given) where
  abbrev Gives₂ : Type 0
  Gives₂ = out_of g ≡ two_give t a v w

  abbrev any₂ : NOut
  any₂ = n_bin bany v w (W.value_in partial [] a v) (W.value_in partial [] a w)

  place_two : (j : ℕ) → t - EQ ≡ j → out_of g ≡ get_or (two_gives a v w) j any₂ → Gives₂
  unfolding two_give
  place_two j e h = rw e h

  pub gives_eq : t ≤ EQ → out_of g ≡ truly (eqb v w) → Gives₂
  gives_eq h q = place_two 0 (omega arith) q

  arith_at : (j : ℕ) → j < 5 → t ≡ LT + j → out_of g ≡ arith_out t (value_in a v) (value_in a w) → out_of g ≡ get_or (two_gives a v w) (suc j) any₂
  unfolding arith_out longs_out value_in values
  arith_at zero h e q = rw e at q
  arith_at (suc zero) h e q = rw e at q
  arith_at (suc (suc zero)) h e q = rw e at q
  arith_at (suc (suc (suc zero))) h e q = rw e at q
  arith_at (suc (suc (suc (suc zero)))) h e q = rw e at q
  arith_at (suc (suc (suc (suc (suc j))))) h e q = absurd (omega (arith, h))

  pub gives_arith : EQ < t → t ≤ MUL → out_of g ≡ arith_out t (value_in a v) (value_in a w) → Gives₂
  gives_arith h k q = place_two (suc (t - LT)) (omega arith) (arith_at (t - LT) (omega arith) (omega arith) q)

  pub gives_in : t ≡ IN → out_of g ≡ in_out false a v w → Gives₂
  unfolding in_out value_in values
  gives_in h q = place_two 6 (omega arith) q

  pub gives_gettag : t ≡ GETTAG → out_of g ≡ gettag_out false a v w → Gives₂
  unfolding gettag_out value_in values
  gives_gettag h q = place_two 7 (omega arith) q

  pub gives_hastag : t ≡ HASTAG → out_of g ≡ hastag_out false a v w → Gives₂
  unfolding hastag_out value_in values
  gives_hastag h q = place_two 8 (omega arith) q

  pub gives_contains : t ≡ CONTAINS → out_of g ≡ contains_out w (value_in a v) → Gives₂
  unfolding contains_out value_in values
  gives_contains h q = place_two 9 (omega arith) q

  pub gives_all : t ≡ ALL → out_of g ≡ all_out (value_in a v) (value_in a w) → Gives₂
  unfolding all_out value_in values
  gives_all h q = place_two 10 (omega arith) q

  pub gives_any : MUL < t → (t ≡ IN → ⊥) → (t ≡ GETTAG → ⊥) → (t ≡ HASTAG → ⊥) → (t ≡ CONTAINS → ⊥) → (t ≡ ALL → ⊥) → out_of g ≡ any_out (value_in a v) (value_in a w) → Gives₂
  unfolding any_out value_in values
  gives_any h i j k l m q =
      let n : ANY ≤ t = above t (t - IN) (omega (arith, h)) (λ e. i (omega (arith, e))) (λ e. j (omega (arith, e))) (λ e. k (omega (arith, e))) (λ e. l (omega (arith, e))) (λ e. m (omega (arith, e))) in
      place_two (suc (suc (suc (suc (suc (suc (suc (suc (suc (suc (suc (t - ANY)))))))))))) (past t n) q

module _ (a : List ℕ) (t y z : ℕ) (q : P.Option Bool) where
  pub rules_eq : t ≤ EQ → rule_in q ≡ bin_rule (schema_at a) beq (ty_at a y) (ty_at a z) → rule_in q ≡ two_rule t a y z
  unfolding two_rule
  rules_eq h e = let j : t - EQ ≡ 0 = omega arith in rw j e

  pub rules_in : t ≡ IN → rule_in q ≡ rel_rule (schema_at a) rin (ty_at a y) (ty_at a z) → rule_in q ≡ two_rule t a y z
  unfolding two_rule
  rules_in h e = let j : t - EQ ≡ 6 = omega arith in rw j e

  pub rules_hastag : t ≡ HASTAG → rule_in q ≡ rel_rule (schema_at a) rhastag (ty_at a y) tstr → rule_in q ≡ two_rule t a y z
  unfolding two_rule
  rules_hastag h e = let j : t - EQ ≡ 8 = omega arith in rw j e

no_rule_two : (j : ℕ) (p q r : Option Bool) → (j ≡ 0 → ⊥) → (j ≡ 6 → ⊥) → (j ≡ 8 → ⊥) → get_or (p ∷ none ∷ none ∷ none ∷ none ∷ none ∷ q ∷ none ∷ r ∷ []) j none ≡ none
no_rule_two zero p q r h k l = absurd (h refl)
no_rule_two (suc zero) p q r h k l = refl
no_rule_two (suc (suc zero)) p q r h k l = refl
no_rule_two (suc (suc (suc zero))) p q r h k l = refl
no_rule_two (suc (suc (suc (suc zero)))) p q r h k l = refl
no_rule_two (suc (suc (suc (suc (suc zero))))) p q r h k l = refl
no_rule_two (suc (suc (suc (suc (suc (suc zero)))))) p q r h k l = absurd (k refl)
no_rule_two (suc (suc (suc (suc (suc (suc (suc zero))))))) p q r h k l = refl
no_rule_two (suc (suc (suc (suc (suc (suc (suc (suc zero)))))))) p q r h k l = absurd (l refl)
no_rule_two (suc (suc (suc (suc (suc (suc (suc (suc (suc j))))))))) p q r h k l = refl

pub rules_silent : (a : List ℕ) (t y z : ℕ) → EQ < t → (t ≡ IN → ⊥) → (t ≡ HASTAG → ⊥) → rule_in None ≡ two_rule t a y z
unfolding two_rule
rules_silent a t y z h k l =
    sym (no_rule_two (t - EQ) (bin_rule (schema_at a) beq (ty_at a y) (ty_at a z)) (rel_rule (schema_at a) rin (ty_at a y) (ty_at a z)) (rel_rule (schema_at a) rhastag (ty_at a y) (ty_at a z))
    (λ e. omega (arith, e, h)) (λ e. k (omega (arith, e))) (λ e. l (omega (arith, e))))
