-- The laws of the functions that look at one value or at the request. Assumes nothing.
use mathlib.Core.Path.{◌≡◌, refl, sym, ap, subst, ◌∙◌}
use mathlib.Core.Bool.{Bool, cond}
use mathlib.Core.Option.{none, some}
use mathlib.Core.List.{List, [], ◌∷◌}
use Prim.Native.Nat.{ℕ}
use native.Mathlib.Omega.{arith}
use borrow.Author.Tests.{eq-eqb, ne_eqb}
use lib.Dec.{eqb}
use lib.ListN.{get_or}
use types.Run.{OneOf}
use denote.Enum.Declared.{tag_of}
use Rattle.std.specs.Prelude.{◌⊎◌, Option, Some, None, Ok, Err}
use Rattle.std.specs.Result.{IsErr, result_ok}
use Rattle.std.proofs.Common.{inl, inr}
use Rattle.value.specs.contracts.Shape.{the_type}
use Rattle.cedar.specs.Types.{Var, principal, action, resource, context}
use Rattle.cedar.specs.Residual.{Class, cerror}
use Rattle.cedar.specs.Rows.{Row, rbool, rlong, rtext, rent, rset, rrec}
use Rattle.cedar.specs.Numbered.{made, old, row_at, r_bool, NOut}
use Rattle.sheet.specs.Forms.{items, mark, PRINCIPAL, ACTION, RESOURCE, CONTEXT}
use Rattle.forms.specs.Tags.{PART_P, PART_A, PART_R}
use Rattle.sheet.specs.Content.{var_of, entity_given, given, n_env}
use Rattle.table.specs.Layout.{rows_of, held, lines_held}
use Rattle.value.specs.Lines.{value_lines}
use Rattle.value.specs.Made.{bool_row, long_row, entity_row, Made}
use Rattle.value.specs.Shapes.{shape_of}
use Rattle.value.specs.declared.Shape.{Shape}
use Rattle.value.specs.declared.Shape.TheVariants.{Bool as Boolˢ}
use Rattle.residual.specs.declared.Stage.TheVariants.{Value}
use Rattle.strict.specs.Gives.{out_of}
use Rattle.lookup.specs.Lookups.{value_in}
use Rattle.lookup.specs.Lookups as S
use Rattle.strict.specs.declared.Given.{Given}
use Rattle.strict.specs.declared.Given.TheVariants.{Bool as Boolᵍ, Long, Old, Fails, Stays}
use Rattle.lookup.proofs.Shapes.{value_shape, other_bool}
use Rattle.tpe.specs.Run.{env_in, class_by}
use Rattle.tpe.proofs.Settling.{long_words, var_last}
use Rattle.evaluator.specs.Run.{Yield, failed, yields, values, made_of, give_of, settle_of, opt_of, on_yield, next, bool_only, env_of, class_of}
use Rattle.evaluator.specs.declared.EvalError.{EvalError}
use Rattle.evaluator.specs.Gave.{Gave, truth_of, as_bool, yield_bool}

module _ (a : List ℕ) (v : ℕ) (q : List ℕ) (s : Shape) (eq : q ≡ get_or (value_lines a) v []) (es : s ≡ shape_of q) where
  pub truth_is : (b : Bool) → s ≡ Boolˢ b → truth_of (Some b) ≡ as_bool (value_in a v)
  unfolding as_bool
  truth_is b e = rw (value_shape a v q s eq es, e)

  pub truth_other : OneOf (1 ∷ 2 ∷ 3 ∷ 4 ∷ 5 ∷ []) (tag_of the_type s) → truth_of None ≡ as_bool (value_in a v)
  unfolding as_bool
  truth_other h = rw (value_shape a v q s eq es) (sym (other_bool none (items q) s some h))

module _ (a is : List ℕ) (g : Given) where
  pub settle_bool : (b : Bool) (n : ℕ) → g ≡ Boolᵍ b → Made a (bool_row b) is n → Gave (settle_of a (out_of g)) is (Ok n)
  unfolding settle_of give_of made_of
  settle_bool b n e m = rw e (record { words = m.words; yield = ap Ok m.number })

  pub settle_long : (w n : ℕ) → g ≡ Long w → Made a (long_row w) is n → Gave (settle_of a (out_of g)) is (Ok n)
  unfolding settle_of give_of made_of
  settle_long w n e m = rw (e, long_words w) (record { words = m.words; yield = ap Ok m.number })

module _ (a : List ℕ) (g : Given) where
  pub settle_old : (v : ℕ) → g ≡ Old v → Gave (settle_of a (out_of g)) a (Ok v)
  unfolding settle_of give_of
  settle_old v e = rw e (record { words = refl; yield = refl })

  pub settle_fails : (g ≡ Fails) ⊎ (g ≡ Stays) → Gave (settle_of a (out_of g)) a failed
  unfolding settle_of
  settle_fails h = elim h [ inl e ↦ rw e (record { words = refl; yield = refl }) | inr e ↦ rw e (record { words = refl; yield = refl }) ]

-- ---- a bool or not

module _ {A : Type 0} (d : A) (f : Bool → A) where
  pub on_is : (r : Row) (x : Bool) → as_bool r ≡ some x → r_bool d r f ≡ f x
  unfolding as_bool
  on_is (rbool b) x e = let z : b ≡ x = cc in ap f z
  on_is (rlong n) x e = let z : ◌≡◌ {A = ℕ} 0 1 = cc in absurd (omega arith)
  on_is (rtext t) x e = let z : ◌≡◌ {A = ℕ} 0 1 = cc in absurd (omega arith)
  on_is (rent k t) x e = let z : ◌≡◌ {A = ℕ} 0 1 = cc in absurd (omega arith)
  on_is (rset l) x e = let z : ◌≡◌ {A = ℕ} 0 1 = cc in absurd (omega arith)
  on_is (rrec g) x e = let z : ◌≡◌ {A = ℕ} 0 1 = cc in absurd (omega arith)

  pub on_other : (r : Row) → as_bool r ≡ none → r_bool d r f ≡ d
  unfolding as_bool
  on_other (rbool b) e = let z : ◌≡◌ {A = ℕ} 0 1 = cc in absurd (omega arith)
  on_other (rlong n) e = refl
  on_other (rtext t) e = refl
  on_other (rent k t) e = refl
  on_other (rset l) e = refl
  on_other (rrec g) e = refl

-- there is one error
pub is_failed : (y : Yield) → IsErr y → y ≡ failed
is_failed (Ok v) h = cc
is_failed (Err f) h = refl

module _ (a : List ℕ) (y : Yield) where
  pub truth_error : (o : Option ℕ) (t : Option Bool) → o ≡ result_ok y → o ≡ None → t ≡ None → truth_of t ≡ yield_bool a y
  unfolding yield_bool
  truth_error o t e n k = ap truth_of k ∙ go y (sym e ∙ n)
    where
      go : (y : Yield) → result_ok y ≡ None → none ≡ yield_bool a y
      go (Ok v) h = cc
      go (Err f) h = refl

  pub truth_value : (o : Option ℕ) (v : ℕ) (t : Option Bool) → o ≡ result_ok y → o ≡ Some v → truth_of t ≡ as_bool (value_in a v) → truth_of t ≡ yield_bool a y
  unfolding yield_bool value_in S.values
  truth_value o v t e k h = go y (sym e ∙ k)
    where
      go : (y : Yield) → result_ok y ≡ Some v → truth_of t ≡ yield_bool a y
      go (Ok w) z = let u : w ≡ v = cc in h ∙ ap (λ (x : ℕ). yield_bool a (Ok x)) (sym u)
      go (Err f) z = cc

  pub only_error : (f : EvalError) → y ≡ Err f → (r : Yield) → IsErr r → Gave (bool_only (yields a y)) a r
  unfolding bool_only next on_yield
  only_error f e r z = rw e (record { words = refl; yield = is_failed r z })

  pub class_error : (f : EvalError) → y ≡ Err f → cerror ≡ class_of a y
  unfolding class_of
  class_error f e = rw e

  pub class_value : (v : ℕ) → y ≡ Ok v → (t : Class) → t ≡ class_by a (Value v) → t ≡ class_of a y
  unfolding class_of class_by
  class_value v e t h = h ∙ ap (class_of a) (sym e)

  module _ (v : ℕ) (e : y ≡ Ok v) (t : Option Bool) (et : truth_of t ≡ as_bool (value_in a v)) where
    abbrev the : Row
    the = row_at (values a) v

    says : as_bool the ≡ truth_of t
    unfolding value_in S.values
    says = sym et

    pub only_is : (x : Bool) → t ≡ Some x → Gave (bool_only (yields a y)) a (Ok v)
    unfolding bool_only next on_yield
    only_is x h = rw (e, on_is (yields a failed) (λ b. yields a (Ok v)) the x (says ∙ ap truth_of h)) (record { words = refl; yield = refl })

    pub only_other : t ≡ None → Gave (bool_only (yields a y)) a failed
    unfolding bool_only next on_yield
    only_other h = rw (e, on_other (yields a failed) (λ b. yields a (Ok v)) the (says ∙ ap truth_of h)) (record { words = refl; yield = refl })

-- ---- the request

module _ (a : List ℕ) (k : ℕ) (r : List ℕ) (er : r ≡ get_or (rows_of a k) 0 []) (t : ℕ) (et : t ≡ get_or r 2 0) where
  the_line : entity_given (get_or (rows_of a k) 0 []) ≡ cond (eqb t mark) none (some (made (rent (get_or r 1 0) t)))
  the_line = ap entity_given (sym er) ∙ rw (← et)

  pub entity_unknown : t ≡ mark → Gave (opt_of a (entity_given (get_or (rows_of a k) 0 []))) a failed
  unfolding opt_of
  entity_unknown e = rw (the_line, eq-eqb t mark e) (record { words = refl; yield = refl })

  pub entity_made : (is : List ℕ) (kind v : ℕ) → (t ≡ mark → ⊥) → kind ≡ get_or r 1 0 → Made a (entity_row kind t) is v → Gave (opt_of a (entity_given (get_or (rows_of a k) 0 []))) is (Ok v)
  unfolding opt_of give_of made_of
  entity_made is kind v n ek m = rw (the_line, ne_eqb t mark n, ← ek) (record { words = m.words; yield = ap Ok m.number })

module _ (a : List ℕ) (x : ℕ) where
  asked : (u : Var) → var_of x ≡ u → (env_of a).request (var_of x) ≡ given (held [] a []) u
  unfolding env_in n_env
  asked u e = ap (given (held [] a [])) e

  module _ (is : List ℕ) (y : Yield) where
    pub ask_principal : x ≡ PART_P → Gave (opt_of a (entity_given (get_or (rows_of a PRINCIPAL) 0 []))) is y → Gave (opt_of a ((env_of a).request (var_of x))) is y
    unfolding held lines_held
    ask_principal e g = rw (asked principal (ap var_of e)) g

    pub ask_action : x ≡ PART_A → Gave (opt_of a (entity_given (get_or (rows_of a ACTION) 0 []))) is y → Gave (opt_of a ((env_of a).request (var_of x))) is y
    unfolding held lines_held
    ask_action e g = rw (asked action (ap var_of e)) g

    pub ask_resource : x ≡ PART_R → Gave (opt_of a (entity_given (get_or (rows_of a RESOURCE) 0 []))) is y → Gave (opt_of a ((env_of a).request (var_of x))) is y
    unfolding held lines_held
    ask_resource e g = rw (asked resource (ap var_of e)) g

  module _ (p : x ≡ PART_P → ⊥) (q : x ≡ PART_A → ⊥) (s : x ≡ PART_R → ⊥) (r : List ℕ) (er : r ≡ get_or (rows_of a CONTEXT) 0 []) (v : ℕ) (ev : v ≡ get_or r 2 0) where
    the_context : (env_of a).request (var_of x) ≡ cond (eqb v mark) none (some (old v))
    unfolding held lines_held
    the_context = asked context (var_last x p q s) ∙ ap (λ (n : ℕ). cond (eqb n mark) none (some (old n))) (sym (ev ∙ ap (λ (l : List ℕ). get_or l 2 0) er))

    pub ask_unknown : v ≡ mark → Gave (opt_of a ((env_of a).request (var_of x))) a failed
    unfolding opt_of
    ask_unknown e = rw (the_context, eq-eqb v mark e) (record { words = refl; yield = refl })

    pub ask_context : (v ≡ mark → ⊥) → Gave (opt_of a ((env_of a).request (var_of x))) a (Ok v)
    unfolding opt_of give_of
    ask_context n = rw (the_context, ne_eqb v mark n) (record { words = refl; yield = refl })
