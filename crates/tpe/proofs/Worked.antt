-- Operations whose operands are worked: the laws of `one` and `two`. Assumes nothing.
use mathlib.Core.Path.{◌≡◌, refl, sym, ap, ◌∙◌}
use mathlib.Core.Bool.{Bool, true, false, ◌||◌}
use mathlib.Core.Option.{Option, none, some}
use mathlib.Core.List.{List, [], ◌∷◌}
use Prim.Native.Nat.{ℕ, zero, suc, ◌+◌, ◌-◌, ◌≤◌}
use native.Mathlib.Nat.{le_refl}
use native.Mathlib.Omega.{arith}
use lib.ListN.{get_or, take, drop, length}
use Rattle.cedar.specs.Residual.{uis, uempty, beq, bany, rin, rhastag}
use Rattle.cedar.specs.TypeRules.{un_rule, bin_rule, rel_rule, has_rule}
use Rattle.cedar.specs.Numbered.{NOut, stays, n_un, n_bin}
use Rattle.forms.specs.Tags.{EQ, IS, HASPATH}
use Rattle.sheet.specs.Forms.{partial, items, at, NODE}
use Rattle.words.specs.Log.{Room}
use Rattle.words.proofs.Logs.{log_length}
use Rattle.table.specs.Layout.{rows_of}
use Rattle.sheet.specs.Content.{rows_in}
use Rattle.value.specs.Lines.{value_lines}
use Rattle.residual.specs.Rows.{word_at, stage_at}
use Rattle.residual.specs.Errs.{errs}
use Rattle.residual.specs.declared.Stage.{Stage}
use Rattle.residual.specs.declared.Stage.TheVariants.{Value, Error, Open}
use Rattle.rules.specs.Rules.{rule_in, schema_at, ty_at}
use Rattle.std.specs.Prelude as P
use Rattle.std.specs.Prelude.{Some, None}
use Rattle.rules.proofs.Same.{un_same, bin_same, rel_same, has_same, has_kind_same}
use Rattle.strict.specs.Gives.{out_of}
use Rattle.strict.specs.declared.Given.{Given}
use Rattle.strict.specs.declared.Given.TheVariants.{Bool as Boolᵍ, Fails, Stays}
use Rattle.tpe.specs.Run.{left, left_of, settle_of, ruled_of, worked1, worked2, one_of, two_of, schema_in, ty_in, env_in, value_in, un_of, bin_of, rel_of, get_of, has_of, Walk, lost, says, stuck, walk_from, unmoved_of, stuck_of, walked_of, path_by, path_of, give_of}
use Rattle.tpe.specs.Leaves.{Leaves}
use Rattle.tpe.specs.Steps.{one_steps, one_at, two_steps, two_at}
use Rattle.tpe.specs.Gives.{one_gives, one_give, one_rule, two_gives, two_give, two_rule, unless_err, out_one, out_two, pair_out, Tells, rule_or}
use Rattle.tpe.specs.declared.steps.Pair.{Pair}
use Rattle.tpe.specs.declared.steps.Pair.TheVariants.{Values, Error as Errorᵖ, Open as Openᵖ}
use Rattle.tpe.proofs.Slices.{word_log, stage_log, errs_log}

-- what a rule of the code says
abbrev pub Ruled : Type 0
Ruled = P.Option Bool

-- ---- by the operand alone

pub node_type : (a : List ℕ) (n y : ℕ) (r : List ℕ) → r ≡ get_or (rows_of a NODE) n [] → y ≡ get_or r 1 0 → y ≡ at (get_or (rows_of a NODE) n []) 0
node_type a n y r er ey = ey ∙ ap (λ (l : List ℕ). get_or l 1 0) er

module _ (sheet a b : List ℕ) (bt n t : ℕ) (s : Stage) (es : s ≡ stage_at b bt) where
  abbrev Out₁ : Given → Type 0
  Out₁ g = out_of g ≡ out_one (one_give sheet t a (get_or (rows_of a NODE) n [])) (stage_at b bt)

  pub one_value : (v : ℕ) (g : Given) → s ≡ Value v → out_of g ≡ one_give sheet t a (get_or (rows_of a NODE) n []) v → Out₁ g
  one_value v g q e = rw (← es, q) e

  pub one_error : s ≡ Error → Out₁ Fails
  one_error q = rw (← es, q)

  pub one_open : s ≡ Open → Out₁ Stays
  one_open q = rw (← es, q)

-- ---- a rule, where no operand can err

-- q is the rule k, and o what the operation gives
module _ (q : Ruled) (k : Option Bool) (o : NOut) (eq : rule_in q ≡ k) where
  pub rule_silent : (g : Given) → q ≡ None → out_of g ≡ o → out_of g ≡ rule_or k o
  rule_silent g h e = rw (← eq, h) e

  pub rule_says : (x : Bool) → q ≡ Some x → out_of (Boolᵍ x) ≡ rule_or k o
  rule_says x h = rw (← eq, h)

-- a rule over what settles is what settles
pub ruled_settles : (a l : List ℕ) (start n y : ℕ) (k : Bool) (q : Option Bool) (o : NOut) → ruled_of a l start y k q (settle_of a l start n y o) ≡ settle_of a l start n y (rule_or (unless_err k q) o)
unfolding ruled_of settle_of give_of
ruled_settles a l start n y true q o = refl
ruled_settles a l start n y false none o = refl
ruled_settles a l start n y false (some b) o = refl

-- ---- `one`

module _ (sheet a l : List ℕ) (start n : ℕ) (r : List ℕ) where
  abbrev last : ℕ
  last = word_at l (length l) 3

  one_at_law : (j : ℕ) → (j ≡ 4 → ⊥) → get_or (one_steps partial sheet) j (un_of partial sheet uempty) start n r (left a l)
      ≡ one_of (get_or (un_rule (schema_at a) (uis (at r 2)) (ty_at a last) ∷ none ∷ none ∷ has_rule (schema_at a) (at r 2) (ty_at a last) ∷ []) j none)
      (λ v. get_or (one_gives sheet a r v) j (n_un (schema_in partial sheet a) uempty (value_in partial sheet a v))) a l start n (at r 0)
  unfolding un_of get_of has_of schema_in ty_in
  one_at_law zero h = ap (λ (q : Option Bool). one_of q (λ v. get_or (one_gives sheet a r v) 0 (n_un (schema_in partial sheet a) uempty (value_in partial sheet a v))) a l start n (at r 0)) (un_same sheet a (uis (at r 2)) last)
  one_at_law (suc zero) h = refl
  one_at_law (suc (suc zero)) h = refl
  one_at_law (suc (suc (suc zero))) h = ap (λ (q : Option Bool). one_of q (λ v. get_or (one_gives sheet a r v) 3 (n_un (schema_in partial sheet a) uempty (value_in partial sheet a v))) a l start n (at r 0)) (has_same sheet a (at r 2) last)
  one_at_law (suc (suc (suc (suc zero)))) h = absurd (h refl)
  one_at_law (suc (suc (suc (suc (suc zero))))) h = refl
  one_at_law (suc (suc (suc (suc (suc (suc zero)))))) h = refl
  one_at_law (suc (suc (suc (suc (suc (suc (suc zero))))))) h = refl
  one_at_law (suc (suc (suc (suc (suc (suc (suc (suc j)))))))) h = refl

  one_is : (t : ℕ) → (t ≡ HASPATH → ⊥) → one_at partial sheet t start n r (left a l) ≡ one_of (one_rule t a r last) (one_give sheet t a r) a l start n (at r 0)
  unfolding one_at one_rule one_give
  one_is t h = one_at_law (t - IS) (λ e. h (omega (arith, e)))

one_settles : (g : ℕ → NOut) (a l : List ℕ) (start n y : ℕ) (s : Stage) → worked1 g a l start n y s ≡ settle_of a l start n y (out_one g s)
unfolding worked1 settle_of
one_settles g a l start n y (Value v) = refl
one_settles g a l start n y Error = refl
one_settles g a l start n y Open = refl

-- a path asks no text's bytes
module _ (sheet a l : List ℕ) (start n : ℕ) (r : List ℕ) where
  unmoved_sheet : unmoved_of partial [] a l start n r ≡ unmoved_of partial sheet a l start n r
  unfolding unmoved_of schema_in ty_in
  unmoved_sheet = ap (λ (q : Option Bool). ruled_of a l start (at r 0) (errs (rows_of a NODE) l (length l)) q (left_of a l start n 0 (at r 0)))
      (has_same [] a (at r 2) (word_at l (length l) 3) ∙ sym (has_same sheet a (at r 2) (word_at l (length l) 3)))

  walked_sheet : (w : Walk) → walked_of partial [] a l start n r w ≡ walked_of partial sheet a l start n r w
  unfolding walked_of stuck_of schema_in
  walked_sheet lost = refl
  walked_sheet (says b) = refl
  walked_sheet (stuck zero v i) = unmoved_sheet
  walked_sheet (stuck (suc j) v i) = ap (stuck_of partial [] a (take start l) n r (suc j) v i) (has_kind_same [] a (at r (2 + suc j)) i ∙ sym (has_kind_same sheet a (at r (2 + suc j)) i))

  path_by_law : (s : Stage) → path_by partial [] a l start n r s ≡ path_by partial sheet a l start n r s
  unfolding path_by env_in
  path_by_law (Value v) = walked_sheet (walk_from (env_in partial [] a) (rows_in (value_lines a)) (drop 3 (items r)) (at r 2) v 0)
  path_by_law Error = refl
  path_by_law Open = unmoved_sheet

  path_sheet : path_of partial [] start n r (left a l) ≡ path_of partial sheet start n r (left a l)
  unfolding path_of
  path_sheet = path_by_law (stage_at l (length l))

module _ (sheet a b a' b' : List ℕ) (start bt n t e : ℕ) (room : Room b bt) (le : start ≤ bt) where
  abbrev One : Type 0
  One = Leaves start a' b' e (one_at partial sheet t start n (get_or (rows_of a NODE) n []) (left a (take bt b)))

  pub one_path : t ≡ HASPATH → Leaves start a' b' e (path_of partial [] start n (get_or (rows_of a NODE) n []) (left a (take bt b))) → One
  unfolding one_at
  one_path h z = rw (h, ← path_sheet sheet a (take bt b) start n (get_or (rows_of a NODE) n [])) z

  pub one_settled : (y : ℕ) (g : Given) → (t ≡ HASPATH → ⊥) → y ≡ at (get_or (rows_of a NODE) n []) 0
      → out_of g ≡ rule_or (unless_err (errs (rows_of a NODE) b bt) (one_rule t a (get_or (rows_of a NODE) n []) (word_at b bt 3))) (out_one (one_give sheet t a (get_or (rows_of a NODE) n [])) (stage_at b bt))
      → Leaves start a' b' e (settle_of a (take bt b) start n y (out_of g)) → One
  unfolding one_of
  one_settled y g h ey eg z =
      rw (
        one_is sheet a (take bt b) start n (get_or (rows_of a NODE) n []) t h,
        log_length b bt room,
        ← word_log b bt bt 3 (le_refl bt) (omega arith),
        ← errs_log b bt (rows_of a NODE) bt (le_refl bt),
        ← stage_log b bt bt (le_refl bt),
        ← ey,
        one_settles (one_give sheet t a (get_or (rows_of a NODE) n [])) a (take bt b) start n y (stage_at b bt),
        ruled_settles a (take bt b) start n y (errs (rows_of a NODE) b bt) (one_rule t a (get_or (rows_of a NODE) n []) (word_at b bt 3)) (out_one (one_give sheet t a (get_or (rows_of a NODE) n [])) (stage_at b bt)),
        ← eg,
      ) z

pub rule_one : (a b : List ℕ) (bt n t w : ℕ) (p q : Ruled) → w ≡ word_at b bt 3 → rule_in p ≡ one_rule t a (get_or (rows_of a NODE) n []) w → rule_in q ≡ unless_err (errs (rows_of a NODE) b bt) (rule_in p)
    → rule_in q ≡ unless_err (errs (rows_of a NODE) b bt) (one_rule t a (get_or (rows_of a NODE) n []) (word_at b bt 3))
rule_one a b bt n t w p q ew ep eq = rw (← ew, ← ep) eq

-- ---- `two`

pub tells : (p : Pair) (s u : Stage) → ((g : ℕ → ℕ → NOut) → pair_out g p ≡ out_two g s u) → Tells p s u
tells p s u h = record { is = h }

module _ (a b : List ℕ) (mid bt t : ℕ) (p : Pair) (ep : Tells p (stage_at b mid) (stage_at b bt)) where
  abbrev Out₂ : Given → Type 0
  Out₂ g = out_of g ≡ out_two (two_give t a) (stage_at b mid) (stage_at b bt)

  pub two_values : (v w : ℕ) (g : Given) → p ≡ Values v w → out_of g ≡ two_give t a v w → Out₂ g
  two_values v w g q e = e ∙ sym (ap (pair_out (two_give t a)) q) ∙ ep.is (two_give t a)

  pub two_error : p ≡ Errorᵖ → Out₂ Fails
  two_error q = sym (ap (pair_out (two_give t a)) q) ∙ ep.is (two_give t a)

  pub two_open : p ≡ Openᵖ → Out₂ Stays
  two_open q = sym (ap (pair_out (two_give t a)) q) ∙ ep.is (two_give t a)

-- by how far both are worked
two_settles : (g : ℕ → ℕ → NOut) (a l : List ℕ) (start n y : ℕ) (s u : Stage) → worked2 g a l start n y s u ≡ settle_of a l start n y (out_two g s u)
unfolding worked2 settle_of
two_settles g a l start n y (Value v) (Value w) = refl
two_settles g a l start n y (Value v) Error = refl
two_settles g a l start n y (Value v) Open = refl
two_settles g a l start n y Error s = refl
two_settles g a l start n y Open (Value w) = refl
two_settles g a l start n y Open Error = refl
two_settles g a l start n y Open Open = refl

module _ (sheet a l : List ℕ) (start mid n : ℕ) (r : List ℕ) where
  abbrev types₂ : ℕ → Option Bool
  types₂ j =
      get_or (bin_rule (schema_at a) beq (ty_at a (word_at l mid 3)) (ty_at a (word_at l (length l) 3)) ∷ none ∷ none ∷ none ∷ none ∷ none
      ∷ rel_rule (schema_at a) rin (ty_at a (word_at l mid 3)) (ty_at a (word_at l (length l) 3)) ∷ none ∷ rel_rule (schema_at a) rhastag (ty_at a (word_at l mid 3)) (ty_at a (word_at l (length l) 3)) ∷ []) j none

  abbrev gives₂ : ℕ → ℕ → ℕ → NOut
  gives₂ j v w = get_or (two_gives a v w) j (n_bin bany v w (value_in partial [] a v) (value_in partial [] a w))

  two_at_law : (j : ℕ) → get_or (two_steps partial sheet) j (bin_of partial sheet bany) start mid n r (left a l) ≡ two_of (types₂ j) (gives₂ j) a l start mid n (at r 0)
  unfolding bin_of rel_of schema_in ty_in env_in
  two_at_law zero = ap (λ (q : Option Bool). two_of q (gives₂ 0) a l start mid n (at r 0)) (bin_same sheet a beq (word_at l mid 3) (word_at l (length l) 3))
  two_at_law (suc zero) = refl
  two_at_law (suc (suc zero)) = refl
  two_at_law (suc (suc (suc zero))) = refl
  two_at_law (suc (suc (suc (suc zero)))) = refl
  two_at_law (suc (suc (suc (suc (suc zero))))) = refl
  two_at_law (suc (suc (suc (suc (suc (suc zero)))))) = ap (λ (q : Option Bool). two_of q (gives₂ 6) a l start mid n (at r 0)) (rel_same sheet a rin (word_at l mid 3) (word_at l (length l) 3))
  two_at_law (suc (suc (suc (suc (suc (suc (suc zero))))))) = refl
  two_at_law (suc (suc (suc (suc (suc (suc (suc (suc zero)))))))) = ap (λ (q : Option Bool). two_of q (gives₂ 8) a l start mid n (at r 0)) (rel_same sheet a rhastag (word_at l mid 3) (word_at l (length l) 3))
  two_at_law (suc (suc (suc (suc (suc (suc (suc (suc (suc zero))))))))) = refl
  two_at_law (suc (suc (suc (suc (suc (suc (suc (suc (suc (suc zero)))))))))) = refl
  two_at_law (suc (suc (suc (suc (suc (suc (suc (suc (suc (suc (suc zero))))))))))) = refl
  two_at_law (suc (suc (suc (suc (suc (suc (suc (suc (suc (suc (suc (suc j)))))))))))) = refl

  two_is : (t : ℕ) → two_at partial sheet t start mid n r (left a l) ≡ two_of (two_rule t a (word_at l mid 3) (word_at l (length l) 3)) (two_give t a) a l start mid n (at r 0)
  unfolding two_at two_rule two_give
  two_is t = two_at_law (t - EQ)

-- two operands ask no text's bytes
pub two_sheet : (sheet a l : List ℕ) (start mid n : ℕ) (r : List ℕ) (t : ℕ) → two_at partial [] t start mid n r (left a l) ≡ two_at partial sheet t start mid n r (left a l)
two_sheet sheet a l start mid n r t = two_is [] a l start mid n r t ∙ sym (two_is sheet a l start mid n r t)

unless_both : (j k : Bool) (o : Option Bool) → unless_err j (unless_err k o) ≡ unless_err (j || k) o
unless_both true k o = refl
unless_both false k o = refl

module _ (a b a' b' : List ℕ) (start mid bt n t e : ℕ) (room : Room b bt) (order : (start ≤ mid) × (mid ≤ bt)) where
  abbrev err : Bool
  err = errs (rows_of a NODE) b mid || errs (rows_of a NODE) b bt

  pub two_settled : (y : ℕ) (g : Given) → y ≡ at (get_or (rows_of a NODE) n []) 0
      → out_of g ≡ rule_or (unless_err (errs (rows_of a NODE) b mid || errs (rows_of a NODE) b bt) (two_rule t a (word_at b mid 3) (word_at b bt 3))) (out_two (two_give t a) (stage_at b mid) (stage_at b bt))
      → Leaves start a' b' e (settle_of a (take bt b) start n y (out_of g)) → Leaves start a' b' e (two_at partial [] t start mid n (get_or (rows_of a NODE) n []) (left a (take bt b)))
  unfolding two_of
  two_settled y g ey eg z =
      rw (
        two_is [] a (take bt b) start mid n (get_or (rows_of a NODE) n []) t,
        log_length b bt room,
        ← word_log b bt mid 3 order.1 (omega arith),
        ← word_log b bt bt 3 (le_refl bt) (omega arith),
        ← errs_log b bt (rows_of a NODE) mid order.1,
        ← errs_log b bt (rows_of a NODE) bt (le_refl bt),
        ← stage_log b bt mid order.1,
        ← stage_log b bt bt (le_refl bt),
        ← ey,
        two_settles (two_give t a) a (take bt b) start n y (stage_at b mid) (stage_at b bt),
        ruled_settles a (take bt b) start n y err (two_rule t a (word_at b mid 3) (word_at b bt 3)) (out_two (two_give t a) (stage_at b mid) (stage_at b bt)),
        ← eg,
      ) z

pub rule_two : (a b : List ℕ) (mid bt t u w : ℕ) (p o q : Ruled) → u ≡ word_at b mid 3 → w ≡ word_at b bt 3 → rule_in p ≡ two_rule t a u w → rule_in o ≡ unless_err (errs (rows_of a NODE) b bt) (rule_in p)
    → rule_in q ≡ unless_err (errs (rows_of a NODE) b mid) (rule_in o) → rule_in q ≡ unless_err (errs (rows_of a NODE) b mid || errs (rows_of a NODE) b bt) (two_rule t a (word_at b mid 3) (word_at b bt 3))
rule_two a b mid bt t u w p o q eu ew ep eo eq = rw (← eu, ← ew, ← ep) (eq ∙ rw eo (unless_both (errs (rows_of a NODE) b mid) (errs (rows_of a NODE) b bt) (rule_in p)))
