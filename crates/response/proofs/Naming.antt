-- The walk over the policies for the one that an answer names, and the line of its name. Assumes nothing.
use mathlib.Core.Path.{◌≡◌, refl, sym, ap, ap₂, ◌∙◌}
use mathlib.Core.Bool.{Bool, true, false, cond, ◌&&◌}
use mathlib.Core.Option.{none, some}
use Rattle.std.specs.Prelude.{Option, Some, None}
use Rattle.cedar.specs.Residual.{Class}
use mathlib.Core.List.{List, [], ◌∷◌}
use Prim.Native.Nat.{ℕ, ◌+◌, ◌≤◌, ◌<◌}
use native.Mathlib.Omega.{arith}
use borrow.Author.Tests.{lt-ltb, le-ltb}
use lib.Dec.{eqb}
use lib.ListN.{length, get_or, drop}
use Rattle.cedar.specs.Response.{Effect, is_permit, is_forbid, is_true, Verdict, Decision, decision}
use Rattle.sheet.specs.Bytes.{digits}
use Rattle.sheet.specs.Forms.{at}
use Rattle.sheet.specs.Sheet.{firsts}
use Rattle.sheet.specs.Answer.{printed}
use Rattle.sheet.specs.Why.{true_ones, reasons_for, first_name, why_item}
use Rattle.forms.specs.Tags.{PERMIT, FORBID}
use Rattle.table.specs.Layout.{RUN, rows_of}
use Rattle.table.proofs.Rows.{count_rows}
use Rattle.value.proofs.Lists.{uncons, spent}
use Rattle.print.specs.declared.Out.{Out}
use Rattle.print.specs.Out.{Prints}
use Rattle.print.proofs.Outs.{prints_as, prints_two}
use Rattle.response.specs.Verdicts.{class_in, effect_in, effect_number, effect_is, verdicts_in, decision_of}
use Rattle.response.specs.Naming.{name_at, name_of, ids_in, true_in, why_in}
use Rattle.response.specs.declared.Decision as D
use Rattle.response.proofs.Counting.{verdicts_from, verdicts_on, is_permit_law, is_forbid_law}

-- ---- one policy after the other

and-false : (b : Bool) → (b && false) ≡ false
and-false true = refl
and-false false = refl

-- those of an effect that are called true, from policy i on
abbrev pub true_from : List ℕ → List ℕ → ℕ → ℕ → List ℕ
true_from a cs e i = true_ones (effect_is e) (firsts (drop i (rows_of a RUN))) (verdicts_from a cs i)

-- none stands before place i of n, so what is left gives the whole
pub record Walked (a cs : List ℕ) (e n i : ℕ) : Type 0 where
  pub near : i ≤ n
  pub left : true_in a cs e ≡ true_from a cs e i

true_on : (a cs : List ℕ) (e i : ℕ) → i < length (rows_of a RUN)
    → true_from a cs e i ≡ cond (effect_is e (effect_in (get_or (rows_of a RUN) i [])) && is_true (class_in (get_or cs i 0))) (at (get_or (rows_of a RUN) i []) 0 ∷ true_from a cs e (i + 1)) (true_from a cs e (i + 1))
true_on a cs e i h = ap₂ (λ (rs : List (List ℕ)) (vs : List Verdict). true_ones (effect_is e) (firsts rs) vs) (uncons (rows_of a RUN) [] i h) (verdicts_on a cs i h)

named_here : (a : List ℕ) (i : ℕ) → i < get_or a RUN 0 → name_at a i ≡ some (at (get_or (rows_of a RUN) i []) 0)
unfolding name_at
named_here a i h = rw (lt-ltb i (get_or a RUN 0) h)

named_nobody : (a : List ℕ) (i : ℕ) → get_or a RUN 0 ≤ i → name_at a i ≡ none
unfolding name_at
named_nobody a i h = rw (le-ltb i (get_or a RUN 0) h)

pub walk_start : (a cs : List ℕ) (effect n : ℕ) → Walked a cs effect n 0
unfolding true_in ids_in verdicts_in
walk_start a cs effect n = record { near = omega arith; left = refl }

module _ (a cs : List ℕ) (effect n : ℕ) (en : n ≡ get_or a RUN 0) (i : ℕ) (w : Walked a cs effect n i) where
  many : n ≡ length (rows_of a RUN)
  many = en ∙ sym (count_rows a RUN)

  abbrev id : ℕ
  id = at (get_or (rows_of a RUN) i []) 0

  module _ (h : i < n) (e : Effect) (ee : e ≡ effect_in (get_or (rows_of a RUN) i [])) where
    stepped : (t b : Bool) → is_true (class_in (get_or cs i 0)) ≡ t → (eqb (effect_number e) effect && t) ≡ b → true_in a cs effect ≡ cond b (id ∷ true_from a cs effect (i + 1)) (true_from a cs effect (i + 1))
    stepped t b et q = w.left ∙ true_on a cs effect i (omega (arith, many)) ∙ rw (← ee, et, q)

    pub walk_other : eqb (effect_number e) effect ≡ false → Walked a cs effect n (i + 1)
    walk_other f = record { near = omega arith; left = stepped (is_true (class_in (get_or cs i 0))) false refl (rw f) }

    module _ (c : Class) (ec : c ≡ class_in (get_or cs i 0)) where
      pub walk_on : is_true c ≡ false → Walked a cs effect n (i + 1)
      walk_on f = record { near = omega arith; left = stepped false false (ap is_true (sym ec) ∙ f) (and-false (eqb (effect_number e) effect)) }

      pub walk_found : eqb (effect_number e) effect ≡ true → is_true c ≡ true → name_of a (Some i) ≡ first_name (true_in a cs effect)
      walk_found g f = named_here a i (omega (arith, en)) ∙ sym (ap first_name (stepped true true (ap is_true (sym ec) ∙ f) (rw g)))

  pub walk_end : n ≤ i → name_of a None ≡ first_name (true_in a cs effect)
  walk_end h =
      let z : true_in a cs effect ≡ [] = w.left ∙ ap (λ (rs : List (List ℕ)). true_ones (effect_is effect) (firsts rs) (verdicts_from a cs i)) (spent (rows_of a RUN) i (omega (arith, many))) in
      sym (ap first_name z)

-- ---- by the decision

true_same : (f g : Effect → Bool) → ((e : Effect) → f e ≡ g e) → (is : List ℕ) (ls : List Verdict) → true_ones f is ls ≡ true_ones g is ls
true_same f g p [] ls = refl
true_same f g p (i ∷ is) [] = refl
true_same f g p (i ∷ is) (l ∷ ls) = ap₂ (λ (b : Bool) (r : List ℕ). cond (b && is_true l.class) (i ∷ r) r) (p l.effect) (true_same f g p is ls)

module _ (a cs : List ℕ) (d : D.Decision) (ed : decision_of d ≡ decision (verdicts_in a cs)) (r : Option ℕ) where
  by_decision : (x : D.Decision) → d ≡ x → name_of a r ≡ first_name (reasons_for (decision_of x) (ids_in a) (verdicts_in a cs)) → name_of a r ≡ why_in a cs
  unfolding why_in
  by_decision x e n = n ∙ ap (λ (y : Decision). first_name (reasons_for y (ids_in a) (verdicts_in a cs))) (sym (ap decision_of e) ∙ ed)

  pub why_allow : d ≡ D.TheVariants.Allow → name_of a r ≡ first_name (true_in a cs PERMIT) → name_of a r ≡ why_in a cs
  unfolding true_in
  why_allow e n = by_decision D.TheVariants.Allow e (n ∙ ap first_name (true_same (effect_is PERMIT) is_permit is_permit_law (ids_in a) (verdicts_in a cs)))

  pub why_deny : d ≡ D.TheVariants.Deny → name_of a r ≡ first_name (true_in a cs FORBID) → name_of a r ≡ why_in a cs
  unfolding true_in
  why_deny e n = by_decision D.TheVariants.Deny e (n ∙ ap first_name (true_same (effect_is FORBID) is_forbid is_forbid_law (ids_in a) (verdicts_in a cs)))

  pub why_open : d ≡ D.TheVariants.Open → r ≡ None → name_of a r ≡ why_in a cs
  why_open e q = by_decision D.TheVariants.Open e (ap (name_of a) q)

-- ---- the line

module _ (a : List ℕ) (o : Option ℕ) where
  pub why_named : {b c d f : Out} (i n x : ℕ) (r : List ℕ) → n ≡ get_or a RUN 0 → o ≡ Some i → i < n → r ≡ get_or (rows_of a RUN) i [] → x ≡ get_or r 1 0 → Prints b (119 ∷ 104 ∷ 121 ∷ []) c → Prints c (61 ∷ digits x) d → Prints d (10 ∷ []) f
      → Prints b (printed "why" (why_item (name_of a o) ∷ [])) f
  why_named i n x r en e h er ex u v w =
      let z : x ≡ get_or (get_or (rows_of a RUN) i []) 1 0 = ex ∙ ap (λ (q : List ℕ). get_or q 1 0) er in
      prints_as (prints_two u (prints_two v w)) (rw (e, named_here a i (omega (arith, en)), z))

  pub why_none : {b c : Out} → o ≡ None → Prints b (119 ∷ 104 ∷ 121 ∷ 61 ∷ 110 ∷ 111 ∷ 110 ∷ 101 ∷ 10 ∷ []) c → Prints b (printed "why" (why_item (name_of a o) ∷ [])) c
  why_none e w = prints_as w (rw e)

  pub why_nobody : {b c : Out} (i n : ℕ) → n ≡ get_or a RUN 0 → o ≡ Some i → n ≤ i → Prints b (119 ∷ 104 ∷ 121 ∷ 61 ∷ 110 ∷ 111 ∷ 110 ∷ 101 ∷ 10 ∷ []) c → Prints b (printed "why" (why_item (name_of a o) ∷ [])) c
  why_nobody i n en e h w = prints_as w (rw (e, named_nobody a i (omega (arith, en))))
