-- The steps of operations that look at no entity keep type and result, with the type rules of is and eq.
use mathlib.Core.Path.{◌≡◌, refl, sym, ◌∙◌, ap}
use mathlib.Core.Bool.{Bool, true, false, not, ◌||◌}
use mathlib.Core.Option.{Option, none, some, some-injective}
use mathlib.Core.List.{List, [], ◌∷◌}
use Prim.Native.Nat.{ℕ}
use borrow.Author.Tests.{not-true}
use lib.Dec.{eqb}
use Rattle.cedar.proofs.Tools.{no_some, no_true, neither, no_kind_law, differ, only_kind}
use Rattle.cedar.proofs.CanonicalLaws.{other_kind}
use Rattle.cedar.specs.Value.{Value, Result, ok, fail, bind, ok_bool}
use Rattle.cedar.specs.Types.{Ty, tbool, tlong, tstr, tent, tset, trec, among, some_kind, Schema, fent}
use Rattle.cedar.specs.Residual.{Expr, un, bin, ty_of, can_err, Un, Bin, beq, view}
use Rattle.cedar.specs.Typing.{UnOk, not_ok, neg_ok, empty_ok, is_ok, like_ok, BinOk, eq_ok, eq_ent_ok, lt_ok, le_ok, add_ok, sub_ok, mul_ok, contains_ok, all_ok, any_ok, Typed, tun, tbin}
use Rattle.cedar.specs.Entities.{Env, PEnv, EnvFits}
use Rattle.cedar.specs.Evaluate.{eval, apply_un, apply_bin, bind2}
use Rattle.cedar.specs.Interpret.{gives, step_un, step_bin}
use Rattle.cedar.specs.TypeRules.{false_if, undeclared, is_rule, un_rule, bin_rule}
use Rattle.cedar.proofs.Yields.{Yields, value, error}
use Rattle.cedar.proofs.TypeSound.{yields}
use Rattle.cedar.proofs.Kept.{Kept, ty_of_law, view_means, k_strict1, k_strict2, k_decide}

-- a type rule that says no
pub ruled_out : (c : Bool) {b : Bool} → false_if c ≡ some b → (c ≡ true) × (b ≡ false)
ruled_out true e = (refl, sym (some-injective _ _ e))
ruled_out false e = no_some e

pub undeclared_none : {A : Type 0} (o : Option A) → undeclared o ≡ true → o ≡ none
undeclared_none none e = refl
undeclared_none (some a) e = no_true e

-- is, of an entity of kind m in the group
is_rule_law : (k m : ℕ) (ks : List ℕ) {b : Bool} → among m ks ≡ true → is_rule k ks ≡ some b → eqb k m ≡ b
is_rule_law k m [] i e = no_true i
is_rule_law k m (l ∷ []) i e = ap (eqb k) (only_kind m l i) ∙ some-injective _ _ e
is_rule_law k m (l ∷ n ∷ ns) i e = let (x, f) = ruled_out (not (among k (l ∷ n ∷ ns))) e in differ k m (l ∷ n ∷ ns) (not-true _ x) i ∙ sym f

module _ (S : Schema) where
  un_rule_law : {u : Un} {A T : Ty} {p : Bool} {r : Result} {b : Bool} → UnOk S u A T → Yields A p r → p ≡ false → un_rule S u A ≡ some b → bind r (apply_un S u) ≡ ok_bool b
  un_rule_law not_ok y q e = no_some e
  un_rule_law neg_ok y q e = no_some e
  un_rule_law empty_ok y q e = no_some e
  un_rule_law (is_ok {k = k} {l = l} {ls = ls}) (value (fent {k = m} i)) q e = ap ok_bool (is_rule_law k m (l ∷ ls) i e)
  un_rule_law is_ok error q e = no_true (sym q)
  un_rule_law like_ok y q e = no_some e

  kind_rule : {k l : ℕ} {ks ls : List ℕ} {p q : Bool} {r s : Result} {b : Bool} → Yields (tent k ks) p r → Yields (tent l ls) q s → (p || q) ≡ false
      → false_if (not (some_kind (λ m. among m (l ∷ ls)) (k ∷ ks))) ≡ some b → bind2 r s (apply_bin beq) ≡ ok_bool b
  kind_rule {k = k} {l = l} {ks = ks} {ls = ls} (value (fent {k = m} {t = t} i)) (value (fent {k = n} {t = u} j)) z e =
      let (x, f) = ruled_out (not (some_kind (λ m. among m (l ∷ ls)) (k ∷ ks))) e in
      ap ok_bool (other_kind m n t u (differ m n (l ∷ ls) (no_kind_law (λ m. among m (l ∷ ls)) (k ∷ ks) (not-true _ x) m i) j) ∙ sym f)
  kind_rule {p = p} (value f) error z e = no_true (sym (neither p true z).1)
  kind_rule error y z e = no_true (sym z)

  eq_rule : (A B : Ty) {p q : Bool} {r s : Result} {b : Bool} → Yields A p r → Yields B q s → (p || q) ≡ false → bin_rule S beq A B ≡ some b → bind2 r s (apply_bin beq) ≡ ok_bool b
  eq_rule tbool B x y z e = no_some e
  eq_rule tlong B x y z e = no_some e
  eq_rule tstr B x y z e = no_some e
  eq_rule (tset A) B x y z e = no_some e
  eq_rule (trec R) B x y z e = no_some e
  eq_rule (tent k ks) tbool x y z e = no_some e
  eq_rule (tent k ks) tlong x y z e = no_some e
  eq_rule (tent k ks) tstr x y z e = no_some e
  eq_rule (tent k ks) (tset B) x y z e = no_some e
  eq_rule (tent k ks) (trec R) x y z e = no_some e
  eq_rule (tent k ks) (tent l ls) x y z e = kind_rule x y z e

  bin_rule_law : {o : Bin} {A B T : Ty} {p q : Bool} {r s : Result} {b : Bool} → BinOk S o A B T → Yields A p r → Yields B q s → (p || q) ≡ false → bin_rule S o A B ≡ some b → bind2 r s (apply_bin o) ≡ ok_bool b
  bin_rule_law {A = A} {B = B} eq_ok x y z e = eq_rule A A x y z e
  bin_rule_law (eq_ent_ok {k = k} {l = l} {ks = ks} {ls = ls}) x y z e = eq_rule (tent k ks) (tent l ls) x y z e
  bin_rule_law lt_ok x y z e = no_some e
  bin_rule_law le_ok x y z e = no_some e
  bin_rule_law add_ok x y z e = no_some e
  bin_rule_law sub_ok x y z e = no_some e
  bin_rule_law mul_ok x y z e = no_some e
  bin_rule_law contains_ok x y z e = no_some e
  bin_rule_law all_ok x y z e = no_some e
  bin_rule_law any_ok x y z e = no_some e

-- an operand that fails makes both fail
pub bind2_left : {r : Result} (s : Result) (f : Value → Value → Result) → r ≡ fail → bind2 r s f ≡ fail
bind2_left s f e = rw e

pub bind2_right : (r : Result) {s : Result} (f : Value → Value → Result) → s ≡ fail → bind2 r s f ≡ fail
bind2_right (ok v) f e = rw e
bind2_right fail f e = refl

module _ (S : Schema) (P : PEnv) (C : Env) (ft : EnvFits S C) where
  pub sound_un : {u : Un} {A T : Ty} {a : Expr} → UnOk S u A T → Typed S a A → Kept S C (un T u a) T (step_un S P T u a)
  sound_un {u = u} {a = a} o ta =
      k_decide S C ft (tun o ta) (can_err a) (un_rule S u (ty_of a)) (λ q b e. un_rule_law S o (yields S C ft ta) q (rw (ty_of_law ta) at e))
      (k_strict1 S C ft (tun o ta) (λ v. gives (apply_un S u v)) (eval S C a) (view a) (view_means S C a) (λ v e. rw e) (λ e. rw e))

  pub sound_bin : {o : Bin} {A B T : Ty} {a b : Expr} → BinOk S o A B T → Typed S a A → Typed S b B → Kept S C (bin T o a b) T (step_bin S P T o a b)
  sound_bin {o = o} {a = a} {b = b} h ta tb =
      k_decide S C ft (tbin h ta tb) (can_err a || can_err b) (bin_rule S o (ty_of a) (ty_of b)) (λ q d e. bin_rule_law S h (yields S C ft ta) (yields S C ft tb) q (rw (ty_of_law ta, ty_of_law tb) at e))
      (k_strict2 S C ft (tbin h ta tb) (λ v w. gives (apply_bin o v w)) (eval S C a) (eval S C b) (view a) (view b) (view_means S C a) (view_means S C b)
      (λ v w e f. rw (e, f)) (bind2_left (eval S C b) (apply_bin o)) (bind2_right (eval S C a) (apply_bin o)))
