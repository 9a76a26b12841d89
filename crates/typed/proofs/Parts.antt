-- A tree passes the typing test exactly if its children do and it passes with an error of its type in the place of each child.
use mathlib.Core.Path.{◌≡◌, refl, sym, ◌∙◌, ap, ap₂}
use mathlib.Core.Bool.{Bool, true, false, ◌&&◌, ◌||◌}
use Prim.Native.Nat.{ℕ}
use lib.Dec.{eqb}
use Rattle.cedar.specs.Value.{on_some}
use Rattle.cedar.specs.Types.{Ty, tbool, tlong, tstr, tent, tset, trec, Attrs, declared, Schema, ty_same}
use Rattle.cedar.specs.Residual.{Expr, Exprs, Args, lit, err, var, and, or, ite, un, bin, rel, get, has, haspath, set, rec, enil, econs, gnil, gcons, ty_of}
use Rattle.cedar.specs.Typing.{named}
use Rattle.cedar.specs.TypingTest.{completed, un_ok, three, bin_ok, rel_ok, each, path_ok, check, check_all, check_args}
use Rattle.typed.proofs.FitsBoth.{and_one}

-- an error of a tree's type
abbrev pub bare : Expr → Expr
bare e = err (ty_of e)

abbrev pub bare_all : Exprs → Exprs
bare_all enil = enil
bare_all (econs e es) = econs (bare e) (bare_all es)

abbrev pub bare_args : Args → Args
bare_args gnil = gnil
bare_args (gcons t e gs) = gcons t (bare e) (bare_args gs)

-- a tree without what its children hold
abbrev pub blank : Expr → Expr
blank (lit T v) = lit T v
blank (err T) = err T
blank (var T x) = var T x
blank (and T a b) = and T (bare a) (bare b)
blank (or T a b) = or T (bare a) (bare b)
blank (ite T c a b) = ite T (bare c) (bare a) (bare b)
blank (un T u a) = un T u (bare a)
blank (bin T o a b) = bin T o (bare a) (bare b)
blank (rel T o a b) = rel T o (bare a) (bare b)
blank (get T a t) = get T (bare a) t
blank (has T a t) = has T (bare a) t
blank (haspath T a t ts) = haspath T (bare a) t ts
blank (set T es) = set T (bare_all es)
blank (rec T gs) = rec T (bare_args gs)

-- a test of each child
module _ (c : Expr → Bool) where
  abbrev pub each_of_all : Exprs → Bool
  each_of_all enil = true
  each_of_all (econs e es) = c e && each_of_all es

  abbrev pub each_of_args : Args → Bool
  each_of_args gnil = true
  each_of_args (gcons t e gs) = c e && each_of_args gs

  abbrev pub each_child : Expr → Bool
  each_child (lit T v) = true
  each_child (err T) = true
  each_child (var T x) = true
  each_child (and T a b) = c a && c b
  each_child (or T a b) = c a && c b
  each_child (ite T d a b) = c d && (c a && c b)
  each_child (un T u a) = c a
  each_child (bin T o a b) = c a && c b
  each_child (rel T o a b) = c a && c b
  each_child (get T a t) = c a
  each_child (has T a t) = c a
  each_child (haspath T a t ts) = c a
  each_child (set T es) = each_of_all es
  each_child (rec T gs) = each_of_args gs

-- ---- conjunctions

and_turn3 : (p a b c : Bool) → (((p && (a && b)) && c)) ≡ (((p && (true && true)) && true) && (c && (a && b)))
and_turn3 true true true true = refl
and_turn3 true true true false = refl
and_turn3 true true false true = refl
and_turn3 true true false false = refl
and_turn3 true false true true = refl
and_turn3 true false true false = refl
and_turn3 true false false true = refl
and_turn3 true false false false = refl
and_turn3 false a b c = refl

two_parts : (p a b : Bool) → (p && (a && b)) ≡ ((p && (true && true)) && (a && b))
two_parts true a b = refl
two_parts false a b = refl

one_part : (p a : Bool) → (p && a) ≡ ((p && true) && a)
one_part true a = refl
one_part false a = refl

mixed : (p c q r : Bool) → ((p && c) && (q && r)) ≡ (((p && true) && q) && (c && r))
mixed true true true r = refl
mixed true true false r = refl
mixed true false true r = refl
mixed true false false r = refl
mixed false c q r = refl

swapped : (a q b : Bool) → ((a && q) && b) ≡ ((a && b) && q)
swapped true true true = refl
swapped true true false = refl
swapped true false true = refl
swapped true false false = refl
swapped false q b = refl

module _ (S : Schema) where
  all_parts : (es : Exprs) (A : Ty) → check_all S es A ≡ (check_all S (bare_all es) A && each_of_all (check S) es)
  all_parts enil A = refl
  all_parts (econs e es) A =
      ap (λ b. (ty_same (ty_of e) A && check S e) && b) (all_parts es A)
      ∙ mixed (ty_same (ty_of e) A) (check S e) (check_all S (bare_all es) A) (each_of_all (check S) es)

  args_parts : (gs : Args) (R : Attrs) → check_args S gs R ≡ (check_args S (bare_args gs) R && each_of_args (check S) gs)
  args_parts gnil R = refl
  args_parts (gcons t e gs) R =
      ap (λ b. (on_some false (declared t R) (ty_same (ty_of e)) && check S e) && b) (args_parts gs R)
      ∙ mixed (on_some false (declared t R) (ty_same (ty_of e))) (check S e) (check_args S (bare_args gs) R) (each_of_args (check S) gs)

  named_bare : (t : ℕ) (gs : Args) → named t (bare_args gs) ≡ named t gs
  named_bare t gnil = refl
  named_bare t (gcons u e gs) = ap (λ b. eqb t u || b) (named_bare t gs)

  completed_bare : (R : Attrs) (f g : ℕ → Bool) → ((t : ℕ) → f t ≡ g t) → completed R f ≡ completed R g
  completed_bare R f g h = λ i. completed R (λ t. h t i)

  set_parts : (U : Ty) (es : Exprs) → check S (set U es) ≡ (check S (set U (bare_all es)) && each_of_all (check S) es)
  set_parts tbool es = refl
  set_parts tlong es = refl
  set_parts tstr es = refl
  set_parts (tent k ks) es = refl
  set_parts (tset A) es = all_parts es A
  set_parts (trec R) es = refl

  rec_parts : (U : Ty) (gs : Args) → check S (rec U gs) ≡ (check S (rec U (bare_args gs)) && each_of_args (check S) gs)
  rec_parts tbool gs = refl
  rec_parts tlong gs = refl
  rec_parts tstr gs = refl
  rec_parts (tent k ks) gs = refl
  rec_parts (tset A) gs = refl
  rec_parts (trec R) gs =
      ap₂ ◌&&◌ (args_parts gs R) (completed_bare R (λ t. named t gs) (λ t. named t (bare_args gs)) (λ t. sym (named_bare t gs)))
      ∙ swapped (check_args S (bare_args gs) R) (each_of_args (check S) gs) (completed R (λ t. named t (bare_args gs)))

  -- THE TEST OF A TREE, OF ITS ROOT AND OF ITS CHILDREN
  pub check_parts : (e : Expr) → check S e ≡ (check S (blank e) && each_child (check S) e)
  check_parts (lit U v) = and_one (check S (lit U v))
  check_parts (err U) = refl
  check_parts (var U x) = and_one (check S (var U x))
  check_parts (and U a b) = two_parts (three S (ty_of a) (ty_of b) U tbool tbool tbool) (check S a) (check S b)
  check_parts (or U a b) = two_parts (three S (ty_of a) (ty_of b) U tbool tbool tbool) (check S a) (check S b)
  check_parts (ite U c a b) = and_turn3 (three S (ty_of a) (ty_of b) (ty_of c) U U tbool) (check S a) (check S b) (check S c)
  check_parts (un U u a) = one_part (un_ok S u (ty_of a) U) (check S a)
  check_parts (bin U o a b) = two_parts (bin_ok S o (ty_of a) (ty_of b) U) (check S a) (check S b)
  check_parts (rel U o a b) = two_parts (rel_ok S o (ty_of a) (ty_of b) U) (check S a) (check S b)
  check_parts (get U a t) = one_part (each S (ty_of a) (λ R. on_some false (declared t R) (λ A. ty_same A U))) (check S a)
  check_parts (has U a t) = one_part (each S (ty_of a) (λ R. true) && ty_same U tbool) (check S a)
  check_parts (haspath U a t ts) = one_part (path_ok S ts t (ty_of a) && ty_same U tbool) (check S a)
  check_parts (set U es) = set_parts U es
  check_parts (rec U gs) = rec_parts U gs
