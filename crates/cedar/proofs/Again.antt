-- Interpreting a residual again gives the same residual (change request 2.13). No typing is needed.
use mathlib.Core.Path.{◌≡◌, refl, ◌∙◌, ap, ap₂}
use mathlib.Core.Bool.{Bool, true, false, cond, ◌||◌}
use mathlib.Core.Option.{Option, none, some}
use mathlib.Core.List.{List, [], ◌∷◌}
use Prim.Native.Nat.{ℕ}
use Rattle.cedar.specs.Value.{Value, vbool, vlong, vtext, vent, vset, vrec, Fields, ok, fail, find, found, on_some}
use Rattle.cedar.specs.Canonical.{make_set}
use Rattle.cedar.specs.Types.{Ty, Schema, Var}
use Rattle.cedar.specs.Residual.{Expr, lit, err, var, and, or, ite, un, bin, rel, get, has, haspath, set, rec, Exprs, enil, econs, Args, gnil, gcons, ty_of, can_err, value, error, open', view, Class, ctrue, cfalse, cerror, copen, any_error, any_error_arg}
use Rattle.cedar.specs.Entities.{PEnv, pentity}
use Rattle.cedar.specs.Evaluate.{apply_un, apply_bin}
use Rattle.cedar.specs.Interpret.{alone, left_path, View, class, Outcome, gives, stays, settle, strict1, strict2, by_rule, simp_and, simp_or, simp_if, rel_known, get_known, has_known, walk, simp_path, values, fields, step_var, step_and, step_or, step_if, step_un, step_bin, step_rel, step_get, step_has, step_path, step_set, step_rec, interpret, interprets, interpret_args}
use Rattle.cedar.specs.Runs.{Policy}
use Rattle.cedar.specs.ContentRun.{partial_answer, handed_back}
use Rattle.cedar.specs.TypeRules.{un_rule, bin_rule, rel_rule, has_rule}

module _ (S : Schema) (P : PEnv) where
  -- what a step leaves: something that is fixed, or the node itself
  data Leaves (keep : Expr) : Expr → Type 0 where
    fixed : {r : Expr} → interpret S P r ≡ r → Leaves keep r
    node : Leaves keep keep

  leaves : {keep r : Expr} → Leaves keep r → interpret S P keep ≡ r → interpret S P r ≡ r
  leaves (fixed e) q = e
  leaves node q = q

  l_settle : {keep : Expr} (T : Ty) (o : Outcome) → Leaves keep (settle T keep o)
  l_settle T (gives (ok v)) = fixed refl
  l_settle T (gives fail) = fixed refl
  l_settle T stays = node

  l_strict1 : {keep : Expr} (T : Ty) (f : Value → Outcome) (w : View) → Leaves keep (strict1 T keep f w)
  l_strict1 T f (value v) = l_settle T (f v)
  l_strict1 T f error = fixed refl
  l_strict1 T f open' = node

  l_strict2 : {keep : Expr} (T : Ty) (f : Value → Value → Outcome) (w x : View) → Leaves keep (strict2 T keep f w x)
  l_strict2 T f (value v) (value u) = l_settle T (f v u)
  l_strict2 T f (value v) error = fixed refl
  l_strict2 T f (value v) open' = node
  l_strict2 T f error x = fixed refl
  l_strict2 T f open' (value u) = node
  l_strict2 T f open' error = fixed refl
  l_strict2 T f open' open' = node

  l_decide : {keep r : Expr} (T : Ty) (c : Bool) (o : Option Bool) → Leaves keep r → Leaves keep (by_rule T c o r)
  l_decide T true o l = l
  l_decide T false none l = l
  l_decide T false (some b) l = fixed refl

  l_make : {keep : Expr} {A : Type 0} (T : Ty) (f : A → Value) (o : Option A) (b : Bool) → Leaves keep (on_some (cond b (err T) keep) o (λ a. lit T (f a)))
  l_make T f (some a) b = fixed refl
  l_make T f none true = fixed refl
  l_make T f none false = node

  -- and, or, if: an operand taken is fixed
  module _ (T : Ty) {a b : Expr} (fa : interpret S P a ≡ a) (fb : interpret S P b ≡ b) where
    and_again : class a ≡ copen → can_err a ≡ true → interpret S P (and T a (lit T (vbool false))) ≡ and T a (lit T (vbool false))
    and_again c e = rw (fa, c, e)

    and_cut : (x : Bool) → class a ≡ copen → can_err a ≡ x → Leaves (and T a b) (cond x (and T a (lit T (vbool false))) (lit T (vbool false)))
    and_cut true c e = fixed (and_again c e)
    and_cut false c e = fixed refl

    l_and : (c d : Class) → class a ≡ c → Leaves (and T a b) (simp_and T a b c d)
    l_and cfalse d q = fixed refl
    l_and ctrue d q = fixed fb
    l_and cerror d q = fixed refl
    l_and copen ctrue q = fixed fa
    l_and copen cfalse q = and_cut (can_err a) q refl
    l_and copen cerror q = node
    l_and copen copen q = node

    or_again : class a ≡ copen → can_err a ≡ true → interpret S P (or T a (lit T (vbool true))) ≡ or T a (lit T (vbool true))
    or_again c e = rw (fa, c, e)

    or_cut : (x : Bool) → class a ≡ copen → can_err a ≡ x → Leaves (or T a b) (cond x (or T a (lit T (vbool true))) (lit T (vbool true)))
    or_cut true c e = fixed (or_again c e)
    or_cut false c e = fixed refl

    l_or : (c d : Class) → class a ≡ c → Leaves (or T a b) (simp_or T a b c d)
    l_or ctrue d q = fixed refl
    l_or cfalse d q = fixed fb
    l_or cerror d q = fixed refl
    l_or copen cfalse q = fixed fa
    l_or copen ctrue q = or_cut (can_err a) q refl
    l_or copen cerror q = node
    l_or copen copen q = node

    l_if : {t : Expr} (c : Class) → Leaves (ite T t a b) (simp_if T t a b c)
    l_if ctrue = fixed fa
    l_if cfalse = fixed fb
    l_if cerror = fixed refl
    l_if copen = node

  -- haspath: what is left over is left over again
  left : (T U : Ty) (k i t : ℕ) (ts : List ℕ) → (pentity P k i).attrs ≡ none → interpret S P (left_path S T (lit U (vent k i)) t ts) ≡ left_path S T (lit U (vent k i)) t ts
  left T U k i t ts e = go (has_rule S t U) refl
    where
      again : (us : List ℕ) → walk P S T (λ l. U) us t (vent k i) ≡ left_path S T (lit U (vent k i)) t us
      again [] = rw e
      again (u ∷ us) = rw e

      go : (o : Option Bool) → has_rule S t U ≡ o → interpret S P (by_rule T false o (haspath T (lit U (vent k i)) t ts)) ≡ by_rule T false o (haspath T (lit U (vent k i)) t ts)
      go none q = again ts ∙ rw q
      go (some b) q = refl

  walk_ent : (T U : Ty) (k i t : ℕ) (ts : List ℕ) (on : Fields → Expr) → ((fs : Fields) → interpret S P (on fs) ≡ on fs) → (o : Option Fields) → (pentity P k i).attrs ≡ o
      → interpret S P (on_some (left_path S T (lit U (vent k i)) t ts) o on) ≡ on_some (left_path S T (lit U (vent k i)) t ts) o on
  walk_ent T U k i t ts on h none e = left T U k i t ts e
  walk_ent T U k i t ts on h (some fs) e = h fs

  walk_end : (T : Ty) (U : ℕ → Ty) (t : ℕ) (v : Value) → interpret S P (walk P S T U [] t v) ≡ walk P S T U [] t v
  walk_end T U t (vbool b) = refl
  walk_end T U t (vlong n) = refl
  walk_end T U t (vtext u) = refl
  walk_end T U t (vent k i) = walk_ent T (U k) k i t [] (λ fs. lit T (vbool (found (find t fs)))) (λ fs. refl) (pentity P k i).attrs refl
  walk_end T U t (vset vs) = refl
  walk_end T U t (vrec fs) = refl

  module _ (T : Ty) (u : ℕ) (us : List ℕ) (ih : (v : Value) → interpret S P (walk P S T alone us u v) ≡ walk P S T alone us u v) where
    step : (o : Option Value) → interpret S P (on_some (lit T (vbool false)) o (walk P S T alone us u)) ≡ on_some (lit T (vbool false)) o (walk P S T alone us u)
    step none = refl
    step (some v) = ih v

    walk_on : (U : ℕ → Ty) (t : ℕ) (v : Value) → interpret S P (walk P S T U (u ∷ us) t v) ≡ walk P S T U (u ∷ us) t v
    walk_on U t (vbool b) = refl
    walk_on U t (vlong n) = refl
    walk_on U t (vtext x) = refl
    walk_on U t (vent k i) = walk_ent T (U k) k i t (u ∷ us) (λ fs. on_some (lit T (vbool false)) (find t fs) (walk P S T alone us u)) (λ fs. step (find t fs)) (pentity P k i).attrs refl
    walk_on U t (vset vs) = refl
    walk_on U t (vrec fs) = step (find t fs)

  walked : (T : Ty) (ts : List ℕ) (U : ℕ → Ty) (t : ℕ) (v : Value) → interpret S P (walk P S T U ts t v) ≡ walk P S T U ts t v
  walked T [] U t v = walk_end T U t v
  walked T (u ∷ us) U t v = walk_on T u us (walked T us alone u) U t v

  l_path : (T : Ty) (a : Expr) (t : ℕ) (ts : List ℕ) (w : View) → Leaves (haspath T a t ts) (simp_path S P T a t ts w)
  l_path T a t ts (value v) = fixed (walked T ts (λ k. ty_of a) t v)
  l_path T a t ts error = fixed refl
  l_path T a t ts open' = l_decide T (can_err a) (has_rule S t (ty_of a)) node

  l_var : (T : Ty) (x : Var) (o : Option Value) → Leaves (var T x) (step_var S P T (var T x) o)
  l_var T x none = node
  l_var T x (some v) = fixed refl

  mutual
    pub again : (e : Expr) → interpret S P (interpret S P e) ≡ interpret S P e
    again (lit T v) = refl
    again (err T) = refl
    again (var T x) = leaves (l_var T x (P.request x)) refl
    again (and T a b) = leaves (l_and T (again a) (again b) (class (interpret S P a)) (class (interpret S P b)) refl) (ap₂ (step_and S P T) (again a) (again b))
    again (or T a b) = leaves (l_or T (again a) (again b) (class (interpret S P a)) (class (interpret S P b)) refl) (ap₂ (step_or S P T) (again a) (again b))
    again (ite T c a b) = leaves (l_if T (again a) (again b) (class (interpret S P c))) (λ i. step_if S P T (again c i) (again a i) (again b i))
    again (un T u a) = leaves (l_decide T (can_err (interpret S P a)) (un_rule S u (ty_of (interpret S P a))) (l_strict1 T (λ v. gives (apply_un S u v)) (view (interpret S P a)))) (ap (step_un S P T u) (again a))
    again (bin T o a b) = leaves (l_decide T (can_err (interpret S P a) || can_err (interpret S P b)) (bin_rule S o (ty_of (interpret S P a)) (ty_of (interpret S P b))) (l_strict2 T (λ v w. gives (apply_bin o v w)) (view (interpret S P a)) (view (interpret S P b)))) (ap₂ (step_bin S P T o) (again a) (again b))
    again (rel T o a b) = leaves (l_decide T (can_err (interpret S P a) || can_err (interpret S P b)) (rel_rule S o (ty_of (interpret S P a)) (ty_of (interpret S P b))) (l_strict2 T (rel_known P o) (view (interpret S P a)) (view (interpret S P b)))) (ap₂ (step_rel S P T o) (again a) (again b))
    again (get T a t) = leaves (l_strict1 T (get_known P t) (view (interpret S P a))) (ap (λ x. step_get S P T x t) (again a))
    again (has T a t) = leaves (l_decide T (can_err (interpret S P a)) (has_rule S t (ty_of (interpret S P a))) (l_strict1 T (has_known P t) (view (interpret S P a)))) (ap (λ x. step_has S P T x t) (again a))
    again (haspath T a t ts) = leaves (l_path T (interpret S P a) t ts (view (interpret S P a))) (ap (λ x. step_path S P T x t ts) (again a))
    again (set T es) = leaves (l_make T make_set (values (interprets S P es)) (any_error (interprets S P es))) (ap (step_set S P T) (again_all es))
    again (rec T gs) = leaves (l_make T vrec (fields (interpret_args S P gs)) (any_error_arg (interpret_args S P gs))) (ap (step_rec S P T) (again_args gs))

    again_all : (es : Exprs) → interprets S P (interprets S P es) ≡ interprets S P es
    again_all enil = refl
    again_all (econs e es) = ap₂ econs (again e) (again_all es)

    again_args : (gs : Args) → interpret_args S P (interpret_args S P gs) ≡ interpret_args S P gs
    again_args gnil = refl
    again_args (gcons t e gs) = ap₂ (gcons t) (again e) (again_args gs)

  -- an answer handed back gives the same lines
  pub again_lines : (ps : List Policy) → partial_answer S P (handed_back S P ps) ≡ partial_answer S P ps
  again_lines [] = refl
  again_lines (p ∷ ps) = λ i. record { effect = p.effect; class = class (again p.tree i) } ∷ again_lines ps i
