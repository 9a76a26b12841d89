-- Where everything is known, interpretation leaves a value or an error, and it is what evaluation gives: one interpreter serves both runs.
use mathlib.Core.Path.{◌≡◌, refl, ◌∙◌, ap}
use mathlib.Core.Bool.{Bool, true, false, cond, ◌||◌}
use mathlib.Core.Option.{Option, none, some}
use mathlib.Core.List.{List, [], ◌∷◌}
use Prim.Native.Nat.{ℕ}
use Rattle.cedar.proofs.Tools.{the_same}
use Rattle.cedar.specs.Value.{Value, vbool, vlong, vtext, vent, vset, vrec, Values, Fields, Result, ok, fail, find, on_some}
use Rattle.cedar.specs.Canonical.{make_set}
use Rattle.cedar.specs.Types.{Ty, tbool, tset, trec, Attrs, Schema, Var, fbool}
use Rattle.cedar.specs.Residual.{is_error, Expr, lit, err, var, Exprs, Args, Rel, rin, rgettag, rhastag, ty_of, can_err, view, Class, ctrue, cfalse, cerror, any_error, any_error_arg}
use Rattle.cedar.specs.Typing.{Typed, tlit, terr, tvar, tand, tor, tite, tun, tbin, trel, tget, thas, tpath, tset', trec', AllTyped, nil_typed, cons_typed, ArgsTyped, no_arg, one_arg}
use Rattle.cedar.specs.Entities.{Env, PEnv, EnvFits, entity, pentity}
use Rattle.cedar.proofs.Agrees.{Knows}
use Rattle.cedar.specs.Evaluate.{eval, apply_un, apply_bin, targets}
use Rattle.cedar.specs.Interpret.{class, Outcome, gives, stays, settle, strict1, strict2, by_rule, simp_and, simp_or, simp_if, rel_known, get_known, has_known, on_fields, walk, simp_path, values, fields, interpret, interprets, interpret_args}
use Rattle.cedar.specs.TypeRules.{un_rule, bin_rule, rel_rule, has_rule}
use Rattle.cedar.proofs.Sound.{sound}
use Rattle.cedar.specs.Runs.{result_class}
use Rattle.cedar.specs.Interpret as I

pub record Total (P : PEnv) (C : Env) : Type 0 where
  pub request : (x : Var) → P.request x ≡ some (C.request x)
  pub attrs : (k t : ℕ) → (pentity P k t).attrs ≡ some (entity C k t).attrs
  pub tags : (k t : ℕ) → (pentity P k t).tags ≡ some (entity C k t).tags
  pub ancestors : (k t : ℕ) → (pentity P k t).ancestors ≡ some (entity C k t).ancestors

pub total_knows : {P : PEnv} {C : Env} → Total P C → Knows P C
total_knows all = record {
  request = λ x v e. the_same (all.request x) e;
  line = λ k t. record { attrs = λ fs e. the_same (all.attrs k t) e; tags = λ fs e. the_same (all.tags k t) e; ancestors = λ vs e. the_same (all.ancestors k t) e };
}

pub data Decided : Expr → Type 0 where
  is_lit : {T : Ty} {v : Value} → Decided (lit T v)
  is_err : {T : Ty} → Decided (err T)

data Given : Outcome → Type 0 where
  given : {r : Result} → Given (gives r)

d_settle : (T : Ty) (keep : Expr) {o : Outcome} → Given o → Decided (settle T keep o)
d_settle T keep (given {r = ok v}) = is_lit
d_settle T keep (given {r = fail}) = is_err

d_strict1 : (T : Ty) (keep : Expr) (f : Value → Outcome) {a : Expr} → Decided a → ((v : Value) → Given (f v)) → Decided (strict1 T keep f (view a))
d_strict1 T keep f (is_lit {v = v}) g = d_settle T keep (g v)
d_strict1 T keep f is_err g = is_err

d_strict2 : (T : Ty) (keep : Expr) (f : Value → Value → Outcome) {a b : Expr} → Decided a → Decided b → ((v w : Value) → Given (f v w)) → Decided (strict2 T keep f (view a) (view b))
d_strict2 T keep f (is_lit {v = v}) (is_lit {v = w}) g = d_settle T keep (g v w)
d_strict2 T keep f is_lit is_err g = is_err
d_strict2 T keep f is_err b g = is_err

d_decide : (T : Ty) (c : Bool) (o : Option Bool) {r : Expr} → Decided r → Decided (by_rule T c o r)
d_decide T true o d = d
d_decide T false none d = d
d_decide T false (some b) d = is_lit

-- a decided operand of bool is true, false or an error
data Settled : Class → Type 0 where
  s_true : Settled ctrue
  s_false : Settled cfalse
  s_error : Settled cerror

settled : {S : Schema} {a : Expr} → Typed S a tbool → Decided a → Settled (class a)
settled (tlit (fbool {b = true})) is_lit = s_true
settled (tlit (fbool {b = false})) is_lit = s_false
settled ta is_err = s_error

module _ (T : Ty) {a b : Expr} (x : Decided a) (y : Decided b) where
  d_and : {c : Class} (d : Class) → Settled c → Decided (simp_and T a b c d)
  d_and d s_true = y
  d_and d s_false = is_lit
  d_and d s_error = is_err

  d_or : {c : Class} (d : Class) → Settled c → Decided (simp_or T a b c d)
  d_or d s_true = is_lit
  d_or d s_false = y
  d_or d s_error = is_err

  d_if : (t : Expr) {c : Class} → Settled c → Decided (simp_if T t a b c)
  d_if t s_true = x
  d_if t s_false = y
  d_if t s_error = is_err

module _ {P : PEnv} {C : Env} (all : Total P C) where
  g_targets : (k t : ℕ) (o : Option Values) → Given (on_some (gives fail) o (I.in_known P (vent k t) (pentity P k t).ancestors))
  g_targets k t none = given
  g_targets k t (some ts) = rw (all.ancestors k t) given

  g_ent : (o : Rel) (k t : ℕ) (w : Value) → Given (rel_known P o (vent k t) w)
  g_ent rin k t w = g_targets k t (targets w)
  g_ent rgettag k t (vbool b) = given
  g_ent rgettag k t (vlong n) = given
  g_ent rgettag k t (vtext u) = rw (all.tags k t) given
  g_ent rgettag k t (vent l u) = given
  g_ent rgettag k t (vset vs) = given
  g_ent rgettag k t (vrec fs) = given
  g_ent rhastag k t (vbool b) = given
  g_ent rhastag k t (vlong n) = given
  g_ent rhastag k t (vtext u) = rw (all.tags k t) given
  g_ent rhastag k t (vent l u) = given
  g_ent rhastag k t (vset vs) = given
  g_ent rhastag k t (vrec fs) = given

  g_rel : (o : Rel) (v w : Value) → Given (rel_known P o v w)
  g_rel rin (vbool b) w = given
  g_rel rgettag (vbool b) w = given
  g_rel rhastag (vbool b) w = given
  g_rel rin (vlong n) w = given
  g_rel rgettag (vlong n) w = given
  g_rel rhastag (vlong n) w = given
  g_rel rin (vtext u) w = given
  g_rel rgettag (vtext u) w = given
  g_rel rhastag (vtext u) w = given
  g_rel o (vent k t) w = g_ent o k t w
  g_rel rin (vset vs) w = given
  g_rel rgettag (vset vs) w = given
  g_rel rhastag (vset vs) w = given
  g_rel rin (vrec fs) w = given
  g_rel rgettag (vrec fs) w = given
  g_rel rhastag (vrec fs) w = given

  -- with fields known, Q holds of what is made of them
  on_total : {X : Type 0} (Q : X → Type 0) {d : X} (u : ℕ → ℕ → X) {f : Fields → X} → Q d → ((fs : Fields) → Q (f fs)) → (v : Value) → Q (on_fields P d u v f)
  on_total Q u q h (vbool b) = q
  on_total Q u q h (vlong n) = q
  on_total Q u q h (vtext t) = q
  on_total Q u q h (vent k t) = rw (all.attrs k t) (h (entity C k t).attrs)
  on_total Q u q h (vset vs) = q
  on_total Q u q h (vrec fs) = h fs

  module _ (S : Schema) (T : Ty) where
    d_some : (o : Option Value) {g : Value → Expr} → ((v : Value) → Decided (g v)) → Decided (on_some (lit T (vbool false)) o g)
    d_some none h = is_lit
    d_some (some v) h = h v

    d_walk : (U : ℕ → Ty) (ts : List ℕ) (t : ℕ) (v : Value) → Decided (walk P S T U ts t v)
    d_walk U [] t v = on_total Decided (λ k i. I.left_path S T (lit (U k) (vent k i)) t []) is_err (λ fs. is_lit) v
    d_walk U (u ∷ us) t v = on_total Decided (λ k i. I.left_path S T (lit (U k) (vent k i)) t (u ∷ us)) is_err (λ fs. d_some (find t fs) (d_walk I.alone us u)) v

    d_path : {a : Expr} (t : ℕ) (ts : List ℕ) → Decided a → Decided (simp_path S P T a t ts (view a))
    d_path {a = a} t ts (is_lit {v = v}) = d_walk (λ k. ty_of a) ts t v
    d_path t ts is_err = is_err

  d_var : (S : Schema) (T : Ty) (x : Var) → Decided (I.step_var S P T (var T x) (P.request x))
  d_var S T x = rw (all.request x) is_lit

-- lists: all are values, or one is an error
data Have {A : Type 0} : Option A → Bool → Type 0 where
  have : {a : A} {b : Bool} → Have (some a) b
  bad : {o : Option A} → Have o true

h_cons : {e : Expr} {o : Option Values} {b : Bool} → Decided e → Have o b → Have (I.cons_v (view e) o) (is_error (view e) || b)
h_cons is_lit have = have
h_cons is_lit bad = bad
h_cons is_err h = bad

h_field : (t : ℕ) {e : Expr} {o : Option Fields} {b : Bool} → Decided e → Have o b → Have (I.field_v t (view e) o) (is_error (view e) || b)
h_field t is_lit have = have
h_field t is_lit bad = bad
h_field t is_err h = bad

d_make : {A : Type 0} (T : Ty) (keep : Expr) (f : A → Value) {o : Option A} {b : Bool} → Have o b → Decided (on_some (cond b (err T) keep) o (λ a. lit T (f a)))
d_make T keep f have = is_lit
d_make T keep f (bad {o = none}) = is_err
d_make T keep f (bad {o = some a}) = is_lit

module _ (S : Schema) (P : PEnv) (C : Env) (ft : EnvFits S C) (all : Total P C) where
  ag : Knows P C
  ag = total_knows all

  mutual
    pub decided : {e : Expr} {T : Ty} → Typed S e T → Decided (interpret S P e)
    decided (tlit f) = is_lit
    decided terr = is_err
    decided (tvar {T = T} {x = x} q) = d_var all S T x
    decided (tand {a = a} {b = b} ta tb) = d_and tbool (decided ta) (decided tb) (class (interpret S P b)) (settled (sound S P C ft ag ta).typed (decided ta))
    decided (tor {a = a} {b = b} ta tb) = d_or tbool (decided ta) (decided tb) (class (interpret S P b)) (settled (sound S P C ft ag ta).typed (decided ta))
    decided (tite {c = c} {T = T} tc ta tb) = d_if T (decided ta) (decided tb) (interpret S P c) (settled (sound S P C ft ag tc).typed (decided tc))
    decided (tun {u = u} {a = a} {T = T} o ta) = d_decide T (can_err (interpret S P a)) (un_rule S u (ty_of (interpret S P a))) (d_strict1 T _ (λ v. gives (apply_un S u v)) (decided ta) (λ v. given))
    decided (tbin {o = o} {a = a} {b = b} {T = T} h ta tb) = d_decide T (can_err (interpret S P a) || can_err (interpret S P b)) (bin_rule S o (ty_of (interpret S P a)) (ty_of (interpret S P b))) (d_strict2 T _ (λ v w. gives (apply_bin o v w)) (decided ta) (decided tb) (λ v w. given))
    decided (trel {o = o} {a = a} {b = b} {T = T} h ta tb) = d_decide T (can_err (interpret S P a) || can_err (interpret S P b)) (rel_rule S o (ty_of (interpret S P a)) (ty_of (interpret S P b))) (d_strict2 T _ (rel_known P o) (decided ta) (decided tb) (g_rel all o))
    decided (tget {a = a} {T = T} {t = t} e ta) = d_strict1 T _ (get_known P t) (decided ta) (on_total all Given (λ k i. stays) given (λ fs. given))
    decided (thas {a = a} {t = t} e ta) = d_decide tbool (can_err (interpret S P a)) (has_rule S t (ty_of (interpret S P a))) (d_strict1 tbool _ (has_known P t) (decided ta) (on_total all Given (λ k i. stays) given (λ fs. given)))
    decided (tpath {t = t} {ts = ts} p ta) = d_path all S tbool t ts (decided ta)
    decided (tset' {A = A} h) = d_make (tset A) _ make_set (decided_all h)
    decided (trec' {R = R} h c) = d_make (trec R) _ vrec (decided_args h)

    decided_all : {es : Exprs} {A : Ty} → AllTyped S es A → Have (values (interprets S P es)) (any_error (interprets S P es))
    decided_all nil_typed = have
    decided_all (cons_typed h hs) = h_cons (decided h) (decided_all hs)

    decided_args : {gs : Args} {R : Attrs} → ArgsTyped S gs R → Have (fields (interpret_args S P gs)) (any_error_arg (interpret_args S P gs))
    decided_args no_arg = have
    decided_args (one_arg {t = t} d h hs) = h_field t (decided h) (decided_args hs)

  -- the class of what is left is the result
  class_result : {e : Expr} → Decided e → class e ≡ result_class (eval S C e)
  class_result is_lit = refl
  class_result is_err = refl

  pub complete_run : {e : Expr} {T : Ty} → Typed S e T → class (interpret S P e) ≡ result_class (eval S C e)
  complete_run h = class_result (decided h) ∙ ap result_class (sound S P C ft ag h).same

  -- what is left is the value or error itself, with the tree's type
  result_left : {e : Expr} {T : Ty} (keep : Expr) → Decided e → Typed S e T → e ≡ settle T keep (gives (eval S C e))
  result_left keep is_lit (tlit f) = refl
  result_left keep is_err terr = refl

  pub complete_left : {e : Expr} {T : Ty} → Typed S e T → interpret S P e ≡ settle T e (gives (eval S C e))
  complete_left {e} {T} h = let k = sound S P C ft ag h in result_left e (decided h) k.typed ∙ ap (λ r. settle T e (gives r)) k.same
