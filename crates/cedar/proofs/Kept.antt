-- What every step of the interpreter is to keep: the type, and on each complete sheet that agrees the value or error.
use mathlib.Core.Path.{◌≡◌, refl, subst, sym}
use mathlib.Core.Bool.{Bool, true, false}
use mathlib.Core.Option.{Option, none, some}
use Rattle.cedar.proofs.Tools.{no_true}
use Rattle.cedar.specs.Value.{Value, vbool, vlong, vtext, vent, vset, vrec, Result, ok, fail, ok_bool}
use Rattle.cedar.specs.Types.{Ty, Schema, Fits}
use Rattle.cedar.specs.Residual.{Expr, lit, err, var, and, or, ite, un, bin, rel, get, has, haspath, set, rec, ty_of, value, error, open', view, Class, ctrue, cfalse, cerror, copen}
use Rattle.cedar.specs.Typing.{Typed, tlit, terr, tvar, tand, tor, tite, tun, tbin, trel, tget, thas, tpath, tset', trec'}
use Rattle.cedar.specs.Entities.{Env, EnvFits}
use Rattle.cedar.specs.Evaluate.{eval}
use Rattle.cedar.specs.Interpret.{View, class_of, class, Outcome, gives, stays, settle, strict1, strict2, by_rule}
use Rattle.cedar.proofs.Yields.{Yields}
use Rattle.cedar.proofs.TypeSound.{yields}
use Rattle.cedar.proofs.Yields as Y

pub ty_of_law : {S : Schema} {e : Expr} {T : Ty} → Typed S e T → ty_of e ≡ T
ty_of_law (tlit f) = refl
ty_of_law terr = refl
ty_of_law (tvar q) = refl
ty_of_law (tand a b) = refl
ty_of_law (tor a b) = refl
ty_of_law (tite c a b) = refl
ty_of_law (tun o a) = refl
ty_of_law (tbin o a b) = refl
ty_of_law (trel o a b) = refl
ty_of_law (tget e a) = refl
ty_of_law (thas e a) = refl
ty_of_law (tpath p a) = refl
ty_of_law (tset' h) = refl
ty_of_law (trec' h c) = refl

-- where no error may be, there is a value
pub must : {T : Ty} {b : Bool} {r : Result} → Yields T b r → b ≡ false → (v : Value) × (r ≡ ok v) × Fits v T
must (Y.value {v = v} f) e = (v, refl, f)
must Y.error e = no_true (sym e)

pub fitting : {T : Ty} {b : Bool} {r : Result} {v : Value} → Yields T b r → r ≡ ok v → Fits v T
fitting {T = T} {v = v} (Y.value f) e = subst (λ x. FitsR x) e f
  where
    FitsR : Result → Type 0
    FitsR (ok w) = Fits w T
    FitsR fail = Unit {0}
fitting {T = T} {v = v} Y.error e = absurd (subst FailR e tt)
  where
    FailR : Result → Type 0
    FailR (ok w) = ⊥
    FailR fail = Unit {0}

-- what a view, a class, an outcome say of a result
abbrev pub Means : View → Result → Type 0
Means (value v) r = r ≡ ok v
Means error r = r ≡ fail
Means open' r = Unit {0}

abbrev pub Says : Class → Result → Type 0
Says ctrue r = r ≡ ok_bool true
Says cfalse r = r ≡ ok_bool false
Says cerror r = r ≡ fail
Says copen r = Unit {0}

abbrev pub Tells : Outcome → Result → Type 0
Tells (gives s) r = r ≡ s
Tells stays r = Unit {0}

says : (w : View) (r : Result) → Means w r → Says (class_of w) r
says (value (vbool true)) r m = m
says (value (vbool false)) r m = m
says (value (vlong n)) r m = tt
says (value (vtext t)) r m = tt
says (value (vent k t)) r m = tt
says (value (vset vs)) r m = tt
says (value (vrec fs)) r m = tt
says error r m = m
says open' r m = tt

module _ (S : Schema) (C : Env) where
  pub view_means : (e : Expr) → Means (view e) (eval S C e)
  view_means (lit T v) = refl
  view_means (err T) = refl
  view_means (var T x) = tt
  view_means (and T a b) = tt
  view_means (or T a b) = tt
  view_means (ite T c a b) = tt
  view_means (un T u a) = tt
  view_means (bin T o a b) = tt
  view_means (rel T o a b) = tt
  view_means (get T a t) = tt
  view_means (has T a t) = tt
  view_means (haspath T a t ts) = tt
  view_means (set T es) = tt
  view_means (rec T gs) = tt

  pub class_says : (e : Expr) → Says (class e) (eval S C e)
  class_says e = says (view e) (eval S C e) (view_means e)

  pub record Kept (keep : Expr) (T : Ty) (r : Expr) : Type 0 where
    pub typed : Typed S r T
    pub same : eval S C r ≡ eval S C keep

  module _ (ft : EnvFits S C) {keep : Expr} {T : Ty} (tk : Typed S keep T) where
    pub kept : Kept keep T keep
    kept = record { typed = tk; same = refl }

    pub k_lit : {v : Value} → eval S C keep ≡ ok v → Kept keep T (lit T v)
    k_lit e = record { typed = tlit (fitting (yields S C ft tk) e); same = sym e }

    pub k_err : eval S C keep ≡ fail → Kept keep T (err T)
    k_err e = record { typed = terr; same = sym e }

    pub k_settle : (o : Outcome) → Tells o (eval S C keep) → Kept keep T (settle T keep o)
    k_settle (gives (ok v)) e = k_lit e
    k_settle (gives fail) e = k_err e
    k_settle stays e = kept

    pub k_strict1 : (f : Value → Outcome) (r : Result) (w : View) → Means w r
        → ((v : Value) → r ≡ ok v → Tells (f v) (eval S C keep)) → (r ≡ fail → eval S C keep ≡ fail) → Kept keep T (strict1 T keep f w)
    k_strict1 f r (value v) m h g = k_settle (f v) (h v m)
    k_strict1 f r error m h g = k_err (g m)
    k_strict1 f r open' m h g = kept

    pub k_strict2 : (f : Value → Value → Outcome) (r s : Result) (w x : View) → Means w r → Means x s
        → ((v u : Value) → r ≡ ok v → s ≡ ok u → Tells (f v u) (eval S C keep)) → (r ≡ fail → eval S C keep ≡ fail) → (s ≡ fail → eval S C keep ≡ fail)
        → Kept keep T (strict2 T keep f w x)
    k_strict2 f r s (value v) (value u) m n h g k = k_settle (f v u) (h v u m n)
    k_strict2 f r s (value v) error m n h g k = k_err (k n)
    k_strict2 f r s (value v) open' m n h g k = kept
    k_strict2 f r s error x m n h g k = k_err (g m)
    k_strict2 f r s open' (value u) m n h g k = kept
    k_strict2 f r s open' error m n h g k = k_err (k n)
    k_strict2 f r s open' open' m n h g k = kept

    pub k_decide : {r : Expr} (c : Bool) (o : Option Bool) → (c ≡ false → (b : Bool) → o ≡ some b → eval S C keep ≡ ok_bool b) → Kept keep T r → Kept keep T (by_rule T c o r)
    k_decide true o h k = k
    k_decide false none h k = k
    k_decide false (some b) h k = k_lit (h refl b refl)
