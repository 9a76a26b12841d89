-- Type soundness: the induction over typing. Assumes that request and entities fit the schema.
use mathlib.Core.Path.{◌≡◌, refl, subst, sym, fun_ext}
use mathlib.Core.Bool.{Bool, true, false, ◌||◌}
use mathlib.Core.Option.{Option, none, some}
use Prim.Native.Nat.{ℕ, Ordering}
use lib.Dec.{eqb}
use Rattle.cedar.specs.Value.{Value, vrec, Values, vcons, Fields, Result, ok, fail, find, found, pick, on_some}
use Rattle.cedar.specs.Canonical.{place, insert, ascending, make_set, order}
use Rattle.cedar.specs.Types.{Ty, tset, trec, Attrs, declared, Complete, Schema, Fits, fset, frec, AllFit, nil_fit, cons_fit, FieldsFit, no_field, one_field}
use Rattle.cedar.specs.Residual.{Expr, Exprs, Args, gcons, can_err, can_errs, can_err_args}
use Rattle.cedar.specs.Typing.{named, Typed, tlit, terr, tvar, tand, tor, tite, tun, tbin, trel, tget, thas, tpath, tset', trec', AllTyped, nil_typed, cons_typed, ArgsTyped, no_arg, one_arg}
use Rattle.cedar.specs.Entities.{Env, EnvFits}
use Rattle.cedar.specs.Evaluate.{eval, evals, eval_args, cons_r, field_r}
use Rattle.cedar.proofs.Yields.{Yields, value, error, y_and, y_or, y_if, y_un, y_bin, y_rel, y_get, y_has, y_path}

-- sets

fit_place : {A : Ty} {v w : Value} {ws r : Values} (o : Ordering) → Fits v A → AllFit (vcons w ws) A → AllFit r A → AllFit (place o v w ws r) A
unfolding place
fit_place Ordering.lt f h g = cons_fit f h
fit_place Ordering.eq f h g = h
fit_place Ordering.gt f (cons_fit x h) g = cons_fit x g

fit_insert : {A : Ty} {v : Value} {vs : Values} → Fits v A → AllFit vs A → AllFit (insert v vs) A
unfolding insert
fit_insert f nil_fit = cons_fit f nil_fit
fit_insert {v = v} f (cons_fit {v = w} x h) = fit_place (order v w) f (cons_fit x h) (fit_insert f h)

pub fit_ascending : {A : Ty} {vs : Values} → AllFit vs A → AllFit (ascending vs) A
unfolding ascending
fit_ascending nil_fit = nil_fit
fit_ascending (cons_fit x h) = fit_insert x (fit_ascending h)

data AllYield (A : Ty) : Bool → Option Values → Type 0 where
  values : {b : Bool} {vs : Values} → AllFit vs A → AllYield A b (some vs)
  failed : AllYield A true none

y_cons : {A : Ty} {p q : Bool} {r : Result} {o : Option Values} → Yields A p r → AllYield A q o → AllYield A (p || q) (cons_r r o)
y_cons (value f) (values h) = values (cons_fit f h)
y_cons {p = true} (value f) failed = failed
y_cons {p = false} (value f) failed = failed
y_cons error y = failed

y_set : {A : Ty} {b : Bool} {o : Option Values} → AllYield A b o → Yields (tset A) b (on_some fail o (λ vs. ok (make_set vs)))
unfolding make_set
y_set (values h) = value (fset (fit_ascending h))
y_set failed = error

-- records

data ArgsYield (R : Attrs) (names : ℕ → Bool) : Bool → Option Fields → Type 0 where
  fields : {b : Bool} {fs : Fields} → FieldsFit fs R → ((t : ℕ) → found (find t fs) ≡ names t) → ArgsYield R names b (some fs)
  failed : ArgsYield R names true none

found_pick : (b : Bool) (v : Value) (o : Option Value) (n : Bool) → found o ≡ n → found (pick b v o) ≡ (b || n)
found_pick true v o n e = refl
found_pick false v o n e = e

y_arg : {R : Attrs} {A : Ty} (t : ℕ) (e : Expr) (gs : Args) {p q : Bool} {r : Result} {o : Option Fields}
    → declared t R ≡ some A → Yields A p r → ArgsYield R (λ u. named u gs) q o → ArgsYield R (λ u. named u (gcons t e gs)) (p || q) (field_r t r o)
y_arg t e gs d (value {v = v} f) (fields {fs = fs} h n) = fields (one_field d f h) (λ u. found_pick (eqb u t) v (find u fs) _ (n u))
y_arg t e gs {p = true} d (value f) failed = failed
y_arg t e gs {p = false} d (value f) failed = failed
y_arg t e gs d error y = failed

y_rec : {R : Attrs} {names : ℕ → Bool} {b : Bool} {o : Option Fields} → Complete R names → ArgsYield R names b o → Yields (trec R) b (on_some fail o (λ fs. ok (vrec fs)))
y_rec {R = R} c (fields h n) = value (frec h (subst (Complete R) (fun_ext (λ t. sym (n t))) c))
y_rec c failed = error

module _ (S : Schema) (C : Env) (ft : EnvFits S C) where
  mutual
    pub yields : {e : Expr} {T : Ty} → Typed S e T → Yields T (can_err e) (eval S C e)
    yields (tlit f) = value f
    yields terr = error
    yields (tvar {x = x} q) = value (subst (Fits (C.request x)) q (ft.request x))
    yields (tand a b) = y_and (yields a) (yields b)
    yields (tor a b) = y_or (yields a) (yields b)
    yields (tite c a b) = y_if (yields c) (yields a) (yields b)
    yields (tun o a) = y_un S o (yields a)
    yields (tbin o a b) = y_bin S o (yields a) (yields b)
    yields (trel o a b) = y_rel S C ft o (yields a) (yields b)
    yields (tget {t = t} e a) = y_get S C ft t e (yields a)
    yields (thas {t = t} e a) = y_has S C ft t e (yields a)
    yields (tpath {t = t} {ts = ts} p a) = y_path S C ft t ts p (yields a)
    yields (tset' h) = y_set (yields_all h)
    yields (trec' h c) = y_rec c (yields_args h)

    yields_all : {es : Exprs} {A : Ty} → AllTyped S es A → AllYield A (can_errs es) (evals S C es)
    yields_all nil_typed = values nil_fit
    yields_all (cons_typed e h) = y_cons (yields e) (yields_all h)

    yields_args : {gs : Args} {R : Attrs} → ArgsTyped S gs R → ArgsYield R (λ t. named t gs) (can_err_args gs) (eval_args S C gs)
    yields_args no_arg = fields no_field (λ t. refl)
    yields_args (one_arg {t = t} {e = x} {gs = gs} d e h) = y_arg t x gs d (yields e) (yields_args h)
