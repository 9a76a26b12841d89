-- The steps of set and record keep type and result.
use mathlib.Core.Path.{◌≡◌, refl, ◌∙◌}
use mathlib.Core.Bool.{Bool, true, false, ◌||◌, cond}
use mathlib.Core.Option.{Option, none, some}
use Prim.Native.Nat.{ℕ}
use Rattle.cedar.proofs.Tools.{no_true}
use Rattle.cedar.specs.Value.{Value, Values, Fields, vrec, Result, ok, fail, on_some}
use Rattle.cedar.specs.Canonical.{make_set}
use Rattle.cedar.specs.Types.{Ty, tset, trec, Attrs, Complete, Schema}
use Rattle.cedar.specs.Residual.{Expr, lit, err, set, rec, Exprs, enil, econs, Args, gnil, gcons, value, error, open', view, is_error, any_error, any_error_arg}
use Rattle.cedar.specs.Typing.{named, Typed, tset', trec', AllTyped, ArgsTyped}
use Rattle.cedar.specs.Entities.{Env, PEnv, EnvFits}
use Rattle.cedar.specs.Evaluate.{eval, evals, eval_args, cons_r, field_r}
use Rattle.cedar.specs.Interpret.{View, cons_v, field_v, values, fields, step_set, step_rec}
use Rattle.cedar.proofs.Kept.{Means, Kept, view_means, kept, k_lit, k_err}

-- what a list of views says of the list of results
abbrev MeansAll : {A : Type 0} → Option A → Option A → Type 0
MeansAll none r = Unit {0}
MeansAll (some a) r = r ≡ some a

means_cons : (w : View) (o : Option Values) (r : Result) (x : Option Values) → Means w r → MeansAll o x → MeansAll (cons_v w o) (cons_r r x)
means_cons (value v) (some vs) r x m n = rw (m, n)
means_cons (value v) none r x m n = tt
means_cons error o r x m n = tt
means_cons open' o r x m n = tt

means_field : (t : ℕ) (w : View) (o : Option Fields) (r : Result) (x : Option Fields) → Means w r → MeansAll o x → MeansAll (field_v t w o) (field_r t r x)
means_field t (value v) (some fs) r x m n = rw (m, n)
means_field t (value v) none r x m n = tt
means_field t error o r x m n = tt
means_field t open' o r x m n = tt

cons_none : (r : Result) {x : Option Values} → x ≡ none → cons_r r x ≡ none
cons_none (ok v) e = rw e
cons_none fail e = refl

field_none : (t : ℕ) (r : Result) {x : Option Fields} → x ≡ none → field_r t r x ≡ none
field_none t (ok v) e = rw e
field_none t fail e = refl

error_cons : (w : View) (r : Result) (b : Bool) {x : Option Values} → Means w r → (b ≡ true → x ≡ none) → (is_error w || b) ≡ true → cons_r r x ≡ none
error_cons (value v) r b m h e = cons_none r (h e)
error_cons error r b m h e = rw m
error_cons open' r b m h e = cons_none r (h e)

error_field : (t : ℕ) (w : View) (r : Result) (b : Bool) {x : Option Fields} → Means w r → (b ≡ true → x ≡ none) → (is_error w || b) ≡ true → field_r t r x ≡ none
error_field t (value v) r b m h e = field_none t r (h e)
error_field t error r b m h e = rw m
error_field t open' r b m h e = field_none t r (h e)

module _ (S : Schema) (C : Env) where
  all_mean : (es : Exprs) → MeansAll (values es) (evals S C es)
  all_mean enil = refl
  all_mean (econs e es) = means_cons (view e) (values es) (eval S C e) (evals S C es) (view_means S C e) (all_mean es)

  args_mean : (gs : Args) → MeansAll (fields gs) (eval_args S C gs)
  args_mean gnil = refl
  args_mean (gcons t e gs) = means_field t (view e) (fields gs) (eval S C e) (eval_args S C gs) (view_means S C e) (args_mean gs)

  any_error_law : (es : Exprs) → any_error es ≡ true → evals S C es ≡ none
  any_error_law enil e = no_true e
  any_error_law (econs x es) e = error_cons (view x) (eval S C x) (any_error es) (view_means S C x) (any_error_law es) e

  any_error_arg_law : (gs : Args) → any_error_arg gs ≡ true → eval_args S C gs ≡ none
  any_error_arg_law gnil e = no_true e
  any_error_arg_law (gcons t x gs) e = error_field t (view x) (eval S C x) (any_error_arg gs) (view_means S C x) (any_error_arg_law gs) e

  module _ (ft : EnvFits S C) {keep : Expr} {T : Ty} (tk : Typed S keep T) where
    -- all values, or an error among them, or neither
    k_make : {A : Type 0} (f : A → Value) (o : Option A) (b : Bool) {x : Option A} → eval S C keep ≡ on_some fail x (λ a. ok (f a)) → MeansAll o x → (b ≡ true → x ≡ none)
        → Kept S C keep T (on_some (cond b (err T) keep) o (λ a. lit T (f a)))
    k_make f (some a) b e m h = k_lit S C ft tk (e ∙ rw m)
    k_make f none true e m h = k_err S C ft tk (e ∙ rw (h refl))
    k_make f none false e m h = kept S C ft tk

  module _ (ft : EnvFits S C) (P : PEnv) where
    pub sound_set : {es : Exprs} {A : Ty} → AllTyped S es A → Kept S C (set (tset A) es) (tset A) (step_set S P (tset A) es)
    sound_set {es = es} h = k_make ft (tset' h) make_set (values es) (any_error es) refl (all_mean es) (any_error_law es)

    pub sound_rec : {gs : Args} {R : Attrs} → ArgsTyped S gs R → Complete R (λ t. named t gs) → Kept S C (rec (trec R) gs) (trec R) (step_rec S P (trec R) gs)
    sound_rec {gs = gs} h c = k_make ft (trec' h c) vrec (fields gs) (any_error_arg gs) refl (args_mean gs) (any_error_arg_law gs)
