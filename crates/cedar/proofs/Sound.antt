-- Soundness of interpretation: on every complete request and entities that fit and agree, what is left of a tree has its type and yields what the tree yields.
use mathlib.Core.Path.{◌≡◌, refl, subst, sym, ◌∙◌, ap, ap₂, fun_ext}
use mathlib.Core.Bool.{◌||◌}
use mathlib.Core.Option.{Option, none, some}
use Prim.Native.Nat.{ℕ}
use lib.Dec.{eqb}
use Rattle.cedar.specs.Value.{Value, vrec, ok, fail, bind, on_some}
use Rattle.cedar.specs.Canonical.{make_set}
use Rattle.cedar.specs.Types.{Ty, Attrs, Complete, Schema, Var}
use Rattle.cedar.specs.Residual.{Expr, var, Exprs, Args}
use Rattle.cedar.specs.Typing.{named, Typed, tlit, terr, tvar, tand, tor, tite, tun, tbin, trel, tget, thas, tpath, tset', trec', AllTyped, nil_typed, cons_typed, ArgsTyped, no_arg, one_arg}
use Rattle.cedar.specs.Entities.{Env, PEnv, EnvFits}
use Rattle.cedar.proofs.Agrees.{Knows}
use Rattle.cedar.specs.Evaluate.{eval, evals, eval_args, eval_and, eval_or, eval_if, bind2, apply_un, apply_bin, apply_rel, apply_get, apply_has, apply_path, cons_r, field_r}
use Rattle.cedar.specs.Interpret.{interpret, interprets, interpret_args, class, step_var}
use Rattle.cedar.proofs.Kept.{Kept, kept, k_lit, class_says}
use Rattle.cedar.proofs.SoundLogic.{sound_and, sound_or, sound_if}
use Rattle.cedar.proofs.SoundPlain.{sound_un, sound_bin}
use Rattle.cedar.proofs.SoundRel.{sound_rel}
use Rattle.cedar.proofs.SoundAttr.{sound_get, sound_has, sound_path}
use Rattle.cedar.proofs.SoundMake.{sound_set, sound_rec}

module _ (S : Schema) (P : PEnv) (C : Env) (ft : EnvFits S C) (ag : Knows P C) where
  record AllKept (es : Exprs) (A : Ty) : Type 0 where
    typed : AllTyped S (interprets S P es) A
    same : evals S C (interprets S P es) ≡ evals S C es

  record ArgsKept (gs : Args) (R : Attrs) : Type 0 where
    typed : ArgsTyped S (interpret_args S P gs) R
    same : eval_args S C (interpret_args S P gs) ≡ eval_args S C gs
    names : (t : ℕ) → named t (interpret_args S P gs) ≡ named t gs

  sound_var : {T : Ty} {x : Var} (o : Option Value) → P.request x ≡ o → S.request x ≡ T → Kept S C (var T x) T (step_var S P T (var T x) o)
  sound_var none e q = kept S C ft (tvar q)
  sound_var {x = x} (some v) e q = k_lit S C ft (tvar q) (ap ok (ag.request x v e))

  -- first the operands, then the step
  after : {e e' r : Expr} {T : Ty} → Kept S C e' T r → eval S C e' ≡ eval S C e → Kept S C e T r
  after k q = record { typed = k.typed; same = k.same ∙ q }

  mutual
    pub sound : {e : Expr} {T : Ty} → Typed S e T → Kept S C e T (interpret S P e)
    sound (tlit f) = kept S C ft (tlit f)
    sound terr = kept S C ft terr
    sound (tvar {x = x} q) = sound_var (P.request x) refl q
    sound (tand {a = a} {b = b} ta tb) = let k = sound ta in let l = sound tb in
        after (sound_and S C ft k.typed l.typed (class (interpret S P a)) (class (interpret S P b)) (class_says S C (interpret S P a)) (class_says S C (interpret S P b))) (ap₂ eval_and k.same l.same)
    sound (tor {a = a} {b = b} ta tb) = let k = sound ta in let l = sound tb in
        after (sound_or S C ft k.typed l.typed (class (interpret S P a)) (class (interpret S P b)) (class_says S C (interpret S P a)) (class_says S C (interpret S P b))) (ap₂ eval_or k.same l.same)
    sound (tite {c = c} tc ta tb) = let j = sound tc in let k = sound ta in let l = sound tb in
        after (sound_if S C ft j.typed k.typed l.typed (class (interpret S P c)) (class_says S C (interpret S P c))) (λ i. eval_if (j.same i) (k.same i) (l.same i))
    sound (tun {u = u} o ta) = let k = sound ta in after (sound_un S P C ft o k.typed) (λ i. bind (k.same i) (apply_un S u))
    sound (tbin {o = o} h ta tb) = let k = sound ta in let l = sound tb in after (sound_bin S P C ft h k.typed l.typed) (λ i. bind2 (k.same i) (l.same i) (apply_bin o))
    sound (trel {o = o} h ta tb) = let k = sound ta in let l = sound tb in after (sound_rel S C ft P ag h k.typed l.typed) (λ i. bind2 (k.same i) (l.same i) (apply_rel C o))
    sound (tget {t = t} e ta) = let k = sound ta in after (sound_get S C ft P ag e k.typed) (λ i. bind (k.same i) (apply_get C t))
    sound (thas {t = t} e ta) = let k = sound ta in after (sound_has S C ft P ag t e k.typed) (λ i. bind (k.same i) (apply_has C t))
    sound (tpath {t = t} {ts = ts} p ta) = let k = sound ta in after (sound_path S C ft P ag t ts p k.typed) (λ i. bind (k.same i) (apply_path C ts t))
    sound (tset' h) = let k = sound_all h in after (sound_set S C ft P k.typed) (λ i. on_some fail (k.same i) (λ vs. ok (make_set vs)))
    sound (trec' {R = R} h c) = let k = sound_args h in
        after (sound_rec S C ft P k.typed (subst (Complete R) (fun_ext (λ t. sym (k.names t))) c)) (λ i. on_some fail (k.same i) (λ fs. ok (vrec fs)))

    sound_all : {es : Exprs} {A : Ty} → AllTyped S es A → AllKept es A
    sound_all nil_typed = record { typed = nil_typed; same = refl }
    sound_all (cons_typed h hs) = let k = sound h in let l = sound_all hs in record { typed = cons_typed k.typed l.typed; same = λ i. cons_r (k.same i) (l.same i) }

    sound_args : {gs : Args} {R : Attrs} → ArgsTyped S gs R → ArgsKept gs R
    sound_args no_arg = record { typed = no_arg; same = refl; names = λ t. refl }
    sound_args (one_arg {t = t} d h hs) = let k = sound h in let l = sound_args hs in
        record { typed = one_arg d k.typed l.typed; same = λ i. field_r t (k.same i) (l.same i); names = λ u. ap (λ b. eqb u t || b) (l.names u) }
