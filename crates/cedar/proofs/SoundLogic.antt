-- The steps of and, or and if keep type and result.
use mathlib.Core.Path.{◌≡◌, refl, sym}
use mathlib.Core.Bool.{Bool, true, false, cond}
use Rattle.cedar.proofs.Tools.{no_true}
use Rattle.cedar.specs.Value.{vbool, Result, ok_bool}
use Rattle.cedar.specs.Types.{Ty, tbool, Schema, fbool}
use Rattle.cedar.specs.Residual.{Expr, lit, and, or, ite, can_err, Class, ctrue, cfalse, cerror, copen}
use Rattle.cedar.specs.Typing.{Typed, tlit, tand, tor, tite}
use Rattle.cedar.specs.Entities.{Env, EnvFits}
use Rattle.cedar.specs.Evaluate.{eval, eval_and, eval_or, bool_of}
use Rattle.cedar.specs.Interpret.{simp_and, simp_or, simp_if}
use Rattle.cedar.proofs.Yields.{Yields, value, error}
use Rattle.cedar.proofs.TypeSound.{yields}
use Rattle.cedar.proofs.Kept.{Says, Kept, kept, k_lit, k_err}

bool_same : {p : Bool} {r : Result} → Yields tbool p r → r ≡ bool_of r ok_bool
bool_same (value fbool) = refl
bool_same error = refl

and_true : {p : Bool} {r : Result} → Yields tbool p r → r ≡ eval_and r (ok_bool true)
and_true (value (fbool {b = true})) = refl
and_true (value (fbool {b = false})) = refl
and_true error = refl

and_false : {p : Bool} {r : Result} → Yields tbool p r → p ≡ false → eval_and r (ok_bool false) ≡ ok_bool false
and_false (value (fbool {b = true})) e = refl
and_false (value (fbool {b = false})) e = refl
and_false error e = no_true (sym e)

or_false : {p : Bool} {r : Result} → Yields tbool p r → r ≡ eval_or r (ok_bool false)
or_false (value (fbool {b = true})) = refl
or_false (value (fbool {b = false})) = refl
or_false error = refl

or_true : {p : Bool} {r : Result} → Yields tbool p r → p ≡ false → eval_or r (ok_bool true) ≡ ok_bool true
or_true (value (fbool {b = true})) e = refl
or_true (value (fbool {b = false})) e = refl
or_true error e = no_true (sym e)

module _ (S : Schema) (C : Env) (ft : EnvFits S C) where
  module _ {a b : Expr} (ta : Typed S a tbool) (tb : Typed S b tbool) where
    and_cut : (c : Bool) → can_err a ≡ c → eval S C b ≡ ok_bool false → Kept S C (and tbool a b) tbool (cond c (and tbool a (lit tbool (vbool false))) (lit tbool (vbool false)))
    and_cut true q e = record { typed = tand ta (tlit fbool); same = rw e }
    and_cut false q e = k_lit S C ft (tand ta tb) (rw e (and_false (yields S C ft ta) q))

    pub sound_and : (c d : Class) → Says c (eval S C a) → Says d (eval S C b) → Kept S C (and tbool a b) tbool (simp_and tbool a b c d)
    sound_and cfalse d m n = k_lit S C ft (tand ta tb) (rw m)
    sound_and ctrue d m n = record { typed = tb; same = rw m (bool_same (yields S C ft tb)) }
    sound_and cerror d m n = k_err S C ft (tand ta tb) (rw m)
    sound_and copen ctrue m n = record { typed = ta; same = rw n (and_true (yields S C ft ta)) }
    sound_and copen cfalse m n = and_cut (can_err a) refl n
    sound_and copen cerror m n = kept S C ft (tand ta tb)
    sound_and copen copen m n = kept S C ft (tand ta tb)

    or_cut : (c : Bool) → can_err a ≡ c → eval S C b ≡ ok_bool true → Kept S C (or tbool a b) tbool (cond c (or tbool a (lit tbool (vbool true))) (lit tbool (vbool true)))
    or_cut true q e = record { typed = tor ta (tlit fbool); same = rw e }
    or_cut false q e = k_lit S C ft (tor ta tb) (rw e (or_true (yields S C ft ta) q))

    pub sound_or : (c d : Class) → Says c (eval S C a) → Says d (eval S C b) → Kept S C (or tbool a b) tbool (simp_or tbool a b c d)
    sound_or ctrue d m n = k_lit S C ft (tor ta tb) (rw m)
    sound_or cfalse d m n = record { typed = tb; same = rw m (bool_same (yields S C ft tb)) }
    sound_or cerror d m n = k_err S C ft (tor ta tb) (rw m)
    sound_or copen cfalse m n = record { typed = ta; same = rw n (or_false (yields S C ft ta)) }
    sound_or copen ctrue m n = or_cut (can_err a) refl n
    sound_or copen cerror m n = kept S C ft (tor ta tb)
    sound_or copen copen m n = kept S C ft (tor ta tb)

  pub sound_if : {T : Ty} {c a b : Expr} → Typed S c tbool → Typed S a T → Typed S b T → (d : Class) → Says d (eval S C c) → Kept S C (ite T c a b) T (simp_if T c a b d)
  sound_if tc ta tb ctrue m = record { typed = ta; same = rw m }
  sound_if tc ta tb cfalse m = record { typed = tb; same = rw m }
  sound_if tc ta tb cerror m = k_err S C ft (tite tc ta tb) (rw m)
  sound_if tc ta tb copen m = kept S C ft (tite tc ta tb)
