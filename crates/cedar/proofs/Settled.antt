-- Demand 3 by content: whatever complete request and entities fit and agree, everything that the partial answer settles is the same there.
use mathlib.Core.Path.{◌≡◌, refl, sym, subst}
use mathlib.Core.Bool.{Bool, true, false}
use mathlib.Core.List.{List}
use Prim.Native.Nat.{ℕ}
use Rattle.cedar.proofs.Tools.{no_true}
use Rattle.cedar.specs.Value.{Result}
use Rattle.cedar.specs.Types.{tbool, Schema, fbool}
use Rattle.cedar.specs.Residual.{Expr, Class, ctrue, cfalse, cerror, copen}
use Rattle.cedar.specs.Typing.{Typed}
use Rattle.cedar.specs.Entities.{Env, PEnv, EnvFits, Agree}
use Rattle.cedar.proofs.Agrees.{agree_knows}
use Rattle.cedar.specs.Evaluate.{eval}
use Rattle.cedar.specs.Interpret.{class, interpret}
use Rattle.cedar.specs.Table.{At, now, later}
use Rattle.cedar.specs.Response.{Verdict, allow, deny, is_open, decision, cedar, Choice, keep_true, keep_false, keep_error, take_true, take_false, take_error, Choices, done, also}
use Rattle.cedar.proofs.Decisions.{allow_settled, deny_settled}
use Rattle.cedar.proofs.Yields.{Yields, value, error}
use Rattle.cedar.proofs.TypeSound.{yields}
use Rattle.cedar.proofs.Kept.{Says, class_says}
use Rattle.cedar.proofs.Sound.{sound}
pub use Rattle.cedar.specs.ContentRun.{Policies, no_policy, one_policy, partial_answer}
use Rattle.cedar.specs.Runs.{Policy, result_class, complete_answer}

-- a line that is not open stays as it is
pub choice_settled : {c d : Class} → Choice c d → is_open c ≡ false → d ≡ c
choice_settled keep_true q = refl
choice_settled keep_false q = refl
choice_settled keep_error q = refl
choice_settled take_true q = no_true (sym q)
choice_settled take_false q = no_true (sym q)
choice_settled take_error q = no_true (sym q)

pub line_settled : {ls ms : List Verdict} {n : ℕ} {l m : Verdict} → Choices ls ms → At ls n l → At ms n m → is_open l.class ≡ false → m ≡ l
line_settled {n = n} {l = l} {m = m} done x10 _ q = elim x10 [ ]
line_settled (also {e = e} h hs) now now q = λ i. record { effect = e; class = choice_settled h q i }
line_settled (also h hs) (later a) (later b) q = line_settled hs a b q

-- each policy of a typed list is typed
pub policy_typed : {S : Schema} {ps : List Policy} {n : ℕ} {p : Policy} → Policies S ps → At ps n p → Typed S p.tree tbool
policy_typed {S = S} {n = n} {p = p} no_policy x3 = elim x3 [ ]
policy_typed (one_policy h hs) now = h
policy_typed (one_policy h hs) (later a) = policy_typed hs a

module _ (S : Schema) where
  -- a class that is not open is the result; an open one may turn into any
  choice : {b : Bool} {r : Result} (c : Class) → Says c r → Yields tbool b r → Choice c (result_class r)
  choice ctrue m y = rw m keep_true
  choice cfalse m y = rw m keep_false
  choice cerror m y = rw m keep_error
  choice copen m (value (fbool {b = true})) = take_true
  choice copen m (value (fbool {b = false})) = take_false
  choice copen m error = take_error

  says_of : (c : Class) (r s : Result) → r ≡ s → Says c r → Says c s
  says_of c r s e m = subst (Says c) e m

  module _ (P : PEnv) (C : Env) (ft : EnvFits S C) (ag : Agree P C) where
    -- each policy's line: true, false and error are final
    pub lines_settled : {ps : List Policy} → Policies S ps → Choices (partial_answer S P ps) (complete_answer S C ps)
    lines_settled no_policy = done
    lines_settled (one_policy {p = p} h hs) =
        also (choice (class (interpret S P p.tree)) (subst (Says (class (interpret S P p.tree))) (sound S P C ft (agree_knows ag) h).same (class_says S C (interpret S P p.tree))) (yields S C ft h)) (lines_settled hs)

    -- the decision, where it is given
    pub allow_final : {ps : List Policy} → Policies S ps → decision (partial_answer S P ps) ≡ allow → cedar (complete_answer S C ps) ≡ allow
    allow_final h = allow_settled (lines_settled h)

    pub deny_final : {ps : List Policy} → Policies S ps → decision (partial_answer S P ps) ≡ deny → cedar (complete_answer S C ps) ≡ deny
    deny_final h = deny_settled (lines_settled h)

    -- every residual yields what its policy yields, an error exactly where that is an error
    pub residual_yields : {e : Expr} → Typed S e tbool → eval S C (interpret S P e) ≡ eval S C e
    residual_yields h = (sound S P C ft (agree_knows ag) h).same
