-- What each policy is called, from its row and the word of its class.
use Rattle.std.specs.Prelude.{Bool, List, [], ◌∷◌, ℕ, eqb, get_or, drop}
use Rattle.cedar.specs.Residual.{Class, ctrue, cfalse, cerror, copen}
use Rattle.cedar.specs.Response.{Effect, permit, forbid, Verdict, Decision, allow, deny, undecided}
use Rattle.sheet.specs.Forms.{at}
use Rattle.sheet.specs.Content.{effect_of}
use Rattle.forms.specs.Tags.{PERMIT, FORBID}
use Rattle.table.specs.Layout.{RUN, rows_of}
use Rattle.residual.specs.Classes.{class_number}
use Rattle.response.specs.declared.Decision as D
use Rattle.response.specs.declared.Effect as E
use Rattle.response.specs.declared.Policies.{Policies}

-- a class by its number; a greater number is open too
abbrev pub class_in : ℕ → Class
class_in n = get_or (ctrue ∷ cfalse ∷ cerror ∷ copen ∷ []) n copen

-- the effect that a policy's row says
abbrev pub effect_in : List ℕ → Effect
effect_in r = effect_of (at r 1)

abbrev pub effect_number : Effect → ℕ
effect_number permit = PERMIT
effect_number forbid = FORBID

abbrev pub effect_is : ℕ → Effect → Bool
effect_is n e = eqb (effect_number e) n

abbrev pub class_is : ℕ → Class → Bool
class_is n c = eqb (class_number c) n

-- the policies of these rows, with a word of class for each
abbrev pub verdicts_of : List (List ℕ) → List ℕ → List Verdict
verdicts_of [] cs = []
verdicts_of (r ∷ rs) cs = record { effect = effect_in r; class = class_in (get_or cs 0 0) } ∷ verdicts_of rs (drop 1 cs)

-- the policies of a sheet that the words a hold
unfoldable pub verdicts_in : List ℕ → List ℕ → List Verdict
verdicts_in a cs = verdicts_of (rows_of a RUN) cs

-- those of the code
abbrev pub verdicts_said : Policies → List Verdict
verdicts_said p = verdicts_in p.rows.now p.classes.now

-- the effect that the code answers
abbrev pub effect_said : E.Effect → Effect
effect_said E.TheVariants.Permit = permit
effect_said E.TheVariants.Forbid = forbid

-- the decision that the code answers
abbrev pub decision_of : D.Decision → Decision
decision_of D.TheVariants.Allow = allow
decision_of D.TheVariants.Deny = deny
decision_of D.TheVariants.Open = undecided
