-- The words for a decision and a class. Assumes nothing.
use mathlib.Core.Path.{◌≡◌, refl, ap}
use mathlib.Core.List.{List, [], ◌∷◌, ◌++◌}
use Prim.Native.Nat.{ℕ, zero, suc}
use Rattle.sheet.specs.Ascii.{ascii}
use Rattle.print.specs.declared.Out.{Out}
use Rattle.print.specs.Out.{Prints}
use Rattle.print.proofs.Outs.{prints_as, prints_two}
use Rattle.sheet.specs.Answer.{decision_word}
use Rattle.response.specs.Verdicts.{decision_of, effect_number, effect_said}
use Rattle.response.specs.Verdicts.{class_in as class_called}
use Rattle.response.specs.Printed.{decision_bytes, effect_bytes, class_bytes}
use Rattle.response.specs.declared.Decision.{Decision}
use Rattle.response.specs.declared.Decision.TheVariants.{Allow, Deny, Open}
use Rattle.response.specs.declared.Effect.{Effect}
use Rattle.response.specs.declared.Effect.TheVariants.{Permit, Forbid}
use Rattle.tpe.specs.declared.Class.{Class}
use Rattle.tpe.specs.declared.Class.TheVariants.{True, False, Error, Open as Openᶜ}
use Rattle.tpe.specs.Classes.{class_in}
use Rattle.residual.specs.Classes.{class_number}

pub decision_line_law : {a b c d : Out} (x : Decision) (q : List ℕ) → q ≡ ascii (decision_word (decision_of x)) → Prints a (ascii "decision=") b → Prints b q c → Prints c (10 ∷ []) d → Prints a (decision_bytes (decision_of x)) d
decision_line_law x q e u v w = prints_as (prints_two u (prints_two v w)) (ap (λ (l : List ℕ). ascii "decision=" ++ (l ++ (10 ∷ []))) e)

-- ---- the words by case

abbrev pub word_of : Decision → List ℕ
word_of Allow = ascii "allow"
word_of Deny = ascii "deny"
word_of Open = ascii "open"

pub decision_said_law : (d : Decision) → ascii (decision_word (decision_of d)) ≡ word_of d
decision_said_law Allow = refl
decision_said_law Deny = refl
decision_said_law Open = refl

abbrev pub effect_out : Effect → List ℕ
effect_out Permit = ascii ",permit"
effect_out Forbid = ascii ",forbid"

pub effect_said_law : (e : Effect) → effect_bytes (effect_number (effect_said e)) ≡ effect_out e
effect_said_law Permit = refl
effect_said_law Forbid = refl

abbrev pub class_out : Class → List ℕ
class_out True = ascii ",true"
class_out False = ascii ",false"
class_out Error = ascii ",error"
class_out Openᶜ = ascii ",open"

pub class_said_law : (c : Class) → class_bytes (class_number (class_in c)) ≡ class_out c
class_said_law True = refl
class_said_law False = refl
class_said_law Error = refl
class_said_law Openᶜ = refl

-- a number says what the class does that is called by it
pub class_read_law : (n : ℕ) → class_bytes (class_number (class_called n)) ≡ class_bytes n
class_read_law zero = refl
class_read_law (suc zero) = refl
class_read_law (suc (suc zero)) = refl
class_read_law (suc (suc (suc zero))) = refl
class_read_law (suc (suc (suc (suc n)))) = refl
