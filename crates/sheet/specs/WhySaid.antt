-- Document 02, 2.2 and 2.8, over what the bytes of an answer say: the policy line that its name stands for.
use Rattle.std.specs.Prelude.{◌≡◌, Bool, cond, ◌&&◌, List, [], ◌∷◌, ℕ}
use Rattle.std.proofs.Math.Option.{some}
use Rattle.cedar.specs.Response.{Effect, is_permit, is_forbid, is_true, Decision, allow, deny, undecided}
use Rattle.sheet.specs.Forms.{Mode}
use Rattle.sheet.specs.Why.{first_name}
use Rattle.sheet.specs.ReadAnswer.{PolicyLine, Said, read_answer}

-- the ids of the lines of an effect that are called true, in their order
abbrev pub true_lines : (Effect → Bool) → List PolicyLine → List ℕ
true_lines f [] = []
true_lines f (p ∷ ps) = cond (f p.effect && is_true p.class) (p.id ∷ true_lines f ps) (true_lines f ps)

-- "a true forbid for a deny, a true permit for an allow"
abbrev pub printed_for : Decision → List PolicyLine → List ℕ
printed_for allow ps = true_lines is_permit ps
printed_for deny ps = true_lines is_forbid ps
printed_for undecided ps = []

-- an answer's bytes read back, and its name is that of the first such line, none where there is none
pub record Explained (m : Mode) (answer : List ℕ) : Type 0 where
  pub said : Said
  pub reads : read_answer m answer ≡ some said
  pub explains : said.why ≡ first_name (printed_for said.decision said.policies)
