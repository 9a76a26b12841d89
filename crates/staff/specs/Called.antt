-- Document 02, 2.14: "Each row equals the decision on the sheet with those two texts filled in": the decision that a call for a partial sheet
-- answers, read from its bytes.
use Rattle.std.specs.Prelude.{◌≡◌, List, ℕ}
use Rattle.std.proofs.Math.Option.{some}
use Rattle.cedar.specs.Response.{Decision}
use Rattle.sheet.specs.Forms.{partial}
use Rattle.sheet.specs.ReadAnswer.{Said, read_answer}

-- the bytes of a partial answer say this decision
pub record SaysDecision (bytes : List ℕ) (d : Decision) : Type 0 where
  pub said : Said
  pub reads : read_answer partial bytes ≡ some said
  pub decides : said.decision ≡ d
