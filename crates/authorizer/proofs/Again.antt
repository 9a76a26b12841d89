-- DOCUMENT 02, 2.13, FOR THE CALLS: the residuals of the answer that a call on a partial sheet leaves in its buffer, interpreted again, give that answer. Assumes nothing.
use mathlib.Core.Path.{◌≡◌, subst}
use mathlib.Core.List.{List}
use Prim.Native.Nat.{ℕ}
use Rattle.sheet.specs.Forms.{partial}
use Rattle.again.specs.Again.{Again}
use Rattle.again.proofs.AnswerAgain.{answer_again}
use Rattle.authorizer.specs.Calls.{Run, bytes_in}
use Rattle.authorizer.proofs.Demand3.{answered, same_bytes}

pub again_calls : (sheet : List ℕ) (x : Run partial sheet) → x.number ≡ 0 → Again sheet (bytes_in x)
again_calls sheet x e = subst (Again sheet) (same_bytes x e) (answer_again sheet (answered x e))
