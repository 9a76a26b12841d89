-- Document 02, 2.1, "Finish an application": a partial and a complete sheet, and the answer that the residuals of the one give on the other.
use Rattle.std.specs.Prelude.{Bool, false, cond, List, [], ◌∷◌, ℕ, zero, suc, ◌+◌, ◌-◌, length, get_or, drop}
use Rattle.std.proofs.Math.Option.{Option, none, some}
use Rattle.cedar.specs.Value.{Value, vbool, on_some}
use Rattle.cedar.specs.Residual.{Expr}
use Rattle.cedar.specs.Evaluate.{eval}
use Rattle.cedar.specs.Response.{Verdict}
use Rattle.cedar.specs.Runs.{NVerdict, result_class}
use Rattle.sheet.specs.Forms.{partial, complete, TEXT, VALUE, no_key}
use Rattle.sheet.specs.State.{State, count, counts, before, sum}
use Rattle.sheet.specs.Sheet.{read}
use Rattle.sheet.specs.Content.{values_from, contents, schema, env}
use Rattle.sheet.specs.Literals.{valued}
use Rattle.sheet.specs.Answer.{run, complete_of}
use Rattle.sheet.specs.Agreement.{agrees}
use Rattle.sheet.specs.Call.{Returned, returns, lent_then, checked_then, fitted, outputs}
use Rattle.finished.specs.Breaks.{breaks_at}

-- ---- the line of number 11

-- the least number below n that passes
abbrev pub least_below : (ℕ → Bool) → ℕ → Option ℕ
least_below f zero = none
least_below f (suc n) = on_some (cond (f n) (some n) none) (least_below f n) some

-- how many lines of the complete sheet stand before the first of key k that breaks agreement
abbrev pub break_in : State → State → ℕ → Option ℕ
break_in p c k = on_some none (least_below (breaks_at p c k) (count c k)) (λ i. some (before c k + i))

-- of n keys from k on
abbrev pub break_from : State → State → ℕ → ℕ → Option ℕ
break_from p c k zero = none
break_from p c k (suc n) = on_some (break_from p c (suc k) n) (break_in p c k) some

-- "the first line of the complete sheet that breaks agreement (the line after its last if none does and one is lacking)"; 0 where they agree. No line of the first key is asked
unfoldable pub breaking_line : State → State → ℕ
breaking_line p c = cond (agrees p c) 0 (on_some (suc (sum (counts c))) (break_from p c TEXT (no_key - TEXT)) suc)

-- ---- "its decision, counts and policy lines from what the residuals yield"

-- what a number of the partial sheet's values and the made ones stands for
abbrev pub content_of : State → ℕ → Value
content_of p n = get_or (values_from (contents p) (drop (count p VALUE) (run partial p).rows)) n (vbool false)

-- the tree under a residual's root, by content
abbrev pub residual_of : State → NVerdict → Expr
residual_of p l = valued (content_of p) l.root

abbrev pub yields_of : State → State → List NVerdict → List Verdict
yields_of p c [] = []
yields_of p c (l ∷ ls) = record { effect = l.effect; class = result_class (eval (schema c) (env c) (residual_of p l)) } ∷ yields_of p c ls

unfoldable pub finished_results : State → State → List Verdict
finished_results p c = yields_of p c (run partial p).lines

-- "The answer has a complete answer's form", its name too from what the residuals yield
unfoldable pub finished_answer : State → State → List ℕ
finished_answer p c = complete_of p (finished_results p c)

-- ---- the call

-- 11, or 10, or accepted; 9 does not arise
abbrev pub at_line : State → State → ℕ → ℕ → Returned
at_line p c out zero = fitted out (length (finished_answer p c))
at_line p c out (suc l) = returns 11 (suc l) 0

-- "Both sheets pass their own checks first, the partial one before the other."
unfoldable pub finish_returned : ℕ → ℕ → ℕ → List ℕ → List ℕ → Returned
finish_returned work₁ work₂ out p c =
    let s = (read partial p).state in
    let t = (read complete c).state in
    lent_then work₁ work₂ (checked_then partial p (checked_then complete c (at_line s t out (breaking_line s t))))

unfoldable pub finish_written : ℕ → ℕ → List ℕ → List ℕ → List ℕ → List ℕ
finish_written work₁ work₂ buffer p c = outputs (finish_returned work₁ work₂ (length buffer) p c).number (finished_answer (read partial p).state (read complete c).state) buffer
