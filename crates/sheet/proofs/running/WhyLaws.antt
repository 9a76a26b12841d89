-- The name in an answer is the id of one of the sheet's policies. Assumes nothing.
use mathlib.Core.Path.{◌≡◌, refl, sym, ◌∙◌}
use mathlib.Core.Option.{none, some}
use mathlib.Core.List.{List}
use Prim.Native.Nat.{ℕ, ◌≤◌}
use Rattle.cedar.proofs.Tools.{no_some}
use Rattle.cedar.specs.Response.{Effect, Verdict, Decision, allow, deny, undecided, decision}
use Rattle.sheet.specs.Why.{Name, why}
use Rattle.sheet.proofs.answer.RowsBack.{AllSmall}
use Rattle.sheet.proofs.answer.AnswerBack.{SmallName}
use Rattle.sheet.proofs.running.WhyNamed.{FirstTrue, here, below, deny_first, allow_first, open_none}

one_small : {e : Effect} {i : ℕ} {is : List ℕ} {ls : List Verdict} → FirstTrue e i is ls → AllSmall is → i ≤ 9999
one_small here h = h.0
one_small (below n t) h = one_small t h.1

id_small : (is : List ℕ) (ls : List Verdict) (i : ℕ) → AllSmall is → why is ls ≡ some i → i ≤ 9999
id_small is ls i h q = by_decision (decision ls) refl
  where
    by_decision : (d : Decision) → decision ls ≡ d → i ≤ 9999
    by_decision allow e = one_small (allow_first is ls e q) h
    by_decision deny e = one_small (deny_first is ls e q) h
    by_decision undecided e = no_some (sym (open_none is ls e) ∙ q)

pub why_small : (is : List ℕ) (ls : List Verdict) → AllSmall is → SmallName (why is ls)
why_small is ls h = go (why is ls) refl
  where
    go : (name : Name) → why is ls ≡ name → SmallName name
    go none q = tt
    go (some i) q = id_small is ls i h q
