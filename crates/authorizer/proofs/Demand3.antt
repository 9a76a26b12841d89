-- DEMAND 3 FOR THE CALLS: three runs, each in whatever work slices and answer buffer it was lent. Assumes nothing.
use mathlib.Core.Path.{◌≡◌, sym, ◌∙◌, ap₂, subst}
use mathlib.Core.Bool.{true}
use mathlib.Core.List.{List}
use Prim.Native.Nat.{ℕ}
use lib.ListN.{length, take}
use Rattle.sheet.specs.Forms.{Mode, partial, complete}
use Rattle.sheet.specs.Sheet.{read}
use Rattle.sheet.specs.Agreement.{agrees}
use Rattle.sheet.specs.Demand3.{Answered, bytes_of, Demand3}
use Rattle.sheet.proofs.demand3.Demand3Answers.{demand_3_bytes}
use Rattle.authorizer.specs.Calls.{Run, bytes_in}

module _ {m : Mode} {sheet : List ℕ} (x : Run m sheet) (e : x.number ≡ 0) where
  abbrev pub answered : Answered m sheet
  answered = record { work₁ = length x.work₁; work₂ = length x.work₂; buffer = x.buffer; zero_number = sym x.called.number_is ∙ e }

  pub same_bytes : bytes_of answered ≡ bytes_in x
  same_bytes = ap₂ take (sym x.called.length_is) (sym x.called.buffer)

pub demand_3_calls : (p c d : List ℕ) (x : Run partial p) (y : Run complete c) (z : Run complete d) → x.number ≡ 0 → y.number ≡ 0 → z.number ≡ 0
    → agrees (read partial p).state (read complete c).state ≡ true → agrees (read partial p).state (read complete d).state ≡ true → Demand3 p c d (bytes_in x) (bytes_in y) (bytes_in z)
demand_3_calls p c d x y z e f g h k =
    subst (λ (l : List ℕ). Demand3 p c d l (bytes_in y) (bytes_in z)) (same_bytes x e)
    (subst (λ (l : List ℕ). Demand3 p c d (bytes_of (answered x e)) l (bytes_in z)) (same_bytes y f)
    (subst (λ (l : List ℕ). Demand3 p c d (bytes_of (answered x e)) (bytes_of (answered y f)) l) (same_bytes z g)
    (demand_3_bytes p c d (answered x e) (answered y f) (answered z g) h k)))
