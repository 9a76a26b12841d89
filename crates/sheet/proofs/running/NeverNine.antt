-- "1,024 given and 1,024 made always fit": each use of a node makes at most one value, and there are at most 1,024 values and 1,024 uses.
-- So the table of numbers needs none for a value too many.
use mathlib.Core.Path.{◌≡◌, refl, sym, ◌∙◌, ap}
use mathlib.Core.Bool.{Bool, true, false, cond, ◌||◌}
use mathlib.Core.List.{List}
use Prim.Native.Nat.{ℕ, suc, ◌≤◌, ◌+◌}
use native.Mathlib.Omega.{arith}
use borrow.Author.Tests.{le-leb}
use lib.Dec.{ltb, leb, eqb}
use lib.ListN.{length}
use Rattle.cedar.proofs.Tools.{no_true, or_left}
use Rattle.sheet.specs.Forms.{Mode, VALUE}
use Rattle.sheet.specs.State.{lines_of, count}
use Rattle.sheet.specs.Sheet.{read}
use Rattle.sheet.specs.Content.{rows_in, value_rows, n_policies, schema, n_env}
use Rattle.sheet.specs.Answer.{run, answer}
use Rattle.sheet.specs.Call.{Returned, returns, checked_then, fitted, returned}
use Rattle.sheet.proofs.reading.Lines.{accepted_history}
use Rattle.sheet.proofs.reading.Checked.{lent_by, checked_by}
use Rattle.sheet.proofs.running.MadeCount.{policy_sizes, residual_sizes, run_rows, run_nodes}
use Rattle.sheet.proofs.reading.Limits.{lines_at_most}
use Rattle.sheet.proofs.reading.Refusals.{read_small}
use Rattle.sheet.proofs.running.Uses.{policies_fit, uses_most}
use Rattle.sheet.proofs.content.ValueRows.{rows_length}

-- ---- sizes

module _ (m : Mode) (sheet : List ℕ) (e : (read m sheet).number ≡ 0) where
  -- the uses of nodes, those of each policy's tree, are at most 1,024 together, and so are the nodes of the residuals
  pub policy_sizes_law : policy_sizes (n_policies (read m sheet).state) ≤ 1024
  policy_sizes_law =
      let (h, g) = accepted_history m sheet e in
      let a = policies_fit m (read m sheet).state h in
      let b = uses_most m (read m sheet).state h in
      omega (arith, a, b)

  pub residual_sizes_law : residual_sizes (run m (read m sheet).state).lines ≤ policy_sizes (n_policies (read m sheet).state)
  unfolding run
  residual_sizes_law = run_nodes (schema (read m sheet).state) (n_env m (read m sheet).state) (n_policies (read m sheet).state) (value_rows (read m sheet).state)

  -- "Each use of a node makes at most one value": the given ones, and at most one for each node of each policy's tree
  pub made_at_most : length (run m (read m sheet).state).rows ≤ count (read m sheet).state VALUE + policy_sizes (n_policies (read m sheet).state)
  unfolding run value_rows
  made_at_most =
      let a = run_rows (schema (read m sheet).state) (n_env m (read m sheet).state) (n_policies (read m sheet).state) (rows_in (lines_of (read m sheet).state VALUE)) in
      let b = rows_length (lines_of (read m sheet).state VALUE) in
      omega (arith, a, b)

  -- "1,024 given and 1,024 made"
  pub rows_at_most : length (run m (read m sheet).state).rows ≤ 2048
  rows_at_most =
      let (h, g) = accepted_history m sheet e in
      let a = made_at_most in
      let b = lines_at_most m (read m sheet).state h VALUE in
      let c = policy_sizes_law in
      omega (arith, a, b, c)

-- ---- the table of numbers: 0 to 8 and 10

abbrev pub tabled : ℕ → Bool
tabled n = leb n 8 || eqb n 10

-- EVERY NUMBER RETURNED IS ONE OF THE TABLE'S
pub number_tabled : (m : Mode) (work₁ work₂ out : ℕ) (sheet : List ℕ) → tabled (returned m work₁ work₂ out sheet).number ≡ true
unfolding returned
number_tabled m work₁ work₂ out sheet =
    lent_by Tabled work₁ work₂ (checked_then m sheet (fitted out n)) (λ t. refl)
    (λ t. checked_by Tabled m sheet (fitted out n) refl (λ i q. let s = read_small m sheet in or_left (leb (suc i) 8) (eqb (suc i) 10) (le-leb (suc i) 8 (omega (arith, q, s)))) (λ h q. fits (ltb out n)))
  where
    n : ℕ
    n = length (answer m (read m sheet).state)

    Tabled : Returned → Type 0
    Tabled r = tabled r.number ≡ true

    fits : (c : Bool) → Tabled (cond c (returns 10 0 n) (returns 0 0 n))
    fits true = refl
    fits false = refl

-- NUMBER 9 IS NEVER RETURNED
pub never_nine : (m : Mode) (work₁ work₂ out : ℕ) (sheet : List ℕ) → (returned m work₁ work₂ out sheet).number ≡ 9 → ⊥
never_nine m work₁ work₂ out sheet e = no_true (ap tabled (sym e) ∙ number_tabled m work₁ work₂ out sheet)
