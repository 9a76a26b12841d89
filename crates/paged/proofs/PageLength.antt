-- A page has 60 lines of 72 bytes and byte 10, 4,380 bytes in all, whatever it shows.
use mathlib.Core.Path.{◌≡◌, refl, ap}
use mathlib.Core.List.{List, [], ◌∷◌, ◌++◌}
use Prim.Native.Nat.{ℕ, zero, suc, ◌-◌, ◌*◌, ◌<◌}
use native.Mathlib.Omega.{arith}
use lib.ListN.{length, get_or, take, length-append, length-replicate, length-take}
use Rattle.cedar.specs.Response.{Decision, decision}
use Rattle.cedar.specs.Runs.{verdicts}
use Rattle.sheet.specs.Forms.{partial}
use Rattle.sheet.specs.State.{State}
use Rattle.sheet.specs.Answer.{concat, ids, run}
use Rattle.paged.specs.Page.{spaces, cell, right_cell, first_row, policy_rows, shown_rows, page_line, page_lines, page_with, page}

pub cell_length : (n : ℕ) (t : List ℕ) → length (cell n t) ≡ n
cell_length n t = omega (arith, length-append (take n t) (spaces (n - length t)), length-replicate {A = ℕ} (n - length t) 32, length-take n t)

pub right_length : (n : ℕ) (t : List ℕ) → length (right_cell n t) ≡ n
right_length n t = omega (arith, length-append (spaces (n - length t)) (take n t), length-replicate {A = ℕ} (n - length t) 32, length-take n t)

line_length : (r : List ℕ) → length (page_line r) ≡ 73
line_length r = omega (arith, length-append (cell 72 r) (10 ∷ []), cell_length 72 r)

-- a line of a page
pub record Line (l : List ℕ) : Type 0 where
  pub columns : List ℕ
  pub wide : length columns ≡ 72
  pub ends : l ≡ columns ++ (10 ∷ [])

a_line : (r : List ℕ) → Line (page_line r)
a_line r = record { columns = cell 72 r; wide = cell_length 72 r; ends = refl }

lines_many : (n : ℕ) (rs : List (List ℕ)) → length (page_lines n rs) ≡ n
lines_many zero rs = refl
lines_many (suc n) [] = ap suc (lines_many n [])
lines_many (suc n) (r ∷ rs) = ap suc (lines_many n rs)

lines_each : (n : ℕ) (rs : List (List ℕ)) (i : ℕ) → i < n → Line (get_or (page_lines n rs) i [])
lines_each zero rs i h = absurd (omega arith)
lines_each (suc n) [] zero h = a_line []
lines_each (suc n) [] (suc i) h = lines_each n [] i (omega arith)
lines_each (suc n) (r ∷ rs) zero h = a_line r
lines_each (suc n) (r ∷ rs) (suc i) h = lines_each n rs i (omega arith)

lines_length : (n : ℕ) (rs : List (List ℕ)) → length (concat (page_lines n rs)) ≡ n * 73
lines_length zero rs = refl
lines_length (suc n) [] = let a = length-append (page_line []) (concat (page_lines n [])) in let b = line_length [] in let c = lines_length n [] in omega (arith, a, b, c)
lines_length (suc n) (r ∷ rs) = let a = length-append (page_line r) (concat (page_lines n rs)) in let b = line_length r in let c = lines_length n rs in omega (arith, a, b, c)

-- "72 columns and 60 lines, each ending in byte 10"
pub record Sixty (bytes : List ℕ) : Type 0 where
  pub lines : List (List ℕ)
  pub joined : bytes ≡ concat lines
  pub sixty : length lines ≡ 60
  pub each : (i : ℕ) → i < 60 → Line (get_or lines i [])

pub with_length : (d : Decision) (rs : List (List ℕ)) → length (page_with d rs) ≡ 4380
with_length d rs = lines_length 60 (first_row d ∷ shown_rows rs)

with_lines : (d : Decision) (rs : List (List ℕ)) → Sixty (page_with d rs)
with_lines d rs = let t = first_row d ∷ shown_rows rs in record { lines = page_lines 60 t; joined = refl; sixty = lines_many 60 t; each = lines_each 60 t }

-- THE LENGTH AND THE LINES OF EVERY PAGE
pub page_length : (s : State) → length (page s) ≡ 4380
unfolding page
page_length s = with_length (decision (verdicts (run partial s).lines)) (policy_rows s (ids s) (run partial s).lines)

pub page_lines_law : (s : State) → Sixty (page s)
unfolding page
page_lines_law s = with_lines (decision (verdicts (run partial s).lines)) (policy_rows s (ids s) (run partial s).lines)
