-- How far the words may reach: their end, and three words more for each value that the request may still make. A made value takes its words
-- of that, and a value of the request nothing. Assumes nothing.
use mathlib.Core.Path.{◌≡◌, refl, ◌∙◌, ap, ap₂}
use mathlib.Core.Option.{some}
use mathlib.Core.List.{List, []}
use Prim.Native.Nat.{ℕ, ◌+◌, ◌*◌, ◌≤◌}
use native.Mathlib.Omega.{arith}
use lib.ListN.{length, get_or}
use Rattle.cedar.specs.Types.{Var}
use Rattle.cedar.specs.Making.{or_add, intern}
use Rattle.cedar.specs.Numbered.{NEnv, made}
use Rattle.sheet.specs.Forms.{partial}
use Rattle.sheet.specs.State.{value_row}
use Rattle.sheet.specs.Content.{rows_in, n_env}
use Rattle.sheet.proofs.running.MadeWords.{missing, missing_most, missing_intern, one_less}
use Rattle.table.specs.Layout.{held, TOP}
use Rattle.table.proofs.Held.{held_same}
use Rattle.value.specs.Lines.{value_lines}
use Rattle.value.specs.Made.{with_value}
use Rattle.value.proofs.Interned.{Formed, Formeds, Interning, stays_or_none}

-- what is asked, by what the words hold
abbrev pub asks : List ℕ → NEnv
asks a = n_env partial (held [] a [])

abbrev pub reach : List ℕ → ℕ
reach a = get_or a TOP 0 + 3 * missing (asks a) (rows_in (value_lines a))

pub reach_start : (a : List ℕ) → reach a ≤ get_or a TOP 0 + 12
reach_start a = let m = missing_most (asks a) (rows_in (value_lines a)) in omega (arith, m)

module _ (a q : List ℕ) (i : Interning a q) where
  asks_kept : asks (with_value a q) ≡ asks a
  asks_kept = ap (n_env partial) (held_same [] a (with_value a q) [] [] (λ k lt. i.kept.others k (omega (arith, lt))) refl)

  missing_now : missing (asks (with_value a q)) (rows_in (value_lines (with_value a q))) ≡ missing (asks a) (intern (rows_in (value_lines a)) (value_row q)).rows
  missing_now = ap₂ missing asks_kept i.rows

  -- a row takes no more than its words
  pub reach_most : reach (with_value a q) ≤ reach a + length q
  reach_most = let t = i.kept.top in let m = missing_now in let n = missing_intern (asks a) (rows_in (value_lines a)) (value_row q) in omega (arith, t, m, n)

  -- a row that is asked takes nothing
  pub reach_asked : Formeds (value_lines a) → Formed q → length q ≤ 3 → (x : Var) → (asks a).request x ≡ some (made (value_row q)) → reach (with_value a q) ≤ reach a
  reach_asked f h short x e = stays_or_none a q f h
      (λ s. let z = ap reach s in omega (arith, z))
      (λ n. let t = i.kept.top in
      let m = missing_now ∙ ap (λ o. missing (asks a) (or_add o (rows_in (value_lines a)) (value_row q)).rows) n in
      let l = one_less (asks a) x (value_row q) e (rows_in (value_lines a)) n in
      omega (arith, t, m, l, short))
