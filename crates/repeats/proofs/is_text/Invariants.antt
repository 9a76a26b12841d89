-- `repeats::is_text` meets its contract. Assumes nothing.
use Prim.Native.Nat.{ℕ}
use mathlib.Core.List.{List, ◌∷◌}
use Rattle.sheet.specs.Bytes.{same}
use Rattle.table.specs.Layout.{text_row}
use Rattle.repeats.proofs.SearchLaws.{Scanned}
use Rattle.sheet.specs.Forms.{TEXT}
use Rattle.forms.specs.Tags.{TEXT_LINE}
use Rattle.repeats.proofs.is_text.Given as goal

abbrev pub invariant-loop-i : goal.invariant-loop-i
invariant-loop-i l = Scanned (λ (q : List ℕ). same (TEXT_LINE ∷ l.text) (text_row l.sheet q)) l.rows TEXT l.i
