-- What a caller has to know: words that hold the lines of two accepted sheets, whatever else they hold. Assumes nothing.
use mathlib.Core.Path.{◌≡◌, refl, sym, ap, ap₂, subst, ◌∙◌}
use mathlib.Core.List.{List, []}
use Prim.Native.Nat.{ℕ, ◌<◌}
use lib.ListN.{get_or}
use Rattle.sheet.specs.Forms.{Mode, partial, complete, no_key, ENTITY}
use Rattle.sheet.specs.State.{State}
use Rattle.sheet.specs.Sheet.{read}
use Rattle.sheet.proofs.reading.Lines.{accepted_history}
use Rattle.sheet.proofs.demand3.Demand3Bytes.{facts_read}
use Rattle.table.specs.Layout.{rows_of, lines_held, held}
use Rattle.table.proofs.Held.{held_same}
use Rattle.finished.specs.Finish.{breaking_line}
use Rattle.finished.specs.ByKey.{passed_line}
use Rattle.finished.specs.Rising.{Rising}
use Rattle.finished.proofs.FinishAgrees.{rising}
use Rattle.finished.proofs.BreakingLine.{passed_is}
use Rattle.agree.specs.Breaks.{Ordered}

-- ---- words that hold an accepted sheet's lines

pub record Kept (m : Mode) (sheet a : List ℕ) : Type 0 where
  pub accepted : (read m sheet).number ≡ 0
  pub lines : lines_held sheet a ≡ (read m sheet).state.lines

-- they do where a reading left them and the rows of the sheet's keys stayed, as a run and the choice of policies leave them
pub kept : (m : Mode) (sheet a b a' : List ℕ) → (read m sheet).number ≡ 0 → (read m sheet).state ≡ held sheet a b → ((k : ℕ) → k < no_key → rows_of a' k ≡ rows_of a k) → Kept m sheet a'
unfolding held
kept m sheet a b a' e s h = record { accepted = e; lines = ap (λ (x : State). x.lines) (held_same sheet a a' b b h refl ∙ sym s) }

entities_kept : (m : Mode) (sheet a : List ℕ) → Kept m sheet a → Rising 0 (rows_of a ENTITY)
unfolding lines_held
entities_kept m sheet a k =
    let (h, e) = accepted_history m sheet k.accepted in
    subst (λ (l : List (List (List ℕ))). Rising 0 (get_or l ENTITY [])) (sym k.lines) (rising m (read m sheet).state h)

module _ (p c a d : List ℕ) (k : Kept partial p a) (j : Kept complete c d) where
  -- what `agree::breaking_line` asks
  pub ordered : Ordered a d
  ordered = record { partial_rows = entities_kept partial p a k; complete_rows = entities_kept complete c d j }

  -- and what it gives is the line of the two sheets
  pub breaking_read : passed_line (held p a []) (held c d []) ≡ breaking_line (read partial p).state (read complete c).state
  unfolding passed_line held
  breaking_read =
      ap₂ (λ (x y : List (List (List ℕ))). passed_line (record { lines = x; depths = []; used = [] }) (record { lines = y; depths = []; used = [] })) k.lines j.lines
      ∙ passed_is (read partial p).state (read complete c).state (facts_read partial p k.accepted) (facts_read complete c j.accepted)
