-- `reach::see_at` meets its contract. Assumes nothing.
use mathlib.Core.Path.{refl}
use native.Mathlib.Omega.{arith}
use Rattle.reach.proofs.Steps.{see_mark, see_new, see_past, see_place}
use borrow.Author.Rules.{rules}
use Rattle.reach.proofs.see_at.Goals as goal

pub bounds-marks-i : goal.bounds-marks-i
bounds-marks-i c = search (see_mark, rules)

pub bounds-marks-i-2 : goal.bounds-marks-i-2
bounds-marks-i-2 c = omega (arith, see_mark _ _ _ _ _ c.requires _ c.place-k.ensures)

pub returns-then-k-lines : goal.returns-then-k-lines
returns-then-k-lines c = search (see_past, rules)

pub bounds-queue-end : goal.bounds-queue-end
bounds-queue-end c = omega (arith, see_place _ _ _ _ _ c.requires _ c.place-k.ensures _ refl c.if-marks-i-ne0.false _ refl _ c.lines.ensures c.if-k-lines.false)

pub returns : goal.returns
returns c = search (see_new, rules)
