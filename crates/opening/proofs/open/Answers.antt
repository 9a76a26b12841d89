-- `opening::open` meets its contract. Assumes nothing.
use mathlib.Core.Path.{refl}
use Rattle.std.proofs.lemmas.Result.{err_from_is_err_and}
use Rattle.faults.proofs.Numbering.{number_some}
use Rattle.opening.proofs.Opening.{too_long, refused, choosable, opened}
use borrow.Author.Rules.{rules}
use Rattle.opening.proofs.open.Goals as goal

pub returns-then-sheet-gt-ROOM : goal.returns-then-sheet-gt-ROOM
returns-then-sheet-gt-ROOM c = search (too_long, rules)

pub returns-in_err-load : goal.returns-in_err-load
returns-in_err-load c = let p = err_from_is_err_and c.from_residual.result c.from_residual.ensures.1 in
    rw (p.1, p.2) (refused _ _ c.if-sheet-gt-ROOM.false _ _ _ _ _ _ c.in_err-load.ensures (number_some _))

pub choose-requires : goal.choose-requires
choose-requires c = choosable _ _ c.if-sheet-gt-ROOM.false _ _ _ _ _ _ c.in_ok-load.ensures refl

pub returns : goal.returns
returns c = opened _ _ c.if-sheet-gt-ROOM.false _ _ _ _ _ _ c.in_ok-load.ensures refl _ c.choose.ensures
