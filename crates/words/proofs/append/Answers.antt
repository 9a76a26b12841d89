-- `words::append` meets its contract. Assumes nothing.
use lib.ListN.{length}
use mathlib.Core.Path.{sym, ◌∙◌}
use native.Mathlib.Omega.{arith}
use Rattle.words.proofs.Logs.{room_within}
use Rattle.words.proofs.append.Goals as goal

pub overflow_add-result : goal.overflow_add-result
overflow_add-result c = let s = c in let a = s.args in
    omega (arith, (room_within (length a.words.now) a.top (length a.row.now) (sym s.has_room.ensures ∙ s.if-has_room.true)).0)
