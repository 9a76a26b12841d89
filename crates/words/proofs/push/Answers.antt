-- `words::push` meets its contract. Assumes nothing.
use lib.ListN.{length}
use mathlib.Core.Path.{sym, ◌∙◌}
use native.Mathlib.Omega.{arith}
use Rattle.words.proofs.Logs.{append_out, room_within, push_in}
use borrow.Author.Rules.{rules}
use Rattle.words.proofs.push.Goals as goal

pub offset_bounds-words-top : goal.offset_bounds-words-top
offset_bounds-words-top c = let a = c.args in omega (arith, (room_within (length a.words.now) a.top 1 (sym c.has_room.ensures ∙ c.if-has_room.true)).0)

pub bounds-words-top : goal.bounds-words-top
bounds-words-top c = let a = c.args in omega (arith, (room_within (length a.words.now) a.top 1 (sym c.has_room.ensures ∙ c.if-has_room.true)).1)

pub overflow_add-result : goal.overflow_add-result
overflow_add-result c = let a = c.args in omega (arith, (room_within (length a.words.now) a.top 1 (sym c.has_room.ensures ∙ c.if-has_room.true)).0)

pub returns-then-has_room : goal.returns-then-has_room
returns-then-has_room c = search (push_in, rules)

pub returns : goal.returns
returns c = search (append_out, rules)
