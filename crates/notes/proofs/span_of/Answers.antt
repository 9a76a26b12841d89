-- `notes::span_of` meets its contract. Assumes nothing.
use mathlib.Core.Path.{ap}
use mathlib.Core.Bool.{not}
use Rattle.notes.proofs.Noting.{span_found}
use borrow.Author.Rules.{rules}
use Rattle.notes.proofs.span_of.Goals as goal

pub returns : goal.returns
returns c = span_found _ _ _ _ _ _ _ _ _ _ c.count.ensures (search rules) c.base_of.ensures c.read-start.ensures c.read-end.ensures c.cut.ensures c.shape_of-s.ensures (search rules) c.cut-2.ensures c.rises.ensures (ap not c.if-not-rises.false)
