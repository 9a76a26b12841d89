-- `value::making::TwoWords::passes_four` meets its contract. Assumes nothing.
use Rattle.value.proofs.Passes.{four_off}
use borrow.Author.Rules.{rules}
use Rattle.value.proofs.making.TwoWords.passes_four.Goals as goal

pub returns : goal.returns
returns c = search (four_off, rules)
