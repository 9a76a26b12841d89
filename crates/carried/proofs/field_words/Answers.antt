-- `carried::field_words` meets its contract. Assumes nothing.
use Rattle.carried.proofs.Carrying.{fields_start, fields_more, fields_end}
use borrow.Author.Rules.{rules}
use Rattle.carried.proofs.field_words.Goals as goal

pub loop-pair-init : goal.loop-pair-init
loop-pair-init c = search (fields_start, rules)

pub loop-pair-preserved : goal.loop-pair-preserved
loop-pair-preserved c = search (fields_more, rules)

pub returns : goal.returns
returns c = search (fields_end, rules)
