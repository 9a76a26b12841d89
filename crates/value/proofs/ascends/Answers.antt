-- `value::ascends` meets its contract. Assumes nothing.
use lib.Dec.{ltb}
use Rattle.std.proofs.lemmas.List.Sorted.{answers_always}
use Rattle.value.proofs.Lists.{ascend_answer}
use borrow.Author.Rules.{rules}
use Rattle.value.proofs.ascends.Goals as goal

pub returns : goal.returns
returns c = ascend_answer c.args.words.now c.is_sorted_by.result (c.is_sorted_by.ensures.cases ltb (answers_always _ _ _ (λ f a r g k. search rules)))
