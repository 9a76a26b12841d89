-- `value::making::make_bool_after` meets its contract. Assumes nothing.
use Rattle.value.proofs.Skips.{past_true, past_false}
use borrow.Author.Rules.{rules}
use Rattle.value.proofs.making.make_bool_after.Goals as goal

pub find_bool-v-requires : goal.find_bool-v-requires
find_bool-v-requires c = search (past_true, rules)

pub find_bool-v-requires-2 : goal.find_bool-v-requires-2
find_bool-v-requires-2 c = search (past_false, rules)
