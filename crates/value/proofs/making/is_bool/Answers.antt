-- `value::making::is_bool` meets its contract. Assumes nothing.
use Rattle.value.proofs.Passes.{other_tag, other_bit}
use borrow.Author.Rules.{rules}
use Rattle.value.proofs.making.is_bool.Goals as goal

pub returns-then-read-ne-BOOL_VALUE : goal.returns-then-read-ne-BOOL_VALUE
returns-then-read-ne-BOOL_VALUE c = search (other_tag, rules)

pub returns-then-read-bit : goal.returns-then-read-bit
returns-then-read-bit c = search (other_bit, rules)
