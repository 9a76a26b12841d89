-- `value::making::narrowed` meets its contract. Assumes nothing.
use Rattle.value.proofs.Makes.{narrow_in, narrow_out}
use borrow.Author.Rules.{rules}
use Rattle.value.proofs.making.narrowed.Goals as goal

pub returns-then-value-lt4294967296 : goal.returns-then-value-lt4294967296
returns-then-value-lt4294967296 c = search (narrow_in, rules)

pub returns : goal.returns
returns c = search (narrow_out, rules)
