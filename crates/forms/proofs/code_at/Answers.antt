-- `forms::code_at` meets its contract. Assumes nothing.
use Rattle.forms.proofs.Places.{code_first, code_second, code_third, code_fourth, code_none}
use Rattle.forms.proofs.Tests.{below}
use borrow.Author.Rules.{rules}
use Rattle.forms.proofs.code_at.Goals as goal

pub returns-in-0 : goal.returns-in-0
returns-in-0 c = search (code_first, rules)

pub returns-in-1 : goal.returns-in-1
returns-in-1 c = search (code_second, rules)

pub returns-in-2 : goal.returns-in-2
returns-in-2 c = search (code_third, rules)

pub returns-in-3 : goal.returns-in-3
returns-in-3 c = search (code_fourth, rules)

pub returns-in_default : goal.returns-in_default
unfolding below
returns-in_default c = code_none _ _ _ c.place_of.ensures c.in_default.in_default-own.rest
