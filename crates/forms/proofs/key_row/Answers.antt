-- `forms::key_row` meets its contract: each row is the definition's, by computation. Assumes nothing.
use mathlib.Core.Path.{◌∙◌}
use Rattle.sheet.specs.Forms.{forms, tag_of}
use Rattle.forms.specs.Keys.{bases, base, limit, keyed}
use Rattle.forms.proofs.Tests.{below, of_row}
use Rattle.forms.proofs.Keys.{key_out}
use borrow.Author.Rules.{rules}
use Rattle.forms.proofs.key_row.Goals as goal

pub of_key-requires : goal.of_key-requires
unfolding keyed base bases limit tag_of forms
of_key-requires c = search rules

pub of_key-requires-in-1 : goal.of_key-requires-in-1
unfolding keyed base bases limit tag_of forms
of_key-requires-in-1 c = search rules

pub of_key-requires-in-2 : goal.of_key-requires-in-2
unfolding keyed base bases limit tag_of forms
of_key-requires-in-2 c = search rules

pub of_key-requires-in-3 : goal.of_key-requires-in-3
unfolding keyed base bases limit tag_of forms
of_key-requires-in-3 c = search rules

pub of_key-requires-in-4 : goal.of_key-requires-in-4
unfolding keyed base bases limit tag_of forms
of_key-requires-in-4 c = search rules

pub of_key-requires-in-5 : goal.of_key-requires-in-5
unfolding keyed base bases limit tag_of forms
of_key-requires-in-5 c = search rules

pub of_key-requires-in-6 : goal.of_key-requires-in-6
unfolding keyed base bases limit tag_of forms
of_key-requires-in-6 c = search rules

pub of_key-requires-in-7 : goal.of_key-requires-in-7
unfolding keyed base bases limit tag_of forms
of_key-requires-in-7 c = search rules

pub of_key-requires-in-8 : goal.of_key-requires-in-8
unfolding keyed base bases limit tag_of forms
of_key-requires-in-8 c = search rules

pub of_key-requires-in-9 : goal.of_key-requires-in-9
unfolding keyed base bases limit tag_of forms
of_key-requires-in-9 c = search rules

pub of_key-requires-in-10 : goal.of_key-requires-in-10
unfolding keyed base bases limit tag_of forms
of_key-requires-in-10 c = search rules

pub of_key-requires-in-11 : goal.of_key-requires-in-11
unfolding keyed base bases limit tag_of forms
of_key-requires-in-11 c = search rules

pub of_key-requires-in-12 : goal.of_key-requires-in-12
unfolding keyed base bases limit tag_of forms
of_key-requires-in-12 c = search rules

pub of_key-requires-in-13 : goal.of_key-requires-in-13
unfolding keyed base bases limit tag_of forms
of_key-requires-in-13 c = search rules

pub of_key-requires-in-14 : goal.of_key-requires-in-14
unfolding keyed base bases limit tag_of forms
of_key-requires-in-14 c = search rules

pub of_key-requires-in-15 : goal.of_key-requires-in-15
unfolding keyed base bases limit tag_of forms
of_key-requires-in-15 c = search rules

pub of_key-requires-in-16 : goal.of_key-requires-in-16
unfolding keyed base bases limit tag_of forms
of_key-requires-in-16 c = search rules

pub of_key-requires-in-17 : goal.of_key-requires-in-17
unfolding keyed base bases limit tag_of forms
of_key-requires-in-17 c = search rules

pub of_key-requires-in_default : goal.of_key-requires-in_default
unfolding keyed base bases limit tag_of forms
of_key-requires-in_default c = search rules

pub returns-in-0 : goal.returns-in-0
unfolding keyed base bases limit tag_of forms
returns-in-0 c = search (of_row keyed, rules)

pub returns-in-1 : goal.returns-in-1
unfolding keyed base bases limit tag_of forms
returns-in-1 c = search (of_row keyed, rules)

pub returns-in-2 : goal.returns-in-2
unfolding keyed base bases limit tag_of forms
returns-in-2 c = search (of_row keyed, rules)

pub returns-in-3 : goal.returns-in-3
unfolding keyed base bases limit tag_of forms
returns-in-3 c = search (of_row keyed, rules)

pub returns-in-4 : goal.returns-in-4
unfolding keyed base bases limit tag_of forms
returns-in-4 c = search (of_row keyed, rules)

pub returns-in-5 : goal.returns-in-5
unfolding keyed base bases limit tag_of forms
returns-in-5 c = search (of_row keyed, rules)

pub returns-in-6 : goal.returns-in-6
unfolding keyed base bases limit tag_of forms
returns-in-6 c = search (of_row keyed, rules)

pub returns-in-7 : goal.returns-in-7
unfolding keyed base bases limit tag_of forms
returns-in-7 c = search (of_row keyed, rules)

pub returns-in-8 : goal.returns-in-8
unfolding keyed base bases limit tag_of forms
returns-in-8 c = search (of_row keyed, rules)

pub returns-in-9 : goal.returns-in-9
unfolding keyed base bases limit tag_of forms
returns-in-9 c = search (of_row keyed, rules)

pub returns-in-10 : goal.returns-in-10
unfolding keyed base bases limit tag_of forms
returns-in-10 c = search (of_row keyed, rules)

pub returns-in-11 : goal.returns-in-11
unfolding keyed base bases limit tag_of forms
returns-in-11 c = search (of_row keyed, rules)

pub returns-in-12 : goal.returns-in-12
unfolding keyed base bases limit tag_of forms
returns-in-12 c = search (of_row keyed, rules)

pub returns-in-13 : goal.returns-in-13
unfolding keyed base bases limit tag_of forms
returns-in-13 c = search (of_row keyed, rules)

pub returns-in-14 : goal.returns-in-14
unfolding keyed base bases limit tag_of forms
returns-in-14 c = search (of_row keyed, rules)

pub returns-in-15 : goal.returns-in-15
unfolding keyed base bases limit tag_of forms
returns-in-15 c = search (of_row keyed, rules)

pub returns-in-16 : goal.returns-in-16
unfolding keyed base bases limit tag_of forms
returns-in-16 c = search (of_row keyed, rules)

pub returns-in-17 : goal.returns-in-17
unfolding keyed base bases limit tag_of forms
returns-in-17 c = search (of_row keyed, rules)

pub returns-in_default : goal.returns-in_default
unfolding below
returns-in_default c = c.of_key-in_default.ensures ∙ key_out c.args.key c.in_default.in_default-own.rest
