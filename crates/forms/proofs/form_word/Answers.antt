-- `forms::form_word` meets its contract: each row is the definition's, by computation. Assumes nothing.
use mathlib.Core.Path.{◌∙◌}
use Rattle.sheet.specs.Forms.{forms, form_of}
use Rattle.forms.specs.Rows.{code, coded}
use Rattle.forms.proofs.Tests.{below, of_row}
use Rattle.forms.proofs.Table.{row_at, row_out}
use borrow.Author.Rules.{rules}
use Rattle.forms.proofs.form_word.Goals as goal

pub plain-requires : goal.plain-requires
unfolding forms form_of code coded
plain-requires c = search rules

pub plain-requires-in-1 : goal.plain-requires-in-1
unfolding forms form_of code coded
plain-requires-in-1 c = search rules

pub plain-requires-in-2 : goal.plain-requires-in-2
unfolding forms form_of code coded
plain-requires-in-2 c = search rules

pub plain-requires-in-3 : goal.plain-requires-in-3
unfolding forms form_of code coded
plain-requires-in-3 c = search rules

pub plain-requires-in-4 : goal.plain-requires-in-4
unfolding forms form_of code coded
plain-requires-in-4 c = search rules

pub plain-requires-in-5 : goal.plain-requires-in-5
unfolding forms form_of code coded
plain-requires-in-5 c = search rules

pub rising_all-requires : goal.rising_all-requires
unfolding forms form_of code coded
rising_all-requires c = search rules

pub plain-requires-in-7 : goal.plain-requires-in-7
unfolding forms form_of code coded
plain-requires-in-7 c = search rules

pub rising-requires : goal.rising-requires
unfolding forms form_of code coded
rising-requires c = search rules

pub rising-requires-in-9 : goal.rising-requires-in-9
unfolding forms form_of code coded
rising-requires-in-9 c = search rules

pub plain-requires-in-10 : goal.plain-requires-in-10
unfolding forms form_of code coded
plain-requires-in-10 c = search rules

pub plain-requires-in-11 : goal.plain-requires-in-11
unfolding forms form_of code coded
plain-requires-in-11 c = search rules

pub plain-requires-in-12 : goal.plain-requires-in-12
unfolding forms form_of code coded
plain-requires-in-12 c = search rules

pub plain-requires-in-13 : goal.plain-requires-in-13
unfolding forms form_of code coded
plain-requires-in-13 c = search rules

pub rising-requires-in-14 : goal.rising-requires-in-14
unfolding forms form_of code coded
rising-requires-in-14 c = search rules

pub rising-requires-in-15 : goal.rising-requires-in-15
unfolding forms form_of code coded
rising-requires-in-15 c = search rules

pub plain-requires-in-16 : goal.plain-requires-in-16
unfolding forms form_of code coded
plain-requires-in-16 c = search rules

pub plain-requires-in-17 : goal.plain-requires-in-17
unfolding forms form_of code coded
plain-requires-in-17 c = search rules

pub plain-requires-in-18 : goal.plain-requires-in-18
unfolding forms form_of code coded
plain-requires-in-18 c = search rules

pub plain-requires-in-19 : goal.plain-requires-in-19
unfolding forms form_of code coded
plain-requires-in-19 c = search rules

pub plain-requires-in-20 : goal.plain-requires-in-20
unfolding forms form_of code coded
plain-requires-in-20 c = search rules

pub plain-requires-in-21 : goal.plain-requires-in-21
unfolding forms form_of code coded
plain-requires-in-21 c = search rules

pub plain-requires-in-22 : goal.plain-requires-in-22
unfolding forms form_of code coded
plain-requires-in-22 c = search rules

pub plain-requires-in-23 : goal.plain-requires-in-23
unfolding forms form_of code coded
plain-requires-in-23 c = search rules

pub plain-requires-in-24 : goal.plain-requires-in-24
unfolding forms form_of code coded
plain-requires-in-24 c = search rules

pub plain-requires-in-25 : goal.plain-requires-in-25
unfolding forms form_of code coded
plain-requires-in-25 c = search rules

pub plain-requires-in-26 : goal.plain-requires-in-26
unfolding forms form_of code coded
plain-requires-in-26 c = search rules

pub plain-requires-in-27 : goal.plain-requires-in-27
unfolding forms form_of code coded
plain-requires-in-27 c = search rules

pub plain-requires-in-28 : goal.plain-requires-in-28
unfolding forms form_of code coded
plain-requires-in-28 c = search rules

pub plain-requires-in-29 : goal.plain-requires-in-29
unfolding forms form_of code coded
plain-requires-in-29 c = search rules

pub plain-requires-in-30 : goal.plain-requires-in-30
unfolding forms form_of code coded
plain-requires-in-30 c = search rules

pub plain-requires-in-31 : goal.plain-requires-in-31
unfolding forms form_of code coded
plain-requires-in-31 c = search rules

pub plain-requires-in-32 : goal.plain-requires-in-32
unfolding forms form_of code coded
plain-requires-in-32 c = search rules

pub plain-requires-in-33 : goal.plain-requires-in-33
unfolding forms form_of code coded
plain-requires-in-33 c = search rules

pub plain-requires-in-34 : goal.plain-requires-in-34
unfolding forms form_of code coded
plain-requires-in-34 c = search rules

pub plain-requires-in-35 : goal.plain-requires-in-35
unfolding forms form_of code coded
plain-requires-in-35 c = search rules

pub plain-requires-in-36 : goal.plain-requires-in-36
unfolding forms form_of code coded
plain-requires-in-36 c = search rules

pub plain-requires-in-37 : goal.plain-requires-in-37
unfolding forms form_of code coded
plain-requires-in-37 c = search rules

pub plain-requires-in-38 : goal.plain-requires-in-38
unfolding forms form_of code coded
plain-requires-in-38 c = search rules

pub plain-requires-in-39 : goal.plain-requires-in-39
unfolding forms form_of code coded
plain-requires-in-39 c = search rules

pub with-requires : goal.with-requires
unfolding forms form_of code coded
with-requires c = search rules

pub plain-requires-in-41 : goal.plain-requires-in-41
unfolding forms form_of code coded
plain-requires-in-41 c = search rules

pub plain-requires-in-42 : goal.plain-requires-in-42
unfolding forms form_of code coded
plain-requires-in-42 c = search rules

pub with-requires-in-43 : goal.with-requires-in-43
unfolding forms form_of code coded
with-requires-in-43 c = search rules

pub plain-requires-in-44 : goal.plain-requires-in-44
unfolding forms form_of code coded
plain-requires-in-44 c = search rules

pub plain-requires-in-45 : goal.plain-requires-in-45
unfolding forms form_of code coded
plain-requires-in-45 c = search rules

pub plain-requires-in-46 : goal.plain-requires-in-46
unfolding forms form_of code coded
plain-requires-in-46 c = search rules

pub with-requires-in-47 : goal.with-requires-in-47
unfolding forms form_of code coded
with-requires-in-47 c = search rules

pub rising-requires-in-48 : goal.rising-requires-in-48
unfolding forms form_of code coded
rising-requires-in-48 c = search rules

pub plain-requires-in-49 : goal.plain-requires-in-49
unfolding forms form_of code coded
plain-requires-in-49 c = search rules

pub plain-requires-in-50 : goal.plain-requires-in-50
unfolding forms form_of code coded
plain-requires-in-50 c = search rules

pub plain-requires-in-51 : goal.plain-requires-in-51
unfolding forms form_of code coded
plain-requires-in-51 c = search rules

pub plain-requires-in-52 : goal.plain-requires-in-52
unfolding forms form_of code coded
plain-requires-in-52 c = search rules

pub plain-requires-in-53 : goal.plain-requires-in-53
unfolding forms form_of code coded
plain-requires-in-53 c = search rules

pub plain-requires-in_default : goal.plain-requires-in_default
unfolding forms form_of code coded
plain-requires-in_default c = search rules

pub returns-in-0 : goal.returns-in-0
unfolding forms form_of code coded
returns-in-0 c = search (of_row row_at, rules)

pub returns-in-1 : goal.returns-in-1
unfolding forms form_of code coded
returns-in-1 c = search (of_row row_at, rules)

pub returns-in-2 : goal.returns-in-2
unfolding forms form_of code coded
returns-in-2 c = search (of_row row_at, rules)

pub returns-in-3 : goal.returns-in-3
unfolding forms form_of code coded
returns-in-3 c = search (of_row row_at, rules)

pub returns-in-4 : goal.returns-in-4
unfolding forms form_of code coded
returns-in-4 c = search (of_row row_at, rules)

pub returns-in-5 : goal.returns-in-5
unfolding forms form_of code coded
returns-in-5 c = search (of_row row_at, rules)

pub returns-in-6 : goal.returns-in-6
unfolding forms form_of code coded
returns-in-6 c = search (of_row row_at, rules)

pub returns-in-7 : goal.returns-in-7
unfolding forms form_of code coded
returns-in-7 c = search (of_row row_at, rules)

pub returns-in-8 : goal.returns-in-8
unfolding forms form_of code coded
returns-in-8 c = search (of_row row_at, rules)

pub returns-in-9 : goal.returns-in-9
unfolding forms form_of code coded
returns-in-9 c = search (of_row row_at, rules)

pub returns-in-10 : goal.returns-in-10
unfolding forms form_of code coded
returns-in-10 c = search (of_row row_at, rules)

pub returns-in-11 : goal.returns-in-11
unfolding forms form_of code coded
returns-in-11 c = search (of_row row_at, rules)

pub returns-in-12 : goal.returns-in-12
unfolding forms form_of code coded
returns-in-12 c = search (of_row row_at, rules)

pub returns-in-13 : goal.returns-in-13
unfolding forms form_of code coded
returns-in-13 c = search (of_row row_at, rules)

pub returns-in-14 : goal.returns-in-14
unfolding forms form_of code coded
returns-in-14 c = search (of_row row_at, rules)

pub returns-in-15 : goal.returns-in-15
unfolding forms form_of code coded
returns-in-15 c = search (of_row row_at, rules)

pub returns-in-16 : goal.returns-in-16
unfolding forms form_of code coded
returns-in-16 c = search (of_row row_at, rules)

pub returns-in-17 : goal.returns-in-17
unfolding forms form_of code coded
returns-in-17 c = search (of_row row_at, rules)

pub returns-in-18 : goal.returns-in-18
unfolding forms form_of code coded
returns-in-18 c = search (of_row row_at, rules)

pub returns-in-19 : goal.returns-in-19
unfolding forms form_of code coded
returns-in-19 c = search (of_row row_at, rules)

pub returns-in-20 : goal.returns-in-20
unfolding forms form_of code coded
returns-in-20 c = search (of_row row_at, rules)

pub returns-in-21 : goal.returns-in-21
unfolding forms form_of code coded
returns-in-21 c = search (of_row row_at, rules)

pub returns-in-22 : goal.returns-in-22
unfolding forms form_of code coded
returns-in-22 c = search (of_row row_at, rules)

pub returns-in-23 : goal.returns-in-23
unfolding forms form_of code coded
returns-in-23 c = search (of_row row_at, rules)

pub returns-in-24 : goal.returns-in-24
unfolding forms form_of code coded
returns-in-24 c = search (of_row row_at, rules)

pub returns-in-25 : goal.returns-in-25
unfolding forms form_of code coded
returns-in-25 c = search (of_row row_at, rules)

pub returns-in-26 : goal.returns-in-26
unfolding forms form_of code coded
returns-in-26 c = search (of_row row_at, rules)

pub returns-in-27 : goal.returns-in-27
unfolding forms form_of code coded
returns-in-27 c = search (of_row row_at, rules)

pub returns-in-28 : goal.returns-in-28
unfolding forms form_of code coded
returns-in-28 c = search (of_row row_at, rules)

pub returns-in-29 : goal.returns-in-29
unfolding forms form_of code coded
returns-in-29 c = search (of_row row_at, rules)

pub returns-in-30 : goal.returns-in-30
unfolding forms form_of code coded
returns-in-30 c = search (of_row row_at, rules)

pub returns-in-31 : goal.returns-in-31
unfolding forms form_of code coded
returns-in-31 c = search (of_row row_at, rules)

pub returns-in-32 : goal.returns-in-32
unfolding forms form_of code coded
returns-in-32 c = search (of_row row_at, rules)

pub returns-in-33 : goal.returns-in-33
unfolding forms form_of code coded
returns-in-33 c = search (of_row row_at, rules)

pub returns-in-34 : goal.returns-in-34
unfolding forms form_of code coded
returns-in-34 c = search (of_row row_at, rules)

pub returns-in-35 : goal.returns-in-35
unfolding forms form_of code coded
returns-in-35 c = search (of_row row_at, rules)

pub returns-in-36 : goal.returns-in-36
unfolding forms form_of code coded
returns-in-36 c = search (of_row row_at, rules)

pub returns-in-37 : goal.returns-in-37
unfolding forms form_of code coded
returns-in-37 c = search (of_row row_at, rules)

pub returns-in-38 : goal.returns-in-38
unfolding forms form_of code coded
returns-in-38 c = search (of_row row_at, rules)

pub returns-in-39 : goal.returns-in-39
unfolding forms form_of code coded
returns-in-39 c = search (of_row row_at, rules)

pub returns-in-40 : goal.returns-in-40
unfolding forms form_of code coded
returns-in-40 c = search (of_row row_at, rules)

pub returns-in-41 : goal.returns-in-41
unfolding forms form_of code coded
returns-in-41 c = search (of_row row_at, rules)

pub returns-in-42 : goal.returns-in-42
unfolding forms form_of code coded
returns-in-42 c = search (of_row row_at, rules)

pub returns-in-43 : goal.returns-in-43
unfolding forms form_of code coded
returns-in-43 c = search (of_row row_at, rules)

pub returns-in-44 : goal.returns-in-44
unfolding forms form_of code coded
returns-in-44 c = search (of_row row_at, rules)

pub returns-in-45 : goal.returns-in-45
unfolding forms form_of code coded
returns-in-45 c = search (of_row row_at, rules)

pub returns-in-46 : goal.returns-in-46
unfolding forms form_of code coded
returns-in-46 c = search (of_row row_at, rules)

pub returns-in-47 : goal.returns-in-47
unfolding forms form_of code coded
returns-in-47 c = search (of_row row_at, rules)

pub returns-in-48 : goal.returns-in-48
unfolding forms form_of code coded
returns-in-48 c = search (of_row row_at, rules)

pub returns-in-49 : goal.returns-in-49
unfolding forms form_of code coded
returns-in-49 c = search (of_row row_at, rules)

pub returns-in-50 : goal.returns-in-50
unfolding forms form_of code coded
returns-in-50 c = search (of_row row_at, rules)

pub returns-in-51 : goal.returns-in-51
unfolding forms form_of code coded
returns-in-51 c = search (of_row row_at, rules)

pub returns-in-52 : goal.returns-in-52
unfolding forms form_of code coded
returns-in-52 c = search (of_row row_at, rules)

pub returns-in-53 : goal.returns-in-53
unfolding forms form_of code coded
returns-in-53 c = search (of_row row_at, rules)

pub returns-in_default : goal.returns-in_default
unfolding code coded below
returns-in_default c = c.plain-in_default.ensures ∙ row_out c.args.tag c.in_default.in_default-own.rest
