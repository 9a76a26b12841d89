-- `checks::is_fresh` meets its contract. Assumes nothing.
use Rattle.std.proofs.Common.{arith}
use Rattle.sheet.specs.Forms.{TYPE}
use Rattle.checks.proofs.FoundLaws.{fresh_value, fresh_kind, fresh_policy}
use Rattle.repeats.proofs.SearchLaws.{keyed_row}
use Rattle.seen.proofs.SeenLaws.{unlike_key}
use borrow.Author.Rules.{rules}
use Rattle.checks.proofs.is_fresh.Goals as goal

pub is_type-requires : goal.is_type-requires
is_type-requires c = (keyed_row c.args.line.now c.args.key c.requires.fact.1 (omega arith), unlike_key c.args.line.now c.args.rows.now c.args.key TYPE c.args.new c.in-3.is c.requires.noted.1)

pub is_new-requires : goal.is_new-requires
is_new-requires c = (keyed_row c.args.line.now c.args.key c.requires.fact.1 (omega arith), c.requires.noted.1)

pub returns-in-5 : goal.returns-in-5
returns-in-5 c = search (fresh_value, rules)

pub returns-in-2 : goal.returns-in-2
returns-in-2 c = search (fresh_kind, rules)

pub returns-in-13 : goal.returns-in-13
returns-in-13 c = search (fresh_policy, rules)
