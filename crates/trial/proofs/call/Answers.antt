-- `trial::call` meets its contract. Assumes nothing.
use Rattle.std.proofs.Common.{◌≡◌, length}
use lib.ListN.{replicate}
use Rattle.trial.specs.Lent.{mark}
use Rattle.trial.proofs.Trying.{tried_complete, tried_partial}
use borrow.Author.Rules.{rules}
use Rattle.trial.proofs.call.Goals as goal

pub returns-in-1 : goal.returns-in-1
returns-in-1 c =
    let x : c.fill.new.self ≡ replicate (length c.args.work1.now) mark = search rules in
    let y : c.fill-2.new.self ≡ replicate (length c.args.work2.now) mark = search rules in
    let z : c.fill-3.new.self ≡ replicate (length c.args.out.now) mark = search rules in
    search (tried_complete, rules)

pub returns-in_default : goal.returns-in_default
returns-in_default c =
    let x : c.fill.new.self ≡ replicate (length c.args.work1.now) mark = search rules in
    let y : c.fill-2.new.self ≡ replicate (length c.args.work2.now) mark = search rules in
    let z : c.fill-3.new.self ≡ replicate (length c.args.out.now) mark = search rules in
    search (tried_partial, rules)
