-- `judge::typed_line` meets its contract. Assumes nothing.
use native.Mathlib.Omega.{arith}
use Rattle.judge.proofs.Judging.{known_none, typed_early, typed_late}
use borrow.Author.Rules.{rules}
use Rattle.judge.proofs.typed_line.Goals as goal

pub typed-requires : goal.typed-requires
typed-requires c = known_none c.args.rows.now c.args.work.now

pub returns-then-key-lt-ENTITY : goal.returns-then-key-lt-ENTITY
returns-then-key-lt-ENTITY c = let s = c in
    let t = c.typed in
    typed_early s.args.rows.now s.args.work.now t.new.work s.args.line.now s.args.key t.result s.requires t.ensures (omega arith)

pub returns : goal.returns
returns c = search (typed_late, rules)
