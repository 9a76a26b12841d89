-- `preview::run` meets its contract. Assumes nothing.
use mathlib.Core.Path.{sym}
use lib.Seq.{length-take-le}
use Rattle.preview.proofs.Trying.{copy_too_long, copy_ran}
use borrow.Author.Rules.{rules}
use Rattle.preview.proofs.run.Goals as goal

pub returns-then-c-gt-ROOM : goal.returns-then-c-gt-ROOM
returns-then-c-gt-ROOM c = search (copy_too_long, rules)

pub slice_bounds-partial-end : goal.slice_bounds-partial-end
slice_bounds-partial-end c = sym (length-take-le _ _ (search rules))

pub returns : goal.returns
returns c = let s = c in
    let o = c.copy_bytes-copy in
    let z = c.replace-c in
    let p = c.partial in
    let k = copy_ran s.args.sheet.now s.args.new.now s.args.out.now s.args.start s.args.end o.result z.new.copy z.result o.ensures z.ensures c.if-c-gt-ROOM.false s.args.work1.now
    s.args.work2.now s.requires.0 s.requires.1 p.result.number p.result.line p.result.length p.new.out p.new.work1 p.new.work2 p.ensures in
    record { answers = k.0; first = k.1.0; second = k.1.1 }
