-- `sent::answer_partial` meets its contract. Assumes nothing.
use Rattle.response.proofs.PartialRun.{log_fits, partial_runs, partial_prints}
use native.Mathlib.Omega.{arith}
use Rattle.sent.proofs.answer_partial.Goals as goal

pub returns-then-sheet-le-ROOM : goal.returns-then-sheet-le-ROOM
returns-then-sheet-le-ROOM c = let s = c in
    let r = c.run-e in
    let l = c.lines in
    let x = c.cut-left in
    let y = c.cut-classes in
    let z = c.cut-roots in
    let t = c.fill_partial in
    partial_prints s.args.sheet.now s.args.rows.now s.args.log.now r.new.rows r.new.log l.new.log x.result.now y.result.now z.result.now s.args.out.now
    r.result t.result.number t.result.length t.new.out r.ensures s.requires.1 r.auto.log l.ensures x.ensures y.ensures z.ensures c.if-out-ge-MOST_ANSWER.true c.if-sheet-le-ROOM.true t.ensures

pub send_partial-requires : goal.send_partial-requires
send_partial-requires c = let s = c in
    let r = c.run-e in
    let l = c.lines in
    let g = c.cut-left in
    (omega (arith, r.auto.rows, s.requires.0), log_fits g.result.now l.new.log r.result g.ensures (omega (arith, l.auto.log, r.auto.log, s.requires.1)))

pub returns : goal.returns
returns c = let s = c in
    let r = c.run-e in
    let l = c.lines in
    let x = c.cut-left in
    let y = c.cut-classes in
    let z = c.cut-roots in
    let t = c.send_partial in
    partial_runs s.args.sheet.now s.args.rows.now s.args.log.now r.new.rows r.new.log l.new.log x.result.now y.result.now z.result.now s.args.out.now
    r.result t.result.number t.result.length t.new.out r.ensures s.requires.1 r.auto.log l.ensures x.ensures y.ensures z.ensures t.ensures
