-- `firm::decided` meets its contract. Assumes nothing.
use Rattle.firm.proofs.Deciding.{decides}
use Rattle.firm.proofs.decided.Goals as goal

pub returns : goal.returns
returns c = let s = c in
    let l = c.lay in
    let r = c.run-end in
    let n = c.lines in
    let x = c.cut in
    let d = c.decision in
    decides s.args.sheet.now s.args.rows.now l.new.own r.new.rows s.args.log.now r.new.log n.new.log x.result.now s.args.principal s.args.resource r.result d.result
    l.ensures r.ensures s.requires.1 r.auto.log n.ensures x.ensures d.ensures
