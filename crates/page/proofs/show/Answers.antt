-- `page::show` meets its contract. Assumes nothing.
use Rattle.page.proofs.Showing.{shows_short, shows_whole}
use borrow.Author.Rules.{rules}
use Rattle.page.proofs.show.Goals as goal

pub returns-then-out-lt-PAGE : goal.returns-then-out-lt-PAGE
returns-then-out-lt-PAGE c = search (shows_short, rules)

pub returns : goal.returns
returns c = let s = c in
    let r = c.run-e in
    let l = c.lines in
    let x = c.cut in
    let y = c.cut-2 in
    let t = c.page_in in
    shows_whole s.args.sheet.now s.args.rows.now s.args.log.now r.new.rows r.new.log l.new.log x.result.now y.result.now s.args.out.now
    r.result t.new.buffer t.result r.ensures s.requires.1 r.auto.log l.ensures x.ensures y.ensures c.if-out-lt-PAGE.false t.ensures
