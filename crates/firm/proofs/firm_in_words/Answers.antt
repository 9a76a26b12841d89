-- `firm::firm_in_words` meets its contract. Assumes nothing.
use mathlib.Core.Path.{sym, ◌∙◌}
use Rattle.firm.proofs.Quoting.{checking_start}
use Rattle.firm.proofs.Wording.{wording_start, words_checked, row_there, words_decided, words_done}
use borrow.Author.Rules.{rules}
use Rattle.firm.proofs.firm_in_words.Goals as goal

pub loop-i-init : goal.loop-i-init
loop-i-init c = checking_start _ _ _

pub loop-i-preserved : goal.loop-i-preserved
loop-i-preserved c = search (words_checked, rules)

pub loop-j-init : goal.loop-j-init
loop-j-init c = (sym c.row_words-own.ensures, wording_start _ _ _ _ _)

pub row_from-requires-in-loop-j : goal.row_from-requires-in-loop-j
row_from-requires-in-loop-j c = search (row_there, rules)

pub put_row-requires : goal.put_row-requires
put_row-requires c = search (row_there, rules)

pub loop-j-preserved : goal.loop-j-preserved
loop-j-preserved c =
    let p = c.put_row in
    let s = c.single-r in
    let g = c.begin-f in
    let v = c.loop-j.invariant in (
      s.auto.own ∙ v.0,
      words_decided _ _ _ _ _ _ _ g.ensures g.auto.work1 g.auto.work2 _ _ c.loop-i.invariant c.loop-i-test.false _ _ _ _ v.1 c.loop-j-test.true _ c.row_from-in-loop-j.ensures _ _
          s.auto.work2 s.ensures _ c.join-f.ensures _ p.ensures p.auto.words,
    )

pub shape_of-words : goal.shape_of-words
shape_of-words c = c.loop-j.invariant.1.whole

pub shape_of-work1 : goal.shape_of-work1
shape_of-work1 c = c.finish.auto.work1 ∙ c.begin-f.auto.work1

pub shape_of-work2 : goal.shape_of-work2
shape_of-work2 c = c.finish.auto.work2 ∙ c.loop-j.invariant.1.second ∙ c.begin-f.auto.work2

pub returns : goal.returns
returns c = search (words_done, rules)
