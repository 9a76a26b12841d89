-- `judge::depth_of` meets its contract. Assumes nothing.
use Rattle.judge.proofs.Alike.{new_other, text_again, text_new, text_sure, unlike_other}
use borrow.Author.Rules.{rules}
use Rattle.judge.proofs.depth_of.Goals as goal

pub returns-then-new : goal.returns-then-new
returns-then-new c = search (text_sure, rules)

pub returns-then-is_text : goal.returns-then-is_text
returns-then-is_text c = search (text_again, rules)

pub returns-then-key-eq-TEXT : goal.returns-then-key-eq-TEXT
returns-then-key-eq-TEXT c = search (text_new, rules)

pub new_depth-requires : goal.new_depth-requires
new_depth-requires c = let s = c in
    let z = s.args in record { fact = (c.if-key-eq-TEXT.false, s.requires.key_value.0, s.requires.key_value.1); noted = (s.requires.noted.0, unlike_other z.sheet.now z.rows.now z.work.now z.line.now z.key s.requires.key_value.0 z.new s.requires.noted.1 c.if-key-eq-TEXT.false s.requires.key_value.1) }

pub returns : goal.returns
returns c = search (new_other, rules)
