-- `line::put_next` meets its contract. Assumes nothing.
use native.Mathlib.Omega.{arith}
use borrow.Author.Rules.{rules}
use Rattle.line.proofs.LawsItem.{item_there, next_index, next_part, next_bad}
use Rattle.line.proofs.put_next.Goals as goal

pub returns-in-Some : goal.returns-in-Some
returns-in-Some c = (search (next_index, rules), omega arith)

pub returns-in_err-end : goal.returns-in_err-end
returns-in_err-end c = item_there c.args.bytes.now c.args.cursor c.item.result c.item.ensures c.requires.0 c.in_err-end.was

pub returns-in_err-words : goal.returns-in_err-words
returns-in_err-words c =
    let a = c.args in
    rw c.from_residual-in_err-words.ensures (next_bad a.partial a.bytes.now a.rows.now a.cursor a.slot a.word c.item.result c.in_ok-end.end c.in_ok-end.next c.part_of.result.now _ c.item.ensures c.in_ok-end.was c.part_of.ensures c.in_err-words.ensures)

pub returns : goal.returns
returns c =
    let a = c.args in
    let k = c.in_ok-words in
    (next_part a.partial a.bytes.now a.rows.now a.cursor a.slot a.word c.item.result c.in_ok-end.end c.in_ok-end.next c.part_of.result.now k.words _ c.item.ensures c.in_ok-end.was c.part_of.ensures k.ensures.0, k.ensures.1)
