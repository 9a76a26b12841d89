-- `edit::replace` meets its contract. Assumes nothing.
use Rattle.std.proofs.Common.{◌∙◌, sym}
use Rattle.edit.proofs.Lines.{replaced_printed}
use Rattle.edit.proofs.replace.Goals as goal

pub returns : goal.returns
returns c =
    let a = c.args in
    let w = replaced_printed a.sheet.now a.new.now a.start a.end c.new-out.ensures.at c.front.ensures c.rest.ensures c.bytes.ensures c.bytes-2.ensures c.bytes-3.ensures in
    let m = c.bytes-3.ensures.same ∙ c.bytes-2.ensures.same ∙ c.bytes.ensures.same ∙ c.new-out.ensures.same in
    rw (c.copy-1.given.1.1 (sym m), c.len.ensures, ← c.new-out.ensures.buffer) w
