-- `line::plain_tag` meets its contract. Assumes nothing.
use borrow.Author.Rules.{rules}
use Rattle.std.proofs.Common.{◌≡◌}
use Rattle.sheet.specs.Forms.{tag_of}
use Rattle.std.proofs.Common.{[]}
use Rattle.forms.proofs.Keys.{tag_is}
use Rattle.line.proofs.LawsValue.{plain_known, plain_none}
use Rattle.line.proofs.plain_tag.Goals as goal

pub returns-then-tag-lt-NO_TAG : goal.returns-then-tag-lt-NO_TAG
returns-then-tag-lt-NO_TAG c =
    let e : c.key_row-tag.result.tag ≡ tag_of c.args.key [] = search (tag_is, rules) in
    plain_known c.key_row-tag.result.tag (tag_of c.args.key []) e c.if-tag-lt-NO_TAG.true

pub returns : goal.returns
returns c =
    let e : c.key_row-tag.result.tag ≡ tag_of c.args.key [] = search (tag_is, rules) in
    plain_none c.key_row-tag.result.tag (tag_of c.args.key []) e c.if-tag-lt-NO_TAG.false
