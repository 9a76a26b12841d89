-- `seen::see_line` meets its contract. Assumes nothing.
use Rattle.seen.proofs.SeenLaws.{see_text, see_type, see_value, see_other}
use Rattle.seen.proofs.see_line.Goals as goal

pub returns-then-key-eq-TEXT : goal.returns-then-key-eq-TEXT
returns-then-key-eq-TEXT c = let s = c.item-s in
    let n = c.item-n in
    let z = c in
    let t = c.tag in
    let x = c.bytes in
    let h = c.mixed_bytes in
    let v = c.see in let both = see_text z.args.sheet.now z.args.line.now z.args.seen.now z.args.key z.requires c.if-key-eq-TEXT.true t.result t.ensures s.result n.result h.result x.result.now
    s.ensures n.ensures x.ensures h.ensures v.result v.new.seen v.ensures.new v.ensures.with in record { new = both.0; with = both.1 }

pub returns-then-key-eq-TYPE : goal.returns-then-key-eq-TYPE
returns-then-key-eq-TYPE c = let z = c in
    let h = c.mixed_words in
    let v = c.see-then-key-eq-TYPE in let both = see_type z.args.sheet.now z.args.line.now z.args.seen.now z.args.key z.requires c.if-key-eq-TYPE.true h.result h.ensures v.result v.new.seen v.ensures.new v.ensures.with in record { new = both.0; with = both.1 }

pub returns-then-key-eq-VALUE : goal.returns-then-key-eq-VALUE
returns-then-key-eq-VALUE c = let z = c in
    let h = c.mixed_words-then-key-eq-VALUE in
    let v = c.see-then-key-eq-VALUE in let both = see_value z.args.sheet.now z.args.line.now z.args.seen.now z.args.key z.requires c.if-key-eq-VALUE.true h.result h.ensures v.result v.new.seen v.ensures.new v.ensures.with in record { new = both.0; with = both.1 }

pub returns : goal.returns
returns c = let z = c in let both = see_other z.args.sheet.now z.args.line.now z.args.seen.now z.args.key z.requires c.if-key-eq-TEXT.false c.if-key-eq-TYPE.false c.if-key-eq-VALUE.false in record { new = both.0; with = both.1 }
