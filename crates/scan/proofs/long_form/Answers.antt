-- `scan::long_form` meets its contract. Assumes nothing.
use Rattle.std.proofs.Common.{ℕ, List, refl, ap, ◌∙◌}
use Rattle.sheet.specs.Ascii.{ascii}
use Rattle.sheet.specs.Bytes.{same}
use Rattle.sheet.specs.Forms.{forms, tag_of, NODE}
use Rattle.scan.proofs.Scans.{tried}
use Rattle.scan.specs.Numbers.{known_form}
use Rattle.scan.proofs.long_form.Goals as goal

pub returns-then-eq : goal.returns-then-eq
unfolding tag_of forms
returns-then-eq c = ap (λ (w : List ℕ). known_form (tag_of NODE w)) (tried c.args.name.now (ascii "contains") _ (c.eq.ensures ∙ ap (same c.args.name.now) c.as_slice.ensures) c.if-eq.true)

pub returns-in-395143239984487 : goal.returns-in-395143239984487
unfolding tag_of forms
returns-in-395143239984487 c = ap (λ (w : List ℕ). known_form (tag_of NODE w)) (c.word_of.ensures.only (ascii "gettag") refl c.in-395143239984487.is)

pub returns-in-395143239917928 : goal.returns-in-395143239917928
unfolding tag_of forms
returns-in-395143239917928 c = ap (λ (w : List ℕ). known_form (tag_of NODE w)) (c.word_of.ensures.only (ascii "hastag") refl c.in-395143239917928.is)

pub returns-in-5996505452 : goal.returns-in-5996505452
unfolding tag_of forms
returns-in-5996505452 c = ap (λ (w : List ℕ). known_form (tag_of NODE w)) (c.word_of.ensures.only (ascii "like") refl c.in-5996505452.is)

pub returns-in-101458953463095656 : goal.returns-in-101458953463095656
unfolding tag_of forms
returns-in-101458953463095656 c = ap (λ (w : List ℕ). known_form (tag_of NODE w)) (c.word_of.ensures.only (ascii "haspath") refl c.in-101458953463095656.is)

pub returns-in-1621156195685 : goal.returns-in-1621156195685
unfolding tag_of forms
returns-in-1621156195685 c = ap (λ (w : List ℕ). known_form (tag_of NODE w)) (c.word_of.ensures.only (ascii "empty") refl c.in-1621156195685.is)

pub returns-in-391917634545010 : goal.returns-in-391917634545010
unfolding tag_of forms
returns-in-391917634545010 c = ap (λ (w : List ℕ). known_form (tag_of NODE w)) (c.word_of.ensures.only (ascii "record") refl c.in-391917634545010.is)

pub returns-in-6248426611 : goal.returns-in-6248426611
unfolding tag_of forms
returns-in-6248426611 c = ap (λ (w : List ℕ). known_form (tag_of NODE w)) (c.word_of.ensures.only (ascii "slot") refl c.in-6248426611.is)
