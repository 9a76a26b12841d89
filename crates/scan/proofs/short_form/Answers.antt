-- `scan::short_form` meets its contract. Assumes nothing.
use Rattle.std.proofs.Common.{ℕ, List, refl, ap}
use Rattle.sheet.specs.Ascii.{ascii}
use Rattle.sheet.specs.Forms.{forms, tag_of, NODE}
use Rattle.scan.specs.Numbers.{known_form}
use Rattle.scan.proofs.short_form.Goals as goal

pub returns-in-94831 : goal.returns-in-94831
unfolding tag_of forms
returns-in-94831 c = ap (λ (w : List ℕ). known_form (tag_of NODE w)) (c.word_of.ensures.only (ascii "or") refl c.in-94831.is)

pub returns-in-94565 : goal.returns-in-94565
unfolding tag_of forms
returns-in-94565 c = ap (λ (w : List ℕ). known_form (tag_of NODE w)) (c.word_of.ensures.only (ascii "eq") refl c.in-94565.is)

pub returns-in-95340 : goal.returns-in-95340
unfolding tag_of forms
returns-in-95340 c = ap (λ (w : List ℕ). known_form (tag_of NODE w)) (c.word_of.ensures.only (ascii "lt") refl c.in-95340.is)

pub returns-in-91500 : goal.returns-in-91500
unfolding tag_of forms
returns-in-91500 c = ap (λ (w : List ℕ). known_form (tag_of NODE w)) (c.word_of.ensures.only (ascii "le") refl c.in-91500.is)

pub returns-in-93801 : goal.returns-in-93801
unfolding tag_of forms
returns-in-93801 c = ap (λ (w : List ℕ). known_form (tag_of NODE w)) (c.word_of.ensures.only (ascii "in") refl c.in-93801.is)

pub returns-in-91753 : goal.returns-in-91753
unfolding tag_of forms
returns-in-91753 c = ap (λ (w : List ℕ). known_form (tag_of NODE w)) (c.word_of.ensures.only (ascii "if") refl c.in-91753.is)

pub returns-in-95081 : goal.returns-in-95081
unfolding tag_of forms
returns-in-95081 c = ap (λ (w : List ℕ). known_form (tag_of NODE w)) (c.word_of.ensures.only (ascii "is") refl c.in-95081.is)
