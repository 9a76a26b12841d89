-- `scan::middle_form` meets its contract. Assumes nothing.
use Rattle.std.proofs.Common.{ℕ, List, refl, ap}
use Rattle.sheet.specs.Ascii.{ascii}
use Rattle.sheet.specs.Forms.{forms, tag_of, NODE}
use Rattle.scan.specs.Numbers.{known_form}
use Rattle.scan.proofs.middle_form.Goals as goal

pub returns-in-24406380 : goal.returns-in-24406380
unfolding tag_of forms
returns-in-24406380 c = ap (λ (w : List ℕ). known_form (tag_of NODE w)) (c.word_of.ensures.only (ascii "lit") refl c.in-24406380.is)

pub returns-in-24277605 : goal.returns-in-24277605
unfolding tag_of forms
returns-in-24277605 c = ap (λ (w : List ℕ). known_form (tag_of NODE w)) (c.word_of.ensures.only (ascii "err") refl c.in-24277605.is)

pub returns-in-24273270 : goal.returns-in-24273270
unfolding tag_of forms
returns-in-24273270 c = ap (λ (w : List ℕ). known_form (tag_of NODE w)) (c.word_of.ensures.only (ascii "var") refl c.in-24273270.is)

pub returns-in-23359073 : goal.returns-in-23359073
unfolding tag_of forms
returns-in-23359073 c = ap (λ (w : List ℕ). known_form (tag_of NODE w)) (c.word_of.ensures.only (ascii "and") refl c.in-23359073.is)

pub returns-in-23356513 : goal.returns-in-23356513
unfolding tag_of forms
returns-in-23356513 c = ap (λ (w : List ℕ). known_form (tag_of NODE w)) (c.word_of.ensures.only (ascii "add") refl c.in-23356513.is)

pub returns-in-23229811 : goal.returns-in-23229811
unfolding tag_of forms
returns-in-23229811 c = ap (λ (w : List ℕ). known_form (tag_of NODE w)) (c.word_of.ensures.only (ascii "sub") refl c.in-23229811.is)

pub returns-in-23885165 : goal.returns-in-23885165
unfolding tag_of forms
returns-in-23885165 c = ap (λ (w : List ℕ). known_form (tag_of NODE w)) (c.word_of.ensures.only (ascii "mul") refl c.in-23885165.is)

pub returns-in-23882849 : goal.returns-in-23882849
unfolding tag_of forms
returns-in-23882849 c = ap (λ (w : List ℕ). known_form (tag_of NODE w)) (c.word_of.ensures.only (ascii "all") refl c.in-23882849.is)

pub returns-in-24735329 : goal.returns-in-24735329
unfolding tag_of forms
returns-in-24735329 c = ap (λ (w : List ℕ). known_form (tag_of NODE w)) (c.word_of.ensures.only (ascii "any") refl c.in-24735329.is)

pub returns-in-24405351 : goal.returns-in-24405351
unfolding tag_of forms
returns-in-24405351 c = ap (λ (w : List ℕ). known_form (tag_of NODE w)) (c.word_of.ensures.only (ascii "get") refl c.in-24405351.is)

pub returns-in-24338792 : goal.returns-in-24338792
unfolding tag_of forms
returns-in-24338792 c = ap (λ (w : List ℕ). known_form (tag_of NODE w)) (c.word_of.ensures.only (ascii "has") refl c.in-24338792.is)

pub returns-in-24407918 : goal.returns-in-24407918
unfolding tag_of forms
returns-in-24407918 c = ap (λ (w : List ℕ). known_form (tag_of NODE w)) (c.word_of.ensures.only (ascii "not") refl c.in-24407918.is)

pub returns-in-23553390 : goal.returns-in-23553390
unfolding tag_of forms
returns-in-23553390 c = ap (λ (w : List ℕ). known_form (tag_of NODE w)) (c.word_of.ensures.only (ascii "neg") refl c.in-23553390.is)

pub returns-in-24405363 : goal.returns-in-24405363
unfolding tag_of forms
returns-in-24405363 c = ap (λ (w : List ℕ). known_form (tag_of NODE w)) (c.word_of.ensures.only (ascii "set") refl c.in-24405363.is)
