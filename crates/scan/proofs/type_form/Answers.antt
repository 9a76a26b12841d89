-- `scan::type_form` meets its contract. Assumes nothing.
use Rattle.std.proofs.Common.{ℕ, List, refl, ap}
use Rattle.sheet.specs.Ascii.{ascii}
use Rattle.sheet.specs.Forms.{forms, tag_of, TYPE}
use Rattle.scan.specs.Numbers.{known_form}
use Rattle.scan.proofs.type_form.Goals as goal

pub returns-in-6114209634 : goal.returns-in-6114209634
unfolding tag_of forms
returns-in-6114209634 c = ap (λ (w : List ℕ). known_form (tag_of TYPE w)) (c.word_of.ensures.only (ascii "bool") refl c.in-6114209634.is)

pub returns-in-6030258028 : goal.returns-in-6030258028
unfolding tag_of forms
returns-in-6030258028 c = ap (λ (w : List ℕ). known_form (tag_of TYPE w)) (c.word_of.ensures.only (ascii "long") refl c.in-6030258028.is)

pub returns-in-395198889882739 : goal.returns-in-395198889882739
unfolding tag_of forms
returns-in-395198889882739 c = ap (λ (w : List ℕ). known_form (tag_of TYPE w)) (c.word_of.ensures.only (ascii "string") refl c.in-395198889882739.is)

pub returns-in-415015869116005 : goal.returns-in-415015869116005
unfolding tag_of forms
returns-in-415015869116005 c = ap (λ (w : List ℕ). known_form (tag_of TYPE w)) (c.word_of.ensures.only (ascii "entity") refl c.in-415015869116005.is)

pub returns-in-24405363 : goal.returns-in-24405363
unfolding tag_of forms
returns-in-24405363 c = ap (λ (w : List ℕ). known_form (tag_of TYPE w)) (c.word_of.ensures.only (ascii "set") refl c.in-24405363.is)

pub returns-in-391917634545010 : goal.returns-in-391917634545010
unfolding tag_of forms
returns-in-391917634545010 c = ap (λ (w : List ℕ). known_form (tag_of TYPE w)) (c.word_of.ensures.only (ascii "record") refl c.in-391917634545010.is)
