-- `scan::key_of` meets its contract. Assumes nothing.
use Rattle.std.proofs.Common.{ℕ, List, refl, ap}
use Rattle.sheet.specs.Ascii.{ascii}
use Rattle.sheet.specs.Forms.{keys, word_number}
use Rattle.scan.proofs.key_of.Goals as goal

pub returns-in-1599428978803 : goal.returns-in-1599428978803
unfolding keys
returns-in-1599428978803 c = ap (λ (w : List ℕ). word_number w keys) (c.word_of.ensures.only (ascii "sheet") refl c.in-1599428978803.is)

pub returns-in-6249014644 : goal.returns-in-6249014644
unfolding keys
returns-in-6249014644 c = ap (λ (w : List ℕ). word_number w keys) (c.word_of.ensures.only (ascii "text") refl c.in-6249014644.is)

pub returns-in-5979924843 : goal.returns-in-5979924843
unfolding keys
returns-in-5979924843 c = ap (λ (w : List ℕ). word_number w keys) (c.word_of.ensures.only (ascii "kind") refl c.in-5979924843.is)

pub returns-in-5996837236 : goal.returns-in-5996837236
unfolding keys
returns-in-5996837236 c = ap (λ (w : List ℕ). word_number w keys) (c.word_of.ensures.only (ascii "type") refl c.in-5996837236.is)

pub returns-in-1535188756595 : goal.returns-in-1535188756595
unfolding keys
returns-in-1535188756595 c = ap (λ (w : List ℕ). word_number w keys) (c.word_of.ensures.only (ascii "shape") refl c.in-1535188756595.is)

pub returns-in-1535273361782 : goal.returns-in-1535273361782
unfolding keys
returns-in-1535273361782 c = ap (λ (w : List ℕ). word_number w keys) (c.word_of.ensures.only (ascii "value") refl c.in-1535273361782.is)

pub returns-in-415015869116005 : goal.returns-in-415015869116005
unfolding keys
returns-in-415015869116005 c = ap (λ (w : List ℕ). word_number w keys) (c.word_of.ensures.only (ascii "entity") refl c.in-415015869116005.is)

pub returns-in-402899766371169 : goal.returns-in-402899766371169
unfolding keys
returns-in-402899766371169 c = ap (λ (w : List ℕ). word_number w keys) (c.word_of.ensures.only (ascii "action") refl c.in-402899766371169.is)

pub returns-in-104841068476788579 : goal.returns-in-104841068476788579
unfolding keys
returns-in-104841068476788579 c = ap (λ (w : List ℕ). word_number w keys) (c.word_of.ensures.only (ascii "context") refl c.in-104841068476788579.is)

pub returns-in-24732004 : goal.returns-in-24732004
unfolding keys
returns-in-24732004 c = ap (λ (w : List ℕ). word_number w keys) (c.word_of.ensures.only (ascii "day") refl c.in-24732004.is)

pub returns-in-5996048238 : goal.returns-in-5996048238
unfolding keys
returns-in-5996048238 c = ap (λ (w : List ℕ). word_number w keys) (c.word_of.ensures.only (ascii "node") refl c.in-5996048238.is)

pub returns-in-414942854147952 : goal.returns-in-414942854147952
unfolding keys
returns-in-414942854147952 c = ap (λ (w : List ℕ). word_number w keys) (c.word_of.ensures.only (ascii "policy") refl c.in-414942854147952.is)

pub returns-in-6097365356 : goal.returns-in-6097365356
unfolding keys
returns-in-6097365356 c = ap (λ (w : List ℕ). word_number w keys) (c.word_of.ensures.only (ascii "link") refl c.in-6097365356.is)

pub returns-in-6131180916 : goal.returns-in-6131180916
unfolding keys
returns-in-6131180916 c = ap (λ (w : List ℕ). word_number w keys) (c.word_of.ensures.only (ascii "term") refl c.in-6131180916.is)
