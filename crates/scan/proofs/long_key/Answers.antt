-- `scan::long_key` meets its contract. Assumes nothing.
use Rattle.std.proofs.Common.{ℕ, List, ap, ◌∙◌}
use Rattle.sheet.specs.Ascii.{ascii}
use Rattle.sheet.specs.Bytes.{same}
use Rattle.sheet.specs.Forms.{keys, word_number}
use Rattle.scan.proofs.Scans.{tried}
use Rattle.scan.proofs.long_key.Goals as goal

pub returns-then-eq : goal.returns-then-eq
unfolding keys
returns-then-eq c = ap (λ (w : List ℕ). word_number w keys) (tried c.args.name.now (ascii "principal") _ (c.eq.ensures ∙ ap (same c.args.name.now) c.as_slice.ensures) c.if-eq.true)

pub returns-then-eq-2 : goal.returns-then-eq-2
unfolding keys
returns-then-eq-2 c = ap (λ (w : List ℕ). word_number w keys) (tried c.args.name.now (ascii "resource") _ (c.eq-2.ensures ∙ ap (same c.args.name.now) c.as_slice-2.ensures) c.if-eq-2.true)
