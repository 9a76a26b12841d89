-- `scan::type_at` meets its contract. Assumes nothing.
use Rattle.std.proofs.Common.{refl, arith}
use Rattle.sheet.specs.Ascii.{ascii}
use Rattle.sheet.specs.Forms.{keys, TYPE, KIND}
use Rattle.scan.proofs.Starts.{heading_read, start_known}
use Rattle.scan.proofs.type_at.Goals as goal

pub returns-in-1363206502772 : goal.returns-in-1363206502772
unfolding keys
returns-in-1363206502772 c = heading_read _ _ (start_known _ (ascii "type=") TYPE 4 (c.word_of.ensures.only (ascii "type=") refl c.in-1363206502772.is) (omega arith) refl (omega arith) refl)

pub returns-in-1363189590379 : goal.returns-in-1363189590379
unfolding keys
returns-in-1363189590379 c = heading_read _ _ (start_known _ (ascii "kind=") KIND 4 (c.word_of.ensures.only (ascii "kind=") refl c.in-1363189590379.is) (omega arith) refl (omega arith) refl)
