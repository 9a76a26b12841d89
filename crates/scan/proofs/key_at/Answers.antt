-- `scan::key_at` meets its contract. Assumes nothing.
use Rattle.std.proofs.Common.{refl, arith}
use Rattle.sheet.specs.Ascii.{ascii}
use Rattle.sheet.specs.Forms.{keys, TEXT, NODE}
use Rattle.scan.proofs.Starts.{heading_read, start_known}
use Rattle.scan.proofs.key_at.Goals as goal

pub returns-in-1363205713774 : goal.returns-in-1363205713774
unfolding keys
returns-in-1363205713774 c = heading_read _ _ (start_known _ (ascii "node=") NODE 4 (c.word_of.ensures.only (ascii "node=") refl c.in-1363205713774.is) (omega arith) refl (omega arith) refl)

pub returns-in-1363458680180 : goal.returns-in-1363458680180
unfolding keys
returns-in-1363458680180 c = heading_read _ _ (start_known _ (ascii "text=") TEXT 4 (c.word_of.ensures.only (ascii "text=") refl c.in-1363458680180.is) (omega arith) refl (omega arith) refl)
