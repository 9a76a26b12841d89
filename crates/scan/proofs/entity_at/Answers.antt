-- `scan::entity_at` meets its contract. Assumes nothing.
use Rattle.std.proofs.Common.{refl, arith}
use Rattle.sheet.specs.Ascii.{ascii}
use Rattle.sheet.specs.Forms.{keys, ENTITY, POLICY}
use Rattle.scan.proofs.Starts.{heading_read, start_known}
use Rattle.scan.proofs.entity_at.Goals as goal

pub returns-in-89361108509683301 : goal.returns-in-89361108509683301
unfolding keys
returns-in-89361108509683301 c = heading_read _ _ (start_known _ (ascii "entity=") ENTITY 6 (c.word_of.ensures.only (ascii "entity=") refl c.in-89361108509683301.is) (omega arith) refl (omega arith) refl)

pub returns-in-89361035494715248 : goal.returns-in-89361035494715248
unfolding keys
returns-in-89361035494715248 c = heading_read _ _ (start_known _ (ascii "policy=") POLICY 6 (c.word_of.ensures.only (ascii "policy=") refl c.in-89361035494715248.is) (omega arith) refl (omega arith) refl)
