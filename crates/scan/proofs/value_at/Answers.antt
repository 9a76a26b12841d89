-- `scan::value_at` meets its contract. Assumes nothing.
use Rattle.std.proofs.Common.{refl, arith}
use Rattle.sheet.specs.Ascii.{ascii}
use Rattle.sheet.specs.Forms.{keys, VALUE}
use Rattle.scan.proofs.Starts.{heading_read, start_known}
use Rattle.scan.proofs.value_at.Goals as goal

pub returns-in-348980947738998 : goal.returns-in-348980947738998
unfolding keys
returns-in-348980947738998 c = heading_read _ _ (start_known _ (ascii "value=") VALUE 5 (c.word_of.ensures.only (ascii "value=") refl c.in-348980947738998.is) (omega arith) refl (omega arith) refl)
