-- `print::byte_at` meets its contract. Assumes nothing.
use Rattle.print.proofs.Writing.{byte_in, byte_past, byte_full}
use native.Mathlib.Omega.{arith}
use Rattle.print.proofs.byte_at.Goals as goal

pub returns-then-at-buffer : goal.returns-then-at-buffer
returns-then-at-buffer c = let a = c.args in byte_in a.buffer.now a.at a.b (omega arith) (omega arith)

pub returns-then-at-lt-GREATEST : goal.returns-then-at-lt-GREATEST
returns-then-at-lt-GREATEST c = let a = c.args in byte_past a.buffer.now a.at a.b (omega arith) (omega arith) (omega arith)

pub returns : goal.returns
returns c = let a = c.args in byte_full a.buffer.now a.at a.b (omega arith) (omega arith) (omega arith) (omega arith)
