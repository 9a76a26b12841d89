-- `interpret::lines` meets its contract. Assumes nothing.
use mathlib.Core.Path.{◌≡◌}
use Prim.Native.Nat.{◌≤◌}
use Rattle.interpret.specs.Lines.{lines_from, lines_of}
use Rattle.interpret.proofs.lines.Given as goal

abbrev pub invariant-loop-k : goal.invariant-loop-k
invariant-loop-k l = record { whole : lines_from l.rows l.k l.end l.log ≡ lines_of l.rows l.initial.log l.top; low : l.end ≤ 16384 }
