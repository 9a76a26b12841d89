-- `trial::number`: what was read has at most seven digits.
use Rattle.std.proofs.Common.{◌≤◌}
use Rattle.trial.proofs.number.Given as goal

abbrev pub invariant-loop : goal.invariant-loop
invariant-loop g l = l.n ≤ 9999999
