-- `checks::node_depth` meets its contract. Assumes nothing.
use Rattle.std.proofs.Common.{sym, ◌∙◌}
use Rattle.checks.proofs.FoundLaws.{new_absent, new_falls, node_deep}
use Rattle.checks.proofs.node_depth.Goals as goal

pub returns-in_err-depth : goal.returns-in_err-depth
returns-in_err-depth c = rw c.from_residual.ensures (new_absent _ _ _ _ c.in_err-depth.ensures)

pub returns-then-not-ascends : goal.returns-then-not-ascends
returns-then-not-ascends c = new_falls _ _ _ _ _ c.in_ok-depth.ensures (sym c.ascends.ensures ∙ c.if-not-ascends.true)

pub returns : goal.returns
returns c = node_deep _ _ _ _ c.in_ok-depth.ensures (sym c.ascends.ensures ∙ c.if-not-ascends.false)
