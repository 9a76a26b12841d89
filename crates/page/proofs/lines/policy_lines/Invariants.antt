-- `page::lines::policy_lines` meets its contract. Assumes nothing.
use Rattle.listing.proofs.Printing.{Printing}
use Rattle.page.specs.Said.{first_lines}
use Rattle.page.proofs.Rows.{left_from}
use Rattle.page.proofs.lines.policy_lines.Given as goal

abbrev pub invariant-loop-i : goal.invariant-loop-i
invariant-loop-i l = Printing (first_lines l.sheet l.policies.rows.now l.policies.classes.now l.roots l.n) (left_from l.sheet l.policies.rows.now l.policies.classes.now l.roots l.n l.i l.before) l.initial.out l.out
