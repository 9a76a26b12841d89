use Rattle.listing.proofs.Printing.{Printing}
use Rattle.response.proofs.Printing.{lines_from}
use Rattle.sheet.specs.Answer.{concat}
use Rattle.response.specs.Printed.{policy_lines}
use Rattle.response.proofs.answer.policies.Given as goal

abbrev pub invariant-loop-i : goal.invariant-loop-i
invariant-loop-i l = Printing (concat (policy_lines l.policies.rows.now l.policies.classes.now)) (concat (lines_from l.policies.rows.now l.policies.classes.now l.i)) l.initial.out l.out
