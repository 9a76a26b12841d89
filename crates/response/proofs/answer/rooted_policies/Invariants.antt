use Rattle.response.proofs.Rooted.{rooted_from}
use Rattle.listing.proofs.Printing.{Printing}
use Rattle.sheet.specs.Answer.{concat}
use Rattle.response.specs.Printed.{rooted_lines}
use Rattle.response.proofs.answer.rooted_policies.Given as goal

abbrev pub invariant-loop-i : goal.invariant-loop-i
invariant-loop-i l = Printing (concat (rooted_lines l.policies.rows.now l.policies.classes.now l.roots)) (rooted_from l.policies.rows.now l.policies.classes.now l.roots l.i) l.initial.out l.out
