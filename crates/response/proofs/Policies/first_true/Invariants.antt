use lib.ListN.{get_or}
use Rattle.table.specs.Layout.{RUN}
use Rattle.response.specs.Verdicts.{effect_said, effect_number}
use Rattle.response.proofs.Naming.{Walked}
use Rattle.response.proofs.Policies.first_true.Given as goal

abbrev pub invariant-loop-i : goal.invariant-loop-i
invariant-loop-i l = Walked l.self.rows.now l.self.classes.now (effect_number (effect_said l.effect)) (get_or l.self.rows.now RUN 0) l.i
