-- `each_lacks`: what is left of the kinds decides.
use mathlib.Core.Path.{◌≡◌}
use lib.ListN.{length}
use Rattle.rules.proofs.Rulings.{Each}
use Rattle.rules.specs.Rules.{lacking, type_lacks}
use Rattle.typesets.specs.Sets.{TYPE_WORDS}
use Rattle.typesets.specs.Sets as Sets
use Rattle.rules.proofs.each_lacks.Given as goal

abbrev pub invariant-loop-kind : goal.invariant-loop-kind
invariant-loop-kind l = Each (lacking l.rows l.text) l.type_row l.kind-items l.kind-index × Sets.Each l.found (type_lacks l.rows l.text) × (length l.found ≡ TYPE_WORDS)
