-- `kinds_declare`: what is left of the kinds decides.
use mathlib.Core.Path.{◌≡◌}
use lib.ListN.{length}
use Rattle.typerows.proofs.KindWalks.{Kinds}
use Rattle.typesets.specs.Sets.{TYPE_WORDS, Each}
use Rattle.typerows.specs.Types.{of_record, of_kind, declares_as}
use Rattle.typerows.proofs.kinds_declare.Given as goal

abbrev pub invariant-loop-kind : goal.invariant-loop-kind
invariant-loop-kind l = Kinds (of_kind l.rows (declares_as l.rows l.text l.own)) l.type_row l.kind-items l.kind-index × Each l.seen (of_record l.rows (declares_as l.rows l.text l.own)) × (length l.seen ≡ TYPE_WORDS)
