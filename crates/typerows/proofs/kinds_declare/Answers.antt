-- `kinds_declare`: what is left of the kinds decides.
use Rattle.typerows.proofs.KindWalks.{kinds_start, attributes_off, attributes_on}
use Rattle.typerows.proofs.Declaring.{records_none}
use borrow.Author.Rules.{rules}
use Rattle.typerows.proofs.kinds_declare.Goals as goal

pub loop-kind-init : goal.loop-kind-init
loop-kind-init c = (search kinds_start, search records_none, search rules)

pub returns-then-not-declares_once : goal.returns-then-not-declares_once
returns-then-not-declares_once c = search attributes_off

pub loop-kind-preserved : goal.loop-kind-preserved
loop-kind-preserved c = (search attributes_on, search rules, search rules)
