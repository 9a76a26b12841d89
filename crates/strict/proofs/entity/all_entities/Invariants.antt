-- `strict::entity::all_entities` meets its contract. Assumes nothing.
use lib.ListN.{length, drop}
use Rattle.cedar.specs.Numbered.{all_rent}
use Rattle.value.proofs.Lists.{Going}
use Rattle.lookup.specs.Lookups.{values}
use Rattle.strict.proofs.entity.all_entities.Given as goal

abbrev pub invariant-loop-v : goal.invariant-loop-v
invariant-loop-v l = Going (all_rent (values l.rows) l.list) (all_rent (values l.rows) (drop l.v-index l.list)) l.v-index (length l.list)
