-- `Memory::add_place`: the set of a place joins.
use mathlib.Core.Bool.{not}
use mathlib.Core.Path.{ap}
use Rattle.std.proofs.Common.{rules}
use Rattle.pathtypes.proofs.StepLaws.{place_off, place_on}
use Rattle.pathtypes.proofs.Memory.add_place.Goals as goal

pub returns-then-not-look-clause-gathered : goal.returns-then-not-look-clause-gathered
returns-then-not-look-clause-gathered c = search place_off

pub returns-clause-gathered : goal.returns-clause-gathered
returns-clause-gathered c = place_on c.args.self.now.rows.now c.args.self.now.texts c.args.reached.now c.look.new.self.images c.args.place c.look.result c.look.ensures.placed c.cut.result.now c.join.new.words c.cut.ensures (search rules) (search rules) (search rules) c.join.ensures (ap not c.if-not-look.false)
