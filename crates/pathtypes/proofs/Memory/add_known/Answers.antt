-- `Memory::add_known`: the set of a type joins.
use mathlib.Core.Bool.{not}
use mathlib.Core.Path.{ap}
use Rattle.std.proofs.Common.{rules}
use Rattle.pathtypes.proofs.KnownSets.{known_off, known_on}
use Rattle.pathtypes.proofs.Memory.add_known.Goals as goal

pub returns-then-not-learn-clause-gathered : goal.returns-then-not-learn-clause-gathered
returns-then-not-learn-clause-gathered c = search known_off

pub returns-clause-gathered : goal.returns-clause-gathered
returns-clause-gathered c = known_on c.args.self.now.rows.now c.args.records.now c.learn.new.self.sets c.args.ty c.learn.result c.learn.ensures.set c.cut.result.now c.join.new.words c.cut.ensures (search rules) (search rules) (search rules) c.join.ensures (ap not c.if-not-learn.false)
