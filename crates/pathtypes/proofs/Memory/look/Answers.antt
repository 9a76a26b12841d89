-- `Memory::look`: the set of a place is made and kept.
use mathlib.Core.Bool.{not}
use mathlib.Core.Path.{refl, ap}
use Rattle.std.proofs.Common.{rules}
use Rattle.pathtypes.proofs.StepLaws.{look_own, look_kept}
use Rattle.pathtypes.proofs.Memory.look.Goals as goal

pub invariant_of-self : goal.invariant_of-self
invariant_of-self c = record {
  few = search rules;
  learned = search rules;
  looked = look_kept c.args.self.now.rows.now c.args.self.now.texts c.add_declared.new.self.images c.add_declared.new.records c.args.place c.add_declared.result _ refl c.add_declared.ensures.gathered c.store.new.items (ap not c.if-not-add_declared.false) (search rules) (search rules) (search rules) c.store.ensures c.add_declared.new.self.rows.now c.add_declared.new.self.texts c.add_declared.new.self.seen c.add.new.words c.add_declared.ensures.rows c.add_declared.ensures.texts (search rules) c.add.ensures;
}

pub returns-clause-placed : goal.returns-clause-placed
returns-clause-placed c = look_own c.args.self.now.rows.now c.args.self.now.texts c.add_declared.new.self.images c.add_declared.new.records c.args.place c.add_declared.result _ refl c.add_declared.ensures.gathered c.store.new.items (ap not c.if-not-add_declared.false) (search rules) (search rules) (search rules) c.store.ensures
