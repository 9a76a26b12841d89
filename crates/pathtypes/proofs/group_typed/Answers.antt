-- `group_typed`: what is left of the path is asked of all record types reached.
use mathlib.Core.Bool.{not}
use mathlib.Core.Path.{ap}
use mathlib.Core.Path.{refl}
use lib.ListN.{replicate}
use Rattle.typesets.specs.Sets.{TYPE_WORDS}
use Rattle.pathtypes.proofs.KnownSets.{learned_none}
use Rattle.pathtypes.proofs.StepLaws.{seen_none}
use Rattle.pathtypes.proofs.PathLaws.{path_none, path_start, kept_start, path_end, path_lost, path_on, path_same, kept_same}
use borrow.Author.Rules.{rules}
use Rattle.pathtypes.proofs.group_typed.Goals as goal

pub returns-then-not-add_type : goal.returns-then-not-add_type
returns-then-not-add_type c = search path_none

pub invariant_of-memory : goal.invariant_of-memory
invariant_of-memory c = record { few = search rules; learned = search learned_none; looked = search seen_none }

pub loop-i-init : goal.loop-i-init
loop-i-init c = (search path_start, search kept_start, search rules, search rules, search rules)

pub loop-i-preserved-then-eq : goal.loop-i-preserved-then-eq
loop-i-preserved-then-eq c = (path_same c.args.rows.now c.args.line.now c.args.start c.args.ty c.loop-i.records c.loop-i.kept c.loop-i.i c.loop-i.invariant.0 c.loop-i.invariant.1 c.skip-i.result c.skip-i.ensures c.item-text.result (replicate TYPE_WORDS 0) c.step.new.reached c.step.result c.if-i-line.false c.item-text.ensures refl c.loop-i.memory.rows.now c.loop-i.invariant.2 c.step.ensures.gathered (ap not c.if-not-step.false) c.eq.result c.eq.ensures c.if-eq.true, kept_same c.args.rows.now c.args.line.now c.args.start c.args.ty c.loop-i.records c.loop-i.kept c.loop-i.i c.loop-i.invariant.0 c.loop-i.invariant.1 c.skip-i.result c.skip-i.ensures c.item-text.result (replicate TYPE_WORDS 0) c.step.new.reached c.step.result c.if-i-line.false c.item-text.ensures refl c.loop-i.memory.rows.now c.loop-i.invariant.2 c.step.ensures.gathered (ap not c.if-not-step.false) c.eq.result c.eq.ensures c.if-eq.true c.add.new.words c.add.ensures, search rules, search rules, search rules)

pub loop-i-preserved : goal.loop-i-preserved
loop-i-preserved c = (path_on c.args.rows.now c.args.line.now c.args.start c.args.ty c.loop-i.records c.loop-i.kept c.loop-i.i c.loop-i.invariant.0 c.loop-i.invariant.1 c.skip-i.result c.skip-i.ensures c.item-text.result (replicate TYPE_WORDS 0) c.step.new.reached c.step.result c.if-i-line.false c.item-text.ensures refl c.loop-i.memory.rows.now c.loop-i.invariant.2 c.step.ensures.gathered (ap not c.if-not-step.false), search kept_start, search rules, search rules, search rules)

pub returns-then-i-line : goal.returns-then-i-line
returns-then-i-line c = search path_end

pub returns-then-not-step : goal.returns-then-not-step
returns-then-not-step c = search path_lost
