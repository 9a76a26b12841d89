-- `settle`: one law for each answer.
use mathlib.Core.Path.{refl}
use lib.ListN.{replicate}
use Rattle.typesets.specs.Sets.{TYPE_WORDS}
use Rattle.typesets.proofs.SlotLaws.{settle_same, settle_new}
use borrow.Author.Rules.{rules}
use Rattle.typesets.proofs.settle.Goals as goal

pub returns-then-read-text : goal.returns-then-read-text
returns-then-read-text c = (search settle_same, search rules)

pub returns : goal.returns
returns c = let z = c in let s = c.slot_of-slot in (settle_new z.args.texts.now z.args.seen.now z.args.text _ (replicate TYPE_WORDS 0) c.store.new.items c.put.new.items refl refl z.requires.0 z.requires.1 s.ensures c.store.ensures c.put.ensures, s.ensures)
