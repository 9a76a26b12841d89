-- `value::making::shift` meets its contract. Assumes nothing.
use Rattle.value.proofs.Inserts.{shift_is}
use Rattle.value.proofs.making.shift.Goals as goal

pub returns : goal.returns
returns c =
    shift_is c.args.log.now c.args.start c.args.end c.args.value c.requires.0 c.requires.1 _ c.copy_within.ensures.after c.copy_within.ensures.len
