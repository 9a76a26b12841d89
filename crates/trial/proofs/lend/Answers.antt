-- `trial::lend` meets its contract. Assumes nothing.
use Rattle.std.proofs.Common.{arith}
use Rattle.std.proofs.lemmas.List.{take-replicate}
use Rattle.trial.specs.Lent.{mark, marks}
use Rattle.trial.proofs.lend.Goals as goal

pub returns : goal.returns
unfolding marks
returns g c =
    let l = c.args.lengths in
    record {
      lent = _;
      left = _;
      first = take-replicate l.first 16400 mark (omega (arith, c.if-lengths-gt-WORDS.false));
      second = take-replicate l.second 16400 mark (omega (arith, c.if-lengths-gt-WORDS-2.false));
      buffer = take-replicate l.buffer 65536 mark (omega (arith, c.if-lengths-gt-BYTES.false));
      says = c.call.ensures;
    }
