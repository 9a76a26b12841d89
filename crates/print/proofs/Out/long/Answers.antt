-- `print::Out::long` meets its contract. Assumes nothing.
use Rattle.std.proofs.Common.{rules}
use Rattle.print.proofs.Outs.{long_less, long_more}
use Rattle.print.proofs.Out.long.Goals as goal

pub returns-then-word-lt9223372036854775808 : goal.returns-then-word-lt9223372036854775808
returns-then-word-lt9223372036854775808 c = search (long_less, rules)

pub returns : goal.returns
returns c = search (long_more, rules)
