-- `words::zero` meets its contract. Assumes nothing.
use Rattle.words.proofs.Stores.{zeros_fill}
use Rattle.words.proofs.zero.Goals as goal

pub returns : goal.returns
returns c = zeros_fill c.args.end c.args.words.now c.fill.new.self c.requires (c.fill.ensures.after (λ y h. h))
