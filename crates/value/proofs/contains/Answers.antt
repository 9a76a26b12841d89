-- `value::contains` meets its contract. Assumes nothing.
use mathlib.Core.Path.{◌∙◌}
use Rattle.value.proofs.Lists.{mem_listed}
use Rattle.value.proofs.contains.Goals as goal

pub returns : goal.returns
returns c = c.contains.ensures.value ∙ mem_listed c.args.value c.args.words.now
