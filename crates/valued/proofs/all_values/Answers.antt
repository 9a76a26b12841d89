-- `valued::all_values` meets its contract. Assumes nothing.
use mathlib.Core.Path.{◌∙◌}
use Rattle.std.proofs.lemmas.Iterator.{YieldsList-from_slice}
use Rattle.std.proofs.lemmas.Iterator.Search.{all_from_yields_List}
use Rattle.valued.proofs.Valued.{is_value, valued_listed}
use Rattle.std.proofs.Common.{rules, tests}
use Rattle.valued.proofs.all_values.Goals as goal

pub returns : goal.returns
returns c =
    all_from_yields_List is_value _ _ _ c.all.ensures.ran (YieldsList-from_slice c.as_chunks.result.0.now cc) (λ x b q k. search (rules, tests))
    ∙ valued_listed c.args.operands.now c.as_chunks.result.0.now c.as_chunks.ensures.front
