-- `long::product_outside` meets its contract. Assumes nothing.
use Rattle.long.proofs.ProductWords.{pp_test, pn_test, np_test, nn_test, pp_divides, pn_divides, np_divides, nn_divides}
use borrow.Author.Rules.{rules}
use Rattle.long.proofs.product_outside.Goals as goal

pub nonzero_div-result : goal.nonzero_div-result
nonzero_div-result c = search (pp_divides, rules)

pub nonzero_div-result-in-PositiveNegative : goal.nonzero_div-result-in-PositiveNegative
nonzero_div-result-in-PositiveNegative c = search (pn_divides, rules)

pub nonzero_div-result-in-NegativePositive : goal.nonzero_div-result-in-NegativePositive
nonzero_div-result-in-NegativePositive c = search (np_divides, rules)

pub nonzero_div-result-in-BothNegative : goal.nonzero_div-result-in-BothNegative
nonzero_div-result-in-BothNegative c = search (nn_divides, rules)

pub returns-in-BothPositive : goal.returns-in-BothPositive
returns-in-BothPositive c = search (pp_test, rules)

pub returns-in-PositiveNegative : goal.returns-in-PositiveNegative
returns-in-PositiveNegative c = search (pn_test, rules)

pub returns-in-NegativePositive : goal.returns-in-NegativePositive
returns-in-NegativePositive c = search (np_test, rules)

pub returns-in-BothNegative : goal.returns-in-BothNegative
returns-in-BothNegative c = search (nn_test, rules)
