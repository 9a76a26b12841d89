-- `interpret::leaf` meets its contract. Assumes nothing.
use Rattle.interpret.proofs.Laws.{leaf_value, leaf_var, leaf_error}
use Rattle.interpret.proofs.leaf.Goals as goal

pub returns-then-tag-lt-ERR : goal.returns-then-tag-lt-ERR
returns-then-tag-lt-ERR c = search leaf_value

pub returns-then-tag-eq-VAR : goal.returns-then-tag-eq-VAR
returns-then-tag-eq-VAR c = search leaf_var

pub returns : goal.returns
returns c = search leaf_error
