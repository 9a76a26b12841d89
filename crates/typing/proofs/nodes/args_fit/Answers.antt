-- `args_fit`: what is left of the row decides.
use Rattle.typing.proofs.Rulings.{args_end, args_off, args_on, args_undeclared}
use Rattle.typing.proofs.nodes.args_fit.Goals as goal

pub returns-in_default-attribute : goal.returns-in_default-attribute
returns-in_default-attribute c = search (args_undeclared, c.in_default-attribute.ensures)

pub returns-then-node_type-z : goal.returns-then-node_type-z
returns-then-node_type-z c = search (args_off, c.in-Some.ensures)

pub loop-rest-preserved : goal.loop-rest-preserved
loop-rest-preserved c = search (args_on, c.in-Some.ensures)

pub returns : goal.returns
returns c = search args_end
