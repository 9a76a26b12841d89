-- `interpret::beside` meets its contract. Assumes nothing.
use Rattle.interpret.proofs.Laws.{beside_stops, beside_goes, beside_wrong, beside_unsure}
use Rattle.interpret.proofs.beside.Goals as goal

pub returns-in-Stops : goal.returns-in-Stops
returns-in-Stops c = search beside_stops

pub returns-in-Goes : goal.returns-in-Goes
returns-in-Goes c = search beside_goes

pub returns-in-Wrong : goal.returns-in-Wrong
returns-in-Wrong c = search beside_wrong

pub returns-in-Unsure : goal.returns-in-Unsure
returns-in-Unsure c = search beside_unsure
