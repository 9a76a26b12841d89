-- What the code's enums stand for.
use Rattle.tpe.specs.Run.{Side, stops, goes, wrong, unsure}
use Rattle.interpret.specs.declared.Side.{Side as Sideᶜ}
use Rattle.interpret.specs.declared.Side.TheVariants.{Stops, Goes, Wrong, Unsure}

abbrev pub side_in : Sideᶜ → Side
side_in Stops = stops
side_in Goes = goes
side_in Wrong = wrong
side_in Unsure = unsure
