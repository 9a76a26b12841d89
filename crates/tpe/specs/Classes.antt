-- The classes of the code are those of the numbered interpretation.
use Rattle.cedar.specs.Residual.{Class, ctrue, cfalse, cerror, copen}
use Rattle.tpe.specs.declared.Class.{Class as Classᶜ}
use Rattle.tpe.specs.declared.Class.TheVariants.{True, False, Error, Open}

abbrev pub class_in : Classᶜ → Class
class_in True = ctrue
class_in False = cfalse
class_in Error = cerror
class_in Open = copen
