-- What is noted of each policy as a number: its class, and its root among the residual nodes.
use Rattle.std.specs.Prelude.{List, [], ◌∷◌, ℕ, ◌+◌}
use Rattle.cedar.specs.Residual.{Class, ctrue, cfalse, cerror, copen}
use Rattle.cedar.specs.Runs.{NVerdict}
use Rattle.sheet.specs.Answer.{root, size}

abbrev pub CLASS_TRUE : ℕ
CLASS_TRUE = 0

abbrev pub CLASS_FALSE : ℕ
CLASS_FALSE = 1

abbrev pub CLASS_ERROR : ℕ
CLASS_ERROR = 2

abbrev pub CLASS_OPEN : ℕ
CLASS_OPEN = 3

abbrev pub class_number : Class → ℕ
class_number ctrue = CLASS_TRUE
class_number cfalse = CLASS_FALSE
class_number cerror = CLASS_ERROR
class_number copen = CLASS_OPEN

-- the roots of a run's lines, whose nodes are numbered from n
abbrev pub roots_of : ℕ → List NVerdict → List ℕ
roots_of n [] = []
roots_of n (l ∷ ls) = root n l.root ∷ roots_of (n + size l.root) ls
