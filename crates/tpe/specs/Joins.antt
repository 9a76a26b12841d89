-- How far children are worked, as the definitions count it.
use Rattle.std.specs.Prelude.{ℕ, [], ◌∷◌, get_or}
use Rattle.tpe.specs.Run.{all_values, some_error, some_open}
use Rattle.tpe.specs.declared.steps.Joined.{Joined}
use Rattle.tpe.specs.declared.steps.Joined.TheVariants.{Values, Error, Open}

abbrev pub join_in : Joined → ℕ
join_in Values = all_values
join_in Error = some_error
join_in Open = some_open

-- how far a number says that they are worked: one above the first two says what some_open does
abbrev pub join_at : ℕ → ℕ
join_at n = get_or (all_values ∷ some_error ∷ []) n some_open
