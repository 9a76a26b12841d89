-- The policy that an answer names, by its number among those that run.
use Rattle.std.specs.Prelude.{cond, Option, Some, None, List, [], ℕ, ltb, get_or}
use Rattle.std.proofs.Math.Option.{none, some}
use Rattle.sheet.specs.Forms.{at}
use Rattle.sheet.specs.Sheet.{firsts}
use Rattle.sheet.specs.Why.{Name, true_ones, why}
use Rattle.table.specs.Layout.{RUN, rows_of}
use Rattle.response.specs.Verdicts.{effect_is, verdicts_in}

-- the id of policy i; none where there is no such policy
unfoldable pub name_at : List ℕ → ℕ → Name
name_at a i = cond (ltb i (get_or a RUN 0)) (some (at (get_or (rows_of a RUN) i []) 0)) none

-- of the policy that is named, if one is
abbrev pub name_of : List ℕ → Option ℕ → Name
name_of a (Some i) = name_at a i
name_of a None = none

-- the ids of the policies that run
unfoldable pub ids_in : List ℕ → List ℕ
ids_in a = firsts (rows_of a RUN)

-- the ids of those of an effect that are called true
unfoldable pub true_in : List ℕ → List ℕ → ℕ → List ℕ
true_in a cs e = true_ones (effect_is e) (ids_in a) (verdicts_in a cs)

-- the name of their answer
unfoldable pub why_in : List ℕ → List ℕ → Name
why_in a cs = why (ids_in a) (verdicts_in a cs)
