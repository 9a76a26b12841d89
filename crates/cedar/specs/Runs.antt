-- Runs over the policies of a sheet: the complete answer by content, and the partial run over value numbers.
use Rattle.std.specs.Prelude.{List, [], ◌∷◌, ℕ}
use Rattle.cedar.specs.Value.{Result, ok, fail, on_bool}
use Rattle.cedar.specs.Types.{Schema}
use Rattle.cedar.specs.Residual.{Node, Expr, Class, cerror, copen, truth}
use Rattle.cedar.specs.Entities.{Env}
use Rattle.cedar.specs.Evaluate.{eval}
use Rattle.cedar.specs.Response.{Effect, Verdict}
use Rattle.cedar.specs.Rows.{Row}
use Rattle.cedar.specs.Numbered.{NEnv, Out, n_class, n_interpret}

-- by content

pub record Policy : Type 0 where
  pub effect : Effect
  pub tree : Expr

-- "The policy's result there is true, false or error as it yields."
abbrev pub result_class : Result → Class
result_class (ok v) = on_bool copen v truth
result_class fail = cerror

module _ (S : Schema) where
  -- The policy lines of a complete answer: "the value or error that the Cedar specification gives its tree".
  abbrev pub complete_answer : Env → List Policy → List Verdict
  complete_answer C [] = []
  complete_answer C (p ∷ ps) = record { effect = p.effect; class = result_class (eval S C p.tree) } ∷ complete_answer C ps

-- by number

pub record NPolicy : Type 0 where
  pub effect : Effect
  pub tree : Node ℕ

-- "policy=id,effect,true|false|error|open,root": a policy's line with the residual under its root.
pub record NVerdict : Type 0 where
  pub effect : Effect
  pub class : Class
  pub root : Node ℕ

-- The value rows after the run, made ones last, and the policy lines.
pub record Run : Type 0 where
  pub rows : List Row
  pub lines : List NVerdict

abbrev pub verdicts : List NVerdict → List Verdict
verdicts [] = []
verdicts (l ∷ ls) = record { effect = l.effect; class = l.class } ∷ verdicts ls

module _ (S : Schema) (M : NEnv) where
  abbrev pub join_run : NVerdict → Run → Run
  join_run l r = record { rows = r.rows; lines = l ∷ r.lines }

  abbrev pub then_run : Effect → Out → (List Row → Run) → Run
  then_run e o k = join_run (record { effect = e; class = n_class o; root = o.tree }) (k o.rows)

  -- "policies in order": each is interpreted over the rows that the ones before it left.
  abbrev pub n_run : List NPolicy → List Row → Run
  n_run [] R = record { rows = R; lines = [] }
  n_run (p ∷ ps) R = then_run p.effect (n_interpret S M p.tree R) (n_run ps)
