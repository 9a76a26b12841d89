-- The sheet of document 01, "Known sheets", by number; and what is made, in order.
use mathlib.Core.Path.{◌≡◌, refl}
use mathlib.Core.Bool.{true, false}
use mathlib.Core.Option.{Option, none, some}
use mathlib.Core.List.{List, [], ◌∷◌}
use Prim.Native.Nat.{ℕ}
use lib.IntN.{pos}
use Rattle.cedar.specs.Canonical.{same, order}
use Rattle.cedar.specs.Types.{Ty, tbool, tlong, tent, trec, anil, Schema, Shape, Var, principal, action, resource, context}
use Rattle.cedar.specs.Residual.{Node, lit, var, and, bin, beq, badd, blt, ctrue, copen}
use Rattle.cedar.specs.Response.{permit, allow, decision}
use Rattle.cedar.specs.Rows.{Row, rbool, rlong, rent}
use Rattle.cedar.specs.Numbered.{NEnv, Give, made, n_interpret, out}
use Rattle.cedar.specs.Runs.{NPolicy, n_run, verdicts}

shape : ℕ → Shape
shape k = record { is_action = false; attrs = anil; tags = none; above = [] }

request : Var → Ty
request principal = tent 0 []
request action = tent 1 []
request resource = tent 2 []
request context = trec anil

schema : Schema
schema = record { shape = shape; bytes = λ t. []; request = request }

given : Var → Option Give
given principal = none
given action = some (made (rent 1 3))
given resource = some (made (rent 2 4))
given context = none

env : NEnv
env = record { request = given; line = λ k t. none }

-- value=entity,0,7 and value=bool,1
sheet : List Row
sheet = rent 0 7 ∷ rbool true ∷ []

eq_node : Node ℕ
eq_node = bin tbool beq (var (tent 0 []) principal) (lit (tent 0 []) 0)

policies : List NPolicy
policies = record { effect = permit; tree = eq_node } ∷ record { effect = permit; tree = lit tbool 1 } ∷ []

-- one open, one true; nothing is made
answer : n_run schema env policies sheet
    ≡ record { rows = rent 0 7 ∷ rbool true ∷ []; lines = record { effect = permit; class = copen; root = eq_node } ∷ record { effect = permit; class = ctrue; root = lit tbool 1 } ∷ [] }
unfolding policies sheet env given schema shape request eq_node same order
answer = refl

answer_decision : decision (verdicts (n_run schema env policies sheet).lines) ≡ allow
unfolding policies sheet env given schema shape request eq_node same order
answer_decision = refl

-- 1 + 1 < 2 makes 2, then the test; false is made once
sum : Node ℕ
sum = bin tbool blt (bin tlong badd (lit tlong 0) (lit tlong 0)) (lit tlong 0)

made_in_order : n_interpret schema env (and tbool sum sum) (rlong (pos 1) ∷ []) ≡ out (rlong (pos 1) ∷ rlong (pos 2) ∷ rbool false ∷ []) (lit tbool 2)
unfolding sum env given schema shape request same order
made_in_order = refl
