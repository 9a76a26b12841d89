-- The partial run over the policies of a sheet by content: what the theorems about the numbered run compare it with.
use Rattle.std.specs.Prelude.{List, [], ◌∷◌}
use Rattle.cedar.specs.Types.{tbool, Schema}
use Rattle.cedar.specs.Typing.{Typed}
use Rattle.cedar.specs.Entities.{PEnv}
use Rattle.cedar.specs.Interpret.{class, interpret}
use Rattle.cedar.specs.Response.{Verdict}
use Rattle.cedar.specs.Runs.{Policy}

module _ (S : Schema) where
  -- "bool for .. policies": each policy's tree is typed as bool.
  pub data Policies : List Policy → Type 0 where
    no_policy : Policies []
    one_policy : {p : Policy} {ps : List Policy} → Typed S p.tree tbool → Policies ps → Policies (p ∷ ps)

  -- The policy lines of a partial answer: each policy is called what is left of its tree.
  abbrev pub partial_answer : PEnv → List Policy → List Verdict
  partial_answer P [] = []
  partial_answer P (p ∷ ps) = record { effect = p.effect; class = class (interpret S P p.tree) } ∷ partial_answer P ps

  -- An answer handed back: each policy with what is left of its tree.
  abbrev pub handed_back : PEnv → List Policy → List Policy
  handed_back P [] = []
  handed_back P (p ∷ ps) = record { effect = p.effect; tree = interpret S P p.tree } ∷ handed_back P ps
