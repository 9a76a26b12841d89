-- A PARTIAL SHEET DOES NOT SETTLE THE NAME: the sheet of document 01 is allowed and names policy 6, since policy 5, which stands before it, is open. Where the broker turns out to be
-- the one that policy 5 asks for, the complete sheet is allowed too and names policy 5; with another broker it names policy 6 as before. Assumes nothing.
use mathlib.Core.Path.{◌≡◌, refl}
use mathlib.Core.Bool.{true}
use mathlib.Core.Option.{some}
use mathlib.Core.List.{List, [], ◌∷◌}
use Prim.Native.Nat.{ℕ}
use native.Mathlib.Omega.{arith}
use lib.ListN.{replicate}
use Rattle.cedar.proofs.Tools.{the_same}
use Rattle.cedar.specs.Canonical.{order, same, place, insert, ascending, make_set}
use Rattle.cedar.specs.Residual.{Class, ctrue, cfalse, copen}
use Rattle.cedar.specs.Response.{permit, allow}
use Rattle.sheet.specs.Ascii.{ascii}
use Rattle.sheet.specs.Forms.{keys, partial, complete, forms, form_of, slot_at, counted, tag_of, row_of, key_of, refs, ascendings}
use Rattle.sheet.specs.Parents.{ancestors, unknown_above}
use Rattle.sheet.specs.Typing.{fits_in, nodes_under, typed}
use Rattle.sheet.specs.Sheet.{found, depth, fault, more, read}
use Rattle.sheet.specs.Content.{types, value_rows, contents, schema, trees, exprs, on_term, n_policies, policies, n_env, env}
use Rattle.sheet.specs.Answer.{run, results, answer}
use Rattle.sheet.specs.Call.{returned, written}
use Rattle.sheet.specs.Agreement.{agrees}
use Rattle.sheet.specs.ReadAnswer.{PolicyLine, Said, read_answer}
use Rattle.sheet.specs.Demand3.{is_settled, Answered, bytes_of, Demand3}
use Rattle.sheet.proofs.demand3.Demand3Answers.{demand_3_bytes}
use Rattle.sheet.proofs.answer.Shown.{line_ends}

-- the broker is not known
unfoldable pub any_broker : List ℕ
any_broker = line_ends (ascii "sheet=partial/text=Broker/text=Action/text=Tariff/text=quote/text=T1/text=low/text=high/text=b7/kind=0,e/kind=1,a/kind=2,e/type=bool/type=record/type=entity,0/shape=1,-/shape=1,-/shape=1,-/value=entity,0,7/value=bool,1/principal=0,?/action=1,3/resource=2,4/context=1,?/day=2000-01-01/node=2,var,p/node=2,lit,0/node=0,eq,0,1/node=0,lit,1/policy=5,permit,2/policy=6,permit,3/")

-- the broker that policy 5 asks for
unfoldable pub asked_for : List ℕ
asked_for = line_ends (ascii "sheet=complete/text=Broker/text=Action/text=Tariff/text=quote/text=T1/text=low/text=high/text=b7/kind=0,e/kind=1,a/kind=2,e/type=bool/type=record/type=entity,0/shape=1,-/shape=1,-/shape=1,-/value=entity,0,7/value=bool,1/value=record/principal=0,7/action=1,3/resource=2,4/context=1,2/day=2000-01-01/node=2,var,p/node=2,lit,0/node=0,eq,0,1/node=0,lit,1/policy=5,permit,2/policy=6,permit,3/")

-- another one
unfoldable pub someone_else : List ℕ
someone_else = line_ends (ascii "sheet=complete/text=Broker/text=Action/text=Tariff/text=quote/text=T1/text=low/text=high/text=b7/kind=0,e/kind=1,a/kind=2,e/type=bool/type=record/type=entity,0/shape=1,-/shape=1,-/shape=1,-/value=entity,0,7/value=bool,1/value=record/principal=0,4/action=1,3/resource=2,4/context=1,2/day=2000-01-01/node=2,var,p/node=2,lit,0/node=0,eq,0,1/node=0,lit,1/policy=5,permit,2/policy=6,permit,3/")

any_broker_call : Answered partial any_broker
unfolding any_broker keys forms form_of slot_at counted tag_of row_of key_of refs ascendings fits_in nodes_under typed found depth fault more read types value_rows contents schema trees exprs on_term n_policies policies n_env env run results answer returned ancestors unknown_above order same place insert ascending make_set
any_broker_call = record { work₁ = 16384; work₂ = 20000; buffer = replicate 200 33; zero_number = refl }

asked_for_call : Answered complete asked_for
unfolding asked_for keys forms form_of slot_at counted tag_of row_of key_of refs ascendings fits_in nodes_under typed found depth fault more read types value_rows contents schema trees exprs on_term n_policies policies n_env env run results answer returned ancestors unknown_above order same place insert ascending make_set
asked_for_call = record { work₁ = 20000; work₂ = 16384; buffer = replicate 100 7; zero_number = refl }

someone_else_call : Answered complete someone_else
unfolding someone_else keys forms form_of slot_at counted tag_of row_of key_of refs ascendings fits_in nodes_under typed found depth fault more read types value_rows contents schema trees exprs on_term n_policies policies n_env env run results answer returned ancestors unknown_above order same place insert ascending make_set
someone_else_call = record { work₁ = 16384; work₂ = 16384; buffer = replicate 300 0; zero_number = refl }

pub asked_for_agrees : agrees (read partial any_broker).state (read complete asked_for).state ≡ true
unfolding any_broker asked_for agrees keys forms form_of slot_at counted tag_of row_of key_of refs ascendings fits_in nodes_under typed found depth fault more read types value_rows contents schema trees exprs on_term n_policies policies n_env env run results answer returned ancestors unknown_above order same place insert ascending make_set
asked_for_agrees = refl

pub someone_else_agrees : agrees (read partial any_broker).state (read complete someone_else).state ≡ true
unfolding any_broker someone_else agrees keys forms form_of slot_at counted tag_of row_of key_of refs ascendings fits_in nodes_under typed found depth fault more read types value_rows contents schema trees exprs on_term n_policies policies n_env env run results answer returned ancestors unknown_above order same place insert ascending make_set
someone_else_agrees = refl

three : Demand3 any_broker asked_for someone_else (bytes_of any_broker_call) (bytes_of asked_for_call) (bytes_of someone_else_call)
three = demand_3_bytes any_broker asked_for someone_else any_broker_call asked_for_call someone_else_call asked_for_agrees someone_else_agrees

-- ---- the three answers

abbrev line : ℕ → Class → ℕ → PolicyLine
line i c n = record { id = i; effect = permit; class = c; root = n }

abbrev open_said : Said
open_said = record {
  decision = allow;
  counts = 1 ∷ 0 ∷ 0 ∷ 1 ∷ 0 ∷ 0 ∷ 0 ∷ 0 ∷ [];
  why = some 6;
  made = [];
  nodes = (23 ∷ 2 ∷ 0 ∷ []) ∷ (21 ∷ 2 ∷ 0 ∷ []) ∷ (26 ∷ 0 ∷ 0 ∷ 1 ∷ []) ∷ (21 ∷ 0 ∷ 1 ∷ []) ∷ [];
  policies = line 5 copen 2 ∷ line 6 ctrue 3 ∷ [];
}

abbrev asked_said : Said
asked_said = record { decision = allow; counts = 2 ∷ 0 ∷ 0 ∷ 0 ∷ 0 ∷ 0 ∷ 0 ∷ 0 ∷ []; why = some 5; made = []; nodes = []; policies = line 5 ctrue 0 ∷ line 6 ctrue 0 ∷ [] }

abbrev else_said : Said
else_said = record { decision = allow; counts = 1 ∷ 1 ∷ 0 ∷ 0 ∷ 0 ∷ 0 ∷ 0 ∷ 0 ∷ []; why = some 6; made = []; nodes = []; policies = line 5 cfalse 0 ∷ line 6 ctrue 0 ∷ [] }

any_broker_says : read_answer partial (bytes_of any_broker_call) ≡ some open_said
unfolding any_broker any_broker_call read_answer written keys forms form_of slot_at counted tag_of row_of key_of refs ascendings fits_in nodes_under typed found depth fault more read types value_rows contents schema trees exprs on_term n_policies policies n_env env run results answer returned ancestors unknown_above order same place insert ascending make_set
any_broker_says = refl

asked_for_says : read_answer complete (bytes_of asked_for_call) ≡ some asked_said
unfolding asked_for asked_for_call read_answer written keys forms form_of slot_at counted tag_of row_of key_of refs ascendings fits_in nodes_under typed found depth fault more read types value_rows contents schema trees exprs on_term n_policies policies n_env env run results answer returned ancestors unknown_above order same place insert ascending make_set
asked_for_says = refl

someone_else_says : read_answer complete (bytes_of someone_else_call) ≡ some else_said
unfolding someone_else someone_else_call read_answer written keys forms form_of slot_at counted tag_of row_of key_of refs ascendings fits_in nodes_under typed found depth fault more read types value_rows contents schema trees exprs on_term n_policies policies n_env env run results answer returned ancestors unknown_above order same place insert ascending make_set
someone_else_says = refl

-- what a partial and a complete answer say where the one settles the decision and not the name
pub record NameMoves (first second : Said) : Type 0 where
  pub settled : is_settled first.decision ≡ true
  pub same_decision : second.decision ≡ first.decision
  pub other_name : second.why ≡ first.why → ⊥

-- THE THEOREM
name_moves : NameMoves open_said asked_said
name_moves = record { settled = refl; same_decision = refl; other_name = λ e. let z : ◌≡◌ {A = ℕ} 5 6 = the_same refl e in omega (arith, z) }
