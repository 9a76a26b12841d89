-- The hypotheses of demand 3 on bytes can be met: document 01's known sheet, and a complete sheet with a text and a value of its own; and a
-- partial sheet that makes a value and leaves a policy open, which two complete sheets that agree with it settle in different ways.
use mathlib.Core.Path.{◌≡◌, refl}
use mathlib.Core.Bool.{true}
use mathlib.Core.Option.{none, some}
use mathlib.Core.List.{List, [], ◌∷◌}
use Prim.Native.Nat.{ℕ}
use lib.IntN.{pos}
use lib.ListN.{replicate}
use Rattle.sheet.specs.Ascii.{ascii}
use Rattle.sheet.specs.Forms.{keys, partial, complete, forms, form_of, slot_at, counted, tag_of, row_of, key_of, refs, ascendings}
use Rattle.sheet.specs.Parents.{ancestors, unknown_above}
use Rattle.sheet.specs.Typing.{fits_in, nodes_under, typed}
use Rattle.sheet.specs.Sheet.{found, depth, fault, more, read}
use Rattle.sheet.specs.Content.{types, value_rows, contents, schema, trees, exprs, on_term, n_policies, policies, n_env, env}
use Rattle.sheet.specs.Answer.{run, results, answer}
use Rattle.sheet.specs.Call.{returned, written, Accepted}
use Rattle.cedar.specs.Canonical.{order, same, place, insert, ascending, make_set}
use Rattle.cedar.specs.Residual.{Class, ctrue, cfalse, copen}
use Rattle.cedar.specs.Response.{permit, allow, deny, undecided, decision}
use Rattle.cedar.specs.Rows.{rlong}
use Rattle.sheet.specs.Agreement.{agrees}
use Rattle.sheet.specs.ReadAnswer.{PolicyLine, read_answer}
use Rattle.sheet.specs.Demand3.{Answered, bytes_of, Demand3}
use Rattle.sheet.proofs.demand3.Demand3Bytes.{demand_3}
use Rattle.sheet.proofs.demand3.Demand3Answers.{demand_3_bytes}
use Rattle.sheet.proofs.answer.Shown.{line_ends}

unfoldable pub p : List ℕ
p = line_ends (ascii "sheet=partial/text=Broker/text=Action/text=Tariff/text=quote/text=T1/text=low/text=high/text=b7/kind=0,e/kind=1,a/kind=2,e/type=bool/type=record/type=entity,0/shape=1,-/shape=1,-/shape=1,-/value=entity,0,7/value=bool,1/principal=0,?/action=1,3/resource=2,4/context=1,?/day=2000-01-01/node=2,var,p/node=2,lit,0/node=0,eq,0,1/node=0,lit,1/policy=5,permit,2/policy=6,permit,3/")

unfoldable pub c : List ℕ
c = line_ends (ascii "sheet=complete/text=Broker/text=Action/text=Tariff/text=quote/text=T1/text=low/text=high/text=b7/text=b9/kind=0,e/kind=1,a/kind=2,e/type=bool/type=record/type=entity,0/shape=1,-/shape=1,-/shape=1,-/value=entity,0,7/value=bool,1/value=record/principal=0,8/action=1,3/resource=2,4/context=1,2/day=2000-01-01/node=2,var,p/node=2,lit,0/node=0,eq,0,1/node=0,lit,1/policy=5,permit,2/policy=6,permit,3/")

p_accepted : Accepted partial p
unfolding p keys forms form_of slot_at counted tag_of row_of key_of refs ascendings fits_in nodes_under typed found depth fault more read types value_rows contents schema trees exprs on_term n_policies policies n_env env run results answer returned ancestors unknown_above order same place insert ascending make_set
p_accepted = record { work₁ = 16384; work₂ = 20000; out = 16384; zero_number = refl }

c_accepted : Accepted complete c
unfolding c keys forms form_of slot_at counted tag_of row_of key_of refs ascendings fits_in nodes_under typed found depth fault more read types value_rows contents schema trees exprs on_term n_policies policies n_env env run results answer returned ancestors unknown_above order same place insert ascending make_set
c_accepted = record { work₁ = 16384; work₂ = 16384; out = 500; zero_number = refl }

they_agree : agrees (read partial p).state (read complete c).state ≡ true
unfolding p c agrees keys forms form_of slot_at counted tag_of row_of key_of refs ascendings fits_in nodes_under typed found depth fault more read types value_rows contents schema trees exprs on_term n_policies policies n_env env run results answer returned ancestors unknown_above order same place insert ascending make_set
they_agree = refl

-- the partial answer says allow; so does the complete one
final : decision (results (read complete c).state) ≡ allow
unfolding p keys forms form_of slot_at counted tag_of row_of key_of refs ascendings fits_in nodes_under typed found depth fault more read types value_rows contents schema trees exprs on_term n_policies policies n_env env run results answer returned ancestors unknown_above order same place insert ascending make_set
final = (demand_3 p c p_accepted c_accepted they_agree).allowed refl

-- ---- three answers: each call with work slices and a buffer of its own

-- context.n < 1 + 2 over an unknown context: the sum is made, value 2, and the policy stays open
unfoldable pub open_sheet : List ℕ
open_sheet = line_ends (ascii "sheet=partial/text=Broker/text=Action/text=Tariff/text=quote/text=T1/text=p0/text=n/kind=0,e/kind=1,a/kind=2,e/type=bool/type=record/type=long/type=record,6,r,2/shape=1,-/shape=1,-/shape=1,-/value=long,1/value=long,2/principal=0,?/action=1,3/resource=2,4/context=3,?/day=2000-01-01/node=3,var,c/node=2,get,0,6/node=2,lit,0/node=2,lit,1/node=2,add,2,3/node=0,lt,1,4/policy=5,permit,5/")

-- value 2 of the complete sheets is their own: -7 on the one, 9 on the other
unfoldable pub low : List ℕ
low = line_ends (ascii "sheet=complete/text=Broker/text=Action/text=Tariff/text=quote/text=T1/text=p0/text=n/kind=0,e/kind=1,a/kind=2,e/type=bool/type=record/type=long/type=record,6,r,2/shape=1,-/shape=1,-/shape=1,-/value=long,1/value=long,2/value=long,-7/value=record,6,2/principal=0,4/action=1,3/resource=2,4/context=3,3/day=2000-01-01/node=3,var,c/node=2,get,0,6/node=2,lit,0/node=2,lit,1/node=2,add,2,3/node=0,lt,1,4/policy=5,permit,5/")

unfoldable pub high : List ℕ
high = line_ends (ascii "sheet=complete/text=Broker/text=Action/text=Tariff/text=quote/text=T1/text=p0/text=n/kind=0,e/kind=1,a/kind=2,e/type=bool/type=record/type=long/type=record,6,r,2/shape=1,-/shape=1,-/shape=1,-/value=long,1/value=long,2/value=long,9/value=record,6,2/principal=0,4/action=1,3/resource=2,4/context=3,3/day=2000-01-01/node=3,var,c/node=2,get,0,6/node=2,lit,0/node=2,lit,1/node=2,add,2,3/node=0,lt,1,4/policy=5,permit,5/")

open_call : Answered partial open_sheet
unfolding open_sheet keys forms form_of slot_at counted tag_of row_of key_of refs ascendings fits_in nodes_under typed found depth fault more read types value_rows contents schema trees exprs on_term n_policies policies n_env env run results answer returned ancestors unknown_above order same place insert ascending make_set
open_call = record { work₁ = 16384; work₂ = 20000; buffer = replicate 200 33; zero_number = refl }

low_call : Answered complete low
unfolding low keys forms form_of slot_at counted tag_of row_of key_of refs ascendings fits_in nodes_under typed found depth fault more read types value_rows contents schema trees exprs on_term n_policies policies n_env env run results answer returned ancestors unknown_above order same place insert ascending make_set
low_call = record { work₁ = 20000; work₂ = 16384; buffer = replicate 100 7; zero_number = refl }

high_call : Answered complete high
unfolding high keys forms form_of slot_at counted tag_of row_of key_of refs ascendings fits_in nodes_under typed found depth fault more read types value_rows contents schema trees exprs on_term n_policies policies n_env env run results answer returned ancestors unknown_above order same place insert ascending make_set
high_call = record { work₁ = 16384; work₂ = 16384; buffer = replicate 300 0; zero_number = refl }

pub low_agrees : agrees (read partial open_sheet).state (read complete low).state ≡ true
unfolding open_sheet low agrees keys forms form_of slot_at counted tag_of row_of key_of refs ascendings fits_in nodes_under typed found depth fault more read types value_rows contents schema trees exprs on_term n_policies policies n_env env run results answer returned ancestors unknown_above order same place insert ascending make_set
low_agrees = refl

pub high_agrees : agrees (read partial open_sheet).state (read complete high).state ≡ true
unfolding open_sheet high agrees keys forms form_of slot_at counted tag_of row_of key_of refs ascendings fits_in nodes_under typed found depth fault more read types value_rows contents schema trees exprs on_term n_policies policies n_env env run results answer returned ancestors unknown_above order same place insert ascending make_set
high_agrees = refl

three : Demand3 open_sheet low high (bytes_of open_call) (bytes_of low_call) (bytes_of high_call)
three = demand_3_bytes open_sheet low high open_call low_call high_call low_agrees high_agrees

-- what the three answers say: open, with what is left under node 3; true on the one sheet and false on the other
abbrev line : ℕ → Class → ℕ → PolicyLine
line i c n = record { id = i; effect = permit; class = c; root = n }

open_says : read_answer partial (bytes_of open_call) ≡ some (record {
  decision = undecided;
  counts = 0 ∷ 0 ∷ 0 ∷ 1 ∷ 0 ∷ 0 ∷ 0 ∷ 0 ∷ [];
  why = none;
  made = rlong (pos 3) ∷ [];
  nodes = (23 ∷ 3 ∷ 3 ∷ []) ∷ (41 ∷ 2 ∷ 0 ∷ 6 ∷ []) ∷ (21 ∷ 2 ∷ 2 ∷ []) ∷ (27 ∷ 0 ∷ 1 ∷ 2 ∷ []) ∷ [];
  policies = line 5 copen 3 ∷ [];
})
unfolding open_sheet open_call read_answer written keys forms form_of slot_at counted tag_of row_of key_of refs ascendings fits_in nodes_under typed found depth fault more read types value_rows contents schema trees exprs on_term n_policies policies n_env env run results answer returned ancestors unknown_above order same place insert ascending make_set
open_says = refl

low_says : read_answer complete (bytes_of low_call) ≡ some (record { decision = allow; counts = 1 ∷ 0 ∷ 0 ∷ 0 ∷ 0 ∷ 0 ∷ 0 ∷ 0 ∷ []; why = some 5; made = []; nodes = []; policies = line 5 ctrue 0 ∷ [] })
unfolding low low_call read_answer written keys forms form_of slot_at counted tag_of row_of key_of refs ascendings fits_in nodes_under typed found depth fault more read types value_rows contents schema trees exprs on_term n_policies policies n_env env run results answer returned ancestors unknown_above order same place insert ascending make_set
low_says = refl

high_says : read_answer complete (bytes_of high_call) ≡ some (record { decision = deny; counts = 0 ∷ 1 ∷ 0 ∷ 0 ∷ 0 ∷ 0 ∷ 0 ∷ 0 ∷ []; why = none; made = []; nodes = []; policies = line 5 cfalse 0 ∷ [] })
unfolding high high_call read_answer written keys forms form_of slot_at counted tag_of row_of key_of refs ascendings fits_in nodes_under typed found depth fault more read types value_rows contents schema trees exprs on_term n_policies policies n_env env run results answer returned ancestors unknown_above order same place insert ascending make_set
high_says = refl
