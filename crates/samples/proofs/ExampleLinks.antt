-- The hypotheses of `demand_3_bytes` are met where one rule serves three policies, linked to a broker and a tariff each, and one of them is off term. The tariff is known: the first
-- policy is open with its broker in the slot's place, the second false as it is linked to another tariff, the third has no line on any answer. Assumes nothing.
use mathlib.Core.Path.{◌≡◌, refl}
use mathlib.Core.Bool.{true}
use mathlib.Core.List.{List}
use Prim.Native.Nat.{ℕ}
use lib.ListN.{replicate}
use Rattle.sheet.specs.Ascii.{ascii}
use Rattle.sheet.specs.Forms.{keys, partial, complete, forms, form_of, slot_at, counted, tag_of, row_of, key_of, refs, ascendings}
use Rattle.sheet.specs.Parents.{ancestors, unknown_above}
use Rattle.sheet.specs.Typing.{fits_in, nodes_under, typed}
use Rattle.sheet.specs.Sheet.{found, depth, fault, more, read}
use Rattle.sheet.specs.Content.{types, value_rows, contents, schema, trees, exprs, on_term, n_policies, policies, n_env, env}
use Rattle.sheet.specs.Answer.{run, results, answer}
use Rattle.sheet.specs.Call.{returned, written}
use Rattle.cedar.specs.Canonical.{order, same, place, insert, ascending, make_set}
use Rattle.sheet.specs.Agreement.{agrees}
use Rattle.sheet.specs.Demand3.{Answered, bytes_of, Demand3}
use Rattle.sheet.proofs.demand3.Demand3Answers.{demand_3_bytes}
use Rattle.sheet.proofs.answer.Shown.{line_ends}

-- the broker is not known
unfoldable pub one_rule : List ℕ
one_rule = line_ends (ascii "sheet=partial/text=Broker/text=Action/text=Tariff/text=quote/text=T1/text=p0/text=p1/text=p2/text=b7/text=b8/text=T2/kind=0,e/kind=1,a/kind=2,e/type=bool/type=record/type=entity,0/type=entity,2/shape=1,-/shape=1,-/shape=1,-/value=entity,0,8/value=entity,0,9/value=entity,2,4/value=entity,2,10/value=record/principal=0,?/action=1,3/resource=2,4/context=1,?/day=2024-02-29/node=3,var,r/node=3,slot,r/node=0,eq,0,1/node=2,var,p/node=2,slot,p/node=0,eq,3,4/node=0,and,2,5/policy=5,permit,6/policy=6,permit,6/policy=7,permit,6/link=0,0,2/link=1,0,3/link=2,1,2/term=2,2024-03-01,2199-12-31/")

-- the broker of the first two links
unfoldable pub first_broker : List ℕ
first_broker = line_ends (ascii "sheet=complete/text=Broker/text=Action/text=Tariff/text=quote/text=T1/text=p0/text=p1/text=p2/text=b7/text=b8/text=T2/kind=0,e/kind=1,a/kind=2,e/type=bool/type=record/type=entity,0/type=entity,2/shape=1,-/shape=1,-/shape=1,-/value=entity,0,8/value=entity,0,9/value=entity,2,4/value=entity,2,10/value=record/principal=0,8/action=1,3/resource=2,4/context=1,4/day=2024-02-29/node=3,var,r/node=3,slot,r/node=0,eq,0,1/node=2,var,p/node=2,slot,p/node=0,eq,3,4/node=0,and,2,5/policy=5,permit,6/policy=6,permit,6/policy=7,permit,6/link=0,0,2/link=1,0,3/link=2,1,2/term=2,2024-03-01,2199-12-31/")

-- the broker of the third
unfoldable pub second_broker : List ℕ
second_broker = line_ends (ascii "sheet=complete/text=Broker/text=Action/text=Tariff/text=quote/text=T1/text=p0/text=p1/text=p2/text=b7/text=b8/text=T2/kind=0,e/kind=1,a/kind=2,e/type=bool/type=record/type=entity,0/type=entity,2/shape=1,-/shape=1,-/shape=1,-/value=entity,0,8/value=entity,0,9/value=entity,2,4/value=entity,2,10/value=record/principal=0,9/action=1,3/resource=2,4/context=1,4/day=2024-02-29/node=3,var,r/node=3,slot,r/node=0,eq,0,1/node=2,var,p/node=2,slot,p/node=0,eq,3,4/node=0,and,2,5/policy=5,permit,6/policy=6,permit,6/policy=7,permit,6/link=0,0,2/link=1,0,3/link=2,1,2/term=2,2024-03-01,2199-12-31/")

one_rule_call : Answered partial one_rule
unfolding one_rule keys forms form_of slot_at counted tag_of row_of key_of refs ascendings fits_in nodes_under typed found depth fault more read types value_rows contents schema trees exprs on_term n_policies policies n_env env run results answer returned ancestors unknown_above order same place insert ascending make_set
one_rule_call = record { work₁ = 16384; work₂ = 20000; buffer = replicate 200 33; zero_number = refl }

first_broker_call : Answered complete first_broker
unfolding first_broker keys forms form_of slot_at counted tag_of row_of key_of refs ascendings fits_in nodes_under typed found depth fault more read types value_rows contents schema trees exprs on_term n_policies policies n_env env run results answer returned ancestors unknown_above order same place insert ascending make_set
first_broker_call = record { work₁ = 20000; work₂ = 16384; buffer = replicate 100 7; zero_number = refl }

second_broker_call : Answered complete second_broker
unfolding second_broker keys forms form_of slot_at counted tag_of row_of key_of refs ascendings fits_in nodes_under typed found depth fault more read types value_rows contents schema trees exprs on_term n_policies policies n_env env run results answer returned ancestors unknown_above order same place insert ascending make_set
second_broker_call = record { work₁ = 16384; work₂ = 16384; buffer = replicate 300 0; zero_number = refl }

pub first_broker_agrees : agrees (read partial one_rule).state (read complete first_broker).state ≡ true
unfolding one_rule first_broker agrees keys forms form_of slot_at counted tag_of row_of key_of refs ascendings fits_in nodes_under typed found depth fault more read types value_rows contents schema trees exprs on_term n_policies policies n_env env run results answer returned ancestors unknown_above order same place insert ascending make_set
first_broker_agrees = refl

pub second_broker_agrees : agrees (read partial one_rule).state (read complete second_broker).state ≡ true
unfolding one_rule second_broker agrees keys forms form_of slot_at counted tag_of row_of key_of refs ascendings fits_in nodes_under typed found depth fault more read types value_rows contents schema trees exprs on_term n_policies policies n_env env run results answer returned ancestors unknown_above order same place insert ascending make_set
second_broker_agrees = refl

three : Demand3 one_rule first_broker second_broker (bytes_of one_rule_call) (bytes_of first_broker_call) (bytes_of second_broker_call)
three = demand_3_bytes one_rule first_broker second_broker one_rule_call first_broker_call second_broker_call first_broker_agrees second_broker_agrees

-- the three answers: two policies are left of three
one_rule_says : bytes_of one_rule_call ≡ line_ends (ascii "decision=open/counts=0,1,0,1,0,0,0,0/why=none/value=bool,1/value=bool,0/node=2,var,p/node=2,lit,0/node=0,eq,0,1/node=0,lit,6/policy=5,permit,open,2/policy=6,permit,false,3/")
unfolding one_rule one_rule_call written keys forms form_of slot_at counted tag_of row_of key_of refs ascendings fits_in nodes_under typed found depth fault more read types value_rows contents schema trees exprs on_term n_policies policies n_env env run results answer returned ancestors unknown_above order same place insert ascending make_set
one_rule_says = refl

first_broker_says : bytes_of first_broker_call ≡ line_ends (ascii "decision=allow/counts=1,1,0,0,0,0,0,0/why=5/policy=5,permit,true/policy=6,permit,false/")
unfolding first_broker first_broker_call written keys forms form_of slot_at counted tag_of row_of key_of refs ascendings fits_in nodes_under typed found depth fault more read types value_rows contents schema trees exprs on_term n_policies policies n_env env run results answer returned ancestors unknown_above order same place insert ascending make_set
first_broker_says = refl

second_broker_says : bytes_of second_broker_call ≡ line_ends (ascii "decision=deny/counts=0,2,0,0,0,0,0,0/why=none/policy=5,permit,false/policy=6,permit,false/")
unfolding second_broker second_broker_call written keys forms form_of slot_at counted tag_of row_of key_of refs ascendings fits_in nodes_under typed found depth fault more read types value_rows contents schema trees exprs on_term n_policies policies n_env env run results answer returned ancestors unknown_above order same place insert ascending make_set
second_broker_says = refl
