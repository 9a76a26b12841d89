-- The hypotheses of `demand_3_bytes` are met where a policy is off term: of two permits one runs on the last day of its term and is open, the other would be true but its
-- term begins on the next day. Two complete sheets settle the first in different ways; the second has no line on any answer. Assumes nothing.
use mathlib.Core.Path.{◌≡◌, refl}
use mathlib.Core.Bool.{true}
use mathlib.Core.List.{List}
use Prim.Native.Nat.{ℕ}
use lib.ListN.{replicate}
use Rattle.sheet.specs.Ascii.{ascii}
use Rattle.sheet.specs.Forms.{keys, partial, complete, forms, form_of, slot_at, counted, tag_of, row_of, key_of, refs, ascendings}
use Rattle.sheet.specs.Parents.{ancestors, unknown_above}
use Rattle.sheet.specs.Typing.{fits_in, nodes_under, typed}
use Rattle.sheet.specs.Sheet.{found, depth, fault, more, read}
use Rattle.sheet.specs.Content.{types, value_rows, contents, schema, trees, exprs, on_term, n_policies, policies, n_env, env}
use Rattle.sheet.specs.Answer.{run, results, answer}
use Rattle.sheet.specs.Call.{returned, written}
use Rattle.cedar.specs.Canonical.{order, same, place, insert, ascending, make_set}
use Rattle.sheet.specs.Agreement.{agrees}
use Rattle.sheet.specs.Demand3.{Answered, bytes_of, Demand3}
use Rattle.sheet.proofs.demand3.Demand3Answers.{demand_3_bytes}
use Rattle.sheet.proofs.answer.Shown.{line_ends}

-- the broker is not known
unfoldable pub last_day : List ℕ
last_day = line_ends (ascii "sheet=partial/text=Broker/text=Action/text=Tariff/text=quote/text=T1/text=low/text=high/text=b7/kind=0,e/kind=1,a/kind=2,e/type=bool/type=record/type=entity,0/shape=1,-/shape=1,-/shape=1,-/value=entity,0,7/value=bool,1/value=record/principal=0,?/action=1,3/resource=2,4/context=1,?/day=2000-02-29/node=2,var,p/node=2,lit,0/node=0,eq,0,1/node=0,lit,1/policy=5,permit,2/policy=6,permit,3/term=0,1900-01-01,2000-02-29/term=1,2000-03-01,2199-12-31/")

-- the broker that the first permit names
unfoldable pub the_broker : List ℕ
the_broker = line_ends (ascii "sheet=complete/text=Broker/text=Action/text=Tariff/text=quote/text=T1/text=low/text=high/text=b7/kind=0,e/kind=1,a/kind=2,e/type=bool/type=record/type=entity,0/shape=1,-/shape=1,-/shape=1,-/value=entity,0,7/value=bool,1/value=record/principal=0,7/action=1,3/resource=2,4/context=1,2/day=2000-02-29/node=2,var,p/node=2,lit,0/node=0,eq,0,1/node=0,lit,1/policy=5,permit,2/policy=6,permit,3/term=0,1900-01-01,2000-02-29/term=1,2000-03-01,2199-12-31/")

-- another one
unfoldable pub another : List ℕ
another = line_ends (ascii "sheet=complete/text=Broker/text=Action/text=Tariff/text=quote/text=T1/text=low/text=high/text=b7/kind=0,e/kind=1,a/kind=2,e/type=bool/type=record/type=entity,0/shape=1,-/shape=1,-/shape=1,-/value=entity,0,7/value=bool,1/value=record/principal=0,4/action=1,3/resource=2,4/context=1,2/day=2000-02-29/node=2,var,p/node=2,lit,0/node=0,eq,0,1/node=0,lit,1/policy=5,permit,2/policy=6,permit,3/term=0,1900-01-01,2000-02-29/term=1,2000-03-01,2199-12-31/")

last_day_call : Answered partial last_day
unfolding last_day keys forms form_of slot_at counted tag_of row_of key_of refs ascendings fits_in nodes_under typed found depth fault more read types value_rows contents schema trees exprs on_term n_policies policies n_env env run results answer returned ancestors unknown_above order same place insert ascending make_set
last_day_call = record { work₁ = 16384; work₂ = 20000; buffer = replicate 200 33; zero_number = refl }

the_broker_call : Answered complete the_broker
unfolding the_broker keys forms form_of slot_at counted tag_of row_of key_of refs ascendings fits_in nodes_under typed found depth fault more read types value_rows contents schema trees exprs on_term n_policies policies n_env env run results answer returned ancestors unknown_above order same place insert ascending make_set
the_broker_call = record { work₁ = 20000; work₂ = 16384; buffer = replicate 100 7; zero_number = refl }

another_call : Answered complete another
unfolding another keys forms form_of slot_at counted tag_of row_of key_of refs ascendings fits_in nodes_under typed found depth fault more read types value_rows contents schema trees exprs on_term n_policies policies n_env env run results answer returned ancestors unknown_above order same place insert ascending make_set
another_call = record { work₁ = 16384; work₂ = 16384; buffer = replicate 300 0; zero_number = refl }

pub the_broker_agrees : agrees (read partial last_day).state (read complete the_broker).state ≡ true
unfolding last_day the_broker agrees keys forms form_of slot_at counted tag_of row_of key_of refs ascendings fits_in nodes_under typed found depth fault more read types value_rows contents schema trees exprs on_term n_policies policies n_env env run results answer returned ancestors unknown_above order same place insert ascending make_set
the_broker_agrees = refl

pub another_agrees : agrees (read partial last_day).state (read complete another).state ≡ true
unfolding last_day another agrees keys forms form_of slot_at counted tag_of row_of key_of refs ascendings fits_in nodes_under typed found depth fault more read types value_rows contents schema trees exprs on_term n_policies policies n_env env run results answer returned ancestors unknown_above order same place insert ascending make_set
another_agrees = refl

three : Demand3 last_day the_broker another (bytes_of last_day_call) (bytes_of the_broker_call) (bytes_of another_call)
three = demand_3_bytes last_day the_broker another last_day_call the_broker_call another_call the_broker_agrees another_agrees

-- the three answers: one policy is left of two
last_day_says : bytes_of last_day_call ≡ line_ends (ascii "decision=open/counts=0,0,0,1,0,0,0,0/why=none/node=2,var,p/node=2,lit,0/node=0,eq,0,1/policy=5,permit,open,2/")
unfolding last_day last_day_call written keys forms form_of slot_at counted tag_of row_of key_of refs ascendings fits_in nodes_under typed found depth fault more read types value_rows contents schema trees exprs on_term n_policies policies n_env env run results answer returned ancestors unknown_above order same place insert ascending make_set
last_day_says = refl

the_broker_says : bytes_of the_broker_call ≡ line_ends (ascii "decision=allow/counts=1,0,0,0,0,0,0,0/why=5/policy=5,permit,true/")
unfolding the_broker the_broker_call written keys forms form_of slot_at counted tag_of row_of key_of refs ascendings fits_in nodes_under typed found depth fault more read types value_rows contents schema trees exprs on_term n_policies policies n_env env run results answer returned ancestors unknown_above order same place insert ascending make_set
the_broker_says = refl

another_says : bytes_of another_call ≡ line_ends (ascii "decision=deny/counts=0,1,0,0,0,0,0,0/why=none/policy=5,permit,false/")
unfolding another another_call written keys forms form_of slot_at counted tag_of row_of key_of refs ascendings fits_in nodes_under typed found depth fault more read types value_rows contents schema trees exprs on_term n_policies policies n_env env run results answer returned ancestors unknown_above order same place insert ascending make_set
another_says = refl
