-- The hypotheses of `demand_3_bytes` are met on sheets with groups of kinds: a client, a person or a firm, is a person whose owner is a firm of unknown size. What is left over has
-- the firm's type, 5, and not the client's, 8. On the one complete sheet the firm has a size, on the other it has none. Assumes nothing.
use mathlib.Core.Path.{◌≡◌, refl}
use mathlib.Core.Bool.{true}
use mathlib.Core.List.{List}
use Prim.Native.Nat.{ℕ}
use lib.ListN.{replicate}
use Rattle.sheet.specs.Ascii.{ascii}
use Rattle.sheet.specs.Forms.{keys, partial, complete, forms, form_of, slot_at, counted, tag_of, row_of, key_of, refs, ascendings}
use Rattle.sheet.specs.Parents.{ancestors, unknown_above}
use Rattle.sheet.specs.Typing.{fits_in, nodes_under, typed}
use Rattle.sheet.specs.Sheet.{found, depth, fault, more, read}
use Rattle.sheet.specs.Content.{types, value_rows, contents, schema, trees, exprs, on_term, n_policies, policies, n_env, env}
use Rattle.sheet.specs.Answer.{run, results, answer}
use Rattle.sheet.specs.Call.{returned, written}
use Rattle.cedar.specs.Canonical.{order, same, place, insert, ascending, make_set}
use Rattle.sheet.specs.Agreement.{agrees}
use Rattle.sheet.specs.Demand3.{Answered, bytes_of, Demand3}
use Rattle.sheet.proofs.demand3.Demand3Answers.{demand_3_bytes}
use Rattle.sheet.proofs.answer.Shown.{line_ends}

unfoldable pub client : List ℕ
client = line_ends (ascii "sheet=partial/text=Person/text=Action/text=Firm/text=Tariff/text=quote/text=T1/text=p0/text=p1/text=name/text=owner/text=size/text=x/kind=0,e/kind=1,a/kind=2,e/kind=3,e/type=bool/type=long/type=string/type=record/type=entity,0/type=entity,2/type=entity,3/type=entity,1/type=entity,0,2/type=entity,0,3/type=set,8/type=entity,2,3/type=record,8,r,2,9,o,8/type=record,8,r,2,9,o,5,10,o,1/type=record,9,o,8/type=entity,0,1/shape=12,2,2/shape=3,-/shape=13,-/shape=3,-/value=entity,0,11/value=entity,2,11/value=text,8/value=record,8,2,9,1/entity=0,3,?,?/principal=0,?/action=1,4/resource=3,5/context=14,?/day=2000-01-01/node=8,lit,0/node=0,haspath,0,9,10/policy=6,permit,1/")

unfoldable pub sized : List ℕ
sized = line_ends (ascii "sheet=complete/text=Person/text=Action/text=Firm/text=Tariff/text=quote/text=T1/text=p0/text=p1/text=name/text=owner/text=size/text=x/kind=0,e/kind=1,a/kind=2,e/kind=3,e/type=bool/type=long/type=string/type=record/type=entity,0/type=entity,2/type=entity,3/type=entity,1/type=entity,0,2/type=entity,0,3/type=set,8/type=entity,2,3/type=record,8,r,2,9,o,8/type=record,8,r,2,9,o,5,10,o,1/type=record,9,o,8/type=entity,0,1/shape=12,2,2/shape=3,-/shape=13,-/shape=3,-/value=entity,0,11/value=entity,2,11/value=text,8/value=record,8,2,9,1/value=record/value=set/value=long,7/value=record,8,2,10,6/entity=0,3,4,5/entity=1,7,4,5/principal=0,11/action=1,4/resource=3,5/context=14,4/day=2000-01-01/node=8,lit,0/node=0,haspath,0,9,10/policy=6,permit,1/")

unfoldable pub unsized : List ℕ
unsized = line_ends (ascii "sheet=complete/text=Person/text=Action/text=Firm/text=Tariff/text=quote/text=T1/text=p0/text=p1/text=name/text=owner/text=size/text=x/kind=0,e/kind=1,a/kind=2,e/kind=3,e/type=bool/type=long/type=string/type=record/type=entity,0/type=entity,2/type=entity,3/type=entity,1/type=entity,0,2/type=entity,0,3/type=set,8/type=entity,2,3/type=record,8,r,2,9,o,8/type=record,8,r,2,9,o,5,10,o,1/type=record,9,o,8/type=entity,0,1/shape=12,2,2/shape=3,-/shape=13,-/shape=3,-/value=entity,0,11/value=entity,2,11/value=text,8/value=record,8,2,9,1/value=record/value=set/value=record,8,2/entity=0,3,4,5/entity=1,6,4,5/principal=0,11/action=1,4/resource=3,5/context=14,4/day=2000-01-01/node=8,lit,0/node=0,haspath,0,9,10/policy=6,permit,1/")

client_call : Answered partial client
unfolding client keys forms form_of slot_at counted tag_of row_of key_of refs ascendings fits_in nodes_under typed found depth fault more read types value_rows contents schema trees exprs on_term n_policies policies n_env env run results answer returned ancestors unknown_above order same place insert ascending make_set
client_call = record { work₁ = 16384; work₂ = 16384; buffer = replicate 200 0; zero_number = refl }

sized_call : Answered complete sized
unfolding sized keys forms form_of slot_at counted tag_of row_of key_of refs ascendings fits_in nodes_under typed found depth fault more read types value_rows contents schema trees exprs on_term n_policies policies n_env env run results answer returned ancestors unknown_above order same place insert ascending make_set
sized_call = record { work₁ = 16384; work₂ = 16384; buffer = replicate 100 0; zero_number = refl }

unsized_call : Answered complete unsized
unfolding unsized keys forms form_of slot_at counted tag_of row_of key_of refs ascendings fits_in nodes_under typed found depth fault more read types value_rows contents schema trees exprs on_term n_policies policies n_env env run results answer returned ancestors unknown_above order same place insert ascending make_set
unsized_call = record { work₁ = 16384; work₂ = 16384; buffer = replicate 100 0; zero_number = refl }

pub sized_agrees : agrees (read partial client).state (read complete sized).state ≡ true
unfolding client sized agrees keys forms form_of slot_at counted tag_of row_of key_of refs ascendings fits_in nodes_under typed found depth fault more read types value_rows contents schema trees exprs on_term n_policies policies n_env env run results answer returned ancestors unknown_above order same place insert ascending make_set
sized_agrees = refl

pub unsized_agrees : agrees (read partial client).state (read complete unsized).state ≡ true
unfolding client unsized agrees keys forms form_of slot_at counted tag_of row_of key_of refs ascendings fits_in nodes_under typed found depth fault more read types value_rows contents schema trees exprs on_term n_policies policies n_env env run results answer returned ancestors unknown_above order same place insert ascending make_set
unsized_agrees = refl

three_in_groups : Demand3 client sized unsized (bytes_of client_call) (bytes_of sized_call) (bytes_of unsized_call)
three_in_groups = demand_3_bytes client sized unsized client_call sized_call unsized_call sized_agrees unsized_agrees

-- the three answers
client_says : bytes_of client_call ≡ line_ends (ascii "decision=open/counts=0,0,0,1,0,0,0,0/why=none/node=5,lit,1/node=0,haspath,0,10/policy=6,permit,open,1/")
unfolding client client_call written keys forms form_of slot_at counted tag_of row_of key_of refs ascendings fits_in nodes_under typed found depth fault more read types value_rows contents schema trees exprs on_term n_policies policies n_env env run results answer returned ancestors unknown_above order same place insert ascending make_set
client_says = refl

sized_says : bytes_of sized_call ≡ line_ends (ascii "decision=allow/counts=1,0,0,0,0,0,0,0/why=6/policy=6,permit,true/")
unfolding sized sized_call written keys forms form_of slot_at counted tag_of row_of key_of refs ascendings fits_in nodes_under typed found depth fault more read types value_rows contents schema trees exprs on_term n_policies policies n_env env run results answer returned ancestors unknown_above order same place insert ascending make_set
sized_says = refl

unsized_says : bytes_of unsized_call ≡ line_ends (ascii "decision=deny/counts=0,1,0,0,0,0,0,0/why=none/policy=6,permit,false/")
unfolding unsized unsized_call written keys forms form_of slot_at counted tag_of row_of key_of refs ascendings fits_in nodes_under typed found depth fault more read types value_rows contents schema trees exprs on_term n_policies policies n_env env run results answer returned ancestors unknown_above order same place insert ascending make_set
unsized_says = refl
