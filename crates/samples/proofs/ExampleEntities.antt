-- The hypotheses of demand 3 on bytes can be met where an entity is listed and parts of it are unknown: its tags are known, attributes and
-- ancestors are `?`. One complete sheet gives it no attributes; the other gives it the attribute asked for and an ancestor, and lists one
-- entity more. The one denies, the other allows.
use mathlib.Core.Path.{◌≡◌, refl}
use mathlib.Core.Bool.{true}
use mathlib.Core.List.{List}
use Prim.Native.Nat.{ℕ}
use lib.ListN.{replicate}
use Rattle.sheet.specs.Ascii.{ascii}
use Rattle.sheet.specs.Forms.{keys, partial, complete, forms, form_of, slot_at, counted, tag_of, row_of, key_of, refs, ascendings}
use Rattle.sheet.specs.Parents.{ancestors, unknown_above}
use Rattle.sheet.specs.Typing.{fits_in, nodes_under, typed}
use Rattle.sheet.specs.Sheet.{found, depth, fault, more, read}
use Rattle.sheet.specs.Content.{types, value_rows, contents, schema, trees, exprs, on_term, n_policies, policies, n_env, env}
use Rattle.sheet.specs.Answer.{run, results, answer}
use Rattle.sheet.specs.Call.{returned, written}
use Rattle.cedar.specs.Canonical.{order, same, place, insert, ascending, make_set}
use Rattle.sheet.specs.Agreement.{agrees}
use Rattle.sheet.specs.Demand3.{Answered, bytes_of, Demand3}
use Rattle.sheet.proofs.demand3.Demand3Answers.{demand_3_bytes}
use Rattle.sheet.proofs.answer.Shown.{line_ends}

-- principal has age, over an entity line with unknown attributes and ancestors
unfoldable pub part_known : List ℕ
part_known = line_ends (ascii "sheet=partial/text=Broker/text=Action/text=Tariff/text=quote/text=T1/text=p0/text=age/text=b7/text=b8/kind=0,e/kind=1,a/kind=2,e/type=bool/type=record/type=entity,0/type=record,6,o,0/shape=3,-,0/shape=1,-/shape=1,-/value=entity,0,7/value=record/value=set/entity=0,?,1,?/principal=0,7/action=1,3/resource=2,4/context=1,1/day=2026-11-16/node=2,var,p/node=0,has,0,6/policy=5,permit,1/")

-- no attributes, no ancestors
unfoldable pub without : List ℕ
without = line_ends (ascii "sheet=complete/text=Broker/text=Action/text=Tariff/text=quote/text=T1/text=p0/text=age/text=b7/text=b8/kind=0,e/kind=1,a/kind=2,e/type=bool/type=record/type=entity,0/type=record,6,o,0/shape=3,-,0/shape=1,-/shape=1,-/value=entity,0,7/value=record/value=set/entity=0,1,1,2/principal=0,7/action=1,3/resource=2,4/context=1,1/day=2026-11-16/node=2,var,p/node=0,has,0,6/policy=5,permit,1/")

-- the attribute, an ancestor, and the ancestor's own line
unfoldable pub with_more : List ℕ
with_more = line_ends (ascii "sheet=complete/text=Broker/text=Action/text=Tariff/text=quote/text=T1/text=p0/text=age/text=b7/text=b8/kind=0,e/kind=1,a/kind=2,e/type=bool/type=record/type=entity,0/type=record,6,o,0/shape=3,-,0/shape=1,-/shape=1,-/value=entity,0,7/value=record/value=set/value=bool,1/value=record,6,3/value=entity,0,8/value=set,5/entity=0,4,1,6/entity=5,1,1,2/principal=0,7/action=1,3/resource=2,4/context=1,1/day=2026-11-16/node=2,var,p/node=0,has,0,6/policy=5,permit,1/")

part_known_call : Answered partial part_known
unfolding part_known keys forms form_of slot_at counted tag_of row_of key_of refs ascendings fits_in nodes_under typed found depth fault more read types value_rows contents schema trees exprs on_term n_policies policies n_env env run results answer returned ancestors unknown_above order same place insert ascending make_set
part_known_call = record { work₁ = 16384; work₂ = 20000; buffer = replicate 200 33; zero_number = refl }

without_call : Answered complete without
unfolding without keys forms form_of slot_at counted tag_of row_of key_of refs ascendings fits_in nodes_under typed found depth fault more read types value_rows contents schema trees exprs on_term n_policies policies n_env env run results answer returned ancestors unknown_above order same place insert ascending make_set
without_call = record { work₁ = 20000; work₂ = 16384; buffer = replicate 100 7; zero_number = refl }

with_more_call : Answered complete with_more
unfolding with_more keys forms form_of slot_at counted tag_of row_of key_of refs ascendings fits_in nodes_under typed found depth fault more read types value_rows contents schema trees exprs on_term n_policies policies n_env env run results answer returned ancestors unknown_above order same place insert ascending make_set
with_more_call = record { work₁ = 16384; work₂ = 16384; buffer = replicate 300 0; zero_number = refl }

pub without_agrees : agrees (read partial part_known).state (read complete without).state ≡ true
unfolding part_known without agrees keys forms form_of slot_at counted tag_of row_of key_of refs ascendings fits_in nodes_under typed found depth fault more read types value_rows contents schema trees exprs on_term n_policies policies n_env env run results answer returned ancestors unknown_above order same place insert ascending make_set
without_agrees = refl

pub with_more_agrees : agrees (read partial part_known).state (read complete with_more).state ≡ true
unfolding part_known with_more agrees keys forms form_of slot_at counted tag_of row_of key_of refs ascendings fits_in nodes_under typed found depth fault more read types value_rows contents schema trees exprs on_term n_policies policies n_env env run results answer returned ancestors unknown_above order same place insert ascending make_set
with_more_agrees = refl

three : Demand3 part_known without with_more (bytes_of part_known_call) (bytes_of without_call) (bytes_of with_more_call)
three = demand_3_bytes part_known without with_more part_known_call without_call with_more_call without_agrees with_more_agrees

-- the three answers: open, with what is left under node 1; false on the one sheet and true on the other
part_known_says : bytes_of part_known_call ≡ line_ends (ascii "decision=open/counts=0,0,0,1,0,0,0,0/why=none/node=2,lit,0/node=0,has,0,6/policy=5,permit,open,1/")
unfolding part_known part_known_call written keys forms form_of slot_at counted tag_of row_of key_of refs ascendings fits_in nodes_under typed found depth fault more read types value_rows contents schema trees exprs on_term n_policies policies n_env env run results answer returned ancestors unknown_above order same place insert ascending make_set
part_known_says = refl

without_says : bytes_of without_call ≡ line_ends (ascii "decision=deny/counts=0,1,0,0,0,0,0,0/why=none/policy=5,permit,false/")
unfolding without without_call written keys forms form_of slot_at counted tag_of row_of key_of refs ascendings fits_in nodes_under typed found depth fault more read types value_rows contents schema trees exprs on_term n_policies policies n_env env run results answer returned ancestors unknown_above order same place insert ascending make_set
without_says = refl

with_more_says : bytes_of with_more_call ≡ line_ends (ascii "decision=allow/counts=1,0,0,0,0,0,0,0/why=5/policy=5,permit,true/")
unfolding with_more with_more_call written keys forms form_of slot_at counted tag_of row_of key_of refs ascendings fits_in nodes_under typed found depth fault more read types value_rows contents schema trees exprs on_term n_policies policies n_env env run results answer returned ancestors unknown_above order same place insert ascending make_set
with_more_says = refl
