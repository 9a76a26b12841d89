-- Type rules between groups of two or more kinds, by computation: `eq` and `in` are false where no kinds meet, and say nothing where one pair does;
-- nor does `is` of one of the kinds.
use mathlib.Core.Path.{◌≡◌, refl}
use Rattle.sheet.specs.Forms.{keys, forms, form_of, slot_at, counted, tag_of, row_of, key_of, refs, ascendings}
use Rattle.sheet.specs.Parents.{ancestors, unknown_above}
use Rattle.sheet.specs.Typing.{fits_in, nodes_under, typed}
use Rattle.sheet.specs.Sheet.{found, depth, fault, more, read}
use Rattle.sheet.specs.Content.{types, value_rows, contents, schema, trees, exprs, on_term, n_policies, policies, n_env, env}
use Rattle.sheet.specs.Answer.{run, results, answer}
use Rattle.sheet.specs.Call.{returned}
use Rattle.cedar.specs.Canonical.{order, same, place, insert, ascending, make_set}
use Rattle.sheet.proofs.answer.Shown.{bytes, shown}

-- no kind in common
groups_eq_apart : shown (bytes "sheet=partial/text=P/text=A/text=F/text=T/text=U/kind=0,e/kind=1,a/kind=2,e/kind=3,e/kind=4,e/type=bool/type=record/type=entity,0/type=entity,2/type=entity,3/type=entity,4/type=entity,0,2/type=entity,3,4/type=set,7/type=record,0,r,6,3,r,7/shape=1,-/shape=1,-/shape=1,-,0/shape=1,-/shape=1,-/value=entity,0,0/value=entity,2,0/value=entity,3,0/value=entity,4,0/value=bool,1/principal=0,?/action=1,0/resource=0,?/context=9,?/day=2000-01-01/node=2,var,p/node=2,lit,0/node=0,eq,0,1/node=6,lit,0/node=6,lit,1/node=6,if,2,3,4/node=2,var,r/node=2,lit,0/node=0,eq,6,7/node=7,lit,2/node=7,lit,3/node=7,if,8,9,10/node=0,eq,5,11/policy=0,permit,12/") ≡ bytes "decision=deny/counts=0,1,0,0,0,0,0,0/why=none/value=bool,0/node=0,lit,5/policy=0,permit,false,0/"
unfolding shown keys forms form_of slot_at counted tag_of row_of key_of refs ascendings fits_in nodes_under typed found depth fault more read types value_rows contents schema trees exprs on_term n_policies policies n_env env run results answer returned ancestors unknown_above order same place insert ascending make_set
groups_eq_apart = refl

-- no kind above another
groups_in_apart : shown (bytes "sheet=partial/text=P/text=A/text=F/text=T/text=U/kind=0,e/kind=1,a/kind=2,e/kind=3,e/kind=4,e/type=bool/type=record/type=entity,0/type=entity,2/type=entity,3/type=entity,4/type=entity,0,2/type=entity,3,4/type=set,7/type=record,0,r,6,3,r,7/shape=1,-/shape=1,-/shape=1,-,0/shape=1,-/shape=1,-/value=entity,0,0/value=entity,2,0/value=entity,3,0/value=entity,4,0/value=bool,1/principal=0,?/action=1,0/resource=0,?/context=9,?/day=2000-01-01/node=2,var,p/node=2,lit,0/node=0,eq,0,1/node=6,lit,0/node=6,lit,1/node=6,if,2,3,4/node=2,var,r/node=2,lit,0/node=0,eq,6,7/node=7,lit,2/node=7,lit,3/node=7,if,8,9,10/node=0,in,5,11/policy=0,permit,12/") ≡ bytes "decision=deny/counts=0,1,0,0,0,0,0,0/why=none/value=bool,0/node=0,lit,5/policy=0,permit,false,0/"
unfolding shown keys forms form_of slot_at counted tag_of row_of key_of refs ascendings fits_in nodes_under typed found depth fault more read types value_rows contents schema trees exprs on_term n_policies policies n_env env run results answer returned ancestors unknown_above order same place insert ascending make_set
groups_in_apart = refl

-- the same for a set of entities
groups_in_set_apart : shown (bytes "sheet=partial/text=P/text=A/text=F/text=T/text=U/kind=0,e/kind=1,a/kind=2,e/kind=3,e/kind=4,e/type=bool/type=record/type=entity,0/type=entity,2/type=entity,3/type=entity,4/type=entity,0,2/type=entity,3,4/type=set,7/type=record,0,r,6,3,r,7/shape=1,-/shape=1,-/shape=1,-,0/shape=1,-/shape=1,-/value=entity,0,0/value=entity,2,0/value=entity,3,0/value=entity,4,0/value=bool,1/principal=0,?/action=1,0/resource=0,?/context=9,?/day=2000-01-01/node=2,var,p/node=2,lit,0/node=0,eq,0,1/node=6,lit,0/node=6,lit,1/node=6,if,2,3,4/node=2,var,r/node=2,lit,0/node=0,eq,6,7/node=7,lit,2/node=7,lit,3/node=7,if,8,9,10/node=8,set,11/node=0,in,5,12/policy=0,permit,13/") ≡ bytes "decision=deny/counts=0,1,0,0,0,0,0,0/why=none/value=bool,0/node=0,lit,5/policy=0,permit,false,0/"
unfolding shown keys forms form_of slot_at counted tag_of row_of key_of refs ascendings fits_in nodes_under typed found depth fault more read types value_rows contents schema trees exprs on_term n_policies policies n_env env run results answer returned ancestors unknown_above order same place insert ascending make_set
groups_in_set_apart = refl

-- one kind above another
groups_in_one_pair : shown (bytes "sheet=partial/text=P/text=A/text=F/text=T/text=U/kind=0,e/kind=1,a/kind=2,e/kind=3,e/kind=4,e/type=bool/type=record/type=entity,0/type=entity,2/type=entity,3/type=entity,4/type=entity,0,2/type=entity,3,4/type=set,7/type=record,0,r,6,3,r,7/shape=1,-/shape=1,-/shape=1,-,4/shape=1,-/shape=1,-/value=entity,0,0/value=entity,2,0/value=entity,3,0/value=entity,4,0/value=bool,1/principal=0,?/action=1,0/resource=0,?/context=9,?/day=2000-01-01/node=2,var,p/node=2,lit,0/node=0,eq,0,1/node=6,lit,0/node=6,lit,1/node=6,if,2,3,4/node=2,var,r/node=2,lit,0/node=0,eq,6,7/node=7,lit,2/node=7,lit,3/node=7,if,8,9,10/node=0,in,5,11/policy=0,permit,12/") ≡ bytes "decision=open/counts=0,0,0,1,0,0,0,0/why=none/node=2,var,p/node=2,lit,0/node=0,eq,0,1/node=6,lit,0/node=6,lit,1/node=6,if,2,3,4/node=2,var,r/node=2,lit,0/node=0,eq,6,7/node=7,lit,2/node=7,lit,3/node=7,if,8,9,10/node=0,in,5,11/policy=0,permit,open,12/"
unfolding shown keys forms form_of slot_at counted tag_of row_of key_of refs ascendings fits_in nodes_under typed found depth fault more read types value_rows contents schema trees exprs on_term n_policies policies n_env env run results answer returned ancestors unknown_above order same place insert ascending make_set
groups_in_one_pair = refl

-- `is` of the second kind of a group: no rule
is_second_kind : shown (bytes "sheet=partial/text=P/text=A/text=F/text=T/text=U/kind=0,e/kind=1,a/kind=2,e/kind=3,e/kind=4,e/type=bool/type=record/type=entity,0/type=entity,2/type=entity,3/type=entity,4/type=entity,0,2/type=entity,3,4/type=set,7/type=record,0,r,6,3,r,7/shape=1,-/shape=1,-/shape=1,-,0/shape=1,-/shape=1,-/value=entity,0,0/value=entity,2,0/principal=0,?/action=1,0/resource=0,?/context=9,?/day=2000-01-01/node=2,var,p/node=2,lit,0/node=0,eq,0,1/node=6,lit,0/node=6,lit,1/node=6,if,2,3,4/node=0,is,5,2/policy=0,permit,6/") ≡ bytes "decision=open/counts=0,0,0,1,0,0,0,0/why=none/node=2,var,p/node=2,lit,0/node=0,eq,0,1/node=6,lit,0/node=6,lit,1/node=6,if,2,3,4/node=0,is,5,2/policy=0,permit,open,6/"
unfolding shown keys forms form_of slot_at counted tag_of row_of key_of refs ascendings fits_in nodes_under typed found depth fault more read types value_rows contents schema trees exprs on_term n_policies policies n_env env run results answer returned ancestors unknown_above order same place insert ascending make_set
is_second_kind = refl
