-- The call at its edges, by computation: whose check comes first, that a refusal has its line, two breaks, an entity's break, what is lacking.
use mathlib.Core.Path.{◌≡◌, refl}
use mathlib.Core.List.{List}
use Prim.Native.Nat.{ℕ}
use lib.ListN.{replicate}
use Rattle.sheet.specs.Forms.{keys, forms, form_of, slot_at, counted, tag_of, row_of, key_of, refs, ascendings}
use Rattle.sheet.specs.Parents.{ancestors, unknown_above}
use Rattle.sheet.specs.Typing.{fits_in, nodes_under, typed}
use Rattle.sheet.specs.Sheet.{found, depth, fault, more, read}
use Rattle.sheet.specs.Content.{types, value_rows, contents, schema, trees, exprs, on_term, n_policies, policies, n_env, env}
use Rattle.sheet.specs.Answer.{run, results, answer}
use Rattle.sheet.specs.Call.{returns, returned}
use Rattle.cedar.specs.Canonical.{order, same, place, insert, ascending, make_set}
use Rattle.sheet.proofs.answer.Shown.{bytes}
use Rattle.sheet.specs.Agreement.{agrees}
use Rattle.finished.specs.Finish.{finished_results, finished_answer, finish_returned, breaking_line}

unfoldable sheet : List ℕ
sheet = bytes "sheet=partial/text=E/text=A/text=x/text=lo/text=b7/text=hi/kind=0,e/kind=1,a/type=bool/type=record/type=entity,0/type=record,2,o,0/shape=3,-,0/shape=1,-/value=entity,0,4/value=entity,0,2/value=bool,1/value=bool,0/value=record/value=record,2,2/value=set/value=set,1/entity=0,?,4,?/principal=0,?/action=1,2/resource=0,2/context=3,?/day=2010-05-05/node=2,var,p/node=2,lit,0/node=0,eq,0,1/node=3,var,c/node=0,has,3,2/node=0,and,2,4/node=0,lit,3/policy=3,permit,5/policy=5,forbid,6/"

unfoldable whole : List ℕ
whole = bytes "sheet=complete/text=E/text=A/text=x/text=lo/text=b7/text=hi/kind=0,e/kind=1,a/type=bool/type=record/type=entity,0/type=record,2,o,0/shape=3,-,0/shape=1,-/value=entity,0,4/value=entity,0,2/value=bool,1/value=bool,0/value=record/value=record,2,2/value=set/value=set,1/entity=0,4,4,6/principal=0,4/action=1,2/resource=0,2/context=3,5/day=2010-05-05/node=2,var,p/node=2,lit,0/node=0,eq,0,1/node=3,var,c/node=0,has,3,2/node=0,and,2,4/node=0,lit,3/policy=3,permit,5/policy=5,forbid,6/"

finish_partial_first : finish_returned 16384 16384 500 (bytes "sheet=partial/text=E/text=A/text=x/text=lo/text=b7/text=hi/kind=0,e/kind=1,a/type=bool/type=record/type=entity,0/type=record,2,o,0/shape=3,-,0/shape=1,-/value=entity,0,4/value=entity,0,2/value=bool,1/value=bool,0/value=record/value=record,2,2/value=set/value=set,1/entity=0,?,4,?/principal=0,?/action=1,2/resource=0,2/context=3,?/day=x/node=2,var,p/node=2,lit,0/node=0,eq,0,1/node=3,var,c/node=0,has,3,2/node=0,and,2,4/node=0,lit,3/policy=3,permit,5/policy=5,forbid,6/") (replicate 16385 120) ≡ returns 3 29 0
unfolding sheet whole keys forms form_of slot_at counted tag_of row_of key_of refs ascendings fits_in nodes_under typed found depth fault more read types value_rows contents schema trees exprs on_term n_policies policies n_env env run results answer returned ancestors unknown_above order same place insert ascending make_set finished_results finished_answer finish_returned agrees breaking_line
finish_partial_first = refl

finish_complete_line : finish_returned 16384 16384 500 sheet (bytes "sheet=complete/text=E/text=A/text=x/text=lo/text=b7/text=hi/kind=0,e/kind=1,a/type=bool/type=record/type=entity,0/type=record,2,o,0/shape=3,-,0/shape=1,-/value=entity,0,4/value=entity,0,2/value=bool,1/value=bool,0/value=record/value=record,2,2/value=set/value=set,1/entity=0,4,4,6/principal=0,4/action=1,2/resource=0,2/context=3,5/day=x/node=2,var,p/node=2,lit,0/node=0,eq,0,1/node=3,var,c/node=0,has,3,2/node=0,and,2,4/node=0,lit,3/policy=3,permit,5/policy=5,forbid,6/") ≡ returns 3 29 0
unfolding sheet whole keys forms form_of slot_at counted tag_of row_of key_of refs ascendings fits_in nodes_under typed found depth fault more read types value_rows contents schema trees exprs on_term n_policies policies n_env env run results answer returned ancestors unknown_above order same place insert ascending make_set finished_results finished_answer finish_returned agrees breaking_line
finish_complete_line = refl

finish_first_break : finish_returned 16384 16384 500 (bytes "sheet=partial/text=E/text=A/text=x/text=lo/text=b7/text=hi/kind=0,e/kind=1,a/type=bool/type=record/type=entity,0/type=record,2,o,0/shape=3,-,0/shape=1,-/value=entity,0,4/value=entity,0,2/value=bool,1/value=bool,0/value=record/value=record,2,2/value=set/value=set,1/entity=0,?,4,?/principal=0,?/action=1,2/resource=0,2/context=3,4/day=2010-05-05/node=2,var,p/node=2,lit,0/node=0,eq,0,1/node=3,var,c/node=0,has,3,2/node=0,and,2,4/node=0,lit,3/policy=3,permit,5/policy=5,forbid,6/") (bytes "sheet=complete/text=E/text=A/text=x/text=lo/text=b7/text=hi/kind=0,e/kind=1,a/type=bool/type=record/type=entity,0/type=record,2,o,0/shape=3,-,0/shape=1,-/value=entity,0,4/value=entity,0,2/value=bool,1/value=bool,0/value=record/value=record,2,2/value=set/value=set,1/entity=0,4,4,6/principal=0,4/action=1,2/resource=0,2/context=3,5/day=2010-05-06/node=2,var,p/node=2,lit,0/node=0,eq,0,1/node=3,var,c/node=0,has,3,2/node=0,and,2,4/node=0,lit,3/policy=3,permit,5/policy=5,forbid,6/") ≡ returns 11 28 0
unfolding sheet whole keys forms form_of slot_at counted tag_of row_of key_of refs ascendings fits_in nodes_under typed found depth fault more read types value_rows contents schema trees exprs on_term n_policies policies n_env env run results answer returned ancestors unknown_above order same place insert ascending make_set finished_results finished_answer finish_returned agrees breaking_line
finish_first_break = refl

finish_entity_break : finish_returned 16384 16384 500 (bytes "sheet=partial/text=E/text=A/text=x/text=lo/text=b7/text=hi/kind=0,e/kind=1,a/type=bool/type=record/type=entity,0/type=record,2,o,0/shape=3,-,0/shape=1,-/value=entity,0,4/value=entity,0,2/value=bool,1/value=bool,0/value=record/value=record,2,2/value=set/value=set,1/entity=0,5,4,?/principal=0,?/action=1,2/resource=0,2/context=3,?/day=2010-05-05/node=2,var,p/node=2,lit,0/node=0,eq,0,1/node=3,var,c/node=0,has,3,2/node=0,and,2,4/node=0,lit,3/policy=3,permit,5/policy=5,forbid,6/") whole ≡ returns 11 24 0
unfolding sheet whole keys forms form_of slot_at counted tag_of row_of key_of refs ascendings fits_in nodes_under typed found depth fault more read types value_rows contents schema trees exprs on_term n_policies policies n_env env run results answer returned ancestors unknown_above order same place insert ascending make_set finished_results finished_answer finish_returned agrees breaking_line
finish_entity_break = refl

finish_lacking_and_break : finish_returned 16384 16384 500 sheet (bytes "sheet=complete/text=E/text=A/text=x/text=lo/text=b7/text=hi/kind=0,e/kind=1,a/type=bool/type=record/type=entity,0/type=record,2,o,0/shape=3,-,0/shape=1,-/value=entity,0,4/value=entity,0,2/value=bool,1/value=bool,0/value=record/value=record,2,2/value=set/value=set,1/principal=0,4/action=1,2/resource=0,2/context=3,5/day=2010-05-06/node=2,var,p/node=2,lit,0/node=0,eq,0,1/node=3,var,c/node=0,has,3,2/node=0,and,2,4/node=0,lit,3/policy=3,permit,5/policy=5,forbid,6/") ≡ returns 11 28 0
unfolding sheet whole keys forms form_of slot_at counted tag_of row_of key_of refs ascendings fits_in nodes_under typed found depth fault more read types value_rows contents schema trees exprs on_term n_policies policies n_env env run results answer returned ancestors unknown_above order same place insert ascending make_set finished_results finished_answer finish_returned agrees breaking_line
finish_lacking_and_break = refl

finish_lacking : finish_returned 16384 16384 500 sheet (bytes "sheet=complete/text=E/text=A/text=x/text=lo/text=b7/text=hi/kind=0,e/kind=1,a/type=bool/type=record/type=entity,0/type=record,2,o,0/shape=3,-,0/shape=1,-/value=entity,0,4/value=entity,0,2/value=bool,1/value=bool,0/value=record/value=record,2,2/value=set/value=set,1/principal=0,4/action=1,2/resource=0,2/context=3,5/day=2010-05-05/node=2,var,p/node=2,lit,0/node=0,eq,0,1/node=3,var,c/node=0,has,3,2/node=0,and,2,4/node=0,lit,3/policy=3,permit,5/policy=5,forbid,6/") ≡ returns 11 38 0
unfolding sheet whole keys forms form_of slot_at counted tag_of row_of key_of refs ascendings fits_in nodes_under typed found depth fault more read types value_rows contents schema trees exprs on_term n_policies policies n_env env run results answer returned ancestors unknown_above order same place insert ascending make_set finished_results finished_answer finish_returned agrees breaking_line
finish_lacking = refl

finish_fits : (finish_returned 16384 16384 500 sheet whole).number ≡ 0
unfolding sheet whole keys forms form_of slot_at counted tag_of row_of key_of refs ascendings fits_in nodes_under typed found depth fault more read types value_rows contents schema trees exprs on_term n_policies policies n_env env run results answer returned ancestors unknown_above order same place insert ascending make_set finished_results finished_answer finish_returned agrees breaking_line
finish_fits = refl

-- 1 before all else
finish_work_first : finish_returned 16383 16384 500 (replicate 16385 120) (replicate 16385 120) ≡ returns 1 0 0
unfolding sheet whole keys forms form_of slot_at counted tag_of row_of key_of refs ascendings fits_in nodes_under typed found depth fault more read types value_rows contents schema trees exprs on_term n_policies policies n_env env run results answer returned ancestors unknown_above order same place insert ascending make_set finished_results finished_answer finish_returned agrees breaking_line
finish_work_first = refl

finish_work_second : finish_returned 16384 16383 500 (replicate 16385 120) (replicate 16385 120) ≡ returns 1 0 0
unfolding sheet whole keys forms form_of slot_at counted tag_of row_of key_of refs ascendings fits_in nodes_under typed found depth fault more read types value_rows contents schema trees exprs on_term n_policies policies n_env env run results answer returned ancestors unknown_above order same place insert ascending make_set finished_results finished_answer finish_returned agrees breaking_line
finish_work_second = refl

-- a sheet may have 16,384 bytes, not one more
finish_partial_longest : finish_returned 16384 16384 500 (replicate 16384 120) whole ≡ returns 3 1 0
unfolding sheet whole keys forms form_of slot_at counted tag_of row_of key_of refs ascendings fits_in nodes_under typed found depth fault more read types value_rows contents schema trees exprs on_term n_policies policies n_env env run results answer returned ancestors unknown_above order same place insert ascending make_set finished_results finished_answer finish_returned agrees breaking_line
finish_partial_longest = refl

finish_partial_too_long : finish_returned 16384 16384 500 (replicate 16385 120) whole ≡ returns 2 0 0
unfolding sheet whole keys forms form_of slot_at counted tag_of row_of key_of refs ascendings fits_in nodes_under typed found depth fault more read types value_rows contents schema trees exprs on_term n_policies policies n_env env run results answer returned ancestors unknown_above order same place insert ascending make_set finished_results finished_answer finish_returned agrees breaking_line
finish_partial_too_long = refl

finish_complete_longest : finish_returned 16384 16384 500 sheet (replicate 16384 120) ≡ returns 3 1 0
unfolding sheet whole keys forms form_of slot_at counted tag_of row_of key_of refs ascendings fits_in nodes_under typed found depth fault more read types value_rows contents schema trees exprs on_term n_policies policies n_env env run results answer returned ancestors unknown_above order same place insert ascending make_set finished_results finished_answer finish_returned agrees breaking_line
finish_complete_longest = refl

finish_complete_too_long : finish_returned 16384 16384 500 sheet (replicate 16385 120) ≡ returns 2 0 0
unfolding sheet whole keys forms form_of slot_at counted tag_of row_of key_of refs ascendings fits_in nodes_under typed found depth fault more read types value_rows contents schema trees exprs on_term n_policies policies n_env env run results answer returned ancestors unknown_above order same place insert ascending make_set finished_results finished_answer finish_returned agrees breaking_line
finish_complete_too_long = refl

-- the sheets in the wrong order
finish_turned_round : finish_returned 16384 16384 500 whole sheet ≡ returns 3 1 0
unfolding sheet whole keys forms form_of slot_at counted tag_of row_of key_of refs ascendings fits_in nodes_under typed found depth fault more read types value_rows contents schema trees exprs on_term n_policies policies n_env env run results answer returned ancestors unknown_above order same place insert ascending make_set finished_results finished_answer finish_returned agrees breaking_line
finish_turned_round = refl

-- ---- a sheet with a term: without it, with a kind more, with an entity more

unfoldable small : List ℕ
small = bytes "sheet=partial/text=P/text=A/kind=0,e/kind=1,a/type=bool/type=record/shape=1,-/shape=1,-/value=bool,1/principal=0,?/action=1,0/resource=0,?/context=1,?/day=2000-01-01/node=0,lit,0/policy=0,permit,0/term=0,2000-01-01,2000-01-02/"

finish_lacking_term : finish_returned 16384 16384 500 small (bytes "sheet=complete/text=P/text=A/kind=0,e/kind=1,a/type=bool/type=record/shape=1,-/shape=1,-/value=bool,1/value=record/principal=0,0/action=1,0/resource=0,0/context=1,1/day=2000-01-01/node=0,lit,0/policy=0,permit,0/") ≡ returns 11 19 0
unfolding small keys forms form_of slot_at counted tag_of row_of key_of refs ascendings fits_in nodes_under typed found depth fault more read types value_rows contents schema trees exprs on_term n_policies policies n_env env run results answer returned ancestors unknown_above order same place insert ascending make_set finished_results finished_answer finish_returned agrees breaking_line
finish_lacking_term = refl

finish_kind_more : finish_returned 16384 16384 500 small (bytes "sheet=complete/text=P/text=A/text=X/kind=0,e/kind=1,a/kind=2,e/type=bool/type=record/shape=1,-/shape=1,-/shape=1,-/value=bool,1/value=record/principal=0,0/action=1,0/resource=0,0/context=1,1/day=2000-01-01/node=0,lit,0/policy=0,permit,0/term=0,2000-01-01,2000-01-02/") ≡ returns 11 7 0
unfolding small keys forms form_of slot_at counted tag_of row_of key_of refs ascendings fits_in nodes_under typed found depth fault more read types value_rows contents schema trees exprs on_term n_policies policies n_env env run results answer returned ancestors unknown_above order same place insert ascending make_set finished_results finished_answer finish_returned agrees breaking_line
finish_kind_more = refl

finish_entity_more : (finish_returned 16384 16384 500 small (bytes "sheet=complete/text=P/text=A/kind=0,e/kind=1,a/type=bool/type=record/shape=1,-/shape=1,-/value=bool,1/value=record/value=entity,0,0/value=set/entity=2,1,1,3/principal=0,0/action=1,0/resource=0,0/context=1,1/day=2000-01-01/node=0,lit,0/policy=0,permit,0/term=0,2000-01-01,2000-01-02/")).number ≡ 0
unfolding small keys forms form_of slot_at counted tag_of row_of key_of refs ascendings fits_in nodes_under typed found depth fault more read types value_rows contents schema trees exprs on_term n_policies policies n_env env run results answer returned ancestors unknown_above order same place insert ascending make_set finished_results finished_answer finish_returned agrees breaking_line
finish_entity_more = refl

-- an entity more and another day: only the day breaks agreement
finish_entity_more_and_break : finish_returned 16384 16384 500 small (bytes "sheet=complete/text=P/text=A/kind=0,e/kind=1,a/type=bool/type=record/shape=1,-/shape=1,-/value=bool,1/value=record/value=entity,0,0/value=set/entity=2,1,1,3/principal=0,0/action=1,0/resource=0,0/context=1,1/day=2000-01-02/node=0,lit,0/policy=0,permit,0/term=0,2000-01-01,2000-01-02/") ≡ returns 11 19 0
unfolding small keys forms form_of slot_at counted tag_of row_of key_of refs ascendings fits_in nodes_under typed found depth fault more read types value_rows contents schema trees exprs on_term n_policies policies n_env env run results answer returned ancestors unknown_above order same place insert ascending make_set finished_results finished_answer finish_returned agrees breaking_line
finish_entity_more_and_break = refl
