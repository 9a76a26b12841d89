-- The call `page` at its edges, by computation.
use mathlib.Core.Path.{◌≡◌, refl}
use mathlib.Core.List.{List, ◌++◌}
use Prim.Native.Nat.{ℕ}
use lib.ListN.{replicate}
use Rattle.cedar.specs.Canonical.{order, same, place, insert, ascending, make_set}
use Rattle.sheet.specs.Forms.{keys, forms, form_of, slot_at, counted, tag_of, row_of, key_of, refs, ascendings}
use Rattle.sheet.specs.Typing.{fits_in, typed, nodes_under}
use Rattle.sheet.specs.Parents.{ancestors, unknown_above}
use Rattle.sheet.specs.Sheet.{found, depth, fault, more, read}
use Rattle.sheet.specs.Content.{types, value_rows, contents, schema, trees, exprs, n_policies, policies, n_env, env, on_term}
use Rattle.sheet.specs.Answer.{run}
use Rattle.sheet.specs.Call.{returns}
use Rattle.paged.specs.Page.{page_returned}
use Rattle.sheet.proofs.answer.Shown.{bytes}

-- a sheet up to its day, and its day, nodes and policies
unfoldable head : List ℕ
head = bytes "sheet=partial/text=E/text=A/text=x/text=lo/text=b7/text=hi/kind=0,e/kind=1,a/type=bool/type=record/type=entity,0/type=record,2,o,0/shape=3,-,0/shape=1,-/value=entity,0,4/value=entity,0,2/value=bool,1/value=bool,0/value=record/value=record,2,2/value=set/value=set,1/entity=0,?,4,?/principal=0,?/action=1,2/resource=0,2/context=3,?/"

unfoldable nodes : List ℕ
nodes = bytes "node=2,var,p/node=2,lit,0/node=0,eq,0,1/node=3,var,c/node=0,has,3,2/node=0,and,2,4/node=0,lit,3/"

unfoldable policies' : List ℕ
policies' = bytes "policy=3,permit,5/policy=5,forbid,6/"

unfoldable sheet : List ℕ
sheet = head ++ (bytes "day=2010-05-05/" ++ (nodes ++ policies'))

-- a buffer of exactly 4,380 bytes has room
page_just_fits : page_returned 16384 16384 4380 sheet ≡ returns 0 0 4380
unfolding page_returned head nodes policies' sheet keys forms form_of slot_at counted tag_of row_of key_of refs ascendings fits_in nodes_under typed found depth fault more read types value_rows contents schema trees exprs on_term n_policies policies n_env env run ancestors unknown_above order same place insert ascending make_set
page_just_fits = refl

-- one byte less: "10 with that length"
page_short : page_returned 16384 16384 4379 sheet ≡ returns 10 0 4380
unfolding page_returned head nodes policies' sheet keys forms form_of slot_at counted tag_of row_of key_of refs ascendings fits_in nodes_under typed found depth fault more read types value_rows contents schema trees exprs on_term n_policies policies n_env env run ancestors unknown_above order same place insert ascending make_set
page_short = refl

-- 8 comes from the end of the sheet, with its line
page_unused_node : page_returned 16384 16384 4380 (head ++ (bytes "day=2010-05-05/" ++ (nodes ++ (bytes "node=0,lit,3/" ++ policies')))) ≡ returns 8 37 0
unfolding page_returned head nodes policies' sheet keys forms form_of slot_at counted tag_of row_of key_of refs ascendings fits_in nodes_under typed found depth fault more read types value_rows contents schema trees exprs on_term n_policies policies n_env env run ancestors unknown_above order same place insert ascending make_set
page_unused_node = refl

-- 3 to 8 keep their line, and come before 10
page_line : page_returned 16384 16384 0 (head ++ (bytes "day=x/" ++ (nodes ++ policies'))) ≡ returns 3 29 0
unfolding page_returned head nodes policies' sheet keys forms form_of slot_at counted tag_of row_of key_of refs ascendings fits_in nodes_under typed found depth fault more read types value_rows contents schema trees exprs on_term n_policies policies n_env env run ancestors unknown_above order same place insert ascending make_set
page_line = refl

-- 16,384 bytes are read
page_longest : page_returned 16384 16384 4380 (replicate 16384 120) ≡ returns 3 1 0
unfolding page_returned head nodes policies' sheet keys forms form_of slot_at counted tag_of row_of key_of refs ascendings fits_in nodes_under typed found depth fault more read types value_rows contents schema trees exprs on_term n_policies policies n_env env run ancestors unknown_above order same place insert ascending make_set
page_longest = refl

-- 2 from 16,385 bytes on
page_too_long : page_returned 16384 16384 4380 (replicate 16385 120) ≡ returns 2 0 0
unfolding page_returned head nodes policies' sheet keys forms form_of slot_at counted tag_of row_of key_of refs ascendings fits_in nodes_under typed found depth fault more read types value_rows contents schema trees exprs on_term n_policies policies n_env env run ancestors unknown_above order same place insert ascending make_set
page_too_long = refl

-- 1 comes before 2
page_first_slice : page_returned 16383 16384 4380 (replicate 16385 120) ≡ returns 1 0 0
unfolding page_returned head nodes policies' sheet keys forms form_of slot_at counted tag_of row_of key_of refs ascendings fits_in nodes_under typed found depth fault more read types value_rows contents schema trees exprs on_term n_policies policies n_env env run ancestors unknown_above order same place insert ascending make_set
page_first_slice = refl

-- for either slice
page_second_slice : page_returned 16384 16383 4380 sheet ≡ returns 1 0 0
unfolding page_returned head nodes policies' sheet keys forms form_of slot_at counted tag_of row_of key_of refs ascendings fits_in nodes_under typed found depth fault more read types value_rows contents schema trees exprs on_term n_policies policies n_env env run ancestors unknown_above order same place insert ascending make_set
page_second_slice = refl
