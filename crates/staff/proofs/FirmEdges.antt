-- The call for a whole firm at its edges, by computation: the group, which check comes first, 14 and 15, what a refusal leaves.
use mathlib.Core.Path.{◌≡◌, refl}
use mathlib.Core.List.{List, [], ◌∷◌}
use Prim.Native.Nat.{ℕ}
use lib.ListN.{replicate}
use Rattle.cedar.specs.Canonical.{order, same, place, insert, ascending, make_set}
use Rattle.cedar.specs.Response.{Decision, allow, deny, undecided}
use Rattle.sheet.specs.Forms.{keys, forms, form_of, slot_at, counted, tag_of, row_of, key_of, refs, ascendings}
use Rattle.sheet.specs.Parents.{ancestors, unknown_above}
use Rattle.sheet.specs.Typing.{fits_in, nodes_under, typed}
use Rattle.sheet.specs.Sheet.{found, depth, fault, more, read}
use Rattle.sheet.specs.Content.{types, value_rows, contents, schema, trees, exprs, on_term, n_policies, policies, n_env, env}
use Rattle.sheet.specs.Answer.{run, results, answer}
use Rattle.sheet.specs.Call.{Returned, returns, returned}
use Rattle.sheet.proofs.answer.Shown.{bytes}
use Rattle.staff.specs.Firm.{Row, filled_sheet, row_decision, group, firm_returned, firm_rows, firm_group}

-- a principal text, a resource text, and a decision
abbrev pub row : ℕ → ℕ → Decision → Row
row p r d = record { asked = record { principal = p; resource = r }; decision = d }

-- all that a call leaves
pub record Left : Type 0 where
  pub returned : Returned
  pub group : Decision
  pub rows : List Row

abbrev pub left : Returned → Decision → List Row → Left
left r d rs = record { returned = r; group = d; rows = rs }

abbrev pub quoted : List ℕ → List Row → Left
quoted sheet rs = left (firm_returned 16384 16384 sheet rs) (firm_group 16384 16384 sheet rs) (firm_rows 16384 16384 sheet rs)

-- a permit for the principal `a`, text 7; a forbid for the resource `T1`, text 4
unfoldable firm : List ℕ
firm = bytes "sheet=partial/text=Person/text=Action/text=Firm/text=quote/text=T1/text=p0/text=p1/text=a/text=b/text=x/kind=0,e/kind=1,a/kind=2,e/type=bool/type=record/type=entity,0/type=entity,1/type=entity,2/type=long/type=string/type=set,2/type=record,7,r,0/shape=1,-,0,2/shape=1,-/shape=1,-,2/value=bool,0/value=bool,1/value=record/value=record,7,1/value=set/value=entity,0,7/value=entity,0,8/value=entity,2,4/principal=0,?/action=1,3/resource=2,?/context=8,?/day=2026-06-15/node=2,var,p/node=2,lit,5/node=0,eq,0,1/node=4,var,r/node=4,lit,7/node=0,eq,3,4/policy=5,permit,2/policy=6,forbid,5/"

-- a forbid more that stays open
unfoldable firm_open : List ℕ
firm_open = bytes "sheet=partial/text=Person/text=Action/text=Firm/text=quote/text=T1/text=p0/text=p1/text=a/text=b/text=x/kind=0,e/kind=1,a/kind=2,e/type=bool/type=record/type=entity,0/type=entity,1/type=entity,2/type=long/type=string/type=set,2/type=record,7,r,0/shape=1,-,0,2/shape=1,-/shape=1,-,2/value=bool,0/value=bool,1/value=record/value=record,7,1/value=set/value=entity,0,7/value=entity,0,8/value=entity,2,4/principal=0,?/action=1,3/resource=2,?/context=8,?/day=2026-06-15/node=2,var,p/node=2,lit,5/node=0,eq,0,1/node=4,var,r/node=4,lit,7/node=0,eq,3,4/node=8,var,c/node=0,get,6,7/policy=5,permit,2/policy=6,forbid,5/policy=8,forbid,7/"

-- the resource is known
unfoldable firm_known : List ℕ
firm_known = bytes "sheet=partial/text=Person/text=Action/text=Firm/text=quote/text=T1/text=p0/text=p1/text=a/text=b/text=x/kind=0,e/kind=1,a/kind=2,e/type=bool/type=record/type=entity,0/type=entity,1/type=entity,2/type=long/type=string/type=set,2/type=record,7,r,0/shape=1,-,0,2/shape=1,-/shape=1,-,2/value=bool,0/value=bool,1/value=record/value=record,7,1/value=set/value=entity,0,7/value=entity,0,8/value=entity,2,4/principal=0,?/action=1,3/resource=2,4/context=8,?/day=2026-06-15/node=2,var,p/node=2,lit,5/node=0,eq,0,1/node=4,var,r/node=4,lit,7/node=0,eq,3,4/policy=5,permit,2/policy=6,forbid,5/"

-- no rows
no_rows : quoted firm [] ≡ left (returns 0 0 0) allow []
unfolding firm keys forms form_of slot_at counted tag_of row_of key_of refs ascendings fits_in nodes_under typed found depth fault more read types value_rows contents schema trees exprs on_term n_policies policies n_env env run results answer returned ancestors unknown_above order same place insert ascending make_set filled_sheet row_decision group firm_returned firm_rows firm_group
no_rows = refl

one_allows : quoted firm (row 7 9 deny ∷ []) ≡ left (returns 0 0 0) allow (row 7 9 allow ∷ [])
unfolding firm keys forms form_of slot_at counted tag_of row_of key_of refs ascendings fits_in nodes_under typed found depth fault more read types value_rows contents schema trees exprs on_term n_policies policies n_env env run results answer returned ancestors unknown_above order same place insert ascending make_set filled_sheet row_decision group firm_returned firm_rows firm_group
one_allows = refl

deny_one : quoted firm (row 7 9 deny ∷ row 8 9 undecided ∷ []) ≡ left (returns 0 0 0) deny (row 7 9 allow ∷ row 8 9 deny ∷ [])
unfolding firm keys forms form_of slot_at counted tag_of row_of key_of refs ascendings fits_in nodes_under typed found depth fault more read types value_rows contents schema trees exprs on_term n_policies policies n_env env run results answer returned ancestors unknown_above order same place insert ascending make_set filled_sheet row_decision group firm_returned firm_rows firm_group
deny_one = refl

one_forbidden : quoted firm (row 7 4 undecided ∷ row 7 9 deny ∷ []) ≡ left (returns 0 0 0) deny (row 7 4 deny ∷ row 7 9 allow ∷ [])
unfolding firm keys forms form_of slot_at counted tag_of row_of key_of refs ascendings fits_in nodes_under typed found depth fault more read types value_rows contents schema trees exprs on_term n_policies policies n_env env run results answer returned ancestors unknown_above order same place insert ascending make_set filled_sheet row_decision group firm_returned firm_rows firm_group
one_forbidden = refl

all_open : quoted firm_open (row 7 9 allow ∷ row 7 8 allow ∷ []) ≡ left (returns 0 0 0) undecided (row 7 9 undecided ∷ row 7 8 undecided ∷ [])
unfolding firm_open keys forms form_of slot_at counted tag_of row_of key_of refs ascendings fits_in nodes_under typed found depth fault more read types value_rows contents schema trees exprs on_term n_policies policies n_env env run results answer returned ancestors unknown_above order same place insert ascending make_set filled_sheet row_decision group firm_returned firm_rows firm_group
all_open = refl

open_and_deny : quoted firm_open (row 7 9 allow ∷ row 8 9 undecided ∷ []) ≡ left (returns 0 0 0) deny (row 7 9 undecided ∷ row 8 9 deny ∷ [])
unfolding firm_open keys forms form_of slot_at counted tag_of row_of key_of refs ascendings fits_in nodes_under typed found depth fault more read types value_rows contents schema trees exprs on_term n_policies policies n_env env run results answer returned ancestors unknown_above order same place insert ascending make_set filled_sheet row_decision group firm_returned firm_rows firm_group
open_and_deny = refl

same_row_twice : quoted firm (row 7 9 deny ∷ row 7 9 deny ∷ []) ≡ left (returns 0 0 0) allow (row 7 9 allow ∷ row 7 9 allow ∷ [])
unfolding firm keys forms form_of slot_at counted tag_of row_of key_of refs ascendings fits_in nodes_under typed found depth fault more read types value_rows contents schema trees exprs on_term n_policies policies n_env env run results answer returned ancestors unknown_above order same place insert ascending make_set filled_sheet row_decision group firm_returned firm_rows firm_group
same_row_twice = refl

-- 15: a text that does not exist
text_absent : quoted firm (row 7 9 allow ∷ row 7 10 deny ∷ []) ≡ left (returns 15 1 0) undecided (row 7 9 allow ∷ row 7 10 deny ∷ [])
unfolding firm keys forms form_of slot_at counted tag_of row_of key_of refs ascendings fits_in nodes_under typed found depth fault more read types value_rows contents schema trees exprs on_term n_policies policies n_env env run results answer returned ancestors unknown_above order same place insert ascending make_set filled_sheet row_decision group firm_returned firm_rows firm_group
text_absent = refl

principal_absent : quoted firm (row 99999 9 allow ∷ []) ≡ left (returns 15 0 0) undecided (row 99999 9 allow ∷ [])
unfolding firm keys forms form_of slot_at counted tag_of row_of key_of refs ascendings fits_in nodes_under typed found depth fault more read types value_rows contents schema trees exprs on_term n_policies policies n_env env run results answer returned ancestors unknown_above order same place insert ascending make_set filled_sheet row_decision group firm_returned firm_rows firm_group
principal_absent = refl

lowest_row : quoted firm (row 7 9 allow ∷ row 7 10 deny ∷ row 10 7 undecided ∷ []) ≡ left (returns 15 1 0) undecided (row 7 9 allow ∷ row 7 10 deny ∷ row 10 7 undecided ∷ [])
unfolding firm keys forms form_of slot_at counted tag_of row_of key_of refs ascendings fits_in nodes_under typed found depth fault more read types value_rows contents schema trees exprs on_term n_policies policies n_env env run results answer returned ancestors unknown_above order same place insert ascending make_set filled_sheet row_decision group firm_returned firm_rows firm_group
lowest_row = refl

known_same : quoted firm_known (row 7 4 undecided ∷ row 8 4 undecided ∷ []) ≡ left (returns 0 0 0) deny (row 7 4 deny ∷ row 8 4 deny ∷ [])
unfolding firm_known keys forms form_of slot_at counted tag_of row_of key_of refs ascendings fits_in nodes_under typed found depth fault more read types value_rows contents schema trees exprs on_term n_policies policies n_env env run results answer returned ancestors unknown_above order same place insert ascending make_set filled_sheet row_decision group firm_returned firm_rows firm_group
known_same = refl

-- 15: a text that contradicts a known one
contradicts : quoted firm_known (row 7 4 allow ∷ row 7 9 deny ∷ []) ≡ left (returns 15 1 0) undecided (row 7 4 allow ∷ row 7 9 deny ∷ [])
unfolding firm_known keys forms form_of slot_at counted tag_of row_of key_of refs ascendings fits_in nodes_under typed found depth fault more read types value_rows contents schema trees exprs on_term n_policies policies n_env env run results answer returned ancestors unknown_above order same place insert ascending make_set filled_sheet row_decision group firm_returned firm_rows firm_group
contradicts = refl

contradicts_principal : quoted (bytes "sheet=partial/text=Person/text=Action/text=Firm/text=quote/text=T1/text=p0/text=p1/text=a/text=b/text=x/kind=0,e/kind=1,a/kind=2,e/type=bool/type=record/type=entity,0/type=entity,1/type=entity,2/type=long/type=string/type=set,2/type=record,7,r,0/shape=1,-,0,2/shape=1,-/shape=1,-,2/value=bool,0/value=bool,1/value=record/value=record,7,1/value=set/value=entity,0,7/value=entity,0,8/value=entity,2,4/principal=0,7/action=1,3/resource=2,?/context=8,?/day=2026-06-15/node=2,var,p/node=2,lit,5/node=0,eq,0,1/node=4,var,r/node=4,lit,7/node=0,eq,3,4/policy=5,permit,2/policy=6,forbid,5/") (row 8 9 allow ∷ []) ≡ left (returns 15 0 0) undecided (row 8 9 allow ∷ [])
unfolding keys forms form_of slot_at counted tag_of row_of key_of refs ascendings fits_in nodes_under typed found depth fault more read types value_rows contents schema trees exprs on_term n_policies policies n_env env run results answer returned ancestors unknown_above order same place insert ascending make_set filled_sheet row_decision group firm_returned firm_rows firm_group
contradicts_principal = refl

-- 15 comes after all the sheet's checks
lines_before_15 : quoted (bytes "x/") (row 99 9 allow ∷ []) ≡ left (returns 3 1 0) undecided (row 99 9 allow ∷ [])
unfolding keys forms form_of slot_at counted tag_of row_of key_of refs ascendings fits_in nodes_under typed found depth fault more read types value_rows contents schema trees exprs on_term n_policies policies n_env env run results answer returned ancestors unknown_above order same place insert ascending make_set filled_sheet row_decision group firm_returned firm_rows firm_group
lines_before_15 = refl

unused_before_15 : quoted (bytes "sheet=partial/text=Person/text=Action/text=Firm/text=quote/text=T1/text=p0/text=p1/text=a/text=b/text=x/kind=0,e/kind=1,a/kind=2,e/type=bool/type=record/type=entity,0/type=entity,1/type=entity,2/type=long/type=string/type=set,2/type=record,7,r,0/shape=1,-,0,2/shape=1,-/shape=1,-,2/value=bool,0/value=bool,1/value=record/value=record,7,1/value=set/principal=0,?/action=1,3/resource=2,4/context=8,?/day=2026-06-15/node=0,lit,1/node=0,lit,0/policy=5,permit,0/") (row 99 9 allow ∷ []) ≡ left (returns 8 38 0) undecided (row 99 9 allow ∷ [])
unfolding keys forms form_of slot_at counted tag_of row_of key_of refs ascendings fits_in nodes_under typed found depth fault more read types value_rows contents schema trees exprs on_term n_policies policies n_env env run results answer returned ancestors unknown_above order same place insert ascending make_set filled_sheet row_decision group firm_returned firm_rows firm_group
unused_before_15 = refl

-- the sheet is checked without rows too
no_rows_faulty_sheet : quoted (bytes "x/") [] ≡ left (returns 3 1 0) undecided []
unfolding keys forms form_of slot_at counted tag_of row_of key_of refs ascendings fits_in nodes_under typed found depth fault more read types value_rows contents schema trees exprs on_term n_policies policies n_env env run results answer returned ancestors unknown_above order same place insert ascending make_set filled_sheet row_decision group firm_returned firm_rows firm_group
no_rows_faulty_sheet = refl

complete_sheet : quoted (bytes "sheet=complete/text=Person/text=Action/text=Firm/text=quote/text=T1/text=p0/text=p1/text=a/text=b/text=x/kind=0,e/kind=1,a/kind=2,e/type=bool/type=record/type=entity,0/type=entity,1/type=entity,2/type=long/type=string/type=set,2/type=record,7,r,0/shape=1,-,0,2/shape=1,-/shape=1,-,2/value=bool,0/value=bool,1/value=record/value=record,7,1/value=set/principal=0,7/action=1,3/resource=2,4/context=8,3/day=2026-06-15/") (row 7 4 allow ∷ []) ≡ left (returns 3 1 0) undecided (row 7 4 allow ∷ [])
unfolding keys forms form_of slot_at counted tag_of row_of key_of refs ascendings fits_in nodes_under typed found depth fault more read types value_rows contents schema trees exprs on_term n_policies policies n_env env run results answer returned ancestors unknown_above order same place insert ascending make_set filled_sheet row_decision group firm_returned firm_rows firm_group
complete_sheet = refl

-- policies off term, parents, links
off_term : quoted (bytes "sheet=partial/text=Person/text=Action/text=Firm/text=quote/text=T1/text=p0/text=p1/text=a/text=b/text=x/kind=0,e/kind=1,a/kind=2,e/type=bool/type=record/type=entity,0/type=entity,1/type=entity,2/type=long/type=string/type=set,2/type=record,7,r,0/shape=1,-,0,2/shape=1,-/shape=1,-,2/value=bool,0/value=bool,1/value=record/value=record,7,1/value=set/value=entity,0,7/value=entity,0,8/value=entity,2,4/principal=0,?/action=1,3/resource=2,?/context=8,?/day=2026-06-15/node=2,var,p/node=2,lit,5/node=0,eq,0,1/node=4,var,r/node=4,lit,7/node=0,eq,3,4/node=0,lit,1/policy=5,permit,2/policy=6,forbid,5/policy=8,permit,6/term=1,2020-01-01,2020-12-31/") (row 8 9 deny ∷ row 7 4 deny ∷ []) ≡ left (returns 0 0 0) allow (row 8 9 allow ∷ row 7 4 allow ∷ [])
unfolding keys forms form_of slot_at counted tag_of row_of key_of refs ascendings fits_in nodes_under typed found depth fault more read types value_rows contents schema trees exprs on_term n_policies policies n_env env run results answer returned ancestors unknown_above order same place insert ascending make_set filled_sheet row_decision group firm_returned firm_rows firm_group
off_term = refl

parents : quoted (bytes "sheet=partial/text=Person/text=Action/text=Firm/text=quote/text=T1/text=p0/text=p1/text=a/text=b/text=x/kind=0,e/kind=1,a/kind=2,e/type=bool/type=record/type=entity,0/type=entity,1/type=entity,2/type=long/type=string/type=set,2/type=record,7,r,0/shape=1,-,0,2/shape=1,-/shape=1,-,2/value=bool,0/value=bool,1/value=record/value=record,7,1/value=set/value=entity,0,7/value=entity,0,8/value=entity,2,4/value=entity,2,9/value=set,6/value=set,7/value=set,8/value=set,5/entity=5,?,?,10/entity=6,?,?,4/entity=7,?,?,11/entity=8,?,?,4/principal=0,?/action=1,3/resource=2,4/context=8,?/day=2026-06-15/node=2,var,p/node=4,lit,8/node=0,in,0,1/policy=5,permit,2/") (row 7 4 deny ∷ row 8 4 undecided ∷ []) ≡ left (returns 0 0 0) deny (row 7 4 allow ∷ row 8 4 deny ∷ [])
unfolding keys forms form_of slot_at counted tag_of row_of key_of refs ascendings fits_in nodes_under typed found depth fault more read types value_rows contents schema trees exprs on_term n_policies policies n_env env run results answer returned ancestors unknown_above order same place insert ascending make_set filled_sheet row_decision group firm_returned firm_rows firm_group
parents = refl

parents_open : quoted (bytes "sheet=partial/text=Person/text=Action/text=Firm/text=quote/text=T1/text=p0/text=p1/text=a/text=b/text=x/kind=0,e/kind=1,a/kind=2,e/type=bool/type=record/type=entity,0/type=entity,1/type=entity,2/type=long/type=string/type=set,2/type=record,7,r,0/shape=1,-,0,2/shape=1,-/shape=1,-,2/value=bool,0/value=bool,1/value=record/value=record,7,1/value=set/value=entity,0,7/value=entity,0,8/value=entity,2,4/value=entity,2,9/value=set,6/value=set,7/value=set,8/value=set,5/entity=5,?,?,10/entity=6,?,?,4/entity=7,?,?,?/principal=0,?/action=1,3/resource=2,4/context=8,?/day=2026-06-15/node=2,var,p/node=4,lit,8/node=0,in,0,1/policy=5,permit,2/") (row 7 4 allow ∷ row 8 4 undecided ∷ []) ≡ left (returns 0 0 0) deny (row 7 4 undecided ∷ row 8 4 deny ∷ [])
unfolding keys forms form_of slot_at counted tag_of row_of key_of refs ascendings fits_in nodes_under typed found depth fault more read types value_rows contents schema trees exprs on_term n_policies policies n_env env run results answer returned ancestors unknown_above order same place insert ascending make_set filled_sheet row_decision group firm_returned firm_rows firm_group
parents_open = refl

linked : quoted (bytes "sheet=partial/text=Person/text=Action/text=Firm/text=quote/text=T1/text=p0/text=p1/text=a/text=b/text=x/kind=0,e/kind=1,a/kind=2,e/type=bool/type=record/type=entity,0/type=entity,1/type=entity,2/type=long/type=string/type=set,2/type=record,7,r,0/shape=1,-,0,2/shape=1,-/shape=1,-,2/value=bool,0/value=bool,1/value=record/value=record,7,1/value=set/value=entity,0,7/value=entity,0,8/value=entity,2,4/principal=0,?/action=1,3/resource=2,4/context=8,?/day=2026-06-15/node=2,var,p/node=2,slot,p/node=0,eq,0,1/policy=5,permit,2/link=0,5,-/") (row 7 4 deny ∷ row 8 4 undecided ∷ []) ≡ left (returns 0 0 0) deny (row 7 4 allow ∷ row 8 4 deny ∷ [])
unfolding keys forms form_of slot_at counted tag_of row_of key_of refs ascendings fits_in nodes_under typed found depth fault more read types value_rows contents schema trees exprs on_term n_policies policies n_env env run results answer returned ancestors unknown_above order same place insert ascending make_set filled_sheet row_decision group firm_returned firm_rows firm_group
linked = refl

all_off : quoted (bytes "sheet=partial/text=Person/text=Action/text=Firm/text=quote/text=T1/text=p0/text=p1/text=a/text=b/text=x/kind=0,e/kind=1,a/kind=2,e/type=bool/type=record/type=entity,0/type=entity,1/type=entity,2/type=long/type=string/type=set,2/type=record,7,r,0/shape=1,-,0,2/shape=1,-/shape=1,-,2/value=bool,0/value=bool,1/value=record/value=record,7,1/value=set/principal=0,?/action=1,3/resource=2,4/context=8,?/day=2026-06-15/node=0,lit,1/policy=5,permit,0/term=0,2020-01-01,2020-12-31/") (row 7 4 undecided ∷ []) ≡ left (returns 0 0 0) deny (row 7 4 deny ∷ [])
unfolding keys forms form_of slot_at counted tag_of row_of key_of refs ascendings fits_in nodes_under typed found depth fault more read types value_rows contents schema trees exprs on_term n_policies policies n_env env run results answer returned ancestors unknown_above order same place insert ascending make_set filled_sheet row_decision group firm_returned firm_rows firm_group
all_off = refl

-- a forbid that stays open for `T1` alone: some rows allow, one is open
open_and_allow : quoted (bytes "sheet=partial/text=Person/text=Action/text=Firm/text=quote/text=T1/text=p0/text=p1/text=a/text=b/text=x/kind=0,e/kind=1,a/kind=2,e/type=bool/type=record/type=entity,0/type=entity,1/type=entity,2/type=long/type=string/type=set,2/type=record,7,r,0/shape=1,-,0,2/shape=1,-/shape=1,-,2/value=bool,0/value=bool,1/value=record/value=record,7,1/value=set/value=entity,0,7/value=entity,0,8/value=entity,2,4/principal=0,?/action=1,3/resource=2,?/context=8,?/day=2026-06-15/node=2,var,p/node=2,lit,5/node=0,eq,0,1/node=4,var,r/node=4,lit,7/node=0,eq,3,4/node=8,var,c/node=0,get,6,7/node=0,and,5,7/policy=5,permit,2/policy=6,forbid,8/") (row 7 9 deny ∷ row 7 4 deny ∷ row 7 9 undecided ∷ []) ≡ left (returns 0 0 0) undecided (row 7 9 allow ∷ row 7 4 undecided ∷ row 7 9 allow ∷ [])
unfolding keys forms form_of slot_at counted tag_of row_of key_of refs ascendings fits_in nodes_under typed found depth fault more read types value_rows contents schema trees exprs on_term n_policies policies n_env env run results answer returned ancestors unknown_above order same place insert ascending make_set filled_sheet row_decision group firm_returned firm_rows firm_group
open_and_allow = refl

-- ---- 1, 2, 14, 3 to 8

rows_64 : quoted firm (replicate 64 (row 7 9 deny)) ≡ left (returns 0 0 0) allow (replicate 64 (row 7 9 allow))
unfolding firm keys forms form_of slot_at counted tag_of row_of key_of refs ascendings fits_in nodes_under typed found depth fault more read types value_rows contents schema trees exprs on_term n_policies policies n_env env run results answer returned ancestors unknown_above order same place insert ascending make_set filled_sheet row_decision group firm_returned firm_rows firm_group
rows_64 = refl

rows_65 : quoted firm (replicate 65 (row 7 9 deny)) ≡ left (returns 14 0 0) undecided (replicate 65 (row 7 9 deny))
unfolding firm keys forms form_of slot_at counted tag_of row_of key_of refs ascendings fits_in nodes_under typed found depth fault more read types value_rows contents schema trees exprs on_term n_policies policies n_env env run results answer returned ancestors unknown_above order same place insert ascending make_set filled_sheet row_decision group firm_returned firm_rows firm_group
rows_65 = refl

rows_65_before_lines : quoted (bytes "x/") (replicate 65 (row 7 9 deny)) ≡ left (returns 14 0 0) undecided (replicate 65 (row 7 9 deny))
unfolding keys forms form_of slot_at counted tag_of row_of key_of refs ascendings fits_in nodes_under typed found depth fault more read types value_rows contents schema trees exprs on_term n_policies policies n_env env run results answer returned ancestors unknown_above order same place insert ascending make_set filled_sheet row_decision group firm_returned firm_rows firm_group
rows_65_before_lines = refl

size_before_rows : quoted (replicate 16385 120) (replicate 65 (row 7 9 deny)) ≡ left (returns 2 0 0) undecided (replicate 65 (row 7 9 deny))
unfolding keys forms form_of slot_at counted tag_of row_of key_of refs ascendings fits_in nodes_under typed found depth fault more read types value_rows contents schema trees exprs on_term n_policies policies n_env env run results answer returned ancestors unknown_above order same place insert ascending make_set filled_sheet row_decision group firm_returned firm_rows firm_group
size_before_rows = refl

longest : quoted (replicate 16384 120) (row 99 9 deny ∷ []) ≡ left (returns 3 1 0) undecided (row 99 9 deny ∷ [])
unfolding keys forms form_of slot_at counted tag_of row_of key_of refs ascendings fits_in nodes_under typed found depth fault more read types value_rows contents schema trees exprs on_term n_policies policies n_env env run results answer returned ancestors unknown_above order same place insert ascending make_set filled_sheet row_decision group firm_returned firm_rows firm_group
longest = refl

work_first : firm_returned 16383 16384 (replicate 16385 120) (replicate 65 (row 7 9 deny)) ≡ returns 1 0 0
unfolding keys forms form_of slot_at counted tag_of row_of key_of refs ascendings fits_in nodes_under typed found depth fault more read types value_rows contents schema trees exprs on_term n_policies policies n_env env run results answer returned ancestors unknown_above order same place insert ascending make_set filled_sheet row_decision group firm_returned firm_rows firm_group
work_first = refl

work_second : firm_returned 16384 16383 (replicate 16385 120) (replicate 65 (row 7 9 deny)) ≡ returns 1 0 0
unfolding keys forms form_of slot_at counted tag_of row_of key_of refs ascendings fits_in nodes_under typed found depth fault more read types value_rows contents schema trees exprs on_term n_policies policies n_env env run results answer returned ancestors unknown_above order same place insert ascending make_set filled_sheet row_decision group firm_returned firm_rows firm_group
work_second = refl

line_named : quoted (bytes "sheet=partial/text=Person/text=Action/text=Firm/text=quote/text=T1/text=p0/text=p1/text=a/text=b/text=x/kind=0,e/kind=1,a/kind=2,e/type=bool/type=record/type=entity,0/type=entity,1/type=entity,2/type=long/type=string/type=set,2/type=record,7,r,0/shape=1,-,0,2/shape=1,-/shape=1,-,2/value=bool,0/value=bool,1/value=record/value=record,7,1/value=set/value=entity,0,7/value=entity,0,8/value=entity,2,4/principal=0,?/action=1,3/resource=2,?/context=8,?/day=x/node=2,var,p/node=2,lit,5/node=0,eq,0,1/node=4,var,r/node=4,lit,7/node=0,eq,3,4/policy=5,permit,2/policy=6,forbid,5/") (row 99 9 deny ∷ []) ≡ left (returns 3 39 0) undecided (row 99 9 deny ∷ [])
unfolding keys forms form_of slot_at counted tag_of row_of key_of refs ascendings fits_in nodes_under typed found depth fault more read types value_rows contents schema trees exprs on_term n_policies policies n_env env run results answer returned ancestors unknown_above order same place insert ascending make_set filled_sheet row_decision group firm_returned firm_rows firm_group
line_named = refl
