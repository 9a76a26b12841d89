-- The theorems on a sheet with every key: a template with two links, two terms, a policy off term, entities with parents, a known context.
-- Principal and resource are unknown: the broker b7, text 7, is permitted, b9, text 8, is not.
use mathlib.Core.Path.{◌≡◌, refl, subst}
use mathlib.Core.Bool.{true}
use mathlib.Core.List.{List, [], ◌∷◌}
use Prim.Native.Nat.{ℕ, ◌≤◌}
use native.Mathlib.Omega.{arith}
use lib.ListN.{length, replicate}
use Rattle.cedar.specs.Canonical.{order, same, place, insert, ascending, make_set}
use Rattle.cedar.specs.Response.{allow, deny, undecided}
use Rattle.sheet.specs.Forms.{keys, partial, forms, form_of, slot_at, counted, tag_of, row_of, key_of, refs, ascendings, at, PRINCIPAL, RESOURCE}
use Rattle.sheet.specs.State.{line_at}
use Rattle.sheet.specs.Parents.{ancestors, unknown_above}
use Rattle.sheet.specs.Typing.{fits_in, nodes_under, typed}
use Rattle.sheet.specs.Sheet.{found, depth, fault, more, read}
use Rattle.sheet.specs.Content.{types, value_rows, contents, schema, trees, exprs, on_term, n_policies, policies, n_env, env}
use Rattle.sheet.specs.Answer.{run, results, answer}
use Rattle.sheet.specs.Call.{returns, returned, written, Accepted}
use Rattle.sheet.specs.Demand3.{Answered, bytes_of}
use Rattle.finished.proofs.FinishExample.{asked, changed, put, add, sheet}
use Rattle.staff.specs.Firm.{Asked, Row, filled_sheet, with_texts, decision_on, row_decision, group, ask_fits, misfit, firm_returned, firm_rows, firm_group}
use Rattle.staff.specs.Called.{SaysDecision}
use Rattle.staff.proofs.FirmBytes.{filled_sheet_law, row_decision_law}
use Rattle.staff.proofs.FirmCall.{row_called, Lowest, misfit_lowest, Says, texts_of, firm_says, texts_kept, firm_fourteen, firm_refused, firm_fifteen, firm_accepted}
use Rattle.staff.proofs.FirmEdges.{row, left, quoted}
use Rattle.staff.proofs.FirmTexts.{principal_is, resource_is}

unfoldable firm : List ℕ
firm = sheet (changed (put 38 "context=6,8" ∷ put 37 "resource=2,?" ∷ add 33 ("value=long,9" ∷ "value=record,9,7" ∷ []) ∷ []) asked)

accepted : Accepted partial firm
unfolding firm keys forms form_of slot_at counted tag_of row_of key_of refs ascendings fits_in nodes_under typed found depth fault more read types value_rows contents schema trees exprs on_term n_policies policies n_env env run results answer returned ancestors unknown_above order same place insert ascending make_set filled_sheet row_decision group firm_returned firm_rows firm_group
accepted = record { work₁ = 16384; work₂ = 16384; out = 500; zero_number = refl }

abbrev b7 : Asked
b7 = record { principal = 7; resource = 4 }

-- ---- one row

b7_fits : ask_fits (read partial firm).state b7 ≡ true
unfolding firm keys forms form_of slot_at counted tag_of row_of key_of refs ascendings fits_in nodes_under typed found depth fault more read types value_rows contents schema trees exprs on_term n_policies policies n_env env run results answer returned ancestors unknown_above order same place insert ascending make_set filled_sheet row_decision group firm_returned firm_rows firm_group
b7_fits = refl

-- the texts stand on the lines of principal and resource, 37 and 39
b7_sheet : filled_sheet firm b7 ≡ sheet (changed (put 38 "context=6,8" ∷ put 35 "principal=0,7" ∷ put 37 "resource=2,4" ∷ add 33 ("value=long,9" ∷ "value=record,9,7" ∷ []) ∷ []) asked)
unfolding firm keys forms form_of slot_at counted tag_of row_of key_of refs ascendings fits_in nodes_under typed found depth fault more read types value_rows contents schema trees exprs on_term n_policies policies n_env env run results answer returned ancestors unknown_above order same place insert ascending make_set filled_sheet row_decision group firm_returned firm_rows firm_group
b7_sheet = refl

b7_state : ((read partial (filled_sheet firm b7)).number ≡ 0) × ((read partial (filled_sheet firm b7)).state ≡ with_texts (read partial firm).state b7)
b7_state = filled_sheet_law firm b7 accepted b7_fits

b7_texts : (at (line_at (read partial (filled_sheet firm b7)).state PRINCIPAL 0) 1 ≡ 7) × (at (line_at (read partial (filled_sheet firm b7)).state RESOURCE 0) 1 ≡ 4)
b7_texts = (principal_is firm b7 accepted b7_fits, resource_is firm b7 accepted b7_fits)

b7_decision : row_decision firm b7 ≡ decision_on (with_texts (read partial firm).state b7)
b7_decision = row_decision_law firm b7 accepted b7_fits

b7_short : length (filled_sheet firm b7) ≤ 16384
unfolding firm keys forms form_of slot_at counted tag_of row_of key_of refs ascendings fits_in nodes_under typed found depth fault more read types value_rows contents schema trees exprs on_term n_policies policies n_env env run results answer returned ancestors unknown_above order same place insert ascending make_set filled_sheet row_decision group firm_returned firm_rows firm_group
b7_short = omega arith

b7_call : Answered partial (filled_sheet firm b7)
unfolding firm keys forms form_of slot_at counted tag_of row_of key_of refs ascendings fits_in nodes_under typed found depth fault more read types value_rows contents schema trees exprs on_term n_policies policies n_env env run results answer returned ancestors unknown_above order same place insert ascending make_set filled_sheet row_decision group firm_returned firm_rows firm_group
b7_call = record { work₁ = 16384; work₂ = 20000; buffer = replicate 300 33; zero_number = refl }

b7_answer : bytes_of b7_call ≡ sheet ("decision=allow" ∷ "counts=1,0,0,0,0,1,0,0" ∷ "why=5" ∷ "value=bool,1" ∷ "value=long,3" ∷ "value=bool,0" ∷ "node=0,lit,9" ∷ "node=0,lit,11" ∷ "policy=5,permit,true,0" ∷ "policy=10,forbid,false,1" ∷ [])
unfolding firm b7_call written keys forms form_of slot_at counted tag_of row_of key_of refs ascendings fits_in nodes_under typed found depth fault more read types value_rows contents schema trees exprs on_term n_policies policies n_env env run results answer returned ancestors unknown_above order same place insert ascending make_set filled_sheet row_decision group firm_returned firm_rows firm_group
b7_answer = refl

-- THE THEOREM, of this call: its bytes say the row's decision
b7_called : SaysDecision (bytes_of b7_call) (row_decision firm b7)
b7_called = row_called firm b7 accepted b7_fits b7_short b7_call

-- ---- three rows

abbrev staff : List Row
staff = row 7 4 undecided ∷ row 8 4 allow ∷ row 7 9 deny ∷ []

by_computation : quoted firm staff ≡ left (returns 0 0 0) deny (row 7 4 allow ∷ row 8 4 deny ∷ row 7 9 allow ∷ [])
unfolding firm keys forms form_of slot_at counted tag_of row_of key_of refs ascendings fits_in nodes_under typed found depth fault more read types value_rows contents schema trees exprs on_term n_policies policies n_env env run results answer returned ancestors unknown_above order same place insert ascending make_set filled_sheet row_decision group firm_returned firm_rows firm_group
by_computation = refl

says : Says firm staff (firm_returned 16384 16384 firm staff) (firm_group 16384 16384 firm staff) (firm_rows 16384 16384 firm staff)
says = firm_says 16384 16384 firm staff

texts : texts_of (firm_rows 16384 16384 firm staff) ≡ texts_of staff
texts = texts_kept 16384 16384 firm staff

all_fit_law : misfit (read partial firm).state staff ≡ 3
unfolding firm keys forms form_of slot_at counted tag_of row_of key_of refs ascendings fits_in nodes_under typed found depth fault more read types value_rows contents schema trees exprs on_term n_policies policies n_env env run results answer returned ancestors unknown_above order same place insert ascending make_set filled_sheet row_decision group firm_returned firm_rows firm_group
all_fit_law = refl

zero_number : firm_returned 16384 20000 firm staff ≡ returns 0 0 0
zero_number = firm_accepted 16384 20000 firm staff refl accepted (omega arith) (let z = all_fit_law in omega (arith, z))

-- ---- 15: text 11 does not exist

abbrev unfit : List Row
unfit = row 7 4 undecided ∷ row 7 11 allow ∷ row 11 4 deny ∷ []

second : misfit (read partial firm).state unfit ≡ 1
unfolding firm keys forms form_of slot_at counted tag_of row_of key_of refs ascendings fits_in nodes_under typed found depth fault more read types value_rows contents schema trees exprs on_term n_policies policies n_env env run results answer returned ancestors unknown_above order same place insert ascending make_set filled_sheet row_decision group firm_returned firm_rows firm_group
second = refl

is_lowest : Lowest (read partial firm).state unfit 1
is_lowest = subst (Lowest (read partial firm).state unfit) second (misfit_lowest (read partial firm).state unfit (let z = second in omega (arith, z)))

fifteen : firm_returned 16384 20000 firm unfit ≡ returns 15 (misfit (read partial firm).state unfit) 0
fifteen = firm_fifteen 16384 20000 firm unfit refl accepted (omega arith) (let z = second in omega (arith, z))

-- ---- 14, and a refusal of the sheet itself

fourteen : (sheet : List ℕ) → length sheet ≤ 16384 → firm_returned 16384 20000 sheet (replicate 65 (row 7 4 deny)) ≡ returns 14 0 0
fourteen sheet h = firm_fourteen 16384 20000 sheet (replicate 65 (row 7 4 deny)) refl h (omega arith)

unfoldable torn : List ℕ
torn = sheet ("sheet=partial" ∷ "text=Person" ∷ "kind=1,e" ∷ [])

torn_five : (firm_returned 16384 16384 torn staff).number ≡ 5
unfolding torn keys forms form_of slot_at counted tag_of row_of key_of refs ascendings fits_in nodes_under typed found depth fault more read types value_rows contents schema trees exprs on_term n_policies policies n_env env run results answer returned ancestors unknown_above order same place insert ascending make_set filled_sheet row_decision group firm_returned firm_rows firm_group
torn_five = refl

torn_line : firm_returned 16384 16384 torn staff ≡ returned partial 16384 16384 0 torn
torn_line = firm_refused 16384 16384 torn staff (omega arith) 4 (omega arith) torn_five 0
