-- The theorems on a sheet with every key: a template with two links, two terms, a policy off term, entities with parents. Its context is known, so
-- that a forbid is true; the principal, line 37, is tried.
use mathlib.Core.Path.{◌≡◌, refl}
use mathlib.Core.Bool.{true, false}
use mathlib.Core.List.{List, [], ◌∷◌}
use Prim.Native.Nat.{ℕ, ◌≤◌}
use native.Mathlib.Omega.{arith}
use lib.ListN.{length, replicate}
use Rattle.sheet.specs.Ascii.{ascii}
use Rattle.sheet.specs.Forms.{keys, partial, complete, forms, form_of, slot_at, counted, tag_of, row_of, key_of, refs, ascendings}
use Rattle.sheet.specs.Parents.{ancestors, unknown_above}
use Rattle.sheet.specs.Typing.{fits_in, nodes_under, typed}
use Rattle.sheet.specs.Sheet.{found, depth, fault, more, read}
use Rattle.sheet.specs.Content.{types, value_rows, contents, schema, trees, exprs, on_term, n_policies, policies, n_env, env}
use Rattle.sheet.specs.Answer.{run, results, answer}
use Rattle.sheet.specs.Call.{returns, returned, written, Accepted}
use Rattle.sheet.specs.Demand3.{Answered, bytes_of}
use Rattle.sheet.specs.Agreement.{agrees}
use Rattle.cedar.specs.Canonical.{order, same, place, insert, ascending, make_set}
use Rattle.finished.proofs.FinishExample.{asked, told, changed, put, add, sheet}
use Rattle.previewed.specs.Preview.{edited, fills, may_edit, preview_returned, preview_written}
use Rattle.previewed.specs.Tried.{Tried, bytes_tried, NeverOpposite}
use Rattle.previewed.proofs.PreviewCall.{preview_runs, preview_writes, preview_twelve}
use Rattle.previewed.proofs.PreviewDecision.{preview_never_opposite}

unfoldable kept : List ℕ
kept = sheet (changed (put 38 "context=6,8" ∷ add 33 ("value=long,-7" ∷ "value=record,9,7" ∷ []) ∷ []) asked)

unfoldable whole : List ℕ
whole = sheet told

abbrev b7 : List ℕ
b7 = ascii "principal=0,7"

-- the line may be replaced, and is in the copy
may : may_edit kept 37 b7 ≡ true
unfolding kept keys forms form_of slot_at counted tag_of row_of key_of refs ascendings fits_in nodes_under typed found depth fault more read types value_rows contents schema trees exprs on_term n_policies policies n_env env run results answer returned ancestors unknown_above order same place insert ascending make_set edited fills may_edit preview_returned
may = refl

copied : edited kept 37 b7 ≡ sheet (changed (put 38 "context=6,8" ∷ put 35 "principal=0,7" ∷ add 33 ("value=long,-7" ∷ "value=record,9,7" ∷ []) ∷ []) asked)
unfolding kept keys forms form_of slot_at counted tag_of row_of key_of refs ascendings fits_in nodes_under typed found depth fault more read types value_rows contents schema trees exprs on_term n_policies policies n_env env run results answer returned ancestors unknown_above order same place insert ascending make_set edited fills may_edit preview_returned
copied = refl

-- ---- before and after

before : Answered partial kept
unfolding kept keys forms form_of slot_at counted tag_of row_of key_of refs ascendings fits_in nodes_under typed found depth fault more read types value_rows contents schema trees exprs on_term n_policies policies n_env env run results answer returned ancestors unknown_above order same place insert ascending make_set edited fills may_edit preview_returned
before = record { work₁ = 16384; work₂ = 20000; buffer = replicate 400 33; zero_number = refl }

after : Tried kept 37 b7
unfolding kept keys forms form_of slot_at counted tag_of row_of key_of refs ascendings fits_in nodes_under typed found depth fault more read types value_rows contents schema trees exprs on_term n_policies policies n_env env run results answer returned ancestors unknown_above order same place insert ascending make_set edited fills may_edit preview_returned
after = record { work₁ = 16384; work₂ = 16384; buffer = replicate 300 0; zero_number = refl }

before_says : bytes_of before ≡ sheet ("decision=deny" ∷ "counts=0,0,0,1,1,0,0,0" ∷ "why=10" ∷ "value=long,3" ∷ "value=bool,1" ∷ "node=2,var,p" ∷ "node=4,lit,0" ∷ "node=0,eq,0,1" ∷ "node=0,lit,10" ∷ "policy=5,permit,open,2" ∷ "policy=10,forbid,true,3" ∷ [])
unfolding kept before written keys forms form_of slot_at counted tag_of row_of key_of refs ascendings fits_in nodes_under typed found depth fault more read types value_rows contents schema trees exprs on_term n_policies policies n_env env run results answer returned ancestors unknown_above order same place insert ascending make_set edited fills may_edit preview_returned
before_says = refl

after_says : bytes_tried after ≡ sheet ("decision=deny" ∷ "counts=1,0,0,0,1,0,0,0" ∷ "why=10" ∷ "value=bool,1" ∷ "value=long,3" ∷ "node=0,lit,9" ∷ "node=0,lit,9" ∷ "policy=5,permit,true,0" ∷ "policy=10,forbid,true,1" ∷ [])
unfolding kept after preview_written keys forms form_of slot_at counted tag_of row_of key_of refs ascendings fits_in nodes_under typed found depth fault more read types value_rows contents schema trees exprs on_term n_policies policies n_env env run results answer returned ancestors unknown_above order same place insert ascending make_set edited fills may_edit preview_returned
after_says = refl

complete_one : Accepted complete whole
unfolding whole keys forms form_of slot_at counted tag_of row_of key_of refs ascendings fits_in nodes_under typed found depth fault more read types value_rows contents schema trees exprs on_term n_policies policies n_env env run results answer returned ancestors unknown_above order same place insert ascending make_set edited fills may_edit preview_returned
complete_one = record { work₁ = 16384; work₂ = 16384; out = 500; zero_number = refl }

they_agree : agrees (read partial (edited kept 37 b7)).state (read complete whole).state ≡ true
unfolding agrees kept whole keys forms form_of slot_at counted tag_of row_of key_of refs ascendings fits_in nodes_under typed found depth fault more read types value_rows contents schema trees exprs on_term n_policies policies n_env env run results answer returned ancestors unknown_above order same place insert ascending make_set edited fills may_edit preview_returned
they_agree = refl

-- THE THEOREM, of these calls
never : NeverOpposite (bytes_of before) (bytes_tried after)
never = preview_never_opposite kept 37 b7 whole before after complete_one they_agree

-- ---- the call is the run on the copy

short : length kept ≤ 16384
unfolding kept keys forms form_of slot_at counted tag_of row_of key_of refs ascendings fits_in nodes_under typed found depth fault more read types value_rows contents schema trees exprs on_term n_policies policies n_env env run results answer returned ancestors unknown_above order same place insert ascending make_set edited fills may_edit preview_returned
short = omega arith

run_on_copy : (work₁ work₂ out : ℕ) → preview_returned work₁ work₂ out kept 37 b7 ≡ returned partial work₁ work₂ out (edited kept 37 b7)
run_on_copy = preview_runs kept 37 b7 short may

bytes_of_copy : (work₁ work₂ : ℕ) (buffer : List ℕ) → preview_written work₁ work₂ buffer kept 37 b7 ≡ written partial work₁ work₂ buffer (edited kept 37 b7)
bytes_of_copy = preview_writes kept 37 b7 short may

-- ---- a known item: 12

known_kind : may_edit kept 37 (ascii "principal=2,7") ≡ false
unfolding kept keys forms form_of slot_at counted tag_of row_of key_of refs ascendings fits_in nodes_under typed found depth fault more read types value_rows contents schema trees exprs on_term n_policies policies n_env env run results answer returned ancestors unknown_above order same place insert ascending make_set edited fills may_edit preview_returned
known_kind = refl

twelve : preview_returned 16384 20000 0 kept 37 (ascii "principal=2,7") ≡ returns 12 37 0
twelve = preview_twelve kept 37 (ascii "principal=2,7") short known_kind 16384 20000 0 refl
