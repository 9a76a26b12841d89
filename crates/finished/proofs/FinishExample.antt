-- The theorems on a pair of sheets with every key: a template with two links whose slot has a group of kinds, two terms, a policy off term,
-- entities with parents, a made value. The complete sheet has a text, values and an entity of its own, and the number of the made value is
-- that of another value there.
use mathlib.Core.Path.{◌≡◌, refl, ap, subst, ◌∙◌}
use mathlib.Core.Bool.{true, false}
use mathlib.Core.List.{List, [], ◌∷◌, ◌++◌}
use Prim.Native.Nat.{ℕ, ◌+◌, ◌-◌}
use Prim.Native.String.{String}
use native.Mathlib.Omega.{arith}
use lib.ListN.{take, drop, replicate}
use Rattle.sheet.specs.Ascii.{ascii}
use Rattle.sheet.specs.Forms.{keys, partial, complete, ENTITY, DAY, forms, form_of, slot_at, counted, tag_of, row_of, key_of, refs, ascendings}
use Rattle.sheet.specs.Parents.{ancestors, unknown_above}
use Rattle.sheet.specs.Typing.{fits_in, nodes_under, typed}
use Rattle.sheet.specs.Sheet.{found, depth, fault, more, read}
use Rattle.sheet.specs.Content.{types, value_rows, contents, schema, trees, exprs, on_term, n_policies, policies, n_env, env}
use Rattle.sheet.specs.Answer.{run, results, answer}
use Rattle.sheet.specs.Call.{Returned, returns, returned, Accepted, written}
use Rattle.cedar.specs.Canonical.{order, same, place, insert, ascending, make_set}
use Rattle.cedar.specs.Residual.{ctrue}
use Rattle.cedar.specs.Response.{permit, forbid}
use Rattle.sheet.specs.Agreement.{agrees}
use Rattle.sheet.proofs.demand3.Demand3Bytes.{facts}
use Rattle.finished.specs.Finish.{finished_results, finished_answer, finish_returned, finish_written, breaking_line}
use Rattle.finished.specs.ByKey.{passed_line}
use Rattle.finished.specs.Breaks.{Breaks, Named}
use Rattle.finished.proofs.FinishEqual.{finished_results_law, finished_answer_law}
use Rattle.finished.proofs.FinishAgrees.{no_break_agrees, agrees_no_break}
use Rattle.finished.proofs.FinishCall.{finish_is_complete, finish_writes_complete, partial_refused, complete_refused, finish_eleven, Finishes, finish_accepted}
use Rattle.finished.proofs.BreakingLine.{passed_is, eleven_names}

-- ---- the lines of two sheets

abbrev pub asked : List String
asked =
    "sheet=partial"
    ∷ "text=Person" ∷ "text=Action" ∷ "text=Firm" ∷ "text=quote" ∷ "text=T1" ∷ "text=low" ∷ "text=high" ∷ "text=b7" ∷ "text=b9" ∷ "text=n" ∷ "text=p2"
    ∷ "kind=0,e" ∷ "kind=1,a" ∷ "kind=2,e"
    ∷ "type=bool" ∷ "type=record" ∷ "type=entity,0" ∷ "type=entity,2" ∷ "type=entity,0,2" ∷ "type=long" ∷ "type=record,9,o,5"
    ∷ "shape=6,5,2" ∷ "shape=1,-" ∷ "shape=1,-"
    ∷ "value=entity,0,7" ∷ "value=entity,2,8" ∷ "value=long,1" ∷ "value=long,2" ∷ "value=record" ∷ "value=set" ∷ "value=set,1"
    ∷ "entity=0,?,4,6" ∷ "entity=1,4,?,5"
    ∷ "principal=0,?"
    ∷ "action=1,3"
    ∷ "resource=2,4"
    ∷ "context=6,?"
    ∷ "day=2024-02-29"
    ∷ "node=2,var,p" ∷ "node=4,slot,p" ∷ "node=0,eq,0,1" ∷ "node=6,var,c" ∷ "node=5,get,3,9" ∷ "node=5,lit,2" ∷ "node=5,lit,3" ∷ "node=5,add,5,6" ∷ "node=0,lt,4,7"
    ∷ "policy=5,permit,2" ∷ "policy=6,permit,2" ∷ "policy=10,forbid,8"
    ∷ "link=0,0,-" ∷ "link=1,1,-"
    ∷ "term=0,2024-02-29,2024-02-29" ∷ "term=1,2024-03-01,2199-12-31"
    ∷ []

abbrev pub told : List String
told =
    "sheet=complete"
    ∷ "text=Person" ∷ "text=Action" ∷ "text=Firm" ∷ "text=quote" ∷ "text=T1" ∷ "text=low" ∷ "text=high" ∷ "text=b7" ∷ "text=b9" ∷ "text=n" ∷ "text=p2" ∷ "text=T9"
    ∷ "kind=0,e" ∷ "kind=1,a" ∷ "kind=2,e"
    ∷ "type=bool" ∷ "type=record" ∷ "type=entity,0" ∷ "type=entity,2" ∷ "type=entity,0,2" ∷ "type=long" ∷ "type=record,9,o,5"
    ∷ "shape=6,5,2" ∷ "shape=1,-" ∷ "shape=1,-"
    ∷ "value=entity,0,7" ∷ "value=entity,2,8" ∷ "value=long,1" ∷ "value=long,2" ∷ "value=record" ∷ "value=set" ∷ "value=set,1" ∷ "value=long,-7" ∷ "value=record,9,7" ∷ "value=entity,0,11"
    ∷ "entity=0,8,4,6" ∷ "entity=1,4,4,5" ∷ "entity=9,8,4,5"
    ∷ "principal=0,7"
    ∷ "action=1,3"
    ∷ "resource=2,4"
    ∷ "context=6,8"
    ∷ "day=2024-02-29"
    ∷ "node=2,var,p" ∷ "node=4,slot,p" ∷ "node=0,eq,0,1" ∷ "node=6,var,c" ∷ "node=5,get,3,9" ∷ "node=5,lit,2" ∷ "node=5,lit,3" ∷ "node=5,add,5,6" ∷ "node=0,lt,4,7"
    ∷ "policy=5,permit,2" ∷ "policy=6,permit,2" ∷ "policy=10,forbid,8"
    ∷ "link=0,0,-" ∷ "link=1,1,-"
    ∷ "term=0,2024-02-29,2024-02-29" ∷ "term=1,2024-03-01,2199-12-31"
    ∷ []

-- at a line, so many leave and others come
pub record Change : Type 0 where
  pub line : ℕ
  pub off : ℕ
  pub new : List String

abbrev pub changed : List Change → List String → List String
changed [] ls = ls
changed (x ∷ xs) ls = changed xs (take (x.line - 1) ls ++ x.new ++ drop (x.line - 1 + x.off) ls)

abbrev pub put : ℕ → String → Change
put n l = record { line = n; off = 1; new = l ∷ [] }

abbrev pub add : ℕ → List String → Change
add n ls = record { line = n; off = 0; new = ls }

abbrev pub leave : ℕ → Change
leave n = record { line = n; off = 1; new = [] }

abbrev pub sheet : List String → List ℕ
sheet [] = []
sheet (l ∷ ls) = ascii l ++ (10 ∷ sheet ls)

-- ---- the hypotheses of the theorems are met

unfoldable p : List ℕ
p = sheet asked

unfoldable c : List ℕ
c = sheet told

p_accepted : Accepted partial p
unfolding p keys forms form_of slot_at counted tag_of row_of key_of refs ascendings fits_in nodes_under typed found depth fault more read types value_rows contents schema trees exprs on_term n_policies policies n_env env run results answer returned ancestors unknown_above order same place insert ascending make_set finished_results finished_answer finish_returned agrees breaking_line
p_accepted = record { work₁ = 16384; work₂ = 20000; out = 500; zero_number = refl }

c_accepted : Accepted complete c
unfolding c keys forms form_of slot_at counted tag_of row_of key_of refs ascendings fits_in nodes_under typed found depth fault more read types value_rows contents schema trees exprs on_term n_policies policies n_env env run results answer returned ancestors unknown_above order same place insert ascending make_set finished_results finished_answer finish_returned agrees breaking_line
c_accepted = record { work₁ = 16384; work₂ = 16384; out = 500; zero_number = refl }

they_agree : agrees (read partial p).state (read complete c).state ≡ true
unfolding agrees p c keys forms form_of slot_at counted tag_of row_of key_of refs ascendings fits_in nodes_under typed found depth fault more read types value_rows contents schema trees exprs on_term n_policies policies n_env env run results answer returned ancestors unknown_above order same place insert ascending make_set finished_results finished_answer finish_returned breaking_line
they_agree = refl

own_results : finished_results (read partial p).state (read complete c).state ≡ results (read complete c).state
own_results = finished_results_law p c p_accepted c_accepted they_agree

own_answer : finished_answer (read partial p).state (read complete c).state ≡ answer complete (read complete c).state
own_answer = finished_answer_law p c p_accepted c_accepted they_agree

own_call : (work₁ work₂ out : ℕ) → finish_returned work₁ work₂ out p c ≡ returned complete work₁ work₂ out c
own_call = finish_is_complete p c p_accepted c_accepted they_agree

own_bytes : (work₁ work₂ : ℕ) (buffer : List ℕ) → finish_written work₁ work₂ buffer p c ≡ written complete work₁ work₂ buffer c
own_bytes = finish_writes_complete p c p_accepted c_accepted they_agree

none_breaks : breaking_line (read partial p).state (read complete c).state ≡ 0
none_breaks = agrees_no_break (read partial p).state (read complete c).state they_agree

none_passed : passed_line (read partial p).state (read complete c).state ≡ 0
none_passed = passed_is (read partial p).state (read complete c).state (facts partial p p_accepted) (facts complete c c_accepted) ∙ none_breaks

agree_again : agrees (read partial p).state (read complete c).state ≡ true
agree_again = no_break_agrees (read partial p).state (read complete c).state none_breaks

-- ---- what the residuals yield: `principal == b7` and `context.n < 3`

yields : finished_results (read partial p).state (read complete c).state ≡ record { effect = permit; class = ctrue } ∷ record { effect = forbid; class = ctrue } ∷ []
unfolding p c keys forms form_of slot_at counted tag_of row_of key_of refs ascendings fits_in nodes_under typed found depth fault more read types value_rows contents schema trees exprs on_term n_policies policies n_env env run results answer returned ancestors unknown_above order same place insert ascending make_set finished_results finished_answer finish_returned agrees breaking_line
yields = refl

unfoldable says : List ℕ
says = sheet ("decision=deny" ∷ "counts=1,0,0,0,1,0,0,0" ∷ "why=10" ∷ "policy=5,permit,true" ∷ "policy=10,forbid,true" ∷ [])

-- number 0: the answer stands in the buffer, and what is left of it is as it was
in_buffer : finish_written 16384 16384 (replicate 100 33) p c ≡ says ++ replicate 13 33
unfolding finish_written says p c keys forms form_of slot_at counted tag_of row_of key_of refs ascendings fits_in nodes_under typed found depth fault more read types value_rows contents schema trees exprs on_term n_policies policies n_env env run results answer returned ancestors unknown_above order same place insert ascending make_set finished_results finished_answer finish_returned agrees breaking_line
in_buffer = refl

-- a buffer of the answer's length, and one byte less
exact : finish_returned 16384 16384 87 p c ≡ returns 0 0 87
unfolding p c keys forms form_of slot_at counted tag_of row_of key_of refs ascendings fits_in nodes_under typed found depth fault more read types value_rows contents schema trees exprs on_term n_policies policies n_env env run results answer returned ancestors unknown_above order same place insert ascending make_set finished_results finished_answer finish_returned agrees breaking_line
exact = refl

one_less : finish_returned 16384 16384 86 p c ≡ returns 10 0 87
unfolding p c keys forms form_of slot_at counted tag_of row_of key_of refs ascendings fits_in nodes_under typed found depth fault more read types value_rows contents schema trees exprs on_term n_policies policies n_env env run results answer returned ancestors unknown_above order same place insert ascending make_set finished_results finished_answer finish_returned agrees breaking_line
one_less = refl

finishes : Finishes p c
finishes = finish_accepted 16384 16384 87 p c (ap (λ (r : Returned). r.number) exact)

-- ---- a sheet at fault: its own call's refusal

unfoldable cut : List String → List ℕ
cut ls = sheet (take 30 ls)

partial_cut : (c : List ℕ) → finish_returned 16384 16384 0 (cut asked) c ≡ returned partial 16384 16384 0 (cut asked)
unfolding cut keys forms form_of slot_at counted tag_of row_of key_of refs ascendings fits_in nodes_under typed found depth fault more read types value_rows contents schema trees exprs on_term n_policies policies n_env env run results answer returned ancestors unknown_above order same place insert ascending make_set finished_results finished_answer finish_returned agrees breaking_line
partial_cut c = partial_refused 16384 16384 0 (cut asked) c 2 (omega arith) refl

complete_cut : finish_returned 16384 16384 0 p (cut told) ≡ returned complete 16384 16384 0 (cut told)
unfolding cut keys forms form_of slot_at counted tag_of row_of key_of refs ascendings fits_in nodes_under typed found depth fault more read types value_rows contents schema trees exprs on_term n_policies policies n_env env run results answer returned ancestors unknown_above order same place insert ascending make_set finished_results finished_answer finish_returned agrees breaking_line
complete_cut = complete_refused 16384 16384 0 p (cut told) 2 (omega arith) p_accepted refl

-- ---- another context: 9 for -7

unfoldable high : List ℕ
high = sheet (changed (put 34 "value=long,9" ∷ []) told)

high_yields : finish_written 16384 16384 (replicate 88 0) p high ≡ sheet ("decision=allow" ∷ "counts=1,0,0,0,0,1,0,0" ∷ "why=5" ∷ "policy=5,permit,true" ∷ "policy=10,forbid,false" ∷ [])
unfolding finish_written p high keys forms form_of slot_at counted tag_of row_of key_of refs ascendings fits_in nodes_under typed found depth fault more read types value_rows contents schema trees exprs on_term n_policies policies n_env env run results answer returned ancestors unknown_above order same place insert ascending make_set finished_results finished_answer finish_returned agrees breaking_line
high_yields = refl

-- ---- two lines break: an entity's parents differ, and the day does

unfoldable twice : List ℕ
twice = sheet (changed (put 44 "day=2024-02-28" ∷ put 37 "entity=0,8,4,5" ∷ []) told)

twice_accepted : Accepted complete twice
unfolding twice keys forms form_of slot_at counted tag_of row_of key_of refs ascendings fits_in nodes_under typed found depth fault more read types value_rows contents schema trees exprs on_term n_policies policies n_env env run results answer returned ancestors unknown_above order same place insert ascending make_set finished_results finished_answer finish_returned agrees breaking_line
twice_accepted = record { work₁ = 16384; work₂ = 16384; out = 500; zero_number = refl }

do_not_agree : agrees (read partial p).state (read complete twice).state ≡ false
unfolding agrees p twice keys forms form_of slot_at counted tag_of row_of key_of refs ascendings fits_in nodes_under typed found depth fault more read types value_rows contents schema trees exprs on_term n_policies policies n_env env run results answer returned ancestors unknown_above order same place insert ascending make_set finished_results finished_answer finish_returned breaking_line
do_not_agree = refl

eleven : finish_returned 16384 20000 0 p twice ≡ returns 11 (breaking_line (read partial p).state (read complete twice).state) 0
eleven = finish_eleven p twice p_accepted twice_accepted do_not_agree 16384 20000 0 refl

first_line : breaking_line (read partial p).state (read complete twice).state ≡ 37
unfolding p twice keys forms form_of slot_at counted tag_of row_of key_of refs ascendings fits_in nodes_under typed found depth fault more read types value_rows contents schema trees exprs on_term n_policies policies n_env env run results answer returned ancestors unknown_above order same place insert ascending make_set finished_results finished_answer finish_returned agrees breaking_line
first_line = refl

is_named : Named (read partial p).state (read complete twice).state 37
is_named = subst (Named (read partial p).state (read complete twice).state) first_line (eleven_names p twice p_accepted twice_accepted)

-- both do
day_breaks : Breaks (read partial p).state (read complete twice).state 44
unfolding p twice keys forms form_of slot_at counted tag_of row_of key_of refs ascendings fits_in nodes_under typed found depth fault more read types value_rows contents schema trees exprs on_term n_policies policies n_env env run results answer returned ancestors unknown_above order same place insert ascending make_set finished_results finished_answer finish_returned agrees breaking_line
day_breaks = record { key = DAY; place = 0; later = omega arith; is_key = omega arith; there = omega arith; line_is = refl; breaks = refl }

entity_breaks : Breaks (read partial p).state (read complete twice).state 37
unfolding p twice keys forms form_of slot_at counted tag_of row_of key_of refs ascendings fits_in nodes_under typed found depth fault more read types value_rows contents schema trees exprs on_term n_policies policies n_env env run results answer returned ancestors unknown_above order same place insert ascending make_set finished_results finished_answer finish_returned agrees breaking_line
entity_breaks = record { key = ENTITY; place = 0; later = omega arith; is_key = omega arith; there = omega arith; line_is = refl; breaks = refl }
