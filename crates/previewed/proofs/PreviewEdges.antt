-- The preview at its edges, by computation: what may stand for a line, which check comes first, that 12 has the line that was given.
use mathlib.Core.Path.{◌≡◌, refl}
use mathlib.Core.List.{List, [], ◌∷◌, ◌++◌}
use Prim.Native.Nat.{ℕ}
use Prim.Native.String.{String}
use lib.ListN.{replicate}
use Rattle.sheet.specs.Forms.{keys, partial, forms, form_of, slot_at, counted, tag_of, row_of, key_of, refs, ascendings}
use Rattle.sheet.specs.Parents.{ancestors, unknown_above}
use Rattle.sheet.specs.Typing.{fits_in, nodes_under, typed}
use Rattle.sheet.specs.Sheet.{found, depth, fault, more, read}
use Rattle.sheet.specs.Content.{types, value_rows, contents, schema, trees, exprs, on_term, n_policies, policies, n_env, env}
use Rattle.sheet.specs.Answer.{run, results, answer}
use Rattle.sheet.specs.Call.{returns, returned}
use Rattle.cedar.specs.Canonical.{order, same, place, insert, ascending, make_set}
use Rattle.sheet.proofs.answer.Shown.{bytes, shown_for}
use Rattle.previewed.specs.Preview.{edited, fills, may_edit, preview_returned}

-- a line's number, its replacement, and what is shown: the answer, or `refused=number,line,length`
record Try : Type 0 where
  line : ℕ
  new : String
  says : String

abbrev try : ℕ → String → String → Try
try n l a = record { line = n; new = l; says = a }

abbrev tried : List ℕ → Try → List ℕ
tried sheet t = shown_for (answer partial (read partial (edited sheet t.line (bytes t.new))).state) (preview_returned 16384 16384 16384 sheet t.line (bytes t.new))

abbrev tried_all : List ℕ → List Try → List (List ℕ)
tried_all sheet [] = []
tried_all sheet (t ∷ ts) = tried sheet t ∷ tried_all sheet ts

abbrev says_all : List Try → List (List ℕ)
says_all [] = []
says_all (t ∷ ts) = bytes t.says ∷ says_all ts

-- ---- a sheet with an unknown principal (line 21) and context (line 24)

unfoldable form : List ℕ
form = bytes "sheet=partial/text=Broker/text=Action/text=Tariff/text=quote/text=T1/text=low/text=high/text=b7/kind=0,e/kind=1,a/kind=2,e/type=bool/type=record/type=entity,0/shape=1,-/shape=1,-/shape=1,-/value=entity,0,7/value=bool,1/principal=0,?/action=1,3/resource=2,4/context=1,?/day=2026-06-15/node=2,var,p/node=2,lit,0/node=0,eq,0,1/node=0,lit,1/policy=5,permit,2/policy=6,permit,3/"

-- filled
filled_tries : List Try
filled_tries =
    try 21 "principal=0,7" "decision=allow/counts=2,0,0,0,0,0,0,0/why=5/node=0,lit,1/node=0,lit,1/policy=5,permit,true,0/policy=6,permit,true,1/"
    ∷ try 21 "principal=0,4" "decision=allow/counts=1,1,0,0,0,0,0,0/why=6/value=entity,0,4/value=bool,0/node=0,lit,3/node=0,lit,1/policy=5,permit,false,0/policy=6,permit,true,1/"
    ∷ []

filled : tried_all form filled_tries ≡ says_all filled_tries
unfolding form filled_tries keys forms form_of slot_at counted tag_of row_of key_of refs ascendings fits_in nodes_under typed found depth fault more read types value_rows contents schema trees exprs on_term n_policies policies n_env env run results answer returned ancestors unknown_above order same place insert ascending make_set edited fills may_edit preview_returned
filled = refl

-- "12, with the line, for a line number that the sheet lacks or a replacement that breaks a rule above or fills nothing"
broken_tries : List Try
broken_tries =
    try 21 "principal=0,?" "refused=12,21,0/"
    ∷ try 21 "principal=2,7" "refused=12,21,0/"
    ∷ try 21 "resource=0,7" "refused=12,21,0/"
    ∷ try 21 "principal=0,7,7" "refused=12,21,0/"
    ∷ try 21 "principal=0" "refused=12,21,0/"
    ∷ try 21 "principal=0,7/" "refused=12,21,0/"
    ∷ try 21 "principal=0,7/action=1,3" "refused=12,21,0/"
    ∷ try 21 "" "refused=12,21,0/"
    ∷ try 21 "principal0,7" "refused=12,21,0/"
    ∷ try 0 "principal=0,7" "refused=12,0,0/"
    ∷ try 32 "principal=0,7" "refused=12,32,0/"
    ∷ try 22 "action=1,4" "refused=12,22,0/"
    ∷ try 23 "resource=2,5" "refused=12,23,0/"
    ∷ try 23 "resource=2,4" "refused=12,23,0/"
    ∷ []

broken : tried_all form broken_tries ≡ says_all broken_tries
unfolding form broken_tries keys forms form_of slot_at counted tag_of row_of key_of refs ascendings fits_in nodes_under typed found depth fault more read types value_rows contents schema trees exprs on_term n_policies policies n_env env run results answer returned ancestors unknown_above order same place insert ascending make_set edited fills may_edit preview_returned
broken = refl

-- what stands in a filled item is judged by the run on the copy
judged_tries : List Try
judged_tries =
    try 21 "principal=0,99" "refused=5,21,0/"
    ∷ try 21 "principal=0,x" "refused=3,21,0/"
    ∷ try 21 "principal=0," "refused=3,21,0/"
    ∷ try 21 "principal=0,??" "refused=3,21,0/"
    ∷ try 24 "context=1,1" "refused=7,24,0/"
    ∷ try 24 "context=1,9" "refused=5,24,0/"
    ∷ []

judged : tried_all form judged_tries ≡ says_all judged_tries
unfolding form judged_tries keys forms form_of slot_at counted tag_of row_of key_of refs ascendings fits_in nodes_under typed found depth fault more read types value_rows contents schema trees exprs on_term n_policies policies n_env env run results answer returned ancestors unknown_above order same place insert ascending make_set edited fills may_edit preview_returned
judged = refl

-- ---- entity lines 40 and 41

unfoldable listed : List ℕ
listed = bytes "sheet=partial/text=Person/text=Action/text=Firm/text=quote/text=T1/text=p0/text=p1/text=a/text=b/text=x/kind=0,e/kind=1,a/kind=2,e/type=bool/type=record/type=entity,0/type=entity,1/type=entity,2/type=long/type=string/type=set,2/type=record,7,r,0/shape=1,-,0,2/shape=1,-/shape=1,-,2/value=bool,0/value=bool,1/value=record/value=record,7,1/value=set/value=entity,0,7/value=entity,0,8/value=entity,2,4/value=entity,2,9/value=set,6/value=set,7/value=set,8/value=set,5/entity=5,?,?,10/entity=7,?,?,?/principal=0,?/action=1,3/resource=2,4/context=8,?/day=2026-06-15/node=2,lit,5/node=4,lit,8/node=0,in,0,1/policy=5,permit,2/"

listed_tries : List Try
listed_tries =
    try 41 "entity=7,?,?,11" "decision=open/counts=0,0,0,1,0,0,0,0/why=none/node=2,lit,5/node=4,lit,8/node=0,in,0,1/policy=5,permit,open,2/"
    ∷ try 41 "entity=7,?,?,4" "decision=deny/counts=0,1,0,0,0,0,0,0/why=none/node=0,lit,0/policy=5,permit,false,0/"
    ∷ try 41 "entity=7,2,2,?" "decision=open/counts=0,0,0,1,0,0,0,0/why=none/node=2,lit,5/node=4,lit,8/node=0,in,0,1/policy=5,permit,open,2/"
    ∷ try 40 "entity=5,?,?,11" "refused=12,40,0/"
    ∷ try 40 "entity=5,2,2,11" "refused=12,40,0/"
    ∷ try 41 "entity=7,,?,?" "refused=3,41,0/"
    ∷ []

entities : tried_all listed listed_tries ≡ says_all listed_tries
unfolding listed listed_tries keys forms form_of slot_at counted tag_of row_of key_of refs ascendings fits_in nodes_under typed found depth fault more read types value_rows contents schema trees exprs on_term n_policies policies n_env env run results answer returned ancestors unknown_above order same place insert ascending make_set edited fills may_edit preview_returned
entities = refl

-- ---- other sheets: kept sheets with faults of their own, lines that are not ended, an ancestor of a strange kind at another line

record Kept : Type 0 where
  sheet : String
  replaced : Try

abbrev kept : String → Try → Kept
kept s t = record { sheet = s; replaced = t }

abbrev kept_all : List Kept → List (List ℕ)
kept_all [] = []
kept_all (k ∷ ks) = tried (bytes k.sheet) k.replaced ∷ kept_all ks

abbrev kept_say : List Kept → List (List ℕ)
kept_say [] = []
kept_say (k ∷ ks) = bytes k.replaced.says ∷ kept_say ks

others_kept : List Kept
others_kept =
    kept "sheet=partial/text=Broker/text=Action/text=Tariff/text=quote/text=T1/text=low/text=high/text=b7/text=?/kind=0,e/kind=1,a/kind=2,e/type=bool/type=record/type=entity,0/shape=1,-/shape=1,-/shape=1,-/value=entity,0,7/value=bool,1/principal=0,?/action=1,3/resource=2,4/context=1,?/day=2026-06-15/node=2,var,p/node=2,lit,0/node=0,eq,0,1/node=0,lit,1/policy=5,permit,2/policy=6,permit,3/" (try 10 "text=a" "refused=12,10,0/")
    ∷ kept "sheet=partial/text=Broker/text=Action/text=Tariff/text=quote/text=T1/text=low/text=high/text=b7/kind=0,e/kind=1,a/kind=2,e/type=bool/type=record/type=entity,0/shape=1,-/shape=1,-/shape=1,-/value=entity,0,7/value=bool,1/value=record/principal=0,?/action=1,3/resource=2,4/context=1,?/day=2026-06-15/node=2,var,p/node=2,lit,0/node=0,eq,0,1/node=0,lit,1/policy=5,permit,2/policy=6,permit,3/" (try 25 "context=1,2" "decision=allow/counts=1,0,0,1,0,0,0,0/why=6/node=2,var,p/node=2,lit,0/node=0,eq,0,1/node=0,lit,1/policy=5,permit,open,2/policy=6,permit,true,3/")
    ∷ kept "sheet=partial/text=Person/text=Action/text=Firm/text=quote/text=T1/text=p0/text=p1/text=a/text=b/text=x/kind=0,e/kind=1,a/kind=2,e/type=bool/type=record/type=entity,0/type=entity,1/type=entity,2/type=long/type=string/type=set,2/type=record,7,r,0/shape=1,-,2/shape=1,-/shape=1,-,0/value=bool,0/value=bool,1/value=record/value=record,7,1/value=set/value=entity,0,7/value=entity,0,8/value=entity,2,4/value=entity,2,9/value=set,6/value=set,7/value=set,8/value=set,5/entity=5,?,?,10/entity=7,?,?,?/principal=0,?/action=1,3/resource=2,4/context=8,?/day=2026-06-15/" (try 41 "entity=7,?,?,9" "refused=7,40,0/")
    ∷ kept "sheet=partial/text=Broker/text=Action/text=Tariff/text=quote/text=T1/text=low/text=high/text=b7/kind=0,e/kind=1,a/kind=2,e/type=bool/type=record/type=entity,0/shape=1,-/shape=1,-/shape=1,-/value=entity,0,7/value=bool,1/principal=0,?/action=x/resource=2,4/context=1,?/day=2026-06-15/node=2,var,p/node=2,lit,0/node=0,eq,0,1/node=0,lit,1/policy=5,permit,2/policy=6,permit,3/" (try 21 "principal=0,7" "refused=3,22,0/")
    ∷ kept "sheet=complete/text=Broker/text=Action/text=Tariff/text=quote/text=T1/text=low/text=high/text=b7/kind=0,e/kind=1,a/kind=2,e/type=bool/type=record/type=entity,0/shape=1,-/shape=1,-/shape=1,-/value=entity,0,7/value=bool,1/principal=0,?/action=1,3/resource=2,4/context=1,?/day=2026-06-15/node=2,var,p/node=2,lit,0/node=0,eq,0,1/node=0,lit,1/policy=5,permit,2/policy=6,permit,3/" (try 21 "principal=0,7" "refused=3,1,0/")
    ∷ kept "sheet=partial/text=Broker/text=Action/text=Tariff/text=quote/text=T1/text=low/text=high/text=b7/kind=0,e/kind=1,a/kind=2,e/type=bool/type=record/type=entity,0/shape=1,-/shape=1,-/shape=1,-/value=entity,0,7/value=bool,1/principal=0,?/action=1,3/resource=2,4/context=1,?/day=x/node=2,var,p/node=2,lit,0/node=0,eq,0,1/node=0,lit,1/policy=5,permit,2/policy=6,permit,3/" (try 21 "principal=0,?" "refused=12,21,0/")
    ∷ kept "x/" (try 1 "principal=0,7" "refused=12,1,0/")
    ∷ kept "principal=0,?" (try 1 "principal=0,7" "refused=3,1,0/")
    ∷ kept "a/b/c/context=1,?" (try 4 "context=1,2" "refused=3,1,0/")
    ∷ kept "" (try 1 "principal=0,7" "refused=12,1,0/")
    ∷ kept "principal=0,?/" (try 2 "principal=0,7" "refused=12,2,0/")
    ∷ kept "principal=0,?/" (try 1 "principal=0,=" "refused=3,1,0/")
    ∷ kept "entity=?,1,2,3/" (try 1 "entity=5,1,2,3" "refused=3,1,0/")
    ∷ kept "action=1,?/" (try 1 "action=1,7" "refused=12,1,0/")
    ∷ []

others : kept_all others_kept ≡ kept_say others_kept
unfolding others_kept keys forms form_of slot_at counted tag_of row_of key_of refs ascendings fits_in nodes_under typed found depth fault more read types value_rows contents schema trees exprs on_term n_policies policies n_env env run results answer returned ancestors unknown_above order same place insert ascending make_set edited fills may_edit preview_returned
others = refl

-- the copy: a line that was not ended is not ended there, and an ended one is
not_ended : edited (bytes "a/context=1,?") 2 (bytes "context=1,2") ≡ bytes "a/context=1,2"
unfolding edited
not_ended = refl

ended : edited (bytes "a/context=1,?/b/") 2 (bytes "context=1,2") ≡ bytes "a/context=1,2/b/"
unfolding edited
ended = refl

-- ---- 1, then 2 for the kept sheet, then 12, then the run on the copy with its own 2 and 10

work_first : preview_returned 16383 16384 16384 (replicate 16385 120) 1 [] ≡ returns 1 0 0
unfolding keys forms form_of slot_at counted tag_of row_of key_of refs ascendings fits_in nodes_under typed found depth fault more read types value_rows contents schema trees exprs on_term n_policies policies n_env env run results answer returned ancestors unknown_above order same place insert ascending make_set edited fills may_edit preview_returned
work_first = refl

work_second : preview_returned 16384 16383 16384 (replicate 16385 120) 1 [] ≡ returns 1 0 0
unfolding keys forms form_of slot_at counted tag_of row_of key_of refs ascendings fits_in nodes_under typed found depth fault more read types value_rows contents schema trees exprs on_term n_policies policies n_env env run results answer returned ancestors unknown_above order same place insert ascending make_set edited fills may_edit preview_returned
work_second = refl

kept_too_long : preview_returned 16384 16384 16384 (replicate 16385 120) 1 (bytes "principal=0,?") ≡ returns 2 0 0
unfolding keys forms form_of slot_at counted tag_of row_of key_of refs ascendings fits_in nodes_under typed found depth fault more read types value_rows contents schema trees exprs on_term n_policies policies n_env env run results answer returned ancestors unknown_above order same place insert ascending make_set edited fills may_edit preview_returned
kept_too_long = refl

-- a kept sheet of 16,384 bytes whose first line may be filled
unfoldable longest : List ℕ
longest = bytes "principal=0,?/" ++ replicate 16370 120

copy_just_fits : preview_returned 16384 16384 16384 longest 1 (bytes "principal=0,7") ≡ returns 3 1 0
unfolding longest keys forms form_of slot_at counted tag_of row_of key_of refs ascendings fits_in nodes_under typed found depth fault more read types value_rows contents schema trees exprs on_term n_policies policies n_env env run results answer returned ancestors unknown_above order same place insert ascending make_set edited fills may_edit preview_returned
copy_just_fits = refl

copy_too_long : preview_returned 16384 16384 16384 longest 1 (bytes "principal=0,77") ≡ returns 2 0 0
unfolding longest keys forms form_of slot_at counted tag_of row_of key_of refs ascendings fits_in nodes_under typed found depth fault more read types value_rows contents schema trees exprs on_term n_policies policies n_env env run results answer returned ancestors unknown_above order same place insert ascending make_set edited fills may_edit preview_returned
copy_too_long = refl

twelve_before_copy : preview_returned 16384 16384 16384 longest 1 (bytes "principal=1,77") ≡ returns 12 1 0
unfolding longest keys forms form_of slot_at counted tag_of row_of key_of refs ascendings fits_in nodes_under typed found depth fault more read types value_rows contents schema trees exprs on_term n_policies policies n_env env run results answer returned ancestors unknown_above order same place insert ascending make_set edited fills may_edit preview_returned
twelve_before_copy = refl

fits : preview_returned 16384 16384 116 form 21 (bytes "principal=0,7") ≡ returns 0 0 116
unfolding form keys forms form_of slot_at counted tag_of row_of key_of refs ascendings fits_in nodes_under typed found depth fault more read types value_rows contents schema trees exprs on_term n_policies policies n_env env run results answer returned ancestors unknown_above order same place insert ascending make_set edited fills may_edit preview_returned
fits = refl

one_byte_less : preview_returned 16384 16384 115 form 21 (bytes "principal=0,7") ≡ returns 10 0 116
unfolding form keys forms form_of slot_at counted tag_of row_of key_of refs ascendings fits_in nodes_under typed found depth fault more read types value_rows contents schema trees exprs on_term n_policies policies n_env env run results answer returned ancestors unknown_above order same place insert ascending make_set edited fills may_edit preview_returned
one_byte_less = refl

twelve_before_ten : preview_returned 16384 16384 0 form 21 (bytes "principal=0,?") ≡ returns 12 21 0
unfolding form keys forms form_of slot_at counted tag_of row_of key_of refs ascendings fits_in nodes_under typed found depth fault more read types value_rows contents schema trees exprs on_term n_policies policies n_env env run results answer returned ancestors unknown_above order same place insert ascending make_set edited fills may_edit preview_returned
twelve_before_ten = refl
