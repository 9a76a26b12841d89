-- The line that number 11 names, by computation, on the sheets of FinishExample (crate `finished`) with some lines changed: what changes on the partial sheet,
-- what on the complete one, and the line.
use mathlib.Core.Path.{◌≡◌, refl}
use mathlib.Core.List.{List, [], ◌∷◌}
use Prim.Native.Nat.{ℕ}
use Rattle.sheet.specs.Forms.{keys, forms, form_of, slot_at, counted, tag_of, row_of, key_of, refs, ascendings}
use Rattle.sheet.specs.Parents.{ancestors, unknown_above}
use Rattle.sheet.specs.Typing.{fits_in, nodes_under, typed}
use Rattle.sheet.specs.Sheet.{found, depth, fault, more, read}
use Rattle.sheet.specs.Content.{types, value_rows, contents, schema, trees, exprs, on_term, n_policies, policies, n_env, env}
use Rattle.sheet.specs.Answer.{run, results, answer}
use Rattle.sheet.specs.Call.{Returned, returns, returned}
use Rattle.cedar.specs.Canonical.{order, same, place, insert, ascending, make_set}
use Rattle.sheet.specs.Agreement.{agrees}
use Rattle.finished.specs.Finish.{finished_results, finished_answer, finish_returned, breaking_line}
use Rattle.finished.proofs.FinishExample.{asked, told, Change, changed, put, add, leave, sheet}

record Pair : Type 0 where
  partly : List Change
  fully : List Change
  line : ℕ

abbrev pair : List Change → List Change → ℕ → Pair
pair a b l = record { partly = a; fully = b; line = l }

abbrev lines : List Pair → List Returned
lines [] = []
lines (x ∷ xs) = finish_returned 16384 16384 0 (sheet (changed x.partly asked)) (sheet (changed x.fully told)) ∷ lines xs

abbrev named : List Pair → List Returned
named [] = []
named (x ∷ xs) = returns 11 x.line 0 ∷ named xs

-- a line differs from the partial line of its key and place
differing : List Pair
differing =
    pair [] (put 6 "text=T2" ∷ []) 6
    ∷ pair [] (put 16 "kind=6,e" ∷ []) 16
    ∷ pair [] (put 23 "type=record,9,r,5" ∷ []) 23
    ∷ pair [] (put 26 "shape=1,-,2" ∷ []) 26
    ∷ pair [] (put 30 "value=long,9" ∷ []) 30
    ∷ pair [] (put 41 "action=1,4" ∷ []) 41
    ∷ pair [] (put 44 "day=2024-02-28" ∷ []) 44
    ∷ pair [] (put 51 "node=5,lit,2" ∷ []) 51
    ∷ pair [] (put 54 "policy=5,forbid,2" ∷ []) 54
    ∷ pair [] (put 58 "link=1,0,-" ∷ []) 58
    ∷ pair [] (put 60 "term=1,2024-02-29,2199-12-31" ∷ []) 60
    ∷ []

differing_lines : lines differing ≡ named differing
unfolding differing keys forms form_of slot_at counted tag_of row_of key_of refs ascendings fits_in nodes_under typed found depth fault more read types value_rows contents schema trees exprs on_term n_policies policies n_env env run results answer returned ancestors unknown_above order same place insert ascending make_set finished_results finished_answer finish_returned agrees breaking_line
differing_lines = refl

-- a known part of the request or of an entity differs: kind, text, type or value, attributes, tags, parents
parts : List Pair
parts =
    pair [] (put 40 "principal=2,7" ∷ put 45 "node=2,lit,0" ∷ []) 40
    ∷ pair (put 35 "principal=0,8" ∷ []) [] 40
    ∷ pair [] (put 42 "resource=2,7" ∷ []) 42
    ∷ pair [] (put 43 "context=1,4" ∷ put 48 "node=6,lit,8" ∷ []) 43
    ∷ pair (put 38 "context=6,4" ∷ []) [] 43
    ∷ pair (put 33 "entity=0,4,4,6" ∷ []) [] 37
    ∷ pair [] (put 37 "entity=0,8,8,6" ∷ []) 37
    ∷ pair [] (put 37 "entity=0,8,4,5" ∷ []) 37
    ∷ []

parts_lines : lines parts ≡ named parts
unfolding parts keys forms form_of slot_at counted tag_of row_of key_of refs ascendings fits_in nodes_under typed found depth fault more read types value_rows contents schema trees exprs on_term n_policies policies n_env env run results answer returned ancestors unknown_above order same place insert ascending make_set finished_results finished_answer finish_returned agrees breaking_line
parts_lines = refl

-- a line is added to a key that must be the same
adding : List Pair
adding =
    pair [] (add 17 ("kind=6,e" ∷ []) ∷ add 28 ("shape=1,-" ∷ []) ∷ []) 17
    ∷ pair [] (add 24 ("type=set,5" ∷ []) ∷ []) 24
    ∷ pair [] (add 54 ("node=2,var,p" ∷ "node=0,is,9,0" ∷ []) ∷ add 59 ("policy=8,permit,10" ∷ []) ∷ []) 54
    ∷ pair [] (add 57 ("policy=8,permit,8" ∷ []) ∷ []) 57
    ∷ pair [] (add 59 ("link=2,-,-" ∷ []) ∷ []) 59
    ∷ pair [] (add 61 ("term=2,2024-02-29,2024-02-29" ∷ []) ∷ []) 61
    ∷ []

adding_lines : lines adding ≡ named adding
unfolding adding keys forms form_of slot_at counted tag_of row_of key_of refs ascendings fits_in nodes_under typed found depth fault more read types value_rows contents schema trees exprs on_term n_policies policies n_env env run results answer returned ancestors unknown_above order same place insert ascending make_set finished_results finished_answer finish_returned agrees breaking_line
adding_lines = refl

-- none breaks and one is lacking: the line after the last
lacking : List Pair
lacking =
    pair (add 13 ("text=T9" ∷ "text=T10" ∷ []) ∷ []) [] 61
    ∷ pair (add 16 ("kind=6,e" ∷ []) ∷ add 27 ("shape=1,-" ∷ []) ∷ []) [] 61
    ∷ pair (add 23 ("type=set,5" ∷ []) ∷ []) [] 61
    ∷ pair (add 13 ("text=T9" ∷ []) ∷ add 34 ("value=long,-7" ∷ "value=record,9,7" ∷ "value=entity,0,11" ∷ "value=long,9" ∷ []) ∷ []) [] 61
    ∷ pair [] (leave 38 ∷ []) 60
    ∷ pair (put 34 "entity=1,?,?,?" ∷ []) (leave 38 ∷ []) 60
    ∷ pair (add 49 ("node=2,var,p" ∷ "node=0,is,9,0" ∷ []) ∷ add 54 ("policy=8,permit,10" ∷ []) ∷ []) [] 61
    ∷ pair (add 54 ("link=2,-,-" ∷ []) ∷ []) [] 61
    ∷ pair (add 56 ("term=2,2024-02-29,2024-02-29" ∷ []) ∷ []) [] 61
    ∷ []

lacking_lines : lines lacking ≡ named lacking
unfolding lacking keys forms form_of slot_at counted tag_of row_of key_of refs ascendings fits_in nodes_under typed found depth fault more read types value_rows contents schema trees exprs on_term n_policies policies n_env env run results answer returned ancestors unknown_above order same place insert ascending make_set finished_results finished_answer finish_returned agrees breaking_line
lacking_lines = refl

-- of several the first: within a key, across keys, before one that is lacking
several : List Pair
several =
    pair [] (put 50 "node=5,lit,3" ∷ put 51 "node=5,lit,2" ∷ []) 50
    ∷ pair [] (put 60 "term=1,2024-02-29,2199-12-31" ∷ put 6 "text=T2" ∷ []) 6
    ∷ pair [] (put 44 "day=2024-02-28" ∷ put 37 "entity=0,8,4,5" ∷ []) 37
    ∷ pair [] (put 44 "day=2024-02-28" ∷ leave 38 ∷ []) 43
    ∷ pair (add 13 ("text=T9" ∷ "text=T10" ∷ []) ∷ []) (put 44 "day=2024-02-28" ∷ []) 44
    ∷ []

several_lines : lines several ≡ named several
unfolding several keys forms form_of slot_at counted tag_of row_of key_of refs ascendings fits_in nodes_under typed found depth fault more read types value_rows contents schema trees exprs on_term n_policies policies n_env env run results answer returned ancestors unknown_above order same place insert ascending make_set finished_results finished_answer finish_returned agrees breaking_line
several_lines = refl
