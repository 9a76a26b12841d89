-- The known sheets of document 01 and some others, from bytes to bytes, as theorems by computation. As there, `/` is a line end.
use mathlib.Core.Path.{◌≡◌, refl}
use mathlib.Core.Bool.{Bool, true, ◌&&◌}
use mathlib.Core.List.{List, [], ◌∷◌, ◌++◌}
use Prim.Native.Nat.{ℕ, zero, suc, ◌+◌, ◌*◌}
use Rattle.sheet.specs.Forms.{keys, partial, forms, form_of, slot_at, counted, tag_of, row_of, key_of, refs, ascendings}
use Rattle.sheet.specs.Typing.{fits_in, nodes_under, typed}
use Rattle.sheet.specs.Parents.{ancestors, unknown_above}
use Rattle.sheet.specs.Sheet.{found, depth, fault, more, read}
use Rattle.sheet.specs.Content.{types, value_rows, contents, schema, trees, exprs, on_term, n_policies, policies, n_env, env}
use Rattle.sheet.specs.Answer.{run, results, answer}
use Rattle.sheet.specs.Call.{returned}
use Rattle.cedar.specs.Canonical.{order, same, place, insert, ascending, make_set}
use Rattle.sheet.specs.Bytes.{days_in, is_date}
use Rattle.sheet.specs.State.{sum}
use Rattle.sheet.proofs.answer.Shown.{bytes, shown, Case, case, shown_all, says_all}
use Rattle.sheet.proofs.reading.KnownLines.{head, kind_lines}

-- "Input, whole", and "Output"
known_sheet : shown (bytes "sheet=partial/text=Broker/text=Action/text=Tariff/text=quote/text=T1/text=low/text=high/text=b7/kind=0,e/kind=1,a/kind=2,e/type=bool/type=record/type=entity,0/shape=1,-/shape=1,-/shape=1,-/value=entity,0,7/value=bool,1/principal=0,?/action=1,3/resource=2,4/context=1,?/day=2000-01-01/node=2,var,p/node=2,lit,0/node=0,eq,0,1/node=0,lit,1/policy=5,permit,2/policy=6,permit,3/")
    ≡ bytes "decision=allow/counts=1,0,0,1,0,0,0,0/why=6/node=2,var,p/node=2,lit,0/node=0,eq,0,1/node=0,lit,1/policy=5,permit,open,2/policy=6,permit,true,3/"
unfolding shown keys forms form_of slot_at counted tag_of row_of key_of refs ascendings fits_in nodes_under typed found depth fault more read types value_rows contents schema trees exprs on_term n_policies policies n_env env run results answer returned ancestors unknown_above order same place insert ascending make_set
known_sheet = refl

-- ---- K1 to K10, over one head: texts, kinds, types and shapes

known : List Case
known =
    case "value=bool,0/value=entity,0,9/principal=0,?/action=1,3/resource=2,4/context=6,?/day=2000-01-01/node=2,var,p/node=2,lit,1/node=0,eq,0,1/node=0,lit,0/node=0,and,2,3/policy=5,permit,4/" "decision=deny/counts=0,1,0,0,0,0,0,0/why=none/node=0,lit,0/policy=5,permit,false,0/"  -- K1 open and false, left cannot err: false
    ∷ case "value=bool,0/principal=0,?/action=1,3/resource=2,4/context=6,?/day=2000-01-01/node=6,var,c/node=0,get,0,7/node=0,lit,0/node=0,and,1,2/policy=5,permit,3/" "decision=open/counts=0,0,0,1,0,0,0,0/why=none/node=6,var,c/node=0,get,0,7/node=0,lit,0/node=0,and,1,2/policy=5,permit,open,3/"  -- K2 the same with a left `get` on an unknown context: stays `and`
    ∷ case "value=long,-9223372036854775808/principal=0,?/action=1,3/resource=2,4/context=6,?/day=2000-01-01/node=3,lit,0/node=3,neg,0/node=3,lit,0/node=0,eq,1,2/policy=5,permit,3/" "decision=deny/counts=0,0,1,0,0,0,0,0/why=none/node=0,err/policy=5,permit,error,0/"  -- K3 neg of -9223372036854775808: err
    ∷ case "value=long,9223372036854775807/value=long,1/principal=0,?/action=1,3/resource=2,4/context=6,?/day=2000-01-01/node=3,lit,0/node=3,lit,1/node=3,add,0,1/node=3,lit,1/node=0,lt,2,3/policy=5,forbid,4/" "decision=deny/counts=0,0,0,0,0,0,1,0/why=none/node=0,err/policy=5,forbid,error,0/"  -- K4 9223372036854775807 + 1: err
    ∷ case "value=entity,0,9/value=set/entity=0,?,?,?/principal=0,?/action=1,3/resource=2,4/context=6,?/day=2000-01-01/node=2,lit,0/node=5,lit,1/node=0,in,0,1/policy=5,permit,2/" "decision=deny/counts=0,1,0,0,0,0,0,0/why=none/value=bool,0/node=0,lit,2/policy=5,permit,false,0/"  -- K5 entity in an empty set, ancestors unknown: false
    ∷ case "value=entity,0,9/entity=0,?,?,?/principal=0,?/action=1,3/resource=2,4/context=6,?/day=2000-01-01/node=2,lit,0/node=2,lit,0/node=0,in,0,1/policy=5,permit,2/" "decision=allow/counts=1,0,0,0,0,0,0,0/why=5/value=bool,1/node=0,lit,1/policy=5,permit,true,0/"  -- K6 entity in itself, ancestors unknown: true
    ∷ case "principal=0,?/action=1,3/resource=2,4/context=6,?/day=2000-01-01/" "decision=deny/counts=0,0,0,0,0,0,0,0/why=none/"  -- K7 no policies: deny
    ∷ case "value=bool,1/principal=0,?/action=1,3/resource=2,4/context=6,?/day=2000-01-01/node=6,var,c/node=0,get,0,7/node=0,lit,0/policy=5,permit,2/policy=6,forbid,1/" "decision=open/counts=1,0,0,0,0,0,0,1/why=none/node=0,lit,0/node=6,var,c/node=0,get,1,7/policy=5,permit,true,0/policy=6,forbid,open,2/"  -- K8 true permit, open forbid: open
    ∷ case "principal=0,?/action=1,3/resource=2,4/context=6,?/day=2000-01-01/node=6,var,c/node=0,get,0,7/policy=5,forbid,1/" "decision=deny/counts=0,0,0,0,0,0,0,1/why=none/node=6,var,c/node=0,get,0,7/policy=5,forbid,open,1/"  -- K9 open forbid only: deny
    ∷ case "value=text,8/value=text,7/principal=0,?/action=1,3/resource=2,4/context=6,?/day=2000-01-01/node=4,lit,0/node=0,like,0/node=4,lit,1/node=0,like,2/policy=5,permit,1/policy=6,permit,3/" "decision=allow/counts=1,1,0,0,0,0,0,0/why=5/value=bool,1/value=bool,0/node=0,lit,2/node=0,lit,3/policy=5,permit,true,0/policy=6,permit,false,1/"  -- K10 `like` without items: true on the empty text, false on `a`
    ∷ []

K1_to_K10 : shown_all head known ≡ says_all known
unfolding head known shown keys forms form_of slot_at counted tag_of row_of key_of refs ascendings fits_in nodes_under typed found depth fault more read types value_rows contents schema trees exprs on_term n_policies policies n_env env run results answer returned ancestors unknown_above order same place insert ascending make_set
K1_to_K10 = refl

-- ---- other sheets, over the same head: "What students would write", and refusals

others : List Case
others =
    case "value=entity,2,9/principal=0,?/action=1,3/resource=2,4/context=6,?/day=2000-01-01/node=8,lit,0/node=0,has,0,7/policy=5,permit,1/" "decision=open/counts=0,0,0,1,0,0,0,0/why=none/node=8,lit,0/node=0,has,0,7/policy=5,permit,open,1/"  -- "Unlisted entity on a partial sheet .. is unknown"
    ∷ case "principal=0,?/action=1,3/resource=2,4/context=6,?/day=2000-01-01/node=7,var,a/node=0,has,0,7/policy=5,permit,1/" "decision=open/counts=0,0,0,1,0,0,0,0/why=none/value=entity,1,3/node=7,lit,0/node=0,has,0,7/policy=5,permit,open,1/"  -- "Type rule for `has` .. on an action kind: not applied"
    ∷ case "value=text,7/principal=0,?/action=1,3/resource=2,4/context=6,?/day=2000-01-01/node=7,var,a/node=4,lit,0/node=0,hastag,0,1/policy=5,permit,2/" "decision=open/counts=0,0,0,1,0,0,0,0/why=none/value=entity,1,3/node=7,lit,1/node=4,lit,0/node=0,hastag,0,1/policy=5,permit,open,2/"  -- "or `hastag`"
    ∷ case "principal=0,?/principal=9,?/" "refused=4,29,0/"  -- one line too many, with an absent reference: 4 before 5
    ∷ case "principal=0,?/action=1,3/context=6,?/" "refused=3,30,0/"  -- a line missing in the middle
    ∷ case "principal=0,?/action=1,3/resource=2,4/" "refused=3,31,0/"  -- "a line missing at the end has the number after the last"
    ∷ case "value=bool,0/value=bool,0/" "refused=5,29,0/"  -- a repeat
    ∷ case "value=set,0/" "refused=5,28,0/"  -- a reference to itself
    ∷ []

other_sheets : shown_all head others ≡ says_all others
unfolding head others shown keys forms form_of slot_at counted tag_of row_of key_of refs ascendings fits_in nodes_under typed found depth fault more read types value_rows contents schema trees exprs on_term n_policies policies n_env env run results answer returned ancestors unknown_above order same place insert ascending make_set
other_sheets = refl

-- ---- document 02, "Which rule gave it" and "Always the same rule", over the same head

names : List Case
names =
    -- a deny names its true forbid: not the true permit, not the false forbid, not the one that is off term
    case "value=entity,0,7/value=entity,0,9/principal=0,9/action=1,3/resource=2,4/context=6,?/day=2000-01-01/node=2,var,p/node=2,slot,p/node=0,eq,0,1/policy=8,forbid,2/policy=5,permit,2/policy=6,forbid,2/policy=7,forbid,2/link=0,1,-/link=1,1,-/link=2,0,-/link=3,1,-/term=0,1900-01-01,1999-12-31/" "decision=deny/counts=1,0,0,0,1,1,0,0/why=7/value=bool,1/value=bool,0/node=0,lit,2/node=0,lit,3/node=0,lit,2/policy=5,permit,true,0/policy=6,forbid,false,1/policy=7,forbid,true,2/"
    -- the first true permit of four linked ones: the first is off term, the second false
    ∷ case "value=entity,0,7/value=entity,0,9/principal=0,9/action=1,3/resource=2,4/context=6,?/day=2000-01-01/node=2,var,p/node=2,slot,p/node=0,eq,0,1/policy=5,permit,2/policy=6,permit,2/policy=7,permit,2/policy=8,permit,2/link=0,1,-/link=1,0,-/link=2,1,-/link=3,1,-/term=0,1900-01-01,1999-12-31/" "decision=allow/counts=2,1,0,0,0,0,0,0/why=7/value=bool,0/value=bool,1/node=0,lit,2/node=0,lit,3/node=0,lit,3/policy=6,permit,false,0/policy=7,permit,true,1/policy=8,permit,true,2/"
    -- the first true forbid in the sheet's order, not the one of the lowest id, and not the one that is off term
    ∷ case "value=entity,0,7/value=entity,0,9/principal=0,9/action=1,3/resource=2,4/context=6,?/day=2000-01-01/node=2,var,p/node=2,slot,p/node=0,eq,0,1/policy=8,forbid,2/policy=5,permit,2/policy=7,forbid,2/policy=6,forbid,2/link=0,1,-/link=1,1,-/link=2,1,-/link=3,1,-/term=0,1900-01-01,1999-12-31/" "decision=deny/counts=1,0,0,0,2,0,0,0/why=7/value=bool,1/node=0,lit,2/node=0,lit,2/node=0,lit,2/policy=5,permit,true,0/policy=7,forbid,true,1/policy=6,forbid,true,2/"
    -- "A partial sheet doesn't settle the name: an open policy of its effect before it may still turn true"
    ∷ case "value=bool,1/principal=0,?/action=1,3/resource=2,4/context=6,?/day=2000-01-01/node=6,var,c/node=0,get,0,7/node=0,lit,0/policy=5,permit,1/policy=6,permit,2/" "decision=allow/counts=1,0,0,1,0,0,0,0/why=6/node=6,var,c/node=0,get,0,7/node=0,lit,0/policy=5,permit,open,1/policy=6,permit,true,2/"
    ∷ []

name_sheets : shown_all head names ≡ says_all names
unfolding head names shown keys forms form_of slot_at counted tag_of row_of key_of refs ascendings fits_in nodes_under typed found depth fault more read types value_rows contents schema trees exprs on_term n_policies policies n_env env run results answer returned ancestors unknown_above order same place insert ascending make_set
name_sheets = refl

-- "Node uses summed over all policies may reach 1,024; the policy line that exceeds this gets 4": 64 policies over one root of 16 nodes, and of 17
room_for_law : List ℕ
room_for_law = bytes "sheet=partial/text=Aa/text=Ab/text=Ac/text=Ad/text=Ae/text=Af/text=Ag/text=Ah/text=Ai/text=Aj/text=Ak/text=Al/text=Am/text=An/text=Ao/text=Ap/text=Aq/text=Ar/text=As/text=At/text=Au/text=Av/text=Aw/text=Ax/text=Ay/text=Az/text=Ba/text=Bb/text=Bc/text=Bd/text=Be/text=Bf/text=Bg/text=Bh/text=Bi/text=Bj/text=Bk/text=Bl/text=Bm/text=Bn/text=Bo/text=Bp/text=Bq/text=Br/text=Bs/text=Bt/text=Bu/text=Bv/text=Bw/text=Bx/text=By/text=Bz/text=Ca/text=Cb/text=Cc/text=Cd/text=Ce/text=Cf/text=Cg/text=Ch/text=Ci/text=Cj/text=Ck/text=Cl/kind=0,e/kind=1,a/kind=2,e/type=bool/type=record/shape=1,-/shape=1,-/shape=1,-/value=bool,1/principal=0,?/action=1,0/resource=2,0/context=1,?/day=2000-01-01/"

full : (read partial (room_for_law ++ bytes "node=0,lit,0/node=0,not,0/node=0,not,1/node=0,not,2/node=0,not,3/node=0,not,4/node=0,not,5/node=0,not,6/node=0,not,7/node=0,not,8/node=0,not,9/node=0,not,10/node=0,not,11/node=0,not,12/node=0,not,13/node=0,not,14/policy=0,permit,15/policy=1,permit,15/policy=2,permit,15/policy=3,permit,15/policy=4,permit,15/policy=5,permit,15/policy=6,permit,15/policy=7,permit,15/policy=8,permit,15/policy=9,permit,15/policy=10,permit,15/policy=11,permit,15/policy=12,permit,15/policy=13,permit,15/policy=14,permit,15/policy=15,permit,15/policy=16,permit,15/policy=17,permit,15/policy=18,permit,15/policy=19,permit,15/policy=20,permit,15/policy=21,permit,15/policy=22,permit,15/policy=23,permit,15/policy=24,permit,15/policy=25,permit,15/policy=26,permit,15/policy=27,permit,15/policy=28,permit,15/policy=29,permit,15/policy=30,permit,15/policy=31,permit,15/policy=32,permit,15/policy=33,permit,15/policy=34,permit,15/policy=35,permit,15/policy=36,permit,15/policy=37,permit,15/policy=38,permit,15/policy=39,permit,15/policy=40,permit,15/policy=41,permit,15/policy=42,permit,15/policy=43,permit,15/policy=44,permit,15/policy=45,permit,15/policy=46,permit,15/policy=47,permit,15/policy=48,permit,15/policy=49,permit,15/policy=50,permit,15/policy=51,permit,15/policy=52,permit,15/policy=53,permit,15/policy=54,permit,15/policy=55,permit,15/policy=56,permit,15/policy=57,permit,15/policy=58,permit,15/policy=59,permit,15/policy=60,permit,15/policy=61,permit,15/policy=62,permit,15/policy=63,permit,15/")).number ≡ 0
unfolding room_for_law shown keys forms form_of slot_at counted tag_of row_of key_of refs ascendings fits_in nodes_under typed found depth fault more read types value_rows contents schema trees exprs on_term n_policies policies n_env env run results answer returned ancestors unknown_above order same place insert ascending make_set
full = refl

over : returned partial 16384 16384 16384 (room_for_law ++ bytes "node=0,lit,0/node=0,not,0/node=0,not,1/node=0,not,2/node=0,not,3/node=0,not,4/node=0,not,5/node=0,not,6/node=0,not,7/node=0,not,8/node=0,not,9/node=0,not,10/node=0,not,11/node=0,not,12/node=0,not,13/node=0,not,14/node=0,not,15/policy=0,permit,16/policy=1,permit,16/policy=2,permit,16/policy=3,permit,16/policy=4,permit,16/policy=5,permit,16/policy=6,permit,16/policy=7,permit,16/policy=8,permit,16/policy=9,permit,16/policy=10,permit,16/policy=11,permit,16/policy=12,permit,16/policy=13,permit,16/policy=14,permit,16/policy=15,permit,16/policy=16,permit,16/policy=17,permit,16/policy=18,permit,16/policy=19,permit,16/policy=20,permit,16/policy=21,permit,16/policy=22,permit,16/policy=23,permit,16/policy=24,permit,16/policy=25,permit,16/policy=26,permit,16/policy=27,permit,16/policy=28,permit,16/policy=29,permit,16/policy=30,permit,16/policy=31,permit,16/policy=32,permit,16/policy=33,permit,16/policy=34,permit,16/policy=35,permit,16/policy=36,permit,16/policy=37,permit,16/policy=38,permit,16/policy=39,permit,16/policy=40,permit,16/policy=41,permit,16/policy=42,permit,16/policy=43,permit,16/policy=44,permit,16/policy=45,permit,16/policy=46,permit,16/policy=47,permit,16/policy=48,permit,16/policy=49,permit,16/policy=50,permit,16/policy=51,permit,16/policy=52,permit,16/policy=53,permit,16/policy=54,permit,16/policy=55,permit,16/policy=56,permit,16/policy=57,permit,16/policy=58,permit,16/policy=59,permit,16/policy=60,permit,16/policy=61,permit,16/policy=62,permit,16/policy=63,permit,16/") ≡ record { number = 4; line = 157; length = 0 }
unfolding room_for_law shown keys forms form_of slot_at counted tag_of row_of key_of refs ascendings fits_in nodes_under typed found depth fault more read types value_rows contents schema trees exprs on_term n_policies policies n_env env run results answer returned ancestors unknown_above order same place insert ascending make_set
over = refl

-- the days of the years from y on, n of them; the range has 300 years, 73 of them leap years
abbrev days_from : ℕ → ℕ → ℕ
days_from y zero = 0
days_from y (suc n) = sum (days_in y 1 ∷ days_in y 2 ∷ days_in y 3 ∷ days_in y 4 ∷ days_in y 5 ∷ days_in y 6 ∷ days_in y 7 ∷ days_in y 8 ∷ days_in y 9 ∷ days_in y 10 ∷ days_in y 11 ∷ days_in y 12 ∷ []) + days_from (suc y) n

days_in_range : days_from 1900 300 ≡ 109573
days_in_range = refl

-- each of them is a date: the days of a month from the first to the last, the months of a year, the years
abbrev all_days : ℕ → ℕ → Bool
all_days n zero = true
all_days n (suc d) = is_date (n + suc d) && all_days n d

abbrev all_months : ℕ → ℕ → Bool
all_months y zero = true
all_months y (suc m) = all_days (y * 10000 + suc m * 100) (days_in y (suc m)) && all_months y m

abbrev all_years : ℕ → ℕ → Bool
all_years y zero = true
all_years y (suc n) = all_months y 12 && all_years (suc y) n

all_dates : all_years 1900 300 ≡ true
all_dates = refl

-- 32 kinds are taken, and a 33rd is one too many
kinds : List ℕ
kinds = bytes "sheet=partial/text=0/text=1/text=2/text=3/text=4/text=5/text=6/text=7/text=8/text=9/text=:/text=;/text=</text==/text=>/text=?/text=@/text=A/text=B/text=C/text=D/text=E/text=F/text=G/text=H/text=I/text=J/text=K/text=L/text=M/text=N/text=O/kind=0,e/kind=1,a/kind=2,e/kind=3,e/kind=4,e/kind=5,e/kind=6,e/kind=7,e/kind=8,e/kind=9,e/kind=10,e/kind=11,e/kind=12,e/kind=13,e/kind=14,e/kind=15,e/kind=16,e/kind=17,e/kind=18,e/kind=19,e/kind=20,e/kind=21,e/kind=22,e/kind=23,e/kind=24,e/kind=25,e/kind=26,e/kind=27,e/kind=28,e/kind=29,e/kind=30,e/kind=31,e/"

limits : List Case
limits =
    case "type=record/shape=0,-/shape=0,-/shape=0,-/shape=0,-/shape=0,-/shape=0,-/shape=0,-/shape=0,-/shape=0,-/shape=0,-/shape=0,-/shape=0,-/shape=0,-/shape=0,-/shape=0,-/shape=0,-/shape=0,-/shape=0,-/shape=0,-/shape=0,-/shape=0,-/shape=0,-/shape=0,-/shape=0,-/shape=0,-/shape=0,-/shape=0,-/shape=0,-/shape=0,-/shape=0,-/shape=0,-/shape=0,-/principal=0,?/action=1,0/resource=0,0/context=0,?/day=2000-01-01/" "decision=deny/counts=0,0,0,0,0,0,0,0/why=none/"
    ∷ case "kind=0,e/" "refused=4,66,0/"
    ∷ []

kind_limit : shown_all kinds limits ≡ says_all limits
unfolding kinds limits shown keys forms form_of slot_at counted tag_of row_of key_of refs ascendings fits_in nodes_under typed found depth fault more read types value_rows contents schema trees exprs on_term n_policies policies n_env env run results answer returned ancestors unknown_above order same place insert ascending make_set
kind_limit = refl

groups : List ℕ
groups = kind_lines ++ bytes "type=bool/type=long/type=string/type=record/type=entity,0/type=entity,2/type=entity,3/type=entity,1/type=entity,0,2/type=entity,0,3/type=set,8/type=entity,2,3/type=record,8,r,2,9,o,8/type=record,8,r,2,9,o,5,10,o,1/type=record,9,o,8/type=entity,0,1/shape=12,2,2/shape=3,-/shape=13,-/shape=3,-/"

group_cases : List Case
group_cases =
    case "value=entity,0,11/value=entity,2,11/principal=0,?/action=1,4/resource=3,5/context=14,?/day=2000-01-01/node=4,var,p/node=4,lit,0/node=0,eq,0,1/node=8,lit,0/node=8,lit,1/node=8,if,2,3,4/node=0,is,5,3/policy=6,permit,6/" "decision=deny/counts=0,1,0,0,0,0,0,0/why=none/value=bool,0/node=0,lit,2/policy=6,permit,false,0/"  -- is: the kind is absent
    ∷ case "value=entity,0,11/value=entity,2,11/principal=0,?/action=1,4/resource=3,5/context=14,?/day=2000-01-01/node=4,var,p/node=4,lit,0/node=0,eq,0,1/node=8,lit,0/node=8,lit,1/node=8,if,2,3,4/node=0,is,5,0/policy=6,permit,6/" "decision=open/counts=0,0,0,1,0,0,0,0/why=none/node=4,var,p/node=4,lit,0/node=0,eq,0,1/node=8,lit,0/node=8,lit,1/node=8,if,2,3,4/node=0,is,5,0/policy=6,permit,open,6/"  -- is: present, not the sole one
    ∷ case "value=entity,0,11/value=entity,2,11/principal=0,?/action=1,4/resource=3,5/context=14,?/day=2000-01-01/node=4,var,p/node=0,is,0,0/policy=6,permit,1/" "decision=allow/counts=1,0,0,0,0,0,0,0/why=6/value=bool,1/node=0,lit,2/policy=6,permit,true,0/"  -- is: the sole one
    ∷ case "value=entity,0,11/value=entity,2,11/principal=0,?/action=1,4/resource=3,5/context=14,?/day=2000-01-01/node=8,lit,0/node=0,is,0,0/policy=6,permit,1/" "decision=allow/counts=1,0,0,0,0,0,0,0/why=6/value=bool,1/node=0,lit,2/policy=6,permit,true,0/"  -- is: concrete in a group
    ∷ case "value=entity,0,11/value=entity,2,11/value=bool,0/principal=0,?/action=1,4/resource=3,5/context=14,?/day=2000-01-01/node=4,var,p/node=4,lit,0/node=0,eq,0,1/node=8,lit,0/node=8,lit,1/node=8,if,2,3,4/node=0,is,5,0/node=0,lit,2/node=0,and,6,7/policy=6,permit,8/" "decision=deny/counts=0,1,0,0,0,0,0,0/why=none/node=0,lit,2/policy=6,permit,false,0/"  -- is: left open it cannot err, so false beside it settles the and
    ∷ case "value=entity,0,11/value=entity,2,11/value=bool,1/principal=0,?/action=1,4/resource=3,5/context=14,?/day=2000-01-01/node=4,var,p/node=4,lit,0/node=0,eq,0,1/node=8,lit,0/node=8,lit,1/node=8,if,2,3,4/node=0,is,5,0/node=0,lit,2/node=0,or,6,7/policy=6,permit,8/" "decision=allow/counts=1,0,0,0,0,0,0,0/why=6/node=0,lit,2/policy=6,permit,true,0/"  -- and true the or
    ∷ case "value=entity,0,11/value=entity,2,11/value=entity,3,11/principal=0,?/action=1,4/resource=3,5/context=14,?/day=2000-01-01/node=4,var,p/node=4,lit,0/node=0,eq,0,1/node=8,lit,0/node=8,lit,1/node=8,if,2,3,4/node=6,lit,2/node=0,eq,5,6/policy=6,permit,7/" "decision=deny/counts=0,1,0,0,0,0,0,0/why=none/value=bool,0/node=0,lit,3/policy=6,permit,false,0/"  -- eq: no common kind
    ∷ case "value=entity,0,11/value=entity,2,11/principal=0,?/action=1,4/resource=3,5/context=14,?/day=2000-01-01/node=4,var,p/node=4,lit,0/node=0,eq,0,1/node=8,lit,0/node=8,lit,1/node=8,if,2,3,4/node=9,lit,0/node=0,eq,5,6/policy=6,permit,7/" "decision=open/counts=0,0,0,1,0,0,0,0/why=none/node=4,var,p/node=4,lit,0/node=0,eq,0,1/node=8,lit,0/node=8,lit,1/node=8,if,2,3,4/node=9,lit,0/node=0,eq,5,6/policy=6,permit,open,7/"  -- eq: a common kind
    ∷ case "value=entity,0,11/value=entity,2,11/value=entity,3,11/principal=0,?/action=1,4/resource=3,5/context=14,?/day=2000-01-01/node=4,var,p/node=4,lit,0/node=0,eq,0,1/node=8,lit,0/node=8,lit,1/node=8,if,2,3,4/node=6,lit,2/node=0,in,5,6/policy=6,permit,7/" "decision=deny/counts=0,1,0,0,0,0,0,0/why=none/value=bool,0/node=0,lit,3/policy=6,permit,false,0/"  -- in: no pair allows it
    ∷ case "value=entity,0,11/value=entity,2,11/principal=0,?/action=1,4/resource=3,5/context=14,?/day=2000-01-01/node=4,var,p/node=4,lit,0/node=0,eq,0,1/node=8,lit,0/node=8,lit,1/node=8,if,2,3,4/node=5,lit,1/node=0,in,5,6/policy=6,permit,7/" "decision=open/counts=0,0,0,1,0,0,0,0/why=none/node=4,var,p/node=4,lit,0/node=0,eq,0,1/node=8,lit,0/node=8,lit,1/node=8,if,2,3,4/node=5,lit,1/node=0,in,5,6/policy=6,permit,open,7/"  -- in: a pair allows it
    ∷ case "value=entity,0,11/value=entity,2,11/value=set,0,1/principal=0,?/action=1,4/resource=3,5/context=14,?/day=2000-01-01/node=4,var,p/node=4,lit,0/node=0,eq,0,1/node=8,lit,0/node=8,lit,1/node=8,if,2,3,4/node=10,lit,2/node=0,in,5,6/policy=6,permit,7/" "decision=open/counts=0,0,0,1,0,0,0,0/why=none/node=4,var,p/node=4,lit,0/node=0,eq,0,1/node=8,lit,0/node=8,lit,1/node=8,if,2,3,4/node=10,lit,2/node=0,in,5,6/policy=6,permit,open,7/"  -- in: the kinds of a set's elements
    ∷ case "value=entity,0,11/value=entity,2,11/value=text,8/principal=0,?/action=1,4/resource=3,5/context=14,?/day=2000-01-01/node=4,var,p/node=4,lit,0/node=0,eq,0,1/node=8,lit,0/node=8,lit,1/node=8,if,2,3,4/node=2,lit,2/node=0,hastag,5,6/policy=6,permit,7/" "decision=open/counts=0,0,0,1,0,0,0,0/why=none/node=4,var,p/node=4,lit,0/node=0,eq,0,1/node=8,lit,0/node=8,lit,1/node=8,if,2,3,4/node=2,lit,2/node=0,hastag,5,6/policy=6,permit,open,7/"  -- hastag: one kind declares tags
    ∷ case "value=entity,2,11/value=text,8/principal=0,?/action=1,4/resource=3,5/context=14,?/day=2000-01-01/node=11,lit,0/node=2,lit,1/node=0,hastag,0,1/policy=6,permit,2/" "decision=deny/counts=0,1,0,0,0,0,0,0/why=none/value=bool,0/node=0,lit,2/policy=6,permit,false,0/"  -- hastag: none does
    ∷ case "value=entity,0,11/value=entity,2,11/principal=0,?/action=1,4/resource=3,5/context=14,?/day=2000-01-01/node=4,var,p/node=4,lit,0/node=0,eq,0,1/node=8,lit,0/node=8,lit,1/node=8,if,2,3,4/node=0,has,5,10/policy=6,permit,6/" "decision=open/counts=0,0,0,1,0,0,0,0/why=none/node=4,var,p/node=4,lit,0/node=0,eq,0,1/node=8,lit,0/node=8,lit,1/node=8,if,2,3,4/node=0,has,5,10/policy=6,permit,open,6/"  -- has: one kind declares it
    ∷ case "value=entity,0,11/value=entity,2,11/principal=0,?/action=1,4/resource=3,5/context=14,?/day=2000-01-01/node=4,var,p/node=4,lit,0/node=0,eq,0,1/node=8,lit,0/node=8,lit,1/node=8,if,2,3,4/node=0,has,5,11/policy=6,permit,6/" "decision=deny/counts=0,1,0,0,0,0,0,0/why=none/value=bool,0/node=0,lit,2/policy=6,permit,false,0/"  -- has: none does
    ∷ case "value=entity,0,11/principal=0,?/action=1,4/resource=3,5/context=14,?/day=2000-01-01/node=15,lit,0/node=0,has,0,11/policy=6,permit,1/" "decision=open/counts=0,0,0,1,0,0,0,0/why=none/node=15,lit,0/node=0,has,0,11/policy=6,permit,open,1/"  -- has: an action kind in the group
    ∷ case "value=entity,0,11/value=entity,2,11/value=text,8/principal=0,?/action=1,4/resource=3,5/context=14,?/day=2000-01-01/node=4,var,p/node=4,lit,0/node=0,eq,0,1/node=8,lit,0/node=8,lit,1/node=8,if,2,3,4/node=2,get,5,8/node=2,lit,2/node=0,eq,6,7/policy=6,permit,8/" "decision=open/counts=0,0,0,1,0,0,0,0/why=none/node=4,var,p/node=4,lit,0/node=0,eq,0,1/node=8,lit,0/node=8,lit,1/node=8,if,2,3,4/node=2,get,5,8/node=2,lit,2/node=0,eq,6,7/policy=6,permit,open,8/"  -- get: the same type in every kind
    ∷ case "value=entity,0,11/value=entity,2,11/principal=0,?/action=1,4/resource=3,5/context=14,?/day=2000-01-01/node=4,var,p/node=4,lit,0/node=0,eq,0,1/node=8,lit,0/node=8,lit,1/node=8,if,2,3,4/node=1,get,5,10/node=0,lt,6,6/policy=6,permit,7/" "refused=7,51,0/"  -- get: one kind does not declare it
    ∷ case "value=entity,0,11/value=entity,2,11/principal=0,?/action=1,4/resource=3,5/context=14,?/day=2000-01-01/node=4,var,p/node=4,lit,0/node=0,eq,0,1/node=8,lit,0/node=8,lit,1/node=8,if,2,3,4/node=8,get,5,9/node=0,has,6,8/policy=6,permit,7/" "refused=7,51,0/"  -- get: two types
    ∷ case "value=entity,0,11/value=entity,2,11/value=text,8/principal=0,?/action=1,4/resource=3,5/context=14,?/day=2000-01-01/node=4,var,p/node=4,lit,0/node=0,eq,0,1/node=8,lit,0/node=8,lit,1/node=8,if,2,3,4/node=2,lit,2/node=2,gettag,5,6/node=0,like,7/policy=6,permit,8/" "refused=7,53,0/"  -- gettag: one kind has none
    ∷ case "value=entity,0,11/value=entity,2,11/principal=0,?/action=1,4/resource=3,5/context=14,?/day=2000-01-01/node=4,var,p/node=4,lit,0/node=0,eq,0,1/node=8,lit,0/node=8,lit,1/node=8,if,2,3,4/node=0,haspath,5,9,8/policy=6,permit,6/" "decision=open/counts=0,0,0,1,0,0,0,0/why=none/node=4,var,p/node=4,lit,0/node=0,eq,0,1/node=8,lit,0/node=8,lit,1/node=8,if,2,3,4/node=0,haspath,5,9,8/policy=6,permit,open,6/"  -- haspath: each step is an entity
    ∷ case "value=entity,0,11/value=entity,2,11/principal=0,?/action=1,4/resource=3,5/context=14,?/day=2000-01-01/node=4,var,p/node=4,lit,0/node=0,eq,0,1/node=8,lit,0/node=8,lit,1/node=8,if,2,3,4/node=0,haspath,5,10,8/policy=6,permit,6/" "refused=7,51,0/"  -- haspath: one kind reached declares no entity
    ∷ case "value=entity,0,11/value=entity,2,11/principal=0,?/action=1,4/resource=3,5/context=14,?/day=2000-01-01/node=4,var,p/node=4,lit,0/node=0,eq,0,1/node=8,lit,0/node=8,lit,1/node=8,if,2,3,4/node=0,haspath,5,9,10,8/policy=6,permit,6/" "refused=7,51,0/"  -- haspath: a kind reached by a step declares no entity
    ∷ case "value=entity,0,11/value=entity,2,11/principal=0,?/action=1,4/resource=3,5/context=14,?/day=2000-01-01/node=4,var,p/node=4,lit,0/node=0,eq,0,1/node=8,lit,0/node=8,lit,1/node=8,if,2,3,4/node=0,haspath,5,9,10/policy=6,permit,6/" "decision=open/counts=0,0,0,1,0,0,0,0/why=none/node=4,var,p/node=4,lit,0/node=0,eq,0,1/node=8,lit,0/node=8,lit,1/node=8,if,2,3,4/node=0,haspath,5,9,10/policy=6,permit,open,6/"  -- haspath: the last step is free
    ∷ case "value=entity,0,11/value=entity,2,11/principal=0,?/action=1,4/resource=3,5/context=14,?/day=2000-01-01/node=4,var,p/node=4,lit,0/node=0,eq,0,1/node=8,lit,0/node=8,lit,1/node=8,if,2,3,4/node=0,haspath,5,11,8/policy=6,permit,6/" "decision=deny/counts=0,1,0,0,0,0,0,0/why=none/value=bool,0/node=0,lit,2/policy=6,permit,false,0/"  -- haspath: free after an undeclared step, and ruled out
    ∷ case "value=entity,0,11/value=entity,2,11/value=text,8/value=record,8,2,9,1/entity=0,3,?,?/principal=0,?/action=1,4/resource=3,5/context=14,?/day=2000-01-01/node=8,lit,0/node=0,haspath,0,9,10/policy=6,permit,1/" "decision=open/counts=0,0,0,1,0,0,0,0/why=none/node=5,lit,1/node=0,haspath,0,10/policy=6,permit,open,1/"  -- left over after a step: the single kind's type
    ∷ case "value=entity,0,11/value=entity,2,11/value=text,8/value=record,8,2,9,1/entity=0,3,?,?/principal=0,?/action=1,4/resource=3,5/context=14,?/day=2000-01-01/node=8,lit,0/node=0,haspath,0,9,11/policy=6,permit,1/" "decision=deny/counts=0,1,0,0,0,0,0,0/why=none/value=bool,0/node=0,lit,4/policy=6,permit,false,0/"  -- left over after a step: ruled out by the single kind
    ∷ case "value=entity,0,11/principal=0,?/action=1,4/resource=3,5/context=14,?/day=2000-01-01/node=8,lit,0/node=0,haspath,0,10/policy=6,permit,1/" "decision=open/counts=0,0,0,1,0,0,0,0/why=none/node=8,lit,0/node=0,haspath,0,10/policy=6,permit,open,1/"  -- left over after no step: the child's own type
    ∷ case "value=entity,0,11/principal=0,?/action=1,4/resource=3,5/context=14,?/day=2000-01-01/node=4,lit,0/node=0,haspath,0,10/policy=6,permit,1/" "decision=deny/counts=0,1,0,0,0,0,0,0/why=none/value=bool,0/node=0,lit,1/policy=6,permit,false,0/"  -- the same over the single kind
    ∷ case "value=entity,3,11/principal=0,?/action=1,4/resource=3,5/context=14,?/day=2000-01-01/node=8,lit,0/node=0,is,0,3/policy=6,permit,1/" "refused=7,44,0/"  -- lit: its kind is not in the group
    ∷ case "principal=0,?/action=1,4/resource=3,5/context=14,?/day=2000-01-01/node=8,var,p/" "refused=7,43,0/"  -- var: its type is that of its kind alone
    ∷ case "value=entity,0,11/value=entity,2,11/value=set,0,1/principal=0,?/action=1,4/resource=3,5/context=14,?/day=2000-01-01/node=4,var,p/node=4,lit,0/node=0,eq,0,1/node=8,lit,0/node=8,lit,1/node=8,if,2,3,4/node=4,lit,0/node=10,lit,2/node=0,contains,7,6/policy=6,permit,8/" "refused=7,54,0/"  -- contains: the element has the element type
    ∷ case "value=entity,0,11/value=entity,2,11/value=set,0,1/principal=0,?/action=1,4/resource=3,5/context=14,?/day=2000-01-01/node=4,var,p/node=4,lit,0/node=0,eq,0,1/node=8,lit,0/node=8,lit,1/node=8,if,2,3,4/node=10,lit,2/node=0,contains,6,5/policy=6,permit,7/" "decision=open/counts=0,0,0,1,0,0,0,0/why=none/node=10,lit,2/node=4,var,p/node=4,lit,0/node=0,eq,1,2/node=8,lit,0/node=8,lit,1/node=8,if,3,4,5/node=0,contains,0,6/policy=6,permit,open,7/"  -- contains: of a group
    ∷ case "value=entity,0,11/value=entity,2,11/principal=0,?/action=1,4/resource=3,5/context=14,?/day=2000-01-01/node=8,slot,p/node=0,has,0,10/policy=6,permit,1/policy=7,permit,1/link=0,0,-/link=1,1,-/" "decision=open/counts=0,0,0,2,0,0,0,0/why=none/node=8,lit,0/node=0,has,0,10/node=8,lit,1/node=0,has,2,10/policy=6,permit,open,1/policy=7,permit,open,3/"  -- a slot of a group: its `lit` keeps the group
    ∷ case "value=entity,3,11/principal=0,?/action=1,4/resource=3,5/context=14,?/day=2000-01-01/node=8,slot,p/node=0,has,0,10/policy=6,permit,1/link=0,0,-/" "refused=7,47,0/"  -- a slot of a group: the kind of its value is not in it
    ∷ case "value=entity,0,11/value=entity,2,11/value=text,8/value=record,8,2,9,1/entity=0,3,?,?/principal=0,?/action=1,4/resource=3,5/context=14,?/day=2000-01-01/node=8,slot,r/node=0,haspath,0,9,10/policy=6,permit,1/policy=7,permit,1/link=0,-,0/link=1,-,1/term=0,2000-01-01,2000-01-01/" "decision=open/counts=0,0,0,2,0,0,0,0/why=none/node=5,lit,1/node=0,haspath,0,10/node=8,lit,1/node=0,haspath,2,9,10/policy=6,permit,open,1/policy=7,permit,open,3/"  -- a slot of a group, on term: with no step taken its `lit` keeps the group, after a step it has the single kind
    ∷ []

group_sheets : shown_all groups group_cases ≡ says_all group_cases
unfolding kind_lines groups group_cases shown keys forms form_of slot_at counted tag_of row_of key_of refs ascendings fits_in nodes_under typed found depth fault more read types value_rows contents schema trees exprs on_term n_policies policies n_env env run results answer returned ancestors unknown_above order same place insert ascending make_set
group_sheets = refl
