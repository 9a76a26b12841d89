-- Document 02, 2.6, on sheets small enough for a pencil, from bytes to bytes, by computation. `/` is a line end.
use mathlib.Core.Path.{◌≡◌, refl}
use mathlib.Core.Bool.{true}
use mathlib.Core.List.{List, [], ◌∷◌, ◌++◌}
use Prim.Native.Nat.{ℕ, zero, suc}
use Prim.Native.String.{String}
use lib.ListN.{replicate}
use Rattle.sheet.specs.Ascii.{ascii}
use Rattle.sheet.specs.Forms.{Mode, keys, partial, complete, forms, form_of, slot_at, counted, tag_of, row_of, key_of, refs, ascendings}
use Rattle.sheet.specs.Typing.{fits_in, nodes_under, typed}
use Rattle.sheet.specs.Parents.{ancestors, unknown_above}
use Rattle.sheet.specs.Sheet.{found, depth, fault, more, read}
use Rattle.sheet.specs.Content.{types, value_rows, contents, schema, trees, exprs, on_term, n_policies, policies, n_env, env}
use Rattle.sheet.specs.Answer.{run, results, answer, printed, numbers}
use Rattle.sheet.specs.Call.{Returned, returned}
use Rattle.sheet.specs.Agreement.{agrees}
use Rattle.sheet.specs.Demand3.{Answered, bytes_of, Demand3}
use Rattle.cedar.specs.Canonical.{order, same, place, insert, ascending, make_set}
use Rattle.sheet.proofs.demand3.Demand3Answers.{demand_3_bytes}
use Rattle.sheet.proofs.answer.Shown.{line_ends}

abbrev bytes : String → List ℕ
bytes s = line_ends (ascii s)

abbrev shown_as : List ℕ → ℕ → Returned → List ℕ
shown_as a zero r = a
shown_as a (suc n) r = printed "refused" (numbers (r.number ∷ r.line ∷ r.length ∷ []))

abbrev shown_for : List ℕ → Returned → List ℕ
shown_for a r = shown_as a r.number r

unfoldable shown : Mode → List ℕ → List ℕ
shown m sheet = shown_for (answer m (read m sheet).state) (returned m 16384 16384 16384 sheet)

pub record Case : Type 0 where
  pub rest : String
  pub says : String

abbrev case : String → String → Case
case r a = record { rest = r; says = a }

abbrev shown_all : Mode → List ℕ → List Case → List (List ℕ)
shown_all m h [] = []
shown_all m h (c ∷ cs) = shown m (h ++ bytes c.rest) ∷ shown_all m h cs

abbrev says_all : List Case → List (List ℕ)
says_all [] = []
says_all (c ∷ cs) = bytes c.says ∷ says_all cs

-- values: A, B, C, D of kind 0 (0 to 3), X of kind 2 (4), the record (5), sets {} (6), {A} (7), {B} (8), {C} (9), {X} (10), {B, C} (11)
texts : List ℕ
texts = bytes "text=Broker/text=Action/text=Tariff/text=quote/text=T1/text=p0/text=A/text=B/text=C/text=D/text=X/kind=0,e/kind=1,a/kind=2,e/type=bool/type=record/type=entity,0/type=entity,2/"

values : List ℕ
values = bytes "value=entity,0,6/value=entity,0,7/value=entity,0,8/value=entity,0,9/value=entity,2,10/value=record/value=set/value=set,0/value=set,1/value=set,2/value=set,4/value=set,1,2/"

-- kind 0 has 0 above, kind 2 has 0 above
plain : List ℕ
plain = bytes "sheet=partial/" ++ texts ++ bytes "shape=1,-,0/shape=1,-/shape=1,-,0/" ++ values

whole : List ℕ
whole = bytes "sheet=complete/" ++ texts ++ bytes "shape=1,-,0/shape=1,-/shape=1,-,0/" ++ values

-- 0 has 2 above and 2 has 0: no kind is above itself
turned : List ℕ
turned = bytes "sheet=partial/" ++ texts ++ bytes "shape=1,-,2/shape=1,-/shape=1,-,0/" ++ values

-- A in what is node 1
known : List Case
known =
    -- a circle A, B, A: A in B, also B in A; A in C is known to be false
    case "entity=0,5,5,8/entity=1,5,5,7/principal=0,?/action=1,3/resource=2,4/context=1,?/day=2000-01-01/node=2,lit,0/node=2,lit,1/node=0,in,0,1/policy=5,permit,2/" "decision=allow/counts=1,0,0,0,0,0,0,0/why=5/value=bool,1/node=0,lit,12/policy=5,permit,true,0/"
    ∷ case "entity=0,5,5,8/entity=1,5,5,7/principal=0,?/action=1,3/resource=2,4/context=1,?/day=2000-01-01/node=2,lit,0/node=2,lit,2/node=0,in,0,1/policy=5,permit,2/" "decision=deny/counts=0,1,0,0,0,0,0,0/why=none/value=bool,0/node=0,lit,12/policy=5,permit,false,0/"
    -- A, B, C in a row, C without parents: A in C
    ∷ case "entity=0,5,5,8/entity=1,5,5,9/entity=2,5,5,6/principal=0,?/action=1,3/resource=2,4/context=1,?/day=2000-01-01/node=2,lit,0/node=2,lit,2/node=0,in,0,1/policy=5,permit,2/" "decision=allow/counts=1,0,0,0,0,0,0,0/why=5/value=bool,1/node=0,lit,12/policy=5,permit,true,0/"
    -- C unlisted, or its parents `?`: A has unknown ancestors, though it reaches C
    ∷ case "entity=0,5,5,8/entity=1,5,5,9/principal=0,?/action=1,3/resource=2,4/context=1,?/day=2000-01-01/node=2,lit,0/node=2,lit,2/node=0,in,0,1/policy=5,permit,2/" "decision=open/counts=0,0,0,1,0,0,0,0/why=none/node=2,lit,0/node=2,lit,2/node=0,in,0,1/policy=5,permit,open,2/"
    ∷ case "entity=0,5,5,8/entity=1,5,5,9/entity=2,5,5,?/principal=0,?/action=1,3/resource=2,4/context=1,?/day=2000-01-01/node=2,lit,0/node=2,lit,3/node=0,in,0,1/policy=5,permit,2/" "decision=open/counts=0,0,0,1,0,0,0,0/why=none/node=2,lit,0/node=2,lit,3/node=0,in,0,1/policy=5,permit,open,2/"
    -- one parent known, the other unlisted: unknown; a circle of A alone: known
    ∷ case "entity=0,5,5,11/entity=1,5,5,6/principal=0,?/action=1,3/resource=2,4/context=1,?/day=2000-01-01/node=2,lit,0/node=2,lit,3/node=0,in,0,1/policy=5,permit,2/" "decision=open/counts=0,0,0,1,0,0,0,0/why=none/node=2,lit,0/node=2,lit,3/node=0,in,0,1/policy=5,permit,open,2/"
    ∷ case "entity=0,5,5,7/principal=0,?/action=1,3/resource=2,4/context=1,?/day=2000-01-01/node=2,lit,0/node=2,lit,3/node=0,in,0,1/policy=5,permit,2/" "decision=deny/counts=0,1,0,0,0,0,0,0/why=none/value=bool,0/node=0,lit,12/policy=5,permit,false,0/"
    -- the same row for a slot: A through its parents, D unlisted; the third is off term
    ∷ case "entity=0,5,5,8/entity=1,5,5,9/entity=2,5,5,6/principal=0,?/action=1,3/resource=2,4/context=1,?/day=2000-01-01/node=2,slot,p/node=2,lit,2/node=0,in,0,1/policy=5,permit,2/policy=6,permit,2/policy=7,permit,2/link=0,0,-/link=1,3,-/link=2,2,-/term=2,1999-01-01,1999-12-31/" "decision=allow/counts=1,0,0,1,0,0,0,0/why=5/value=bool,1/node=0,lit,12/node=2,lit,3/node=2,lit,2/node=0,in,1,2/policy=5,permit,true,0/policy=6,permit,open,3/"
    ∷ []

known_parents : shown_all partial plain known ≡ says_all known
unfolding plain texts values known shown keys forms form_of slot_at counted tag_of row_of key_of refs ascendings fits_in nodes_under typed found depth fault more read types value_rows contents schema trees exprs on_term n_policies policies n_env env run results answer returned ancestors unknown_above order same place insert ascending make_set
known_parents = refl

-- "On a complete sheet an unlisted one has no parents": A in B, A in C where B is unlisted, A in D at the end of a row with a circle
settled : List Case
settled =
    case "entity=0,5,5,8/principal=0,4/action=1,3/resource=2,4/context=1,5/day=2000-01-01/node=2,lit,0/node=2,lit,1/node=0,in,0,1/policy=5,permit,2/" "decision=allow/counts=1,0,0,0,0,0,0,0/why=5/policy=5,permit,true/"
    ∷ case "entity=0,5,5,8/principal=0,4/action=1,3/resource=2,4/context=1,5/day=2000-01-01/node=2,lit,0/node=2,lit,2/node=0,in,0,1/policy=5,permit,2/" "decision=deny/counts=0,1,0,0,0,0,0,0/why=none/policy=5,permit,false/"
    ∷ case "value=set,0,3/entity=0,5,5,8/entity=1,5,5,9/entity=2,5,5,12/principal=0,4/action=1,3/resource=2,4/context=1,5/day=2000-01-01/node=2,lit,0/node=2,lit,3/node=0,in,0,1/policy=5,permit,2/" "decision=allow/counts=1,0,0,0,0,0,0,0/why=5/policy=5,permit,true/"
    ∷ []

settled_parents : shown_all complete whole settled ≡ says_all settled
unfolding whole texts values settled shown keys forms form_of slot_at counted tag_of row_of key_of refs ascendings fits_in nodes_under typed found depth fault more read types value_rows contents schema trees exprs on_term n_policies policies n_env env run results answer returned ancestors unknown_above order same place insert ascending make_set
settled_parents = refl

-- refusals; entity lines begin at line 35
refused : List Case
refused =
    -- a parent of a kind that is not above: when the line is read
    case "entity=0,5,5,8/" "refused=7,35,0/"
    -- A, X, A: A reaches itself, and its kind is not above itself. Noticed at the line after, before its own fault, at the lowest line
    ∷ case "entity=0,5,5,10/entity=4,5,5,7/principal=0,?/" "refused=7,35,0/"
    ∷ case "entity=0,5,5,10/entity=4,5,5,7/principal=x/" "refused=7,35,0/"
    ∷ case "entity=0,5,5,10/entity=4,5,5,7/entity/" "refused=7,35,0/"
    ∷ case "entity=0,5,5,10/entity=4,5,5,7//" "refused=7,35,0/"
    -- another entity line first has its own checks
    ∷ case "entity=0,5,5,10/entity=4,5,5,7/entity=4,5,5,7/" "refused=5,37,0/"
    ∷ case "entity=0,5,5,10/entity=4,5,5,7/entity=/" "refused=3,37,0/"
    -- the sheet's end, before a missing line; what is not ended is a line too
    ∷ case "entity=0,5,5,10/entity=4,5,5,7/" "refused=7,35,0/"
    ∷ case "entity=0,5,5,10/entity=4,5,5,7/principal=0,?" "refused=7,35,0/"
    ∷ case "entity=0,5,5,10/entity=4,5,5,7/entity=0,5,5,7" "refused=3,37,0/"
    -- all reached count, also where the ancestors are unknown: B, X, A and A's parents are unknown; B reaches A
    ∷ case "entity=0,5,5,?/entity=1,5,5,10/entity=4,5,5,7/principal=0,?/" "refused=7,36,0/"
    -- without the way back it is taken
    ∷ case "entity=0,5,5,10/entity=4,5,5,6/principal=0,?/" "refused=3,38,0/"
    ∷ []

refused_parents : shown_all partial turned refused ≡ says_all refused
unfolding turned texts values refused shown keys forms form_of slot_at counted tag_of row_of key_of refs ascendings fits_in nodes_under typed found depth fault more read types value_rows contents schema trees exprs on_term n_policies policies n_env env run results answer returned ancestors unknown_above order same place insert ascending make_set
refused_parents = refl

-- ---- the hypotheses of demand 3 can be met: a circle of A and B that is known, C whose parents are not; the complete sheets list D too, and C
-- below A on the one, below nothing on the other

unfoldable open_sheet : List ℕ
open_sheet = plain ++ bytes "entity=0,5,5,8/entity=1,5,5,7/entity=2,5,5,?/principal=0,?/action=1,3/resource=2,4/context=1,?/day=2000-01-01/node=2,lit,0/node=2,lit,1/node=0,in,0,1/node=2,lit,2/node=2,lit,1/node=0,in,3,4/policy=5,permit,2/policy=6,forbid,5/"

unfoldable below : List ℕ
below = whole ++ bytes "entity=0,5,5,8/entity=1,5,5,7/entity=2,5,5,7/entity=3,5,5,9/principal=0,4/action=1,3/resource=2,4/context=1,5/day=2000-01-01/node=2,lit,0/node=2,lit,1/node=0,in,0,1/node=2,lit,2/node=2,lit,1/node=0,in,3,4/policy=5,permit,2/policy=6,forbid,5/"

unfoldable apart : List ℕ
apart = whole ++ bytes "entity=0,5,5,8/entity=1,5,5,7/entity=2,5,5,6/entity=3,5,5,9/principal=0,4/action=1,3/resource=2,4/context=1,5/day=2000-01-01/node=2,lit,0/node=2,lit,1/node=0,in,0,1/node=2,lit,2/node=2,lit,1/node=0,in,3,4/policy=5,permit,2/policy=6,forbid,5/"

open_call : Answered partial open_sheet
unfolding open_sheet plain texts values keys forms form_of slot_at counted tag_of row_of key_of refs ascendings fits_in nodes_under typed found depth fault more read types value_rows contents schema trees exprs on_term n_policies policies n_env env run results answer returned ancestors unknown_above order same place insert ascending make_set
open_call = record { work₁ = 16384; work₂ = 20000; buffer = replicate 300 33; zero_number = refl }

below_call : Answered complete below
unfolding below whole texts values keys forms form_of slot_at counted tag_of row_of key_of refs ascendings fits_in nodes_under typed found depth fault more read types value_rows contents schema trees exprs on_term n_policies policies n_env env run results answer returned ancestors unknown_above order same place insert ascending make_set
below_call = record { work₁ = 16384; work₂ = 16384; buffer = replicate 300 33; zero_number = refl }

apart_call : Answered complete apart
unfolding apart whole texts values keys forms form_of slot_at counted tag_of row_of key_of refs ascendings fits_in nodes_under typed found depth fault more read types value_rows contents schema trees exprs on_term n_policies policies n_env env run results answer returned ancestors unknown_above order same place insert ascending make_set
apart_call = record { work₁ = 16384; work₂ = 16384; buffer = replicate 300 33; zero_number = refl }

below_agrees : agrees (read partial open_sheet).state (read complete below).state ≡ true
unfolding open_sheet below plain whole texts values agrees keys forms form_of slot_at counted tag_of row_of key_of refs ascendings fits_in nodes_under typed found depth fault more read ancestors unknown_above
below_agrees = refl

apart_agrees : agrees (read partial open_sheet).state (read complete apart).state ≡ true
unfolding open_sheet apart plain whole texts values agrees keys forms form_of slot_at counted tag_of row_of key_of refs ascendings fits_in nodes_under typed found depth fault more read ancestors unknown_above
apart_agrees = refl

three : Demand3 open_sheet below apart (bytes_of open_call) (bytes_of below_call) (bytes_of apart_call)
three = demand_3_bytes open_sheet below apart open_call below_call apart_call below_agrees apart_agrees
