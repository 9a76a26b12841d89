-- Edges that no other sheet here comes to, from bytes to bytes, by computation: each fails if one line of a definition is changed (scripts/mutants.txt).
use mathlib.Core.Path.{◌≡◌, refl}
use mathlib.Core.List.{List, [], ◌∷◌}
use Prim.Native.Nat.{ℕ}
use Rattle.sheet.specs.Forms.{keys, forms, form_of, slot_at, counted, tag_of, row_of, key_of, refs, ascendings}
use Rattle.sheet.specs.Typing.{fits_in, nodes_under, typed}
use Rattle.sheet.specs.Parents.{ancestors, unknown_above}
use Rattle.sheet.specs.Sheet.{found, depth, fault, more, read}
use Rattle.sheet.specs.Content.{types, value_rows, contents, schema, trees, exprs, on_term, n_policies, policies, n_env, env}
use Rattle.sheet.specs.Answer.{run, results, answer}
use Rattle.sheet.specs.Call.{returned}
use Rattle.cedar.specs.Canonical.{order, same, place, insert, ascending, make_set}
use Rattle.sheet.proofs.answer.Shown.{bytes, shown, Case, case, shown_all, says_all}

-- P has a bool and perhaps another P as attributes, and texts as tags; the context has the same attributes
unfoldable edge_head : List ℕ
edge_head = bytes "sheet=partial/text=P/text=A/text=a/text=x/kind=0,e/kind=1,a/type=bool/type=record/type=entity,0/type=long/type=string/type=set,2/type=record,2,r,0,3,o,2/shape=6,4/shape=1,-/"

-- accepted

accepted : List Case
accepted =
    case "principal=0,?/action=1,1/resource=0,0/context=6,?/day=2000-01-01/node=6,var,c/node=0,has,0,1/policy=2,permit,1/" "decision=deny/counts=0,1,0,0,0,0,0,0/why=none/value=bool,0/node=0,lit,0/policy=2,permit,false,0/"  -- an undeclared attribute of an open record: the rule
    ∷ case "value=entity,0,2/principal=0,?/action=1,1/resource=0,0/context=6,?/day=2000-01-01/node=2,var,p/node=2,lit,0/node=0,in,0,1/policy=2,permit,2/" "decision=open/counts=0,0,0,1,0,0,0,0/why=none/node=2,var,p/node=2,lit,0/node=0,in,0,1/policy=2,permit,open,2/"  -- in an entity of its own kind, which is not above it: no rule
    ∷ case "principal=0,?/action=1,1/resource=0,0/context=6,?/day=2000-01-01/node=2,var,p/node=2,get,0,3/node=0,has,1,1/policy=2,permit,2/" "decision=open/counts=0,0,0,1,0,0,0,0/why=none/node=2,var,p/node=2,get,0,3/node=0,has,1,1/policy=2,permit,open,2/"  -- an undeclared attribute of what can err: no rule
    ∷ case "value=bool,1/principal=0,?/action=1,1/resource=0,0/context=6,?/day=2000-01-01/node=6,var,c/node=0,get,0,2/node=0,lit,0/node=0,or,1,2/policy=2,permit,3/" "decision=open/counts=0,0,0,1,0,0,0,0/why=none/node=6,var,c/node=0,get,0,2/node=0,lit,0/node=0,or,1,2/policy=2,permit,open,3/"  -- what can err, or true
    ∷ case "value=bool,0/principal=0,?/action=1,1/resource=0,0/context=6,?/day=2000-01-01/node=2,var,p/node=0,has,0,3/node=0,lit,0/node=0,or,1,2/policy=2,permit,3/" "decision=open/counts=0,0,0,1,0,0,0,0/why=none/node=2,var,p/node=0,has,0,3/policy=2,permit,open,1/"  -- open, or false
    ∷ case "value=bool,0/value=bool,1/principal=0,?/action=1,1/resource=0,0/context=6,?/day=2000-01-01/node=0,lit,1/node=0,lit,1/node=0,lit,0/node=0,if,0,1,2/policy=2,permit,3/" "decision=allow/counts=1,0,0,0,0,0,0,0/why=2/node=0,lit,1/policy=2,permit,true,0/"  -- a true test
    ∷ case "principal=0,?/action=1,1/resource=0,0/context=6,?/day=2000-01-01/node=2,var,p/node=2,err/node=5,set,0,1/node=0,empty,2/policy=2,permit,3/" "decision=deny/counts=0,0,1,0,0,0,0,0/why=none/node=0,err/policy=2,permit,error,0/"  -- a set of an open member and an error
    ∷ case "value=text,2/principal=0,?/action=1,1/resource=0,0/context=6,?/day=2000-01-01/node=2,var,p/node=4,lit,0/node=4,gettag,0,1/node=0,like,2,*,2/policy=2,permit,3/" "decision=open/counts=0,0,0,1,0,0,0,0/why=none/node=2,var,p/node=4,lit,0/node=4,gettag,0,1/node=0,like,2,*,2/policy=2,permit,open,3/"  -- an asterisk that is left over
    ∷ case "value=entity,0,2/value=set,0/principal=0,?/action=1,1/resource=0,0/context=6,?/day=2000-01-01/node=5,lit,1/node=2,lit,0/node=0,contains,0,1/policy=2,permit,2/" "decision=allow/counts=1,0,0,0,0,0,0,0/why=2/value=bool,1/node=0,lit,2/policy=2,permit,true,0/"  -- a set of entities contains one
    ∷ []

accepted_edges : shown_all edge_head accepted ≡ says_all accepted
unfolding edge_head accepted shown keys forms form_of slot_at counted tag_of row_of key_of refs ascendings fits_in nodes_under typed found depth fault more read types value_rows contents schema trees exprs on_term n_policies policies n_env env run results answer returned ancestors unknown_above order same place insert ascending make_set
accepted_edges = refl

-- refused

refused : List Case
refused =
    case "value=long,1:/" "refused=3,17,0/"  -- `:`, the byte after 9
    ∷ case "value=long,+1/" "refused=3,17,0/"  -- a plus sign
    ∷ case "principal=0,?/action=1,1/context=6,?/" "refused=3,19,0/"  -- no resource line
    ∷ case "value=entity,0,2/value=set,0/entity=0,?,?,1/entity=x/" "refused=7,19,0/"  -- a parent of a kind that is not above, before the next line
    ∷ case "value=long,1/value=text,2/principal=0,?/action=1,1/resource=0,0/context=6,?/day=2000-01-01/node=3,lit,0/node=4,lit,1/node=0,eq,0,1/" "refused=7,26,0/"  -- eq of two types that are no entities
    ∷ case "value=long,1/principal=0,?/action=1,1/resource=0,0/context=6,?/day=2000-01-01/node=2,var,p/node=3,lit,0/node=0,eq,0,1/" "refused=7,25,0/"  -- eq of an entity and a long
    ∷ case "value=long,1/principal=0,?/action=1,1/resource=0,0/context=6,?/day=2000-01-01/node=2,var,p/node=3,lit,0/node=0,hastag,0,1/" "refused=7,25,0/"  -- hastag of a long
    ∷ case "value=bool,1/value=long,1/value=text,2/principal=0,?/action=1,1/resource=0,0/context=6,?/day=2000-01-01/node=0,lit,0/node=3,lit,1/node=4,lit,2/node=3,if,0,1,2/" "refused=7,28,0/"  -- another type in the last part of an if
    ∷ case "value=long,1/principal=0,?/action=1,1/resource=0,0/context=6,?/day=2000-01-01/node=3,lit,0/node=0,like,0,2/" "refused=7,24,0/"  -- like of a long
    ∷ case "value=long,1/principal=0,?/action=1,1/resource=0,0/context=6,?/day=2000-01-01/node=3,lit,0/node=0,not,0/" "refused=7,24,0/"  -- not of a long
    ∷ case "value=long,1/principal=0,?/action=1,1/resource=0,0/context=6,?/day=2000-01-01/node=2,var,p/node=3,lit,0/node=5,set,0,1/" "refused=7,25,0/"  -- another type in the second place of a set
    ∷ []

refused_edges : shown_all edge_head refused ≡ says_all refused
unfolding edge_head refused shown keys forms form_of slot_at counted tag_of row_of key_of refs ascendings fits_in nodes_under typed found depth fault more read types value_rows contents schema trees exprs on_term n_policies policies n_env env run results answer returned ancestors unknown_above order same place insert ascending make_set
refused_edges = refl

-- without that head

heads : List Case
heads =
    case "sheet=partial/text=P\u{1f}/" "refused=3,2,0/"  -- byte 31
    ∷ case "sheet=partial/kind=0,e/" "refused=5,2,0/"  -- no text line is needed: its name is absent
    ∷ case "sheet=partial/text=P/sheet=partial/" "refused=3,3,0/"  -- out of order, and one too many
    ∷ case "sheet=partial/text=A/text=a/kind=0,a/type=bool/type=record,1,o,0/shape=1,-/" "refused=7,7,0/"  -- an action kind with an attribute
    ∷ []

head_edges : shown_all [] heads ≡ says_all heads
unfolding heads shown keys forms form_of slot_at counted tag_of row_of key_of refs ascendings fits_in nodes_under typed found depth fault more read types value_rows contents schema trees exprs on_term n_policies policies n_env env run results answer returned ancestors unknown_above order same place insert ascending make_set
head_edges = refl
