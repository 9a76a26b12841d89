-- What document 02 says of single lines of terms and templates, from bytes to bytes, by computation on short sheets over the head of `KnownLines`,
-- which has one or two of each.
use mathlib.Core.Path.{◌≡◌, refl}
use mathlib.Core.List.{List, [], ◌∷◌}
use Rattle.sheet.specs.Forms.{keys, forms, form_of, slot_at, counted, tag_of, row_of, key_of, refs, ascendings}
use Rattle.sheet.specs.Typing.{fits_in, nodes_under, typed}
use Rattle.sheet.specs.Parents.{ancestors, unknown_above}
use Rattle.sheet.specs.Sheet.{found, depth, fault, more, read}
use Rattle.sheet.specs.Content.{types, value_rows, contents, schema, trees, exprs, on_term, n_policies, policies, n_env, env}
use Rattle.sheet.specs.Answer.{run, results, answer}
use Rattle.sheet.specs.Call.{returned}
use Rattle.cedar.specs.Canonical.{order, same, place, insert, ascending, make_set}
use Rattle.sheet.proofs.answer.Shown.{shown, Case, case, shown_all, says_all}
use Rattle.sheet.proofs.reading.KnownLines.{head}

-- ---- document 02, "Terms of validity"

other_terms : List Case
other_terms =
    case "value=long,1/principal=0,?/action=1,3/resource=2,4/context=6,?/day=2000-03-01/node=3,lit,0/node=3,lit,0/node=3,add,0,1/node=3,lit,0/node=0,lt,2,3/node=3,lit,0/node=3,lit,0/node=0,lt,5,6/policy=5,permit,4/policy=6,permit,7/term=0,2000-03-02,2199-12-31/" "decision=deny/counts=0,1,0,0,0,0,0,0/why=none/value=bool,0/node=0,lit,1/policy=6,permit,false,0/"  -- a policy off term "has no made values, nodes, count or policy line in the answer, though its nodes count as used"; "Without a term it always runs"
    ∷ case "value=bool,1/principal=0,?/action=1,3/resource=2,4/context=6,?/day=2000-01-01/node=0,lit,0/policy=5,permit,0/term=0,1900-01-01,1999-12-31/" "decision=deny/counts=0,0,0,0,0,0,0,0/why=none/"  -- none on term
    ∷ case "value=bool,1/principal=0,?/action=1,3/resource=2,4/context=6,?/day=2100-02-29/" "refused=3,33,0/"  -- "2100-02-29 gets 3"
    ∷ case "value=bool,1/principal=0,?/action=1,3/resource=2,4/context=6,?/day=2000-01-01/day=2000-01-02/" "refused=4,34,0/"
    ∷ case "value=bool,1/principal=0,?/action=1,3/resource=2,4/context=6,?/day=2000-01-01/node=0,lit,0/policy=5,permit,0/term=1,2000-01-01,2000-01-01/" "refused=5,36,0/"  -- no such policy
    ∷ case "value=bool,1/principal=0,?/action=1,3/resource=2,4/context=6,?/day=2000-01-01/node=0,lit,0/policy=5,permit,0/term=0,2000-01-02,2000-01-01/" "refused=5,36,0/"  -- "A last day before the first gets 5"
    ∷ case "value=bool,1/principal=0,?/action=1,3/resource=2,4/context=6,?/day=2000-01-01/node=0,lit,0/policy=5,permit,0/term=9,2000-01-02,2100-02-29/" "refused=3,36,0/"  -- form before reference
    ∷ case "value=bool,1/principal=0,?/action=1,3/resource=2,4/context=6,?/day=2000-01-01/node=0,lit,0/policy=5,permit,0/term=0,2000-01-01,2000-01-01/term=0,2001-01-01,2001-01-01/" "refused=5,37,0/"  -- "at most one each"
    ∷ case "value=bool,1/principal=0,?/action=1,3/resource=2,4/context=6,?/day=2000-01-01/node=0,lit,0/node=0,lit,0/policy=5,permit,0/policy=6,permit,1/term=1,2000-01-01,2000-01-01/term=0,2000-01-01,2000-01-01/" "refused=5,39,0/"  -- "ascending"
    ∷ case "value=bool,1/principal=0,?/action=1,3/resource=2,4/context=6,?/day=2000-01-01/node=0,lit,0/policy=5,permit,0/term=0,2000-01-01,2000-01-01/policy=6,permit,0/" "refused=3,37,0/"  -- a policy after the terms
    ∷ []

other_terms_law : shown_all head other_terms ≡ says_all other_terms
unfolding head other_terms shown keys forms form_of slot_at counted tag_of row_of key_of refs ascendings fits_in nodes_under typed found depth fault more read types value_rows contents schema trees exprs on_term n_policies policies n_env env run results answer returned ancestors unknown_above order same place insert ascending make_set
other_terms_law = refl

-- ---- document 02, "Carrier templates"

other_templates : List Case
other_templates =
    case "value=entity,0,7/value=entity,0,9/principal=0,9/action=1,3/resource=2,4/context=6,?/day=2000-01-01/node=2,var,p/node=2,slot,p/node=0,eq,0,1/policy=5,permit,2/policy=6,permit,2/link=0,0,-/link=1,1,-/" "decision=allow/counts=1,1,0,0,0,0,0,0/why=6/value=bool,0/value=bool,1/node=0,lit,2/node=0,lit,3/policy=5,permit,false,0/policy=6,permit,true,1/"  -- one rule and two brokers: "A policy root may now serve several policies"; each use makes its own value
    ∷ case "value=entity,0,7/value=entity,2,9/principal=0,?/action=1,3/resource=2,4/context=6,?/day=2000-01-01/node=2,slot,p/node=8,slot,r/node=0,in,0,1/policy=5,permit,2/link=0,0,1/" "decision=deny/counts=0,1,0,0,0,0,0,0/why=none/value=bool,0/node=0,lit,2/policy=5,permit,false,0/"  -- both slots; a slot "can't err", so the type rule of in speaks
    ∷ case "value=bool,1/principal=0,?/action=1,3/resource=2,4/context=6,?/day=2000-01-01/node=0,lit,0/policy=5,permit,0/link=0,-,-/" "decision=allow/counts=1,0,0,0,0,0,0,0/why=5/node=0,lit,0/policy=5,permit,true,0/"  -- a link that gives nothing to a policy that has no slot
    ∷ case "value=entity,0,7/principal=0,?/action=1,3/resource=2,4/context=6,?/day=2000-01-01/node=2,var,p/node=2,slot,p/node=0,eq,0,1/policy=5,permit,2/policy=6,permit,2/link=0,0,-/link=1,0,-/term=0,1900-01-01,1999-12-31/" "decision=open/counts=0,0,0,1,0,0,0,0/why=none/node=2,var,p/node=2,lit,0/node=0,eq,0,1/policy=6,permit,open,2/"  -- links stand between policies and terms
    ∷ case "value=entity,0,7/principal=0,?/action=1,3/resource=2,4/context=6,?/day=2000-01-01/node=2,var,p/node=2,slot,p/node=0,eq,0,1/policy=5,permit,2/link=0,-,-/" "refused=5,38,0/"  -- "A slot without a value gets 5"
    ∷ case "value=entity,0,7/principal=0,?/action=1,3/resource=2,4/context=6,?/day=2000-01-01/node=2,var,p/node=2,slot,p/node=0,eq,0,1/policy=5,permit,2/link=0,0,0/" "refused=5,38,0/"  -- "a value for a slot that the policy lacks gets 5 there too"
    ∷ case "value=entity,0,7/principal=0,?/action=1,3/resource=2,4/context=6,?/day=2000-01-01/node=2,var,p/node=2,slot,p/node=0,eq,0,1/policy=5,permit,2/link=0,1,-/" "refused=5,38,0/"  -- no such value
    ∷ case "value=entity,0,7/principal=0,?/action=1,3/resource=2,4/context=6,?/day=2000-01-01/node=2,var,p/node=2,slot,p/node=0,eq,0,1/policy=5,permit,2/link=1,0,-/" "refused=5,38,0/"  -- no such policy
    ∷ case "value=entity,0,7/principal=0,?/action=1,3/resource=2,4/context=6,?/day=2000-01-01/node=2,var,p/node=2,slot,p/node=0,eq,0,1/policy=5,permit,2/link=0,0,-/link=0,0,-/" "refused=5,39,0/"  -- "at most one each"
    ∷ case "value=entity,2,9/principal=0,?/action=1,3/resource=2,4/context=6,?/day=2000-01-01/node=2,var,p/node=2,slot,p/node=0,eq,0,1/policy=5,permit,2/link=0,0,-/" "refused=7,38,0/"  -- "a value that does not fit the slot's type 7"
    ∷ case "value=entity,0,7/principal=0,?/action=1,3/resource=2,4/context=6,?/day=2000-01-01/node=2,var,p/node=2,slot,p/node=0,eq,0,1/node=2,var,p/policy=5,permit,2/" "refused=5,38,0/"  -- "A slot whose policy has no link line gets 5 .. before unused nodes"
    ∷ case "value=entity,0,7/principal=0,?/action=1,3/resource=2,4/context=6,?/day=2000-01-01/node=2,var,p/node=2,slot,p/node=0,eq,0,1/node=2,var,p/policy=5,permit,2/link=0,0,-/" "refused=8,37,0/"  -- then unused nodes
    ∷ case "value=entity,0,7/principal=0,?/action=1,3/resource=2,4/context=6,?/day=2000-01-01/node=2,var,p/node=2,slot,p/node=0,eq,0,1/node=0,not,2/policy=5,permit,3/policy=6,permit,2/" "refused=8,39,0/"  -- "other nodes keep their single use"
    ∷ case "value=entity,0,7/principal=0,?/action=1,3/resource=2,4/context=6,?/day=2000-01-01/node=0,slot,p/" "refused=7,34,0/"  -- "have an entity type"
    ∷ case "value=entity,0,7/principal=0,?/action=1,3/resource=2,4/context=6,?/day=2000-01-01/node=2,slot,a/" "refused=3,34,0/"  -- `slot,p` and `slot,r` only
    ∷ case "value=entity,0,7/principal=0,?/action=1,3/resource=2,4/context=6,?/day=2000-01-01/node=2,var,p/node=2,slot,p/node=0,eq,0,1/policy=5,permit,2/term=0,2000-01-01,2000-01-01/link=0,0,-/" "refused=3,39,0/"  -- a link after the terms
    ∷ []

other_templates_law : shown_all head other_templates ≡ says_all other_templates
unfolding head other_templates shown keys forms form_of slot_at counted tag_of row_of key_of refs ascendings fits_in nodes_under typed found depth fault more read types value_rows contents schema trees exprs on_term n_policies policies n_env env run results answer returned ancestors unknown_above order same place insert ascending make_set
other_templates_law = refl
