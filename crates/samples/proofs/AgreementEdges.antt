-- Agreement, by computation on pairs of sheets: on the partial one an entity is listed of which only the tags are known, and all of the request that may be
-- is unknown. Each pair fails if one line of `agrees` is changed (scripts/mutants.txt).
use mathlib.Core.Path.{◌≡◌, refl}
use mathlib.Core.Bool.{Bool, true, false}
use mathlib.Core.List.{List, [], ◌∷◌}
use Prim.Native.Nat.{ℕ}
use Prim.Native.String.{String}
use Rattle.sheet.specs.Forms.{partial, complete, keys, forms, form_of, slot_at, counted, tag_of, row_of, key_of, refs, ascendings}
use Rattle.sheet.specs.Typing.{fits_in, nodes_under, typed}
use Rattle.sheet.specs.Parents.{ancestors, unknown_above}
use Rattle.sheet.specs.Sheet.{found, depth, fault, more, read}
use Rattle.sheet.specs.Agreement.{agrees}
use Rattle.sheet.proofs.answer.Shown.{bytes}

unfoldable shown_part : List ℕ
shown_part = bytes "sheet=partial/text=P/text=A/text=a/text=x/kind=0,e/kind=1,a/kind=2,e/type=bool/type=record/type=string/shape=1,2/shape=1,-/shape=1,-/value=entity,0,2/value=record/value=bool,1/entity=0,?,1,?/principal=0,?/action=1,1/resource=0,?/context=1,?/day=2000-01-01/node=0,lit,2/policy=2,permit,0/"

abbrev with_it : List String → List Bool
with_it [] = []
with_it (c ∷ cs) = agrees (read partial shown_part).state (read complete (bytes c)).state ∷ with_it cs

agreeing : List String
agreeing =
    "sheet=complete/text=P/text=A/text=a/text=x/kind=0,e/kind=1,a/kind=2,e/type=bool/type=record/type=string/shape=1,2/shape=1,-/shape=1,-/value=entity,0,2/value=record/value=bool,1/value=set/value=text,3/value=record,3,4/value=entity,0,3/entity=0,1,1,3/principal=0,2/action=1,1/resource=0,2/context=1,1/day=2000-01-01/node=0,lit,2/policy=2,permit,0/"  -- values more
    ∷ "sheet=complete/text=P/text=A/text=a/text=x/text=y/kind=0,e/kind=1,a/kind=2,e/type=bool/type=record/type=string/shape=1,2/shape=1,-/shape=1,-/value=entity,0,2/value=record/value=bool,1/value=set/value=text,3/value=record,3,4/value=entity,0,3/entity=0,1,1,3/principal=0,2/action=1,1/resource=0,2/context=1,1/day=2000-01-01/node=0,lit,2/policy=2,permit,0/"  -- a text more
    ∷ "sheet=complete/text=P/text=A/text=a/text=x/kind=0,e/kind=1,a/kind=2,e/type=bool/type=record/type=string/shape=1,2/shape=1,-/shape=1,-/value=entity,0,2/value=record/value=bool,1/value=set/value=text,3/value=record,3,4/value=entity,0,3/entity=0,1,1,3/entity=6,1,1,3/principal=0,2/action=1,1/resource=0,2/context=1,1/day=2000-01-01/node=0,lit,2/policy=2,permit,0/"  -- an entity more
    ∷ []

they_agree : with_it agreeing ≡ true ∷ true ∷ true ∷ []
unfolding shown_part agreeing agrees keys forms form_of slot_at counted tag_of row_of key_of refs ascendings fits_in nodes_under typed found depth fault more read ancestors unknown_above
they_agree = refl

others : List String
others =
    "sheet=complete/text=P/text=A/text=a/text=x/kind=0,e/kind=1,a/kind=2,e/type=bool/type=record/type=string/shape=1,2/shape=1,-/shape=1,-/value=entity,0,2/value=record/value=bool,1/value=set/value=text,3/value=record,3,4/value=entity,0,3/entity=0,1,5,3/principal=0,2/action=1,1/resource=0,2/context=1,1/day=2000-01-01/node=0,lit,2/policy=2,permit,0/"  -- other tags
    ∷ "sheet=complete/text=P/text=A/text=a/text=x/kind=0,e/kind=1,a/kind=2,e/type=bool/type=record/type=string/shape=1,2/shape=1,-/shape=1,-/value=entity,0,2/value=record/value=bool,1/value=set/value=text,3/value=record,3,4/value=entity,0,3/principal=0,2/action=1,1/resource=0,2/context=1,1/day=2000-01-01/node=0,lit,2/policy=2,permit,0/"  -- the entity not listed
    ∷ "sheet=complete/text=P/text=A/text=a/text=x/kind=0,e/kind=1,a/kind=2,e/type=bool/type=record/type=string/shape=1,2/shape=1,-/shape=1,-/value=entity,0,2/value=record/value=bool,1/value=set/value=text,3/value=record,3,4/value=entity,0,3/entity=0,1,1,3/principal=0,2/action=1,1/resource=0,2/context=1,1/day=2000-01-01/node=0,lit,2/policy=2,permit,0/policy=3,permit,0/"  -- a policy more
    ∷ "sheet=complete/text=P/text=A/text=a/text=x/kind=0,e/kind=1,a/kind=2,e/type=bool/type=record/type=string/shape=1,2/shape=1,-/shape=1,-/value=entity,0,2/value=record/value=bool,1/value=set/value=text,3/value=record,3,4/value=entity,0,3/entity=0,1,1,3/principal=2,2/action=1,1/resource=0,2/context=1,1/day=2000-01-01/node=0,lit,2/policy=2,permit,0/"  -- a principal of another kind
    ∷ "sheet=complete/text=P/text=A/text=a/text=x/kind=0,e/kind=1,a/kind=2,e/type=bool/type=record/type=string/shape=1,2/shape=1,-/shape=1,-/value=entity,0,2/value=record/value=bool,1/value=set/value=text,3/value=record,3,4/value=entity,0,3/entity=0,1,1,3/principal=0,2/action=1,1/resource=0,2/context=1,1/day=2000-01-02/node=0,lit,2/policy=2,permit,0/"  -- another day
    ∷ []

they_do_not : with_it others ≡ false ∷ false ∷ false ∷ false ∷ false ∷ []
unfolding shown_part others agrees keys forms form_of slot_at counted tag_of row_of key_of refs ascendings fits_in nodes_under typed found depth fault more read ancestors unknown_above
they_do_not = refl
