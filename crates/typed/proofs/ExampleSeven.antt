-- The hypotheses are met: a faulty line of each kind that refusal 7 has, each on a sheet that is refused there with 7; what the theorems then say of it. Assumes nothing.
use mathlib.Core.Path.{◌≡◌, refl}
use mathlib.Core.List.{List, []}
use Prim.Native.Nat.{ℕ}
use lib.ListN.{get_or}
use Rattle.cedar.specs.Types.{Ty, tbool}
use Rattle.cedar.specs.Residual.{err}
use Rattle.cedar.specs.Typing.{Typed}
use Rattle.sheet.specs.Ascii.{ascii}
use Rattle.sheet.specs.Bytes.{split}
use Rattle.sheet.specs.Forms.{keys, partial, forms, form_of, slot_at, counted, tag_of, row_of, key_of, refs, ascendings, NODE}
use Rattle.sheet.specs.State.{State, lines_of}
use Rattle.sheet.specs.Parents.{ancestors, unknown_above}
use Rattle.sheet.specs.Typing.{fits_in, nodes_under, typed}
use Rattle.sheet.specs.Sheet.{found, depth, fault, more, read}
use Rattle.sheet.specs.Content.{types, content_of, schema, tree_over, trees_from, linked, exprs}
use Rattle.sheet.proofs.answer.Shown.{line_ends}
use Rattle.sheet.proofs.reading.Depths.{read_reached}
use Rattle.typed.specs.ByContent.{Untyped}
use Rattle.typed.proofs.Refused.{read_seven, node_untyped}
use Rattle.typed.proofs.LinkedTrees.{link_untyped}

-- types: bool, an empty record, entities of kind 0; values: an entity and a bool

-- a shape of bools
unfoldable shape_of_bool : List ℕ
shape_of_bool = line_ends (ascii "sheet=partial/text=Broker/text=Action/text=Tariff/text=quote/text=T1/text=p0/kind=0,e/kind=1,a/kind=2,e/type=bool/type=record/type=entity,0/shape=0,-/")

shape_of_bool_line : (read partial shape_of_bool).line ≡ 14
unfolding shape_of_bool keys forms form_of slot_at counted tag_of row_of key_of refs ascendings fits_in nodes_under typed found depth fault more read ancestors unknown_above
shape_of_bool_line = refl

shape_of_bool_untyped : Untyped partial (split 10 shape_of_bool) (read partial shape_of_bool)
unfolding shape_of_bool keys forms form_of slot_at counted tag_of row_of key_of refs ascendings fits_in nodes_under typed found depth fault more read ancestors unknown_above
shape_of_bool_untyped = read_seven partial shape_of_bool refl

-- an entity line of a bool
unfoldable entity_of_bool : List ℕ
entity_of_bool = line_ends (ascii "sheet=partial/text=Broker/text=Action/text=Tariff/text=quote/text=T1/text=p0/kind=0,e/kind=1,a/kind=2,e/type=bool/type=record/type=entity,0/shape=1,-/shape=1,-/shape=1,-/value=entity,0,5/value=bool,1/entity=1,?,?,?/")

entity_of_bool_line : (read partial entity_of_bool).line ≡ 19
unfolding entity_of_bool keys forms form_of slot_at counted tag_of row_of key_of refs ascendings fits_in nodes_under typed found depth fault more read ancestors unknown_above
entity_of_bool_line = refl

entity_of_bool_untyped : Untyped partial (split 10 entity_of_bool) (read partial entity_of_bool)
unfolding entity_of_bool keys forms form_of slot_at counted tag_of row_of key_of refs ascendings fits_in nodes_under typed found depth fault more read ancestors unknown_above
entity_of_bool_untyped = read_seven partial entity_of_bool refl

-- an entity whose attributes are a bool
unfoldable attributes_of_bool : List ℕ
attributes_of_bool = line_ends (ascii "sheet=partial/text=Broker/text=Action/text=Tariff/text=quote/text=T1/text=p0/kind=0,e/kind=1,a/kind=2,e/type=bool/type=record/type=entity,0/shape=1,-/shape=1,-/shape=1,-/value=entity,0,5/value=bool,1/entity=0,1,?,?/")

attributes_of_bool_line : (read partial attributes_of_bool).line ≡ 19
unfolding attributes_of_bool keys forms form_of slot_at counted tag_of row_of key_of refs ascendings fits_in nodes_under typed found depth fault more read ancestors unknown_above
attributes_of_bool_line = refl

attributes_of_bool_untyped : Untyped partial (split 10 attributes_of_bool) (read partial attributes_of_bool)
unfolding attributes_of_bool keys forms form_of slot_at counted tag_of row_of key_of refs ascendings fits_in nodes_under typed found depth fault more read ancestors unknown_above
attributes_of_bool_untyped = read_seven partial attributes_of_bool refl

-- brokers are in tariffs and tariffs in brokers; a broker reaches a broker, whose kind is not above its own
unfoldable reaches_own_kind : List ℕ
reaches_own_kind = line_ends (ascii "sheet=partial/text=Broker/text=Action/text=Tariff/text=quote/text=T1/text=p0/kind=0,e/kind=1,a/kind=2,e/type=bool/type=record/type=entity,0/shape=1,-,2/shape=1,-/shape=1,-,0/value=entity,0,5/value=entity,2,4/value=entity,0,4/value=set,1/value=set,2/entity=0,?,?,3/entity=1,?,?,4/principal=0,?/")

reaches_own_kind_line : (read partial reaches_own_kind).line ≡ 22
unfolding reaches_own_kind keys forms form_of slot_at counted tag_of row_of key_of refs ascendings fits_in nodes_under typed found depth fault more read ancestors unknown_above
reaches_own_kind_line = refl

reaches_own_kind_untyped : Untyped partial (split 10 reaches_own_kind) (read partial reaches_own_kind)
unfolding reaches_own_kind keys forms form_of slot_at counted tag_of row_of key_of refs ascendings fits_in nodes_under typed found depth fault more read ancestors unknown_above
reaches_own_kind_untyped = read_seven partial reaches_own_kind refl

-- a principal of an action's kind
unfoldable action_asks : List ℕ
action_asks = line_ends (ascii "sheet=partial/text=Broker/text=Action/text=Tariff/text=quote/text=T1/text=p0/kind=0,e/kind=1,a/kind=2,e/type=bool/type=record/type=entity,0/shape=1,-/shape=1,-/shape=1,-/value=entity,0,5/value=bool,1/principal=1,?/")

action_asks_line : (read partial action_asks).line ≡ 19
unfolding action_asks keys forms form_of slot_at counted tag_of row_of key_of refs ascendings fits_in nodes_under typed found depth fault more read ancestors unknown_above
action_asks_line = refl

action_asks_untyped : Untyped partial (split 10 action_asks) (read partial action_asks)
unfolding action_asks keys forms form_of slot_at counted tag_of row_of key_of refs ascendings fits_in nodes_under typed found depth fault more read ancestors unknown_above
action_asks_untyped = read_seven partial action_asks refl

-- a context of bools
unfoldable context_of_bool : List ℕ
context_of_bool = line_ends (ascii "sheet=partial/text=Broker/text=Action/text=Tariff/text=quote/text=T1/text=p0/kind=0,e/kind=1,a/kind=2,e/type=bool/type=record/type=entity,0/shape=1,-/shape=1,-/shape=1,-/value=entity,0,5/value=bool,1/principal=0,?/action=1,3/resource=2,4/context=0,?/")

context_of_bool_line : (read partial context_of_bool).line ≡ 22
unfolding context_of_bool keys forms form_of slot_at counted tag_of row_of key_of refs ascendings fits_in nodes_under typed found depth fault more read ancestors unknown_above
context_of_bool_line = refl

context_of_bool_untyped : Untyped partial (split 10 context_of_bool) (read partial context_of_bool)
unfolding context_of_bool keys forms form_of slot_at counted tag_of row_of key_of refs ascendings fits_in nodes_under typed found depth fault more read ancestors unknown_above
context_of_bool_untyped = read_seven partial context_of_bool refl

-- an entity's value as a bool
unfoldable entity_for_bool : List ℕ
entity_for_bool = line_ends (ascii "sheet=partial/text=Broker/text=Action/text=Tariff/text=quote/text=T1/text=p0/kind=0,e/kind=1,a/kind=2,e/type=bool/type=record/type=entity,0/shape=1,-/shape=1,-/shape=1,-/value=entity,0,5/value=bool,1/principal=0,?/action=1,3/resource=2,4/context=1,?/day=2000-01-01/node=0,lit,0/")

entity_for_bool_line : (read partial entity_for_bool).line ≡ 24
unfolding entity_for_bool keys forms form_of slot_at counted tag_of row_of key_of refs ascendings fits_in nodes_under typed found depth fault more read ancestors unknown_above
entity_for_bool_line = refl

entity_for_bool_untyped : Untyped partial (split 10 entity_for_bool) (read partial entity_for_bool)
unfolding entity_for_bool keys forms form_of slot_at counted tag_of row_of key_of refs ascendings fits_in nodes_under typed found depth fault more read ancestors unknown_above
entity_for_bool_untyped = read_seven partial entity_for_bool refl

-- the negation of an entity
unfoldable not_an_entity : List ℕ
not_an_entity = line_ends (ascii "sheet=partial/text=Broker/text=Action/text=Tariff/text=quote/text=T1/text=p0/kind=0,e/kind=1,a/kind=2,e/type=bool/type=record/type=entity,0/shape=1,-/shape=1,-/shape=1,-/value=entity,0,5/value=bool,1/principal=0,?/action=1,3/resource=2,4/context=1,?/day=2000-01-01/node=2,lit,0/node=0,not,0/")

not_an_entity_line : (read partial not_an_entity).line ≡ 25
unfolding not_an_entity keys forms form_of slot_at counted tag_of row_of key_of refs ascendings fits_in nodes_under typed found depth fault more read ancestors unknown_above
not_an_entity_line = refl

not_an_entity_untyped : Untyped partial (split 10 not_an_entity) (read partial not_an_entity)
unfolding not_an_entity keys forms form_of slot_at counted tag_of row_of key_of refs ascendings fits_in nodes_under typed found depth fault more read ancestors unknown_above
not_an_entity_untyped = read_seven partial not_an_entity refl

-- a slot for a bool
unfoldable slot_of_bool : List ℕ
slot_of_bool = line_ends (ascii "sheet=partial/text=Broker/text=Action/text=Tariff/text=quote/text=T1/text=p0/kind=0,e/kind=1,a/kind=2,e/type=bool/type=record/type=entity,0/shape=1,-/shape=1,-/shape=1,-/value=entity,0,5/value=bool,1/principal=0,?/action=1,3/resource=2,4/context=1,?/day=2000-01-01/node=0,slot,p/")

slot_of_bool_line : (read partial slot_of_bool).line ≡ 24
unfolding slot_of_bool keys forms form_of slot_at counted tag_of row_of key_of refs ascendings fits_in nodes_under typed found depth fault more read ancestors unknown_above
slot_of_bool_line = refl

slot_of_bool_untyped : Untyped partial (split 10 slot_of_bool) (read partial slot_of_bool)
unfolding slot_of_bool keys forms form_of slot_at counted tag_of row_of key_of refs ascendings fits_in nodes_under typed found depth fault more read ancestors unknown_above
slot_of_bool_untyped = read_seven partial slot_of_bool refl

-- a policy whose root is an entity
unfoldable entity_policy : List ℕ
entity_policy = line_ends (ascii "sheet=partial/text=Broker/text=Action/text=Tariff/text=quote/text=T1/text=p0/kind=0,e/kind=1,a/kind=2,e/type=bool/type=record/type=entity,0/shape=1,-/shape=1,-/shape=1,-/value=entity,0,5/value=bool,1/principal=0,?/action=1,3/resource=2,4/context=1,?/day=2000-01-01/node=2,var,p/policy=5,permit,0/")

entity_policy_line : (read partial entity_policy).line ≡ 25
unfolding entity_policy keys forms form_of slot_at counted tag_of row_of key_of refs ascendings fits_in nodes_under typed found depth fault more read ancestors unknown_above
entity_policy_line = refl

entity_policy_untyped : Untyped partial (split 10 entity_policy) (read partial entity_policy)
unfolding entity_policy keys forms form_of slot_at counted tag_of row_of key_of refs ascendings fits_in nodes_under typed found depth fault more read ancestors unknown_above
entity_policy_untyped = read_seven partial entity_policy refl

-- a bool linked to a slot for brokers
unfoldable bool_linked : List ℕ
bool_linked = line_ends (ascii "sheet=partial/text=Broker/text=Action/text=Tariff/text=quote/text=T1/text=p0/kind=0,e/kind=1,a/kind=2,e/type=bool/type=record/type=entity,0/shape=1,-/shape=1,-/shape=1,-/value=entity,0,5/value=bool,1/principal=0,?/action=1,3/resource=2,4/context=1,?/day=2000-01-01/node=2,slot,p/node=2,var,p/node=0,eq,0,1/policy=5,permit,2/link=0,1,-/")

bool_linked_line : (read partial bool_linked).line ≡ 28
unfolding bool_linked keys forms form_of slot_at counted tag_of row_of key_of refs ascendings fits_in nodes_under typed found depth fault more read ancestors unknown_above
bool_linked_line = refl

bool_linked_untyped : Untyped partial (split 10 bool_linked) (read partial bool_linked)
unfolding bool_linked keys forms form_of slot_at counted tag_of row_of key_of refs ascendings fits_in nodes_under typed found depth fault more read ancestors unknown_above
bool_linked_untyped = read_seven partial bool_linked refl

-- the tree of that negation has no type, whatever the link
abbrev s : State
s = (read partial not_an_entity).state

no_type : (p q : ℕ) (A : Ty) → Typed (schema s) (tree_over (types s) (content_of s) (linked (content_of s) p q) (trees_from (types s) (content_of s) (linked (content_of s) p q) [] (lines_of s NODE)) (row_of partial (ascii "node=0,not,0"))) A → ⊥
unfolding not_an_entity keys forms form_of slot_at counted tag_of row_of key_of refs ascendings fits_in nodes_under typed found depth fault more read ancestors unknown_above
no_type p q = node_untyped (read_reached partial not_an_entity) (ascii "node=0,not,0") refl (linked (content_of s) p q) (λ A x. refl) refl refl

-- the tree that this link would make has no type
abbrev u : State
u = (read partial bool_linked).state

no_link : (A : Ty) → Typed (schema u) (get_or (exprs u 1 10000) 2 (err tbool)) A → ⊥
unfolding bool_linked keys forms form_of slot_at counted tag_of row_of key_of refs ascendings fits_in nodes_under typed found depth fault more read ancestors unknown_above
no_link = link_untyped (read_reached partial bool_linked) (ascii "link=0,1,-") refl refl
