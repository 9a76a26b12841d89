-- An accepted sheet read: its types, values and policies by content, its schema, and the known parts of its request and entities.
-- Rows refer only to earlier ones of their key, so each list of contents is built line by line over the contents before.
use Rattle.std.specs.Prelude.{Bool, true, false, cond, ◌&&◌, List, [], ◌∷◌, ◌++◌, ℕ, suc, ◌-◌, leb, eqb, get_or, drop}
use Rattle.std.proofs.Math.Option.{Option, none, some}
use Rattle.cedar.specs.Value.{Value, vbool, vlong, vtext, vent, vset, vrec, Values, vnil, vcons, Fields, fnil, fcons}
use Rattle.cedar.specs.Canonical.{ascending, make_set}
use Rattle.cedar.specs.Types.{Ty, tbool, tlong, tstr, tent, tset, trec, Attrs, anil, acons, Schema, Var, principal, action, resource, context}
use Rattle.cedar.specs.Residual.{Item, star, piece, Node, Nodes, NodeArgs, lit, err, var, and, or, ite, un, bin, rel, get, has, haspath, set, rec, enil, econs, gnil, gcons, unot, uneg, uempty, uis, ulike, beq, blt, ble, badd, bsub, bmul, bcontains, ball, bany, rin, rgettag, rhastag}
use Rattle.cedar.specs.Entities.{Env, Line, PEnv, PLine}
use Rattle.cedar.specs.Response.{Effect, permit, forbid}
use Rattle.cedar.specs.Rows.{Entries, stop, entry, Row, rbool, rlong, rtext, rent, rset, rrec, same_row}
use Rattle.cedar.specs.Numbered.{Give, made, old, NLine, NEnv}
use Rattle.sheet.specs.Forms.{Mode, partial, complete, tag, items, at, keep, mark, first_node, TEXT, TYPE, VALUE, ENTITY, PRINCIPAL, ACTION, RESOURCE, CONTEXT, DAY, NODE, POLICY, LINK, TERM}
use Rattle.sheet.specs.State.{State, line_at, lines_of, Declared, TypeRow, bool, long, string, entity, set', record', type_row, value_row, value_at, entity_lines}
use Rattle.sheet.specs.Typing.{is_action, attributes_of, tags_of, above_of, slot_value}
use Rattle.sheet.specs.Parents.{ancestors, unknown_above}
use Rattle.cedar.specs.Runs.{Policy, NPolicy}

-- ---- types

abbrev pub attrs_over : List Ty → List Declared → Attrs
attrs_over ts [] = anil
attrs_over ts (d ∷ ds) = acons d.text d.required (get_or ts d.type tbool) (attrs_over ts ds)

abbrev pub ty_over : List Ty → TypeRow → Ty
ty_over ts bool = tbool
ty_over ts long = tlong
ty_over ts string = tstr
ty_over ts (entity k ks) = tent k ks
ty_over ts (set' t) = tset (get_or ts t tbool)
ty_over ts (record' ds) = trec (attrs_over ts ds)

abbrev pub tys_from : List Ty → List (List ℕ) → List Ty
tys_from ts [] = ts
tys_from ts (r ∷ rs) = tys_from (ts ++ (ty_over ts (type_row r) ∷ [])) rs

unfoldable pub types : State → List Ty
types s = tys_from [] (lines_of s TYPE)

-- ---- values

abbrev pub members_over : List Value → List ℕ → Values
members_over vs [] = vnil
members_over vs (n ∷ l) = vcons (get_or vs n (vbool false)) (members_over vs l)

abbrev pub fields_over : List Value → Entries → Fields
fields_over vs stop = fnil
fields_over vs (entry t n e) = fcons t (get_or vs n (vbool false)) (fields_over vs e)

abbrev pub value_over : List Value → Row → Value
value_over vs (rbool b) = vbool b
value_over vs (rlong n) = vlong n
value_over vs (rtext t) = vtext t
value_over vs (rent k t) = vent k t
value_over vs (rset l) = make_set (members_over vs l)
value_over vs (rrec e) = vrec (fields_over vs e)

abbrev pub values_from : List Value → List Row → List Value
values_from vs [] = vs
values_from vs (r ∷ rs) = values_from (vs ++ (value_over vs r ∷ [])) rs

abbrev pub rows_in : List (List ℕ) → List Row
rows_in [] = []
rows_in (r ∷ rs) = value_row r ∷ rows_in rs

-- the values by number, and by content
unfoldable pub value_rows : State → List Row
value_rows s = rows_in (lines_of s VALUE)

unfoldable pub contents : State → List Value
contents s = values_from [] (value_rows s)

-- ---- schema

abbrev pub attrs_in : Ty → Attrs
attrs_in tbool = anil
attrs_in tlong = anil
attrs_in tstr = anil
attrs_in (tent k ks) = anil
attrs_in (tset A) = anil
attrs_in (trec R) = R

abbrev pub tag_ty : List Ty → ℕ → Option Ty
tag_ty ts y = cond (eqb y mark) none (some (get_or ts y tbool))

abbrev pub request_ty : State → List Ty → Var → Ty
request_ty s ts principal = tent (at (line_at s PRINCIPAL 0) 0) []
request_ty s ts action = tent (at (line_at s ACTION 0) 0) []
request_ty s ts resource = tent (at (line_at s RESOURCE 0) 0) []
request_ty s ts context = get_or ts (at (line_at s CONTEXT 0) 0) tbool

abbrev pub schema_over : State → List Ty → Schema
schema_over s ts = record {
  shape = λ k. record { is_action = is_action s k; attrs = attrs_in (get_or ts (attributes_of s k) tbool); tags = tag_ty ts (tags_of s k); above = above_of s k };
  bytes = λ t. items (line_at s TEXT t);
  request = request_ty s ts;
}

unfoldable pub schema : State → Schema
schema s = schema_over s (types s)

-- ---- nodes, as trees whose literals are value numbers or contents

abbrev pub var_of : ℕ → Var
var_of x = get_or (principal ∷ action ∷ resource ∷ context ∷ []) x context

abbrev pub pattern_of : List ℕ → List Item
pattern_of [] = []
pattern_of (x ∷ l) = cond (eqb x mark) star (piece x) ∷ pattern_of l

module _ {L : Type 0} (ts : List Ty) (value : ℕ → L) where
  abbrev pub child : List (Node L) → ℕ → Node L
  child ns n = get_or ns n (err tbool)

  abbrev pub children_over : List (Node L) → List ℕ → Nodes L
  children_over ns [] = enil
  children_over ns (n ∷ l) = econs (child ns n) (children_over ns l)

  abbrev pub args_over : List (Node L) → List ℕ → NodeArgs L
  args_over ns [] = gnil
  args_over ns (t ∷ []) = gnil
  args_over ns (t ∷ n ∷ l) = gcons t (child ns n) (args_over ns l)

  -- what stands for a slot of this type: 0 the principal's, 1 the resource's
  module _ (slot : Ty → ℕ → Node L) where
    -- one tree for each operation, in the table's order: T the type, r the row, c its children
    abbrev pub tree_for : List (Node L) → List ℕ → Ty → (ℕ → Node L) → List (Node L)
    tree_for ns r T c =
        lit T (value (at r 1))
        ∷ err T
        ∷ var T (var_of (at r 1))
        ∷ and T (c 1) (c 2)
        ∷ or T (c 1) (c 2)
        ∷ bin T beq (c 1) (c 2)
        ∷ bin T blt (c 1) (c 2)
        ∷ bin T ble (c 1) (c 2)
        ∷ bin T badd (c 1) (c 2)
        ∷ bin T bsub (c 1) (c 2)
        ∷ bin T bmul (c 1) (c 2)
        ∷ rel T rin (c 1) (c 2)
        ∷ rel T rgettag (c 1) (c 2)
        ∷ rel T rhastag (c 1) (c 2)
        ∷ bin T bcontains (c 1) (c 2)
        ∷ bin T ball (c 1) (c 2)
        ∷ bin T bany (c 1) (c 2)
        ∷ ite T (c 1) (c 2) (c 3)
        ∷ un T (uis (at r 2)) (c 1)
        ∷ un T (ulike (pattern_of (drop 2 (items r)))) (c 1)
        ∷ get T (c 1) (at r 2)
        ∷ has T (c 1) (at r 2)
        ∷ haspath T (c 1) (at r 2) (drop 3 (items r))
        ∷ un T unot (c 1)
        ∷ un T uneg (c 1)
        ∷ un T uempty (c 1)
        ∷ set T (children_over ns (drop 1 (items r)))
        ∷ rec T (args_over ns (drop 1 (items r)))
        ∷ slot T (at r 1)
        ∷ []

    abbrev pub tree_over : List (Node L) → List ℕ → Node L
    tree_over ns r = get_or (tree_for ns r (get_or ts (at r 0) tbool) (λ j. child ns (at r j))) (tag r - first_node) (err tbool)

    abbrev pub trees_from : List (Node L) → List (List ℕ) → List (Node L)
    trees_from ns [] = ns
    trees_from ns (r ∷ rs) = trees_from (ns ++ (tree_over ns r ∷ [])) rs

-- ---- policies

-- whether policy n runs on day d: "Both edge days belong to the term", "Without a term it always runs"
abbrev pub runs_on : ℕ → List (List ℕ) → ℕ → Bool
runs_on d [] n = true
runs_on d (r ∷ rs) n = cond (eqb (at r 0) n) (leb (at r 1) d && leb d (at r 2)) (runs_on d rs n)

-- the two values of policy n's link line, marks where it has none
abbrev pub link_of : List (List ℕ) → ℕ → List ℕ
link_of [] n = mark ∷ mark ∷ []
link_of (r ∷ rs) n = cond (eqb n (at r 0)) (at r 1 ∷ at r 2 ∷ []) (link_of rs n)

-- a policy's row, and after it its link's values: id, effect, node, principal's value, resource's value
abbrev pub with_link : List ℕ → List ℕ → List ℕ
with_link r l = tag r ∷ at r 0 ∷ at r 1 ∷ at r 2 ∷ l

-- of policy lines, numbered from n, those that run, with their links: "A policy off term is skipped"
abbrev pub running : (ℕ → Bool) → (ℕ → List ℕ) → ℕ → List (List ℕ) → List (List ℕ)
running runs link n [] = []
running runs link n (r ∷ rs) = keep (runs n) (with_link r (link n)) (running runs link (suc n) rs)

unfoldable pub on_term : State → List (List ℕ)
on_term s = running (runs_on (at (line_at s DAY 0) 0) (lines_of s TERM)) (link_of (lines_of s LINK)) 0 (lines_of s POLICY)

abbrev pub effect_of : ℕ → Effect
effect_of x = get_or (permit ∷ forbid ∷ []) x permit

-- ns: all trees, by a link's two values
abbrev pub numbered_policies : (ℕ → ℕ → List (Node ℕ)) → List (List ℕ) → List NPolicy
numbered_policies ns [] = []
numbered_policies ns (r ∷ rs) = record { effect = effect_of (at r 1); tree = get_or (ns (at r 3) (at r 4)) (at r 2) (err tbool) } ∷ numbered_policies ns rs

abbrev pub content_policies : (ℕ → ℕ → List (Node Value)) → List (List ℕ) → List Policy
content_policies ns [] = []
content_policies ns (r ∷ rs) = record { effect = effect_of (at r 1); tree = get_or (ns (at r 3) (at r 4)) (at r 2) (err tbool) } ∷ content_policies ns rs

-- "Linking replaces each slot by a `lit` of its type"
abbrev pub linked : {L : Type 0} → (ℕ → L) → ℕ → ℕ → Ty → ℕ → Node L
linked value p q T x = lit T (value (slot_value p q x))

unfoldable pub trees : State → ℕ → ℕ → List (Node ℕ)
trees s p q = trees_from (types s) (λ n. n) (linked (λ n. n) p q) [] (lines_of s NODE)

-- the content that a value number stands for
abbrev pub content_of : State → ℕ → Value
content_of s n = get_or (contents s) n (vbool false)

unfoldable pub exprs : State → ℕ → ℕ → List (Node Value)
exprs s p q = trees_from (types s) (content_of s) (linked (content_of s) p q) [] (lines_of s NODE)

unfoldable pub n_policies : State → List NPolicy
n_policies s = numbered_policies (trees s) (on_term s)

unfoldable pub policies : State → List Policy
policies s = content_policies (exprs s) (on_term s)

-- ---- the request and the entities

-- "A look-up of an entity finds its line or finds none"
abbrev pub entity_line : State → Row → List (List ℕ) → Option (List ℕ)
entity_line s e [] = none
entity_line s e (r ∷ rs) = cond (same_row (value_at s (at r 0)) e) (some r) (entity_line s e rs)

abbrev pub look_up : State → ℕ → ℕ → Option (List ℕ)
look_up s k t = entity_line s (rent k t) (lines_of s ENTITY)

-- known parts by number
abbrev pub known : {A : Type 0} → ℕ → A → Option A
known n a = cond (eqb n mark) none (some a)

abbrev pub entity_given : List ℕ → Option Give
entity_given r = known (at r 1) (made (rent (at r 0) (at r 1)))

abbrev pub given : State → Var → Option Give
given s principal = entity_given (line_at s PRINCIPAL 0)
given s action = entity_given (line_at s ACTION 0)
given s resource = entity_given (line_at s RESOURCE 0)
given s context = known (at (line_at s CONTEXT 0) 1) (old (at (line_at s CONTEXT 0) 1))

-- the numbers of the ancestors of the entity with value number n
abbrev pub above : State → ℕ → List ℕ
above s n = ancestors (lines_of s VALUE) (entity_lines s) n

-- where they are known
abbrev pub known_above : Mode → State → ℕ → Option (List ℕ)
known_above partial s n = cond (unknown_above (lines_of s VALUE) (entity_lines s) n) none (some (above s n))
known_above complete s n = some (above s n)

abbrev pub map_some : {A B : Type 0} → (A → B) → Option A → Option B
map_some f none = none
map_some f (some a) = some (f a)

abbrev pub parts_given : Mode → State → List ℕ → NLine
parts_given m s r = record { attrs = known (at r 1) (old (at r 1)); tags = known (at r 2) (old (at r 2)); ancestors = map_some (λ l. made (rset l)) (known_above m s (at r 0)) }

-- "Unlisted entity on a partial sheet .. is unknown"; "In a complete run an unlisted entity has no attributes, tags or ancestors", as it has no parents
abbrev pub unlisted : Mode → Option NLine
unlisted partial = none
unlisted complete = some (record { attrs = some (made (rrec stop)); tags = some (made (rrec stop)); ancestors = some (made (rset [])) })

abbrev pub line_given : Mode → State → Option (List ℕ) → Option NLine
line_given m s none = unlisted m
line_given m s (some r) = some (parts_given m s r)

unfoldable pub n_env : Mode → State → NEnv
n_env m s = record { request = given s; line = λ k t. line_given m s (look_up s k t) }

-- and by content
abbrev pub fields_in : Value → Fields
fields_in (vbool b) = fnil
fields_in (vlong n) = fnil
fields_in (vtext t) = fnil
fields_in (vent k t) = fnil
fields_in (vset vs) = fnil
fields_in (vrec fs) = fs

-- the set that these numbers stand for
abbrev pub set_over : List Value → List ℕ → Values
set_over vs l = ascending (members_over vs l)

abbrev pub content_in : List Value → ℕ → Value
content_in vs n = get_or vs n (vbool false)

abbrev pub requested : State → List Value → Var → Value
requested s vs principal = vent (at (line_at s PRINCIPAL 0) 0) (at (line_at s PRINCIPAL 0) 1)
requested s vs action = vent (at (line_at s ACTION 0) 0) (at (line_at s ACTION 0) 1)
requested s vs resource = vent (at (line_at s RESOURCE 0) 0) (at (line_at s RESOURCE 0) 1)
requested s vs context = content_in vs (at (line_at s CONTEXT 0) 1)

abbrev pub line_in : State → List Value → List ℕ → Line
line_in s vs r = record { attrs = fields_in (content_in vs (at r 1)); tags = fields_in (content_in vs (at r 2)); ancestors = set_over vs (above s (at r 0)) }

abbrev pub line_found : State → List Value → Option (List ℕ) → Option Line
line_found s vs none = none
line_found s vs (some r) = some (line_in s vs r)

-- of a complete sheet
unfoldable pub env : State → Env
env s = record { request = requested s (contents s); line = λ k t. line_found s (contents s) (look_up s k t) }

abbrev pub entity_known : List ℕ → Option Value
entity_known r = known (at r 1) (vent (at r 0) (at r 1))

abbrev pub request_known : State → List Value → Var → Option Value
request_known s vs principal = entity_known (line_at s PRINCIPAL 0)
request_known s vs action = entity_known (line_at s ACTION 0)
request_known s vs resource = entity_known (line_at s RESOURCE 0)
request_known s vs context = known (at (line_at s CONTEXT 0) 1) (content_in vs (at (line_at s CONTEXT 0) 1))

abbrev pub parts_in : Mode → State → List Value → List ℕ → PLine
parts_in m s vs r = record {
  attrs = known (at r 1) (fields_in (content_in vs (at r 1)));
  tags = known (at r 2) (fields_in (content_in vs (at r 2)));
  ancestors = map_some (set_over vs) (known_above m s (at r 0));
}

abbrev pub parts_found : State → List Value → Option (List ℕ) → Option PLine
parts_found s vs none = none
parts_found s vs (some r) = some (parts_in partial s vs r)

-- of a partial sheet
unfoldable pub p_env : State → PEnv
p_env s = record { request = request_known s (contents s); line = λ k t. parts_found s (contents s) (look_up s k t) }
