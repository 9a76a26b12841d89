-- Document 01, "Typing", with groups of kinds (request 2.7), over the numbers of types, values and nodes. Types are distinct, so one type is one number.
use Rattle.std.specs.Prelude.{Bool, true, false, cond, ◌&&◌, ◌||◌, not, List, [], ◌∷◌, ◌++◌, ℕ, zero, suc, ◌-◌, eqb, get_or, drop}
use Rattle.std.proofs.Math.Option.{Option, none}
use Rattle.sheet.specs.Forms.{tag, items, at, mark, refs, first_node, slot_node, KIND, TYPE, SHAPE, VALUE, PRINCIPAL, ACTION, RESOURCE, CONTEXT, NODE, POLICY}
use Rattle.sheet.specs.Bytes.{same}
use Rattle.sheet.specs.State.{State, count, line_at, lines_of, type_row, value_row, Declared, TypeRow, bool, long, string, entity, set', record', type_at, value_at}
use Rattle.cedar.specs.Rows.{Entries, stop, entry, Row}
use Rattle.cedar.specs.Numbered.{r_bool, r_long, r_text, r_ent, r_set, r_rec, mem_n, pick_n, entry_of, is_some}
use Rattle.cedar.specs.Value.{on_some}

-- taking a type apart; `d` where it is of another sort
module _ {A : Type 0} (d : A) where
  abbrev pub on_entity : TypeRow → (List ℕ → A) → A
  on_entity bool f = d
  on_entity long f = d
  on_entity string f = d
  on_entity (entity k ks) f = f (k ∷ ks)
  on_entity (set' t) f = d
  on_entity (record' ds) f = d

  abbrev pub on_set_of : TypeRow → (ℕ → A) → A
  on_set_of bool f = d
  on_set_of long f = d
  on_set_of string f = d
  on_set_of (entity k ks) f = d
  on_set_of (set' t) f = f t
  on_set_of (record' ds) f = d

  abbrev pub on_record : TypeRow → (List Declared → A) → A
  on_record bool f = d
  on_record long f = d
  on_record string f = d
  on_record (entity k ks) f = d
  on_record (set' t) f = d
  on_record (record' ds) f = f ds

abbrev pub is_bool : TypeRow → Bool
is_bool bool = true
is_bool long = false
is_bool string = false
is_bool (entity k ks) = false
is_bool (set' t) = false
is_bool (record' ds) = false

abbrev pub is_long : TypeRow → Bool
is_long bool = false
is_long long = true
is_long string = false
is_long (entity k ks) = false
is_long (set' t) = false
is_long (record' ds) = false

abbrev pub is_string : TypeRow → Bool
is_string bool = false
is_string long = false
is_string string = true
is_string (entity k ks) = false
is_string (set' t) = false
is_string (record' ds) = false

-- ---- "A value fits a record type if all required attributes are there and each one present is declared and fits"

-- the declared type of an attribute
abbrev pub declared_in : ℕ → List Declared → Option ℕ
declared_in t [] = none
declared_in t (d ∷ ds) = pick_n (eqb t d.text) d.type (declared_in t ds)

abbrev pub required_there : List Declared → (ℕ → Bool) → Bool
required_there [] there = true
required_there (d ∷ ds) there = (not d.required || there d.text) && required_there ds there

abbrev pub all_in : (ℕ → Bool) → List ℕ → Bool
all_in f [] = true
all_in f (x ∷ l) = f x && all_in f l

abbrev pub all_entries : (ℕ → ℕ → Bool) → Entries → Bool
all_entries f stop = true
all_entries f (entry t x e) = f t x && all_entries f e

-- the entries of a record against what is declared; `f x y`: what x stands for fits type y
abbrev pub entries_fit : (ℕ → ℕ → Bool) → List Declared → Entries → Bool
entries_fit f ds e = required_there ds (λ t. is_some (entry_of t e)) && all_entries (λ t x. on_some false (declared_in t ds) (f x)) e

-- a value's row against a type's; "An entity fits if its kind is in the group."
abbrev pub row_fits : (ℕ → ℕ → Bool) → Row → TypeRow → Bool
row_fits f r bool = r_bool false r (λ b. true)
row_fits f r long = r_long false r (λ n. true)
row_fits f r string = r_text false r (λ t. true)
row_fits f r (entity k ks) = r_ent false r (λ l t. mem_n l (k ∷ ks))
row_fits f r (set' y) = r_set false r (all_in (λ x. f x y))
row_fits f r (record' ds) = r_rec false r (entries_fit f ds)

-- value v fits type t, of numbered rows; a tree is never deeper than 64
module _ (values types : List (List ℕ)) where
  abbrev pub fits_by : ℕ → ℕ → ℕ → Bool
  fits_by zero v t = false
  fits_by (suc n) v t = row_fits (fits_by n) (value_row (get_or values v [])) (type_row (get_or types t []))

  unfoldable pub fits_in : ℕ → ℕ → Bool
  fits_in v t = fits_by 64 v t

abbrev pub fits : State → ℕ → ℕ → Bool
fits s v t = fits_in (lines_of s VALUE) (lines_of s TYPE) v t

-- ---- shapes, entities, requests

abbrev pub is_action : State → ℕ → Bool
is_action s k = eqb (at (line_at s KIND k) 1) 1

abbrev pub attributes_of : State → ℕ → ℕ
attributes_of s k = at (line_at s SHAPE k) 0

-- the type of its tags, a mark where it has none
abbrev pub tags_of : State → ℕ → ℕ
tags_of s k = at (line_at s SHAPE k) 1

abbrev pub above_of : State → ℕ → List ℕ
above_of s k = drop 2 (items (line_at s SHAPE k))

abbrev pub none_declared : List Declared → Bool
none_declared [] = true
none_declared (d ∷ ds) = false

-- "Action kinds: empty record and `-`"
abbrev pub shape_typed : State → List ℕ → Bool
shape_typed s r = on_record false (type_at s (at r 0)) (λ ds. not (is_action s (count s SHAPE)) || (none_declared ds && eqb (at r 1) mark))

-- "no tags where it says `-`, else tags of the tag type"
abbrev pub is_stop : Entries → Bool
is_stop stop = true
is_stop (entry t v e) = false

abbrev pub tags_fit : State → ℕ → Entries → Bool
tags_fit s y e = cond (eqb y mark) (is_stop e) (all_entries (λ t v. fits s v y) e)

-- "each ancestor's kind among those above": of an entity of kind k, and the value number v of an ancestor
abbrev pub ancestor_fits : State → ℕ → ℕ → Bool
ancestor_fits s k v = r_ent false (value_at s v) (λ l t. mem_n l (above_of s k))

abbrev pub unknown_or : ℕ → Bool → Bool
unknown_or x b = eqb x mark || b

-- "record, record, set of entity values; each of the three may be `?`"; the last holds parents, whose kinds are "checked .. when it is read"
abbrev pub entity_typed : State → List ℕ → Bool
entity_typed s r = r_ent false (value_at s (at r 0)) (λ k t.
    unknown_or (at r 1) (r_rec false (value_at s (at r 1)) (λ e. fits s (at r 1) (attributes_of s k)))
    && unknown_or (at r 2) (r_rec false (value_at s (at r 2)) (tags_fit s (tags_of s k)))
    && unknown_or (at r 3) (r_set false (value_at s (at r 3)) (all_in (ancestor_fits s k))))

-- "A known context fits its record type"
abbrev pub context_typed : State → List ℕ → Bool
context_typed s r = on_record false (type_at s (at r 0)) (λ ds. unknown_or (at r 1) (fits s (at r 1) (at r 0)))

-- ---- nodes

-- f of what each kind of entity type y declares, or record type y; false of other types
abbrev pub each_of : State → ℕ → (List Declared → Bool) → Bool
each_of s y f = on_entity (on_record false (type_at s y) f) (type_at s y) (all_in (λ k. on_record false (type_at s (attributes_of s k)) f))

-- an entity or set of entities
abbrev pub is_target : State → ℕ → Bool
is_target s y = on_entity (on_set_of false (type_at s y) (λ e. on_entity false (type_at s e) (λ ks. true))) (type_at s y) (λ ks. true)

-- "A `haspath` step before the last must be an entity or record in each kind or record reached that declares it."
abbrev pub path_typed : State → List ℕ → ℕ → ℕ → Bool
path_typed s [] t y = each_of s y (λ ds. true)
path_typed s (u ∷ us) t y = each_of s y (λ ds. on_some true (declared_in t ds) (path_typed s us u))

-- the type of node n
abbrev pub type_of_node : State → ℕ → ℕ
type_of_node s n = at (line_at s NODE n) 0

-- "var has its request type": principal, action, resource, context
abbrev pub entity_is : State → ℕ → ℕ → Bool
entity_is s y k = on_entity false (type_at s y) (λ ks. same ks (at (line_at s k 0) 0 ∷ []))

abbrev pub context_is : State → ℕ → Bool
context_is s y = eqb y (at (line_at s CONTEXT 0) 0)

abbrev pub var_typed : State → ℕ → ℕ → Bool
var_typed s y x = get_or (entity_is s y PRINCIPAL ∷ entity_is s y ACTION ∷ entity_is s y RESOURCE ∷ context_is s y ∷ []) x (context_is s y)

-- ---- templates

-- the tree under each node, as the rows of its nodes, its own first; built line by line over those before
abbrev pub gathered : List (List (List ℕ)) → List ℕ → List (List ℕ)
gathered us [] = []
gathered us (n ∷ l) = get_or us n [] ++ gathered us l

abbrev pub under_from : List (List (List ℕ)) → List (List ℕ) → List (List (List ℕ))
under_from us [] = us
under_from us (r ∷ rs) = under_from (us ++ ((r ∷ gathered us (refs NODE r)) ∷ [])) rs

unfoldable pub nodes_under : State → ℕ → List (List ℕ)
nodes_under s n = get_or (under_from [] (lines_of s NODE)) n []

-- the nodes of policy n
abbrev pub nodes_of : State → ℕ → List (List ℕ)
nodes_of s n = nodes_under s (at (line_at s POLICY n) 2)

abbrev pub is_slot : List ℕ → Bool
is_slot r = eqb (tag r) slot_node

-- of a principal's and a resource's value, that for slot x: `p` is 0 and `r` is 1
abbrev pub slot_value : ℕ → ℕ → ℕ → ℕ
slot_value p q x = cond (eqb x 0) p q

-- each slot among these nodes has a value that fits its type
abbrev pub slots_fit : State → ℕ → ℕ → List (List ℕ) → Bool
slots_fit s p q [] = true
slots_fit s p q (r ∷ rs) = (not (is_slot r) || fits s (slot_value p q (at r 1)) (at r 0)) && slots_fit s p q rs

-- "a value that does not fit the slot's type 7"
abbrev pub link_typed : State → List ℕ → Bool
link_typed s r = slots_fit s (at r 1) (at r 2) (nodes_of s (at r 0))

module _ (s : State) (r : List ℕ) where
  -- the node's type, and those of its children
  abbrev pub own : ℕ
  own = at r 0

  abbrev pub kid : ℕ → ℕ
  kid j = type_of_node s (at r j)

  abbrev pub bool_at : ℕ → Bool
  bool_at y = is_bool (type_at s y)

  abbrev pub long_in : ℕ → Bool
  long_in y = is_long (type_at s y)

  abbrev pub string_at : ℕ → Bool
  string_at y = is_string (type_at s y)

  abbrev pub entity_at : ℕ → Bool
  entity_at y = on_entity false (type_at s y) (λ k. true)

  abbrev pub set_at : ℕ → Bool
  set_at y = on_set_of false (type_at s y) (λ e. true)

  abbrev pub two_bools : Bool
  two_bools = bool_at own && bool_at (kid 1) && bool_at (kid 2)

  abbrev pub compared : Bool
  compared = bool_at own && long_in (kid 1) && long_in (kid 2)

  abbrev pub arithmetic : Bool
  arithmetic = long_in own && long_in (kid 1) && long_in (kid 2)

  abbrev pub two_sets : Bool
  two_sets = bool_at own && set_at (kid 1) && eqb (kid 1) (kid 2)

  -- text and node numbers of a record node
  abbrev pub arg_types : List ℕ → Entries
  arg_types [] = stop
  arg_types (t ∷ []) = stop
  arg_types (t ∷ n ∷ l) = entry t (type_of_node s n) (arg_types l)

  -- one rule for each operation, in the table's order; "`get` and `gettag` need the same declared type in every kind"
  abbrev pub rules : List Bool
  rules =
      fits s (at r 1) own  -- lit
      ∷ true  -- err
      ∷ var_typed s own (at r 1)  -- var
      ∷ two_bools  -- and
      ∷ two_bools  -- or
      ∷ (bool_at own && (eqb (kid 1) (kid 2) || (entity_at (kid 1) && entity_at (kid 2))))  -- eq
      ∷ compared  -- lt
      ∷ compared  -- le
      ∷ arithmetic  -- add
      ∷ arithmetic  -- sub
      ∷ arithmetic  -- mul
      ∷ (bool_at own && entity_at (kid 1) && is_target s (kid 2))  -- in
      ∷ (string_at (kid 2) && on_entity false (type_at s (kid 1)) (all_in (λ k. eqb (tags_of s k) own)))  -- gettag
      ∷ (bool_at own && entity_at (kid 1) && string_at (kid 2))  -- hastag
      ∷ (bool_at own && on_set_of false (type_at s (kid 1)) (λ e. eqb e (kid 2)))  -- contains
      ∷ two_sets  -- all
      ∷ two_sets  -- any
      ∷ (bool_at (kid 1) && eqb (kid 2) own && eqb (kid 3) own)  -- if
      ∷ (bool_at own && entity_at (kid 1))  -- is
      ∷ (bool_at own && string_at (kid 1))  -- like
      ∷ each_of s (kid 1) (λ ds. on_some false (declared_in (at r 2) ds) (eqb own))  -- get
      ∷ (bool_at own && each_of s (kid 1) (λ ds. true))  -- has
      ∷ (bool_at own && path_typed s (drop 3 (items r)) (at r 2) (kid 1))  -- haspath
      ∷ (bool_at own && bool_at (kid 1))  -- not
      ∷ (long_in own && long_in (kid 1))  -- neg
      ∷ (bool_at own && set_at (kid 1))  -- empty
      ∷ on_set_of false (type_at s own) (λ e. all_in (λ n. eqb (type_of_node s n) e) (drop 1 (items r)))  -- set
      ∷ on_record false (type_at s own) (λ ds. entries_fit eqb ds (arg_types (drop 1 (items r))))  -- record
      ∷ entity_at own  -- slot
      ∷ []

  abbrev pub node_typed : Bool
  node_typed = get_or rules (tag r - first_node) false

  -- "bool for .. policies"
  abbrev pub policy_typed : Bool
  policy_typed = bool_at (kid 2)

  -- one rule for each key
  unfoldable pub typed : ℕ → Bool
  typed k = get_or (
      true  -- sheet
      ∷ true  -- text
      ∷ true  -- kind
      ∷ true  -- type
      ∷ shape_typed s r  -- shape
      ∷ true  -- value
      ∷ entity_typed s r  -- entity
      ∷ not (is_action s (at r 0))  -- principal
      ∷ is_action s (at r 0)  -- action
      ∷ not (is_action s (at r 0))  -- resource
      ∷ context_typed s r  -- context
      ∷ true  -- day
      ∷ node_typed  -- node
      ∷ policy_typed  -- policy
      ∷ link_typed s r  -- link
      ∷ true  -- term
      ∷ []) k false
