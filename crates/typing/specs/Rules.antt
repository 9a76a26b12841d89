-- Document 01, "Typing", over the rows in the lent words: types, shapes and nodes by their numbers, one rule for each operation
-- and key. That these are the rules of the state that the words hold is a theorem.
use Rattle.std.specs.Prelude.{◌≡◌, Bool, true, false, cond, ◌&&◌, ◌||◌, not, List, [], ◌∷◌, ℕ, ◌-◌, eqb, get_or, drop}
use Rattle.cedar.specs.Value.{on_some}
use Rattle.cedar.specs.Numbered.{r_ent, r_set, r_rec, is_some}
use Rattle.sheet.specs.Bytes.{same}
use Rattle.sheet.specs.Forms.{tag, mark, first_node, TYPE, SHAPE, VALUE, PRINCIPAL, ACTION, RESOURCE, CONTEXT, NODE}
use Rattle.sheet.specs.State.{entries_of, value_row}
use Rattle.sheet.specs.Typing.{all_in, all_entries, is_stop, typed}
use Rattle.table.specs.Layout.{rows_of, held, TYPEDEPTHS}
use Rattle.fits.specs.Fit.{SettledIn, Known, full, complete_in}
use Rattle.typerows.specs.Types.{always, BOOL_SORT, LONG_SORT, STRING_SORT, ENTITY_SORT, SET_SORT, sort_at, kinds_at, element_at, record_at, attribute_at, bare_at, attribute_type_at, tag_type_at, is_above_at, action_at, each_at, declares_as, tags_are, target_at, request_at}
use Rattle.pathtypes.specs.Paths.{path_at}
use Rattle.typing.specs.Links.{Shown, link_rule}

module _ (a : List ℕ) where
  unfoldable pub node_type_at : ℕ → ℕ
  node_type_at n = get_or (get_or (rows_of a NODE) n []) 1 0

  -- the nodes l have type e
  unfoldable pub all_of : List ℕ → ℕ → Bool
  all_of l e = all_in (λ n. eqb (node_type_at n) e) l

  -- each text and node of l: record type y declares the node's type for the text
  unfoldable pub args_fit : List ℕ → ℕ → Bool
  args_fit l y = all_entries (λ t n. on_some false (attribute_at a y t) (eqb (node_type_at n))) (entries_of l)

-- ---- nodes

module _ (a r : List ℕ) where
  -- the type of the node that word i of the row names
  unfoldable pub child_at : ℕ → ℕ
  child_at i = node_type_at a (get_or r i 0)

  -- the sorts of the node's type and of its children's
  unfoldable pub two_sorts : ℕ → ℕ → Bool
  two_sorts i j = eqb (sort_at a (get_or r 1 0)) i && eqb (sort_at a (child_at 2)) j

  unfoldable pub three_sorts : ℕ → ℕ → ℕ → Bool
  three_sorts i j k = two_sorts i j && eqb (sort_at a (child_at 3)) k

  unfoldable pub request_is : ℕ → Bool
  request_is k = on_some false (kinds_at a (get_or r 1 0)) (λ ks. same ks (request_at a k ∷ []))

  unfoldable pub context_is_at : Bool
  context_is_at = eqb (get_or r 1 0) (request_at a CONTEXT)

  unfoldable pub var_rule : Bool
  var_rule = get_or (request_is PRINCIPAL ∷ request_is ACTION ∷ request_is RESOURCE ∷ context_is_at ∷ []) (get_or r 2 0) context_is_at

  unfoldable pub eq_rule : Bool
  eq_rule = eqb (sort_at a (get_or r 1 0)) BOOL_SORT && (eqb (child_at 2) (child_at 3) || (eqb (sort_at a (child_at 2)) ENTITY_SORT && eqb (sort_at a (child_at 3)) ENTITY_SORT))

  unfoldable pub in_rule : Bool
  in_rule = two_sorts BOOL_SORT ENTITY_SORT && target_at a (child_at 3)

  unfoldable pub gettag_rule : Bool
  gettag_rule = eqb (sort_at a (child_at 3)) STRING_SORT && on_some false (kinds_at a (child_at 2)) (all_in (tags_are a (get_or r 1 0)))

  unfoldable pub contains_rule : Bool
  contains_rule = eqb (sort_at a (get_or r 1 0)) BOOL_SORT && on_some false (element_at a (child_at 2)) (λ e. eqb e (child_at 3))

  unfoldable pub two_sets_rule : Bool
  two_sets_rule = two_sorts BOOL_SORT SET_SORT && eqb (child_at 2) (child_at 3)

  unfoldable pub if_rule : Bool
  if_rule = eqb (sort_at a (child_at 2)) BOOL_SORT && eqb (child_at 3) (get_or r 1 0) && eqb (child_at 4) (get_or r 1 0)

  unfoldable pub get_rule : Bool
  get_rule = each_at a (child_at 2) (declares_as a (get_or r 3 0) (get_or r 1 0))

  unfoldable pub has_rule : Bool
  has_rule = eqb (sort_at a (get_or r 1 0)) BOOL_SORT && each_at a (child_at 2) always

  unfoldable pub haspath_rule : Bool
  haspath_rule = eqb (sort_at a (get_or r 1 0)) BOOL_SORT && path_at a r (child_at 2)

  unfoldable pub set_rule : Bool
  set_rule = on_some false (element_at a (get_or r 1 0)) (all_of a (drop 2 r))

  unfoldable pub record_rule : Bool
  record_rule = on_some false (record_at a (get_or r 1 0)) (λ y. complete_in (drop 1 r) (get_or (rows_of a TYPE) y []) && args_fit a (drop 2 r) y)

  unfoldable pub slot_rule : Bool
  slot_rule = eqb (sort_at a (get_or r 1 0)) ENTITY_SORT

  -- one rule for each operation, in the table's order
  unfoldable pub node_rules : List Bool
  node_rules =
      full a (get_or r 2 0) (get_or r 1 0)  -- lit
      ∷ true  -- err
      ∷ var_rule  -- var
      ∷ three_sorts BOOL_SORT BOOL_SORT BOOL_SORT  -- and
      ∷ three_sorts BOOL_SORT BOOL_SORT BOOL_SORT  -- or
      ∷ eq_rule  -- eq
      ∷ three_sorts BOOL_SORT LONG_SORT LONG_SORT  -- lt
      ∷ three_sorts BOOL_SORT LONG_SORT LONG_SORT  -- le
      ∷ three_sorts LONG_SORT LONG_SORT LONG_SORT  -- add
      ∷ three_sorts LONG_SORT LONG_SORT LONG_SORT  -- sub
      ∷ three_sorts LONG_SORT LONG_SORT LONG_SORT  -- mul
      ∷ in_rule  -- in
      ∷ gettag_rule  -- gettag
      ∷ three_sorts BOOL_SORT ENTITY_SORT STRING_SORT  -- hastag
      ∷ contains_rule  -- contains
      ∷ two_sets_rule  -- all
      ∷ two_sets_rule  -- any
      ∷ if_rule  -- if
      ∷ two_sorts BOOL_SORT ENTITY_SORT  -- is
      ∷ two_sorts BOOL_SORT STRING_SORT  -- like
      ∷ get_rule  -- get
      ∷ has_rule  -- has
      ∷ haspath_rule  -- haspath
      ∷ two_sorts BOOL_SORT BOOL_SORT  -- not
      ∷ two_sorts LONG_SORT LONG_SORT  -- neg
      ∷ two_sorts BOOL_SORT SET_SORT  -- empty
      ∷ set_rule  -- set
      ∷ record_rule  -- record
      ∷ slot_rule  -- slot
      ∷ []

  unfoldable pub node_rule : ℕ → Bool
  node_rule j = get_or node_rules j false

  -- ---- the other keys

  unfoldable pub shape_rule : Bool
  shape_rule = on_some false (record_at a (get_or r 1 0)) (λ y. not (action_at a (get_or a SHAPE 0)) || (bare_at a y && eqb (get_or r 2 0) mark))

  unfoldable pub context_rule : Bool
  context_rule = is_some (record_at a (get_or r 1 0)) && (eqb (get_or r 2 0) mark || full a (get_or r 2 0) (get_or r 1 0))

  unfoldable pub policy_rule : Bool
  policy_rule = eqb (sort_at a (child_at 3)) BOOL_SORT

module _ (a : List ℕ) (x k : ℕ) where
  -- attributes, tags and parents x of an entity of kind k
  unfoldable pub attributes_rule : Bool
  attributes_rule = eqb x mark || r_rec false (value_row (get_or (rows_of a VALUE) x [])) (λ e. full a x (attribute_type_at a k))

  unfoldable pub tags_rule : Bool
  tags_rule = eqb x mark || r_rec false (value_row (get_or (rows_of a VALUE) x [])) (λ e. cond (eqb (tag_type_at a k) mark) (is_stop e) (all_entries (λ t v. full a v (tag_type_at a k)) e))

  -- value x is an entity whose kind is among those above kind k
  unfoldable pub ancestor_rule : Bool
  ancestor_rule = r_ent false (value_row (get_or (rows_of a VALUE) x [])) (λ l t. is_above_at a k l)

module _ (a : List ℕ) where
  unfoldable pub parents_rule : ℕ → ℕ → Bool
  parents_rule x k = eqb x mark || r_set false (value_row (get_or (rows_of a VALUE) x [])) (all_in (λ v. ancestor_rule a v k))

  unfoldable pub entity_rule : List ℕ → Bool
  entity_rule r = r_ent false (value_row (get_or (rows_of a VALUE) (get_or r 1 0) [])) (λ k t. attributes_rule a (get_or r 2 0) k && tags_rule a (get_or r 3 0) k && parents_rule (get_or r 4 0) k)

  -- one rule for each key
  unfoldable pub typed_rule : List ℕ → ℕ → Bool
  typed_rule r k = get_or (
      true  -- sheet
      ∷ true  -- text
      ∷ true  -- kind
      ∷ true  -- type
      ∷ shape_rule a r  -- shape
      ∷ true  -- value
      ∷ entity_rule r  -- entity
      ∷ not (action_at a (get_or r 1 0))  -- principal
      ∷ action_at a (get_or r 1 0)  -- action
      ∷ not (action_at a (get_or r 1 0))  -- resource
      ∷ context_rule a r  -- context
      ∷ true  -- day
      ∷ node_rule a r (tag r - first_node)  -- node
      ∷ policy_rule a r  -- policy
      ∷ link_rule a r  -- link
      ∷ true  -- term
      ∷ []) k false

-- ---- the promise

-- the answer is that of the state that the words hold, whatever the sheet's bytes, depths and uses are, wherever the whole depth is enough, for values
-- and for the nodes under a node, and there are no more types than a sheet may have
pub record Typed (a m n r : List ℕ) (k : ℕ) (b : Bool) : Type 0 where
  pub is : (sheet c : List ℕ) → SettledIn a → Shown a → b ≡ typed (held sheet a c) r k
  pub known : Known a n
  pub rest : drop TYPEDEPTHS n ≡ drop TYPEDEPTHS m
