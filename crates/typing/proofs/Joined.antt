-- The rules over the rows in the lent words are those of the state that the words hold.
use mathlib.Core.Path.{◌≡◌, refl, sym, ap, ◌∙◌}
use mathlib.Core.Bool.{Bool, true, false, not, ◌&&◌, ◌||◌}
use mathlib.Core.List.{List, [], ◌∷◌}
use mathlib.Core.Option.{Option, none, some}
use Prim.Native.Nat.{ℕ, zero, suc, ◌-◌}
use borrow.Author.Tests.{le-leb}
use lib.Dec.{leb, eqb}
use lib.ListN.{get_or, drop}
use Rattle.cedar.specs.Value.{on_some}
use Rattle.cedar.specs.Numbered.{r_ent, r_set, mem_n, pick_n, entry_of, is_some}
use Rattle.sheet.specs.Bytes.{same}
use Rattle.sheet.specs.Forms.{tag, items, mark, first_type, first_node, TYPE, SHAPE, VALUE, PRINCIPAL, ACTION, RESOURCE, NODE}
use Rattle.sheet.specs.State.{State, count, Declared, TypeRow, bool, long, string, entity, set', record', declareds, type_row, entries_of, value_row}
use Rattle.sheet.specs.Typing.{on_entity, on_set_of, on_record, is_bool, is_long, is_string, declared_in, required_there, all_in, all_entries, entries_fit, each_of, is_target, path_typed, type_of_node, tags_of, is_action, none_declared, arg_types, shape_typed, context_typed, entity_typed, var_typed, bool_at, long_in, string_at, entity_at, set_at, two_bools, compared, arithmetic, two_sets, rules, typed, fits_in, nodes_under, slots_fit, link_typed}
use Rattle.table.specs.Layout.{rows_of, held, lines_held}
use Rattle.table.proofs.Rows.{count_rows}
use Rattle.fits.specs.Fit.{full, has_in, complete_in, declared_by, Answered}
use Rattle.fits.proofs.Sorts.{type_table}
use Rattle.typesets.specs.Sets.{TYPES}
use Rattle.typing.specs.Links.{Shown, slot_fits, slots_fit_in, root_at, link_rule}
use Rattle.typerows.specs.Types.{BOOL_SORT, LONG_SORT, STRING_SORT, ENTITY_SORT, SET_SORT, sort_number, sort_at, kinds_at, element_at, record_at, attribute_at, bare_at, attribute_type_at, tag_type_at, is_above_at, action_at, of_record, of_kind, each_at, declares_as, tags_are, target_at, request_at}
use Rattle.typing.specs.Rules.{node_type_at, all_of, args_fit, child_at, two_sorts, three_sorts, request_is, context_is_at, var_rule, eq_rule, in_rule, gettag_rule, contains_rule, two_sets_rule, if_rule, get_rule, has_rule, haspath_rule, set_rule, record_rule, slot_rule, node_rules, node_rule, shape_rule, context_rule, policy_rule, attributes_rule, tags_rule, ancestor_rule, parents_rule, entity_rule, typed_rule, Typed}
use Rattle.pathtypes.specs.Paths.{path_from, path_at}

-- ---- tests on a type are tests on its sort

sort_bool : (T : TypeRow) → is_bool T ≡ eqb (sort_number T) BOOL_SORT
sort_bool bool = refl
sort_bool long = refl
sort_bool string = refl
sort_bool (entity k ks) = refl
sort_bool (set' t) = refl
sort_bool (record' ds) = refl

sort_long : (T : TypeRow) → is_long T ≡ eqb (sort_number T) LONG_SORT
sort_long bool = refl
sort_long long = refl
sort_long string = refl
sort_long (entity k ks) = refl
sort_long (set' t) = refl
sort_long (record' ds) = refl

sort_string : (T : TypeRow) → is_string T ≡ eqb (sort_number T) STRING_SORT
sort_string bool = refl
sort_string long = refl
sort_string string = refl
sort_string (entity k ks) = refl
sort_string (set' t) = refl
sort_string (record' ds) = refl

sort_entity : (T : TypeRow) → on_entity false T (λ k. true) ≡ eqb (sort_number T) ENTITY_SORT
sort_entity bool = refl
sort_entity long = refl
sort_entity string = refl
sort_entity (entity k ks) = refl
sort_entity (set' t) = refl
sort_entity (record' ds) = refl

sort_set : (T : TypeRow) → on_set_of false T (λ e. true) ≡ eqb (sort_number T) SET_SORT
sort_set bool = refl
sort_set long = refl
sort_set string = refl
sort_set (entity k ks) = refl
sort_set (set' t) = refl
sort_set (record' ds) = refl

-- ---- taking a type apart by its parts, if it has any

on_kinds : (T : TypeRow) (f : List ℕ → Bool) → on_entity false T f ≡ on_some false (on_entity none T some) f
on_kinds bool f = refl
on_kinds long f = refl
on_kinds string f = refl
on_kinds (entity k ks) f = refl
on_kinds (set' t) f = refl
on_kinds (record' ds) f = refl

on_element : (T : TypeRow) (f : ℕ → Bool) → on_set_of false T f ≡ on_some false (on_set_of none T some) f
on_element bool f = refl
on_element long f = refl
on_element string f = refl
on_element (entity k ks) f = refl
on_element (set' t) f = refl
on_element (record' ds) f = refl

on_target : (T : TypeRow) (g : ℕ → Bool) → on_entity (on_set_of false T g) T (λ ks. true) ≡ on_some (eqb (sort_number T) ENTITY_SORT) (on_set_of none T some) g
on_target bool g = refl
on_target long g = refl
on_target string g = refl
on_target (entity k ks) g = refl
on_target (set' t) g = refl
on_target (record' ds) g = refl

some_const : (o : Option ℕ) (b : Bool) → on_some false o (λ w. b) ≡ (is_some o && b)
some_const none b = refl
some_const (some x) b = refl

-- a test of each kind of an entity type, or of a record type
on_each : (T : TypeRow) {p q : Bool} {g h : ℕ → Bool} → p ≡ q → ((k : ℕ) → g k ≡ h k) → on_entity p T (all_in g) ≡ on_some q (on_entity none T some) (all_in h)
on_each bool e u = e
on_each long e u = e
on_each string e u = e
on_each (entity k ks) e u = λ i. all_in (λ l. u l i) (k ∷ ks)
on_each (set' t) e u = e
on_each (record' ds) e u = e

-- a record type has the attributes of its row q; F: a test on the type's number, f: on its attributes
module _ (q : List ℕ) (z : ℕ) (f : List Declared → Bool) (F : ℕ → Bool) (e : F z ≡ f (declareds (items q))) where
  on_record_law : on_record false (type_row q) f ≡ on_some false (on_record none (type_row q) (λ ds. some z)) F
  on_record_law = go (tag q - first_type)
    where
      go : (j : ℕ) → on_record false (get_or (type_table q) j bool) f ≡ on_some false (on_record none (get_or (type_table q) j bool) (λ ds. some z)) F
      go zero = refl
      go (suc zero) = refl
      go (suc (suc zero)) = refl
      go (suc (suc (suc zero))) = refl
      go (suc (suc (suc (suc zero)))) = refl
      go (suc (suc (suc (suc (suc zero))))) = sym e
      go (suc (suc (suc (suc (suc (suc j)))))) = refl

-- ---- items of a row

drop_two : (r : List ℕ) → drop 1 (drop 1 r) ≡ drop 2 r
drop_two [] = refl
drop_two (x ∷ r) = refl

pub drop_three : (r : List ℕ) → drop 2 (drop 1 r) ≡ drop 3 r
drop_three [] = refl
drop_three (x ∷ r) = refl

drop_four : (r : List ℕ) → drop 3 (drop 1 r) ≡ drop 4 r
drop_four [] = refl
drop_four (x ∷ r) = refl

pick_some : (b : Bool) (x y : ℕ) (o p : Option ℕ) → is_some o ≡ is_some p → is_some (pick_n b x o) ≡ is_some (pick_n b y p)
pick_some true x y o p e = refl
pick_some false x y o p e = e

-- ---- the rules, one by one

module _ (sheet a c r : List ℕ) where
  abbrev s : State
  s = held sheet a c

  abbrev T : ℕ → TypeRow
  T y = type_row (get_or (rows_of a TYPE) y [])

  -- the type of the node that word i names
  abbrev K : ℕ → ℕ
  K i = get_or (get_or (rows_of a NODE) (get_or r i 0) []) 1 0

  abbrev own : ℕ
  own = get_or r 1 0

  -- what a record type declares
  abbrev D : ℕ → List Declared
  D y = declareds (items (get_or (rows_of a TYPE) y []))

  each_as : (y : ℕ) (f : List Declared → Bool) → each_of s y f ≡ each_at a y (λ z. f (D z))
  unfolding held lines_held each_at of_record of_kind record_at kinds_at attribute_type_at
  each_as y f = on_each (T y) (on_record_law (get_or (rows_of a TYPE) y []) y f (λ z. f (D z)) refl)
      (λ k. on_record_law (get_or (rows_of a TYPE) (attribute_type_at a k) []) (attribute_type_at a k) f (λ z. f (D z)) refl)

  record_as : (y : ℕ) (f : List Declared → Bool) → on_record false (T y) f ≡ on_some false (record_at a y) (λ z. f (D z))
  unfolding record_at
  record_as y f = on_record_law (get_or (rows_of a TYPE) y []) y f (λ z. f (D z)) refl

  path_as : (us : List ℕ) (t y : ℕ) → path_typed s us t y ≡ path_from a us t y
  unfolding path_from attribute_at declared_by
  path_as [] t y = each_as y (λ ds. true)
  path_as (u ∷ us) t y = each_as y (λ ds. on_some true (declared_in t ds) (path_typed s us u)) ∙ (λ i. each_at a y (λ z. on_some true (declared_in t (D z)) (λ w. path_as us u w i)))

  arg_there : (t : ℕ) (l : List ℕ) → is_some (entry_of t (arg_types s r l)) ≡ is_some (entry_of t (entries_of l))
  arg_there t [] = refl
  arg_there t (u ∷ []) = refl
  arg_there t (u ∷ n ∷ l) = pick_some (eqb t u) (type_of_node s n) n (entry_of t (arg_types s r l)) (entry_of t (entries_of l)) (arg_there t l)

  args_as : (f : ℕ → ℕ → Bool) (l : List ℕ) → all_entries f (arg_types s r l) ≡ all_entries (λ t n. f t (node_type_at a n)) (entries_of l)
  unfolding held lines_held node_type_at
  args_as f [] = refl
  args_as f (t ∷ []) = refl
  args_as f (t ∷ n ∷ l) = λ i. f t (node_type_at a n) && args_as f l i

  -- the sorts of a node's type and of its children's
  bools_as : two_bools s r ≡ three_sorts a r BOOL_SORT BOOL_SORT BOOL_SORT
  unfolding held lines_held three_sorts two_sorts sort_at child_at node_type_at
  bools_as = λ i. sort_bool (T own) i && sort_bool (T (K 2)) i && sort_bool (T (K 3)) i

  compared_as : compared s r ≡ three_sorts a r BOOL_SORT LONG_SORT LONG_SORT
  unfolding held lines_held three_sorts two_sorts sort_at child_at node_type_at
  compared_as = λ i. sort_bool (T own) i && sort_long (T (K 2)) i && sort_long (T (K 3)) i

  arithmetic_as : arithmetic s r ≡ three_sorts a r LONG_SORT LONG_SORT LONG_SORT
  unfolding held lines_held three_sorts two_sorts sort_at child_at node_type_at
  arithmetic_as = λ i. sort_long (T own) i && sort_long (T (K 2)) i && sort_long (T (K 3)) i

  sets_as : two_sets s r ≡ two_sets_rule a r
  unfolding held lines_held two_sets_rule two_sorts sort_at child_at node_type_at
  sets_as = λ i. sort_bool (T own) i && sort_set (T (K 2)) i && eqb (K 2) (K 3)

  var_as : var_typed s own (get_or r 2 0) ≡ var_rule a r
  unfolding held lines_held var_rule request_is context_is_at kinds_at request_at
  var_as = λ i. get_or (is PRINCIPAL i ∷ is ACTION i ∷ is RESOURCE i ∷ context_is_at a r ∷ []) (get_or r 2 0) (context_is_at a r)
    where
      is : (k : ℕ) → on_entity false (T own) (λ ks. same ks (get_or (get_or (rows_of a k) 0 []) 1 0 ∷ [])) ≡ request_is a r k
      is k = on_kinds (T own) (λ ks. same ks (get_or (get_or (rows_of a k) 0 []) 1 0 ∷ []))

  eq_as : (bool_at s r own && (eqb (K 2) (K 3) || (entity_at s r (K 2) && entity_at s r (K 3)))) ≡ eq_rule a r
  unfolding held lines_held eq_rule sort_at child_at node_type_at
  eq_as = λ i. sort_bool (T own) i && (eqb (K 2) (K 3) || (sort_entity (T (K 2)) i && sort_entity (T (K 3)) i))

  in_as : (bool_at s r own && entity_at s r (K 2) && is_target s (K 3)) ≡ in_rule a r
  unfolding held lines_held in_rule two_sorts sort_at child_at node_type_at target_at element_at
  in_as =
      let target : is_target s (K 3) ≡ target_at a (K 3) = on_target (T (K 3)) (λ e. on_entity false (T e) (λ ks. true)) ∙ (λ i. on_some (eqb (sort_number (T (K 3))) ENTITY_SORT) (on_set_of none (T (K 3)) some) (λ e. sort_entity (T e) i)) in
      λ i. sort_bool (T own) i && sort_entity (T (K 2)) i && target i

  gettag_as : (string_at s r (K 3) && on_entity false (T (K 2)) (all_in (λ k. eqb (tags_of s k) own))) ≡ gettag_rule a r
  unfolding held lines_held gettag_rule sort_at child_at node_type_at kinds_at tag_type_at tags_are
  gettag_as = λ i. sort_string (T (K 3)) i && on_kinds (T (K 2)) (all_in (λ k. eqb (tag_type_at a k) own)) i

  hastag_as : (bool_at s r own && entity_at s r (K 2) && string_at s r (K 3)) ≡ three_sorts a r BOOL_SORT ENTITY_SORT STRING_SORT
  unfolding held lines_held three_sorts two_sorts sort_at child_at node_type_at
  hastag_as = λ i. sort_bool (T own) i && sort_entity (T (K 2)) i && sort_string (T (K 3)) i

  contains_as : (bool_at s r own && on_set_of false (T (K 2)) (λ e. eqb e (K 3))) ≡ contains_rule a r
  unfolding held lines_held contains_rule sort_at child_at node_type_at element_at
  contains_as = λ i. sort_bool (T own) i && on_element (T (K 2)) (λ e. eqb e (K 3)) i

  if_as : (bool_at s r (K 2) && eqb (K 3) own && eqb (K 4) own) ≡ if_rule a r
  unfolding held lines_held if_rule sort_at child_at node_type_at
  if_as = λ i. sort_bool (T (K 2)) i && eqb (K 3) own && eqb (K 4) own

  is_as : (bool_at s r own && entity_at s r (K 2)) ≡ two_sorts a r BOOL_SORT ENTITY_SORT
  unfolding held lines_held two_sorts sort_at child_at node_type_at
  is_as = λ i. sort_bool (T own) i && sort_entity (T (K 2)) i

  like_as : (bool_at s r own && string_at s r (K 2)) ≡ two_sorts a r BOOL_SORT STRING_SORT
  unfolding held lines_held two_sorts sort_at child_at node_type_at
  like_as = λ i. sort_bool (T own) i && sort_string (T (K 2)) i

  not_as : (bool_at s r own && bool_at s r (K 2)) ≡ two_sorts a r BOOL_SORT BOOL_SORT
  unfolding held lines_held two_sorts sort_at child_at node_type_at
  not_as = λ i. sort_bool (T own) i && sort_bool (T (K 2)) i

  neg_as : (long_in s r own && long_in s r (K 2)) ≡ two_sorts a r LONG_SORT LONG_SORT
  unfolding held lines_held two_sorts sort_at child_at node_type_at
  neg_as = λ i. sort_long (T own) i && sort_long (T (K 2)) i

  empty_as : (bool_at s r own && set_at s r (K 2)) ≡ two_sorts a r BOOL_SORT SET_SORT
  unfolding held lines_held two_sorts sort_at child_at node_type_at
  empty_as = λ i. sort_bool (T own) i && sort_set (T (K 2)) i

  get_as : each_of s (K 2) (λ ds. on_some false (declared_in (get_or r 3 0) ds) (eqb own)) ≡ get_rule a r
  unfolding get_rule child_at node_type_at declares_as attribute_at declared_by
  get_as = each_as (K 2) (λ ds. on_some false (declared_in (get_or r 3 0) ds) (eqb own))

  has_as : (bool_at s r own && each_of s (K 2) (λ ds. true)) ≡ has_rule a r
  unfolding held lines_held has_rule sort_at child_at node_type_at
  has_as = λ i. sort_bool (T own) i && each_as (K 2) (λ ds. true) i

  haspath_as : Shown a → (bool_at s r own && path_typed s (drop 3 (drop 1 r)) (get_or r 3 0) (K 2)) ≡ haspath_rule a r
  unfolding held lines_held haspath_rule path_at sort_at child_at node_type_at
  haspath_as h =
      let few : true ≡ leb (get_or a TYPE 0) TYPES = sym (le-leb (get_or a TYPE 0) TYPES h.few) in
      let e : path_typed s (drop 3 (drop 1 r)) (get_or r 3 0) (K 2) ≡ path_from a (drop 4 r) (get_or r 3 0) (K 2) = path_as (drop 3 (drop 1 r)) (get_or r 3 0) (K 2) ∙ (λ i. path_from a (drop_four r i) (get_or r 3 0) (K 2)) in
      λ i. sort_bool (T own) i && (few i && e i)

  set_as : on_set_of false (T own) (λ e. all_in (λ n. eqb (type_of_node s n) e) (drop 1 (drop 1 r))) ≡ set_rule a r
  unfolding held lines_held set_rule all_of node_type_at element_at
  set_as = on_element (T own) (λ e. all_in (λ n. eqb (node_type_at a n) e) (drop 1 (drop 1 r))) ∙ (λ i. on_some false (element_at a own) (λ e. all_in (λ n. eqb (node_type_at a n) e) (drop_two r i)))

  record_rule_as : on_record false (T own) (λ ds. entries_fit eqb ds (arg_types s r (drop 1 (drop 1 r)))) ≡ record_rule a r
  unfolding record_rule complete_in has_in args_fit attribute_at declared_by
  record_rule_as =
      record_as own (λ ds. entries_fit eqb ds (arg_types s r (drop 1 (drop 1 r))))
      ∙ (λ i. on_some false (record_at a own) (λ y. required_there (D y) (λ t. arg_there t (drop 1 (drop 1 r)) i) && args_as (λ t x. on_some false (declared_in t (D y)) (eqb x)) (drop 1 (drop 1 r)) i))
      ∙ (λ i. on_some false (record_at a own) (λ y. required_there (D y) (λ t. is_some (entry_of t (entries_of (drop 1 (drop 1 r))))) && all_entries (λ t n. on_some false (declared_in t (D y)) (eqb (node_type_at a n))) (entries_of (drop_two r i))))

  slot_as : entity_at s r own ≡ slot_rule a r
  unfolding held lines_held slot_rule sort_at
  slot_as = sort_entity (T own)

  rules_as : Shown a → rules s r ≡ node_rules a r
  unfolding held lines_held node_rules full
  rules_as h = λ i.
      fits_in (rows_of a VALUE) (rows_of a TYPE) (get_or r 2 0) own
      ∷ true
      ∷ var_as i
      ∷ bools_as i
      ∷ bools_as i
      ∷ eq_as i
      ∷ compared_as i
      ∷ compared_as i
      ∷ arithmetic_as i
      ∷ arithmetic_as i
      ∷ arithmetic_as i
      ∷ in_as i
      ∷ gettag_as i
      ∷ hastag_as i
      ∷ contains_as i
      ∷ sets_as i
      ∷ sets_as i
      ∷ if_as i
      ∷ is_as i
      ∷ like_as i
      ∷ get_as i
      ∷ has_as i
      ∷ haspath_as h i
      ∷ not_as i
      ∷ neg_as i
      ∷ empty_as i
      ∷ set_as i
      ∷ record_rule_as i
      ∷ slot_as i
      ∷ []

  -- ---- the other keys

  shape_as : shape_typed s r ≡ shape_rule a r
  unfolding held lines_held shape_rule bare_at action_at
  shape_as =
      record_as own (λ ds. not (is_action s (count s SHAPE)) || (none_declared ds && eqb (get_or r 2 0) mark))
      ∙ (λ i. on_some false (record_at a own) (λ y. not (action_at a (count_rows a SHAPE i)) || (bare_at a y && eqb (get_or r 2 0) mark)))

  context_as : context_typed s r ≡ context_rule a r
  unfolding held lines_held context_rule full
  context_as =
      record_as own (λ ds. eqb (get_or r 2 0) mark || full a (get_or r 2 0) own)
      ∙ some_const (record_at a own) (eqb (get_or r 2 0) mark || full a (get_or r 2 0) own)

  entity_as : entity_typed s r ≡ entity_rule a r
  unfolding held lines_held entity_rule attributes_rule tags_rule parents_rule ancestor_rule full attribute_type_at tag_type_at is_above_at
  entity_as = λ i. r_ent false (value_row (get_or (rows_of a VALUE) own [])) (λ k t.
      attributes_rule a (get_or r 2 0) k && tags_rule a (get_or r 3 0) k
      && (eqb (get_or r 4 0) mark || r_set false (value_row (get_or (rows_of a VALUE) (get_or r 4 0) [])) (all_in (λ v. r_ent false (value_row (get_or (rows_of a VALUE) v [])) (λ l u. mem_n l (drop_three (get_or (rows_of a SHAPE) k []) i))))))

  slots_as : (p q : ℕ) (l : List (List ℕ)) → slots_fit s p q l ≡ slots_fit_in a p q l
  unfolding held lines_held slots_fit_in slot_fits full
  slots_as p q [] = refl
  slots_as p q (n ∷ l) = λ i. slot_fits a p q n && slots_as p q l i

  link_as : Shown a → link_typed s r ≡ link_rule a r
  unfolding held lines_held nodes_under link_rule
  link_as h =
      let p = get_or r 2 0 in let q = get_or r 3 0 in let n = root_at a (get_or r 1 0) in
      slots_as p q (nodes_under s n) ∙ ap (slots_fit_in a p q) (sym (h.all n))

  pub typed_as : Shown a → (k : ℕ) → typed s r k ≡ typed_rule a r k
  unfolding held lines_held typed typed_rule node_rule policy_rule action_at sort_at child_at node_type_at
  typed_as h k = λ i. get_or (
      true
      ∷ true
      ∷ true
      ∷ true
      ∷ shape_as i
      ∷ true
      ∷ entity_as i
      ∷ not (action_at a own)
      ∷ action_at a own
      ∷ not (action_at a own)
      ∷ context_as i
      ∷ true
      ∷ get_or (rules_as h i) (tag r - first_node) false
      ∷ sort_bool (T (K 3)) i
      ∷ link_as h i
      ∷ true
      ∷ []) k false

pub typed_is : (a m n r : List ℕ) (k : ℕ) (b : Bool) → Answered a m n (typed_rule a r k) b → Typed a m n r k b
typed_is a m n r k b q = record { is = λ sheet c h w. q.is h ∙ sym (typed_as sheet a c r w k); known = q.known; rest = q.rest }
