-- The rules of nodes: one law for each answer of the code.
use mathlib.Core.Path.{◌≡◌, refl, sym, ap, ◌∙◌}
use mathlib.Core.Bool.{Bool, true, false, not, ◌&&◌}
use mathlib.Core.List.{List, [], ◌∷◌}
use mathlib.Core.Option.{none, some}
use Prim.Native.Nat.{ℕ, zero, suc, ◌-◌, ◌≤◌, ◌<◌}
use native.Mathlib.Omega.{arith}
use borrow.Author.Tests.{eq-eqb, ne_eqb, not-true, not-false}
use lib.Dec.{eqb}
use lib.ListN.{length, get_or, take, drop, drop_of_length-le}
use Rattle.cedar.specs.Value.{on_some}
use Rattle.sheet.specs.Bytes.{same}
use Rattle.sheet.specs.Forms.{tag, items, TYPE, PRINCIPAL, ACTION, RESOURCE, CONTEXT, NODE}
use Rattle.sheet.specs.Typing.{all_in}
use Rattle.forms.specs.Tags.{ENTITY_TYPE, PART_P, PART_A, PART_R}
use Rattle.words.specs.Log.{part}
use Rattle.table.specs.Layout.{rows_of}
use Rattle.fits.specs.Fit.{kinds_in, complete_in}
use Rattle.std.proofs.lemmas.List.{take_rest}
use Rattle.fits.proofs.Walks.{entries_end, entries_on}
use Rattle.typerows.proofs.Typings.{kinds_is, kinds_not}
use Rattle.typerows.proofs.KindWalks.{each_kinds, each_record}
use Rattle.typerows.specs.Types.{always, BOOL_SORT, STRING_SORT, ENTITY_SORT, SET_SORT, sort_at, element_at, record_at, attribute_at, target_at, request_at, of_record, of_kind, declares_as, tags_are}
use Rattle.pathtypes.specs.Paths.{path_at}
use Rattle.typing.specs.Rules.{node_type_at, all_of, args_fit, child_at, two_sorts, three_sorts, request_is, context_is_at, var_rule, eq_rule, in_rule, gettag_rule, contains_rule, two_sets_rule, if_rule, get_rule, has_rule, haspath_rule, set_rule, record_rule, slot_rule}

-- ---- the types of a node and its children

pub node_type_is : (a q : List ℕ) (n x : ℕ) → q ≡ get_or (rows_of a NODE) n [] → x ≡ get_or q 1 0 → x ≡ node_type_at a n
unfolding node_type_at
node_type_is a q n x eq ex = rw (← eq) ex

pub child_is : (a r : List ℕ) (i n x : ℕ) → n ≡ get_or r i 0 → x ≡ node_type_at a n → x ≡ child_at a r i
unfolding child_at
child_is a r i n x en ex = rw (← en) ex

-- ---- sorts

module _ (a r : List ℕ) (i j : ℕ) where
  pub two_yes : (o s c t : ℕ) → o ≡ get_or r 1 0 → s ≡ sort_at a o → s ≡ i → c ≡ child_at a r 2 → t ≡ sort_at a c → eqb t j ≡ two_sorts a r i j
  unfolding two_sorts
  two_yes o s c t eo es h ec et = rw (← eo, ← es, eq-eqb s i h, ← ec, ← et)

  pub two_no : (o s : ℕ) → o ≡ get_or r 1 0 → s ≡ sort_at a o → (s ≡ i → ⊥) → false ≡ two_sorts a r i j
  unfolding two_sorts
  two_no o s eo es h = rw (← eo, ← es, ne_eqb s i h)

  pub three_yes : (k : ℕ) (b : Bool) (c t : ℕ) → b ≡ two_sorts a r i j → b ≡ true → c ≡ child_at a r 3 → t ≡ sort_at a c → eqb t k ≡ three_sorts a r i j k
  unfolding three_sorts
  three_yes k b c t eb h ec et = rw (← eb, h, ← ec, ← et)

  pub three_no : (k : ℕ) (b : Bool) → b ≡ two_sorts a r i j → b ≡ false → false ≡ three_sorts a r i j k
  unfolding three_sorts
  three_no k b eb h = rw (← eb, h)

-- ---- variables

module _ (a r : List ℕ) where
  module _ (k o t : ℕ) (q : List ℕ) (eo : o ≡ get_or r 1 0) (eq : q ≡ get_or (rows_of a TYPE) o []) (et : t ≡ tag q) where
    pub request_no : (t ≡ ENTITY_TYPE → ⊥) → false ≡ request_is a r k
    unfolding request_is
    request_no h = rw (← eo, kinds_not a q o t eq et h)

    module _ (h : t ≡ ENTITY_TYPE) where
      pub request_group : 2 < length q → false ≡ request_is a r k
      unfolding request_is
      request_group l = rw (← eo, kinds_is a q o t eq et h) (more (get_or q 1 0) (request_at a k) q l)
        where
          more : (x y : ℕ) (q : List ℕ) → 2 < length q → false ≡ (eqb x y && same (drop 2 q) [])
          more x y [] l = absurd (omega arith)
          more x y (u ∷ []) l = absurd (omega arith)
          more x y (u ∷ v ∷ []) l = absurd (omega arith)
          more x y (u ∷ v ∷ z ∷ q) l = no (eqb x y)
            where
              no : (b : Bool) → false ≡ (b && false)
              no true = refl
              no false = refl

      pub request_yes : (e x : ℕ) → length q ≤ 2 → e ≡ get_or q 1 0 → x ≡ request_at a k → eqb e x ≡ request_is a r k
      unfolding request_is
      request_yes e x l ee ex = rw (← eo, kinds_is a q o t eq et h, drop_of_length-le q l, ← ee, ← ex) (one (eqb e x))
        where
          one : (b : Bool) → b ≡ (b && true)
          one true = refl
          one false = refl

  pub var_principal : (x : ℕ) (b : Bool) → x ≡ get_or r 2 0 → x ≡ PART_P → b ≡ request_is a r PRINCIPAL → b ≡ var_rule a r
  unfolding var_rule
  var_principal x b ex h eb = rw (← ex, h) eb

  pub var_action : (x : ℕ) (b : Bool) → x ≡ get_or r 2 0 → x ≡ PART_A → b ≡ request_is a r ACTION → b ≡ var_rule a r
  unfolding var_rule
  var_action x b ex h eb = rw (← ex, h) eb

  pub var_resource : (x : ℕ) (b : Bool) → x ≡ get_or r 2 0 → x ≡ PART_R → b ≡ request_is a r RESOURCE → b ≡ var_rule a r
  unfolding var_rule
  var_resource x b ex h eb = rw (← ex, h) eb

  pub var_context : (x o q : ℕ) → x ≡ get_or r 2 0 → (x ≡ PART_P → ⊥) → (x ≡ PART_A → ⊥) → (x ≡ PART_R → ⊥) → o ≡ get_or r 1 0 → q ≡ request_at a CONTEXT → eqb o q ≡ var_rule a r
  unfolding var_rule context_is_at
  var_context x o q ex n0 n1 n2 eo eq = rw (← ex, eo, eq) (go x refl)
    where
      go : (j : ℕ) → j ≡ x → eqb (get_or r 1 0) (request_at a CONTEXT) ≡ get_or (request_is a r PRINCIPAL ∷ request_is a r ACTION ∷ request_is a r RESOURCE ∷ eqb (get_or r 1 0) (request_at a CONTEXT) ∷ []) j (eqb (get_or r 1 0) (request_at a CONTEXT))
      go zero e = absurd (n0 (sym e))
      go (suc zero) e = absurd (n1 (sym e))
      go (suc (suc zero)) e = absurd (n2 (sym e))
      go (suc (suc (suc zero))) e = refl
      go (suc (suc (suc (suc j)))) e = refl

  -- ---- `eq`

  module _ (o s : ℕ) (eo : o ≡ get_or r 1 0) (es : s ≡ sort_at a o) where
    pub eq_no : (s ≡ BOOL_SORT → ⊥) → false ≡ eq_rule a r
    unfolding eq_rule
    eq_no h = rw (← eo, ← es, ne_eqb s BOOL_SORT h)

    module _ (x y : ℕ) (h : s ≡ BOOL_SORT) (ex : x ≡ child_at a r 2) (ey : y ≡ child_at a r 3) where
      pub eq_same : x ≡ y → true ≡ eq_rule a r
      unfolding eq_rule
      eq_same e = rw (← eo, ← es, eq-eqb s BOOL_SORT h, ← ex, ← ey, eq-eqb x y e)

      module _ (n : x ≡ y → ⊥) (sx : ℕ) (ex' : sx ≡ sort_at a x) where
        pub eq_entities : (sy : ℕ) → sx ≡ ENTITY_SORT → sy ≡ sort_at a y → eqb sy ENTITY_SORT ≡ eq_rule a r
        unfolding eq_rule
        eq_entities sy e ey' = rw (← eo, ← es, eq-eqb s BOOL_SORT h, ← ex, ← ey, ne_eqb x y n, ← ex', eq-eqb sx ENTITY_SORT e, ← ey')

        pub eq_differ : (sx ≡ ENTITY_SORT → ⊥) → false ≡ eq_rule a r
        unfolding eq_rule
        eq_differ e = rw (← eo, ← es, eq-eqb s BOOL_SORT h, ← ex, ← ey, ne_eqb x y n, ← ex', ne_eqb sx ENTITY_SORT e)

  -- ---- `in`

  module _ (b : Bool) (eb : b ≡ two_sorts a r BOOL_SORT ENTITY_SORT) where
    pub in_no : not b ≡ true → false ≡ in_rule a r
    unfolding in_rule
    in_no h = rw (← eb, not-true b h)

    pub in_yes : (c : ℕ) (d : Bool) → not b ≡ false → c ≡ child_at a r 3 → d ≡ target_at a c → d ≡ in_rule a r
    unfolding in_rule
    in_yes c d h ec ed = rw (← eb, not-false b h, ← ec) ed

  -- ---- `gettag`

  module _ (c s : ℕ) (ec : c ≡ child_at a r 3) (es : s ≡ sort_at a c) where
    pub gettag_no : (s ≡ STRING_SORT → ⊥) → false ≡ gettag_rule a r
    unfolding gettag_rule
    gettag_no h = rw (← ec, ← es, ne_eqb s STRING_SORT h)

    module _ (x t : ℕ) (q : List ℕ) (h : s ≡ STRING_SORT) (ex : x ≡ child_at a r 2) (eq : q ≡ get_or (rows_of a TYPE) x []) (et : t ≡ tag q) where
      pub gettag_none : (t ≡ ENTITY_TYPE → ⊥) → false ≡ gettag_rule a r
      unfolding gettag_rule
      gettag_none n = rw (← ec, ← es, eq-eqb s STRING_SORT h, ← ex, kinds_not a q x t eq et n)

      pub gettag_some : (o : ℕ) (b : Bool) → t ≡ ENTITY_TYPE → o ≡ get_or r 1 0 → b ≡ all_in (tags_are a o) (kinds_in q) → b ≡ gettag_rule a r
      unfolding gettag_rule
      gettag_some o b n eo eb = rw (← ec, ← es, eq-eqb s STRING_SORT h, ← ex, kinds_is a q x t eq et n) (eb ∙ ap (λ i. all_in (tags_are a i) (kinds_in q)) eo)

  -- ---- `contains`

  module _ (o s : ℕ) (eo : o ≡ get_or r 1 0) (es : s ≡ sort_at a o) where
    pub contains_no : (s ≡ BOOL_SORT → ⊥) → false ≡ contains_rule a r
    unfolding contains_rule
    contains_no h = rw (← eo, ← es, ne_eqb s BOOL_SORT h)

    module _ (x : ℕ) (h : s ≡ BOOL_SORT) (ex : x ≡ child_at a r 2) where
      pub contains_none : none ≡ element_at a x → false ≡ contains_rule a r
      unfolding contains_rule
      contains_none e = rw (← eo, ← es, eq-eqb s BOOL_SORT h, ← ex, ← e)

      pub contains_some : (k y : ℕ) → some k ≡ element_at a x → y ≡ child_at a r 3 → eqb k y ≡ contains_rule a r
      unfolding contains_rule
      contains_some k y e ey = rw (← eo, ← es, eq-eqb s BOOL_SORT h, ← ex, ← e, ← ey)

  -- ---- `all`, `any`, `if`

  pub sets_no : (b : Bool) → b ≡ two_sorts a r BOOL_SORT SET_SORT → not b ≡ true → false ≡ two_sets_rule a r
  unfolding two_sets_rule
  sets_no b eb h = rw (← eb, not-true b h)

  pub sets_yes : (b : Bool) (x y : ℕ) → b ≡ two_sorts a r BOOL_SORT SET_SORT → not b ≡ false → x ≡ child_at a r 2 → y ≡ child_at a r 3 → eqb x y ≡ two_sets_rule a r
  unfolding two_sets_rule
  sets_yes b x y eb h ex ey = rw (← eb, not-false b h, ← ex, ← ey)

  module _ (c s : ℕ) (ec : c ≡ child_at a r 2) (es : s ≡ sort_at a c) where
    pub if_no : (s ≡ BOOL_SORT → ⊥) → false ≡ if_rule a r
    unfolding if_rule
    if_no h = rw (← ec, ← es, ne_eqb s BOOL_SORT h)

    module _ (o x : ℕ) (h : s ≡ BOOL_SORT) (eo : o ≡ get_or r 1 0) (ex : x ≡ child_at a r 3) where
      pub if_differs : (x ≡ o → ⊥) → false ≡ if_rule a r
      unfolding if_rule
      if_differs n = rw (← ec, ← es, eq-eqb s BOOL_SORT h, ← eo, ← ex, ne_eqb x o n)

      pub if_yes : (y : ℕ) → x ≡ o → y ≡ child_at a r 4 → eqb y o ≡ if_rule a r
      unfolding if_rule
      if_yes y n ey = rw (← ec, ← es, eq-eqb s BOOL_SORT h, ← eo, ← ex, eq-eqb x o n, ← ey)

  -- ---- `get`

  module _ (x t : ℕ) (q : List ℕ) (ex : x ≡ child_at a r 2) (eq : q ≡ get_or (rows_of a TYPE) x []) (et : t ≡ tag q) (u o : ℕ) (b : Bool) (eu : u ≡ get_or r 3 0) (eo : o ≡ get_or r 1 0) where
    pub get_kinds : t ≡ ENTITY_TYPE → b ≡ all_in (of_kind a (declares_as a u o)) (kinds_in q) → b ≡ get_rule a r
    unfolding get_rule
    get_kinds h eb = rw (← ex, ← eu, ← eo, each_kinds a q x t eq et (declares_as a u o) h) eb

    pub get_record : (t ≡ ENTITY_TYPE → ⊥) → b ≡ of_record a (declares_as a u o) x → b ≡ get_rule a r
    unfolding get_rule
    get_record h eb = rw (← ex, ← eu, ← eo, each_record a q x t eq et (declares_as a u o) h) eb

  -- ---- `has`, `haspath`

  module _ (o s : ℕ) (eo : o ≡ get_or r 1 0) (es : s ≡ sort_at a o) where
    pub has_no : (s ≡ BOOL_SORT → ⊥) → false ≡ has_rule a r
    unfolding has_rule
    has_no h = rw (← eo, ← es, ne_eqb s BOOL_SORT h)

    pub haspath_no : (s ≡ BOOL_SORT → ⊥) → false ≡ haspath_rule a r
    unfolding haspath_rule
    haspath_no h = rw (← eo, ← es, ne_eqb s BOOL_SORT h)

    module _ (x t : ℕ) (q : List ℕ) (b : Bool) (h : s ≡ BOOL_SORT) (ex : x ≡ child_at a r 2) (eq : q ≡ get_or (rows_of a TYPE) x []) (et : t ≡ tag q) where
      pub has_kinds : t ≡ ENTITY_TYPE → b ≡ all_in (of_kind a always) (kinds_in q) → b ≡ has_rule a r
      unfolding has_rule
      has_kinds n eb = rw (← eo, ← es, eq-eqb s BOOL_SORT h, ← ex, each_kinds a q x t eq et always n) eb

      pub has_record : (t ≡ ENTITY_TYPE → ⊥) → b ≡ of_record a always x → b ≡ has_rule a r
      unfolding has_rule
      has_record n eb = rw (← eo, ← es, eq-eqb s BOOL_SORT h, ← ex, each_record a q x t eq et always n) eb

    pub haspath_is : (x : ℕ) (b : Bool) → s ≡ BOOL_SORT → x ≡ child_at a r 2 → b ≡ path_at a r x → b ≡ haspath_rule a r
    unfolding haspath_rule
    haspath_is x b h ex eb = rw (← eo, ← es, eq-eqb s BOOL_SORT h, ← ex) eb

-- ---- sets

module _ (a r : List ℕ) where
  module _ (o : ℕ) (eo : o ≡ get_or r 1 0) where
    pub set_none : none ≡ element_at a o → false ≡ set_rule a r
    unfolding set_rule
    set_none e = rw (← eo, ← e)

    pub set_some : (k : ℕ) (b : Bool) → some k ≡ element_at a o → b ≡ all_of a (drop 2 r) k → b ≡ set_rule a r
    unfolding set_rule
    set_some k b e eb = rw (← eo, ← e) eb

    -- ---- records

    pub record_none : none ≡ record_at a o → false ≡ record_rule a r
    unfolding record_rule
    record_none e = rw (← eo, ← e)

    module _ (y : ℕ) (p q : List ℕ) (b : Bool) (e : some y ≡ record_at a o) (ep : p ≡ items r) (eq : q ≡ get_or (rows_of a TYPE) y []) (eb : b ≡ complete_in p q) where
      pub record_lacks : b ≡ false → false ≡ record_rule a r
      unfolding record_rule
      record_lacks h = rw (← eo, ← e, ← eq, ← ep, ← eb, h)

      pub record_some : (c : Bool) → b ≡ true → c ≡ args_fit a (drop 2 r) y → c ≡ record_rule a r
      unfolding record_rule
      record_some c h ec = rw (← eo, ← e, ← eq, ← ep, ← eb, h) ec

  -- a row's words from word 2 on
  pub rest_is : (l : List ℕ) → l ≡ part r 2 (length r) → l ≡ drop 2 r
  rest_is l e = e ∙ take_rest r 2

  -- what is left of the texts and nodes decides the whole
  pub record Args (y : ℕ) (l : List ℕ) : Type 0 where
    pub left : args_fit a (drop 2 r) y ≡ args_fit a l y

  pub args_start : (y : ℕ) (l : List ℕ) → l ≡ part r 2 (length r) → Args y l
  args_start y l e = record { left = ap (λ (k : List ℕ). args_fit a k y) (sym (rest_is l e)) }

  module _ (y : ℕ) (l : List ℕ) (w : Args y l) where
    pub args_end : length l < 2 → true ≡ args_fit a (drop 2 r) y
    unfolding args_fit
    args_end h = sym (w.left ∙ rw (entries_end l h))

    module _ (h : 2 ≤ length l) where
      args_step : (x : ℕ) → x ≡ node_type_at a (get_or l 1 0) → args_fit a l y ≡ (on_some false (attribute_at a y (get_or l 0 0)) (eqb x) && args_fit a (take (length l - 2) (drop 2 l)) y)
      unfolding args_fit
      args_step x ex = rw (entries_on l h, ex)

      pub args_undeclared : none ≡ attribute_at a y (get_or l 0 0) → false ≡ args_fit a (drop 2 r) y
      args_undeclared e = sym (w.left ∙ args_step (node_type_at a (get_or l 1 0)) refl ∙ rw (← e))

      module _ (z x : ℕ) (e : some z ≡ attribute_at a y (get_or l 0 0)) (ex : x ≡ node_type_at a (get_or l 1 0)) where
        pub args_off : (x ≡ z → ⊥) → false ≡ args_fit a (drop 2 r) y
        args_off k = sym (w.left ∙ args_step x ex ∙ rw (← e, ne_eqb x z k))

        pub args_on : x ≡ z → Args y (take (length l - 2) (drop 2 l))
        args_on k = record { left = w.left ∙ args_step x ex ∙ rw (← e, eq-eqb x z k) }

-- ---- slots

pub slot_is : (a r : List ℕ) (o s : ℕ) → o ≡ get_or r 1 0 → s ≡ sort_at a o → eqb s ENTITY_SORT ≡ slot_rule a r
unfolding slot_rule
slot_is a r o s eo es = rw (← eo, ← es)
