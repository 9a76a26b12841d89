-- The rules of keys: one law for each answer of the code.
use mathlib.Core.Path.{◌≡◌, refl, sym, ap, ◌∙◌}
use mathlib.Core.Bool.{Bool, true, false, not, cond, ◌&&◌, ◌||◌}
use mathlib.Core.List.{List, [], ◌∷◌}
use mathlib.Core.Option.{none, some}
use Prim.Native.Nat.{ℕ, zero, suc, ◌+◌, ◌-◌, ◌≤◌, ◌<◌}
use native.Mathlib.Omega.{arith}
use native.Mathlib.Decide.{dec_lt}
use borrow.Author.Tests.{eq-eqb, ne_eqb, not-true, not-false, lt-ltb, le-ltb}
use lib.Dec.{eqb, ltb}
use lib.ListN.{length, get_or, drop, set, replicate, drop_of_length-le}
use lib.Seq.{get_or-set_other}
use Rattle.sheet.specs.Forms.{tag, items, mark, first_node, SHAPE, VALUE, ENTITY, PRINCIPAL, ACTION, RESOURCE, CONTEXT, NODE, POLICY, LINK, no_key}
use Rattle.forms.specs.Tags.{LONG_VALUE, ENTITY_VALUE, SET_VALUE, RECORD_VALUE}
use Rattle.sheet.specs.State.{entries_of, value_row}
use Rattle.sheet.specs.Typing.{all_in, all_entries, is_stop}
use Rattle.table.specs.Layout.{rows_of}
use Rattle.fits.specs.Fit.{full, found_in, tags_fit_by, Known, Answered}
use Rattle.std.specs.Prelude as Found
use Rattle.std.proofs.lemmas.List.{drop_more}
use Rattle.cedar.specs.Numbered.{is_some}
use Rattle.fits.proofs.Sorts.{sort_tag, no_entity, no_set, no_record}
use Rattle.typing.specs.Links.{link_rule}
use Rattle.typerows.specs.Types.{BOOL_SORT, sort_at, record_at, bare_at, attribute_type_at, tag_type_at, is_above_at, action_at}
use Rattle.typing.specs.Rules.{child_at, node_rule, shape_rule, context_rule, policy_rule, attributes_rule, tags_rule, ancestor_rule, parents_rule, entity_rule, typed_rule}

-- an answer that asks for no pair
pub plain : (a m : List ℕ) (x b : Bool) → Known a m → b ≡ x → Answered a m m x b
plain a m x b k e = record { is = λ s. e; known = k; rest = refl }

turned : {a m n : List ℕ} {x y b : Bool} → x ≡ y → Answered a m n x b → Answered a m n y b
turned e q = record { is = λ s. q.is s ∙ e; known = q.known; rest = q.rest }

-- ---- shapes

module _ (a r : List ℕ) (o : ℕ) (eo : o ≡ get_or r 1 0) where
  pub shape_none : none ≡ record_at a o → false ≡ shape_rule a r
  unfolding shape_rule
  shape_none e = rw (← eo, ← e)

  module _ (y n : ℕ) (b : Bool) (e : some y ≡ record_at a o) (en : n ≡ get_or a SHAPE 0) (eb : b ≡ action_at a n) where
    pub shape_plain : b ≡ false → true ≡ shape_rule a r
    unfolding shape_rule
    shape_plain h = rw (← eo, ← e, ← en, ← eb, h)

    module _ (c : Bool) (h : b ≡ true) (ec : c ≡ bare_at a y) where
      pub shape_full : c ≡ false → false ≡ shape_rule a r
      unfolding shape_rule
      shape_full i = rw (← eo, ← e, ← en, ← eb, h, ← ec, i)

      pub shape_bare : (t : ℕ) → c ≡ true → t ≡ get_or r 2 0 → eqb t mark ≡ shape_rule a r
      unfolding shape_rule
      shape_bare t i et = rw (← eo, ← e, ← en, ← eb, h, ← ec, i, ← et)

-- ---- attributes, tags, parents of an entity

module _ (a m : List ℕ) (x k : ℕ) (u : Known a m) where
  pub attributes_unknown : x ≡ mark → Answered a m m (attributes_rule a x k) true
  unfolding attributes_rule
  attributes_unknown h = plain a m (attributes_rule a x k) true u (rw (eq-eqb x mark h))

  pub tags_unknown : x ≡ mark → Answered a m m (tags_rule a x k) true
  unfolding tags_rule
  tags_unknown h = plain a m (tags_rule a x k) true u (rw (eq-eqb x mark h))

  module _ (q : List ℕ) (t : ℕ) (eq : q ≡ get_or (rows_of a VALUE) x []) (et : t ≡ tag q) (nx : x ≡ mark → ⊥) where
    pub attributes_sort : (t ≡ RECORD_VALUE → ⊥) → Answered a m m (attributes_rule a x k) false
    unfolding attributes_rule
    attributes_sort h = plain a m (attributes_rule a x k) false u
        (rw (ne_eqb x mark nx, ← eq) (sym (no_record false (value_row q) (λ e. full a x (attribute_type_at a k)) (λ s. h (et ∙ sort_tag q (RECORD_VALUE - LONG_VALUE) s)))))

    pub tags_sort : (t ≡ RECORD_VALUE → ⊥) → Answered a m m (tags_rule a x k) false
    unfolding tags_rule
    tags_sort h = plain a m (tags_rule a x k) false u
        (rw (ne_eqb x mark nx, ← eq) (sym (no_record false (value_row q) (λ e. cond (eqb (tag_type_at a k) mark) (is_stop e) (all_entries (λ t v. full a v (tag_type_at a k)) e)) (λ s. h (et ∙ sort_tag q (RECORD_VALUE - LONG_VALUE) s)))))

stops : (l : List ℕ) → ltb (length l) 3 ≡ is_stop (entries_of (drop 1 l))
stops [] = refl
stops (x ∷ []) = refl
stops (x ∷ y ∷ []) = refl
stops (x ∷ y ∷ z ∷ l) = le-ltb (length (x ∷ y ∷ z ∷ l)) 3 (omega arith)

module _ (a m n : List ℕ) (x k : ℕ) (q : List ℕ) (t : ℕ) (eq : q ≡ get_or (rows_of a VALUE) x []) (et : t ≡ tag q) (nx : x ≡ mark → ⊥) (h : t ≡ RECORD_VALUE) where
  is_record : tag q ≡ RECORD_VALUE
  is_record = sym et ∙ h

  attributes_as : (z : ℕ) → z ≡ attribute_type_at a k → full a x z ≡ attributes_rule a x k
  unfolding attributes_rule
  attributes_as z ez = rw (ne_eqb x mark nx, ← eq, is_record, ez)

  pub attributes_known : (z : ℕ) (b : Bool) → z ≡ attribute_type_at a k → Answered a m n (full a x z) b → Answered a m n (attributes_rule a x k) b
  attributes_known z b ez = turned (attributes_as z ez)

  pub tags_bare : (y : ℕ) → Known a m → y ≡ tag_type_at a k → y ≡ mark → Answered a m m (tags_rule a x k) (ltb (length q) 3)
  unfolding tags_rule
  tags_bare y u ey hy = plain a m (tags_rule a x k) (ltb (length q) 3) u
      (rw (ne_eqb x mark nx, ← eq, is_record, ← ey, eq-eqb y mark hy) (stops q))

  tags_as : (y : ℕ) → y ≡ tag_type_at a k → (y ≡ mark → ⊥) → tags_fit_by (full a) q y ≡ tags_rule a x k
  unfolding tags_rule tags_fit_by
  tags_as y ey ny = rw (ne_eqb x mark nx, ← eq, is_record, ← ey, ne_eqb y mark ny)

  pub tags_known : (y : ℕ) (b : Bool) → y ≡ tag_type_at a k → (y ≡ mark → ⊥) → Answered a m n (tags_fit_by (full a) q y) b → Answered a m n (tags_rule a x k) b
  tags_known y b ey ny = turned (tags_as y ey ny)

module _ (a q : List ℕ) (x k t : ℕ) (eq : q ≡ get_or (rows_of a VALUE) x []) (et : t ≡ tag q) where
  pub ancestor_yes : (b : Bool) (l : ℕ) → t ≡ ENTITY_VALUE → l ≡ get_or q 1 0 → b ≡ is_above_at a k l → b ≡ ancestor_rule a x k
  unfolding ancestor_rule
  ancestor_yes b l h el eb = let e : tag q ≡ ENTITY_VALUE = sym et ∙ h in rw (← eq, e, ← el) eb

  pub ancestor_no : (t ≡ ENTITY_VALUE → ⊥) → false ≡ ancestor_rule a x k
  unfolding ancestor_rule
  ancestor_no h = rw (← eq) (sym (no_entity false (value_row q) (λ l i. is_above_at a k l) (λ s. h (et ∙ sort_tag q (ENTITY_VALUE - LONG_VALUE) s))))

  pub parents_sort : (x ≡ mark → ⊥) → (t ≡ SET_VALUE → ⊥) → false ≡ parents_rule a x k
  unfolding parents_rule
  parents_sort nx h = rw (ne_eqb x mark nx, ← eq) (sym (no_set false (value_row q) (all_in (λ v. ancestor_rule a v k)) (λ s. h (et ∙ sort_tag q (SET_VALUE - LONG_VALUE) s))))

pub parents_unknown : (a : List ℕ) (x k : ℕ) → x ≡ mark → true ≡ parents_rule a x k
unfolding parents_rule
parents_unknown a x k h = rw (eq-eqb x mark h)

-- what is left of the parents, l from parent i on, decides the whole
pub record Parents (a l : List ℕ) (x k i : ℕ) : Type 0 where
  pub left : parents_rule a x k ≡ all_in (λ v. ancestor_rule a v k) (drop i l)

pub parents_start : (a q l : List ℕ) (x k t : ℕ) → q ≡ get_or (rows_of a VALUE) x [] → t ≡ tag q → (x ≡ mark → ⊥) → t ≡ SET_VALUE → l ≡ items q → Parents a l x k 0
unfolding parents_rule
parents_start a q l x k t eq et nx h el = let e : tag q ≡ SET_VALUE = sym et ∙ h in record { left = rw (ne_eqb x mark nx, ← eq, e, ← el) }

module _ (a l : List ℕ) (x k i : ℕ) (w : Parents a l x k i) where
  pub parents_end : length l ≤ i → true ≡ parents_rule a x k
  parents_end h = sym (w.left ∙ rw (drop_of_length-le l h))

  module _ (h : i < length l) (b : Bool) (eb : b ≡ ancestor_rule a (get_or l i 0) k) where
    pub parents_off : b ≡ false → false ≡ parents_rule a x k
    parents_off e = sym (w.left ∙ rw (drop_more l i 0 h, ← eb, e))

    pub parents_on : b ≡ true → Parents a l x k (i + 1)
    parents_on e = record { left = w.left ∙ rw (drop_more l i 0 h, ← eb, e) }

-- ---- `entity_typed`

module _ (a r q : List ℕ) (v t : ℕ) (ev : v ≡ get_or r 1 0) (eq : q ≡ get_or (rows_of a VALUE) v []) (et : t ≡ tag q) where
  pub entity_no : (m : List ℕ) → Known a m → (t ≡ ENTITY_VALUE → ⊥) → Answered a m m (entity_rule a r) false
  unfolding entity_rule
  entity_no m u h = plain a m (entity_rule a r) false u
      (rw (← ev, ← eq) (sym (no_entity false (value_row q) (λ k i. attributes_rule a (get_or r 2 0) k && tags_rule a (get_or r 3 0) k && parents_rule a (get_or r 4 0) k) (λ s. h (et ∙ sort_tag q (ENTITY_VALUE - LONG_VALUE) s)))))

  module _ (k x : ℕ) (h : t ≡ ENTITY_VALUE) (ek : k ≡ get_or q 1 0) (ex : x ≡ get_or r 2 0) where
    entity_as : entity_rule a r ≡ (attributes_rule a x k && tags_rule a (get_or r 3 0) k && parents_rule a (get_or r 4 0) k)
    unfolding entity_rule
    entity_as = let e : tag q ≡ ENTITY_VALUE = sym et ∙ h in rw (← ev, ← eq, e, ← ek, ← ex)

    module _ (m n : List ℕ) (b : Bool) (p : Answered a m n (attributes_rule a x k) b) where
      pub entity_attributes : not b ≡ true → Answered a m n (entity_rule a r) false
      entity_attributes nb = record {
        is = λ s. let e : attributes_rule a x k ≡ false = sym (p.is s) ∙ not-true b nb in sym (entity_as ∙ rw e);
        known = p.known;
        rest = p.rest;
      }

      module _ (nb : not b ≡ false) (y : ℕ) (o : List ℕ) (c : Bool) (ey : y ≡ get_or r 3 0) (g : Answered a n o (tags_rule a y k) c) where
        pub entity_tags : not c ≡ true → Answered a m o (entity_rule a r) false
        entity_tags nc = record {
          is = λ s.
              let e : attributes_rule a x k ≡ true = sym (p.is s) ∙ not-false b nb in
              let f : tags_rule a (get_or r 3 0) k ≡ false = rw (← ey) (sym (g.is s) ∙ not-true c nc) in
              sym (entity_as ∙ rw (e, f));
          known = g.known;
          rest = g.rest ∙ p.rest;
        }

        pub entity_parents : (z : ℕ) (d : Bool) → not c ≡ false → z ≡ get_or r 4 0 → d ≡ parents_rule a z k → Answered a m o (entity_rule a r) d
        entity_parents z d nc ez ed = record {
          is = λ s.
              let e : attributes_rule a x k ≡ true = sym (p.is s) ∙ not-false b nb in
              let f : tags_rule a (get_or r 3 0) k ≡ true = rw (← ey) (sym (g.is s) ∙ not-false c nc) in
              sym (entity_as ∙ rw (e, f, ← ez, ← ed));
          known = g.known;
          rest = g.rest ∙ p.rest;
        }

-- ---- the context, policies

module _ (a r : List ℕ) (y : ℕ) (f : Found.Option ℕ) (b : Bool) (ey : y ≡ get_or r 1 0) (ef : found_in f ≡ record_at a y) (eb : Found.is_some f ≡ not b) where
  pub context_none : (m : List ℕ) → Known a m → b ≡ true → Answered a m m (context_rule a r) false
  unfolding context_rule
  context_none m u g = plain a m (context_rule a r) false u (rw (← ey, ← ef) (go f (eb ∙ ap not g)))
    where
      go : (f : Found.Option ℕ) → Found.is_some f ≡ false → false ≡ (is_some (found_in f) && (eqb (get_or r 2 0) mark || full a (get_or r 2 0) y))
      go Found.None e = refl
      go (Found.Some z) e = cc

  module _ (x : ℕ) (g : b ≡ false) (ex : x ≡ get_or r 2 0) where
    there : is_some (record_at a y) ≡ true
    there = rw (← ef) (go f (eb ∙ ap not g))
      where
        go : (f : Found.Option ℕ) → Found.is_some f ≡ true → is_some (found_in f) ≡ true
        go Found.None e = cc
        go (Found.Some z) e = refl

    pub context_unknown : (m : List ℕ) → Known a m → x ≡ mark → Answered a m m (context_rule a r) true
    unfolding context_rule
    context_unknown m u h = plain a m (context_rule a r) true u (rw (← ey, there, ← ex, eq-eqb x mark h))

    context_as : (x ≡ mark → ⊥) → full a x y ≡ context_rule a r
    unfolding context_rule
    context_as h = rw (← ey, there, ← ex, ne_eqb x mark h)

    pub context_known : (m n : List ℕ) (b : Bool) → (x ≡ mark → ⊥) → Answered a m n (full a x y) b → Answered a m n (context_rule a r) b
    context_known m n b h = turned (context_as h)

pub policy_is : (a r : List ℕ) (c s : ℕ) → c ≡ child_at a r 3 → s ≡ sort_at a c → eqb s BOOL_SORT ≡ policy_rule a r
unfolding policy_rule
policy_is a r c s ec es = rw (← ec, ← es)

-- ---- any key

module _ (a r : List ℕ) (k : ℕ) where
  pub key_shape : (b : Bool) → k ≡ SHAPE → b ≡ shape_rule a r → b ≡ typed_rule a r k
  unfolding typed_rule
  key_shape b h e = rw h e

  pub key_principal : (b : Bool) (x : ℕ) → k ≡ PRINCIPAL → x ≡ get_or r 1 0 → b ≡ action_at a x → not b ≡ typed_rule a r k
  unfolding typed_rule
  key_principal b x h ex e = rw (h, ← ex, ← e)

  pub key_action : (b : Bool) (x : ℕ) → k ≡ ACTION → x ≡ get_or r 1 0 → b ≡ action_at a x → b ≡ typed_rule a r k
  unfolding typed_rule
  key_action b x h ex e = rw (h, ← ex) e

  pub key_resource : (b : Bool) (x : ℕ) → k ≡ RESOURCE → x ≡ get_or r 1 0 → b ≡ action_at a x → not b ≡ typed_rule a r k
  unfolding typed_rule
  key_resource b x h ex e = rw (h, ← ex, ← e)

  pub key_policy : (b : Bool) → k ≡ POLICY → b ≡ policy_rule a r → b ≡ typed_rule a r k
  unfolding typed_rule
  key_policy b h e = rw h e

  module _ (m n : List ℕ) (b : Bool) where
    pub line_entity : k ≡ ENTITY → Answered a m n (entity_rule a r) b → Answered a m n (typed_rule a r k) b
    unfolding typed_rule
    line_entity h q = rw h q

    pub line_context : k ≡ CONTEXT → Answered a m n (context_rule a r) b → Answered a m n (typed_rule a r k) b
    unfolding typed_rule
    line_context h q = rw h q

    pub line_node : k ≡ NODE → Answered a m n (node_rule a r (tag r - first_node)) b → Answered a m n (typed_rule a r k) b
    unfolding typed_rule
    line_node h q = rw h q

    pub line_link : k ≡ LINK → Answered a m n (link_rule a r) b → Answered a m n (typed_rule a r k) b
    unfolding typed_rule
    line_link h q = rw h q

-- ---- the keys whose lines need no typing, and numbers that are no key

-- true for each key, but for these
but_for : List (ℕ × Bool) → List Bool
but_for [] = replicate no_key true
but_for ((i, b) ∷ l) = set (but_for l) i b

NoneAt : List (ℕ × Bool) → ℕ → Type 0
NoneAt [] k = Unit {0}
NoneAt ((i, b) ∷ l) k = NoneAt l k × (k ≡ i → ⊥)

all_true : (n k : ℕ) → ltb k n ≡ get_or (replicate n true) k false
all_true zero k = le-ltb k zero (omega arith)
all_true (suc n) zero = lt-ltb zero (suc n) (omega arith)
all_true (suc n) (suc k) = go (dec_lt k n) ∙ all_true n k
  where
    go : Dec (k < n) → ltb (suc k) (suc n) ≡ ltb k n
    go (yes h) = lt-ltb (suc k) (suc n) (omega (arith, h)) ∙ sym (lt-ltb k n h)
    go (no h) = le-ltb (suc k) (suc n) (omega (arith, h)) ∙ sym (le-ltb k n (omega (arith, h)))

but_for_law : (l : List (ℕ × Bool)) (k : ℕ) → NoneAt l k → ltb k no_key ≡ get_or (but_for l) k false
unfolding but_for NoneAt
but_for_law [] k n = all_true no_key k
but_for_law ((i, b) ∷ l) k n = but_for_law l k n.0 ∙ sym (get_or-set_other (but_for l) i k b false n.1)

pub key_free : (a r : List ℕ) (k : ℕ) → (k ≡ ENTITY → ⊥) × (k ≡ CONTEXT → ⊥) × (k ≡ NODE → ⊥) × (k ≡ LINK → ⊥) → (k ≡ SHAPE → ⊥) → (k ≡ PRINCIPAL → ⊥) → (k ≡ ACTION → ⊥) → (k ≡ RESOURCE → ⊥) → (k ≡ POLICY → ⊥) → ltb k no_key ≡ typed_rule a r k
unfolding typed_rule but_for NoneAt
key_free a r k n n-shape n-principal n-action n-resource n-policy =
    but_for_law (
    (SHAPE, shape_rule a r)
    ∷ (ENTITY, entity_rule a r)
    ∷ (PRINCIPAL, not (action_at a (get_or r 1 0)))
    ∷ (ACTION, action_at a (get_or r 1 0))
    ∷ (RESOURCE, not (action_at a (get_or r 1 0)))
    ∷ (CONTEXT, context_rule a r)
    ∷ (NODE, node_rule a r (tag r - first_node))
    ∷ (POLICY, policy_rule a r)
    ∷ (LINK, link_rule a r)
    ∷ []) k (((((((((tt, n.3), n-policy), n.2), n.1), n-resource), n-action), n-principal), n.0), n-shape)
