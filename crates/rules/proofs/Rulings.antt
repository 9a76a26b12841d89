-- One law for each way through the rules. Assumes nothing.
use mathlib.Core.Path.{◌≡◌, refl, sym, ap, ◌∙◌}
use mathlib.Core.Bool.{Bool, true, false, cond, not, ◌&&◌, ◌||◌}
use mathlib.Core.List.{List, [], ◌∷◌}
use mathlib.Core.Option.{none, some}
use mathlib.Core.Option as Math
use Rattle.std.specs.Prelude.{Option, Some, None, is_some}
use Rattle.std.specs.Bool.{then_some}
use Rattle.std.specs.List.{list_any}
use Prim.Native.Nat.{ℕ, ◌+◌, ◌≤◌, ◌<◌}
use native.Mathlib.Numerals.{add-one}
use native.Mathlib.Omega.{arith}
use borrow.Author.Tests.{eq-eqb, ne_eqb, lt-ltb, le-ltb}
use lib.Dec.{eqb}
use lib.ListN.{get_or, drop, length, replicate, drop_of_length-le}
use lib.Seq.{drop-cons}
use Rattle.cedar.specs.Value.{on_some}
use Rattle.cedar.specs.Types.{tbool, tstr, among, some_kind, each_kind, declared}
use Rattle.cedar.specs.Residual.{uis, beq, rin, rhastag}
use Rattle.cedar.specs.Interpret.{alone}
use Rattle.cedar.specs.TypeRules.{on_kinds, on_targets, undeclared, ordinary, false_if, is_rule, allows, un_rule, bin_rule, rel_rule, has_rule}
use Rattle.cedar.specs.Numbered.{mem_n}
use Rattle.cedar.proofs.SingleKinds.{has_alone}
use Rattle.forms.specs.Tags.{ENTITY_TYPE, SET_TYPE}
use Rattle.sheet.specs.Forms.{tag, mark, SHAPE}
use Rattle.sheet.specs.Content.{types, schema}
use Rattle.sheet.specs.Typing.{all_in}
use Rattle.table.specs.Layout.{rows_of, held, lines_held}
use Rattle.fits.specs.Fit.{found_in, kinds_in, kind_in}
use Rattle.typerows.specs.Types.{record_at, attribute_at, attribute_type_at, tag_type_at, action_at}
use Rattle.typesets.specs.Sets as Paths
use Rattle.typesets.proofs.Members.{member_zeros, each_none, each_added}
use Rattle.words.specs.Bits.{member, added}
use Rattle.rules.specs.Rules.{rule_in, schema_at, ty_at, type_line, target_row, pair_with, untagged, type_lacks, lacking, record_rule}
use Rattle.rules.proofs.Decoded.{kinds_of, kinds_none, targets_of, targets_none, attrs_read, has_read, has_other_read}

-- ---- the kinds of a row

-- a test of each kind
pub some_is : (f : ℕ → Bool) (l : List ℕ) → list_any f l ≡ some_kind f l
some_is f [] = refl
some_is f (k ∷ ks) = ap (λ (b : Bool). f k || b) (some_is f ks)

pub each_is : (f : ℕ → Bool) (l : List ℕ) → each_kind f l ≡ all_in f l
each_is f [] = refl
each_is f (k ∷ ks) = ap (λ b. f k && b) (each_is f ks)

-- the kinds l of row q from kind i on decide whether each passes f
pub record Each (f : ℕ → Bool) (q l : List ℕ) (i : ℕ) : Type 0 where
  pub left : each_kind f (kinds_in q) ≡ each_kind f (drop i l)

module _ (f : ℕ → Bool) (q l : List ℕ) where
  pub each_start : l ≡ kinds_in q → Each f q l 0
  each_start e = record { left = ap (each_kind f) (sym e) }

  module _ (i : ℕ) (g : Each f q l i) where
    pub each_over : length l ≤ i → true ≡ each_kind f (kinds_in q)
    each_over h = sym (g.left ∙ ap (each_kind f) (drop_of_length-le l h))

    module _ (b : Bool) (h : i < length l) (eb : b ≡ f (get_or l i 0)) where
      pub each_miss : b ≡ false → false ≡ each_kind f (kinds_in q)
      each_miss t = sym (g.left ∙ rw (drop-cons l i 0 h, ← eb, t))

      pub each_on : b ≡ true → Each f q l (i + 1)
      each_on t = record { left = g.left ∙ rw (add-one i, drop-cons l i 0 h, ← eb, t) refl }

-- a rule that says no, if it decides
decided : (b : Bool) (r : Option Bool) → r ≡ then_some b false → rule_in r ≡ false_if b
decided true r e = ap rule_in e
decided false r e = ap rule_in e

-- two tests of kinds that are the same
some_as : (f g : ℕ → Bool) (ks : List ℕ) → ((k : ℕ) → f k ≡ g k) → some_kind f ks ≡ some_kind g ks
some_as f g [] e = refl
some_as f g (k ∷ ks) e = rw (e k, some_as f g ks e) refl

among_mem : (l : ℕ) (ks : List ℕ) → among l ks ≡ mem_n l ks
among_mem l [] = refl
among_mem l (k ∷ ks) = ap (λ (b : Bool). eqb l k || b) (among_mem l ks)

-- ---- `is`

module _ (a : List ℕ) (y k t : ℕ) (q : List ℕ) (eq : q ≡ type_line a y) (et : t ≡ tag q) where
  abbrev Is : Option Bool → Type 0
  Is r = rule_in r ≡ un_rule (schema_at a) (uis k) (ty_at a y)

  pub is_other : (t ≡ ENTITY_TYPE → ⊥) → Is None
  is_other h = sym (kinds_none none (is_rule k) a y (λ e. h (et ∙ ap tag eq ∙ e)))

  is_kinds : t ≡ ENTITY_TYPE → un_rule (schema_at a) (uis k) (ty_at a y) ≡ is_rule k (kinds_in q)
  is_kinds h = rw eq (kinds_of none (is_rule k) a y (ap tag (sym eq) ∙ sym et ∙ h))

  pub is_sole : (x : ℕ) → t ≡ ENTITY_TYPE → length q < 3 → x ≡ get_or q 1 0 → Is (Some (eqb k x))
  is_sole x h l ex = sym (is_kinds h ∙ rw (drop_of_length-le q {i = 2} (omega arith), ← ex))

  more : t ≡ ENTITY_TYPE → 3 ≤ length q → un_rule (schema_at a) (uis k) (ty_at a y) ≡ false_if (not (kind_in q k))
  unfolding kind_in
  more h l = is_kinds h ∙ rw (drop-cons q 2 0 (omega arith), ← among_mem k (get_or q 1 0 ∷ get_or q 2 0 ∷ drop 3 q))

  pub is_among : (b : Bool) → t ≡ ENTITY_TYPE → 3 ≤ length q → b ≡ kind_in q k → b ≡ true → Is None
  is_among b h l eb z = sym (more h l ∙ rw (← eb, z))

  pub is_absent : (b : Bool) → t ≡ ENTITY_TYPE → 3 ≤ length q → b ≡ kind_in q k → b ≡ false → Is (Some false)
  is_absent b h l eb z = sym (more h l ∙ rw (← eb, z))

-- ---- `eq`

module _ (a : List ℕ) (y z t : ℕ) (q : List ℕ) (eq : q ≡ type_line a y) (et : t ≡ tag q) where
  abbrev Eq : Option Bool → Type 0
  Eq r = rule_in r ≡ bin_rule (schema_at a) beq (ty_at a y) (ty_at a z)

  abbrev sharing : List ℕ → List ℕ → Math.Option Bool
  sharing ks ls = false_if (not (some_kind (λ k. among k ls) ks))

  pub eq_left : (t ≡ ENTITY_TYPE → ⊥) → Eq None
  eq_left h = sym (kinds_none none (λ ks. on_kinds none (ty_at a z) (sharing ks)) a y (λ e. h (et ∙ ap tag eq ∙ e)))

  module _ (u : ℕ) (p : List ℕ) (ep : p ≡ type_line a z) (eu : u ≡ tag p) (h : t ≡ ENTITY_TYPE) where
    first : bin_rule (schema_at a) beq (ty_at a y) (ty_at a z) ≡ on_kinds none (ty_at a z) (sharing (kinds_in q))
    first = rw eq (kinds_of none (λ ks. on_kinds none (ty_at a z) (sharing ks)) a y (ap tag (sym eq) ∙ sym et ∙ h))

    pub eq_right : (u ≡ ENTITY_TYPE → ⊥) → Eq None
    eq_right g = sym (first ∙ kinds_none none (sharing (kinds_in q)) a z (λ e. g (eu ∙ ap tag ep ∙ e)))

    both : u ≡ ENTITY_TYPE → bin_rule (schema_at a) beq (ty_at a y) (ty_at a z) ≡ false_if (not (some_kind (kind_in p) (kinds_in q)))
    unfolding kind_in
    both g =
        first ∙ kinds_of none (sharing (kinds_in q)) a z (ap tag (sym ep) ∙ sym eu ∙ g)
        ∙ ap (λ (l : List ℕ). sharing (kinds_in q) (kinds_in l)) (sym ep)
        ∙ ap (λ (b : Bool). false_if (not b)) (some_as (λ k. among k (kinds_in p)) (kind_in p) (kinds_in q) (λ k. among_mem k (kinds_in p)))

    pub eq_shared : (o : List ℕ) (b : Bool) → u ≡ ENTITY_TYPE → o ≡ p → b ≡ some_kind (kind_in o) (kinds_in q) → b ≡ true → Eq None
    eq_shared o b g eo eb s = let e : b ≡ some_kind (kind_in p) (kinds_in q) = eb ∙ ap (λ (l : List ℕ). some_kind (kind_in l) (kinds_in q)) eo in sym (both g ∙ rw (← e, s))

    pub eq_apart : (o : List ℕ) (b : Bool) → u ≡ ENTITY_TYPE → o ≡ p → b ≡ some_kind (kind_in o) (kinds_in q) → b ≡ false → Eq (Some false)
    eq_apart o b g eo eb s = let e : b ≡ some_kind (kind_in p) (kinds_in q) = eb ∙ ap (λ (l : List ℕ). some_kind (kind_in l) (kinds_in q)) eo in sym (both g ∙ rw (← e, s))

-- ---- `in`

module _ (a : List ℕ) (y t : ℕ) (q : List ℕ) (eq : q ≡ type_line a y) (et : t ≡ tag q) where
  pub target_own : (t ≡ SET_TYPE → ⊥) → q ≡ target_row a y
  unfolding target_row
  target_own h = rw (← eq, ← et, ne_eqb t SET_TYPE h) refl

  module _ (x : ℕ) (h : t ≡ SET_TYPE) (ex : x ≡ get_or q 1 0) where
    pub target_earlier : (p : List ℕ) → x < y → p ≡ type_line a x → p ≡ target_row a y
    unfolding target_row
    target_earlier p l ep = rw (← eq, ← et, eq-eqb t SET_TYPE h, ← ex, lt-ltb x y l) ep

    pub target_later : y ≤ x → [] ≡ target_row a y
    unfolding target_row
    target_later l = rw (← eq, ← et, eq-eqb t SET_TYPE h, ← ex, le-ltb x y l) refl

module _ (a : List ℕ) (y z t : ℕ) (q : List ℕ) (eq : q ≡ type_line a y) (et : t ≡ tag q) where
  abbrev In : Option Bool → Type 0
  In r = rule_in r ≡ rel_rule (schema_at a) rin (ty_at a y) (ty_at a z)

  abbrev pairing : List ℕ → List ℕ → Math.Option Bool
  pairing ks ls = false_if (not (some_kind (λ k. some_kind (allows (schema_at a) k) ls) ks))

  pub in_left : (t ≡ ENTITY_TYPE → ⊥) → In None
  in_left h = sym (kinds_none none (λ ks. on_targets none (ty_at a z) (pairing ks)) a y (λ e. h (et ∙ ap tag eq ∙ e)))

  module _ (u : ℕ) (p : List ℕ) (ep : p ≡ target_row a z) (eu : u ≡ tag p) (h : t ≡ ENTITY_TYPE) where
    in_first : rel_rule (schema_at a) rin (ty_at a y) (ty_at a z) ≡ on_targets none (ty_at a z) (pairing (kinds_in q))
    in_first = rw eq (kinds_of none (λ ks. on_targets none (ty_at a z) (pairing ks)) a y (ap tag (sym eq) ∙ sym et ∙ h))

    pub in_right : (u ≡ ENTITY_TYPE → ⊥) → In None
    in_right g = sym (in_first ∙ targets_none none (pairing (kinds_in q)) a z (λ e. g (eu ∙ ap tag ep ∙ e)))

    in_both : u ≡ ENTITY_TYPE → rel_rule (schema_at a) rin (ty_at a y) (ty_at a z) ≡ false_if (not (some_kind (pair_with a p) (kinds_in q)))
    unfolding pair_with
    in_both g = in_first ∙ targets_of none (pairing (kinds_in q)) a z (ap tag (sym ep) ∙ sym eu ∙ g) ∙ ap (λ (l : List ℕ). pairing (kinds_in q) (kinds_in l)) (sym ep)

    pub in_pair : (o : List ℕ) (b : Bool) → u ≡ ENTITY_TYPE → o ≡ p → b ≡ some_kind (pair_with a o) (kinds_in q) → b ≡ true → In None
    in_pair o b g eo eb s = let e : b ≡ some_kind (pair_with a p) (kinds_in q) = eb ∙ ap (λ (l : List ℕ). some_kind (pair_with a l) (kinds_in q)) eo in sym (in_both g ∙ rw (← e, s))

    pub in_apart : (o : List ℕ) (b : Bool) → u ≡ ENTITY_TYPE → o ≡ p → b ≡ some_kind (pair_with a o) (kinds_in q) → b ≡ false → In (Some false)
    in_apart o b g eo eb s = let e : b ≡ some_kind (pair_with a p) (kinds_in q) = eb ∙ ap (λ (l : List ℕ). some_kind (pair_with a l) (kinds_in q)) eo in sym (in_both g ∙ rw (← e, s))

-- ---- `hastag`

action_as : (a : List ℕ) (k : ℕ) → ((schema_at a).shape k).is_action ≡ action_at a k
unfolding schema_at schema held lines_held action_at
action_as a k = refl

tags_as : (a : List ℕ) (k : ℕ) → undeclared ((schema_at a).shape k).tags ≡ eqb (tag_type_at a k) mark
unfolding schema_at schema held lines_held tag_type_at
tags_as a k = go (eqb (get_or (get_or (rows_of a SHAPE) k []) 2 0) mark)
  where
    go : (b : Bool) → undeclared (cond b none (some (get_or (types (held [] a [])) (get_or (get_or (rows_of a SHAPE) k []) 2 0) tbool))) ≡ b
    go true = refl
    go false = refl

module _ (a : List ℕ) (k : ℕ) (b : Bool) (eb : b ≡ action_at a k) where
  pub tags_action : b ≡ true → false ≡ untagged a k
  unfolding untagged
  tags_action t = rw (action_as a k, ← eb, t)

  pub tags_own : (x : ℕ) → b ≡ false → x ≡ tag_type_at a k → eqb x mark ≡ untagged a k
  unfolding untagged
  tags_own x t ex = rw (action_as a k, ← eb, t, tags_as a k, ← ex)

module _ (a : List ℕ) (y t : ℕ) (q : List ℕ) (eq : q ≡ type_line a y) (et : t ≡ tag q) where
  abbrev Tags : Option Bool → Type 0
  Tags r = rule_in r ≡ rel_rule (schema_at a) rhastag (ty_at a y) tstr

  pub tags_other : (t ≡ ENTITY_TYPE → ⊥) → Tags None
  tags_other h = sym (kinds_none none (λ ks. false_if (each_kind (λ k. ordinary ((schema_at a).shape k) && undeclared ((schema_at a).shape k).tags) ks)) a y (λ e. h (et ∙ ap tag eq ∙ e)))

  pub tags_kinds : (b : Bool) (r : Option Bool) → t ≡ ENTITY_TYPE → b ≡ all_in (untagged a) (kinds_in q) → r ≡ then_some b false → Tags r
  unfolding untagged
  tags_kinds b r h eb er =
      let e : rel_rule (schema_at a) rhastag (ty_at a y) tstr ≡ false_if (each_kind (untagged a) (kinds_in q)) = rw eq (kinds_of none (λ ks. false_if (each_kind (λ k. ordinary ((schema_at a).shape k) && undeclared ((schema_at a).shape k).tags) ks)) a y (ap tag (sym eq) ∙ sym et ∙ h)) in
      decided b r er ∙ sym (e ∙ ap false_if (each_is (untagged a) (kinds_in q) ∙ sym eb))

-- ---- `has`

attrs_as : (a : List ℕ) (t k : ℕ) → undeclared (declared t ((schema_at a).shape k).attrs) ≡ on_some true (record_at a (attribute_type_at a k)) (λ z. undeclared (attribute_at a z t))
unfolding schema_at schema ty_at held lines_held attribute_type_at
attrs_as a t k = attrs_read a t (attribute_type_at a k)

-- type y, and record types found to lack attribute t
module _ (a : List ℕ) (t : ℕ) where
  pub found_none : (n : ℕ) → Paths.Each (replicate n 0) (type_lacks a t)
  found_none n = each_none (replicate n 0) (type_lacks a t) (member_zeros n)

  module _ (y : ℕ) where
    pub found_there : (w : List ℕ) (b : Bool) → Paths.Each w (type_lacks a t) → b ≡ member w y → b ≡ true → true ≡ type_lacks a t y
    found_there w b g e h = sym (g.at y (omega arith) (sym e ∙ h))

    pub lacks_no_record : none ≡ record_at a y → true ≡ type_lacks a t y
    unfolding type_lacks
    lacks_no_record e = rw (← e)

    module _ (z : ℕ) (d : Option ℕ) (b : Bool) (e : some z ≡ record_at a y) (ed : found_in d ≡ attribute_at a z t) (eb : b ≡ is_some d) where
      lacks_by : type_lacks a t y ≡ not b
      unfolding type_lacks
      lacks_by = rw (← e, ← ed, eb) (go d)
        where
          go : (d : Option ℕ) → undeclared (found_in d) ≡ not (is_some d)
          go None = refl
          go (Some x) = refl

      pub lacks_it : b ≡ false → true ≡ type_lacks a t y
      lacks_it h = sym (lacks_by ∙ rw h)

      pub lacks_not : b ≡ true → false ≡ type_lacks a t y
      lacks_not h = sym (lacks_by ∙ rw h)

      pub found_more : (w v : List ℕ) → Paths.Each w (type_lacks a t) → b ≡ false → v ≡ added w y → Paths.Each v (type_lacks a t)
      found_more w v g h ev = rw ev (each_added w (type_lacks a t) y g (sym (lacks_it h)))

module _ (a : List ℕ) (t k : ℕ) (b : Bool) (eb : b ≡ action_at a k) where
  pub lacks_action : b ≡ true → false ≡ lacking a t k
  unfolding lacking
  lacks_action h = rw (action_as a k, ← eb, h)

  pub lacks_type : (y : ℕ) (c : Bool) → b ≡ false → y ≡ attribute_type_at a k → c ≡ type_lacks a t y → c ≡ lacking a t k
  unfolding lacking type_lacks
  lacks_type y c h ey ec = rw (action_as a k, ← eb, h, attrs_as a t k, ← ey) ec

pub alone_is : (a : List ℕ) (t k : ℕ) (b : Bool) (r : Option Bool) → b ≡ lacking a t k → r ≡ then_some b false → rule_in r ≡ has_rule (schema_at a) t (alone k)
unfolding lacking
alone_is a t k b r eb er = decided b r er ∙ sym (rw eb (has_alone (schema_at a) t k))

pub record_is : (a : List ℕ) (t y : ℕ) (f : Option ℕ) (b : Bool) (r : Option Bool) → found_in f ≡ attribute_at a y t → is_some f ≡ not b → r ≡ then_some b false → rule_in r ≡ record_rule a t y
unfolding record_rule
record_is a t y f b r ef eb er = decided b r er ∙ rw (← ef) (ap false_if (go f b eb))
  where
    go : (f : Option ℕ) (b : Bool) → is_some f ≡ not b → b ≡ undeclared (found_in f)
    go None true e = refl
    go None false e = cc
    go (Some x) true e = cc
    go (Some x) false e = refl

module _ (a : List ℕ) (t y k : ℕ) (q : List ℕ) (eq : q ≡ type_line a y) (ek : k ≡ tag q) where
  abbrev Has : Option Bool → Type 0
  Has r = rule_in r ≡ has_rule (schema_at a) t (ty_at a y)

  pub has_kinds : (b : Bool) (r : Option Bool) → k ≡ ENTITY_TYPE → b ≡ each_kind (lacking a t) (kinds_in q) → r ≡ then_some b false → Has r
  has_kinds b r h eb er = decided b r er ∙ sym (rw (eb, eq) (has_read a t y (ap tag (sym eq) ∙ sym ek ∙ h)))

  module _ (h : k ≡ ENTITY_TYPE → ⊥) where
    has_as : has_rule (schema_at a) t (ty_at a y) ≡ on_some none (record_at a y) (record_rule a t)
    has_as = has_other_read a t y (λ e. h (ek ∙ ap tag eq ∙ e))

    pub has_other : (r : Option Bool) → none ≡ record_at a y → r ≡ None → Has r
    has_other r e er = rw (has_as, ← e, er)

    pub has_record : (z : ℕ) (r : Option Bool) → some z ≡ record_at a y → rule_in r ≡ record_rule a t z → Has r
    has_record z r e er = rw (has_as, ← e) er
