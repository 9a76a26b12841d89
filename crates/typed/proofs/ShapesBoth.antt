-- Shapes by number and by content: what the kinds of an entity type declare, and the steps of a path.
use mathlib.Core.Path.{◌≡◌, refl, sym, ◌∙◌, ap, ap₂, subst}
use mathlib.Core.Bool.{Bool, true, false, ◌&&◌, ◌||◌, not}
use mathlib.Core.Option.{Option, none, some}
use mathlib.Core.List.{List, [], ◌∷◌}
use Prim.Native.Nat.{ℕ, zero, suc, ◌<◌, ◌≤◌}
use native.Mathlib.Nat.{le_of_suc-le-suc}
use native.Mathlib.Omega.{arith}
use borrow.Author.Tests.{ltb-true, leb-true}
use lib.Dec.{leb, ltb, eqb}
use lib.ListN.{length, get_or, take, drop}
use Rattle.cedar.proofs.Tools.{eqb_self, or_left, or_right, and_both}
use Rattle.cedar.specs.Value.{on_some}
use Rattle.cedar.specs.Types.{Ty, among, each_kind, Attrs, declared}
use Rattle.cedar.specs.TypingTest.{on_ent_ty, on_rec_ty, each, path_ok}
use Rattle.sheet.specs.Forms.{Mode, forms, form_of, slot_at, tag, at, mark, key_of, KIND, TYPE, SHAPE, no_tag}
use Rattle.sheet.specs.State.{State, lines_of, count, line_at, counts, lengths, Declared, entity, record', type_row, type_at}
use Rattle.sheet.specs.Typing.{on_entity, on_record, declared_in, all_in, is_action, attributes_of, tags_of, none_declared, each_of, path_typed, typed}
use Rattle.sheet.specs.Sheet.{reach, least, enough, in_order, all_zero}
use Rattle.sheet.specs.Content.{types, attrs_over, ty_over, attrs_in, schema}
use Rattle.sheet.proofs.reading.Parsed.{all_below, between, tags_between}
use Rattle.sheet.proofs.reading.RowTests.{on_record_law}
use Rattle.sheet.proofs.content.FitsSound.{declared_over, map_ty}
use Rattle.sheet.proofs.content.TypeNumbers.{split_at}
use Rattle.sheet.proofs.reading.NodeRows.{row_read}
use Rattle.sheet.proofs.content.PoliciesRead.{item_there}
use Rattle.sheet.proofs.reading.Depths.{Reached, reached_history, reached_depths}
use Rattle.typed.specs.ByContent.{type_in}
use Rattle.typed.proofs.TypesBoth.{type_eq, entity_both, record_both, kind_there}

-- ---- after the shapes every kind has one

pub reach_take : (k : ℕ) (xs ys : List ℕ) → reach (take k xs) ys ≡ true → (j : ℕ) → j < k → j < length xs → j < length ys → get_or ys j 0 ≤ get_or xs j 0
reach_take zero xs ys e j a b c = absurd (omega arith)
reach_take (suc k) [] ys e j a b c = absurd (omega arith)
reach_take (suc k) (x ∷ xs) [] e j a b c = absurd (omega arith)
reach_take (suc k) (x ∷ xs) (y ∷ ys) e zero a b c = and_both (leb y x) (reach (take k xs) ys) e (λ p q. leb-true y x p)
reach_take (suc k) (x ∷ xs) (y ∷ ys) e (suc j) a b c = and_both (leb y x) (reach (take k xs) ys) e (λ p q. reach_take k xs ys q j (le_of_suc-le-suc a) (le_of_suc-le-suc b) (le_of_suc-le-suc c))

pub lengths_length : (ls : List (List (List ℕ))) → length (lengths ls) ≡ length ls
lengths_length [] = refl
lengths_length (l ∷ ls) = ap suc (lengths_length ls)

pub lengths_at : (ls : List (List (List ℕ))) (j : ℕ) → get_or (lengths ls) j 0 ≡ length (get_or ls j [])
lengths_at [] j = refl
lengths_at (l ∷ ls) zero = refl
lengths_at (l ∷ ls) (suc j) = lengths_at ls j

shape_tags : all_below (between 4 9 9) no_tag ≡ true
unfolding form_of forms
shape_tags = refl

all_each : (f g : ℕ → Bool) (l : List ℕ) → ((j : ℕ) → among j l ≡ true → f j ≡ g j) → all_in f l ≡ each_kind g l
all_each f g [] h = refl
all_each f g (k ∷ l) h = ap₂ ◌&&◌ (h k (or_left (eqb k k) (among k l) (eqb_self k))) (all_each f g l (λ j i. h j (or_right (eqb j k) (among j l) i)))

some_map : (d : Bool) (T : ℕ → Ty) (o : Option ℕ) (f : ℕ → Bool) (g : Ty → Bool) → ((y : ℕ) → o ≡ some y → f y ≡ g (T y)) → on_some d o f ≡ on_some d (map_ty T o) g
some_map d T none f g h = refl
some_map d T (some y) f g h = h y refl

module _ {m : Mode} {s : State} (h : Reached m s) where
  pub kinds_shaped : (k : ℕ) → SHAPE < k → in_order s k ≡ true → count s KIND ≤ count s SHAPE
  kinds_shaped k lt e =
      let n = (reached_depths h).keys in
      let a = lengths_length s.lines in
      let c = lengths_at s.lines SHAPE in
      let b = reach_take k (counts s) (least s) (and_both (all_zero (drop (suc k) (counts s))) (enough s k) e (λ p q. q)) SHAPE lt (omega (arith, n, a)) (omega arith) in
      omega (arith, b, c)

  -- a kind that has a shape
  module _ (k : ℕ) (lt : k < count s SHAPE) where
    pub shape_record : {X : Type 0} → ((ds : List Declared) → type_at s (attributes_of s k) ≡ record' ds → X) → X
    unfolding typed
    shape_record f = split_at (lines_of s SHAPE) k lt (λ pre rest e.
        let w = reached_history h SHAPE pre (line_at s SHAPE k) rest e in
        on_record_law (type_at w.was (attributes_of s k)) (λ ds. not (is_action w.was (count w.was SHAPE)) || (none_declared ds && eqb (at (line_at s SHAPE k) 1) mark)) w.pass.types
        (λ ds q g. f ds (ap (λ l. type_row (get_or l (attributes_of s k) [])) (sym (w.earlier TYPE (omega arith))) ∙ q)))

    pub shape_attrs : (ds : List Declared) → type_at s (attributes_of s k) ≡ record' ds → ((schema s).shape k).attrs ≡ attrs_over (types s) ds
    unfolding schema
    shape_attrs ds e = ap attrs_in (type_eq h (attributes_of s k) ∙ ap (ty_over (types s)) e)

    pub shape_there : (eqb (tags_of s k) mark || ltb (tags_of s k) (count s TYPE)) ≡ true
    unfolding key_of slot_at form_of forms
    shape_there = split_at (lines_of s SHAPE) k lt (λ pre rest e.
        let w = reached_history h SHAPE pre (line_at s SHAPE k) rest e in
        let (lo, hi) = tags_between 4 9 9 (tag (line_at s SHAPE k)) (omega arith) shape_tags w.key in
        let rd = row_read m (line_at s SHAPE k) w.line 9 w.row (omega (arith, lo, hi)) (omega arith) (omega arith) (λ z. absurd (omega (arith, z))) in
        subst (λ l. (eqb (tags_of s k) mark || ltb (tags_of s k) (length l)) ≡ true) (w.earlier TYPE (omega arith)) (item_there m s w.was SHAPE (line_at s SHAPE k) 9 rd w.pass.refers 1 (ltb-true 1 2 refl)))

    attrs_both : (f : List Declared → Bool) (g : Attrs → Bool) → ((z : ℕ) (ds : List Declared) → type_at s z ≡ record' ds → f ds ≡ g (attrs_over (types s) ds)) → on_record false (type_at s (attributes_of s k)) f ≡ g ((schema s).shape k).attrs
    attrs_both f g r = shape_record (λ ds e. ap (λ row. on_record false row f) e ∙ r (attributes_of s k) ds e ∙ ap g (sym (shape_attrs ds e)))

  -- where every kind has a shape
  module _ (full : count s KIND ≤ count s SHAPE) where
    pub shaped : (y k : ℕ) (ks : List ℕ) → type_at s y ≡ entity k ks → (j : ℕ) → among j (k ∷ ks) ≡ true → j < count s SHAPE
    shaped y k ks e j i = let z = kind_there h y k ks e j i in omega (arith, z)

    pub each_kind_law : (y : ℕ) (f g : ℕ → Bool) → ((j : ℕ) → j < count s SHAPE → f j ≡ g j) → on_entity false (type_at s y) (all_in f) ≡ on_ent_ty false (type_in s y) (each_kind g)
    each_kind_law y f g r = entity_both h y false false (all_in f) (each_kind g) refl (λ k ks e. all_each f g (k ∷ ks) (λ j i. r j (shaped y k ks e j i)))

    -- what an entity or record declares
    pub each_both : (y : ℕ) (f : List Declared → Bool) (g : Attrs → Bool) → ((z : ℕ) (ds : List Declared) → type_at s z ≡ record' ds → f ds ≡ g (attrs_over (types s) ds)) → each_of s y f ≡ each (schema s) (type_in s y) g
    each_both y f g r = entity_both h y (on_record false (type_at s y) f) (on_rec_ty false (type_in s y) g) (all_in (λ k. on_record false (type_at s (attributes_of s k)) f)) (each_kind (λ k. g ((schema s).shape k).attrs))
        (record_both h y f g (λ ds e. r y ds e))
        (λ k ks e. all_each (λ k. on_record false (type_at s (attributes_of s k)) f) (λ k. g ((schema s).shape k).attrs) (k ∷ ks) (λ j i. attrs_both j (shaped y k ks e j i) f g r))

    -- a declared type
    pub declared_both : (d : Bool) (t : ℕ) (ds : List Declared) (f : ℕ → Bool) (g : Ty → Bool) → ((y : ℕ) → declared_in t ds ≡ some y → f y ≡ g (type_in s y)) → on_some d (declared_in t ds) f ≡ on_some d (declared t (attrs_over (types s) ds)) g
    declared_both d t ds f g r = some_map d (type_in s) (declared_in t ds) f g r ∙ ap (λ o. on_some d o g) (sym (declared_over (types s) t ds))

    pub path_both : (us : List ℕ) (t y : ℕ) → path_typed s us t y ≡ path_ok (schema s) us t (type_in s y)
    path_both [] t y = each_both y (λ ds. true) (λ R. true) (λ z ds e. refl)
    path_both (u ∷ us) t y = each_both y (λ ds. on_some true (declared_in t ds) (path_typed s us u)) (λ R. on_some true (declared t R) (path_ok (schema s) us u))
        (λ z ds e. declared_both true t ds (path_typed s us u) (path_ok (schema s) us u) (λ y q. path_both us u y))
