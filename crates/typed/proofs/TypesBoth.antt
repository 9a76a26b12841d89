-- Types by number and by content: a number's row has the sort of its content, equal numbers are equal contents, and every type that a line names has a type line.
use mathlib.Core.Path.{◌≡◌, refl, sym, ◌∙◌, ap, ap₂, subst}
use mathlib.Core.Bool.{Bool, true, false, cond}
use mathlib.Core.Option.{some}
use mathlib.Core.List.{List, [], ◌∷◌}
use Prim.Native.Nat.{ℕ, zero, suc, ◌<◌, ◌≤◌, ◌-◌, ◌%◌}
use native.Mathlib.Omega.{arith}
use native.Mathlib.Decide.{dec_lt}
use borrow.Author.Tests.{ltb-true, le-ltb}
use lib.Dec.{eqb}
use lib.ListN.{length, get_or, drop, get_or-eq_default}
use Rattle.cedar.proofs.Tools.{no_true, no_some, eqb_true, eqb_self, either, and_both, iff}
use Rattle.cedar.proofs.TypingTest.{ty_same_true}
use Rattle.cedar.proofs.TypingTestComplete.{ty_same_refl}
use Rattle.cedar.specs.Types.{Ty, tbool, tlong, tstr, among, Attrs, ty_same}
use Rattle.cedar.specs.Table.{At}
use Rattle.cedar.specs.Numbered.{pick_n}
use Rattle.cedar.specs.TypingTest.{on_ent_ty, on_set_ty, on_rec_ty}
use Rattle.sheet.specs.Forms.{Mode, line, nothing, forms, form_of, slot_at, tag, items, at, TYPE, KIND}
use Rattle.sheet.specs.State.{State, lines_of, count, line_at, Declared, TypeRow, bool, long, string, entity, set', record', declareds, type_row, type_at}
use Rattle.sheet.specs.Typing.{on_entity, on_set_of, on_record, is_bool, is_long, is_string, declared_in}
use Rattle.sheet.specs.Sheet.{all_there, there_is}
use Rattle.sheet.specs.Content.{types, attrs_over, ty_over}
use Rattle.sheet.proofs.content.Fitting.{at_less, AttrsAt, no_a, one_a, TyAt, aset, arec, Known, all_known, ty_eq}
use Rattle.sheet.proofs.content.ValueRows.{at_get_d, some_is}
use Rattle.sheet.proofs.content.TypeNumbers.{types_distinct, types_length, split_at}
use Rattle.sheet.proofs.content.PoliciesRead.{all_there_law}
use Rattle.sheet.proofs.reading.NodeRows.{row_read}
use Rattle.sheet.proofs.reading.Shallow.{Part, elem, attr}
use Rattle.sheet.proofs.reading.Depths.{Reached, reached_history}
use Rattle.typed.specs.ByContent.{type_in}

-- ---- a row and its content have one sort

module _ (ts : List Ty) where
  row_bool : (row : TypeRow) → is_bool row ≡ ty_same (ty_over ts row) tbool
  row_bool bool = refl
  row_bool long = refl
  row_bool string = refl
  row_bool (entity k ks) = refl
  row_bool (set' y) = refl
  row_bool (record' ds) = refl

  row_long : (row : TypeRow) → is_long row ≡ ty_same (ty_over ts row) tlong
  row_long bool = refl
  row_long long = refl
  row_long string = refl
  row_long (entity k ks) = refl
  row_long (set' y) = refl
  row_long (record' ds) = refl

  row_string : (row : TypeRow) → is_string row ≡ ty_same (ty_over ts row) tstr
  row_string bool = refl
  row_string long = refl
  row_string string = refl
  row_string (entity k ks) = refl
  row_string (set' y) = refl
  row_string (record' ds) = refl

  -- d and e are alike, and f and g are for the kinds of this row
  row_entity : (row : TypeRow) (d e : Bool) (f g : List ℕ → Bool) → d ≡ e → ((k : ℕ) (ks : List ℕ) → row ≡ entity k ks → f (k ∷ ks) ≡ g (k ∷ ks)) → on_entity d row f ≡ on_ent_ty e (ty_over ts row) g
  row_entity bool d e f g q h = q
  row_entity long d e f g q h = q
  row_entity string d e f g q h = q
  row_entity (entity k ks) d e f g q h = h k ks refl
  row_entity (set' y) d e f g q h = q
  row_entity (record' ds) d e f g q h = q

  row_set : (row : TypeRow) (f : ℕ → Bool) (g : Ty → Bool) → ((y : ℕ) → row ≡ set' y → f y ≡ g (get_or ts y tbool)) → on_set_of false row f ≡ on_set_ty false (ty_over ts row) g
  row_set bool f g h = refl
  row_set long f g h = refl
  row_set string f g h = refl
  row_set (entity k ks) f g h = refl
  row_set (set' y) f g h = h y refl
  row_set (record' ds) f g h = refl

  row_record : (row : TypeRow) (f : List Declared → Bool) (g : Attrs → Bool) → ((ds : List Declared) → row ≡ record' ds → f ds ≡ g (attrs_over ts ds)) → on_record false row f ≡ on_rec_ty false (ty_over ts row) g
  row_record bool f g h = refl
  row_record long f g h = refl
  row_record string f g h = refl
  row_record (entity k ks) f g h = refl
  row_record (set' y) f g h = refl
  row_record (record' ds) f g h = h ds refl

-- ---- in every state that a reading reaches

module _ {m : Mode} {s : State} (h : Reached m s) where
  pub type_eq : (y : ℕ) → type_in s y ≡ ty_over (types s) (type_at s y)
  type_eq y = ty_eq m s (reached_history h) y

  pub bool_both : (y : ℕ) → is_bool (type_at s y) ≡ ty_same (type_in s y) tbool
  bool_both y = row_bool (types s) (type_at s y) ∙ ap (λ A. ty_same A tbool) (sym (type_eq y))

  pub long_both : (y : ℕ) → is_long (type_at s y) ≡ ty_same (type_in s y) tlong
  long_both y = row_long (types s) (type_at s y) ∙ ap (λ A. ty_same A tlong) (sym (type_eq y))

  pub string_both : (y : ℕ) → is_string (type_at s y) ≡ ty_same (type_in s y) tstr
  string_both y = row_string (types s) (type_at s y) ∙ ap (λ A. ty_same A tstr) (sym (type_eq y))

  pub entity_both : (y : ℕ) (d e : Bool) (f g : List ℕ → Bool) → d ≡ e → ((k : ℕ) (ks : List ℕ) → type_at s y ≡ entity k ks → f (k ∷ ks) ≡ g (k ∷ ks)) → on_entity d (type_at s y) f ≡ on_ent_ty e (type_in s y) g
  entity_both y d e f g q r = row_entity (types s) (type_at s y) d e f g q r ∙ ap (λ A. on_ent_ty e A g) (sym (type_eq y))

  pub set_both : (y : ℕ) (f : ℕ → Bool) (g : Ty → Bool) → ((z : ℕ) → type_at s y ≡ set' z → f z ≡ g (type_in s z)) → on_set_of false (type_at s y) f ≡ on_set_ty false (type_in s y) g
  set_both y f g r = row_set (types s) (type_at s y) f g r ∙ ap (λ A. on_set_ty false A g) (sym (type_eq y))

  pub record_both : (y : ℕ) (f : List Declared → Bool) (g : Attrs → Bool) → ((ds : List Declared) → type_at s y ≡ record' ds → f ds ≡ g (attrs_over (types s) ds)) → on_record false (type_at s y) f ≡ on_rec_ty false (type_in s y) g
  record_both y f g r = row_record (types s) (type_at s y) f g r ∙ ap (λ A. on_rec_ty false A g) (sym (type_eq y))

  -- EQUAL NUMBERS ARE EQUAL CONTENTS, since types are distinct
  pub number_both : (p q : ℕ) → p < count s TYPE → q < count s TYPE → eqb p q ≡ ty_same (type_in s p) (type_in s q)
  number_both p q a b = iff (eqb p q) (ty_same (type_in s p) (type_in s q))
      (λ e. subst (λ z. ty_same (type_in s p) (type_in s z) ≡ true) (eqb_true p q e) (ty_same_refl (type_in s p)))
      (λ e. let z = types_length m s (reached_history h) in
      let i = at_get_d (types s) p tbool (omega (arith, z, a)) in
      let j = at_get_d (types s) q tbool (omega (arith, z, b)) in
      let same : p ≡ q = types_distinct m s (reached_history h) p q (type_in s q) (subst (At (types s) p) (ty_same_true (type_in s p) (type_in s q) e) i) j in
      subst (λ w. eqb p w ≡ true) same (eqb_self p))

  -- ---- what a type's row names is there

  row_at : (y : ℕ) → y < count s TYPE → TyAt (types s) (type_at s y) (type_in s y)
  unfolding Known
  row_at y lt = let z = types_length m s (reached_history h) in (all_known m s (reached_history h)).1 y (type_in s y) (at_get_d (types s) y tbool (omega (arith, z, lt)))

  attrs_at : {ds : List Declared} {R : Attrs} (t z : ℕ) → AttrsAt (types s) ds R → declared_in t ds ≡ some z → z < length (types s)
  attrs_at t z no_a e = no_some e
  attrs_at t z (one_a {d = d} {ds = ds} a g) e = go (eqb t d.text) (λ q. attrs_at t z g q) e
    where
      go : (b : Bool) → (declared_in t ds ≡ some z → z < length (types s)) → pick_n b d.type (declared_in t ds) ≡ some z → z < length (types s)
      go true ih q = subst (λ y. y < length (types s)) (some_is q) (at_less a)
      go false ih q = ih q

  part_at : {row : TypeRow} {A : Ty} {z : ℕ} → TyAt (types s) row A → Part row z → z < length (types s)
  part_at {z = z} (Rattle.sheet.proofs.content.Fitting.aent {k = k} {ks = ks}) x7 = elim x7 [ ]
  part_at {z = z} Rattle.sheet.proofs.content.Fitting.abool x4 = elim x4 [ ]
  part_at {z = z} Rattle.sheet.proofs.content.Fitting.along x5 = elim x5 [ ]
  part_at {z = z} Rattle.sheet.proofs.content.Fitting.astr x6 = elim x6 [ ]
  part_at (aset a) elem = at_less a
  part_at {z = z} (arec g) (attr t e) = attrs_at t z g e

  pub part_there : (y z : ℕ) → Part (type_at s y) z → z < count s TYPE
  part_there y z p = go (dec_lt y (count s TYPE))
    where
      past : Part bool z → z < count s TYPE
      past p = elim p [ ]

      go : Dec (y < count s TYPE) → z < count s TYPE
      go (yes d) = let a = types_length m s (reached_history h) in let b = part_at (row_at y d) p in omega (arith, a, b)
      go (no d) = past (subst (λ r. Part (type_row r) z) (get_or-eq_default (lines_of s TYPE) [] (omega arith)) p)

  -- ---- the kinds of an entity type are there

  kinds_slot : (j : ℕ) → slot_at 6 j ≡ line KIND
  unfolding slot_at form_of forms
  kinds_slot zero = refl
  kinds_slot (suc j) = let d : (suc j - 1) % 1 ≡ 0 = omega arith in ap₂ (λ b d. cond b (get_or (line KIND ∷ []) (suc j) nothing) (get_or (line KIND ∷ []) d nothing)) (le-ltb (suc j) 1 (omega arith)) d

  kinds_there : (u : State) (j : ℕ) (l : List ℕ) → all_there u 6 j l ≡ true → (k : ℕ) → among k l ≡ true → k < count u KIND
  kinds_there u j [] a k e = no_true e
  kinds_there u j (x ∷ l) a k e = and_both (there_is u (slot_at 6 j) x) (all_there u 6 (suc j) l) a (λ p q. either (eqb k x) (among k l) e
      (λ z. subst (λ w. w < count u KIND) (sym (eqb_true k x z)) (ltb-true x (count u KIND) (sym (ap (λ w. there_is u w x) (kinds_slot j)) ∙ p)))
      (λ z. kinds_there u (suc j) l q k z))

  -- of the row of an entity type: its tag, and its items as they stand
  entity_row : (r : List ℕ) (k : ℕ) (ks : List ℕ) → type_row r ≡ entity k ks → (tag r ≡ 6) × ((k ∷ ks) ≡ (at r 0 ∷ drop 1 (items r)))
  entity_row r k ks e = go (tag r - 3) refl e
    where
      go : (d : ℕ) → tag r - 3 ≡ d → get_or (bool ∷ long ∷ string ∷ entity (at r 0) (drop 1 (items r)) ∷ set' (at r 0) ∷ record' (declareds (items r)) ∷ []) d bool ≡ entity k ks → (tag r ≡ 6) × ((k ∷ ks) ≡ (at r 0 ∷ drop 1 (items r)))
      go zero q e = no_true (ap (λ r. on_entity false r (λ l. true)) e)
      go (suc zero) q e = no_true (ap (λ r. on_entity false r (λ l. true)) e)
      go (suc (suc zero)) q e = no_true (ap (λ r. on_entity false r (λ l. true)) e)
      go (suc (suc (suc zero))) q e = (omega (arith, q), sym (ap (λ r. on_entity [] r (λ l. l)) e))
      go (suc (suc (suc (suc zero)))) q e = no_true (ap (λ r. on_entity false r (λ l. true)) e)
      go (suc (suc (suc (suc (suc zero))))) q e = no_true (ap (λ r. on_entity false r (λ l. true)) e)
      go (suc (suc (suc (suc (suc (suc d)))))) q e = no_true (ap (λ r. on_entity false r (λ l. true)) e)

  first_rest : (r : List ℕ) → 1 ≤ length (items r) → (at r 0 ∷ drop 1 (items r)) ≡ items r
  first_rest [] lt = absurd (omega arith)
  first_rest (t ∷ []) lt = absurd (omega arith)
  first_rest (t ∷ x ∷ l) lt = refl

  pub kind_there : (y k : ℕ) (ks : List ℕ) → type_at s y ≡ entity k ks → (j : ℕ) → among j (k ∷ ks) ≡ true → j < count s KIND
  unfolding form_of forms
  kind_there y k ks e j i = go (dec_lt y (count s TYPE))
    where
      go : Dec (y < count s TYPE) → j < count s KIND
      go (yes d) = split_at (lines_of s TYPE) y d (λ pre rest q.
          let r = line_at s TYPE y in
          let w = reached_history h TYPE pre (line_at s TYPE y) rest q in
          let (t, same) = entity_row (line_at s TYPE y) k ks e in
          let rd = row_read m (line_at s TYPE y) w.line 6 w.row t (omega arith) (omega arith) (λ z. absurd (omega (arith, z))) in
          let all : all_there w.was 6 0 (items (line_at s TYPE y)) ≡ true = subst (λ z. all_there w.was z 0 (items (line_at s TYPE y)) ≡ true) t (all_there_law w.was TYPE (line_at s TYPE y) w.pass.refers) in
          subst (λ l. j < length l) (w.earlier KIND (omega arith)) (kinds_there w.was 0 (items (line_at s TYPE y)) all j (subst (λ l. among j l ≡ true) (same ∙ first_rest (line_at s TYPE y) rd.least) i)))
      go (no d) = no_true (ap (λ r. on_entity false (type_row r) (λ l. true)) (sym (get_or-eq_default (lines_of s TYPE) [] (omega arith))) ∙ ap (λ r. on_entity false r (λ l. true)) e)
