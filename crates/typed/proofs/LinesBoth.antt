-- The rules of shapes, entities, the context, policies and links over numbers are those over contents.
use mathlib.Core.Path.{◌≡◌, refl, sym, ◌∙◌, ap, ap₂, subst}
use mathlib.Core.Bool.{Bool, true, false, cond, ◌&&◌, ◌||◌, not}
use mathlib.Core.Option.{none, some}
use mathlib.Core.List.{List, [], ◌∷◌}
use Prim.Native.Nat.{ℕ, zero, suc, ◌<◌, ◌≤◌, ◌+◌, ◌-◌, ◌*◌}
use native.Mathlib.Omega.{arith}
use native.Mathlib.Decide.{dec_lt}
use borrow.Author.Tests.{ltb-true}
use lib.Dec.{eqb}
use lib.ListN.{length, get_or, drop, get_or-eq_default}
use Rattle.cedar.proofs.Tools.{no_true, and_both}
use Rattle.cedar.specs.Value.{Value, vbool, Fields, on_ent, on_set}
use Rattle.cedar.specs.Canonical.{make_set}
use Rattle.cedar.specs.Types.{Ty, tbool, trec, Attrs, among, ty_same}
use Rattle.cedar.specs.TypingTest as Test
use Rattle.cedar.specs.Rows.{Entries, stop, entry, Row, rbool, rlong, rtext, rent, rset, rrec}
use Rattle.cedar.specs.Numbered.{mem_n, r_ent, r_set, r_rec}
use Rattle.sheet.specs.Bytes.{long_at}
use Rattle.sheet.specs.Forms.{Mode, forms, form_of, slot_at, tag, items, at, mark, key_of, row_of, KIND, TYPE, SHAPE, VALUE, CONTEXT, NODE, POLICY}
use Rattle.sheet.specs.State.{State, lines_of, count, line_at, counts, Declared, value_row, value_at, entries_of}
use Rattle.sheet.specs.Typing.{all_in, all_entries, fits, is_action, attributes_of, tags_of, above_of, none_declared, shape_typed, is_stop, tags_fit, ancestor_fits, unknown_or, entity_typed, context_typed, type_of_node, is_slot, slot_value, slots_fit, policy_typed}
use Rattle.sheet.specs.Sheet.{found, in_order, enough, least, all_zero, reached_fit}
use Rattle.sheet.specs.Content.{types, contents, content_of, members_over, fields_over, value_over, attrs_over, ty_over, tag_ty, schema, set_over, above}
use Rattle.sheet.proofs.reading.Parsed.{tags_between, policy_tags, policy_tag}
use Rattle.sheet.proofs.reading.RowTests.{mem_among}
use Rattle.sheet.proofs.content.Fitting.{val_eq}
use Rattle.sheet.proofs.reading.NodeRows.{row_read}
use Rattle.sheet.proofs.content.PoliciesRead.{item_there}
use Rattle.sheet.proofs.content.Environment.{context_read}
use Rattle.sheet.proofs.content.TypeNumbers.{split_at}
use Rattle.sheet.proofs.reading.Depths.{Reached, reached_history, reached_depths}
use Rattle.typed.specs.ByContent.{type_in, on_rec, each_value, no_attrs, shape_by, tags_by, kind_by, entity_by, reached_by, context_by, policy_by, slots_by}
use Rattle.typed.proofs.FitsBoth.{fits_both, each_ascending}
use Rattle.typed.proofs.TypesBoth.{type_eq, bool_both, record_both}
use Rattle.typed.proofs.ShapesBoth.{reach_take, lengths_length, lengths_at, shape_record, shape_attrs}
use Rattle.typed.proofs.Trees.{drafts_ty}

-- ---- a value's row and its content, taken apart alike

module _ (C : List Value) where
  ent_row : (row : Row) (f g : ℕ → ℕ → Bool) → ((k t : ℕ) → row ≡ rent k t → f k t ≡ g k t) → r_ent false row f ≡ on_ent false (value_over C row) g
  unfolding make_set
  ent_row (rbool b) f g h = refl
  ent_row (rlong n) f g h = refl
  ent_row (rtext t) f g h = refl
  ent_row (rent k t) f g h = h k t refl
  ent_row (rset l) f g h = refl
  ent_row (rrec e) f g h = refl

  rec_row : (row : Row) (f : Entries → Bool) (g : Fields → Bool) → ((e : Entries) → f e ≡ g (fields_over C e)) → r_rec false row f ≡ on_rec false (value_over C row) g
  unfolding make_set
  rec_row (rbool b) f g h = refl
  rec_row (rlong n) f g h = refl
  rec_row (rtext t) f g h = refl
  rec_row (rent k t) f g h = refl
  rec_row (rset l) f g h = refl
  rec_row (rrec e) f g h = h e

  -- only a record fits a record type
  fit_row : (row : Row) (b : Bool) (R : Attrs) → b ≡ Test.fits (value_over C row) (trec R) → r_rec false row (λ e. b) ≡ Test.fits (value_over C row) (trec R)
  unfolding make_set
  fit_row (rbool c) b R h = refl
  fit_row (rlong n) b R h = refl
  fit_row (rtext t) b R h = refl
  fit_row (rent k t) b R h = refl
  fit_row (rset l) b R h = refl
  fit_row (rrec e) b R h = h

  each_member : (f : ℕ → Bool) (g : Value → Bool) → ((n : ℕ) → f n ≡ g (get_or C n (vbool false))) → (l : List ℕ) → all_in f l ≡ each_value g (members_over C l)
  each_member f g h [] = refl
  each_member f g h (n ∷ l) = ap₂ ◌&&◌ (h n) (each_member f g h l)

  set_row : (row : Row) (f : ℕ → Bool) (g : Value → Bool) → ((n : ℕ) → f n ≡ g (get_or C n (vbool false))) → r_set false row (all_in f) ≡ on_set false (value_over C row) (each_value g)
  unfolding make_set
  set_row (rbool c) f g h = refl
  set_row (rlong n) f g h = refl
  set_row (rtext t) f g h = refl
  set_row (rent k t) f g h = refl
  set_row (rset l) f g h = each_member f g h l ∙ sym (each_ascending g (members_over C l))
  set_row (rrec e) f g h = refl

none_attrs : (ts : List Ty) (ds : List Declared) → none_declared ds ≡ no_attrs (attrs_over ts ds)
none_attrs ts [] = refl
none_attrs ts (d ∷ ds) = refl

-- the row of an entity value: its tag and its kind
entity_value : (r : List ℕ) (k t : ℕ) → value_row r ≡ rent k t → (tag r ≡ 13) × (k ≡ at r 0)
entity_value r k t e = go (tag r - 10) refl e
  where
    go : (d : ℕ) → tag r - 10 ≡ d → get_or (rbool (eqb (at r 0) 1) ∷ rlong (long_at (at r 0 * 4294967296 + at r 1)) ∷ rtext (at r 0) ∷ rent (at r 0) (at r 1) ∷ rset (items r) ∷ rrec (entries_of (items r)) ∷ []) d (rbool false) ≡ rent k t → (tag r ≡ 13) × (k ≡ at r 0)
    go zero q e = no_true (ap (λ r. r_ent false r (λ k t. true)) e)
    go (suc zero) q e = no_true (ap (λ r. r_ent false r (λ k t. true)) e)
    go (suc (suc zero)) q e = no_true (ap (λ r. r_ent false r (λ k t. true)) e)
    go (suc (suc (suc zero))) q e = (omega (arith, q), sym (ap (λ r. r_ent 0 r (λ k t. k)) e))
    go (suc (suc (suc (suc zero)))) q e = no_true (ap (λ r. r_ent false r (λ k t. true)) e)
    go (suc (suc (suc (suc (suc zero))))) q e = no_true (ap (λ r. r_ent false r (λ k t. true)) e)
    go (suc (suc (suc (suc (suc (suc d)))))) q e = no_true (ap (λ r. r_ent false r (λ k t. true)) e)

module _ {m : Mode} {s : State} (h : Reached m s) where
  value_eq : (n : ℕ) → content_of s n ≡ value_over (contents s) (value_at s n)
  value_eq n = val_eq m s (reached_history h) n

  -- the kind of an entity value is there
  value_kind : (n k t : ℕ) → value_at s n ≡ rent k t → k < count s KIND
  unfolding slot_at form_of forms
  value_kind n k t e = go (dec_lt n (count s VALUE))
    where
      go : Dec (n < count s VALUE) → k < count s KIND
      go (yes d) = split_at (lines_of s VALUE) n d (λ pre rest q.
          let w = reached_history h VALUE pre (line_at s VALUE n) rest q in
          let (g, same) = entity_value (line_at s VALUE n) k t e in
          let rd = row_read m (line_at s VALUE n) w.line 13 w.row g (omega arith) (omega arith) (λ z. absurd (omega (arith, z))) in
          subst (λ l. k < length l) (w.earlier KIND (omega arith)) (subst (λ z. z < count w.was KIND) (sym same)
          (ltb-true (at (line_at s VALUE n) 0) (count w.was KIND) (item_there m s w.was VALUE (line_at s VALUE n) 13 rd w.pass.refers 0 (ltb-true 0 2 refl)))))
      go (no d) = no_true (ap (λ r. r_ent false (value_row r) (λ k t. true)) (sym (get_or-eq_default (lines_of s VALUE) [] (omega arith))) ∙ ap (λ r. r_ent false r (λ k t. true)) e)

  -- ---- shapes

  pub shape_both : (r : List ℕ) → shape_typed s r ≡ shape_by s r
  shape_both r = record_both h (at r 0) (λ ds. not (is_action s (count s SHAPE)) || (none_declared ds && eqb (at r 1) mark)) (λ R. not (is_action s (count s SHAPE)) || (no_attrs R && eqb (at r 1) mark))
      (λ ds e. ap (λ b. not (is_action s (count s SHAPE)) || (b && eqb (at r 1) mark)) (none_attrs (types s) ds))

  -- ---- entities

  tag_fields : (y : ℕ) (e : Entries) → all_entries (λ t v. fits s v y) e ≡ tags_by (some (type_in s y)) (fields_over (contents s) e)
  tag_fields y stop = refl
  tag_fields y (entry t v e) = ap₂ ◌&&◌ (fits_both h v y) (tag_fields y e)

  no_fields : (e : Entries) → is_stop e ≡ tags_by none (fields_over (contents s) e)
  no_fields stop = refl
  no_fields (entry t v e) = refl

  tags_both : (y : ℕ) (e : Entries) → tags_fit s y e ≡ tags_by (tag_ty (types s) y) (fields_over (contents s) e)
  tags_both y e = go (eqb y mark)
    where
      go : (b : Bool) → cond b (is_stop e) (all_entries (λ t v. fits s v y) e) ≡ tags_by (cond b none (some (type_in s y))) (fields_over (contents s) e)
      go true = no_fields e
      go false = tag_fields y e

  kind_both : (k n : ℕ) → ancestor_fits s k n ≡ kind_by (above_of s k) (content_of s n)
  kind_both k n = ent_row (contents s) (value_at s n) (λ l t. mem_n l (above_of s k)) (λ l t. among l (above_of s k)) (λ l t e. mem_among l (above_of s k)) ∙ ap (kind_by (above_of s k)) (sym (value_eq n))

  module _ (k : ℕ) (lt : k < count s SHAPE) where
    attributes_both : (n : ℕ) → r_rec false (value_at s n) (λ e. fits s n (attributes_of s k)) ≡ Test.fits (content_of s n) (trec ((schema s).shape k).attrs)
    attributes_both n = shape_record h k lt (λ ds e.
        let ty : type_in s (attributes_of s k) ≡ trec ((schema s).shape k).attrs = type_eq h (attributes_of s k) ∙ ap (ty_over (types s)) e ∙ ap trec (sym (shape_attrs h k lt ds e)) in
        fit_row (contents s) (value_at s n) (fits s n (attributes_of s k)) ((schema s).shape k).attrs (fits_both h n (attributes_of s k) ∙ ap₂ Test.fits (value_eq n) ty)
        ∙ ap (λ v. Test.fits v (trec ((schema s).shape k).attrs)) (sym (value_eq n)))

    tag_both : (n : ℕ) → r_rec false (value_at s n) (tags_fit s (tags_of s k)) ≡ on_rec false (content_of s n) (tags_by ((schema s).shape k).tags)
    unfolding schema
    tag_both n = rec_row (contents s) (value_at s n) (tags_fit s (tags_of s k)) (tags_by (tag_ty (types s) (tags_of s k))) (tags_both (tags_of s k)) ∙ ap (λ v. on_rec false v (tags_by (tag_ty (types s) (tags_of s k)))) (sym (value_eq n))

    parents_both : (n : ℕ) → r_set false (value_at s n) (all_in (ancestor_fits s k)) ≡ on_set false (content_of s n) (each_value (kind_by ((schema s).shape k).above))
    unfolding schema
    parents_both n = set_row (contents s) (value_at s n) (ancestor_fits s k) (kind_by (above_of s k)) (kind_both k) ∙ ap (λ v. on_set false v (each_value (kind_by (above_of s k)))) (sym (value_eq n))

  pub entity_line_both : count s KIND ≤ count s SHAPE → (r : List ℕ) → entity_typed s r ≡ entity_by s r
  entity_line_both full r =
      ent_row (contents s) (value_at s (at r 0)) numbers values (λ k t e. let z = value_kind (at r 0) k t e in let lt : k < count s SHAPE = omega (arith, z, full) in
      (λ i. unknown_or (at r 1) (attributes_both k lt (at r 1) i) && unknown_or (at r 2) (tag_both k lt (at r 2) i) && unknown_or (at r 3) (parents_both k lt (at r 3) i)))
      ∙ ap (λ v. on_ent false v values) (sym (value_eq (at r 0)))
    where
      numbers : ℕ → ℕ → Bool
      numbers k t = unknown_or (at r 1) (r_rec false (value_at s (at r 1)) (λ e. fits s (at r 1) (attributes_of s k))) && unknown_or (at r 2) (r_rec false (value_at s (at r 2)) (tags_fit s (tags_of s k))) && unknown_or (at r 3) (r_set false (value_at s (at r 3)) (all_in (ancestor_fits s k)))

      values : ℕ → ℕ → Bool
      values k t = unknown_or (at r 1) (Test.fits (content_of s (at r 1)) (trec ((schema s).shape k).attrs)) && unknown_or (at r 2) (on_rec false (content_of s (at r 2)) (tags_by ((schema s).shape k).tags)) && unknown_or (at r 3) (on_set false (content_of s (at r 3)) (each_value (kind_by ((schema s).shape k).above)))

  -- AFTER THE ENTITY LINES
  pub reached_both : (r : List ℕ) → reached_fit s r ≡ reached_by s r
  unfolding schema
  reached_both r =
      ent_row (contents s) (value_at s (at r 0)) (λ k t. all_in (ancestor_fits s k) (above s (at r 0))) (λ k t. each_value (kind_by (above_of s k)) (set_over (contents s) (above s (at r 0))))
      (λ k t e. each_member (contents s) (ancestor_fits s k) (kind_by (above_of s k)) (kind_both k) (above s (at r 0)) ∙ sym (each_ascending (kind_by (above_of s k)) (members_over (contents s) (above s (at r 0)))))
      ∙ ap (λ v. on_ent false v (λ k t. each_value (kind_by (above_of s k)) (set_over (contents s) (above s (at r 0))))) (sym (value_eq (at r 0)))

  -- ---- the context

  pub context_both : (r : List ℕ) → context_typed s r ≡ context_by s r
  context_both r = record_both h (at r 0) (λ ds. unknown_or (at r 1) (fits s (at r 1) (at r 0))) (λ R. unknown_or (at r 1) (Test.fits (content_of s (at r 1)) (trec R)))
      (λ ds e. ap (unknown_or (at r 1)) (fits_both h (at r 1) (at r 0) ∙ ap (Test.fits (content_of s (at r 1))) (type_eq h (at r 0) ∙ ap (ty_over (types s)) e)))

  -- when a node line comes the context has its type
  pub context_placed : in_order s NODE ≡ true → at (line_at s CONTEXT 0) 0 < count s TYPE
  unfolding slot_at form_of forms
  context_placed e =
      let n = (reached_depths h).keys in
      let a = lengths_length s.lines in
      let c = lengths_at s.lines CONTEXT in
      let b = reach_take NODE (counts s) (least s) (and_both (all_zero (drop (suc NODE) (counts s))) (enough s NODE) e (λ p q. q)) CONTEXT (omega arith) (omega (arith, n, a)) (omega arith) in
      split_at (lines_of s CONTEXT) 0 (omega (arith, b, c)) (λ pre rest q.
      let w = reached_history h CONTEXT pre (line_at s CONTEXT 0) rest q in
      subst (λ l. at (line_at s CONTEXT 0) 0 < length l) (w.earlier TYPE (omega arith))
      (ltb-true (at (line_at s CONTEXT 0) 0) (count w.was TYPE) (item_there m s w.was CONTEXT (line_at s CONTEXT 0) 20 (context_read m s pre (line_at s CONTEXT 0) w) w.pass.refers 0 (ltb-true 0 2 refl))))

  -- ---- policies

  pub root_there : (r l : List ℕ) → r ≡ row_of m l → key_of r ≡ POLICY → found s POLICY r ≡ true → at r 2 < count s NODE
  unfolding key_of slot_at form_of forms
  root_there r l e k f =
      let (lo, hi) = tags_between POLICY policy_tag policy_tag (tag r) (omega arith) policy_tags k in
      let rd = row_read m r l policy_tag e (omega (arith, lo, hi)) (omega arith) (omega arith) (λ z. absurd (omega (arith, z))) in
      ltb-true (at r 2) (count s NODE) (item_there m s s POLICY r policy_tag rd f 2 (ltb-true 2 3 refl))

  pub policy_both : (r l : List ℕ) → r ≡ row_of m l → key_of r ≡ POLICY → found s POLICY r ≡ true → policy_typed s r ≡ policy_by s r
  policy_both r l e k f = bool_both h (type_of_node s (at r 2)) ∙ ap (λ A. ty_same A tbool) (sym (drafts_ty h (at r 2) (root_there r l e k f)))

  -- ---- links

  pub slots_both : (p q : ℕ) (rs : List (List ℕ)) → slots_fit s p q rs ≡ slots_by s p q rs
  slots_both p q [] = refl
  slots_both p q (r ∷ rs) = ap₂ ◌&&◌ (ap (λ b. not (is_slot r) || b) (fits_both h (slot_value p q (at r 1)) (at r 0))) (slots_both p q rs)
