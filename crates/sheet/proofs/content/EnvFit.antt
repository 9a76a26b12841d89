-- The known parts of an accepted sheet fit its schema; so do the request and entities of a complete one.
use mathlib.Core.Path.{◌≡◌, refl, sym, ◌∙◌, ap, subst}
use mathlib.Core.Bool.{Bool, true, false, cond, ◌||◌}
use mathlib.Core.Option.{Option, none, some, some-injective}
use mathlib.Core.List.{List, [], ◌∷◌, ◌++◌}
use Prim.Native.Nat.{ℕ, zero, suc, ◌≤◌, Ordering}
use native.Mathlib.Omega.{arith}
use borrow.Author.Tests.{ltb-true, ne_eqb}
use lib.Dec.{eqb}
use lib.ListN.{get_or, drop}
use Rattle.cedar.proofs.Tools.{no_true, no_some, in_alone}
use Rattle.cedar.specs.Value.{Value, vent, Values, vcons}
use Rattle.cedar.specs.Canonical.{place, insert, ascending, order}
use Rattle.cedar.specs.Types.{Ty, tbool, tent, among, Var, principal, action, resource, context, Fits, fbool, flong, ftext, fent, fset, frec, FieldsFit, no_field}
use Rattle.cedar.specs.Entities.{Line, PLine, EnvFits, LineFits, KindsIn, no_kind, one_kind, TagsFit, no_tag, one_tag}
use Rattle.cedar.specs.Rows.{Entries, stop, entry, Row, rent, rrec}
use Rattle.cedar.specs.Numbered.{mem_n, r_ent, r_rec}
use Rattle.cedar.proofs.Completion.{PartsFit, KnownFits}
use Rattle.sheet.specs.Forms.{Mode, partial, complete, forms, form_of, slot_at, items, at, mark, PRINCIPAL, ACTION, RESOURCE, CONTEXT, ENTITY}
use Rattle.sheet.specs.State.{State, lines_of, line_at, type_row, type_at, value_row, value_at}
use Rattle.sheet.specs.Typing.{row_fits, fits_by, fits, fits_in, attributes_of, tags_of, above_of, unknown_or, all_in, all_entries, is_stop, tags_fit, ancestor_fits, typed}
use Rattle.sheet.specs.Content.{types, contents, members_over, fields_over, attrs_in, tag_ty, schema, known, entity_known, request_known, requested, line_in, line_found, parts_in, parts_found, p_env, content_in, fields_in, set_over, above, known_above, map_some, look_up, env}
use Rattle.sheet.proofs.content.Ancestors.{above_fit, known_above_law}
use Rattle.sheet.proofs.reading.Lines.{and_both}
use Rattle.sheet.proofs.reading.RowTests.{mem_among, on_ent_law, on_rec, on_record_law}
use Rattle.sheet.proofs.content.FitsSound.{fits_sound}
use Rattle.sheet.proofs.reading.NodeRows.{known_small}
use Rattle.sheet.proofs.content.Environment.{Facts, the_line, entity_found, entity_read, context_read, entity_ok, value_is}

-- fitting looks at types and values only
pub fits_over : (u s : State) → lines_of u 3 ≡ lines_of s 3 → lines_of u 5 ≡ lines_of s 5 → (v t : ℕ) → fits u v t ≡ fits s v t
unfolding fits_in
fits_over u s a b v t = go 64 v t
  where
    go : (n v t : ℕ) → fits_by (lines_of u 5) (lines_of u 3) n v t ≡ fits_by (lines_of s 5) (lines_of s 3) n v t
    go zero v t = refl
    go (suc n) v t = λ i. row_fits (λ x y. go n x y i) (value_row (get_or (b i) v [])) (type_row (get_or (a i) t []))

fields_of : {v : Value} {A : Ty} → Fits v A → FieldsFit (fields_in v) (attrs_in A)
fields_of fbool = no_field
fields_of flong = no_field
fields_of ftext = no_field
fields_of (fent m) = no_field
fields_of (fset h) = no_field
fields_of (frec h c) = h

-- kinds of a set's members
kinds_place : (ls : List ℕ) (o : Ordering) (k t : ℕ) {w : Value} {ws : Values} (r : Values) → among k ls ≡ true → KindsIn ls (vcons w ws) → KindsIn ls r → KindsIn ls (place o (vent k t) w ws r)
unfolding place
kinds_place ls Ordering.lt k t r a h g = one_kind a h
kinds_place ls Ordering.eq k t r a h g = h
kinds_place ls Ordering.gt k t r a (one_kind b h) g = one_kind b g

kinds_insert : (ls : List ℕ) (k t : ℕ) {ws : Values} → among k ls ≡ true → KindsIn ls ws → KindsIn ls (insert (vent k t) ws)
unfolding insert
kinds_insert ls k t a no_kind = one_kind a no_kind
kinds_insert ls k t a (one_kind {k = l} {t = u} {vs = vs} b h) = kinds_place ls (order (vent k t) (vent l u)) k t (insert (vent k t) vs) a (one_kind b h) (kinds_insert ls k t a h)

kinds_ascending : (ls : List ℕ) {vs : Values} → KindsIn ls vs → KindsIn ls (ascending vs)
unfolding ascending
kinds_ascending ls no_kind = no_kind
kinds_ascending ls (one_kind {k = k} {t = t} a h) = kinds_insert ls k t a (kinds_ascending ls h)

-- a part that is known
of_known : {A : Type 0} (F : A → Type 0) (n : ℕ) (a : A) (b : Bool) → unknown_or n b ≡ true → (b ≡ true → F a) → (x : A) → known n a ≡ some x → F x
of_known F n a b e h x q = go (eqb n mark) e q
  where
    go : (c : Bool) → (c || b) ≡ true → cond c none (some a) ≡ some x → F x
    go true e q = no_some q
    go false e q = subst F (some-injective _ _ q) (h e)

-- an index is no mark
pub known_some : {A : Type 0} (n : ℕ) (a : A) → n ≤ 9999 → known n a ≡ some a
known_some n a small = ap (λ b. cond b none (some a)) (ne_eqb n mark (λ z. absurd (omega (arith, z, small))))

kind_in : Row → ℕ
kind_in q = r_ent 0 q (λ k t. k)

module _ (m : Mode) (s : State) (f : Facts m s) where
  tags_of_law : (u : State) → lines_of u 3 ≡ lines_of s 3 → lines_of u 5 ≡ lines_of s 5 → (y : ℕ) (e : Entries) → all_entries (λ t v. fits u v y) e ≡ true → TagsFit (some (get_or (types s) y tbool)) (fields_over (contents s) e)
  tags_of_law u a b y stop q = no_tag
  tags_of_law u a b y (entry t v e) q = and_both (fits u v y) (all_entries (λ t v. fits u v y) e) q (λ p r. one_tag (fits_sound m s f.history v y (sym (fits_over u s a b v y) ∙ p)) (tags_of_law u a b y e r))

  tags_fit_law : (u : State) → lines_of u 3 ≡ lines_of s 3 → lines_of u 5 ≡ lines_of s 5 → (y : ℕ) (e : Entries) → tags_fit u y e ≡ true → TagsFit (tag_ty (types s) y) (fields_over (contents s) e)
  tags_fit_law u a b y e q = go (eqb y mark) q
    where
      stopped : (e : Entries) → is_stop e ≡ true → TagsFit none (fields_over (contents s) e)
      stopped stop q = no_tag
      stopped (entry t v e) q = no_true q

      go : (x : Bool) → cond x (is_stop e) (all_entries (λ t v. fits u v y) e) ≡ true → TagsFit (cond x none (some (get_or (types s) y tbool))) (fields_over (contents s) e)
      go true q = stopped e q
      go false q = tags_of_law u a b y e q

  kinds_of : (u : State) → lines_of u 4 ≡ lines_of s 4 → lines_of u 5 ≡ lines_of s 5 → (k : ℕ) (l : List ℕ) → all_in (ancestor_fits u k) l ≡ true → KindsIn (above_of s k) (members_over (contents s) l)
  kinds_of u a b k [] e = no_kind
  kinds_of u a b k (v ∷ l) e = and_both (ancestor_fits u k v) (all_in (ancestor_fits u k) l) e (λ p q. on_ent_law (value_at u v) (λ i t. mem_n i (above_of u k)) p (λ i t r g.
      subst (λ z. KindsIn (above_of s k) (vcons z (members_over (contents s) l))) (sym (value_is m s f u b v (rent i t) r))
      (one_kind (sym (mem_among i (above_of s k)) ∙ subst (λ z. mem_n i (drop 2 (items (get_or z k []))) ≡ true) a g) (kinds_of u a b k l q))))

  -- ancestors that are known
  ancestors_fit : (n : Mode) (pre : List (List ℕ)) (r : List ℕ) (rest : List (List ℕ)) (k t : ℕ) → lines_of s ENTITY ≡ pre ++ (r ∷ rest) → value_at s (at r 0) ≡ rent k t → (vs : Values) (o : Option (List ℕ)) → known_above n s (at r 0) ≡ o → map_some (set_over (contents s)) o ≡ some vs → KindsIn (above_of s k) vs
  ancestors_fit n pre r rest k t a v vs none q e = no_some e
  ancestors_fit n pre r rest k t a v vs (some l) q e = subst (KindsIn (above_of s k)) (some-injective _ _ e) (kinds_ascending (above_of s k) (kinds_of s refl refl k l (subst (λ x. all_in (ancestor_fits s k) x ≡ true) (known_above_law n s (at r 0) l q) (above_fit s f.fit pre r rest a k t v))))

  -- an entity's line
  pub parts_fit : (n : Mode) (pre : List (List ℕ)) (r : List ℕ) (rest : List (List ℕ)) (k t : ℕ) → lines_of s ENTITY ≡ pre ++ (r ∷ rest) → value_at s (at r 0) ≡ rent k t → PartsFit (schema s) k (parts_in n s (contents s) r)
  unfolding schema kind_in
  parts_fit n pre r rest k t split v =
      let w = f.history ENTITY pre r rest split in
      let u = w.was in
      let e3 : lines_of u 3 ≡ lines_of s 3 = w.earlier 3 (omega arith) in
      let e4 : lines_of u 4 ≡ lines_of s 4 = w.earlier 4 (omega arith) in
      let e5 : lines_of u 5 ≡ lines_of s 5 = w.earlier 5 (omega arith) in
      entity_ok u r w.pass.types (λ i j ok.
      let same : rent i j ≡ rent k t = sym ok.entity_is ∙ ap (λ l. value_row (get_or l (at r 0) [])) e5 ∙ v in
      let kk : i ≡ k = ap kind_in same in
      record {
        attrs = of_known (λ fs. FieldsFit fs (attrs_in (get_or (types s) (attributes_of s k) tbool))) (at r 1) (fields_in (content_in (contents s) (at r 1))) (r_rec false (value_at u (at r 1)) (λ e. fits u (at r 1) (attributes_of u i))) ok.attrs_ok (λ a.
            on_rec (value_at u (at r 1)) (λ e. fits u (at r 1) (attributes_of u i)) a (λ es q g.
            subst (λ z. FieldsFit (fields_in (content_in (contents s) (at r 1))) (attrs_in (get_or (types s) z tbool))) (ap (λ l. at (get_or l i []) 0) e4 ∙ ap (attributes_of s) kk)
            (fields_of (fits_sound m s f.history (at r 1) (attributes_of u i) (sym (fits_over u s e3 e5 (at r 1) (attributes_of u i)) ∙ g)))));
        tags = of_known (λ fs. TagsFit (tag_ty (types s) (tags_of s k)) fs) (at r 2) (fields_in (content_in (contents s) (at r 2))) (r_rec false (value_at u (at r 2)) (tags_fit u (tags_of u i))) ok.tags_ok (λ b.
            on_rec (value_at u (at r 2)) (tags_fit u (tags_of u i)) b (λ es q g.
            subst (λ z. TagsFit (tag_ty (types s) z) (fields_in (content_in (contents s) (at r 2)))) (ap (λ l. at (get_or l i []) 1) e4 ∙ ap (tags_of s) kk)
            (subst (λ z. TagsFit (tag_ty (types s) (tags_of u i)) (fields_in z)) (sym (value_is m s f u e5 (at r 2) (rrec es) q)) (tags_fit_law u e3 e5 (tags_of u i) es g))));
        ancestors = λ vs e. ancestors_fit n pre r rest k t split v vs (known_above n s (at r 0)) refl e;
      })

  context_known : (v : Value) → request_known s (contents s) context ≡ some v → Fits v (get_or (types s) (at (line_at s CONTEXT 0) 0) tbool)
  unfolding typed
  context_known v e =
      let w = the_line m s f CONTEXT (omega arith) (omega arith) in
      let n = at (line_at s CONTEXT 0) 1 in
      let y = at (line_at s CONTEXT 0) 0 in
      on_record_law (type_at w.was y) (λ ds. unknown_or n (fits w.was n y)) w.pass.types (λ ds q g.
      of_known (λ v. Fits v (get_or (types s) y tbool)) n (content_in (contents s) n) (fits w.was n y) g
      (λ p. fits_sound m s f.history n y (sym (fits_over w.was s (w.earlier 3 (omega arith)) (w.earlier 5 (omega arith)) n y) ∙ p)) v e)

  entity_known_law : (r : List ℕ) (v : Value) → entity_known r ≡ some v → Fits v (tent (at r 0) [])
  entity_known_law r v e = of_known (λ v. Fits v (tent (at r 0) [])) (at r 1) (vent (at r 0) (at r 1)) true (or_true (eqb (at r 1) mark)) (λ q. fent (in_alone (at r 0))) v e
    where
      or_true : (b : Bool) → (b || true) ≡ true
      or_true true = refl
      or_true false = refl

  request_known_law : (x : Var) (v : Value) → request_known s (contents s) x ≡ some v → Fits v ((schema s).request x)
  unfolding schema
  request_known_law principal v e = entity_known_law (line_at s PRINCIPAL 0) v e
  request_known_law action v e = entity_known_law (line_at s ACTION 0) v e
  request_known_law resource v e = entity_known_law (line_at s RESOURCE 0) v e
  request_known_law context v e = context_known v e

  -- WHAT IS KNOWN FITS
  pub known_fits : KnownFits (schema s) (p_env s)
  unfolding p_env
  known_fits = record { request = request_known_law; line = λ k t p e. go k t p (look_up s k t) refl e }
    where
      go : (k t : ℕ) (p : PLine) (o : Option (List ℕ)) → look_up s k t ≡ o → parts_found s (contents s) o ≡ some p → PartsFit (schema s) k p
      go k t p none q e = no_some e
      go k t p (some r) q e = entity_found s (rent k t) (lines_of s ENTITY) r q (λ pre rest a b.
          subst (PartsFit (schema s) k) (some-injective _ _ e) (parts_fit partial pre r rest k t a b))

module _ (s : State) (f : Facts complete s) where
  -- on a complete sheet every part is known
  line_fits : (pre : List (List ℕ)) (r : List ℕ) (rest : List (List ℕ)) (k t : ℕ) → lines_of s ENTITY ≡ pre ++ (r ∷ rest) → value_at s (at r 0) ≡ rent k t → LineFits (schema s) k (line_in s (contents s) r)
  unfolding slot_at form_of forms
  line_fits pre r rest k t a v =
      let rd = entity_read complete s pre r (f.history ENTITY pre r rest a) in
      let h = parts_fit complete s f complete pre r rest k t a v in
      record {
        attrs = h.attrs (fields_in (content_in (contents s) (at r 1))) (known_some (at r 1) (fields_in (content_in (contents s) (at r 1))) (known_small (slot_at 16 1) 5 (rd.field 1) (at r 1) refl (rd.reads 1 (ltb-true 1 4 refl))));
        tags = h.tags (fields_in (content_in (contents s) (at r 2))) (known_some (at r 2) (fields_in (content_in (contents s) (at r 2))) (known_small (slot_at 16 2) 5 (rd.field 2) (at r 2) refl (rd.reads 2 (ltb-true 2 4 refl))));
        ancestors = h.ancestors (set_over (contents s) (above s (at r 0))) refl;
      }

  context_fits : Fits (content_in (contents s) (at (line_at s CONTEXT 0) 1)) (get_or (types s) (at (line_at s CONTEXT 0) 0) tbool)
  unfolding slot_at form_of forms
  context_fits =
      let rd = context_read complete s [] (line_at s CONTEXT 0) (the_line complete s f CONTEXT (omega arith) (omega arith)) in
      let n = at (line_at s CONTEXT 0) 1 in
      context_known complete s f (content_in (contents s) n) (known_some n (content_in (contents s) n) (known_small (slot_at 20 1) 5 (rd.field 1) n refl (rd.reads 1 (ltb-true 1 2 refl))))

  request_fits : (x : Var) → Fits (requested s (contents s) x) ((schema s).request x)
  unfolding schema
  request_fits principal = fent (in_alone (at (line_at s PRINCIPAL 0) 0))
  request_fits action = fent (in_alone (at (line_at s ACTION 0) 0))
  request_fits resource = fent (in_alone (at (line_at s RESOURCE 0) 0))
  request_fits context = context_fits

  -- IT FITS
  pub env_fits : EnvFits (schema s) (env s)
  unfolding env
  env_fits = record { request = request_fits; line = λ k t l e. go k t l (look_up s k t) refl e }
    where
      go : (k t : ℕ) (l : Line) (o : Option (List ℕ)) → look_up s k t ≡ o → line_found s (contents s) o ≡ some l → LineFits (schema s) k l
      go k t l none q e = no_some e
      go k t l (some r) q e = entity_found s (rent k t) (lines_of s ENTITY) r q (λ pre rest a b.
          subst (LineFits (schema s) k) (some-injective _ _ e) (line_fits pre r rest k t a b))
