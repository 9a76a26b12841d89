-- Two accepted sheets that agree: what they have in common by content.
use mathlib.Core.Path.{◌≡◌, refl, sym, ◌∙◌, ap, ap₂, subst}
use mathlib.Core.Bool.{Bool, true, false, cond, ◌&&◌, ◌||◌}
use mathlib.Core.Option.{Option, none, some, some-injective}
use mathlib.Core.List.{List, [], ◌∷◌, ◌++◌, append_assoc}
use Prim.Native.Nat.{ℕ, ◌<◌, ◌≤◌, ◌-◌}
use native.Mathlib.Omega.{arith}
use borrow.Author.Tests.{ltb-true, eq-eqb}
use lib.Dec.{ltb, eqb}
use lib.ListN.{length, get_or, drop, length-append, get_or-append}
use Rattle.cedar.proofs.Tools.{no_true, no_some, eqb_true, iff}
use Rattle.cedar.specs.Value.{Value, Values, vbool, vent, on_some}
use Rattle.cedar.specs.Numbered.{r_set}
use Rattle.cedar.specs.Types.{tbool, tent, Var, principal, action, resource, context}
use Rattle.cedar.specs.Entities.{Line, PLine, Agree, LineAgrees}
use Rattle.cedar.specs.Rows.{Row, rent, same_row}
use Rattle.cedar.specs.Table.{At}
use Rattle.cedar.proofs.TableLaws.{number_inj, at_append, same_row_true, same_row_refl}
use Rattle.cedar.proofs.SettledByNumber.{ReadPolicies}
use Rattle.cedar.proofs.TypingTest.{some_test}
use Rattle.cedar.proofs.ReadsLaws.{at_is}
use Rattle.sheet.specs.Bytes.{same}
use Rattle.sheet.specs.Forms.{partial, complete, forms, form_of, slot_at, items, at, tag, mark, key_of, TEXT, KIND, TYPE, SHAPE, VALUE, ENTITY, PRINCIPAL, ACTION, RESOURCE, CONTEXT, NODE, POLICY, DAY, TERM, LINK}
use Rattle.sheet.specs.State.{State, lines_of, count, line_at, value_row, value_at, entity_lines}
use Rattle.sheet.specs.Typing.{unknown_or}
use Rattle.sheet.specs.Content.{tys_from, types, value_over, values_from, rows_in, value_rows, contents, attrs_in, tag_ty, request_ty, schema, trees_from, trees, exprs, content_policies, n_policies, policies, known, entity_known, request_known, requested, content_in, fields_in, parts_in, parts_found, line_in, line_found, entity_line, look_up, env, p_env, on_term, linked, content_of, set_over, above, known_above, map_some}
use Rattle.sheet.specs.Agreement.{begins, same_lines, part_same, request_same, entity_same, listed, all_listed, agrees}
pub use Rattle.sheet.proofs.reading.RowTests.{same_is}
use Rattle.sheet.specs.Parents.{line_for, parents_in, parents, is_open, unknown_above}
use Rattle.sheet.proofs.content.Reaching.{same_above}
use Rattle.sheet.proofs.content.Ancestors.{above_small, same_set, line_found_law, all_lines}
use Rattle.sheet.proofs.reading.Lines.{and_both, Was}
use Rattle.sheet.proofs.reading.Parsed.{tags_between}
use Rattle.sheet.proofs.content.ValueRows.{values_table}
use Rattle.sheet.proofs.content.Fitting.{val, val_eq}
use Rattle.sheet.proofs.reading.NodeRows.{row_read}
use Rattle.sheet.proofs.content.PoliciesRead.{item_there, node_tags, read_policies}
use Rattle.sheet.proofs.content.Environment.{Facts, the_line, there_value, entity_found, entity_read, context_read}
use Rattle.sheet.proofs.content.OnTerm.{same_term}

-- ---- equal lines

lines_same : (p c : List (List ℕ)) → same_lines p c ≡ true → p ≡ c
lines_same [] [] e = refl
lines_same [] (q ∷ c) e = no_true e
lines_same (r ∷ p) [] e = no_true e
lines_same (r ∷ p) (q ∷ c) e = and_both (same r q) (same_lines p c) e (λ x y. ap₂ ◌∷◌ (same_is r q x) (lines_same p c y))

pub begins_with : {X : Type 0} (p c : List (List ℕ)) → begins p c ≡ true → ((rest : List (List ℕ)) → c ≡ p ++ rest → X) → X
begins_with [] c e f = f c refl
begins_with (r ∷ p) [] e f = no_true e
begins_with (r ∷ p) (q ∷ c) e f = and_both (same r q) (begins p c) e (λ x y. begins_with p c y (λ rest z. f rest (ap₂ ◌∷◌ (sym (same_is r q x)) z)))

pub record Common (p c : State) : Type 0 where
  pub texts : begins (lines_of p TEXT) (lines_of c TEXT) ≡ true
  pub values : begins (lines_of p VALUE) (lines_of c VALUE) ≡ true
  pub kinds : lines_of p KIND ≡ lines_of c KIND
  pub types_same : lines_of p TYPE ≡ lines_of c TYPE
  pub shapes : lines_of p SHAPE ≡ lines_of c SHAPE
  pub nodes : lines_of p NODE ≡ lines_of c NODE
  pub rules : on_term p ≡ on_term c
  pub policy_lines : lines_of p POLICY ≡ lines_of c POLICY
  pub days : lines_of p DAY ≡ lines_of c DAY
  pub links : lines_of p LINK ≡ lines_of c LINK
  pub terms : lines_of p TERM ≡ lines_of c TERM
  pub who : request_same (line_at p PRINCIPAL 0) (line_at c PRINCIPAL 0) ≡ true
  pub does : request_same (line_at p ACTION 0) (line_at c ACTION 0) ≡ true
  pub whom : request_same (line_at p RESOURCE 0) (line_at c RESOURCE 0) ≡ true
  pub where' : request_same (line_at p CONTEXT 0) (line_at c CONTEXT 0) ≡ true
  pub entities : all_listed (lines_of p ENTITY) (lines_of c ENTITY) ≡ true

pub common : (p c : State) → agrees p c ≡ true → Common p c
unfolding agrees
common p c e = and_both _ (all_listed (lines_of p ENTITY) (lines_of c ENTITY)) e (λ e x12. and_both _ (request_same (line_at p CONTEXT 0) (line_at c CONTEXT 0)) e (λ e x11. and_both _ (request_same (line_at p RESOURCE 0) (line_at c RESOURCE 0)) e (λ e x10.
    and_both _ (request_same (line_at p ACTION 0) (line_at c ACTION 0)) e (λ e x9. and_both _ (request_same (line_at p PRINCIPAL 0) (line_at c PRINCIPAL 0)) e (λ e x8.
    and_both _ (same_lines (lines_of p LINK) (lines_of c LINK)) e (λ e l. and_both _ (same_lines (lines_of p TERM) (lines_of c TERM)) e (λ e t. and_both _ (same_lines (lines_of p DAY) (lines_of c DAY)) e (λ e d. and_both _ (same_lines (lines_of p POLICY) (lines_of c POLICY)) e (λ e x7.
    and_both _ (same_lines (lines_of p NODE) (lines_of c NODE)) e (λ e x6. and_both _ (same_lines (lines_of p SHAPE) (lines_of c SHAPE)) e (λ e x5. and_both _ (same_lines (lines_of p TYPE) (lines_of c TYPE)) e (λ e x4.
    and_both _ (same_lines (lines_of p KIND) (lines_of c KIND)) e (λ e x3. and_both (begins (lines_of p TEXT) (lines_of c TEXT)) (begins (lines_of p VALUE) (lines_of c VALUE)) e (λ x1 x2.
    record { texts = x1; values = x2; kinds = lines_same _ _ x3; types_same = lines_same _ _ x4; shapes = lines_same _ _ x5; nodes = lines_same _ _ x6; rules = same_term p c (lines_same _ _ d) (lines_same _ _ t) (lines_same _ _ l) (lines_same _ _ x7); policy_lines = lines_same _ _ x7; days = lines_same _ _ d; links = lines_same _ _ l; terms = lines_same _ _ t; who = x8; does = x9; whom = x10; where' = x11; entities = x12 }))))))))))))))

-- ---- contents

rows_append : (a b : List (List ℕ)) → rows_in (a ++ b) ≡ rows_in a ++ rows_in b
rows_append [] b = refl
rows_append (x ∷ a) b = ap (λ z. value_row x ∷ z) (rows_append a b)

pub values_append : (C : List Value) (a b : List Row) → values_from C (a ++ b) ≡ values_from (values_from C a) b
values_append C [] b = refl
values_append C (r ∷ a) b = values_append (C ++ (value_over C r ∷ [])) a b

values_keep : (C : List Value) (rs : List Row) {n : ℕ} {v : Value} → At C n v → At (values_from C rs) n v
values_keep C [] a = a
values_keep C (r ∷ rs) a = values_keep (C ++ (value_over C r ∷ [])) rs (at_append (value_over C r ∷ []) a)

module _ (p c : State) (fp : Facts partial p) (fc : Facts complete c) (k : Common p c) where
  keeps : {n : ℕ} {v : Value} → At (contents p) n v → At (contents c) n v
  unfolding contents value_rows
  keeps {n} {v} a = begins_with (lines_of p VALUE) (lines_of c VALUE) k.values (λ rest e.
      subst (λ z. At (values_from [] (rows_in z)) n v) (sym e) (subst (λ z. At (values_from [] z) n v) (sym (rows_append (lines_of p VALUE) rest))
      (subst (λ z. At z n v) (sym (values_append [] (rows_in (lines_of p VALUE)) (rows_in rest))) (values_keep (values_from [] (rows_in (lines_of p VALUE))) (rows_in rest) a))))

  pub val_same : (n : ℕ) → n < count p VALUE → get_or (contents c) n (vbool false) ≡ get_or (contents p) n (vbool false)
  val_same n lt = at_is (vbool false) (keeps (there_value partial p fp.history n lt))

  more_values : count p VALUE ≤ count c VALUE
  more_values = begins_with (lines_of p VALUE) (lines_of c VALUE) k.values (λ rest e. let z = ap length e ∙ length-append (lines_of p VALUE) rest in omega (arith, z))

  value_row_same : (n : ℕ) → n < count p VALUE → value_at c n ≡ value_at p n
  value_row_same n lt = begins_with (lines_of p VALUE) (lines_of c VALUE) k.values (λ rest e. ap (λ l. value_row (get_or l n [])) e ∙ ap value_row (get_or-append (lines_of p VALUE) rest [] n lt))

  -- ---- types, schema, policies

  pub types_eq : types p ≡ types c
  unfolding types
  types_eq = ap (tys_from []) k.types_same

  first_same : (r q : List ℕ) → request_same r q ≡ true → at r 0 ≡ at q 0
  first_same r q e = and_both (eqb (at r 0) (at q 0)) (part_same r q 1) e (λ a b. eqb_true (at r 0) (at q 0) a)

  request_eq : (x : Var) → request_ty p (types p) x ≡ request_ty c (types c) x
  request_eq principal = ap (λ k. tent k []) (first_same (line_at p PRINCIPAL 0) (line_at c PRINCIPAL 0) k.who)
  request_eq action = ap (λ k. tent k []) (first_same (line_at p ACTION 0) (line_at c ACTION 0) k.does)
  request_eq resource = ap (λ k. tent k []) (first_same (line_at p RESOURCE 0) (line_at c RESOURCE 0) k.whom)
  request_eq context = λ i. get_or (types_eq i) (first_same (line_at p CONTEXT 0) (line_at c CONTEXT 0) k.where' i) tbool

  -- one schema, but for the bytes of texts
  pub schema_eq : schema p ≡ record { shape = (schema c).shape; bytes = (schema p).bytes; request = (schema c).request }
  unfolding schema
  schema_eq = λ i. record {
    shape = λ n. record { is_action = eqb (at (get_or (k.kinds i) n []) 1) 1; attrs = attrs_in (get_or (types_eq i) (at (get_or (k.shapes i) n []) 0) tbool); tags = tag_ty (types_eq i) (at (get_or (k.shapes i) n []) 1); above = drop 2 (items (get_or (k.shapes i) n [])) };
    bytes = λ t. items (line_at p TEXT t);
    request = λ x. request_eq x i;
  }

  -- the partial sheet's numbered policies read as the complete one's by content
  lit_there : (pre : List (List ℕ)) (r : List ℕ) (rest : List (List ℕ)) → lines_of p NODE ≡ pre ++ (r ∷ rest) → tag r - 21 ≡ 0 → At (contents p) (at r 1) (get_or (contents c) (at r 1) (vbool false))
  unfolding key_of slot_at form_of forms
  lit_there pre r rest e z =
      let w = fp.history NODE pre r rest e in
      let (lo, hi) = tags_between NODE 21 49 (tag r) (omega arith) node_tags w.key in
      let rd = row_read partial r w.line 21 w.row (omega (arith, lo, z)) (omega arith) (omega arith) (λ z. absurd (omega (arith, z))) in
      let lt = ltb-true (at r 1) (count w.was 5) (item_there partial p w.was NODE r 21 rd w.pass.refers 1 (ltb-true 1 2 refl)) in
      let lt' : at r 1 < count p 5 = subst (λ l. at r 1 < length l) (w.earlier 5 (omega arith)) lt in
      subst (At (contents p) (at r 1)) (sym (val_same (at r 1) lt')) (there_value partial p fp.history (at r 1) lt')

  pub read_as : ReadPolicies (contents p) (n_policies p) (policies c)
  unfolding n_policies policies trees exprs
  read_as =
      subst (λ z. ReadPolicies (contents p) (n_policies p) (content_policies (λ x y. trees_from (types c) (content_of c) (linked (content_of c) x y) [] (lines_of c NODE)) z)) k.rules
      (subst (λ z. ReadPolicies (contents p) (n_policies p) (content_policies (λ x y. trees_from (types c) (content_of c) (linked (content_of c) x y) [] z) (on_term p))) k.nodes
      (subst (λ z. ReadPolicies (contents p) (n_policies p) (content_policies (λ x y. trees_from z (content_of c) (linked (content_of c) x y) [] (lines_of p NODE)) (on_term p))) types_eq
      (read_policies partial p fp.history (contents p) (types p) (content_of c) (λ n lt. subst (At (contents p) n) (sym (val_same n lt)) (there_value partial p fp.history n lt)) lit_there fp.ends)))

  -- ---- agreement of the known parts

  known_is : {A : Type 0} (n i : ℕ) (a b v : A) → known n a ≡ some v → unknown_or n (eqb n i) ≡ true → (eqb n mark ≡ false → n ≡ i → b ≡ a) → b ≡ v
  known_is {A} n i a b v e g f = go (eqb n mark) refl e g
    where
      go : (x : Bool) → eqb n mark ≡ x → cond x none (some a) ≡ some v → (x || eqb n i) ≡ true → b ≡ v
      go true q e g = no_some e
      go false q e g = f q (eqb_true n i g) ∙ some-injective a v e

  entity_agrees : (r q : List ℕ) → request_same r q ≡ true → (v : Value) → entity_known r ≡ some v → vent (at q 0) (at q 1) ≡ v
  entity_agrees r q e v g = and_both (eqb (at r 0) (at q 0)) (part_same r q 1) e (λ a b.
      known_is (at r 1) (at q 1) (vent (at r 0) (at r 1)) (vent (at q 0) (at q 1)) v g b (λ z n. ap₂ vent (sym (eqb_true (at r 0) (at q 0) a)) (sym n)))

  -- a known value number of the partial sheet
  known_value : (u : State) → lines_of u 5 ≡ lines_of p 5 → (n : ℕ) → (eqb n mark || ltb n (count u 5)) ≡ true → eqb n mark ≡ false → n < count p VALUE
  known_value u e n a b = ltb-true n (count p 5) (subst (λ l. ltb n (length l) ≡ true) e (subst (λ z. (z || ltb n (count u 5)) ≡ true) b a))

  context_agrees : (v : Value) → request_known p (contents p) context ≡ some v → requested c (contents c) context ≡ v
  unfolding slot_at form_of forms
  context_agrees v g =
      let w = the_line partial p fp CONTEXT (omega arith) (omega arith) in
      let r = line_at p CONTEXT 0 in
      let a : (eqb (at (line_at p CONTEXT 0) 1) mark || ltb (at (line_at p CONTEXT 0) 1) (count w.was 5)) ≡ true = item_there partial p w.was CONTEXT (line_at p CONTEXT 0) 20 (context_read partial p [] (line_at p CONTEXT 0) w) w.pass.refers 1 (ltb-true 1 2 refl) in
      and_both (eqb (at (line_at p CONTEXT 0) 0) (at (line_at c CONTEXT 0) 0)) (part_same (line_at p CONTEXT 0) (line_at c CONTEXT 0) 1) k.where' (λ x b.
      known_is (at (line_at p CONTEXT 0) 1) (at (line_at c CONTEXT 0) 1) (content_in (contents p) (at (line_at p CONTEXT 0) 1)) (content_in (contents c) (at (line_at c CONTEXT 0) 1)) v g b
      (λ z n. ap (content_in (contents c)) (sym n) ∙ val_same (at (line_at p CONTEXT 0) 1) (known_value w.was (w.earlier 5 (omega arith)) (at (line_at p CONTEXT 0) 1) a z)))

  request_agrees : (x : Var) (v : Value) → request_known p (contents p) x ≡ some v → requested c (contents c) x ≡ v
  request_agrees principal v e = entity_agrees (line_at p PRINCIPAL 0) (line_at c PRINCIPAL 0) k.who v e
  request_agrees action v e = entity_agrees (line_at p ACTION 0) (line_at c ACTION 0) k.does v e
  request_agrees resource v e = entity_agrees (line_at p RESOURCE 0) (line_at c RESOURCE 0) k.whom v e
  request_agrees context v e = context_agrees v e

  -- ---- entities

  -- a complete entity line has the value's row exactly if it has its number
  row_number : (pre : List (List ℕ)) (x : List ℕ) → Was complete c ENTITY pre x → (n i t : ℕ) → n < count c VALUE → value_at c n ≡ rent i t → same_row (value_at c (at x 0)) (rent i t) ≡ eqb (at x 0) n
  unfolding slot_at form_of forms
  row_number pre x w n i t lt e =
      let h = fc.history in
      let lx = ltb-true (at x 0) (count w.was 5) (item_there complete c w.was ENTITY x 16 (entity_read complete c pre x w) w.pass.refers 0 (ltb-true 0 4 refl)) in
      let lx' : at x 0 < count c 5 = subst (λ l. at x 0 < length l) (w.earlier 5 (omega arith)) lx in
      iff (same_row (value_at c (at x 0)) (rent i t)) (eqb (at x 0) n)
      (λ q. let z : val complete c h (at x 0) ≡ val complete c h n = val_eq complete c h (at x 0) ∙ ap (value_over (contents c)) (same_row_true (value_at c (at x 0)) (rent i t) q ∙ sym e) ∙ sym (val_eq complete c h n) in
      eq-eqb (at x 0) n (number_inj (values_table complete c h) (at x 0) n (val complete c h n) (subst (At (contents c) (at x 0)) z (there_value complete c h (at x 0) lx')) (there_value complete c h n lt)))
      (λ q. subst (λ z. same_row z (rent i t) ≡ true) (sym (ap (value_at c) (eqb_true (at x 0) n q) ∙ e)) (same_row_refl (rent i t)))

  found_same : (n i t : ℕ) → n < count c VALUE → value_at c n ≡ rent i t → (pre rs : List (List ℕ)) → lines_of c ENTITY ≡ pre ++ rs → entity_line c (rent i t) rs ≡ line_for n rs
  found_same n i t lt e pre [] q = refl
  found_same n i t lt e pre (x ∷ rs) q = ap₂ (λ b o. cond b (some x) o) (row_number pre x (fc.history ENTITY pre x rs q) n i t lt e) (found_same n i t lt e (pre ++ (x ∷ [])) rs (q ∙ sym (append_assoc pre (x ∷ []) rs)))

  one_listed : (pre : List (List ℕ)) (r : List ℕ) (rest l : List (List ℕ)) → all_listed (pre ++ (r ∷ rest)) l ≡ true → listed r l ≡ true
  one_listed [] r rest l e = and_both (listed r l) (all_listed rest l) e (λ a b. a)
  one_listed (x ∷ pre) r rest l e = and_both (listed x l) (all_listed (pre ++ (r ∷ rest)) l) e (λ a b. one_listed pre r rest l b)

  -- an entity that is listed on the partial sheet and has known parents there has these on the complete one too
  parents_same : (x : ℕ) → is_open (lines_of p VALUE) (lines_of p ENTITY) x ≡ false → parents (lines_of c VALUE) (lines_of c ENTITY) x ≡ parents (lines_of p VALUE) (lines_of p ENTITY) x
  unfolding slot_at form_of forms
  parents_same x q = go (line_for x (lines_of p ENTITY)) refl q
    where
      known_parts : (r y : List ℕ) → eqb (at r 3) mark ≡ false → at r 3 ≡ at y 3 → at r 3 < count p VALUE → parents_in (lines_of c VALUE) (lines_of c ENTITY) y ≡ parents_in (lines_of p VALUE) (lines_of p ENTITY) r
      known_parts r y a e lt = ap (λ n. cond (eqb n mark) [] (r_set [] (value_at c n) (λ l. l))) (sym e) ∙ ap (λ b. cond b [] (r_set [] (value_at c (at r 3)) (λ l. l))) a ∙ ap (λ v. r_set [] v (λ l. l)) (value_row_same (at r 3) lt) ∙ sym (ap (λ b. cond b [] (r_set [] (value_at p (at r 3)) (λ l. l))) a)

      go : (o : Option (List ℕ)) → line_for x (lines_of p ENTITY) ≡ o → on_some true o (λ r. eqb (at r 3) mark) ≡ false → parents (lines_of c VALUE) (lines_of c ENTITY) x ≡ on_some [] o (parents_in (lines_of p VALUE) (lines_of p ENTITY))
      go none e q = no_true (sym q)
      go (some r) e q = line_found_law x (lines_of p ENTITY) r e (λ pre rest a b.
          let w = fp.history ENTITY pre r rest a in
          let lt = known_value w.was (w.earlier 5 (omega arith)) (at r 3) (item_there partial p w.was ENTITY r 16 (entity_read partial p pre r w) w.pass.refers 3 (ltb-true 3 4 refl)) q in
          some_test (line_for (at r 0) (lines_of c ENTITY)) (entity_same r) (one_listed pre r rest (lines_of c ENTITY) (subst (λ l. all_listed l (lines_of c ENTITY) ≡ true) a k.entities)) (λ y d g.
          and_both (part_same r y 1 && part_same r y 2) (part_same r y 3) g (λ g g3.
          ap (λ z. on_some [] z (parents_in (lines_of c VALUE) (lines_of c ENTITY))) (ap (λ z. line_for z (lines_of c ENTITY)) (sym b) ∙ d)
          ∙ known_parts r y q (eqb_true (at r 3) (at y 3) (subst (λ z. (z || eqb (at r 3) (at y 3)) ≡ true) q g3)) lt)))

  parents_cut : (x : ℕ) → is_open (lines_of p VALUE) (entity_lines p) x ≡ false → parents (lines_of c VALUE) (entity_lines c) x ≡ parents (lines_of p VALUE) (entity_lines p) x
  parents_cut x = subst (λ F. is_open (lines_of p VALUE) (entity_lines p) x ≡ false → parents (lines_of c VALUE) F x ≡ parents (lines_of p VALUE) (entity_lines p) x) (sym (all_lines complete c fc.history))
      (subst (λ E. is_open (lines_of p VALUE) E x ≡ false → parents (lines_of c VALUE) (lines_of c ENTITY) x ≡ parents (lines_of p VALUE) E x) (sym (all_lines partial p fp.history)) (parents_same x))

  -- known ancestors are the same
  ancestors_agree : (pre : List (List ℕ)) (r : List ℕ) (rest : List (List ℕ)) → lines_of p ENTITY ≡ pre ++ (r ∷ rest) → (q : List ℕ) → at q 0 ≡ at r 0 → (vs : Values) → map_some (set_over (contents p)) (known_above partial p (at r 0)) ≡ some vs → set_over (contents c) (above c (at q 0)) ≡ vs
  ancestors_agree pre r rest a q n vs e = go (unknown_above (lines_of p VALUE) (entity_lines p) (at r 0)) refl e
    where
      go : (b : Bool) → unknown_above (lines_of p VALUE) (entity_lines p) (at r 0) ≡ b → map_some (set_over (contents p)) (cond b none (some (above p (at r 0)))) ≡ some vs → set_over (contents c) (above c (at q 0)) ≡ vs
      go true u e = no_some e
      go false u e = ap (λ x. set_over (contents c) (above c x)) n
          ∙ same_set (contents c) (contents p) (above c (at r 0)) (above p (at r 0)) (same_above (lines_of p VALUE) (entity_lines p) (lines_of c VALUE) (entity_lines c) parents_cut (at r 0) u) (λ y i. val_same y (above_small p fp.fit pre r rest a y i))
          ∙ some-injective _ _ e

  parts_agree : (pre : List (List ℕ)) (r : List ℕ) (rest : List (List ℕ)) → lines_of p ENTITY ≡ pre ++ (r ∷ rest) → (q : List ℕ) → at q 0 ≡ at r 0 → entity_same r q ≡ true → LineAgrees (parts_in partial p (contents p) r) (line_in c (contents c) q)
  unfolding slot_at form_of forms
  parts_agree pre r rest a q n g =
      let w = fp.history ENTITY pre r rest a in
      let rd = entity_read partial p pre r w in
      let e5 : lines_of w.was 5 ≡ lines_of p 5 = w.earlier 5 (omega arith) in
      and_both (part_same r q 1 && part_same r q 2) (part_same r q 3) g (λ g g3. and_both (part_same r q 1) (part_same r q 2) g (λ g1 g2. record {
        attrs = λ fs e. known_is (at r 1) (at q 1) (fields_in (content_in (contents p) (at r 1))) (fields_in (content_in (contents c) (at q 1))) fs e g1
            (λ z n. ap fields_in (ap (content_in (contents c)) (sym n) ∙ val_same (at r 1) (known_value w.was e5 (at r 1) (item_there partial p w.was ENTITY r 16 rd w.pass.refers 1 (ltb-true 1 4 refl)) z)));
        tags = λ fs e. known_is (at r 2) (at q 2) (fields_in (content_in (contents p) (at r 2))) (fields_in (content_in (contents c) (at q 2))) fs e g2
            (λ z n. ap fields_in (ap (content_in (contents c)) (sym n) ∙ val_same (at r 2) (known_value w.was e5 (at r 2) (item_there partial p w.was ENTITY r 16 rd w.pass.refers 2 (ltb-true 2 4 refl)) z)));
        ancestors = λ vs e. ancestors_agree pre r rest a q n vs e;
      }))

  line_agrees : (i t : ℕ) (x : PLine) (o : Option (List ℕ)) → look_up p i t ≡ o → parts_found p (contents p) o ≡ some x → (l : Line) × (line_found c (contents c) (look_up c i t) ≡ some l) × LineAgrees x l
  unfolding slot_at form_of forms
  line_agrees i t x none q e = no_some e
  line_agrees i t x (some r) q e = entity_found p (rent i t) (lines_of p ENTITY) r q (λ pre rest a b.
      let w = fp.history ENTITY pre r rest a in
      let lr = ltb-true (at r 0) (count w.was 5) (item_there partial p w.was ENTITY r 16 (entity_read partial p pre r w) w.pass.refers 0 (ltb-true 0 4 refl)) in
      let lr' : at r 0 < count p 5 = subst (λ l. at r 0 < length l) (w.earlier 5 (omega arith)) lr in
      let mv = more_values in
      some_test (line_for (at r 0) (lines_of c ENTITY)) (entity_same r) (one_listed pre r rest (lines_of c ENTITY) (subst (λ l. all_listed l (lines_of c ENTITY) ≡ true) a k.entities)) (λ y d g. (
        line_in c (contents c) y,
        ap (line_found c (contents c)) (found_same (at r 0) i t (omega (arith, lr', mv)) (value_row_same (at r 0) lr' ∙ b) [] (lines_of c ENTITY) refl ∙ d),
        subst (λ z. LineAgrees z (line_in c (contents c) y)) (some-injective _ _ e) (parts_agree pre r rest a y (line_found_law (at r 0) (lines_of c ENTITY) y d (λ before after s n. n)) g),
      )))

  -- THEY AGREE by content
  pub env_agrees : Agree (p_env p) (env c)
  unfolding p_env env
  env_agrees = record { request = request_agrees; line = λ i t x e. line_agrees i t x (look_up p i t) refl e }
