-- The nodes of an accepted sheet are typed by content.
use mathlib.Core.Path.{◌≡◌, refl, sym, ◌∙◌, ap, subst}
use mathlib.Core.Bool.{Bool, true, false, cond, ◌&&◌, ◌||◌}
use mathlib.Core.Option.{Option, none, some}
use mathlib.Core.List.{List, [], ◌∷◌}
use Prim.Native.Nat.{ℕ, zero, suc, ◌<◌, ◌≤◌, ◌+◌, ◌-◌}
use native.Mathlib.Omega.{arith}
use borrow.Author.Tests.{ltb-true, ne_eqb}
use lib.Dec.{eqb}
use lib.ListN.{length, get_or, drop}
use Rattle.cedar.proofs.Tools.{no_true, eqb_true, either}
use Rattle.cedar.proofs.TypingTest.{some_test}
use Rattle.cedar.specs.Value.{Value, vbool, on_some}
use Rattle.cedar.specs.Types.{Ty, tbool, tlong, tstr, tent, tset, Attrs, declared, Var, principal, action, resource, context}
use Rattle.cedar.specs.Residual.{Expr, lit, err, var, and, or, has, haspath, set, rec, enil, Item, unot, uneg, uempty, uis, ulike, beq, blt, ble, badd, bsub, bmul, bcontains, ball, bany, rin, rgettag, rhastag}
use Rattle.cedar.specs.Typing.{named, UnOk, not_ok, neg_ok, empty_ok, is_ok, like_ok, BinOk, eq_ok, eq_ent_ok, lt_ok, le_ok, add_ok, sub_ok, mul_ok, contains_ok, all_ok, any_ok, RelOk, in_ok, in_set_ok, get_tag_ok, has_tag_ok, Each, IfDeclared, PathOk, Typed, tlit, terr, tvar, tand, tor, tite, tun, tbin, trel, tget, thas, tpath, tset', trec', AllTyped, nil_typed, cons_typed, ArgsTyped, no_arg, one_arg}
use Rattle.cedar.specs.Numbered.{entry_of, is_some, pick_n}
use Rattle.sheet.specs.Forms.{Mode, Slot, line, forms, form_of, slot_at, at, mark, NODE}
use Rattle.sheet.specs.Bytes.{same as same_list}
use Rattle.sheet.specs.State.{State, lines_of, count, line_at, Declared, TypeRow, bool, long, string, entity, set', record', type_row, type_at, value_row}
use Rattle.sheet.specs.Typing.{on_entity, on_set_of, on_record, is_bool, is_long, is_string, declared_in, required_there, all_in, all_entries, entries_fit, row_fits, fits_by, fits, fits_in, attributes_of, tags_of, each_of, is_target, path_typed, type_of_node, entity_is, context_is, var_typed, arg_types, rules}
use Rattle.sheet.specs.Sheet.{all_there, there_is}
use Rattle.sheet.specs.Content.{attrs_over, ty_over, types, contents, attrs_in, tag_ty, schema, var_of, pattern_of, children_over, args_over, tree_over}
use Rattle.sheet.proofs.reading.Lines.{and_both, History}
use Rattle.sheet.proofs.reading.NodeRows.{Read, line_small, there_at}
use Rattle.sheet.proofs.reading.RowTests.{all_at, same_is, on_entity_law, on_set_of_law, on_record_law, is_bool_law, is_long_law, is_string_law}
use Rattle.sheet.proofs.content.Fitting.{ty_eq}
use Rattle.sheet.proofs.content.FitsSound.{fits_sound, declared_over, map_ty, complete_over}
use Rattle.sheet.proofs.reading.Slots.{set_slot, field_slot}

-- u is the state in which a node's line was read
module _ (m : Mode) (s : State) (h : History m s) (u : State) (same : (j : ℕ) → j < NODE → lines_of u j ≡ lines_of s j) where
  abbrev pub T : ℕ → Ty
  T y = get_or (types s) y tbool

  row_ty : (y : ℕ) {row : TypeRow} → type_at u y ≡ row → T y ≡ ty_over (types s) row
  row_ty y e = ty_eq m s h y ∙ ap (λ l. ty_over (types s) (type_row (get_or l y []))) (sym (same 3 (omega arith))) ∙ ap (ty_over (types s)) e

  is_ty : (X : Ty → Type 0) (y : ℕ) {row : TypeRow} → type_at u y ≡ row → X (ty_over (types s) row) → X (T y)
  is_ty X y e x = subst X (sym (row_ty y e)) x

  pub to_ty : (X : Ty → Type 0) (y : ℕ) {row : TypeRow} → type_at u y ≡ row → X (T y) → X (ty_over (types s) row)
  to_ty X y e x = subst X (row_ty y e) x

  fits_same : (n v t : ℕ) → fits_by (lines_of u 5) (lines_of u 3) n v t ≡ fits_by (lines_of s 5) (lines_of s 3) n v t
  fits_same zero v t = refl
  fits_same (suc n) v t = λ i. row_fits (λ x y. fits_same n x y i) (value_row (get_or (same 5 (omega arith) i) v [])) (type_row (get_or (same 3 (omega arith) i) t []))

  lit_typed : (v y : ℕ) → fits u v y ≡ true → Typed (schema s) (lit (T y) (get_or (contents s) v (vbool false))) (T y)
  unfolding fits_in
  lit_typed v y e = tlit (fits_sound m s h v y (sym (fits_same 64 v y) ∙ e))

  -- the type of a list of kinds
  abbrev group_of : List ℕ → Ty
  group_of [] = tbool
  group_of (k ∷ ks) = tent k ks

  -- variables
  entity_var : (x : Var) (k y : ℕ) → k < NODE → (schema s).request x ≡ tent (at (line_at s k 0) 0) [] → entity_is u y k ≡ true → Typed (schema s) (var (T y) x) (T y)
  entity_var x k y lt q e = on_entity_law (type_at u y) (λ ks. same_list ks (at (line_at u k 0) 0 ∷ [])) e (λ l ls p g.
      tvar (q ∙ ap (λ r. tent (at (get_or r 0 []) 0) []) (sym (same k lt)) ∙ ap group_of (sym (same_is (l ∷ ls) (at (line_at u k 0) 0 ∷ []) g)) ∙ sym (row_ty y p)))

  context_var : (y : ℕ) → context_is u y ≡ true → Typed (schema s) (var (T y) context) (T y)
  unfolding schema
  context_var y e = tvar (ap (λ r. T (at (get_or r 0 []) 0)) (sym (same 10 (omega arith))) ∙ ap T (sym (eqb_true y (at (line_at u 10 0) 0) e)))

  var_typed_law : (x y : ℕ) → var_typed u y x ≡ true → Typed (schema s) (var (T y) (var_of x)) (T y)
  unfolding schema
  var_typed_law zero y e = entity_var principal 7 y (omega arith) refl e
  var_typed_law (suc zero) y e = entity_var action 8 y (omega arith) refl e
  var_typed_law (suc (suc zero)) y e = entity_var resource 9 y (omega arith) refl e
  var_typed_law (suc (suc (suc zero))) y e = context_var y e
  var_typed_law (suc (suc (suc (suc x)))) y e = context_var y e

  -- operands of given types, and the result
  module _ (y p q : ℕ) where
    bools : (Q : Ty → Ty → Ty → Type 0) → (is_bool (type_at u y) && is_bool (type_at u p) && is_bool (type_at u q)) ≡ true → Q tbool tbool tbool → Q (T p) (T q) (T y)
    bools Q e x = and_both (is_bool (type_at u y) && is_bool (type_at u p)) (is_bool (type_at u q)) e (λ a c. and_both (is_bool (type_at u y)) (is_bool (type_at u p)) a (λ a b.
        is_ty (λ A. Q A (T q) (T y)) p (is_bool_law _ b) (is_ty (λ B. Q tbool B (T y)) q (is_bool_law _ c) (is_ty (λ C. Q tbool tbool C) y (is_bool_law _ a) x))))

    longs : (Q : Ty → Ty → Ty → Type 0) → (is_bool (type_at u y) && is_long (type_at u p) && is_long (type_at u q)) ≡ true → Q tlong tlong tbool → Q (T p) (T q) (T y)
    longs Q e x = and_both (is_bool (type_at u y) && is_long (type_at u p)) (is_long (type_at u q)) e (λ a c. and_both (is_bool (type_at u y)) (is_long (type_at u p)) a (λ a b.
        is_ty (λ A. Q A (T q) (T y)) p (is_long_law _ b) (is_ty (λ B. Q tlong B (T y)) q (is_long_law _ c) (is_ty (λ C. Q tlong tlong C) y (is_bool_law _ a) x))))

    sums : (Q : Ty → Ty → Ty → Type 0) → (is_long (type_at u y) && is_long (type_at u p) && is_long (type_at u q)) ≡ true → Q tlong tlong tlong → Q (T p) (T q) (T y)
    sums Q e x = and_both (is_long (type_at u y) && is_long (type_at u p)) (is_long (type_at u q)) e (λ a c. and_both (is_long (type_at u y)) (is_long (type_at u p)) a (λ a b.
        is_ty (λ A. Q A (T q) (T y)) p (is_long_law _ b) (is_ty (λ B. Q tlong B (T y)) q (is_long_law _ c) (is_ty (λ C. Q tlong tlong C) y (is_long_law _ a) x))))

    sets : (Q : Ty → Ty → Ty → Type 0) → (is_bool (type_at u y) && on_set_of false (type_at u p) (λ e. true) && eqb p q) ≡ true → ((A : Ty) → Q (tset A) (tset A) tbool) → Q (T p) (T q) (T y)
    sets Q e x = and_both (is_bool (type_at u y) && on_set_of false (type_at u p) (λ e. true)) (eqb p q) e (λ a c. and_both (is_bool (type_at u y)) (on_set_of false (type_at u p) (λ e. true)) a (λ a b.
        on_set_of_law (type_at u p) (λ e. true) b (λ k r g. subst (λ z. Q (T p) (T z) (T y)) (eqb_true p q c) (is_ty (λ A. Q A A (T y)) p r (is_ty (λ C. Q (tset (T k)) (tset (T k)) C) y (is_bool_law _ a) (x (T k)))))))

    eq_ok_law : (is_bool (type_at u y) && (eqb p q || (on_entity false (type_at u p) (λ k. true) && on_entity false (type_at u q) (λ k. true)))) ≡ true → BinOk (schema s) beq (T p) (T q) (T y)
    eq_ok_law e = and_both (is_bool (type_at u y)) (eqb p q || (on_entity false (type_at u p) (λ k. true) && on_entity false (type_at u q) (λ k. true))) e (λ a o. is_ty (BinOk (schema s) beq (T p) (T q)) y (is_bool_law _ a)
        (either (eqb p q) (on_entity false (type_at u p) (λ k. true) && on_entity false (type_at u q) (λ k. true)) o
        (λ g. subst (λ z. BinOk (schema s) beq (T p) (T z) tbool) (eqb_true p q g) eq_ok)
        (λ g. and_both (on_entity false (type_at u p) (λ k. true)) (on_entity false (type_at u q) (λ k. true)) g (λ i j. on_entity_law (type_at u p) (λ k. true) i (λ k ks k' g. on_entity_law (type_at u q) (λ k. true) j (λ l ls l' g.
        is_ty (λ A. BinOk (schema s) beq A (T q) tbool) p k' (is_ty (λ B. BinOk (schema s) beq (tent k ks) B tbool) q l' eq_ent_ok)))))))

    contains_ok_law : (is_bool (type_at u y) && on_set_of false (type_at u p) (λ e. eqb e q)) ≡ true → BinOk (schema s) bcontains (T p) (T q) (T y)
    contains_ok_law e = and_both (is_bool (type_at u y)) (on_set_of false (type_at u p) (λ e. eqb e q)) e (λ a b. on_set_of_law (type_at u p) (λ e. eqb e q) b (λ k r g.
        is_ty (BinOk (schema s) bcontains (T p) (T q)) y (is_bool_law _ a) (is_ty (λ A. BinOk (schema s) bcontains A (T q) tbool) p r (subst (λ z. BinOk (schema s) bcontains (tset (T k)) (T z) tbool) (eqb_true k q g) contains_ok))))

    hastag_ok : (is_bool (type_at u y) && on_entity false (type_at u p) (λ k. true) && is_string (type_at u q)) ≡ true → RelOk (schema s) rhastag (T p) (T q) (T y)
    hastag_ok e = and_both (is_bool (type_at u y) && on_entity false (type_at u p) (λ k. true)) (is_string (type_at u q)) e (λ a c. and_both (is_bool (type_at u y)) (on_entity false (type_at u p) (λ k. true)) a (λ a b.
        on_entity_law (type_at u p) (λ k. true) b (λ k ks r g. is_ty (λ A. RelOk (schema s) rhastag A (T q) (T y)) p r (is_ty (λ B. RelOk (schema s) rhastag (tent k ks) B (T y)) q (is_string_law _ c) (is_ty (λ C. RelOk (schema s) rhastag (tent k ks) tstr C) y (is_bool_law _ a) has_tag_ok)))))

    gettag_ok : y ≤ 9999 → (is_string (type_at u q) && on_entity false (type_at u p) (all_in (λ k. eqb (tags_of u k) y))) ≡ true → RelOk (schema s) rgettag (T p) (T q) (T y)
    unfolding schema
    gettag_ok small e = and_both (is_string (type_at u q)) (on_entity false (type_at u p) (all_in (λ k. eqb (tags_of u k) y))) e (λ a b. on_entity_law (type_at u p) (all_in (λ k. eqb (tags_of u k) y)) b (λ k ks r g.
        is_ty (λ A. RelOk (schema s) rgettag A (T q) (T y)) p r (is_ty (λ B. RelOk (schema s) rgettag (tent k ks) B (T y)) q (is_string_law _ a)
        (get_tag_ok (λ j m. ap (λ l. tag_ty (types s) (at (get_or l j []) 1)) (sym (same 4 (omega arith))) ∙ ap (tag_ty (types s)) (eqb_true (tags_of u j) y (all_at (λ k. eqb (tags_of u k) y) (k ∷ ks) g j m)) ∙ ap (λ b. cond b none (some (T y))) (ne_eqb y mark (λ z. absurd (omega (arith, z, small)))))))))

    target : {X : Type 0} → is_target u q ≡ true → ((l : ℕ) (ls : List ℕ) → type_at u q ≡ entity l ls → X) → ((k l : ℕ) (ls : List ℕ) → type_at u q ≡ set' k → type_at u k ≡ entity l ls → X) → X
    target {X} e f g = go (type_at u q) refl e
      where
        inner : (k : ℕ) (row : TypeRow) → type_at u q ≡ set' k → type_at u k ≡ row → on_entity false row (λ ks. true) ≡ true → X
        inner k bool a b e = no_true e
        inner k long a b e = no_true e
        inner k string a b e = no_true e
        inner k (entity l ls) a b e = g k l ls a b
        inner k (set' t) a b e = no_true e
        inner k (record' ds) a b e = no_true e

        go : (row : TypeRow) → type_at u q ≡ row → on_entity (on_set_of false row (λ e. on_entity false (type_at u e) (λ ks. true))) row (λ ks. true) ≡ true → X
        go bool a e = no_true e
        go long a e = no_true e
        go string a e = no_true e
        go (entity l ls) a e = f l ls a
        go (set' k) a e = inner k (type_at u k) a refl e
        go (record' ds) a e = no_true e

    in_ok_law : (is_bool (type_at u y) && on_entity false (type_at u p) (λ k. true) && is_target u q) ≡ true → RelOk (schema s) rin (T p) (T q) (T y)
    in_ok_law e = and_both (is_bool (type_at u y) && on_entity false (type_at u p) (λ k. true)) (is_target u q) e (λ a c. and_both (is_bool (type_at u y)) (on_entity false (type_at u p) (λ k. true)) a (λ a b.
        on_entity_law (type_at u p) (λ k. true) b (λ k ks r g. is_ty (λ A. RelOk (schema s) rin A (T q) (T y)) p r (is_ty (λ C. RelOk (schema s) rin (tent k ks) (T q) C) y (is_bool_law _ a)
        (target c (λ l ls t. is_ty (λ B. RelOk (schema s) rin (tent k ks) B tbool) q t in_ok)
        (λ i l ls t v. is_ty (λ B. RelOk (schema s) rin (tent k ks) B tbool) q t (is_ty (λ B. RelOk (schema s) rin (tent k ks) (tset B) tbool) i v in_set_ok)))))))

  module _ (y p : ℕ) where
    not_ok_law : (is_bool (type_at u y) && is_bool (type_at u p)) ≡ true → UnOk (schema s) unot (T p) (T y)
    not_ok_law e = and_both (is_bool (type_at u y)) (is_bool (type_at u p)) e (λ a b. is_ty (λ A. UnOk (schema s) unot A (T y)) p (is_bool_law _ b) (is_ty (UnOk (schema s) unot tbool) y (is_bool_law _ a) not_ok))

    neg_ok_law : (is_long (type_at u y) && is_long (type_at u p)) ≡ true → UnOk (schema s) uneg (T p) (T y)
    neg_ok_law e = and_both (is_long (type_at u y)) (is_long (type_at u p)) e (λ a b. is_ty (λ A. UnOk (schema s) uneg A (T y)) p (is_long_law _ b) (is_ty (UnOk (schema s) uneg tlong) y (is_long_law _ a) neg_ok))

    empty_ok_law : (is_bool (type_at u y) && on_set_of false (type_at u p) (λ e. true)) ≡ true → UnOk (schema s) uempty (T p) (T y)
    empty_ok_law e = and_both (is_bool (type_at u y)) (on_set_of false (type_at u p) (λ e. true)) e (λ a b. on_set_of_law (type_at u p) (λ e. true) b (λ k r g. is_ty (λ A. UnOk (schema s) uempty A (T y)) p r (is_ty (UnOk (schema s) uempty (tset (T k))) y (is_bool_law _ a) empty_ok)))

    is_ok_law : (k : ℕ) → (is_bool (type_at u y) && on_entity false (type_at u p) (λ k. true)) ≡ true → UnOk (schema s) (uis k) (T p) (T y)
    is_ok_law k e = and_both (is_bool (type_at u y)) (on_entity false (type_at u p) (λ k. true)) e (λ a b. on_entity_law (type_at u p) (λ k. true) b (λ l ls r g. is_ty (λ A. UnOk (schema s) (uis k) A (T y)) p r (is_ty (UnOk (schema s) (uis k) (tent l ls)) y (is_bool_law _ a) is_ok)))

    like_ok_law : (i : List Item) → (is_bool (type_at u y) && is_string (type_at u p)) ≡ true → UnOk (schema s) (ulike i) (T p) (T y)
    like_ok_law i e = and_both (is_bool (type_at u y)) (is_string (type_at u p)) e (λ a b. is_ty (λ A. UnOk (schema s) (ulike i) A (T y)) p (is_string_law _ b) (is_ty (UnOk (schema s) (ulike i) tstr) y (is_bool_law _ a) like_ok))

  -- attributes
  of_kind : (k : ℕ) (ds : List Declared) → type_at u (attributes_of u k) ≡ record' ds → ((schema s).shape k).attrs ≡ attrs_over (types s) ds
  unfolding schema
  of_kind k ds a = ap (λ l. attrs_in (T (at (get_or l k []) 0))) (sym (same 4 (omega arith))) ∙ ap attrs_in (row_ty (attributes_of u k) a)

  each_of_law : (y : ℕ) (f : List Declared → Bool) (P : Attrs → Type 0) → ((ds : List Declared) → f ds ≡ true → P (attrs_over (types s) ds)) → each_of u y f ≡ true → Each (schema s) (T y) P
  each_of_law y f P h e = go (type_at u y) refl e
    where
      go : (row : TypeRow) → type_at u y ≡ row → on_entity (on_record false row f) row (all_in (λ k. on_record false (type_at u (attributes_of u k)) f)) ≡ true → Each (schema s) (T y) P
      go bool a e = no_true e
      go long a e = no_true e
      go string a e = no_true e
      go (entity k ks) a e = is_ty (λ A. Each (schema s) A P) y a (λ j m. on_record_law (type_at u (attributes_of u j)) f
          (all_at (λ k. on_record false (type_at u (attributes_of u k)) f) (k ∷ ks) e j m) (λ ds q g. subst P (sym (of_kind j ds q)) (h ds g)))
      go (set' t) a e = no_true e
      go (record' ds) a e = is_ty (λ A. Each (schema s) A P) y a (h ds e)

  declared_in_law : (t : ℕ) (ds : List Declared) (o : Option ℕ) → declared_in t ds ≡ o → declared t (attrs_over (types s) ds) ≡ map_ty T o
  declared_in_law t ds o e = declared_over (types s) t ds ∙ ap (map_ty T) e

  path_ok_law : (us : List ℕ) (t y : ℕ) → path_typed u us t y ≡ true → PathOk (schema s) us t (T y)
  path_ok_law [] t y e = each_of_law y (λ ds. true) (λ R. Unit {0}) (λ ds q. tt) e
  path_ok_law (v ∷ us) t y e =
      each_of_law y (λ ds. on_some true (declared_in t ds) (path_typed u us v)) (λ R. IfDeclared (schema s) (declared t R) (λ B. PathOk (schema s) us v B)) (λ ds q. go ds (declared_in t ds) refl (λ z p. path_ok_law us v z p) q) e
    where
      go : (ds : List Declared) (o : Option ℕ) → declared_in t ds ≡ o → ((z : ℕ) → path_typed u us v z ≡ true → PathOk (schema s) us v (T z)) → on_some true o (path_typed u us v) ≡ true
          → IfDeclared (schema s) (declared t (attrs_over (types s) ds)) (λ B. PathOk (schema s) us v B)
      go ds none d ih q = subst (λ x. IfDeclared (schema s) x (λ B. PathOk (schema s) us v B)) (sym (declared_in_law t ds none d)) tt
      go ds (some z) d ih q = subst (λ x. IfDeclared (schema s) x (λ B. PathOk (schema s) us v B)) (sym (declared_in_law t ds (some z) d)) (ih z q)

  -- children
  abbrev pub V' : ℕ → Value
  V' n = get_or (contents s) n (vbool false)

  -- sl: what stands for a slot
  module _ (sl : Ty → ℕ → Expr) (slots : (A : Ty) (x : ℕ) → Typed (schema s) (sl A x) A) (es : List Expr) (kids : (n : ℕ) → n < count u NODE → Typed (schema s) (get_or es n (err tbool)) (T (type_of_node u n))) where
    there_kid : (sl : Slot) (n : ℕ) → sl ≡ line NODE → there_is u sl n ≡ true → Typed (schema s) (get_or es n (err tbool)) (T (type_of_node u n))
    there_kid sl n e p = kids n (ltb-true n (count u NODE) (sym (ap (λ z. there_is u z n) e) ∙ p))

    all_typed : (e j : ℕ) (l : List ℕ) → all_there u 47 (suc j) l ≡ true → all_in (λ n. eqb (type_of_node u n) e) l ≡ true → AllTyped (schema s) (children_over (types s) V' es l) (T e)
    all_typed e j [] a b = nil_typed
    all_typed e j (n ∷ l) a b = and_both (there_is u (slot_at 47 (suc j)) n) (all_there u 47 (suc (suc j)) l) a (λ p q. and_both (eqb (type_of_node u n) e) (all_in (λ n. eqb (type_of_node u n) e) l) b (λ x z.
        cons_typed (subst (λ k. Typed (schema s) (get_or es n (err tbool)) (T k)) (eqb_true (type_of_node u n) e x) (there_kid (slot_at 47 (suc j)) n (set_slot j) p)) (all_typed e (suc j) l q z)))

    args_typed : (r : List ℕ) (ds : List Declared) (i : ℕ) (l : List ℕ) → all_there u 48 (suc (i + i)) l ≡ true → all_entries (λ t x. on_some false (declared_in t ds) (eqb x)) (arg_types u r l) ≡ true
        → ArgsTyped (schema s) (args_over (types s) V' es l) (attrs_over (types s) ds)
    args_typed r ds i [] a b = no_arg
    args_typed r ds i (t ∷ []) a b = no_arg
    args_typed r ds i (t ∷ n ∷ l) a b =
        and_both (there_is u (slot_at 48 (suc (i + i))) t) (there_is u (slot_at 48 (suc (suc (i + i)))) n && all_there u 48 (suc (suc (suc (i + i)))) l) a (λ p q.
        and_both (there_is u (slot_at 48 (suc (suc (i + i)))) n) (all_there u 48 (suc (suc (suc (i + i)))) l) q (λ v w.
        and_both (on_some false (declared_in t ds) (eqb (type_of_node u n))) (all_entries (λ t x. on_some false (declared_in t ds) (eqb x)) (arg_types u r l)) b (λ x z.
        some_test (declared_in t ds) (eqb (type_of_node u n)) x (λ y d g.
        one_arg (declared_in_law t ds (some y) d) (subst (λ k. Typed (schema s) (get_or es n (err tbool)) (T k)) (eqb_true (type_of_node u n) y g) (there_kid (slot_at 48 (suc (suc (i + i)))) n (field_slot i) v))
        (args_typed r ds (suc i) l (subst (λ k. all_there u 48 k l ≡ true) (omega arith) w) z)))))

    pick_named : (b : Bool) (c : Bool) (n : ℕ) (o : Option ℕ) → is_some o ≡ c → is_some (pick_n b n o) ≡ (b || c)
    pick_named true c n o e = refl
    pick_named false c n o e = e

    named_args : (r : List ℕ) (t : ℕ) (l : List ℕ) → is_some (entry_of t (arg_types u r l)) ≡ named t (args_over (types s) V' es l)
    named_args r t [] = refl
    named_args r t (x ∷ []) = refl
    named_args r t (x ∷ n ∷ l) = pick_named (eqb t x) (named t (args_over (types s) V' es l)) (type_of_node u n) (entry_of t (arg_types u r l)) (named_args r t l)

    Rule : ℕ → Type 0
    Rule t = (l : List ℕ) → Read m (t ∷ l) t → all_there u t 0 l ≡ true → get_or (rules u (t ∷ l)) (t - 21) false ≡ true → Typed (schema s) (tree_over (types s) V' sl es (t ∷ l)) (T (get_or l 0 0))

    kid_at : (t : ℕ) (l : List ℕ) → Read m (t ∷ l) t → all_there u t 0 l ≡ true → (j : ℕ) → j < length (form_of t).items → slot_at t j ≡ line NODE → Typed (schema s) (get_or es (get_or l j 0) (err tbool)) (T (type_of_node u (get_or l j 0)))
    kid_at t l rd a j lt e = let z = rd.least in there_kid (slot_at t (0 + j)) (get_or l j 0) (ap (slot_at t) (omega arith) ∙ e) (there_at u t 0 l a j (omega (arith, z, lt)))

    rule21 : Rule 21
    unfolding Rule slot_at form_of forms
    rule21 l rd a e = lit_typed (get_or l 1 0) (get_or l 0 0) e

    rule22 : Rule 22
    unfolding Rule slot_at form_of forms
    rule22 l rd a e = terr

    rule23 : Rule 23
    unfolding Rule slot_at form_of forms
    rule23 l rd a e = var_typed_law (get_or l 1 0) (get_or l 0 0) e

    rule24 : Rule 24
    unfolding Rule slot_at form_of forms
    rule24 l rd a e = bools (get_or l 0 0) (type_of_node u (get_or l 1 0)) (type_of_node u (get_or l 2 0)) (λ A B C. Typed (schema s) (get_or es (get_or l 1 0) (err tbool)) A → Typed (schema s) (get_or es (get_or l 2 0) (err tbool)) B → Typed (schema s) (and C (get_or es (get_or l 1 0) (err tbool)) (get_or es (get_or l 2 0) (err tbool))) C) e (λ x z. tand x z) (kid_at 24 l rd a 1 (ltb-true 1 (length (form_of 24).items) refl) refl) (kid_at 24 l rd a 2 (ltb-true 2 (length (form_of 24).items) refl) refl)

    rule25 : Rule 25
    unfolding Rule slot_at form_of forms
    rule25 l rd a e = bools (get_or l 0 0) (type_of_node u (get_or l 1 0)) (type_of_node u (get_or l 2 0)) (λ A B C. Typed (schema s) (get_or es (get_or l 1 0) (err tbool)) A → Typed (schema s) (get_or es (get_or l 2 0) (err tbool)) B → Typed (schema s) (or C (get_or es (get_or l 1 0) (err tbool)) (get_or es (get_or l 2 0) (err tbool))) C) e (λ x z. tor x z) (kid_at 25 l rd a 1 (ltb-true 1 (length (form_of 25).items) refl) refl) (kid_at 25 l rd a 2 (ltb-true 2 (length (form_of 25).items) refl) refl)

    rule26 : Rule 26
    unfolding Rule slot_at form_of forms
    rule26 l rd a e = tbin (eq_ok_law (get_or l 0 0) (type_of_node u (get_or l 1 0)) (type_of_node u (get_or l 2 0)) e) (kid_at 26 l rd a 1 (ltb-true 1 (length (form_of 26).items) refl) refl) (kid_at 26 l rd a 2 (ltb-true 2 (length (form_of 26).items) refl) refl)

    rule27 : Rule 27
    unfolding Rule slot_at form_of forms
    rule27 l rd a e = tbin (longs (get_or l 0 0) (type_of_node u (get_or l 1 0)) (type_of_node u (get_or l 2 0)) (BinOk (schema s) blt) e lt_ok) (kid_at 27 l rd a 1 (ltb-true 1 (length (form_of 27).items) refl) refl) (kid_at 27 l rd a 2 (ltb-true 2 (length (form_of 27).items) refl) refl)

    rule28 : Rule 28
    unfolding Rule slot_at form_of forms
    rule28 l rd a e = tbin (longs (get_or l 0 0) (type_of_node u (get_or l 1 0)) (type_of_node u (get_or l 2 0)) (BinOk (schema s) ble) e le_ok) (kid_at 28 l rd a 1 (ltb-true 1 (length (form_of 28).items) refl) refl) (kid_at 28 l rd a 2 (ltb-true 2 (length (form_of 28).items) refl) refl)

    rule29 : Rule 29
    unfolding Rule slot_at form_of forms
    rule29 l rd a e = tbin (sums (get_or l 0 0) (type_of_node u (get_or l 1 0)) (type_of_node u (get_or l 2 0)) (BinOk (schema s) badd) e add_ok) (kid_at 29 l rd a 1 (ltb-true 1 (length (form_of 29).items) refl) refl) (kid_at 29 l rd a 2 (ltb-true 2 (length (form_of 29).items) refl) refl)

    rule30 : Rule 30
    unfolding Rule slot_at form_of forms
    rule30 l rd a e = tbin (sums (get_or l 0 0) (type_of_node u (get_or l 1 0)) (type_of_node u (get_or l 2 0)) (BinOk (schema s) bsub) e sub_ok) (kid_at 30 l rd a 1 (ltb-true 1 (length (form_of 30).items) refl) refl) (kid_at 30 l rd a 2 (ltb-true 2 (length (form_of 30).items) refl) refl)

    rule31 : Rule 31
    unfolding Rule slot_at form_of forms
    rule31 l rd a e = tbin (sums (get_or l 0 0) (type_of_node u (get_or l 1 0)) (type_of_node u (get_or l 2 0)) (BinOk (schema s) bmul) e mul_ok) (kid_at 31 l rd a 1 (ltb-true 1 (length (form_of 31).items) refl) refl) (kid_at 31 l rd a 2 (ltb-true 2 (length (form_of 31).items) refl) refl)

    rule32 : Rule 32
    unfolding Rule slot_at form_of forms
    rule32 l rd a e = trel (in_ok_law (get_or l 0 0) (type_of_node u (get_or l 1 0)) (type_of_node u (get_or l 2 0)) e) (kid_at 32 l rd a 1 (ltb-true 1 (length (form_of 32).items) refl) refl) (kid_at 32 l rd a 2 (ltb-true 2 (length (form_of 32).items) refl) refl)

    rule33 : Rule 33
    unfolding Rule slot_at form_of forms
    rule33 l rd a e = trel (gettag_ok (get_or l 0 0) (type_of_node u (get_or l 1 0)) (type_of_node u (get_or l 2 0)) (line_small m (slot_at 33 0) 3 (rd.field 0) (get_or l 0 0) refl (rd.reads 0 (ltb-true 0 (length (form_of 33).items) refl))) e) (kid_at 33 l rd a 1 (ltb-true 1 (length (form_of 33).items) refl) refl) (kid_at 33 l rd a 2 (ltb-true 2 (length (form_of 33).items) refl) refl)

    rule34 : Rule 34
    unfolding Rule slot_at form_of forms
    rule34 l rd a e = trel (hastag_ok (get_or l 0 0) (type_of_node u (get_or l 1 0)) (type_of_node u (get_or l 2 0)) e) (kid_at 34 l rd a 1 (ltb-true 1 (length (form_of 34).items) refl) refl) (kid_at 34 l rd a 2 (ltb-true 2 (length (form_of 34).items) refl) refl)

    rule35 : Rule 35
    unfolding Rule slot_at form_of forms
    rule35 l rd a e = tbin (contains_ok_law (get_or l 0 0) (type_of_node u (get_or l 1 0)) (type_of_node u (get_or l 2 0)) e) (kid_at 35 l rd a 1 (ltb-true 1 (length (form_of 35).items) refl) refl) (kid_at 35 l rd a 2 (ltb-true 2 (length (form_of 35).items) refl) refl)

    rule36 : Rule 36
    unfolding Rule slot_at form_of forms
    rule36 l rd a e = tbin (sets (get_or l 0 0) (type_of_node u (get_or l 1 0)) (type_of_node u (get_or l 2 0)) (BinOk (schema s) ball) e (λ A. all_ok)) (kid_at 36 l rd a 1 (ltb-true 1 (length (form_of 36).items) refl) refl) (kid_at 36 l rd a 2 (ltb-true 2 (length (form_of 36).items) refl) refl)

    rule37 : Rule 37
    unfolding Rule slot_at form_of forms
    rule37 l rd a e = tbin (sets (get_or l 0 0) (type_of_node u (get_or l 1 0)) (type_of_node u (get_or l 2 0)) (BinOk (schema s) bany) e (λ A. any_ok)) (kid_at 37 l rd a 1 (ltb-true 1 (length (form_of 37).items) refl) refl) (kid_at 37 l rd a 2 (ltb-true 2 (length (form_of 37).items) refl) refl)

    rule38 : Rule 38
    unfolding Rule slot_at form_of forms
    rule38 l rd a e = and_both (is_bool (type_at u (type_of_node u (get_or l 1 0))) && eqb (type_of_node u (get_or l 2 0)) (get_or l 0 0)) (eqb (type_of_node u (get_or l 3 0)) (get_or l 0 0)) e (λ x w. and_both (is_bool (type_at u (type_of_node u (get_or l 1 0)))) (eqb (type_of_node u (get_or l 2 0)) (get_or l 0 0)) x (λ x z. tite (to_ty (Typed (schema s) (get_or es (get_or l 1 0) (err tbool))) (type_of_node u (get_or l 1 0)) (is_bool_law _ x) (kid_at 38 l rd a 1 (ltb-true 1 (length (form_of 38).items) refl) refl)) (subst (λ k. Typed (schema s) (get_or es (get_or l 2 0) (err tbool)) (T k)) (eqb_true (type_of_node u (get_or l 2 0)) (get_or l 0 0) z) (kid_at 38 l rd a 2 (ltb-true 2 (length (form_of 38).items) refl) refl)) (subst (λ k. Typed (schema s) (get_or es (get_or l 3 0) (err tbool)) (T k)) (eqb_true (type_of_node u (get_or l 3 0)) (get_or l 0 0) w) (kid_at 38 l rd a 3 (ltb-true 3 (length (form_of 38).items) refl) refl))))

    rule39 : Rule 39
    unfolding Rule slot_at form_of forms
    rule39 l rd a e = tun (is_ok_law (get_or l 0 0) (type_of_node u (get_or l 1 0)) (get_or l 2 0) e) (kid_at 39 l rd a 1 (ltb-true 1 (length (form_of 39).items) refl) refl)

    rule40 : Rule 40
    unfolding Rule slot_at form_of forms
    rule40 l rd a e = tun (like_ok_law (get_or l 0 0) (type_of_node u (get_or l 1 0)) (pattern_of (drop 2 l)) e) (kid_at 40 l rd a 1 (ltb-true 1 (length (form_of 40).items) refl) refl)

    rule41 : Rule 41
    unfolding Rule slot_at form_of forms
    rule41 l rd a e = tget (each_of_law (type_of_node u (get_or l 1 0)) (λ ds. on_some false (declared_in (get_or l 2 0) ds) (eqb (get_or l 0 0))) (λ R. declared (get_or l 2 0) R ≡ some (T (get_or l 0 0)))
        (λ ds g. some_test (declared_in (get_or l 2 0) ds) (eqb (get_or l 0 0)) g (λ y d f. declared_in_law (get_or l 2 0) ds (some y) d ∙ ap (λ k. some (T k)) (sym (eqb_true (get_or l 0 0) y f)))) e)
        (kid_at 41 l rd a 1 (ltb-true 1 (length (form_of 41).items) refl) refl)

    rule42 : Rule 42
    unfolding Rule slot_at form_of forms
    rule42 l rd a e = and_both (is_bool (type_at u (get_or l 0 0))) (each_of u (type_of_node u (get_or l 1 0)) (λ ds. true)) e (λ x z. is_ty (λ C. Typed (schema s) (has C (get_or es (get_or l 1 0) (err tbool)) (get_or l 2 0)) C) (get_or l 0 0) (is_bool_law _ x)
        (thas (each_of_law (type_of_node u (get_or l 1 0)) (λ ds. true) (λ R. Unit {0}) (λ ds g. tt) z) (kid_at 42 l rd a 1 (ltb-true 1 (length (form_of 42).items) refl) refl)))

    rule43 : Rule 43
    unfolding Rule slot_at form_of forms
    rule43 l rd a e = and_both (is_bool (type_at u (get_or l 0 0))) (path_typed u (drop 3 l) (get_or l 2 0) (type_of_node u (get_or l 1 0))) e (λ x z. is_ty (λ C. Typed (schema s) (haspath C (get_or es (get_or l 1 0) (err tbool)) (get_or l 2 0) (drop 3 l)) C) (get_or l 0 0) (is_bool_law _ x)
        (tpath (path_ok_law (drop 3 l) (get_or l 2 0) (type_of_node u (get_or l 1 0)) z) (kid_at 43 l rd a 1 (ltb-true 1 (length (form_of 43).items) refl) refl)))

    rule44 : Rule 44
    unfolding Rule slot_at form_of forms
    rule44 l rd a e = tun (not_ok_law (get_or l 0 0) (type_of_node u (get_or l 1 0)) e) (kid_at 44 l rd a 1 (ltb-true 1 (length (form_of 44).items) refl) refl)

    rule45 : Rule 45
    unfolding Rule slot_at form_of forms
    rule45 l rd a e = tun (neg_ok_law (get_or l 0 0) (type_of_node u (get_or l 1 0)) e) (kid_at 45 l rd a 1 (ltb-true 1 (length (form_of 45).items) refl) refl)

    rule46 : Rule 46
    unfolding Rule slot_at form_of forms
    rule46 l rd a e = tun (empty_ok_law (get_or l 0 0) (type_of_node u (get_or l 1 0)) e) (kid_at 46 l rd a 1 (ltb-true 1 (length (form_of 46).items) refl) refl)

    rule47 : Rule 47
    unfolding Rule
    rule47 [] rd a e = on_set_of_law (type_at u 0) (λ e. true) e (λ k r g. is_ty (λ A. Typed (schema s) (set A enil) A) 0 r (tset' nil_typed))
    rule47 (y ∷ l) rd a e = on_set_of_law (type_at u y) (λ e. all_in (λ n. eqb (type_of_node u n) e) l) e (λ k r g. and_both (there_is u (slot_at 47 0) y) (all_there u 47 1 l) a (λ p q.
        is_ty (λ A. Typed (schema s) (set A (children_over (types s) V' es l)) A) y r (tset' (all_typed k 0 l q g))))

    args_of : (r : List ℕ) (y : ℕ) (l : List ℕ) → all_there u 48 1 l ≡ true → on_record false (type_at u y) (λ ds. entries_fit eqb ds (arg_types u r l)) ≡ true → Typed (schema s) (rec (T y) (args_over (types s) V' es l)) (T y)
    args_of r y l a e = on_record_law (type_at u y) (λ ds. entries_fit eqb ds (arg_types u r l)) e (λ ds q g.
        and_both (required_there ds (λ t. is_some (entry_of t (arg_types u r l)))) (all_entries (λ t x. on_some false (declared_in t ds) (eqb x)) (arg_types u r l)) g (λ x z.
        is_ty (λ A. Typed (schema s) (rec A (args_over (types s) V' es l)) A) y q
        (trec' (args_typed r ds 0 l a z) (complete_over (types s) ds (λ t. is_some (entry_of t (arg_types u r l))) (λ t. named t (args_over (types s) V' es l)) (λ t. named_args r t l) x))))

    rule48 : Rule 48
    unfolding Rule
    rule48 [] rd a e = args_of (48 ∷ []) 0 [] refl e
    rule48 (y ∷ l) rd a e = and_both (there_is u (slot_at 48 0) y) (all_there u 48 1 l) a (λ p q. args_of (48 ∷ y ∷ l) y l q e)

    rule49 : Rule 49
    unfolding Rule
    rule49 l rd a e = slots (T (get_or l 0 0)) (get_or l 1 0)

    rule_for : (d : ℕ) → d ≤ 28 → Rule (21 + d)
    rule_for zero h = rule21
    rule_for (suc zero) h = rule22
    rule_for (suc (suc zero)) h = rule23
    rule_for (suc (suc (suc zero))) h = rule24
    rule_for (suc (suc (suc (suc zero)))) h = rule25
    rule_for (suc (suc (suc (suc (suc zero))))) h = rule26
    rule_for (suc (suc (suc (suc (suc (suc zero)))))) h = rule27
    rule_for (suc (suc (suc (suc (suc (suc (suc zero))))))) h = rule28
    rule_for (suc (suc (suc (suc (suc (suc (suc (suc zero)))))))) h = rule29
    rule_for (suc (suc (suc (suc (suc (suc (suc (suc (suc zero))))))))) h = rule30
    rule_for (suc (suc (suc (suc (suc (suc (suc (suc (suc (suc zero)))))))))) h = rule31
    rule_for (suc (suc (suc (suc (suc (suc (suc (suc (suc (suc (suc zero))))))))))) h = rule32
    rule_for (suc (suc (suc (suc (suc (suc (suc (suc (suc (suc (suc (suc zero)))))))))))) h = rule33
    rule_for (suc (suc (suc (suc (suc (suc (suc (suc (suc (suc (suc (suc (suc zero))))))))))))) h = rule34
    rule_for (suc (suc (suc (suc (suc (suc (suc (suc (suc (suc (suc (suc (suc (suc zero)))))))))))))) h = rule35
    rule_for (suc (suc (suc (suc (suc (suc (suc (suc (suc (suc (suc (suc (suc (suc (suc zero))))))))))))))) h = rule36
    rule_for (suc (suc (suc (suc (suc (suc (suc (suc (suc (suc (suc (suc (suc (suc (suc (suc zero)))))))))))))))) h = rule37
    rule_for (suc (suc (suc (suc (suc (suc (suc (suc (suc (suc (suc (suc (suc (suc (suc (suc (suc zero))))))))))))))))) h = rule38
    rule_for (suc (suc (suc (suc (suc (suc (suc (suc (suc (suc (suc (suc (suc (suc (suc (suc (suc (suc zero)))))))))))))))))) h = rule39
    rule_for (suc (suc (suc (suc (suc (suc (suc (suc (suc (suc (suc (suc (suc (suc (suc (suc (suc (suc (suc zero))))))))))))))))))) h = rule40
    rule_for (suc (suc (suc (suc (suc (suc (suc (suc (suc (suc (suc (suc (suc (suc (suc (suc (suc (suc (suc (suc zero)))))))))))))))))))) h = rule41
    rule_for (suc (suc (suc (suc (suc (suc (suc (suc (suc (suc (suc (suc (suc (suc (suc (suc (suc (suc (suc (suc (suc zero))))))))))))))))))))) h = rule42
    rule_for (suc (suc (suc (suc (suc (suc (suc (suc (suc (suc (suc (suc (suc (suc (suc (suc (suc (suc (suc (suc (suc (suc zero)))))))))))))))))))))) h = rule43
    rule_for (suc (suc (suc (suc (suc (suc (suc (suc (suc (suc (suc (suc (suc (suc (suc (suc (suc (suc (suc (suc (suc (suc (suc zero))))))))))))))))))))))) h = rule44
    rule_for (suc (suc (suc (suc (suc (suc (suc (suc (suc (suc (suc (suc (suc (suc (suc (suc (suc (suc (suc (suc (suc (suc (suc (suc zero)))))))))))))))))))))))) h = rule45
    rule_for (suc (suc (suc (suc (suc (suc (suc (suc (suc (suc (suc (suc (suc (suc (suc (suc (suc (suc (suc (suc (suc (suc (suc (suc (suc zero))))))))))))))))))))))))) h = rule46
    rule_for (suc (suc (suc (suc (suc (suc (suc (suc (suc (suc (suc (suc (suc (suc (suc (suc (suc (suc (suc (suc (suc (suc (suc (suc (suc (suc zero)))))))))))))))))))))))))) h = rule47
    rule_for (suc (suc (suc (suc (suc (suc (suc (suc (suc (suc (suc (suc (suc (suc (suc (suc (suc (suc (suc (suc (suc (suc (suc (suc (suc (suc (suc zero))))))))))))))))))))))))))) h = rule48
    rule_for (suc (suc (suc (suc (suc (suc (suc (suc (suc (suc (suc (suc (suc (suc (suc (suc (suc (suc (suc (suc (suc (suc (suc (suc (suc (suc (suc (suc zero)))))))))))))))))))))))))))) h = rule49
    rule_for (suc (suc (suc (suc (suc (suc (suc (suc (suc (suc (suc (suc (suc (suc (suc (suc (suc (suc (suc (suc (suc (suc (suc (suc (suc (suc (suc (suc (suc d))))))))))))))))))))))))))))) h = absurd (omega arith)

    pub node_typed : (t : ℕ) → 21 ≤ t → t ≤ 49 → (l : List ℕ) → Read m (t ∷ l) t → all_there u t 0 l ≡ true → get_or (rules u (t ∷ l)) (t - 21) false ≡ true → Typed (schema s) (tree_over (types s) V' sl es (t ∷ l)) (T (get_or l 0 0))
    unfolding Rule
    node_typed t lo hi = subst Rule (omega arith) (rule_for (t - 21) (omega arith))
