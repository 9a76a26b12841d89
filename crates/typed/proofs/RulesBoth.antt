-- The rule of each operation over numbers is cedar's test over contents, of a node whose children are errors of their types.
use mathlib.Core.Path.{◌≡◌, refl, sym, ◌∙◌, ap, subst}
use mathlib.Core.Bool.{Bool, true, false, cond, ◌&&◌, ◌||◌}
use mathlib.Core.Option.{none, some}
use mathlib.Core.List.{List, [], ◌∷◌}
use Prim.Native.Nat.{ℕ, zero, suc, ◌<◌, ◌≤◌}
use native.Mathlib.Omega.{arith}
use borrow.Author.Tests.{ltb-true, ne_eqb}
use lib.Dec.{ltb, eqb}
use Rattle.cedar.proofs.Tools.{eqb_true, iff}
use Rattle.cedar.proofs.TypingTest.{ty_same_true}
use Rattle.cedar.proofs.TypingTestComplete.{ty_same_refl}
use Rattle.cedar.specs.Value.{on_some}
use Rattle.cedar.specs.Types.{Ty, tbool, tlong, tstr, tent, tset, declared, each_kind, ty_same}
use Rattle.cedar.specs.Residual.{lit, err, var, and, or, ite, un, bin, rel, get, has, haspath, Item, unot, uneg, uempty, uis, ulike, beq, blt, ble, badd, bsub, bmul, bcontains, ball, bany, rin, rgettag, rhastag}
use Rattle.cedar.specs.TypingTest.{on_ent_ty, on_set_ty, three, each, path_ok, check}
use Rattle.sheet.specs.Bytes.{same}
use Rattle.sheet.specs.Forms.{Mode, at, mark, TYPE, KIND, SHAPE, PRINCIPAL, ACTION, RESOURCE, CONTEXT}
use Rattle.sheet.specs.State.{State, count, line_at, TypeRow, bool, long, string, entity, set', record', type_at}
use Rattle.sheet.specs.Typing.{on_entity, on_set_of, is_bool, is_long, is_string, declared_in, all_in, fits, tags_of, each_of, is_target, path_typed, var_typed}
use Rattle.sheet.specs.Content.{types, content_of, ty_over, schema, var_of}
use Rattle.sheet.proofs.reading.RowTests.{same_is}
use Rattle.sheet.proofs.content.ValueRows.{same_refl}
use Rattle.sheet.proofs.reading.Limits.{most_lines}
use Rattle.sheet.proofs.reading.Shallow.{Part, elem, attr}
use Rattle.sheet.proofs.reading.Depths.{Reached, reached_history}
use Rattle.typed.specs.ByContent.{type_in}
use Rattle.typed.proofs.FitsBoth.{fits_both, and_one}
use Rattle.typed.proofs.TypesBoth.{type_eq, bool_both, long_both, string_both, entity_both, set_both, number_both, part_there}
use Rattle.typed.proofs.ShapesBoth.{shape_there, each_kind_law, each_both, declared_both, path_both}

-- ---- conjunctions in the order of the one and of the other

last_first : (a b c : Bool) → ((a && b) && c) ≡ (((b && c) && a) && (true && true))
last_first true true true = refl
last_first true true false = refl
last_first true false c = refl
last_first false true true = refl
last_first false true false = refl
last_first false false c = refl

two_first : (a b : Bool) → (a && b) ≡ ((b && a) && (true && true))
two_first true true = refl
two_first true false = refl
two_first false true = refl
two_first false false = refl

one_first : (a b : Bool) → (a && b) ≡ ((b && a) && true)
one_first true true = refl
one_first true false = refl
one_first false true = refl
one_first false false = refl

test_last : (a b c : Bool) → ((a && b) && c) ≡ ((((b && c) && a) && (true && true)) && true)
test_last true true true = refl
test_last true true false = refl
test_last true false c = refl
test_last false true true = refl
test_last false true false = refl
test_last false false c = refl

group_and : (a b c : Bool) → ((a && b) && c) ≡ (a && (b && c))
group_and true b c = refl
group_and false b c = refl

-- ---- rows

module _ (ts : List Ty) where
  -- the kinds of an entity type, and one kind alone
  alone_row_law : (row : TypeRow) (k : ℕ) → on_entity false row (λ ks. same ks (k ∷ [])) ≡ ty_same (tent k []) (ty_over ts row)
  alone_row_law bool k = refl
  alone_row_law long k = refl
  alone_row_law string k = refl
  alone_row_law (entity l ls) k = iff (same (l ∷ ls) (k ∷ [])) (ty_same (tent k []) (tent l ls))
      (λ e. subst (λ z. ty_same (tent k []) (kinds_ty z) ≡ true) (sym (same_is (l ∷ ls) (k ∷ []) e)) (ty_same_refl (tent k [])))
      (λ e. subst (λ z. same z (k ∷ []) ≡ true) (ap kinds_in (ty_same_true (tent k []) (tent l ls) e)) (same_refl (k ∷ [])))
    where
      kinds_ty : List ℕ → Ty
      kinds_ty [] = tbool
      kinds_ty (l ∷ ls) = tent l ls

      kinds_in : Ty → List ℕ
      kinds_in A = on_ent_ty [] A (λ ks. ks)
  alone_row_law (set' y) k = refl
  alone_row_law (record' ds) k = refl

  -- an entity type, and a test of another type
  with_row : (row : TypeRow) (b : Bool) → (on_entity false row (λ ks. true) && b) ≡ on_ent_ty false (ty_over ts row) (λ ks. b)
  with_row bool b = refl
  with_row long b = refl
  with_row string b = refl
  with_row (entity l ls) b = refl
  with_row (set' y) b = refl
  with_row (record' ds) b = refl

-- ---- in every state reached where every kind has a shape

module _ {m : Mode} {s : State} (h : Reached m s) where
  -- the numbers the other way round
  number_turned : (p q : ℕ) → p < count s TYPE → q < count s TYPE → eqb p q ≡ ty_same (type_in s q) (type_in s p)
  number_turned p q a b = number_both h p q a b ∙ iff (ty_same (type_in s p) (type_in s q)) (ty_same (type_in s q) (type_in s p)) (turn (type_in s p) (type_in s q)) (turn (type_in s q) (type_in s p))
    where
      turn : (A B : Ty) → ty_same A B ≡ true → ty_same B A ≡ true
      turn A B e = subst (λ Z. ty_same B Z ≡ true) (sym (ty_same_true A B e)) (ty_same_refl B)

  pub is_entity : (y : ℕ) → on_entity false (type_at s y) (λ ks. true) ≡ on_ent_ty false (type_in s y) (λ ks. true)
  is_entity y = entity_both h y false false (λ ks. true) (λ ks. true) refl (λ k ks e. refl)

  is_set : (y : ℕ) → on_set_of false (type_at s y) (λ e. true) ≡ on_set_ty false (type_in s y) (λ E. true)
  is_set y = set_both h y (λ e. true) (λ E. true) (λ z e. refl)

  entity_with : (y : ℕ) (b : Bool) → (on_entity false (type_at s y) (λ ks. true) && b) ≡ on_ent_ty false (type_in s y) (λ ks. b)
  entity_with y b = with_row (types s) (type_at s y) b ∙ ap (λ A. on_ent_ty false A (λ ks. b)) (sym (type_eq h y))

  -- ---- leaves

  pub rule_lit : (y v : ℕ) → fits s v y ≡ check (schema s) (lit (type_in s y) (content_of s v))
  rule_lit y v = fits_both h v y

  alone_both : (y k : ℕ) → on_entity false (type_at s y) (λ ks. same ks (k ∷ [])) ≡ ty_same (tent k []) (type_in s y)
  alone_both y k = alone_row_law (types s) (type_at s y) k ∙ ap (ty_same (tent k [])) (sym (type_eq h y))

  pub rule_var : (y x : ℕ) → y < count s TYPE → at (line_at s CONTEXT 0) 0 < count s TYPE → var_typed s y x ≡ check (schema s) (var (type_in s y) (var_of x))
  unfolding schema
  rule_var y zero a b = alone_both y (at (line_at s PRINCIPAL 0) 0)
  rule_var y (suc zero) a b = alone_both y (at (line_at s ACTION 0) 0)
  rule_var y (suc (suc zero)) a b = alone_both y (at (line_at s RESOURCE 0) 0)
  rule_var y (suc (suc (suc zero))) a b = number_turned y (at (line_at s CONTEXT 0) 0) a b
  rule_var y (suc (suc (suc (suc x)))) a b = number_turned y (at (line_at s CONTEXT 0) 0) a b

  -- ---- two operands of types p and q, and the result of type y

  module _ (y p q : ℕ) where
    three_bools : (is_bool (type_at s y) && is_bool (type_at s p) && is_bool (type_at s q)) ≡ (three (schema s) (type_in s p) (type_in s q) (type_in s y) tbool tbool tbool && (true && true))
    three_bools = (λ i. (bool_both h y i && bool_both h p i) && bool_both h q i) ∙ last_first (ty_same (type_in s y) tbool) (ty_same (type_in s p) tbool) (ty_same (type_in s q) tbool)

    pub rule_and : (is_bool (type_at s y) && is_bool (type_at s p) && is_bool (type_at s q)) ≡ check (schema s) (and (type_in s y) (err (type_in s p)) (err (type_in s q)))
    rule_and = three_bools

    pub rule_or : (is_bool (type_at s y) && is_bool (type_at s p) && is_bool (type_at s q)) ≡ check (schema s) (or (type_in s y) (err (type_in s p)) (err (type_in s q)))
    rule_or = three_bools

    compared : (is_bool (type_at s y) && is_long (type_at s p) && is_long (type_at s q)) ≡ (three (schema s) (type_in s p) (type_in s q) (type_in s y) tlong tlong tbool && (true && true))
    compared = (λ i. (bool_both h y i && long_both h p i) && long_both h q i) ∙ last_first (ty_same (type_in s y) tbool) (ty_same (type_in s p) tlong) (ty_same (type_in s q) tlong)

    pub rule_lt : (is_bool (type_at s y) && is_long (type_at s p) && is_long (type_at s q)) ≡ check (schema s) (bin (type_in s y) blt (err (type_in s p)) (err (type_in s q)))
    rule_lt = compared

    pub rule_le : (is_bool (type_at s y) && is_long (type_at s p) && is_long (type_at s q)) ≡ check (schema s) (bin (type_in s y) ble (err (type_in s p)) (err (type_in s q)))
    rule_le = compared

    arithmetic : (is_long (type_at s y) && is_long (type_at s p) && is_long (type_at s q)) ≡ (three (schema s) (type_in s p) (type_in s q) (type_in s y) tlong tlong tlong && (true && true))
    arithmetic = (λ i. (long_both h y i && long_both h p i) && long_both h q i) ∙ last_first (ty_same (type_in s y) tlong) (ty_same (type_in s p) tlong) (ty_same (type_in s q) tlong)

    pub rule_add : (is_long (type_at s y) && is_long (type_at s p) && is_long (type_at s q)) ≡ check (schema s) (bin (type_in s y) badd (err (type_in s p)) (err (type_in s q)))
    rule_add = arithmetic

    pub rule_sub : (is_long (type_at s y) && is_long (type_at s p) && is_long (type_at s q)) ≡ check (schema s) (bin (type_in s y) bsub (err (type_in s p)) (err (type_in s q)))
    rule_sub = arithmetic

    pub rule_mul : (is_long (type_at s y) && is_long (type_at s p) && is_long (type_at s q)) ≡ check (schema s) (bin (type_in s y) bmul (err (type_in s p)) (err (type_in s q)))
    rule_mul = arithmetic

    pub rule_eq : p < count s TYPE → q < count s TYPE → (is_bool (type_at s y) && (eqb p q || (on_entity false (type_at s p) (λ k. true) && on_entity false (type_at s q) (λ k. true)))) ≡ check (schema s) (bin (type_in s y) beq (err (type_in s p)) (err (type_in s q)))
    rule_eq a b =
        (λ i. bool_both h y i && (number_both h p q a b i || (entity_with p (on_entity false (type_at s q) (λ k. true)) i)))
        ∙ (λ i. ty_same (type_in s y) tbool && (ty_same (type_in s p) (type_in s q) || on_ent_ty false (type_in s p) (λ k. is_entity q i)))
        ∙ two_first (ty_same (type_in s y) tbool) (ty_same (type_in s p) (type_in s q) || on_ent_ty false (type_in s p) (λ k. on_ent_ty false (type_in s q) (λ l. true)))

    target_both : is_target s q ≡ on_ent_ty (on_set_ty false (type_in s q) (λ E. on_ent_ty false E (λ l. true))) (type_in s q) (λ l. true)
    target_both = entity_both h q (on_set_of false (type_at s q) (λ e. on_entity false (type_at s e) (λ ks. true))) (on_set_ty false (type_in s q) (λ E. on_ent_ty false E (λ l. true))) (λ ks. true) (λ l. true)
        (set_both h q (λ e. on_entity false (type_at s e) (λ ks. true)) (λ E. on_ent_ty false E (λ l. true)) (λ z e. is_entity z)) (λ k ks e. refl)

    pub rule_in : (is_bool (type_at s y) && on_entity false (type_at s p) (λ k. true) && is_target s q) ≡ check (schema s) (rel (type_in s y) rin (err (type_in s p)) (err (type_in s q)))
    rule_in =
        group_and (is_bool (type_at s y)) (on_entity false (type_at s p) (λ k. true)) (is_target s q)
        ∙ (λ i. bool_both h y i && entity_with p (target_both i) i)
        ∙ two_first (ty_same (type_in s y) tbool) (on_ent_ty false (type_in s p) (λ k. on_ent_ty (on_set_ty false (type_in s q) (λ E. on_ent_ty false E (λ l. true))) (type_in s q) (λ l. true)))

    pub rule_hastag : (is_bool (type_at s y) && on_entity false (type_at s p) (λ k. true) && is_string (type_at s q)) ≡ check (schema s) (rel (type_in s y) rhastag (err (type_in s p)) (err (type_in s q)))
    rule_hastag = (λ i. (bool_both h y i && is_entity p i) && string_both h q i) ∙ last_first (ty_same (type_in s y) tbool) (on_ent_ty false (type_in s p) (λ k. true)) (ty_same (type_in s q) tstr)

    contains_both : q < count s TYPE → on_set_of false (type_at s p) (λ e. eqb e q) ≡ ty_same (type_in s p) (tset (type_in s q))
    contains_both b = go (type_at s p) refl ∙ ap (λ A. ty_same A (tset (type_in s q))) (sym (type_eq h p))
      where
        go : (row : TypeRow) → type_at s p ≡ row → on_set_of false row (λ e. eqb e q) ≡ ty_same (ty_over (types s) row) (tset (type_in s q))
        go bool r = refl
        go long r = refl
        go string r = refl
        go (entity k ks) r = refl
        go (set' e) r = number_both h e q (part_there h p e (subst (λ z. Part z e) (sym r) elem)) b
        go (record' ds) r = refl

    pub rule_contains : q < count s TYPE → (is_bool (type_at s y) && on_set_of false (type_at s p) (λ e. eqb e q)) ≡ check (schema s) (bin (type_in s y) bcontains (err (type_in s p)) (err (type_in s q)))
    rule_contains b = (λ i. bool_both h y i && contains_both b i) ∙ two_first (ty_same (type_in s y) tbool) (ty_same (type_in s p) (tset (type_in s q)))

    sets_both : p < count s TYPE → q < count s TYPE → (on_set_of false (type_at s p) (λ e. true) && eqb p q) ≡ on_set_ty false (type_in s p) (λ E. ty_same (type_in s q) (tset E))
    sets_both a b = go (type_at s p) refl ∙ ap (λ A. on_set_ty false A (λ E. ty_same (type_in s q) (tset E))) (sym (type_eq h p))
      where
        go : (row : TypeRow) → type_at s p ≡ row → (on_set_of false row (λ e. true) && eqb p q) ≡ on_set_ty false (ty_over (types s) row) (λ E. ty_same (type_in s q) (tset E))
        go bool r = refl
        go long r = refl
        go string r = refl
        go (entity k ks) r = refl
        go (set' e) r = number_turned p q a b ∙ ap (ty_same (type_in s q)) (type_eq h p ∙ ap (ty_over (types s)) r)
        go (record' ds) r = refl

    two_sets : p < count s TYPE → q < count s TYPE → (is_bool (type_at s y) && on_set_of false (type_at s p) (λ e. true) && eqb p q) ≡ ((on_set_ty false (type_in s p) (λ E. ty_same (type_in s q) (tset E)) && ty_same (type_in s y) tbool) && (true && true))
    two_sets a b =
        group_and (is_bool (type_at s y)) (on_set_of false (type_at s p) (λ e. true)) (eqb p q)
        ∙ (λ i. bool_both h y i && sets_both a b i)
        ∙ two_first (ty_same (type_in s y) tbool) (on_set_ty false (type_in s p) (λ E. ty_same (type_in s q) (tset E)))

    pub rule_all : p < count s TYPE → q < count s TYPE → (is_bool (type_at s y) && on_set_of false (type_at s p) (λ e. true) && eqb p q) ≡ check (schema s) (bin (type_in s y) ball (err (type_in s p)) (err (type_in s q)))
    rule_all a b = two_sets a b

    pub rule_any : p < count s TYPE → q < count s TYPE → (is_bool (type_at s y) && on_set_of false (type_at s p) (λ e. true) && eqb p q) ≡ check (schema s) (bin (type_in s y) bany (err (type_in s p)) (err (type_in s q)))
    rule_any a b = two_sets a b

    pub rule_if : (c : ℕ) → y < count s TYPE → p < count s TYPE → q < count s TYPE → (is_bool (type_at s c) && eqb p y && eqb q y) ≡ check (schema s) (ite (type_in s y) (err (type_in s c)) (err (type_in s p)) (err (type_in s q)))
    rule_if c t a b = (λ i. (bool_both h c i && number_both h p y a t i) && number_both h q y b t i) ∙ test_last (ty_same (type_in s c) tbool) (ty_same (type_in s p) (type_in s y)) (ty_same (type_in s q) (type_in s y))

  -- ---- one operand of type p

  module _ (y p : ℕ) where
    pub rule_not : (is_bool (type_at s y) && is_bool (type_at s p)) ≡ check (schema s) (un (type_in s y) unot (err (type_in s p)))
    rule_not = (λ i. bool_both h y i && bool_both h p i) ∙ one_first (ty_same (type_in s y) tbool) (ty_same (type_in s p) tbool)

    pub rule_neg : (is_long (type_at s y) && is_long (type_at s p)) ≡ check (schema s) (un (type_in s y) uneg (err (type_in s p)))
    rule_neg = (λ i. long_both h y i && long_both h p i) ∙ one_first (ty_same (type_in s y) tlong) (ty_same (type_in s p) tlong)

    pub rule_empty : (is_bool (type_at s y) && on_set_of false (type_at s p) (λ e. true)) ≡ check (schema s) (un (type_in s y) uempty (err (type_in s p)))
    rule_empty = (λ i. bool_both h y i && is_set p i) ∙ one_first (ty_same (type_in s y) tbool) (on_set_ty false (type_in s p) (λ E. true))

    pub rule_is : (k : ℕ) → (is_bool (type_at s y) && on_entity false (type_at s p) (λ k. true)) ≡ check (schema s) (un (type_in s y) (uis k) (err (type_in s p)))
    rule_is k = (λ i. bool_both h y i && is_entity p i) ∙ one_first (ty_same (type_in s y) tbool) (on_ent_ty false (type_in s p) (λ l. true))

    pub rule_like : (l : List Item) → (is_bool (type_at s y) && is_string (type_at s p)) ≡ check (schema s) (un (type_in s y) (ulike l) (err (type_in s p)))
    rule_like l = (λ i. bool_both h y i && string_both h p i) ∙ one_first (ty_same (type_in s y) tbool) (ty_same (type_in s p) tstr)

  -- ---- attributes and tags, where every kind has a shape

  module _ (full : count s KIND ≤ count s SHAPE) (y p : ℕ) where
    -- a declared tag type, or a mark, against type y
    tag_both : (k : ℕ) → y < count s TYPE → k < count s SHAPE → eqb (tags_of s k) y ≡ on_some false ((schema s).shape k).tags (λ E. ty_same E (type_in s y))
    unfolding schema
    tag_both k a lt = go (eqb (tags_of s k) mark) refl (shape_there h k lt)
      where
        go : (b : Bool) → eqb (tags_of s k) mark ≡ b → (b || ltb (tags_of s k) (count s TYPE)) ≡ true → eqb (tags_of s k) y ≡ on_some false (cond b none (some (type_in s (tags_of s k)))) (λ E. ty_same E (type_in s y))
        go true e i = let z = eqb_true (tags_of s k) mark e in let most = (most_lines m s (reached_history h)).types in ne_eqb (tags_of s k) y (λ w. absurd (omega (arith, z, w, a, most)))
        go false e i = number_both h (tags_of s k) y (ltb-true (tags_of s k) (count s TYPE) i) a

    pub rule_gettag : (q : ℕ) → y < count s TYPE → (is_string (type_at s q) && on_entity false (type_at s p) (all_in (λ k. eqb (tags_of s k) y))) ≡ check (schema s) (rel (type_in s y) rgettag (err (type_in s p)) (err (type_in s q)))
    rule_gettag q a =
        (λ i. string_both h q i && each_kind_law h full p (λ k. eqb (tags_of s k) y) (λ k. on_some false ((schema s).shape k).tags (λ E. ty_same E (type_in s y))) (λ k lt. tag_both k a lt) i)
        ∙ two_first (ty_same (type_in s q) tstr) (on_ent_ty false (type_in s p) (each_kind (λ k. on_some false ((schema s).shape k).tags (λ E. ty_same E (type_in s y)))))

    pub rule_get : (t : ℕ) → y < count s TYPE → each_of s p (λ ds. on_some false (declared_in t ds) (eqb y)) ≡ check (schema s) (get (type_in s y) (err (type_in s p)) t)
    rule_get t a =
        each_both h full p (λ ds. on_some false (declared_in t ds) (eqb y)) (λ R. on_some false (declared t R) (λ A. ty_same A (type_in s y)))
        (λ z ds e. declared_both h full false t ds (eqb y) (λ A. ty_same A (type_in s y)) (λ x d. number_turned y x a (part_there h z x (subst (λ w. Part w x) (sym e) (attr t d)))))
        ∙ and_one (each (schema s) (type_in s p) (λ R. on_some false (declared t R) (λ A. ty_same A (type_in s y))))

    pub rule_has : (t : ℕ) → (is_bool (type_at s y) && each_of s p (λ ds. true)) ≡ check (schema s) (has (type_in s y) (err (type_in s p)) t)
    rule_has t = (λ i. bool_both h y i && each_both h full p (λ ds. true) (λ R. true) (λ z ds e. refl) i) ∙ one_first (ty_same (type_in s y) tbool) (each (schema s) (type_in s p) (λ R. true))

    pub rule_path : (t : ℕ) (us : List ℕ) → (is_bool (type_at s y) && path_typed s us t p) ≡ check (schema s) (haspath (type_in s y) (err (type_in s p)) t us)
    rule_path t us = (λ i. bool_both h y i && path_both h full us t p i) ∙ one_first (ty_same (type_in s y) tbool) (path_ok (schema s) us t (type_in s p))
