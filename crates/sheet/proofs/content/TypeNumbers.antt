-- "types are distinct": a type's number is found again by its content, and every type of a residual has a type line.
use mathlib.Core.Path.{◌≡◌, refl, sym, ◌∙◌, ap, ap₂, subst}
use mathlib.Core.Bool.{Bool, true, false, cond, ◌&&◌, ◌||◌}
use mathlib.Core.Option.{Option, none, some, some-injective}
use mathlib.Core.List.{List, [], ◌∷◌, ◌++◌, append_assoc}
use Prim.Native.Nat.{ℕ, zero, suc, ◌<◌, ◌≤◌, ◌+◌, ◌-◌, ◌%◌}
use native.Mathlib.Nat.{le_of_suc-le-suc}
use native.Mathlib.Omega.{arith}
use native.Mathlib.Decide.{dec_lt}
use borrow.Author.Tests.{ltb-true, le-ltb, not-true}
use lib.Dec.{ltb, eqb}
use lib.ListN.{length, get_or, drop, length-append, get_or-eq_default, get_or-append}
use Rattle.cedar.proofs.Tools.{no_true, no_some, eqb_true, neither, either, only_kind, all_snoc}
use Rattle.cedar.specs.Value.{Value, vbool}
use Rattle.cedar.specs.Canonical.{bit}
use Rattle.cedar.specs.Types.{Ty, tbool, tlong, tstr, tent, tset, trec, among as amongKinds, Attrs, anil, acons, declared, pick_ty, ty_same}
use Rattle.cedar.specs.Residual.{Node, err}
use Rattle.cedar.specs.Table.{At, now, later}
use Rattle.cedar.specs.Runs.{Policy, NPolicy, NVerdict}
use Rattle.cedar.proofs.TableLaws.{at_snoc}
use Rattle.cedar.proofs.TypingTest.{ty_same_true}
use Rattle.cedar.proofs.TypesKept.{TypesHold, AllHold, ArgsHold, reads_hold, Declares, Passes, types_kept}
use Rattle.cedar.proofs.Settled.{Policies, one_policy}
use Rattle.cedar.proofs.SettledByNumber.{Residuals, run_reads}
use Rattle.cedar.proofs.SettledByNumber as R
use Rattle.cedar.proofs.ReadsLaws.{at_is}
use Rattle.cedar.proofs.TypingTestComplete.{ty_same_refl}
use Rattle.sheet.specs.Bytes.{same, index}
use Rattle.sheet.specs.Forms.{Mode, partial, Slot, entry, line, line_or, line_unknown, word, number, nothing, is_line, forms, form_of, slot_at, counted, item, items_from, one, joined, place_in, tag, items, at, key_of, row_of, ascendings, TYPE, NODE, POLICY, no_key, no_tag, day, alone_row}
use Rattle.sheet.specs.State.{State, lines_of, count, line_at, Declared, TypeRow, bool, long, string, entity, set', record', declareds, type_row, type_at}
use Rattle.sheet.specs.Typing.{attributes_of, typed, on_entity}
use Rattle.sheet.specs.Sheet.{found, all_there, there_is, ascend, among, fresh, new_row, each_alone}
use Rattle.sheet.specs.Content.{ty_over, tys_from, types, contents, attrs_in, schema, children_over, args_over, tree_for, tree_over, trees_from, content_policies, numbered_policies, trees, exprs, n_policies, policies, n_env, p_env, on_term, linked}
use Rattle.sheet.specs.Answer.{type_number, run}
use Rattle.sheet.proofs.reading.Lines.{and_both, Was, History}
use Rattle.sheet.proofs.reading.Parsed.{parsed, all_below, all_below_law, between, tags_between, counted_plain, policy_tag}
use Rattle.sheet.proofs.reading.RowTests.{is_bool_law, all_at, same_is}
use Rattle.sheet.proofs.content.ValueRows.{at_get_d, some_is, same_refl, values_table}
use Rattle.sheet.proofs.content.Fitting.{at_less, AttrsAt, no_a, one_a, TyAt, abool, along, astr, aent, aset, arec, attr_slots, ty_row, set_size, Known, one_known, all_known, ty_eq}
use Rattle.sheet.proofs.reading.NodeRows.{row_read}
use Rattle.sheet.proofs.content.PoliciesRead.{item_there, node_tags, policy_tags, policies_typed}
use Rattle.sheet.proofs.content.Environment.{Facts, env_read}
use Rattle.sheet.proofs.content.EnvFit.{known_fits}
use Rattle.sheet.proofs.content.OwnPolicies.{read_own}
use Rattle.sheet.proofs.content.OnTerm as O
use Rattle.sheet.proofs.content.OnTerm.{Each, on_term_law}

-- ---- a type's row says what its line said

abbrev flat : List Declared → List ℕ
flat [] = []
flat (d ∷ ds) = d.text ∷ bit d.required ∷ d.type ∷ flat ds

abbrev back : TypeRow → List ℕ
back bool = 3 ∷ []
back long = 4 ∷ []
back string = 5 ∷ []
back (entity k ks) = 6 ∷ k ∷ ks
back (set' y) = 7 ∷ y ∷ []
back (record' ds) = 8 ∷ flat ds

text_slots : (i : ℕ) → slot_at 8 (i + i + i) ≡ line 1
unfolding slot_at form_of forms
text_slots i = let d : (i + i + i - 0) % 3 ≡ 0 = omega arith in
    ap₂ (λ b d. cond b nothing (get_or (line 1 ∷ word ("o" ∷ "r" ∷ []) ∷ line 3 ∷ []) d nothing)) (le-ltb (i + i + i) 0 (omega arith)) d

word_slots : (i : ℕ) → slot_at 8 (suc (i + i + i)) ≡ word ("o" ∷ "r" ∷ [])
unfolding slot_at form_of forms
word_slots i = let d : (suc (i + i + i) - 0) % 3 ≡ 1 = omega arith in
    ap₂ (λ b d. cond b nothing (get_or (line 1 ∷ word ("o" ∷ "r" ∷ []) ∷ line 3 ∷ []) d nothing)) (le-ltb (suc (i + i + i)) 0 (omega arith)) d

record_thirds : (n : ℕ) → counted 8 n ≡ true → n % 3 ≡ 0
unfolding counted form_of forms
record_thirds n e = go (eqb n 0) refl e
  where
    rest : (p : Bool) → (p && true && eqb ((n - 0) % 3) 0) ≡ true → n % 3 ≡ 0
    rest true h = let z = eqb_true ((n - 0) % 3) 0 h in omega (arith, z)
    rest false h = no_true h

    go : (x : Bool) → eqb n 0 ≡ x → (x || (ltb 0 n && true && eqb ((n - 0) % 3) 0)) ≡ true → n % 3 ≡ 0
    go true p h = let z = eqb_true n 0 p in omega (arith, z)
    go false p h = rest (ltb 0 n) h

module _ (m : Mode) where
  Back : ℕ → Type 0
  Back t = (fs : List (List ℕ)) (l : List ℕ) → counted t (length fs) ≡ true → items_from m t 0 fs ≡ some l → back (type_row (t ∷ l)) ≡ t ∷ l

  -- without items
  bare : (t : ℕ) → back (type_row (t ∷ [])) ≡ t ∷ [] → (form_of t).group ≡ [] → length (form_of t).items ≡ 0 → Back t
  unfolding Back counted
  bare t h g n [] l c e = subst (λ k. back (type_row (t ∷ k)) ≡ t ∷ k) (some_is e) h
  bare t h g n (f ∷ fs) l c e = let z = counted_plain (form_of t) (suc (length fs)) g c in absurd (omega (arith, z, n))

  back3 : Back 3
  unfolding form_of forms
  back3 = bare 3 refl refl refl

  back4 : Back 4
  unfolding form_of forms
  back4 = bare 4 refl refl refl

  back5 : Back 5
  unfolding form_of forms
  back5 = bare 5 refl refl refl

  one_back : (t : ℕ) (o : Option ℕ) (l : List ℕ) → ((x : ℕ) → back (type_row (t ∷ x ∷ [])) ≡ t ∷ x ∷ []) → joined (one o) (some []) ≡ some l → back (type_row (t ∷ l)) ≡ t ∷ l
  one_back t none l h e = no_some e
  one_back t (some x) l h e = subst (λ k. back (type_row (t ∷ k)) ≡ t ∷ k) (some_is e) (h x)

  back6 : Back 6
  unfolding Back counted slot_at form_of forms
  back6 [] l c e = no_true c
  back6 (f ∷ fs) l c e = kinds_back (index f) (items_from m 6 1 fs) l e
    where
      kinds_back : (o : Option ℕ) (p : Option (List ℕ)) (l : List ℕ) → joined (one o) p ≡ some l → back (type_row (6 ∷ l)) ≡ 6 ∷ l
      kinds_back none p l e = no_some e
      kinds_back (some x) none l e = no_some e
      kinds_back (some x) (some n) l e = subst (λ k. back (type_row (6 ∷ k)) ≡ 6 ∷ k) (some_is e) refl

  back7 : Back 7
  unfolding Back counted slot_at form_of forms
  back7 [] l c e = no_true c
  back7 (f ∷ []) l c e = one_back 7 (index f) l (λ x. refl) e
  back7 (f ∷ g ∷ fs) l c e = let z : suc (suc (length fs)) ≡ 1 = counted_plain (form_of 7) (suc (suc (length fs))) refl c in absurd (omega (arith, z))

  attr_back : (a b : Option ℕ) (p : ℕ) (o : Option (List ℕ)) (l : List ℕ) → ((n : List ℕ) → o ≡ some n → flat (declareds n) ≡ n)
      → joined (one a) (joined (one (cond (ltb p 2) (some p) none)) (joined (one b) o)) ≡ some l → flat (declareds l) ≡ l
  attr_back none b p o l ih e = no_some e
  attr_back (some x) none zero o l ih e = no_some e
  attr_back (some x) none (suc zero) o l ih e = no_some e
  attr_back (some x) (some y) zero none l ih e = no_some e
  attr_back (some x) (some y) (suc zero) none l ih e = no_some e
  attr_back (some x) (some y) zero (some n) l ih e = subst (λ k. flat (declareds k) ≡ k) (some_is e) (ap (λ k. x ∷ 0 ∷ y ∷ k) (ih n refl))
  attr_back (some x) (some y) (suc zero) (some n) l ih e = subst (λ k. flat (declareds k) ≡ k) (some_is e) (ap (λ k. x ∷ 1 ∷ y ∷ k) (ih n refl))
  attr_back (some x) b (suc (suc p)) o l ih e = no_some (sym (ap (λ c. joined (some (x ∷ [])) (joined (one (cond c (some (suc (suc p))) none)) (joined (one b) o))) (le-ltb (suc (suc p)) 2 (omega arith))) ∙ e)

  attrs_back : (i : ℕ) (fs : List (List ℕ)) (l : List ℕ) → length fs % 3 ≡ 0 → items_from m 8 (i + i + i) fs ≡ some l → flat (declareds l) ≡ l
  attrs_back i [] l c e = subst (λ k. flat (declareds k) ≡ k) (some_is e) refl
  attrs_back i (f ∷ []) l c e = absurd (omega (arith, c))
  attrs_back i (f ∷ g ∷ []) l c e = absurd (omega (arith, c))
  attrs_back i (f ∷ g ∷ h ∷ fs) l c e =
      attr_back (index f) (index h) (place_in g ("o" ∷ "r" ∷ [])) (items_from m 8 (suc (suc (suc (i + i + i)))) fs) l
      (λ n q. attrs_back (suc i) fs n (omega (arith, c)) (subst (λ j. items_from m 8 j fs ≡ some n) (omega arith) q))
      (sym (λ k. joined (item m (text_slots i k) f) (joined (item m (word_slots i k) g) (joined (item m (attr_slots i k) h) (items_from m 8 (suc (suc (suc (i + i + i)))) fs)))) ∙ e)

  back8 : Back 8
  unfolding Back
  back8 fs l c e = ap (λ k. 8 ∷ k) (attrs_back 0 fs l (record_thirds (length fs) c) e)

  back_for : (d : ℕ) → d ≤ 5 → Back (3 + d)
  back_for zero h = back3
  back_for (suc zero) h = back4
  back_for (suc (suc zero)) h = back5
  back_for (suc (suc (suc zero))) h = back6
  back_for (suc (suc (suc (suc zero)))) h = back7
  back_for (suc (suc (suc (suc (suc zero))))) h = back8
  back_for (suc (suc (suc (suc (suc (suc d)))))) h = absurd (omega arith)

  type_tags : all_below (between 3 3 8) no_tag ≡ true
  unfolding form_of forms
  type_tags = refl

  pub type_back : (l r : List ℕ) → r ≡ row_of m l → key_of r ≡ TYPE → back (type_row r) ≡ r
  unfolding Back key_of form_of forms
  type_back l r e k = parsed m r (λ q. let z : no_key ≡ 3 = sym (ap key_of q) ∙ k in absurd (omega (arith, z)))
      (λ v q. let z : 1 ≡ 3 = sym (ap key_of q) ∙ k in absurd (omega (arith, z)))
      (λ t fs l c i q. let (lo, hi) = tags_between 3 3 8 t (omega arith) type_tags (sym (ap key_of q) ∙ k) in
      subst (λ z. back (type_row z) ≡ z) (sym q) (subst Back (omega arith) (back_for (t - 3) (omega arith)) fs l c i))
      l e

-- ---- equal contents have equal rows, and so equal numbers

abbrev pub Distinct : List Ty → Type 0
Distinct ts = (m n : ℕ) (T : Ty) → At ts m T → At ts n T → m ≡ n

module _ (ts : List Ty) (apart : Distinct ts) where
  attrs_row : {ds es : List Declared} {R R' : Attrs} → AttrsAt ts ds R → AttrsAt ts es R' → R ≡ R' → ds ≡ es
  attrs_row no_a no_a e = refl
  attrs_row no_a (one_a a h) e = no_attr e
    where
      no_attr : {X : Type 0} {t : ℕ} {r : Bool} {A : Ty} {R : Attrs} → anil ≡ acons t r A R → X
      no_attr q = let z : ◌≡◌ {A = ℕ} 0 1 = cc in absurd (omega arith)
  attrs_row (one_a a h) no_a e = no_attr e
    where
      no_attr : {X : Type 0} {t : ℕ} {r : Bool} {A : Ty} {R : Attrs} → acons t r A R ≡ anil → X
      no_attr q = let z : ◌≡◌ {A = ℕ} 0 1 = cc in absurd (omega arith)
  attrs_row (one_a {d = c} {A = A} {R = R} a h) (one_a {d = d} {A = B} {R = S} b g) e =
      let p : c.text ≡ d.text = cc in
      let q : c.required ≡ d.required = cc in
      let r : A ≡ B = cc in
      let s : R ≡ S = cc in
      let y : c.type ≡ d.type = apart c.type d.type B (subst (At ts c.type) r a) b in
      ap₂ ◌∷◌ (λ i. record { text = p i; required = q i; type = y i }) (attrs_row h g s)

  type_row_law : {y z : TypeRow} {T : Ty} → TyAt ts y T → TyAt ts z T → y ≡ z
  type_row_law abool abool = refl
  type_row_law along along = refl
  type_row_law astr astr = refl
  type_row_law aent aent = refl
  type_row_law (aset a) (aset b) = ap set' (apart _ _ _ a b)
  type_row_law (arec h) (arec g) = ap record' (attrs_row h g refl)

module _ (m : Mode) (s : State) (h : History m s) where
  Faithful : List (List ℕ) → Type 0
  Faithful pre = (n : ℕ) → n < length pre → back (type_row (get_or pre n [])) ≡ get_or pre n []

  not_among : (r : List ℕ) (pre : List (List ℕ)) (n : ℕ) → n < length pre → get_or pre n [] ≡ r → among r pre ≡ false → ⊥
  not_among r [] n lt q e = absurd (omega arith)
  not_among r (x ∷ pre) zero lt q e = no_true (sym (neither (same r x) (among r pre) e).0 ∙ ap (same r) q ∙ same_refl r)
  not_among r (x ∷ pre) (suc n) lt q e = not_among r pre n (le_of_suc-le-suc lt) q (neither (same r x) (among r pre) e).1

  new_type : (pre : List (List ℕ)) (r : List ℕ) → Was m s TYPE pre r → among r pre ≡ false
  unfolding found
  new_type pre r w = and_both (all_there w.was (tag r) 0 (items r) && ascend 0 (ascendings r)) (fresh w.was TYPE r) w.pass.refers
      (λ p q. and_both (new_row w.was TYPE r) (on_entity true (type_row r) (each_alone (lines_of w.was TYPE))) q
      (λ a b. subst (λ z. among r z ≡ false) w.mine (not-true (among r (lines_of w.was TYPE)) a)))

  -- "Each kind so grouped needs a type line alone, earlier"
  kinds_alone : (pre : List (List ℕ)) (r : List ℕ) → Was m s TYPE pre r → on_entity true (type_row r) (each_alone pre) ≡ true
  unfolding found
  kinds_alone pre r w = and_both (all_there w.was (tag r) 0 (items r) && ascend 0 (ascendings r)) (fresh w.was TYPE r) w.pass.refers
      (λ p q. and_both (new_row w.was TYPE r) (on_entity true (type_row r) (each_alone (lines_of w.was TYPE))) q
      (λ a b. subst (λ z. on_entity true (type_row r) (each_alone z) ≡ true) w.mine b))

  -- one line more
  module _ (pre : List (List ℕ)) (r : List ℕ) (ts : List Ty) (w : Was m s TYPE pre r) (f : Faithful pre) (k : Known m s h pre ts) (apart : Distinct ts) where
    fresh_type : (n : ℕ) → At ts n (ty_over ts (type_row r)) → ⊥
    unfolding Known Faithful
    fresh_type n a =
        let lt : n < length pre = let z = at_less a in omega (arith, z, k.0) in
        let e : type_row (get_or pre n []) ≡ type_row r = type_row_law ts apart (k.1 n (ty_over ts (type_row r)) a) (ty_row w.was ts (k.0 ∙ ap length (sym w.mine)) r (set_size m r w.line w.row) w.pass.refers) in
        not_among r pre n lt (sym (f n lt) ∙ ap back e ∙ type_back m w.line r w.row w.key) (new_type pre r w)

    apart_more : Distinct (ts ++ (ty_over ts (type_row r) ∷ []))
    apart_more i j T a b =
        at_snoc ts a (λ c. at_snoc ts b (λ d. apart i j T c d) (λ q e. absurd (fresh_type i (subst (At ts i) e c))))
        (λ p e. at_snoc ts b (λ d. absurd (fresh_type j (subst (At ts j) e d))) (λ q g. p ∙ sym q))

    faithful_more : Faithful (pre ++ (r ∷ []))
    unfolding Faithful
    faithful_more n lt = go pre f n lt
      where
        go : (pre : List (List ℕ)) → ((n : ℕ) → n < length pre → back (type_row (get_or pre n [])) ≡ get_or pre n []) → (n : ℕ) → n < length (pre ++ (r ∷ [])) → back (type_row (get_or (pre ++ (r ∷ [])) n [])) ≡ get_or (pre ++ (r ∷ [])) n []
        go [] f zero lt = type_back m w.line r w.row w.key
        go [] f (suc n) lt = absurd (omega arith)
        go (x ∷ pre) f zero lt = f 0 (omega arith)
        go (x ∷ pre) f (suc n) lt = go pre (λ i l. f (suc i) (omega arith)) n (le_of_suc-le-suc lt)

  apart_from : (pre rest : List (List ℕ)) (ts : List Ty) → lines_of s TYPE ≡ pre ++ rest → Faithful pre → Known m s h pre ts → Distinct ts → Distinct (tys_from ts rest)
  apart_from pre [] ts e f k d = d
  apart_from pre (r ∷ rest) ts e f k d =
      let w = h TYPE pre r rest e in
      apart_from (pre ++ (r ∷ [])) rest (ts ++ (ty_over ts (type_row r) ∷ [])) (e ∙ sym (append_assoc pre (r ∷ []) rest)) (faithful_more pre r ts w f k d) (one_known m s h pre r ts w k) (apart_more pre r ts w f k d)

  -- DISTINCT CONTENTS
  pub types_distinct : Distinct (types s)
  unfolding types Faithful Known
  types_distinct = apart_from [] (lines_of s TYPE) [] refl (λ n lt. absurd (omega arith)) (refl, λ n T a. elim a [ ]) (λ i j T a b. elim a [ ])

-- item n of a list, with what stands before it and after it
pub split_at : {X : Type 0} (l : List (List ℕ)) (n : ℕ) → n < length l → ((pre rest : List (List ℕ)) → l ≡ pre ++ (get_or l n [] ∷ rest) → X) → X
split_at [] n lt f = absurd (omega arith)
split_at (x ∷ l) zero lt f = f [] l refl
split_at (x ∷ l) (suc n) lt f = split_at l n (le_of_suc-le-suc lt) (λ pre rest e. f (x ∷ pre) rest (ap (λ z. x ∷ z) e))

-- ---- the number of a type

pub number_at : (ts : List Ty) (T : Ty) {n : ℕ} → At ts n T → At ts (type_number ts T) T
number_at [] T {n = n} x' = elim x' [ ]
number_at (A ∷ ts) T now = subst (λ b. At (A ∷ ts) (cond b 0 (suc (type_number ts A))) A) (sym (ty_same_refl A)) now
number_at (A ∷ ts) T (later a) = go (ty_same A T) refl (number_at ts T a)
  where
    go : (b : Bool) → ty_same A T ≡ b → At ts (type_number ts T) T → At (A ∷ ts) (cond b 0 (suc (type_number ts T))) T
    go true e b = subst (λ B. At (A ∷ ts) 0 B) (ty_same_true A T e) now
    go false e b = later b

-- T has a type line, which `type_number` finds
pub record Listed (ts : List Ty) (T : Ty) : Type 0 where
  pub below : type_number ts T < length ts
  pub found : get_or ts (type_number ts T) tbool ≡ T

pub listed : {ts : List Ty} {T : Ty} {n : ℕ} → At ts n T → Listed ts T
listed {ts = ts} {T = T} a = let b = number_at ts T a in record { below = at_less b; found = at_is tbool b }

listed_at : {ts : List Ty} {T : Ty} → Listed ts T → At ts (type_number ts T) T
listed_at {ts = ts} {T = T} l = subst (At ts (type_number ts T)) l.found (at_get_d ts (type_number ts T) tbool l.below)

-- every type of a tree has a type line
abbrev pub TypesIn : {L : Type 0} → List Ty → Node L → Type 0
TypesIn ts e = TypesHold (Listed ts) e

module _ (m : Mode) (s : State) (h : History m s) where
  pub types_length : length (types s) ≡ count s TYPE
  unfolding Known
  types_length = (all_known m s h).0

  -- A TYPE'S NUMBER IS FOUND AGAIN BY ITS CONTENT
  pub number_again : (y : ℕ) → y < count s TYPE → type_number (types s) (get_or (types s) y tbool) ≡ y
  number_again y lt = let z = types_length in let a = at_get_d (types s) y tbool (omega (arith, z, lt)) in types_distinct m s h _ y _ (number_at (types s) _ a) a

  -- and its content by its number, for every type that a type line says
  pub content_again : (n : ℕ) (T : Ty) → At (types s) n T → get_or (types s) (type_number (types s) T) tbool ≡ T
  content_again n T a = (listed a).found

  -- ---- the attributes of a listed type are listed

  declared_at_law : {ts : List Ty} {ds : List Declared} {R : Attrs} (t : ℕ) (B : Ty) → AttrsAt ts ds R → declared t R ≡ some B → Listed ts B
  declared_at_law t B no_a e = no_some e
  declared_at_law {ts = ts} t B (one_a {d = d} {A = A} {R = R} a g) e = go (eqb t d.text) (λ q. declared_at_law t B g q) e
    where
      go : (b : Bool) → (declared t R ≡ some B → Listed ts B) → pick_ty b A (declared t R) ≡ some B → Listed ts B
      go true ih q = subst (Listed ts) (some-injective _ _ q) (listed a)
      go false ih q = ih q

  record_at : {n : ℕ} {R : Attrs} (t : ℕ) (B : Ty) → At (types s) n (trec R) → declared t R ≡ some B → Listed (types s) B
  unfolding Known
  record_at {n = n} {R = R} t B a e = go ((all_known m s h).1 n (trec R) a)
    where
      go : {y : TypeRow} → TyAt (types s) y (trec R) → Listed (types s) B
      go (arec g) = declared_at_law t B g e

  attrs_in_law : (T : Ty) {n : ℕ} (t : ℕ) (B : Ty) → At (types s) n T → declared t (attrs_in T) ≡ some B → Listed (types s) B
  attrs_in_law tbool t B a e = no_some e
  attrs_in_law tlong t B a e = no_some e
  attrs_in_law tstr t B a e = no_some e
  attrs_in_law (tent k ks) t B a e = no_some e
  attrs_in_law (tset A) t B a e = no_some e
  attrs_in_law (trec R) t B a e = record_at t B a e

  shape_at : (y t : ℕ) (B : Ty) → declared t (attrs_in (get_or (types s) y tbool)) ≡ some B → Listed (types s) B
  shape_at y t B e = go (dec_lt y (length (types s)))
    where
      go : Dec (y < length (types s)) → Listed (types s) B
      go (yes d) = attrs_in_law (get_or (types s) y tbool) t B (at_get_d (types s) y tbool d) e
      go (no d) = no_some (ap (λ T. declared t (attrs_in T)) (sym (get_or-eq_default (types s) tbool (omega arith))) ∙ e)

  -- a row that is among those before another is there, with its content
  among_at : (r : List ℕ) (pre : List (List ℕ)) → among r pre ≡ true → (n : ℕ) × (n < length pre) × (get_or pre n [] ≡ r)
  among_at r [] e = no_true e
  among_at r (x ∷ pre) e = either (same r x) (among r pre) e (λ p. (0, omega arith, sym (same_is r x p))) (λ p. let (n, lt, q) = among_at r pre p in (suc n, omega (arith, lt), q))

  row_listed : (r : List ℕ) (n : ℕ) → n < count s TYPE → line_at s TYPE n ≡ r → Listed (types s) (ty_over (types s) (type_row r))
  row_listed r n lt e = let z = types_length in subst (Listed (types s)) (ty_eq m s h n ∙ ap (λ x. ty_over (types s) (type_row x)) e) (listed (at_get_d (types s) n tbool (omega (arith, z, lt))))

  group_row : {ts : List Ty} {y : TypeRow} {l : ℕ} {ls : List ℕ} → TyAt ts y (tent l ls) → y ≡ entity l ls
  group_row aent = refl

  -- a kind of a group has a type line alone
  single_listed : (k l : ℕ) (ls : List ℕ) → Listed (types s) (tent l ls) → amongKinds k (l ∷ ls) ≡ true → Listed (types s) (tent k [])
  unfolding Known
  single_listed k l [] d m = subst (λ z. Listed (types s) (tent z [])) (sym (only_kind k l m)) d
  single_listed k l (n ∷ ns) d i = split_at (lines_of s TYPE) y there (λ pre rest e.
      let alone : among (alone_row k) pre ≡ true = all_at (λ j. among (alone_row j) pre) (l ∷ n ∷ ns) (ap (λ z. on_entity true z (each_alone pre)) (sym row) ∙ kinds_alone m s h pre (line_at s TYPE y) (h TYPE pre (line_at s TYPE y) rest e)) k i in
      let (x, lt, q) = among_at (alone_row k) pre alone in
      let long : length (lines_of s TYPE) ≡ length pre + suc (length rest) = ap length e ∙ length-append pre (line_at s TYPE y ∷ rest) in
      row_listed (alone_row k) x (omega (arith, lt, long)) (ap (λ z. get_or z x []) e ∙ get_or-append pre (line_at s TYPE y ∷ rest) [] x lt ∙ q))
    where
      y : ℕ
      y = type_number (types s) (tent l (n ∷ ns))

      there : y < count s TYPE
      there = let z = types_length in let b = d.below in omega (arith, z, b)

      row : type_row (line_at s TYPE y) ≡ entity l (n ∷ ns)
      row = group_row ((all_known m s h).1 y (tent l (n ∷ ns)) (listed_at d))

  -- "the attribute was declared with it"
  pub below_listed : Passes (schema s) (Listed (types s))
  unfolding schema
  below_listed = record { below = down; single = single_listed }
    where
      down : (A : Ty) (R : Attrs) → Listed (types s) A → Declares (schema s) A R → (t : ℕ) (B : Ty) → declared t R ≡ some B → Listed (types s) B
      down tbool R l e t B d = absurd e
      down tlong R l e t B d = absurd e
      down tstr R l e t B d = absurd e
      down (tent i is) R l e t B d = shape_at (attributes_of s e.0) t B (ap (declared t) e.2 ∙ d)
      down (tset A) R l e t B d = absurd e
      down (trec R') R l e t B d = record_at t B (listed_at l) (ap (declared t) e ∙ d)

-- ---- the sheet's own trees

module _ (Q : Ty → Type 0) (b : Q tbool) {L : Type 0} (ts : List Ty) (value : ℕ → L) (p q : ℕ) where
  module _ (ns : List (Node L)) (k : (n : ℕ) → TypesHold Q (get_or ns n (err tbool))) where
    all_hold : (l : List ℕ) → AllHold Q (children_over ts value ns l)
    all_hold [] = tt
    all_hold (n ∷ l) = (k n, all_hold l)

    args_hold : (l : List ℕ) → ArgsHold Q (args_over ts value ns l)
    args_hold [] = tt
    args_hold (t ∷ []) = tt
    args_hold (t ∷ n ∷ l) = (k n, args_hold l)

    tree_holds : (r : List ℕ) → Q (get_or ts (at r 0) tbool) → (d : ℕ) → TypesHold Q (get_or (tree_for ts value (linked value p q) ns r (get_or ts (at r 0) tbool) (λ j. get_or ns (at r j) (err tbool))) d (err tbool))
    tree_holds r o zero = o
    tree_holds r o (suc zero) = o
    tree_holds r o (suc (suc zero)) = o
    tree_holds r o (suc (suc (suc zero))) = (o, k (at r 1), k (at r 2))
    tree_holds r o (suc (suc (suc (suc zero)))) = (o, k (at r 1), k (at r 2))
    tree_holds r o (suc (suc (suc (suc (suc zero))))) = (o, k (at r 1), k (at r 2))
    tree_holds r o (suc (suc (suc (suc (suc (suc zero)))))) = (o, k (at r 1), k (at r 2))
    tree_holds r o (suc (suc (suc (suc (suc (suc (suc zero))))))) = (o, k (at r 1), k (at r 2))
    tree_holds r o (suc (suc (suc (suc (suc (suc (suc (suc zero)))))))) = (o, k (at r 1), k (at r 2))
    tree_holds r o (suc (suc (suc (suc (suc (suc (suc (suc (suc zero))))))))) = (o, k (at r 1), k (at r 2))
    tree_holds r o (suc (suc (suc (suc (suc (suc (suc (suc (suc (suc zero)))))))))) = (o, k (at r 1), k (at r 2))
    tree_holds r o (suc (suc (suc (suc (suc (suc (suc (suc (suc (suc (suc zero))))))))))) = (o, k (at r 1), k (at r 2))
    tree_holds r o (suc (suc (suc (suc (suc (suc (suc (suc (suc (suc (suc (suc zero)))))))))))) = (o, k (at r 1), k (at r 2))
    tree_holds r o (suc (suc (suc (suc (suc (suc (suc (suc (suc (suc (suc (suc (suc zero))))))))))))) = (o, k (at r 1), k (at r 2))
    tree_holds r o (suc (suc (suc (suc (suc (suc (suc (suc (suc (suc (suc (suc (suc (suc zero)))))))))))))) = (o, k (at r 1), k (at r 2))
    tree_holds r o (suc (suc (suc (suc (suc (suc (suc (suc (suc (suc (suc (suc (suc (suc (suc zero))))))))))))))) = (o, k (at r 1), k (at r 2))
    tree_holds r o (suc (suc (suc (suc (suc (suc (suc (suc (suc (suc (suc (suc (suc (suc (suc (suc zero)))))))))))))))) = (o, k (at r 1), k (at r 2))
    tree_holds r o (suc (suc (suc (suc (suc (suc (suc (suc (suc (suc (suc (suc (suc (suc (suc (suc (suc zero))))))))))))))))) = (o, k (at r 1), k (at r 2), k (at r 3))
    tree_holds r o (suc (suc (suc (suc (suc (suc (suc (suc (suc (suc (suc (suc (suc (suc (suc (suc (suc (suc zero)))))))))))))))))) = (o, k (at r 1))
    tree_holds r o (suc (suc (suc (suc (suc (suc (suc (suc (suc (suc (suc (suc (suc (suc (suc (suc (suc (suc (suc zero))))))))))))))))))) = (o, k (at r 1))
    tree_holds r o (suc (suc (suc (suc (suc (suc (suc (suc (suc (suc (suc (suc (suc (suc (suc (suc (suc (suc (suc (suc zero)))))))))))))))))))) = (o, k (at r 1))
    tree_holds r o (suc (suc (suc (suc (suc (suc (suc (suc (suc (suc (suc (suc (suc (suc (suc (suc (suc (suc (suc (suc (suc zero))))))))))))))))))))) = (o, k (at r 1))
    tree_holds r o (suc (suc (suc (suc (suc (suc (suc (suc (suc (suc (suc (suc (suc (suc (suc (suc (suc (suc (suc (suc (suc (suc zero)))))))))))))))))))))) = (o, k (at r 1))
    tree_holds r o (suc (suc (suc (suc (suc (suc (suc (suc (suc (suc (suc (suc (suc (suc (suc (suc (suc (suc (suc (suc (suc (suc (suc zero))))))))))))))))))))))) = (o, k (at r 1))
    tree_holds r o (suc (suc (suc (suc (suc (suc (suc (suc (suc (suc (suc (suc (suc (suc (suc (suc (suc (suc (suc (suc (suc (suc (suc (suc zero)))))))))))))))))))))))) = (o, k (at r 1))
    tree_holds r o (suc (suc (suc (suc (suc (suc (suc (suc (suc (suc (suc (suc (suc (suc (suc (suc (suc (suc (suc (suc (suc (suc (suc (suc (suc zero))))))))))))))))))))))))) = (o, k (at r 1))
    tree_holds r o (suc (suc (suc (suc (suc (suc (suc (suc (suc (suc (suc (suc (suc (suc (suc (suc (suc (suc (suc (suc (suc (suc (suc (suc (suc (suc zero)))))))))))))))))))))))))) = (o, all_hold (drop 1 (items r)))
    tree_holds r o (suc (suc (suc (suc (suc (suc (suc (suc (suc (suc (suc (suc (suc (suc (suc (suc (suc (suc (suc (suc (suc (suc (suc (suc (suc (suc (suc zero))))))))))))))))))))))))))) = (o, args_hold (drop 1 (items r)))
    tree_holds r o (suc (suc (suc (suc (suc (suc (suc (suc (suc (suc (suc (suc (suc (suc (suc (suc (suc (suc (suc (suc (suc (suc (suc (suc (suc (suc (suc (suc zero)))))))))))))))))))))))))))) = o
    tree_holds r o (suc (suc (suc (suc (suc (suc (suc (suc (suc (suc (suc (suc (suc (suc (suc (suc (suc (suc (suc (suc (suc (suc (suc (suc (suc (suc (suc (suc (suc d))))))))))))))))))))))))))))) = b

  pub hold_from : ((y : ℕ) → Q (get_or ts y tbool)) → (rows : List (List ℕ)) (ns : List (Node L)) → ((n : ℕ) → TypesHold Q (get_or ns n (err tbool))) → (n : ℕ) → TypesHold Q (get_or (trees_from ts value (linked value p q) ns rows) n (err tbool))
  hold_from o [] ns k = k
  hold_from o (r ∷ rows) ns k = hold_from o rows (ns ++ (tree_over ts value (linked value p q) ns r ∷ [])) (all_snoc (TypesHold Q) (err tbool) b ns (tree_over ts value (linked value p q) ns r) k (tree_holds ns k r (o (at r 0)) (tag r - 21)))

-- a node's first item is its type
type_first : ℕ → Bool
type_first t = ltb t 21 || ltb 49 t || (is_line 3 (slot_at t 0) && ltb 0 (length (form_of t).items))

types_first : all_below type_first no_tag ≡ true
unfolding type_first slot_at form_of forms
types_first = refl

pub is_line_law : (k : ℕ) (sl : Slot) → is_line k sl ≡ true → sl ≡ line k
is_line_law k entry e = no_true e
is_line_law k (line l) e = ap line (sym (eqb_true k l e))
is_line_law k (line_or b l) e = no_true e
is_line_law k (line_unknown l) e = no_true e
is_line_law k (word ws) e = no_true e
is_line_law k number e = no_true e
is_line_law k day e = no_true e
is_line_law k nothing e = no_true e

first_is : (t : ℕ) → 21 ≤ t → t ≤ 49 → (slot_at t 0 ≡ line 3) × (0 < length (form_of t).items)
unfolding type_first
first_is t lo hi = go (ltb t 21) (ltb 49 t) (le-ltb t 21 lo) (le-ltb 49 t hi) (all_below_law type_first no_tag t types_first (omega arith))
  where
    go : (a b : Bool) → a ≡ false → b ≡ false → (a || b || (is_line 3 (slot_at t 0) && ltb 0 (length (form_of t).items))) ≡ true → (slot_at t 0 ≡ line 3) × (0 < length (form_of t).items)
    go true b p q e = no_true (sym p)
    go false true p q e = no_true (sym q)
    go false false p q e = and_both (is_line 3 (slot_at t 0)) (ltb 0 (length (form_of t).items)) e (λ x y. (is_line_law 3 (slot_at t 0) x, ltb-true 0 (length (form_of t).items) y))

-- the trees of policies, and what is left of them
abbrev pub PoliciesIn : List Ty → List NPolicy → Type 0
PoliciesIn ts [] = Unit {0}
PoliciesIn ts (p ∷ ps) = TypesIn ts p.tree × PoliciesIn ts ps

abbrev pub LinesIn : List Ty → List NVerdict → Type 0
LinesIn ts [] = Unit {0}
LinesIn ts (l ∷ ls) = TypesIn ts l.root × LinesIn ts ls

abbrev ContentsIn : List Ty → List Policy → Type 0
ContentsIn ts [] = Unit {0}
ContentsIn ts (p ∷ ps) = TypesIn ts p.tree × ContentsIn ts ps

module _ (m : Mode) (s : State) (h : History m s) where
  node_type : (n : ℕ) → n < count s NODE → at (line_at s NODE n) 0 < count s TYPE
  unfolding key_of
  node_type n lt = split_at (lines_of s NODE) n lt (λ pre rest e.
      let r = line_at s NODE n in
      let w = h NODE pre (line_at s NODE n) rest e in
      let (lo, hi) = tags_between NODE 21 49 (tag r) (omega arith) node_tags w.key in
      let (sl, le) = first_is (tag r) lo hi in
      let rd = row_read m r w.line (tag r) w.row refl (omega (arith, lo)) (omega (arith, hi)) (λ z. absurd (omega (arith, z, lo))) in
      let there = item_there m s w.was NODE r (tag r) rd w.pass.refers 0 le in
      subst (λ l. at r 0 < length l) (w.earlier 3 (omega arith)) (ltb-true (at r 0) (count w.was 3) (sym (ap (λ z. there_is w.was z (at r 0)) sl) ∙ there)))

  -- where there is a policy there is the type of its node
  pub bool_listed : (pre : List (List ℕ)) (r : List ℕ) (rest : List (List ℕ)) → lines_of s POLICY ≡ pre ++ (r ∷ rest) → Listed (types s) tbool
  unfolding typed key_of slot_at form_of forms
  bool_listed pre r rest e =
      let w = h POLICY pre r rest e in
      let (lo, hi) = tags_between POLICY policy_tag policy_tag (tag r) (omega arith) policy_tags w.key in
      let q : tag r ≡ policy_tag = omega (arith, lo, hi) in
      let rd = row_read m r w.line policy_tag w.row q (omega arith) (omega arith) (λ z. absurd (omega (arith, z))) in
      let nodes : lines_of w.was NODE ≡ lines_of s NODE = w.earlier NODE (omega arith) in
      let lt = ltb-true (at r 2) (count w.was NODE) (item_there m s w.was POLICY r policy_tag rd w.pass.refers 2 (ltb-true 2 3 refl)) in
      let y = at (line_at s NODE (at r 2)) 0 in
      let there : y < count s TYPE = node_type (at r 2) (subst (λ l. at r 2 < length l) nodes lt) in
      let row : type_at s y ≡ bool = subst (λ l. type_row (get_or l y []) ≡ bool) (w.earlier 3 (omega arith)) (subst (λ l. type_at w.was (at (get_or l (at r 2) []) 0) ≡ bool) nodes (is_bool_law _ w.pass.types)) in
      let z = types_length m s h in
      listed (subst (At (types s) y) (ty_eq m s h y ∙ ap (ty_over (types s)) row) (at_get_d (types s) y tbool (omega (arith, z, there))))

  pub any_listed : Listed (types s) tbool → (y : ℕ) → Listed (types s) (get_or (types s) y tbool)
  any_listed b y = go (dec_lt y (length (types s)))
    where
      go : Dec (y < length (types s)) → Listed (types s) (get_or (types s) y tbool)
      go (yes d) = listed (at_get_d (types s) y tbool d)
      go (no d) = subst (Listed (types s)) (sym (get_or-eq_default (types s) tbool (omega arith))) b

  all_listed_law : Each (λ r. Listed (types s) tbool) (on_term s)
  all_listed_law = on_term_law (λ r. Listed (types s) tbool) s bool_listed

  policies_each : {rs : List (List ℕ)} → Each (λ r. Listed (types s) tbool) rs → PoliciesIn (types s) (numbered_policies (trees s) rs)
  unfolding trees
  policies_each O.none = tt
  policies_each (O.more {r = r} b bs) = (hold_from (Listed (types s)) b (types s) (λ n. n) (at r 3) (at r 4) (any_listed b) (lines_of s NODE) [] (λ n. b) (at r 2), policies_each bs)

  contents_each : {rs : List (List ℕ)} → Each (λ r. Listed (types s) tbool) rs → ContentsIn (types s) (content_policies (exprs s) rs)
  unfolding exprs
  contents_each O.none = tt
  contents_each (O.more {r = r} b bs) = (hold_from (Listed (types s)) b (types s) (λ n. get_or (contents s) n (vbool false)) (at r 3) (at r 4) (any_listed b) (lines_of s NODE) [] (λ n. b) (at r 2), contents_each bs)

  -- THE SHEET'S OWN TREES: each type of each policy's tree has a type line
  pub sheet_types : PoliciesIn (types s) (n_policies s)
  unfolding n_policies
  sheet_types = policies_each all_listed_law

module _ (s : State) (f : Facts partial s) where
  lines_in : {D : List Value} {ls : List NVerdict} {ps : List Policy} → Residuals (schema s) (n_env partial s) (p_env s) D ls ps → Policies (schema s) ps → ContentsIn (types s) ps → LinesIn (types s) ls
  lines_in R.none ty h = tt
  lines_in (R.more r rs) (one_policy ty tys) (h, hs) =
      (reads_hold (Listed (types s)) r (types_kept (schema s) (p_env s) (known_fits partial s f) (Listed (types s)) (below_listed partial s f.history) ty h), lines_in rs tys hs)

  -- THE RESIDUALS: each type of each residual has a type line, of what is left over of a path too
  pub residual_types : LinesIn (types s) (run partial s).lines
  unfolding run policies
  residual_types = lines_in (run_reads (schema s) (n_env partial s) (p_env s) (n_policies s) (values_table partial s f.history) (env_read s f) (read_own partial s f.history f.ends)).residuals
      (policies_typed partial s f.history f.ends) (contents_each partial s f.history (all_listed_law partial s f.history))
