-- DOCUMENT 02, 2.14: THE SHEET WITH TWO TEXTS FILLED IN, FROM BYTES: it is accepted where the sheet is, and has its state with these texts set.
use mathlib.Core.Path.{◌≡◌, refl, sym, ◌∙◌, ap, ap₂, subst}
use mathlib.Core.Bool.{Bool, true, false, cond, not, ◌&&◌}
use mathlib.Core.Option.{Option, none, some, some-injective}
use mathlib.Core.List.{List, [], ◌∷◌, ◌++◌}
use Prim.Native.Nat.{ℕ, zero, suc, ◌<◌, ◌≤◌}
use Prim.Native.String.{String}
use native.Mathlib.Omega.{arith}
use native.Mathlib.Decide.{dec_lt}
use borrow.Author.Tests.{eq-eqb, ne_eqb, lt-ltb, ltb-true}
use lib.Dec.{leb, ltb, eqb}
use lib.ListN.{length, get_or, take, drop, get_or-eq_default}
use Rattle.cedar.proofs.Tools.{no_some, no_true, eqb_true, and_both, both}
use Rattle.sheet.specs.Ascii.{ascii}
use Rattle.sheet.specs.Bytes.{up_to, split, ahead, same, printable, decimal, index, digits, commas, starts}
use Rattle.sheet.specs.Forms.{partial, Form, no_form, keys, forms, form_of, slot_at, counted, tag_of, form_in, place_in, one, joined, mark_or, mark, items_from, or_empty, row_for, row_headed, heading, row_of_value, row_of, key_of, TEXT, PRINCIPAL, RESOURCE, no_key, no_tag}
use Rattle.previewed.specs.Preview.{join_lines, key_in, items_in}
use Rattle.sheet.specs.State.{State, empty, count}
use Rattle.sheet.specs.Sheet.{read, reading}
use Rattle.sheet.specs.Call.{Accepted}
use Rattle.sheet.proofs.reading.Limits.{most_lines}
use Rattle.sheet.proofs.reading.Checked.{accepted_read}
use Rattle.sheet.proofs.demand3.Demand3Bytes.{facts}
use Rattle.previewed.proofs.PreviewLines.{all_lack, ahead_lacks, NotNone, split_join, split_some, split_lacks}
use Rattle.staff.specs.Firm.{text_fits, ask_fits, decision_on, row_decision, Asked, filled_items, filled_line, filled_lines, filled_sheet, set_text, with_texts}
use Rattle.sheet.proofs.reading.Lines.{not_empty}
use Rattle.sheet.proofs.demand3.TwoSheets.{same_is}
use Rattle.sheet.proofs.reading.NodeRows.{index_small}
use Rattle.sheet.proofs.reading.Parsed.{counted_plain}
use Rattle.sheet.proofs.content.ValueRows.{same_refl}
use Rattle.sheet.proofs.answer.DigitsBack.{plain_byte, plain_bytes, index_back}
use Rattle.sheet.proofs.answer.RowsBack.{small_plain}
use Rattle.sheet.proofs.answer.LinesBack.{lacks, lacks_append, no_end, all_plain, unended, items_back, items_show}
use Rattle.previewed.proofs.PreviewRows.{tag_for, shown, row_of_key, joined_some}
use Rattle.staff.proofs.FirmState.{FilledRow, kept, principal, resource, principal_tag, resource_tag}
use Rattle.staff.proofs.FirmRead.{FilledLine, FilledAll, more_lines, reading_with}
use Rattle.staff.proofs.FirmRead as R

-- ---- parts between commas are plain

ahead_plain : (x : ℕ) (ps : List (List ℕ)) → plain_byte x ≡ true → all_plain ps ≡ true → all_plain (ahead x ps) ≡ true
ahead_plain x [] e h = rw e refl
ahead_plain x (p ∷ ps) e h = rw e h

split_plain : (l : List ℕ) → printable l ≡ true → all_plain (split 44 l) ≡ true
split_plain [] e = refl
split_plain (x ∷ l) e = and_both (leb 32 x && leb x 126) (printable l) e (λ p q. go (eqb x 44) refl p (split_plain l q))
  where
    go : (b : Bool) → eqb x 44 ≡ b → (leb 32 x && leb x 126) ≡ true → all_plain (split 44 l) ≡ true → all_plain (cond b ([] ∷ split 44 l) (ahead x (split 44 l))) ≡ true
    go true f p h = h
    go false f p h = ahead_plain x (split 44 l) (rw (p, f) refl) h

show_drop : (n : ℕ) (l : List ℕ) → printable l ≡ true → printable (drop n l) ≡ true
show_drop zero l e = e
show_drop (suc n) [] e = e
show_drop (suc n) (x ∷ l) e = and_both (leb 32 x && leb x 126) (printable l) e (λ p q. show_drop n l q)

filled_plain : (t : ℕ) (fs : List (List ℕ)) → t ≤ 9999 → all_plain fs ≡ true → all_plain (filled_items t fs) ≡ true
filled_plain t [] h e = refl
filled_plain t (f ∷ fs) h e = and_both (plain_bytes f) (all_plain fs) e (λ p q. both (go (same f (ascii "?")) p) (filled_plain t fs h q))
  where
    go : (b : Bool) → plain_bytes f ≡ true → plain_bytes (cond b (digits t) f) ≡ true
    go true p = small_plain t h
    go false p = p

-- ---- the line of principal, and of resource

principal_line : (f : List ℕ) (fs : List (List ℕ)) → all_plain (f ∷ fs) ≡ true → row_of partial (unended "principal" (f ∷ fs)) ≡ row_for partial (tag_for PRINCIPAL) (f ∷ fs)
unfolding row_of keys
principal_line f fs e = λ i. cond (items_show (f ∷ fs) e i && lt-ltb 9 (length (unended "principal" (f ∷ fs))) (omega arith) i) (row_headed partial PRINCIPAL (heading PRINCIPAL (items_back f fs e i))) []

resource_line : (f : List ℕ) (fs : List (List ℕ)) → all_plain (f ∷ fs) ≡ true → row_of partial (unended "resource" (f ∷ fs)) ≡ row_for partial (tag_for RESOURCE) (f ∷ fs)
unfolding row_of keys
resource_line f fs e = λ i. cond (items_show (f ∷ fs) e i && lt-ltb 8 (length (unended "resource" (f ∷ fs))) (omega arith) i) (row_headed partial RESOURCE (heading RESOURCE (items_back f fs e i))) []

-- a row that is not empty: the line is printable, has as many items as its form, and they are read
row_parts : {X : Type 0} (T : ℕ) (fs : List (List ℕ)) (b c : Bool) (t : ℕ) (xs : List ℕ) → cond b (cond c (or_empty T (items_from partial T 0 fs)) []) [] ≡ t ∷ xs → (b ≡ true → c ≡ true → t ≡ T → items_from partial T 0 fs ≡ some xs → X) → X
row_parts {X} T fs true true t xs e f = go (items_from partial T 0 fs) refl e
  where
    go : (o : Option (List ℕ)) → items_from partial T 0 fs ≡ o → or_empty T o ≡ t ∷ xs → X
    go none p e = not_empty [] t xs e
    go (some l) p e = f refl refl (ap (λ z. get_or z 0 0) (sym e)) (p ∙ ap (λ z. some (drop 1 z)) e)
row_parts T fs true false t xs e f = not_empty [] t xs e
row_parts T fs false c t xs e f = not_empty [] t xs e

-- two items: a number of a line, and a number of a text or `?`
abbrev pair_of : List ℕ → List ℕ → Option (List ℕ)
pair_of f g = joined (one (index f)) (joined (one (mark_or (same g (ascii "?")) (index g))) (some []))

first_item : (t : ℕ) (f : List ℕ) (k : ℕ) → index f ≡ some k → index (cond (same f (ascii "?")) (digits t) f) ≡ some k
first_item t f k e = go (same f (ascii "?")) refl
  where
    go : (b : Bool) → same f (ascii "?") ≡ b → index (cond b (digits t) f) ≡ some k
    go true p = no_some (sym (ap index (same_is f (ascii "?") p)) ∙ e)
    go false p = e

not_asked : (t : ℕ) → t ≤ 9999 → same (digits t) (ascii "?") ≡ false
not_asked t h = go (same (digits t) (ascii "?")) refl
  where
    go : (b : Bool) → same (digits t) (ascii "?") ≡ b → b ≡ false
    go true p = no_some (sym (ap index (same_is (digits t) (ascii "?") p)) ∙ index_back t h)
    go false p = refl

second_item : (t : ℕ) (g : List ℕ) (x : ℕ) → t ≤ 9999 → mark_or (same g (ascii "?")) (index g) ≡ some x → mark_or (same (cond (same g (ascii "?")) (digits t) g) (ascii "?")) (index (cond (same g (ascii "?")) (digits t) g)) ≡ some (cond (eqb x mark) t x)
second_item t g x h e = go (same g (ascii "?")) refl e
  where
    go : (b : Bool) → same g (ascii "?") ≡ b → mark_or b (index g) ≡ some x → mark_or (same (cond b (digits t) g) (ascii "?")) (index (cond b (digits t) g)) ≡ some (cond (eqb x mark) t x)
    go true p e = rw (not_asked t h) (index_back t h ∙ ap (λ b. some (cond b t x)) (sym (eq-eqb x mark (sym (some-injective mark x e)))))
    go false p e = rw p (e ∙ ap (λ b. some (cond b t x)) (sym (ne_eqb x mark (λ z. let w = index_small (decimal g) x (ap one e) in omega (arith, w, z)))))

pair_filled : {X : Type 0} (t : ℕ) (f g xs : List ℕ) → t ≤ 9999 → pair_of f g ≡ some xs
    → ((k x : ℕ) → xs ≡ k ∷ x ∷ [] → pair_of (cond (same f (ascii "?")) (digits t) f) (cond (same g (ascii "?")) (digits t) g) ≡ some (k ∷ cond (eqb x mark) t x ∷ []) → X) → X
pair_filled t f g xs h e c = joined_some (one (index f)) (joined (one (mark_or (same g (ascii "?")) (index g))) (some [])) xs e (λ a b p q r.
    joined_some (one (mark_or (same g (ascii "?")) (index g))) (some []) b q (λ d w u v z.
    one_at_law (index f) a p (λ k i j. one_at_law (mark_or (same g (ascii "?")) (index g)) d u (λ x i' j'.
    c k x (r ∙ ap₂ ◌++◌ j (z ∙ ap₂ ◌++◌ j' (sym (some-injective [] w v))))
    (ap₂ (λ o p. joined (one o) (joined (one p) (some []))) (first_item t f k i) (second_item t g x h i'))))))
  where
    one_at_law : {X : Type 0} (o : Option ℕ) (a : List ℕ) → one o ≡ some a → ((n : ℕ) → o ≡ some n → a ≡ n ∷ [] → X) → X
    one_at_law none a e f = no_some e
    one_at_law (some n) a e f = f n refl (sym (some-injective (n ∷ []) a e))

two_of : {X : Type 0} (fs : List (List ℕ)) → length fs ≡ 2 → ((f g : List ℕ) → fs ≡ f ∷ g ∷ [] → X) → X
two_of [] e c = absurd (omega (arith, e))
two_of (f ∷ []) e c = absurd (omega (arith, e))
two_of (f ∷ g ∷ []) e c = c f g refl
two_of (f ∷ g ∷ h ∷ fs) e c = absurd (omega (arith, e))

set_is : (T k x t : ℕ) → T ∷ k ∷ cond (eqb x mark) t x ∷ [] ≡ set_text t (T ∷ k ∷ x ∷ [])
set_is T k x t = go (eqb x mark)
  where
    go : (b : Bool) → T ∷ k ∷ cond b t x ∷ [] ≡ cond b (T ∷ k ∷ t ∷ []) (T ∷ k ∷ x ∷ [])
    go true = refl
    go false = refl

-- a key without constructors whose lines have these two items
record Pairs (w : String) (k : ℕ) : Type 0 where
  is_key : place_in (ascii w) keys ≡ k
  row : (v : List ℕ) → row_of_value partial k v ≡ row_for partial (tag_for k) (split 44 v)
  line : (f : List ℕ) (fs : List (List ℕ)) → all_plain (f ∷ fs) ≡ true → row_of partial (unended w (f ∷ fs)) ≡ row_for partial (tag_for k) (f ∷ fs)
  pairs : (f g : List ℕ) → items_from partial (tag_for k) 0 (f ∷ g ∷ []) ≡ pair_of f g
  two : counted (tag_for k) 2 ≡ true
  only_two : (n : ℕ) → counted (tag_for k) n ≡ true → n ≡ 2

-- the row of its line, and of the line with text n filled in
key_filled : {X : Type 0} (w : String) (k : ℕ) → Pairs w k → (l : List ℕ) (n : ℕ) → n ≤ 9999 → key_in l ≡ ascii w → (t : ℕ) (xs : List ℕ) → row_of partial l ≡ t ∷ xs
    → ((j x : ℕ) → t ∷ xs ≡ tag_for k ∷ j ∷ x ∷ [] → row_of partial (key_in l ++ (61 ∷ commas (filled_items n (items_in l)))) ≡ set_text n (tag_for k ∷ j ∷ x ∷ []) → X) → X
key_filled w k p l n h key t xs e c =
    row_parts (tag_for k) (items_in l) (shown l) (counted (tag_for k) (length (items_in l))) t xs (sym (row_of_key w k p.is_key p.row l key) ∙ e)
    (λ b d tag_is ix. and_both (printable l) (ltb (up_to 61 l) (length l)) b (λ show less.
    two_of (items_in l) (p.only_two (length (items_in l)) d) (λ f g fs.
    let F : List ℕ = cond (same f (ascii "?")) (digits n) f in
    let G : List ℕ = cond (same g (ascii "?")) (digits n) g in
    let plain : all_plain (F ∷ G ∷ []) ≡ true = filled_plain n (f ∷ g ∷ []) h (subst (λ z. all_plain z ≡ true) fs (split_plain (drop (suc (up_to 61 l)) l) (show_drop (suc (up_to 61 l)) l show))) in
    pair_filled n f g xs h (sym (p.pairs f g) ∙ sym (ap (items_from partial (tag_for k) 0) fs) ∙ ix) (λ j x xs-are new.
    c j x (ap₂ ◌∷◌ tag_is xs-are)
    ((λ i. row_of partial (key i ++ (61 ∷ commas (filled_items n (fs i)))))
    ∙ p.line F (G ∷ []) plain
    ∙ ap (λ z. cond z (or_empty (tag_for k) (items_from partial (tag_for k) 0 (F ∷ G ∷ []))) []) p.two
    ∙ ap (or_empty (tag_for k)) (p.pairs F G ∙ new)
    ∙ set_is (tag_for k) j x n)))))

principal_pairs : Pairs "principal" PRINCIPAL
unfolding keys tag_of forms form_of slot_at counted
principal_pairs = record { is_key = refl; row = λ v. refl; line = principal_line; pairs = λ f g. refl; two = refl; only_two = λ n e. counted_plain (form_of principal_tag) n refl e }

resource_pairs : Pairs "resource" RESOURCE
unfolding keys tag_of forms form_of slot_at counted
resource_pairs = record { is_key = refl; row = λ v. refl; line = resource_line; pairs = λ f g. refl; two = refl; only_two = λ n e. counted_plain (form_of resource_tag) n refl e }

principal_filled : (q : Asked) (l : List ℕ) → q.principal ≤ 9999 → key_in l ≡ ascii "principal" → (t : ℕ) (xs : List ℕ) → row_of partial l ≡ t ∷ xs → FilledRow q (t ∷ xs) (row_of partial (key_in l ++ (61 ∷ commas (filled_items q.principal (items_in l)))))
unfolding tag_of forms
principal_filled q l h key t xs e = key_filled "principal" PRINCIPAL principal_pairs l q.principal h key t xs e (λ j x old new.
    subst (λ z. FilledRow q z (row_of partial (key_in l ++ (61 ∷ commas (filled_items q.principal (items_in l)))))) (sym old) (subst (FilledRow q (principal_tag ∷ j ∷ x ∷ [])) (sym new) principal))

resource_filled : (q : Asked) (l : List ℕ) → q.resource ≤ 9999 → key_in l ≡ ascii "resource" → (t : ℕ) (xs : List ℕ) → row_of partial l ≡ t ∷ xs → FilledRow q (t ∷ xs) (row_of partial (key_in l ++ (61 ∷ commas (filled_items q.resource (items_in l)))))
unfolding tag_of forms
resource_filled q l h key t xs e = key_filled "resource" RESOURCE resource_pairs l q.resource h key t xs e (λ j x old new.
    subst (λ z. FilledRow q z (row_of partial (key_in l ++ (61 ∷ commas (filled_items q.resource (items_in l)))))) (sym old) (subst (FilledRow q (resource_tag ∷ j ∷ x ∷ [])) (sym new) resource))

-- ---- other lines

form_key : (k : ℕ) (w : List ℕ) (fs : List Form) → form_in k w fs < length fs → (get_or fs (form_in k w fs) no_form).key ≡ k
form_key k w [] h = absurd (omega arith)
form_key k w (f ∷ fs) h = go (eqb k f.key && same w (ascii f.name)) refl h (form_key k w fs)
  where
    go : (b : Bool) → (eqb k f.key && same w (ascii f.name)) ≡ b → cond b 0 (suc (form_in k w fs)) < suc (length fs) → (form_in k w fs < length fs → (get_or fs (form_in k w fs) no_form).key ≡ k) → (get_or (f ∷ fs) (cond b 0 (suc (form_in k w fs))) no_form).key ≡ k
    go true e h ih = and_both (eqb k f.key) (same w (ascii f.name)) e (λ a b. sym (eqb_true k f.key a))
    go false e h ih = ih (omega (arith, h))

-- the key of a line's row is the line's
tag_key : (k : ℕ) (w : List ℕ) (j : ℕ) → j < no_key → (form_of (tag_of k w)).key ≡ j → k ≡ j
unfolding form_of tag_of forms
tag_key k w j h e = go (dec_lt (form_in k w forms) no_tag)
  where
    go : Dec (form_in k w forms < no_tag) → k ≡ j
    go (yes d) = sym (form_key k w forms d) ∙ e
    go (no d) = let z : no_key ≡ j = sym (ap (λ f. f.key) (get_or-eq_default forms no_form (let y : no_tag ≤ form_in k w forms = omega arith in y))) ∙ e in absurd (omega (arith, z, h))

row_key : (l : List ℕ) (t : ℕ) (xs : List ℕ) → row_of partial l ≡ t ∷ xs → (j : ℕ) → 1 < j → j < no_key → key_of (t ∷ xs) ≡ j → place_in (key_in l) keys ≡ j
unfolding row_of key_of form_of forms
row_key l t xs e j lo hi g = cut (printable l && ltb (up_to 61 l) (length l)) e
  where
    K : ℕ
    K = place_in (take (up_to 61 l) l) keys

    v : List ℕ
    v = drop (suc (up_to 61 l)) l

    from_text : (b : Bool) → cond b (1 ∷ v) [] ≡ t ∷ xs → K ≡ j
    from_text true e = let z : 1 ≡ j = ap (λ w. (form_of (get_or w 0 0)).key) e ∙ g in absurd (omega (arith, z, lo))
    from_text false e = not_empty [] t xs e

    read_row : (T : ℕ) (o : Option (List ℕ)) → or_empty T o ≡ t ∷ xs → (T ≡ t → K ≡ j) → K ≡ j
    read_row T none e f = not_empty [] t xs e
    read_row T (some ys) e f = f (ap (λ w. get_or w 0 0) e)

    from_row : (b : Bool) → cond b (or_empty (tag_of K (heading K (split 44 v)).name) (items_from partial (tag_of K (heading K (split 44 v)).name) 0 (heading K (split 44 v)).items)) [] ≡ t ∷ xs → K ≡ j
    from_row true e = read_row (tag_of K (heading K (split 44 v)).name) (items_from partial (tag_of K (heading K (split 44 v)).name) 0 (heading K (split 44 v)).items) e (λ z. tag_key K (heading K (split 44 v)).name j hi (ap (λ w. (form_of w).key) z ∙ g))
    from_row false e = not_empty [] t xs e

    value : (b : Bool) → cond b (cond (leb (length v) 128) (1 ∷ v) []) (row_headed partial K (heading K (split 44 v))) ≡ t ∷ xs → K ≡ j
    value true e = from_text (leb (length v) 128) e
    value false e = from_row (counted (tag_of K (heading K (split 44 v)).name) (length (heading K (split 44 v)).items)) e

    cut : (b : Bool) → cond b (row_of_value partial K v) [] ≡ t ∷ xs → K ≡ j
    cut true e = value (eqb K TEXT) e
    cut false e = not_empty [] t xs e

place_is : (w : List ℕ) (ks : List String) (j : ℕ) → place_in w ks ≡ j → j < length ks → w ≡ ascii (get_or ks j "")
place_is w [] j e h = absurd (omega arith)
place_is w (x ∷ ks) j e h = go (same w (ascii x)) refl j e h (place_is w ks)
  where
    go : (b : Bool) → same w (ascii x) ≡ b → (j : ℕ) → cond b 0 (suc (place_in w ks)) ≡ j → j < suc (length ks) → ((i : ℕ) → place_in w ks ≡ i → i < length ks → w ≡ ascii (get_or ks i "")) → w ≡ ascii (get_or (x ∷ ks) j "")
    go true p zero e h ih = same_is w (ascii x) p
    go true p (suc j) e h ih = absurd (omega (arith, e))
    go false p zero e h ih = absurd (omega (arith, e))
    go false p (suc j) e h ih = ih j (omega (arith, e)) (omega (arith, h))

-- a line of another key has a row of another key
other_key : (l : List ℕ) (w : String) (j : ℕ) → 1 < j → j < no_key → ascii (get_or keys j "") ≡ ascii w → same (key_in l) (ascii w) ≡ false → (t : ℕ) (xs : List ℕ) → row_of partial l ≡ t ∷ xs → eqb (key_of (t ∷ xs)) j ≡ false
unfolding keys
other_key l w j lo hi k f t xs e = ne_eqb (key_of (t ∷ xs)) j (λ g. no_true (sym f ∙ ap (λ z. same z (ascii w)) (place_is (key_in l) keys j (row_key l t xs e j lo hi g) hi ∙ k) ∙ same_refl (ascii w)))

-- ---- each line

module _ (q : Asked) (h : q.principal ≤ 9999) (k : q.resource ≤ 9999) where
  not_none : (l : List ℕ) (c : ℕ) (w : List ℕ) → key_in l ≡ c ∷ w → same l [] ≡ false
  not_none [] c w e = absurd (let z = ap length e in omega (arith, z))
  not_none (x ∷ l) c w e = refl

  -- a line of another first byte begins no entity line
  not_entity : (l : List ℕ) (c : ℕ) (w : List ℕ) → eqb 101 c ≡ false → key_in l ≡ c ∷ w → starts (ascii "entity=") l ≡ false
  not_entity [] c w d e = refl
  not_entity (x ∷ l) c w d e = go (eqb x 61) e
    where
      go : (b : Bool) → take (cond b 0 (suc (up_to 61 l))) (x ∷ l) ≡ c ∷ w → (eqb 101 x && starts (ascii "ntity=") l) ≡ false
      go true e = absurd (let z = ap length e in omega (arith, z))
      go false e = ap (λ y. eqb 101 y && starts (ascii "ntity=") l) (ap (λ y. get_or y 0 0) e) ∙ ap (λ b. b && starts (ascii "ntity=") l) d

  pub filled_line_law : (l : List ℕ) → FilledLine q l (filled_line "resource" q.resource (filled_line "principal" q.principal l))
  unfolding keys
  filled_line_law l = at_principal (same (key_in l) (ascii "principal")) refl
    where
      at_resource : (b : Bool) → same (key_in l) (ascii "resource") ≡ b → same (key_in l) (ascii "principal") ≡ false → FilledLine q l (cond b (key_in l ++ (61 ∷ commas (filled_items q.resource (items_in l)))) l)
      at_resource true p n = let key = same_is (key_in l) (ascii "resource") p in record {
        ends = ap (λ z. same (z ++ (61 ∷ commas (filled_items q.resource (items_in l)))) []) key ∙ sym (not_none l 114 (ascii "esource") key);
        entity = ap (λ z. starts (ascii "entity=") (z ++ (61 ∷ commas (filled_items q.resource (items_in l))))) key ∙ sym (not_entity l 114 (ascii "esource") refl key);
        rows = resource_filled q l k key;
      }
      at_resource false p n = record { ends = refl; entity = refl; rows = λ t xs e. subst (FilledRow q (t ∷ xs)) (sym e) (kept (other_key l "principal" PRINCIPAL (omega arith) (omega arith) refl n t xs e) (other_key l "resource" RESOURCE (omega arith) (omega arith) refl p t xs e)) }

      at_principal : (b : Bool) → same (key_in l) (ascii "principal") ≡ b → FilledLine q l (filled_line "resource" q.resource (cond b (key_in l ++ (61 ∷ commas (filled_items q.principal (items_in l)))) l))
      at_principal true p =
          let key = same_is (key_in l) (ascii "principal") p in
          let C : List ℕ = commas (filled_items q.principal (items_in l)) in
          let stays : same (key_in (key_in l ++ (61 ∷ C))) (ascii "resource") ≡ false = ap (λ z. same (key_in (z ++ (61 ∷ C))) (ascii "resource")) key in
          subst (FilledLine q l) (sym (ap (λ b. cond b (key_in (key_in l ++ (61 ∷ C)) ++ (61 ∷ commas (filled_items q.resource (items_in (key_in l ++ (61 ∷ C)))))) (key_in l ++ (61 ∷ C))) stays))
          (record {
            ends = ap (λ z. same (z ++ (61 ∷ C)) []) key ∙ sym (not_none l 112 (ascii "rincipal") key);
            entity = ap (λ z. starts (ascii "entity=") (z ++ (61 ∷ C))) key ∙ sym (not_entity l 112 (ascii "rincipal") refl key);
            rows = principal_filled q l h key;
          })
      at_principal false p = at_resource (same (key_in l) (ascii "resource")) refl p

  pub filled_all : (ls : List (List ℕ)) → FilledAll q ls (filled_lines q ls)
  filled_all [] = R.none
  filled_all (l ∷ ls) = more_lines (filled_line_law l) (filled_all ls)

-- ---- no line end is put into a line

lack_take : (n : ℕ) (l : List ℕ) → lacks 10 l ≡ true → lacks 10 (take n l) ≡ true
lack_take zero l e = refl
lack_take (suc n) [] e = refl
lack_take (suc n) (x ∷ l) e = and_both (not (eqb x 10)) (lacks 10 l) e (λ p q. rw p (lack_take n l q))

lack_drop : (n : ℕ) (l : List ℕ) → lacks 10 l ≡ true → lacks 10 (drop n l) ≡ true
lack_drop zero l e = e
lack_drop (suc n) [] e = refl
lack_drop (suc n) (x ∷ l) e = and_both (not (eqb x 10)) (lacks 10 l) e (λ p q. lack_drop n l q)

split_each : (l : List ℕ) → lacks 10 l ≡ true → all_lack (split 44 l)
split_each [] e = (refl, tt)
split_each (x ∷ l) e = and_both (not (eqb x 10)) (lacks 10 l) e (λ p q. go (eqb x 44) p (split_each l q))
  where
    go : (b : Bool) → not (eqb x 10) ≡ true → all_lack (split 44 l) → all_lack (cond b ([] ∷ split 44 l) (ahead x (split 44 l)))
    go true p h = (refl, h)
    go false p h = ahead_lacks x (split 44 l) p h

digits_lack : (t : ℕ) → t ≤ 9999 → lacks 10 (digits t) ≡ true
digits_lack t h = no_end (digits t) (small_plain t h)

items_lack : (t : ℕ) → t ≤ 9999 → (fs : List (List ℕ)) → all_lack fs → all_lack (filled_items t fs)
items_lack t h [] e = tt
items_lack t h (f ∷ fs) e = (go (same f (ascii "?")), items_lack t h fs e.1)
  where
    go : (b : Bool) → lacks 10 (cond b (digits t) f) ≡ true
    go true = digits_lack t h
    go false = e.0

commas_lack : (fs : List (List ℕ)) → all_lack fs → lacks 10 (commas fs) ≡ true
commas_lack [] h = refl
commas_lack (f ∷ []) h = h.0
commas_lack (f ∷ g ∷ fs) h = lacks_append 10 f (44 ∷ commas (g ∷ fs)) h.0 (commas_lack (g ∷ fs) h.1)

line_lack : (w : String) (t : ℕ) → t ≤ 9999 → (l : List ℕ) → lacks 10 l ≡ true → lacks 10 (filled_line w t l) ≡ true
line_lack w t h l e = go (same (key_in l) (ascii w))
  where
    go : (b : Bool) → lacks 10 (cond b (key_in l ++ (61 ∷ commas (filled_items t (items_in l)))) l) ≡ true
    go true = lacks_append 10 (key_in l) (61 ∷ commas (filled_items t (items_in l))) (lack_take (up_to 61 l) l e) (commas_lack (filled_items t (items_in l)) (items_lack t h (items_in l) (split_each (drop (suc (up_to 61 l)) l) (lack_drop (suc (up_to 61 l)) l e))))
    go false = e

lines_lack : (q : Asked) → q.principal ≤ 9999 → q.resource ≤ 9999 → (ls : List (List ℕ)) → all_lack ls → all_lack (filled_lines q ls)
lines_lack q h k [] e = tt
lines_lack q h k (l ∷ ls) e = (line_lack "resource" q.resource k (filled_line "principal" q.principal l) (line_lack "principal" q.principal h l e.0), lines_lack q h k ls e.1)

filled_some : (q : Asked) (ls : List (List ℕ)) → NotNone ls → NotNone (filled_lines q ls)
filled_some q [] n = n
filled_some q (l ∷ ls) n = tt

-- ---- the theorem

-- a text that fits exists
text_there : (s : State) (k t : ℕ) → text_fits s k t ≡ true → ltb t (count s TEXT) ≡ true
text_there s k t e = and_both (ltb t (count s TEXT)) _ e (λ x y. x)

module _ (sheet : List ℕ) (q : Asked) (acc : Accepted partial sheet) (fits : ask_fits (read partial sheet).state q ≡ true) where
  abbrev s : State
  s = (read partial sheet).state

  there : (ltb q.principal (count s TEXT) ≡ true) × (ltb q.resource (count s TEXT) ≡ true)
  there = and_both (text_fits s PRINCIPAL q.principal) (text_fits s RESOURCE q.resource) fits (λ a b. (text_there s PRINCIPAL q.principal a, text_there s RESOURCE q.resource b))

  small : (t : ℕ) → ltb t (count s TEXT) ≡ true → t ≤ 9999
  small t e = let a = (most_lines partial s (facts partial sheet acc).history).texts in let b = ltb-true t (count s TEXT) e in omega (arith, a, b)

  -- THE SHEET WITH THE TEXTS FILLED IN IS ACCEPTED BY ITS CHECKS, AND HAS THE STATE WITH THE TEXTS SET
  pub filled_sheet_law : ((read partial (filled_sheet sheet q)).number ≡ 0) × ((read partial (filled_sheet sheet q)).state ≡ with_texts s q)
  unfolding read filled_sheet with_texts
  filled_sheet_law =
      let h = small q.principal there.0 in
      let k = small q.resource there.1 in
      let lines : split 10 (join_lines (filled_lines q (split 10 sheet))) ≡ filled_lines q (split 10 sheet) = split_join (filled_lines q (split 10 sheet)) (filled_some q (split 10 sheet) (split_some sheet)) (lines_lack q h k (split 10 sheet) (split_lacks sheet)) in
      subst (λ z. ((reading partial z empty 1).number ≡ 0) × ((reading partial z empty 1).state ≡ with_texts s q)) (sym lines)
      (reading_with q (split 10 sheet) (filled_lines q (split 10 sheet)) (filled_all q h k (split 10 sheet)) empty 1 (record { keys = refl; first = tt; second = tt }) (accepted_read partial sheet acc) there.0 there.1)

  -- EACH ROW'S DECISION IS THAT OF THE STATE WITH ITS TEXTS SET
  pub row_decision_law : row_decision sheet q ≡ decision_on (with_texts s q)
  unfolding row_decision
  row_decision_law = ap decision_on filled_sheet_law.1
