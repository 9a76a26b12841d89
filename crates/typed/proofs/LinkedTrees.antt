-- Links by their trees: a link whose values do not fit the slots makes a tree that has no type.
use mathlib.Core.Path.{◌≡◌, refl, sym, ◌∙◌, ap, subst}
use mathlib.Core.Bool.{Bool, true, false, ◌&&◌, ◌||◌, not}
use mathlib.Core.Option.{some}
use mathlib.Core.List.{List, [], ◌∷◌, ◌++◌, append_assoc}
use Prim.Native.Nat.{ℕ, zero, suc, ◌<◌, ◌≤◌, ◌+◌, ◌-◌}
use native.Mathlib.Omega.{arith}
use lib.ListN.{length, get_or}
use Rattle.cedar.proofs.Tools.{no_true, eqb_true, and_left, and_right, both}
use Rattle.cedar.proofs.TableLaws.{InN, now', later'}
use Rattle.cedar.proofs.TypingTestComplete.{check_complete}
use Rattle.cedar.specs.Types.{Ty, tbool}
use Rattle.cedar.specs.Residual.{Expr, err}
use Rattle.cedar.specs.Typing.{Typed}
use Rattle.cedar.specs.TypingTest.{check}
use Rattle.cedar.specs.TypingTest as Test
use Rattle.sheet.specs.Forms.{Mode, forms, form_of, slot_at, counted, items_from, is_line, keep, refs_from, refs, tag, items, at, key_of, row_of, NODE, POLICY, LINK, no_tag}
use Rattle.sheet.specs.State.{State, lines_of, line_at}
use Rattle.sheet.specs.Typing.{gathered, under_from, nodes_under, is_slot, slot_value}
use Rattle.sheet.specs.Sheet.{fault}
use Rattle.sheet.specs.Content.{types, content_of, schema, children_over, args_over, tree_over, trees_from, linked, exprs}
use Rattle.sheet.proofs.reading.Lines.{Was}
use Rattle.sheet.proofs.reading.Parsed.{parsed, counted_plain, tags_between, node_tags}
use Rattle.sheet.proofs.content.ValueRows.{items_length}
use Rattle.sheet.proofs.reading.NodeRows.{plain_slots, row_read}
use Rattle.sheet.proofs.reading.Slots.{like_slot, path_slot, name_slot}
use Rattle.sheet.proofs.reading.Depths.{Reached, reached_history}
use Rattle.typed.specs.ByContent.{type_in, slots_by, by_content}
use Rattle.typed.proofs.Parts.{blank, each_of_all, each_of_args, each_child, check_parts}
use Rattle.typed.proofs.Refused.{refused_by_content}

-- ---- a row of a form without repeated items has exactly its items

row_exact : (m : Mode) (r l : List ℕ) (t : ℕ) → r ≡ row_of m l → tag r ≡ t → 2 ≤ t → t < no_tag → (t ≡ 11 → ⊥) → (form_of t).group ≡ [] → length (items r) ≡ length (form_of t).items
unfolding counted
row_exact m r l t e k lo hi other g = parsed m r (λ q. let z : no_tag ≡ t = sym (ap tag q) ∙ k in absurd (omega (arith, z))) (λ v q. let z : 1 ≡ t = sym (ap tag q) ∙ k in absurd (omega (arith, z)))
    (λ t' fs l c i q. let z : t' ≡ t = sym (ap tag q) ∙ k in
    ap (λ x. length (items x)) q ∙ items_length m t (plain_slots t hi other) 0 fs (subst (λ x. items_from m x 0 fs ≡ some l) z i) ∙ counted_plain (form_of t) (length fs) g (subst (λ x. counted x (length fs) ≡ true) z c))
    l e

-- ---- a row's references are among its children

keep_cases : {X : Type 0} (b : Bool) (x y : ℕ) (l : List ℕ) → InN y (keep b x l) → (b ≡ true → y ≡ x → X) → (InN y l → X) → X
keep_cases true x y l now' f g = f refl refl
keep_cases true x y l (later' i) f g = g i
keep_cases false x y l i f g = g i

module _ {X : Type 0} (t y : ℕ) where
  no_kid : (j : ℕ) (l : List ℕ) → ((i : ℕ) → i < length l → is_line NODE (slot_at t (j + i)) ≡ false) → InN y (refs_from NODE t j l) → X
  no_kid j [] h i = elim i [ ]
  no_kid j (x ∷ l) h i = keep_cases (is_line NODE (slot_at t j)) x y (refs_from NODE t (suc j) l) i
      (λ b e. no_true (sym (subst (λ z. is_line NODE (slot_at t z) ≡ false) (omega arith) (h 0 (omega arith))) ∙ b))
      (λ i. no_kid (suc j) l (λ n lt. subst (λ z. is_line NODE (slot_at t z) ≡ false) (omega arith) (h (suc n) (omega (arith, lt)))) i)

  first : (x : ℕ) (l : List ℕ) → is_line NODE (slot_at t 0) ≡ false → InN y (refs_from NODE t 0 (x ∷ l)) → (InN y (refs_from NODE t 1 l) → X) → X
  first x l e i f = keep_cases (is_line NODE (slot_at t 0)) x y (refs_from NODE t 1 l) i (λ b q. no_true (sym e ∙ b)) f

  one_kid : (l : List ℕ) → 2 ≤ length l → is_line NODE (slot_at t 0) ≡ false → ((i : ℕ) → i < length l - 2 → is_line NODE (slot_at t (2 + i)) ≡ false) → InN y (refs_from NODE t 0 l) → (y ≡ get_or l 1 0 → X) → X
  one_kid [] lt e h i f = absurd (omega arith)
  one_kid (x ∷ []) lt e h i f = absurd (omega arith)
  one_kid (x ∷ a ∷ l) lt e h i f = first x (a ∷ l) e i (λ i. keep_cases (is_line NODE (slot_at t 1)) a y (refs_from NODE t 2 l) i (λ b q. f q) (λ i. no_kid 2 l (λ n lt. h n (omega (arith, lt))) i))

  two_kids : (l : List ℕ) → length l ≡ 3 → is_line NODE (slot_at t 0) ≡ false → InN y (refs_from NODE t 0 l) → (y ≡ get_or l 1 0 → X) → (y ≡ get_or l 2 0 → X) → X
  two_kids [] n e i f g = absurd (omega (arith, n))
  two_kids (x ∷ []) n e i f g = absurd (omega (arith, n))
  two_kids (x ∷ a ∷ []) n e i f g = absurd (omega (arith, n))
  two_kids (x ∷ a ∷ b ∷ []) n e i f g = first x (a ∷ b ∷ []) e i (λ i. keep_cases (is_line NODE (slot_at t 1)) a y (refs_from NODE t 2 (b ∷ [])) i (λ p q. f q) (λ i. keep_cases (is_line NODE (slot_at t 2)) b y [] i (λ p q. g q) (λ i. elim i [ ])))
  two_kids (x ∷ a ∷ b ∷ c ∷ l) n e i f g = absurd (omega (arith, n))

  three_kids : (l : List ℕ) → length l ≡ 4 → is_line NODE (slot_at t 0) ≡ false → InN y (refs_from NODE t 0 l) → (y ≡ get_or l 1 0 → X) → (y ≡ get_or l 2 0 → X) → (y ≡ get_or l 3 0 → X) → X
  three_kids [] n e i f g k = absurd (omega (arith, n))
  three_kids (x ∷ []) n e i f g k = absurd (omega (arith, n))
  three_kids (x ∷ a ∷ []) n e i f g k = absurd (omega (arith, n))
  three_kids (x ∷ a ∷ b ∷ []) n e i f g k = absurd (omega (arith, n))
  three_kids (x ∷ a ∷ b ∷ c ∷ []) n e i f g k = first x (a ∷ b ∷ c ∷ []) e i (λ i. keep_cases (is_line NODE (slot_at t 1)) a y (refs_from NODE t 2 (b ∷ c ∷ [])) i (λ p q. f q) (λ i. keep_cases (is_line NODE (slot_at t 2)) b y (refs_from NODE t 3 (c ∷ [])) i (λ p q. g q)
      (λ i. keep_cases (is_line NODE (slot_at t 3)) c y [] i (λ p q. k q) (λ i. elim i [ ]))))
  three_kids (x ∷ a ∷ b ∷ c ∷ d ∷ l) n e i f g k = absurd (omega (arith, n))

module _ (s : State) (c : Expr → Bool) (sl : Ty → ℕ → Expr) (es : List Expr) where
  abbrev Pass : ℕ → Type 0
  Pass y = c (get_or es y (err tbool)) ≡ true

  all_kids : (y j : ℕ) (l : List ℕ) → InN y (refs_from NODE 47 j l) → each_of_all c (children_over (types s) (content_of s) es l) ≡ true → Pass y
  all_kids y j [] i e = elim i [ ]
  all_kids y j (n ∷ l) i e = keep_cases (is_line NODE (slot_at 47 j)) n y (refs_from NODE 47 (suc j) l) i
      (λ b q. subst Pass (sym q) (and_left (c (get_or es n (err tbool))) (each_of_all c (children_over (types s) (content_of s) es l)) e))
      (λ i. all_kids y (suc j) l i (and_right (c (get_or es n (err tbool))) (each_of_all c (children_over (types s) (content_of s) es l)) e))

  arg_kids : (y i : ℕ) (l : List ℕ) → InN y (refs_from NODE 48 (suc (i + i)) l) → each_of_args c (args_over (types s) (content_of s) es l) ≡ true → Pass y
  arg_kids y i [] m e = elim m [ ]
  arg_kids y i (x ∷ []) m e = keep_cases (is_line NODE (slot_at 48 (suc (i + i)))) x y [] m (λ b q. no_true (sym (ap (is_line NODE) (name_slot i)) ∙ b)) (λ m. elim m [ ])
  arg_kids y i (x ∷ n ∷ l) m e = keep_cases (is_line NODE (slot_at 48 (suc (i + i)))) x y (refs_from NODE 48 (suc (suc (i + i))) (n ∷ l)) m (λ b q. no_true (sym (ap (is_line NODE) (name_slot i)) ∙ b))
      (λ m. keep_cases (is_line NODE (slot_at 48 (suc (suc (i + i))))) n y (refs_from NODE 48 (suc (suc (suc (i + i)))) l) m
      (λ b q. subst Pass (sym q) (and_left (c (get_or es n (err tbool))) (each_of_args c (args_over (types s) (content_of s) es l)) e))
      (λ m. arg_kids y (suc i) l (subst (λ j. InN y (refs_from NODE 48 j l)) (omega arith) m) (and_right (c (get_or es n (err tbool))) (each_of_args c (args_over (types s) (content_of s) es l)) e)))

  Kids : ℕ → Type 0
  Kids t = (l : List ℕ) → ((form_of t).group ≡ [] → length l ≡ length (form_of t).items) → length (form_of t).items ≤ length l → (y : ℕ) → InN y (refs_from NODE t 0 l) → each_child c (tree_over (types s) (content_of s) sl es (t ∷ l)) ≡ true → Pass y

  below_one : (P : ℕ → Type 0) → P 0 → (i n : ℕ) → n ≤ 1 → i < n → P i
  below_one P p zero n le lt = p
  below_one P p (suc i) n le lt = absurd (omega arith)

  below_two : (P : ℕ → Type 0) → P 0 → P 1 → (i n : ℕ) → n ≤ 2 → i < n → P i
  below_two P p q zero n le lt = p
  below_two P p q (suc zero) n le lt = q
  below_two P p q (suc (suc i)) n le lt = absurd (omega arith)

  like_line : (j : ℕ) → is_line NODE (slot_at 40 (2 + j)) ≡ false
  like_line j = let z : 2 + j ≡ suc (suc j) = omega arith in ap (λ k. is_line NODE (slot_at 40 k)) z ∙ ap (is_line NODE) (like_slot j)

  path_line : (j : ℕ) → is_line NODE (slot_at 43 (2 + j)) ≡ false
  unfolding slot_at form_of forms
  path_line zero = refl
  path_line (suc j) = let z : 2 + suc j ≡ suc (suc (suc j)) = omega arith in ap (λ k. is_line NODE (slot_at 43 k)) z ∙ ap (is_line NODE) (path_slot j)

  kids21 : Kids 21
  unfolding Kids slot_at form_of forms
  kids21 l exact least y i e = let z : length l ≡ 2 = exact refl in no_kid 21 y 0 l (λ i lt. below_two (λ i. is_line NODE (slot_at 21 (0 + i)) ≡ false) refl refl i (length l) (omega (arith, z)) lt) i

  kids22 : Kids 22
  unfolding Kids slot_at form_of forms
  kids22 l exact least y i e = let z : length l ≡ 1 = exact refl in no_kid 22 y 0 l (λ i lt. below_one (λ i. is_line NODE (slot_at 22 (0 + i)) ≡ false) refl i (length l) (omega (arith, z)) lt) i

  kids23 : Kids 23
  unfolding Kids slot_at form_of forms
  kids23 l exact least y i e = let z : length l ≡ 2 = exact refl in no_kid 23 y 0 l (λ i lt. below_two (λ i. is_line NODE (slot_at 23 (0 + i)) ≡ false) refl refl i (length l) (omega (arith, z)) lt) i

  kids49 : Kids 49
  unfolding Kids slot_at form_of forms
  kids49 l exact least y i e = let z : length l ≡ 2 = exact refl in no_kid 49 y 0 l (λ i lt. below_two (λ i. is_line NODE (slot_at 49 (0 + i)) ≡ false) refl refl i (length l) (omega (arith, z)) lt) i

  kids24 : Kids 24
  unfolding Kids slot_at form_of forms
  kids24 l exact least y i e = two_kids 24 y l (exact refl) refl i (λ q. subst Pass (sym q) (and_left (c (get_or es (get_or l 1 0) (err tbool))) (c (get_or es (get_or l 2 0) (err tbool))) e)) (λ q. subst Pass (sym q) (and_right (c (get_or es (get_or l 1 0) (err tbool))) (c (get_or es (get_or l 2 0) (err tbool))) e))

  kids25 : Kids 25
  unfolding Kids slot_at form_of forms
  kids25 l exact least y i e = two_kids 25 y l (exact refl) refl i (λ q. subst Pass (sym q) (and_left (c (get_or es (get_or l 1 0) (err tbool))) (c (get_or es (get_or l 2 0) (err tbool))) e)) (λ q. subst Pass (sym q) (and_right (c (get_or es (get_or l 1 0) (err tbool))) (c (get_or es (get_or l 2 0) (err tbool))) e))

  kids26 : Kids 26
  unfolding Kids slot_at form_of forms
  kids26 l exact least y i e = two_kids 26 y l (exact refl) refl i (λ q. subst Pass (sym q) (and_left (c (get_or es (get_or l 1 0) (err tbool))) (c (get_or es (get_or l 2 0) (err tbool))) e)) (λ q. subst Pass (sym q) (and_right (c (get_or es (get_or l 1 0) (err tbool))) (c (get_or es (get_or l 2 0) (err tbool))) e))

  kids27 : Kids 27
  unfolding Kids slot_at form_of forms
  kids27 l exact least y i e = two_kids 27 y l (exact refl) refl i (λ q. subst Pass (sym q) (and_left (c (get_or es (get_or l 1 0) (err tbool))) (c (get_or es (get_or l 2 0) (err tbool))) e)) (λ q. subst Pass (sym q) (and_right (c (get_or es (get_or l 1 0) (err tbool))) (c (get_or es (get_or l 2 0) (err tbool))) e))

  kids28 : Kids 28
  unfolding Kids slot_at form_of forms
  kids28 l exact least y i e = two_kids 28 y l (exact refl) refl i (λ q. subst Pass (sym q) (and_left (c (get_or es (get_or l 1 0) (err tbool))) (c (get_or es (get_or l 2 0) (err tbool))) e)) (λ q. subst Pass (sym q) (and_right (c (get_or es (get_or l 1 0) (err tbool))) (c (get_or es (get_or l 2 0) (err tbool))) e))

  kids29 : Kids 29
  unfolding Kids slot_at form_of forms
  kids29 l exact least y i e = two_kids 29 y l (exact refl) refl i (λ q. subst Pass (sym q) (and_left (c (get_or es (get_or l 1 0) (err tbool))) (c (get_or es (get_or l 2 0) (err tbool))) e)) (λ q. subst Pass (sym q) (and_right (c (get_or es (get_or l 1 0) (err tbool))) (c (get_or es (get_or l 2 0) (err tbool))) e))

  kids30 : Kids 30
  unfolding Kids slot_at form_of forms
  kids30 l exact least y i e = two_kids 30 y l (exact refl) refl i (λ q. subst Pass (sym q) (and_left (c (get_or es (get_or l 1 0) (err tbool))) (c (get_or es (get_or l 2 0) (err tbool))) e)) (λ q. subst Pass (sym q) (and_right (c (get_or es (get_or l 1 0) (err tbool))) (c (get_or es (get_or l 2 0) (err tbool))) e))

  kids31 : Kids 31
  unfolding Kids slot_at form_of forms
  kids31 l exact least y i e = two_kids 31 y l (exact refl) refl i (λ q. subst Pass (sym q) (and_left (c (get_or es (get_or l 1 0) (err tbool))) (c (get_or es (get_or l 2 0) (err tbool))) e)) (λ q. subst Pass (sym q) (and_right (c (get_or es (get_or l 1 0) (err tbool))) (c (get_or es (get_or l 2 0) (err tbool))) e))

  kids32 : Kids 32
  unfolding Kids slot_at form_of forms
  kids32 l exact least y i e = two_kids 32 y l (exact refl) refl i (λ q. subst Pass (sym q) (and_left (c (get_or es (get_or l 1 0) (err tbool))) (c (get_or es (get_or l 2 0) (err tbool))) e)) (λ q. subst Pass (sym q) (and_right (c (get_or es (get_or l 1 0) (err tbool))) (c (get_or es (get_or l 2 0) (err tbool))) e))

  kids33 : Kids 33
  unfolding Kids slot_at form_of forms
  kids33 l exact least y i e = two_kids 33 y l (exact refl) refl i (λ q. subst Pass (sym q) (and_left (c (get_or es (get_or l 1 0) (err tbool))) (c (get_or es (get_or l 2 0) (err tbool))) e)) (λ q. subst Pass (sym q) (and_right (c (get_or es (get_or l 1 0) (err tbool))) (c (get_or es (get_or l 2 0) (err tbool))) e))

  kids34 : Kids 34
  unfolding Kids slot_at form_of forms
  kids34 l exact least y i e = two_kids 34 y l (exact refl) refl i (λ q. subst Pass (sym q) (and_left (c (get_or es (get_or l 1 0) (err tbool))) (c (get_or es (get_or l 2 0) (err tbool))) e)) (λ q. subst Pass (sym q) (and_right (c (get_or es (get_or l 1 0) (err tbool))) (c (get_or es (get_or l 2 0) (err tbool))) e))

  kids35 : Kids 35
  unfolding Kids slot_at form_of forms
  kids35 l exact least y i e = two_kids 35 y l (exact refl) refl i (λ q. subst Pass (sym q) (and_left (c (get_or es (get_or l 1 0) (err tbool))) (c (get_or es (get_or l 2 0) (err tbool))) e)) (λ q. subst Pass (sym q) (and_right (c (get_or es (get_or l 1 0) (err tbool))) (c (get_or es (get_or l 2 0) (err tbool))) e))

  kids36 : Kids 36
  unfolding Kids slot_at form_of forms
  kids36 l exact least y i e = two_kids 36 y l (exact refl) refl i (λ q. subst Pass (sym q) (and_left (c (get_or es (get_or l 1 0) (err tbool))) (c (get_or es (get_or l 2 0) (err tbool))) e)) (λ q. subst Pass (sym q) (and_right (c (get_or es (get_or l 1 0) (err tbool))) (c (get_or es (get_or l 2 0) (err tbool))) e))

  kids37 : Kids 37
  unfolding Kids slot_at form_of forms
  kids37 l exact least y i e = two_kids 37 y l (exact refl) refl i (λ q. subst Pass (sym q) (and_left (c (get_or es (get_or l 1 0) (err tbool))) (c (get_or es (get_or l 2 0) (err tbool))) e)) (λ q. subst Pass (sym q) (and_right (c (get_or es (get_or l 1 0) (err tbool))) (c (get_or es (get_or l 2 0) (err tbool))) e))

  kids38 : Kids 38
  unfolding Kids slot_at form_of forms
  kids38 l exact least y i e = three_kids 38 y l (exact refl) refl i (λ q. subst Pass (sym q) (and_left (c (get_or es (get_or l 1 0) (err tbool))) (c (get_or es (get_or l 2 0) (err tbool)) && c (get_or es (get_or l 3 0) (err tbool))) e)) (λ q. subst Pass (sym q) (and_left (c (get_or es (get_or l 2 0) (err tbool))) (c (get_or es (get_or l 3 0) (err tbool))) (and_right (c (get_or es (get_or l 1 0) (err tbool))) (c (get_or es (get_or l 2 0) (err tbool)) && c (get_or es (get_or l 3 0) (err tbool))) e))) (λ q. subst Pass (sym q) (and_right (c (get_or es (get_or l 2 0) (err tbool))) (c (get_or es (get_or l 3 0) (err tbool))) (and_right (c (get_or es (get_or l 1 0) (err tbool))) (c (get_or es (get_or l 2 0) (err tbool)) && c (get_or es (get_or l 3 0) (err tbool))) e)))

  kids39 : Kids 39
  unfolding Kids slot_at form_of forms
  kids39 l exact least y i e = let z : length l ≡ 3 = exact refl in one_kid 39 y l (omega (arith, z)) refl (λ i lt. below_one (λ i. is_line NODE (slot_at 39 (2 + i)) ≡ false) refl i (length l - 2) (omega (arith, z)) lt) i (λ q. subst Pass (sym q) e)

  kids41 : Kids 41
  unfolding Kids slot_at form_of forms
  kids41 l exact least y i e = let z : length l ≡ 3 = exact refl in one_kid 41 y l (omega (arith, z)) refl (λ i lt. below_one (λ i. is_line NODE (slot_at 41 (2 + i)) ≡ false) refl i (length l - 2) (omega (arith, z)) lt) i (λ q. subst Pass (sym q) e)

  kids42 : Kids 42
  unfolding Kids slot_at form_of forms
  kids42 l exact least y i e = let z : length l ≡ 3 = exact refl in one_kid 42 y l (omega (arith, z)) refl (λ i lt. below_one (λ i. is_line NODE (slot_at 42 (2 + i)) ≡ false) refl i (length l - 2) (omega (arith, z)) lt) i (λ q. subst Pass (sym q) e)

  kids40 : Kids 40
  unfolding Kids slot_at form_of forms
  kids40 l exact least y i e = one_kid 40 y l least refl (λ j lt. like_line j) i (λ q. subst Pass (sym q) e)

  kids43 : Kids 43
  unfolding Kids slot_at form_of forms
  kids43 l exact least y i e = one_kid 43 y l (omega (arith, least)) refl (λ j lt. path_line j) i (λ q. subst Pass (sym q) e)

  kids44 : Kids 44
  unfolding Kids slot_at form_of forms
  kids44 l exact least y i e = let z : length l ≡ 2 = exact refl in one_kid 44 y l (omega (arith, z)) refl (λ i lt. absurd (omega (arith, z, lt))) i (λ q. subst Pass (sym q) e)

  kids45 : Kids 45
  unfolding Kids slot_at form_of forms
  kids45 l exact least y i e = let z : length l ≡ 2 = exact refl in one_kid 45 y l (omega (arith, z)) refl (λ i lt. absurd (omega (arith, z, lt))) i (λ q. subst Pass (sym q) e)

  kids46 : Kids 46
  unfolding Kids slot_at form_of forms
  kids46 l exact least y i e = let z : length l ≡ 2 = exact refl in one_kid 46 y l (omega (arith, z)) refl (λ i lt. absurd (omega (arith, z, lt))) i (λ q. subst Pass (sym q) e)

  kids47 : Kids 47
  unfolding Kids slot_at form_of forms
  kids47 [] exact least y i e = elim i [ ]
  kids47 (x ∷ l) exact least y i e = first 47 y x l refl i (λ i. all_kids y 1 l i e)

  kids48 : Kids 48
  unfolding Kids slot_at form_of forms
  kids48 [] exact least y i e = elim i [ ]
  kids48 (x ∷ l) exact least y i e = first 48 y x l refl i (λ i. arg_kids y 0 l i e)

  kids_for : (d : ℕ) → d ≤ 28 → Kids (21 + d)
  kids_for zero b = kids21
  kids_for (suc zero) b = kids22
  kids_for (suc (suc zero)) b = kids23
  kids_for (suc (suc (suc zero))) b = kids24
  kids_for (suc (suc (suc (suc zero)))) b = kids25
  kids_for (suc (suc (suc (suc (suc zero))))) b = kids26
  kids_for (suc (suc (suc (suc (suc (suc zero)))))) b = kids27
  kids_for (suc (suc (suc (suc (suc (suc (suc zero))))))) b = kids28
  kids_for (suc (suc (suc (suc (suc (suc (suc (suc zero)))))))) b = kids29
  kids_for (suc (suc (suc (suc (suc (suc (suc (suc (suc zero))))))))) b = kids30
  kids_for (suc (suc (suc (suc (suc (suc (suc (suc (suc (suc zero)))))))))) b = kids31
  kids_for (suc (suc (suc (suc (suc (suc (suc (suc (suc (suc (suc zero))))))))))) b = kids32
  kids_for (suc (suc (suc (suc (suc (suc (suc (suc (suc (suc (suc (suc zero)))))))))))) b = kids33
  kids_for (suc (suc (suc (suc (suc (suc (suc (suc (suc (suc (suc (suc (suc zero))))))))))))) b = kids34
  kids_for (suc (suc (suc (suc (suc (suc (suc (suc (suc (suc (suc (suc (suc (suc zero)))))))))))))) b = kids35
  kids_for (suc (suc (suc (suc (suc (suc (suc (suc (suc (suc (suc (suc (suc (suc (suc zero))))))))))))))) b = kids36
  kids_for (suc (suc (suc (suc (suc (suc (suc (suc (suc (suc (suc (suc (suc (suc (suc (suc zero)))))))))))))))) b = kids37
  kids_for (suc (suc (suc (suc (suc (suc (suc (suc (suc (suc (suc (suc (suc (suc (suc (suc (suc zero))))))))))))))))) b = kids38
  kids_for (suc (suc (suc (suc (suc (suc (suc (suc (suc (suc (suc (suc (suc (suc (suc (suc (suc (suc zero)))))))))))))))))) b = kids39
  kids_for (suc (suc (suc (suc (suc (suc (suc (suc (suc (suc (suc (suc (suc (suc (suc (suc (suc (suc (suc zero))))))))))))))))))) b = kids40
  kids_for (suc (suc (suc (suc (suc (suc (suc (suc (suc (suc (suc (suc (suc (suc (suc (suc (suc (suc (suc (suc zero)))))))))))))))))))) b = kids41
  kids_for (suc (suc (suc (suc (suc (suc (suc (suc (suc (suc (suc (suc (suc (suc (suc (suc (suc (suc (suc (suc (suc zero))))))))))))))))))))) b = kids42
  kids_for (suc (suc (suc (suc (suc (suc (suc (suc (suc (suc (suc (suc (suc (suc (suc (suc (suc (suc (suc (suc (suc (suc zero)))))))))))))))))))))) b = kids43
  kids_for (suc (suc (suc (suc (suc (suc (suc (suc (suc (suc (suc (suc (suc (suc (suc (suc (suc (suc (suc (suc (suc (suc (suc zero))))))))))))))))))))))) b = kids44
  kids_for (suc (suc (suc (suc (suc (suc (suc (suc (suc (suc (suc (suc (suc (suc (suc (suc (suc (suc (suc (suc (suc (suc (suc (suc zero)))))))))))))))))))))))) b = kids45
  kids_for (suc (suc (suc (suc (suc (suc (suc (suc (suc (suc (suc (suc (suc (suc (suc (suc (suc (suc (suc (suc (suc (suc (suc (suc (suc zero))))))))))))))))))))))))) b = kids46
  kids_for (suc (suc (suc (suc (suc (suc (suc (suc (suc (suc (suc (suc (suc (suc (suc (suc (suc (suc (suc (suc (suc (suc (suc (suc (suc (suc zero)))))))))))))))))))))))))) b = kids47
  kids_for (suc (suc (suc (suc (suc (suc (suc (suc (suc (suc (suc (suc (suc (suc (suc (suc (suc (suc (suc (suc (suc (suc (suc (suc (suc (suc (suc zero))))))))))))))))))))))))))) b = kids48
  kids_for (suc (suc (suc (suc (suc (suc (suc (suc (suc (suc (suc (suc (suc (suc (suc (suc (suc (suc (suc (suc (suc (suc (suc (suc (suc (suc (suc (suc zero)))))))))))))))))))))))))))) b = kids49
  kids_for (suc (suc (suc (suc (suc (suc (suc (suc (suc (suc (suc (suc (suc (suc (suc (suc (suc (suc (suc (suc (suc (suc (suc (suc (suc (suc (suc (suc (suc d))))))))))))))))))))))))))))) b = absurd (omega arith)

  kids_of : (t : ℕ) → 21 ≤ t → t ≤ 49 → Kids t
  kids_of t lo hi = subst Kids (omega arith) (kids_for (t - 21) (omega arith))

  -- A ROW'S REFERENCES PASS WHAT ITS CHILDREN PASS
  pub refs_pass : (m : Mode) (r l : List ℕ) → r ≡ row_of m l → key_of r ≡ NODE → (y : ℕ) → InN y (refs NODE r) → each_child c (tree_over (types s) (content_of s) sl es r) ≡ true → Pass y
  unfolding Kids key_of refs
  refs_pass m [] l e q y i k = elim i [ ]
  refs_pass m (t ∷ l) l' e q y i k =
      let (lo, hi) = tags_between NODE 21 49 t (omega arith) node_tags q in
      let rd = row_read m (t ∷ l) l' t e refl (omega (arith, lo)) (omega (arith, hi)) (λ z. absurd (omega (arith, z, lo))) in
      kids_of t lo hi l (λ g. row_exact m (t ∷ l) l' t e refl (omega (arith, lo)) (omega (arith, hi)) (λ z. absurd (omega (arith, z, lo))) g) rd.least y i k

-- ---- the slots under a node

module _ {m : Mode} {s : State} (h : Reached m s) (p q : ℕ) where
  slots_join : (a b : List (List ℕ)) → slots_by s p q a ≡ true → slots_by s p q b ≡ true → slots_by s p q (a ++ b) ≡ true
  slots_join [] b e f = f
  slots_join (r ∷ a) b e f = both (and_left (one r) (slots_by s p q a) e) (slots_join a b (and_right (one r) (slots_by s p q a) e) f)
    where
      one : List ℕ → Bool
      one r = not (is_slot r) || Test.fits (content_of s (slot_value p q (at r 1))) (type_in s (at r 0))

  slots_gathered : (us : List (List (List ℕ))) (l : List ℕ) → ((y : ℕ) → InN y l → slots_by s p q (get_or us y []) ≡ true) → slots_by s p q (gathered us l) ≡ true
  slots_gathered us [] k = refl
  slots_gathered us (n ∷ l) k = slots_join (get_or us n []) (gathered us l) (k n now') (slots_gathered us l (λ y i. k y (later' i)))

  abbrev sl : Ty → ℕ → Expr
  sl = linked (content_of s) p q

  abbrev grow : List Expr → List ℕ → Expr
  grow es r = tree_over (types s) (content_of s) sl es r

  -- where the tree of a node passes, the slots under it fit
  abbrev Under : List Expr → List (List (List ℕ)) → Type 0
  Under es us = (length es ≡ length us) × ((n : ℕ) → check (schema s) (get_or es n (err tbool)) ≡ true → slots_by s p q (get_or us n []) ≡ true)

  slot_fits : (es : List Expr) (r : List ℕ) → check (schema s) (grow es r) ≡ true → (not (is_slot r) || Test.fits (content_of s (slot_value p q (at r 1))) (type_in s (at r 0))) ≡ true
  slot_fits es [] e = refl
  slot_fits es (t ∷ l) e = go (is_slot (t ∷ l)) refl
    where
      go : (b : Bool) → is_slot (t ∷ l) ≡ b → (not b || Test.fits (content_of s (slot_value p q (get_or l 1 0))) (type_in s (get_or l 0 0))) ≡ true
      go false z = refl
      go true z = subst (λ x. check (schema s) (grow es (x ∷ l)) ≡ true) (eqb_true t 49 z) e

  new_under : (pre : List (List ℕ)) (r : List ℕ) (es : List Expr) (us : List (List (List ℕ))) → Was m s NODE pre r → Under es us → check (schema s) (grow es r) ≡ true → slots_by s p q (r ∷ gathered us (refs NODE r)) ≡ true
  new_under pre r es us w k e = both (slot_fits es r e) (slots_gathered us (refs NODE r) (λ y i. k.1 y
      (refs_pass s (check (schema s)) sl es m r w.line w.row w.key y i (and_right (check (schema s) (blank (grow es r))) (each_child (check (schema s)) (grow es r)) (sym (check_parts (schema s) (grow es r)) ∙ e)))))

  snoc_under : (es : List Expr) (us : List (List (List ℕ))) (x : Expr) (u : List (List ℕ)) → Under es us → (check (schema s) x ≡ true → slots_by s p q u ≡ true) → Under (es ++ (x ∷ [])) (us ++ (u ∷ []))
  snoc_under [] [] x u k f = (refl, go)
    where
      go : (n : ℕ) → check (schema s) (get_or (x ∷ []) n (err tbool)) ≡ true → slots_by s p q (get_or (u ∷ []) n []) ≡ true
      go zero e = f e
      go (suc n) e = refl
  snoc_under [] (v ∷ us) x u k f = let z = k.0 in absurd (omega (arith, z))
  snoc_under (y ∷ es) [] x u k f = let z = k.0 in absurd (omega (arith, z))
  snoc_under (y ∷ es) (v ∷ us) x u k f = let a = k.0 in let ih = snoc_under es us x u (omega (arith, a), λ n e. k.1 (suc n) e) f in (ap suc ih.0, go ih)
    where
      go : Under (es ++ (x ∷ [])) (us ++ (u ∷ [])) → (n : ℕ) → check (schema s) (get_or (y ∷ (es ++ (x ∷ []))) n (err tbool)) ≡ true → slots_by s p q (get_or (v ∷ (us ++ (u ∷ []))) n []) ≡ true
      go ih zero e = k.1 0 e
      go ih (suc n) e = ih.1 n e

  under_from_law : (pre rest : List (List ℕ)) (es : List Expr) (us : List (List (List ℕ))) → lines_of s NODE ≡ pre ++ rest → Under es us → Under (trees_from (types s) (content_of s) sl es rest) (under_from us rest)
  under_from_law pre [] es us e k = k
  under_from_law pre (r ∷ rest) es us e k = under_from_law (pre ++ (r ∷ [])) rest (es ++ (grow es r ∷ [])) (us ++ ((r ∷ gathered us (refs NODE r)) ∷ [])) (e ∙ sym (append_assoc pre (r ∷ []) rest))
      (snoc_under es us (grow es r) (r ∷ gathered us (refs NODE r)) k (new_under pre r es us (reached_history h NODE pre r rest e) k))

  -- THE SLOTS UNDER A NODE FIT WHERE ITS LINKED TREE IS TYPED
  pub slots_under : (n : ℕ) (A : Ty) → Typed (schema s) (get_or (exprs s p q) n (err tbool)) A → slots_by s p q (nodes_under s n) ≡ true
  unfolding exprs nodes_under
  slots_under n A ty = (under_from_law [] (lines_of s NODE) [] [] refl (refl, λ n e. refl)).1 n (check_complete (schema s) ty)

-- THE TREE THAT A LINK REFUSED WITH 7 WOULD MAKE HAS NO TYPE
pub link_untyped : {m : Mode} {s : State} → Reached m s → (l : List ℕ) → fault s (row_of m l) ≡ 7 → key_of (row_of m l) ≡ LINK
    → (A : Ty) → Typed (schema s) (get_or (exprs s (at (row_of m l) 1) (at (row_of m l) 2)) (at (line_at s POLICY (at (row_of m l) 0)) 2) (err tbool)) A → ⊥
unfolding by_content
link_untyped {m} {s} h l seven q A ty = no_true (sym (subst (λ k. by_content s (row_of m l) k ≡ false) q (refused_by_content h l seven)) ∙ slots_under h (at (row_of m l) 1) (at (row_of m l) 2) (at (line_at s POLICY (at (row_of m l) 0)) 2) A ty)
