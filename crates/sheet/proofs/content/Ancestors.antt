-- The ancestors of an entity line of an accepted sheet: values that are there, of kinds above it.
use mathlib.Core.Path.{◌≡◌, refl, sym, ◌∙◌, ap, subst}
use mathlib.Core.Bool.{Bool, true, false, cond}
use mathlib.Core.Option.{none, some, some-injective}
use mathlib.Core.List.{List, [], ◌∷◌, ◌++◌}
use Prim.Native.Nat.{ℕ, zero, suc, ◌<◌, ◌≤◌}
use native.Mathlib.Omega.{arith}
use borrow.Author.Tests.{ltb-true, ltb-false, le-ltb, eq-eqb}
use lib.Dec.{ltb, eqb}
use lib.ListN.{length, take, get_or, get_or-eq_default}
use Rattle.cedar.proofs.Tools.{no_true, no_some, eqb_true, or_left, or_right, either, and_both}
use Rattle.cedar.specs.Value.{Value, vbool}
use Rattle.cedar.proofs.CanonicalLaws.{Mem, here, there, ascending_sorted, ascending_in, ascending_out, sorted_ext}
use Rattle.cedar.specs.Rows.{rent}
use Rattle.cedar.specs.Table.{Elems, elem0, elem1}
use Rattle.cedar.specs.Numbered.{mem_n, r_ent, is_rent}
use Rattle.sheet.specs.Forms.{Mode, partial, complete, at, VALUE, ENTITY}
use Rattle.sheet.specs.State.{State, lines_of, entity_lines, count, value_row, value_at}
use Rattle.sheet.specs.Parents.{line_for, unknown_above}
use Rattle.sheet.specs.Typing.{above_of, all_in, ancestor_fits}
use Rattle.sheet.specs.Sheet.{reached_fit, first_unfit}
use Rattle.sheet.specs.Content.{members_over, set_over, above, known_above}
use Rattle.sheet.proofs.reading.Lines.{AllFit, History}
use Rattle.sheet.proofs.reading.Limits.{most_lines}
use Rattle.sheet.proofs.content.ValueRows.{at_get_d}
use Rattle.sheet.proofs.reading.RowTests.{on_ent_law}

-- ---- every entity line reaches only kinds above it

lines_fit : (s : State) (pre : List (List ℕ)) (r : List ℕ) (rest : List (List ℕ)) → ltb (first_unfit s (pre ++ (r ∷ rest))) (length (pre ++ (r ∷ rest))) ≡ false → reached_fit s r ≡ true
lines_fit s [] r rest e = go (reached_fit s r) (ltb-false _ _ e)
  where
    go : (b : Bool) → suc (length rest) ≤ cond b (suc (first_unfit s rest)) 0 → b ≡ true
    go true h = refl
    go false h = absurd (omega (arith, h))
lines_fit s (x ∷ pre) r rest e = go (reached_fit s x) (ltb-false _ _ e) (λ h. lines_fit s pre r rest (le-ltb _ _ h))
  where
    go : (b : Bool) → suc (length (pre ++ (r ∷ rest))) ≤ cond b (suc (first_unfit s (pre ++ (r ∷ rest)))) 0 → (length (pre ++ (r ∷ rest)) ≤ first_unfit s (pre ++ (r ∷ rest)) → reached_fit s r ≡ true) → reached_fit s r ≡ true
    go true h f = f (omega (arith, h))
    go false h f = absurd (omega (arith, h))

pub all_in_at : (f : ℕ → Bool) (l : List ℕ) (y : ℕ) → all_in f l ≡ true → mem_n y l ≡ true → f y ≡ true
all_in_at f [] y e i = no_true i
all_in_at f (x ∷ l) y e i = and_both (f x) (all_in f l) e (λ a b. either (eqb y x) (mem_n y l) i (λ q. subst (λ z. f z ≡ true) (sym (eqb_true y x q)) a) (λ q. all_in_at f l y b q))

module _ (s : State) (fit : AllFit s) (pre : List (List ℕ)) (r : List ℕ) (rest : List (List ℕ)) (e : lines_of s ENTITY ≡ pre ++ (r ∷ rest)) where
  reached_fit_law : reached_fit s r ≡ true
  reached_fit_law = lines_fit s pre r rest (subst (λ l. ltb (first_unfit s l) (length l) ≡ false) e fit)

  -- of kind k
  pub above_fit : (k t : ℕ) → value_at s (at r 0) ≡ rent k t → all_in (ancestor_fits s k) (above s (at r 0)) ≡ true
  above_fit k t q = subst (λ v. r_ent false v (λ k t. all_in (ancestor_fits s k) (above s (at r 0))) ≡ true) q reached_fit_law

  -- a value that is there
  pub above_small : (y : ℕ) → mem_n y (above s (at r 0)) ≡ true → y < count s VALUE
  above_small y i = on_ent_law (value_at s (at r 0)) (λ k t. all_in (ancestor_fits s k) (above s (at r 0))) reached_fit_law (λ k t q g. on_ent_law (value_at s y) (λ l t. mem_n l (above_of s k)) (all_in_at (ancestor_fits s k) (above s (at r 0)) y g i) (λ l u p h. go (ltb y (count s VALUE)) refl p))
    where
      go : {l u : ℕ} (b : Bool) → ltb y (count s VALUE) ≡ b → value_at s y ≡ rent l u → y < count s VALUE
      go true z p = ltb-true y (count s VALUE) z
      go false z p = no_true (sym (ap (λ l. is_rent (value_row l)) (get_or-eq_default (lines_of s VALUE) [] (ltb-false y (count s VALUE) z))) ∙ ap is_rent p)

-- ---- by content

pub elems_over : (C : List Value) (l : List ℕ) → ((y : ℕ) → mem_n y l ≡ true → y < length C) → Elems C l (members_over C l)
elems_over C [] f = elem0
elems_over C (n ∷ l) f = elem1 (at_get_d C n (vbool false) (f n (or_left (eqb n n) (mem_n n l) (eq-eqb n n refl)))) (elems_over C l (λ y i. f y (or_right (eqb y n) (mem_n y l) i)))

-- where they are known they are what is reached
pub known_above_law : (m : Mode) (s : State) (n : ℕ) (l : List ℕ) → known_above m s n ≡ some l → above s n ≡ l
known_above_law partial s n l e = go (unknown_above (lines_of s VALUE) (entity_lines s) n) e
  where
    go : (b : Bool) → cond b none (some (above s n)) ≡ some l → above s n ≡ l
    go true e = no_some e
    go false e = some-injective _ _ e
known_above_law complete s n l e = some-injective _ _ e

-- ---- equal sets

members_in : (C : List Value) (l : List ℕ) (y : ℕ) → mem_n y l ≡ true → Mem (get_or C y (vbool false)) (members_over C l)
members_in C [] y i = no_true i
members_in C (n ∷ l) y i = either (eqb y n) (mem_n y l) i (λ q. subst (λ z. Mem (get_or C z (vbool false)) (members_over C (n ∷ l))) (sym (eqb_true y n q)) here) (λ q. there (members_in C l y q))

members_out : {X : Type 0} (C : List Value) (l : List ℕ) {v : Value} → Mem v (members_over C l) → ((y : ℕ) → mem_n y l ≡ true → v ≡ get_or C y (vbool false) → X) → X
members_out C [] m f = elim m [ ]
members_out C (n ∷ l) here f = f n (or_left (eqb n n) (mem_n n l) (eq-eqb n n refl)) refl
members_out C (n ∷ l) (there m) f = members_out C l m (λ y i e. f y (or_right (eqb y n) (mem_n y l) i) e)

-- the same numbers, that stand for the same
pub same_set : (C D : List Value) (k l : List ℕ) → ((y : ℕ) → mem_n y k ≡ mem_n y l) → ((y : ℕ) → mem_n y l ≡ true → get_or C y (vbool false) ≡ get_or D y (vbool false)) → set_over C k ≡ set_over D l
same_set C D k l e f = sorted_ext (ascending_sorted (members_over C k)) (ascending_sorted (members_over D l))
    (λ v m. ascending_in (members_out C k (ascending_out (members_over C k) m) (λ y i q. subst (λ z. Mem z (members_over D l)) (sym (q ∙ f y (sym (e y) ∙ i))) (members_in D l y (sym (e y) ∙ i)))))
    (λ v m. ascending_in (members_out D l (ascending_out (members_over D l) m) (λ y i q. subst (λ z. Mem z (members_over C k)) (sym (q ∙ sym (f y i))) (members_in C k y (e y ∙ i)))))

-- ---- a line by its number

pub line_found_law : {X : Type 0} (n : ℕ) (rs : List (List ℕ)) (r : List ℕ) → line_for n rs ≡ some r → ((pre rest : List (List ℕ)) → rs ≡ pre ++ (r ∷ rest) → at r 0 ≡ n → X) → X
line_found_law n [] r q f = no_some q
line_found_law {X} n (x ∷ rs) r q f = go (eqb (at x 0) n) refl (line_found_law n rs r) q
  where
    go : (b : Bool) → eqb (at x 0) n ≡ b → (line_for n rs ≡ some r → ((pre rest : List (List ℕ)) → rs ≡ pre ++ (r ∷ rest) → at r 0 ≡ n → X) → X) → cond b (some x) (line_for n rs) ≡ some r → X
    go true p ih q = let z : x ≡ r = some-injective x r q in f [] rs (ap (λ i. i ∷ rs) z) (ap (λ i. at i 0) (sym z) ∙ eqb_true (at x 0) n p)
    go false p ih q = ih q (λ pre rest a b. f (x ∷ pre) rest (ap (λ i. x ∷ i) a) b)

-- ---- no line is cut

take_most : {A : Type 0} (n : ℕ) (l : List A) → length l ≤ n → take n l ≡ l
take_most zero [] h = refl
take_most zero (x ∷ l) h = absurd (omega (arith, h))
take_most (suc n) [] h = refl
take_most (suc n) (x ∷ l) h = ap (λ z. x ∷ z) (take_most n l (omega (arith, h)))

pub all_lines : (m : Mode) (s : State) → History m s → entity_lines s ≡ lines_of s ENTITY
all_lines m s h = take_most 128 (lines_of s ENTITY) (most_lines m s h).entities
