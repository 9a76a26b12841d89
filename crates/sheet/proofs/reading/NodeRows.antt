-- What was read of a row's items: each is there, and an index is below a mark.
use mathlib.Core.Path.{◌≡◌, refl, sym, ◌∙◌, ap, subst}
use mathlib.Core.Bool.{Bool, true, false, cond, not, ◌&&◌, ◌||◌}
use mathlib.Core.Option.{Option, none, some}
use mathlib.Core.List.{List, [], ◌∷◌, ◌++◌}
use Prim.Native.Nat.{ℕ, zero, suc, ◌<◌, ◌≤◌, ◌+◌, ◌-◌, ◌%◌}
use native.Mathlib.Nat.{le_of_suc-le-suc, add-zero}
use native.Mathlib.Omega.{arith}
use borrow.Author.Tests.{leb-true, ltb-true}
use lib.Dec.{leb, ltb, eqb}
use lib.ListN.{length, get_or}
use Rattle.cedar.proofs.Tools.{no_true, no_some, eqb_true}
use Rattle.sheet.specs.Bytes.{at_most, decimal}
use Rattle.sheet.specs.Forms.{Mode, complete, Slot, Form, line, line_unknown, nothing, forms, form_of, slot_in, slot_at, counted_in, counted, item, one, joined, items_from, tag, items, at, row_of, no_tag}
use Rattle.sheet.specs.State.{State}
use Rattle.sheet.specs.Sheet.{all_there, there_is}
use Rattle.sheet.proofs.reading.Lines.{and_both}
use Rattle.sheet.proofs.reading.Parsed.{parsed, all_below, all_below_law}
use Rattle.sheet.proofs.content.ValueRows.{is_number, items_length, some_is, item_length}

-- ---- forms without longs

abbrev pub no_numbers : List Slot → Bool
no_numbers [] = true
no_numbers (s ∷ l) = not (is_number s) && no_numbers l

not_number : (l : List Slot) (n : ℕ) → no_numbers l ≡ true → is_number (get_or l n nothing) ≡ false
unfolding is_number
not_number [] n e = refl
not_number (s ∷ l) zero e = and_both (not (is_number s)) (no_numbers l) e (λ p q. go (is_number s) p)
  where
    go : (b : Bool) → not b ≡ true → b ≡ false
    go true p = no_true p
    go false p = refl
not_number (s ∷ l) (suc n) e = and_both (not (is_number s)) (no_numbers l) e (λ p q. not_number l n q)

slot_plain : (f : Form) (j : ℕ) → no_numbers f.items ≡ true → no_numbers f.group ≡ true → is_number (slot_in f j) ≡ false
slot_plain f j a b = go (ltb j (length f.items))
  where
    go : (c : Bool) → is_number (cond c (get_or f.items j nothing) (get_or f.group ((j - length f.items) % length f.group) nothing)) ≡ false
    go true = not_number f.items j a
    go false = not_number f.group ((j - length f.items) % length f.group) b

-- only `value=long` has one
abbrev plain_tag : ℕ → Bool
plain_tag t = eqb t 11 || (no_numbers (form_of t).items && no_numbers (form_of t).group)

plain_tags : all_below plain_tag no_tag ≡ true
unfolding form_of forms is_number
plain_tags = refl

pub plain_slots : (t : ℕ) → t < no_tag → (t ≡ 11 → ⊥) → (j : ℕ) → is_number (slot_at t j) ≡ false
unfolding slot_at
plain_slots t lt n j = go (eqb t 11) refl (all_below_law plain_tag no_tag t plain_tags lt)
  where
    go : (b : Bool) → eqb t 11 ≡ b → (b || (no_numbers (form_of t).items && no_numbers (form_of t).group)) ≡ true → is_number (slot_in (form_of t) j) ≡ false
    go true p q = absurd (n (eqb_true t 11 p))
    go false p q = and_both (no_numbers (form_of t).items) (no_numbers (form_of t).group) q (slot_plain (form_of t) j)

-- ---- each item at its place

counted_least : (f : Form) (n : ℕ) → counted_in f n ≡ true → length f.items ≤ n
counted_least f n e = go (eqb n (length f.items)) refl e
  where
    go : (x : Bool) → eqb n (length f.items) ≡ x → (x || (ltb (length f.items) n && ltb 0 (length f.group) && eqb ((n - length f.items) % length f.group) 0)) ≡ true → length f.items ≤ n
    go true p q = let z = eqb_true n (length f.items) p in omega (arith, z)
    go false p q = and_both (ltb (length f.items) n && ltb 0 (length f.group)) (eqb ((n - length f.items) % length f.group) 0) q (λ a b.
        and_both (ltb (length f.items) n) (ltb 0 (length f.group)) a (λ x y. let z = ltb-true (length f.items) n x in omega (arith, z)))

single : (k : List ℕ) → length k ≡ 1 → k ≡ get_or k 0 0 ∷ []
single [] e = absurd (omega (arith, e))
single (x ∷ []) e = refl
single (x ∷ y ∷ k) e = absurd (omega (arith, e))

join_one : (k : List ℕ) (n : List ℕ) (i : ℕ) → length k ≡ 1 → get_or (k ++ n) (suc i) 0 ≡ get_or n i 0
join_one [] n i e = absurd (omega (arith, e))
join_one (x ∷ []) n i e = refl
join_one (x ∷ y ∷ k) n i e = absurd (omega (arith, e))

join_head : (k : List ℕ) (n : List ℕ) → length k ≡ 1 → get_or (k ++ n) 0 0 ≡ get_or k 0 0
join_head [] n e = absurd (omega (arith, e))
join_head (x ∷ k) n e = refl

module _ (m : Mode) (t : ℕ) (pl : (j : ℕ) → is_number (slot_at t j) ≡ false) where
  pub item_at : (j : ℕ) (fs : List (List ℕ)) (l : List ℕ) → items_from m t j fs ≡ some l → (i : ℕ) → i < length fs → item m (slot_at t (j + i)) (get_or fs i []) ≡ some (get_or l i 0 ∷ [])
  item_at j [] l e i lt = absurd (omega arith)
  item_at j (f ∷ fs) l e i lt = go (item m (slot_at t j) f) (items_from m t (suc j) fs) refl refl i lt (λ n q i lt. item_at (suc j) fs n q i lt) e
    where
      go : (o p : Option (List ℕ)) → item m (slot_at t j) f ≡ o → items_from m t (suc j) fs ≡ p → (i : ℕ) → i < suc (length fs)
          → ((n : List ℕ) → items_from m t (suc j) fs ≡ some n → (i : ℕ) → i < length fs → item m (slot_at t (suc j + i)) (get_or fs i []) ≡ some (get_or n i 0 ∷ []))
          → joined o p ≡ some l → item m (slot_at t (j + i)) (get_or (f ∷ fs) i []) ≡ some (get_or l i 0 ∷ [])
      go none p a b i lt ih q = no_some q
      go (some k) none a b i lt ih q = no_some q
      go (some k) (some n) a b zero lt ih q = let z = item_length m (slot_at t j) f (pl j) a in
          rw add-zero (a ∙ ap some (single k z ∙ ap (λ x. x ∷ []) (sym (join_head k n z) ∙ ap (λ x. get_or x 0 0) (some_is q))))
      go (some k) (some n) a b (suc i) lt ih q = let z = item_length m (slot_at t j) f (pl j) a in
          subst (λ x. item m (slot_at t x) (get_or fs i []) ≡ some (get_or l (suc i) 0 ∷ [])) (omega arith)
          (ih n b i (le_of_suc-le-suc lt) ∙ ap (λ x. some (x ∷ [])) (sym (join_one k n i z) ∙ ap (λ x. get_or x (suc i) 0) (some_is q)))

-- what was read at places that a form must have
pub record Read (m : Mode) (r : List ℕ) (t : ℕ) : Type 0 where
  pub tag_is : tag r ≡ t
  pub least : length (form_of t).items ≤ length (items r)
  pub field : ℕ → List ℕ
  pub reads : (j : ℕ) → j < length (form_of t).items → item m (slot_at t j) (field j) ≡ some (at r j ∷ [])

pub row_read : (m : Mode) (r l : List ℕ) (t : ℕ) → r ≡ row_of m l → tag r ≡ t → 2 ≤ t → t < no_tag → (t ≡ 11 → ⊥) → Read m r t
unfolding counted
row_read m r l t e k lo hi other = parsed m r (λ q. let z : no_tag ≡ t = sym (ap tag q) ∙ k in absurd (omega (arith, z))) (λ v q. let z : 1 ≡ t = sym (ap tag q) ∙ k in absurd (omega (arith, z)))
    (λ t' fs l c i q. let z : t' ≡ t = sym (ap tag q) ∙ k in
    let c' : counted t (length fs) ≡ true = subst (λ x. counted x (length fs) ≡ true) z c in
    let i' : items_from m t 0 fs ≡ some l = subst (λ x. items_from m x 0 fs ≡ some l) z i in
    let a : length (form_of t).items ≤ length fs = counted_least (form_of t) (length fs) c' in
    let b : length l ≡ length fs = items_length m t (plain_slots t hi other) 0 fs i' in
    let f : length (items r) ≡ length l = ap (λ x. length (items x)) q in
    record {
      tag_is = k;
      least = omega (arith, a, b, f);
      field = λ j. get_or fs j [];
      reads = λ j lt. subst (λ x. item m (slot_at t j) (get_or fs j []) ≡ some (x ∷ [])) (ap (λ x. at x j) (sym q))
          (subst (λ x. item m (slot_at t x) (get_or fs j []) ≡ some (get_or l j 0 ∷ [])) (omega arith) (item_at m t (plain_slots t hi other) 0 fs l i' j (omega (arith, a, lt))));
    })
    l e

-- an index is below a mark
pub head_is : {x y : ℕ} → some (x ∷ []) ≡ some (y ∷ []) → x ≡ y
head_is {x} e = ap (λ l. get_or l 0 x) (some_is e)

pub index_small : (o : Option ℕ) (x : ℕ) → one (at_most 9999 o) ≡ some (x ∷ []) → x ≤ 9999
index_small none x e = no_some e
index_small (some n) x e = go (leb n 9999) refl e
  where
    go : (b : Bool) → leb n 9999 ≡ b → one (cond b (some n) none) ≡ some (x ∷ []) → x ≤ 9999
    go true p q = let z = head_is q in let y = leb-true n 9999 p in omega (arith, z, y)
    go false p q = no_some q

pub line_small : (m : Mode) (sl : Slot) (k : ℕ) (f : List ℕ) (x : ℕ) → sl ≡ line k → item m sl f ≡ some (x ∷ []) → x ≤ 9999
line_small m sl k f x e q = index_small (decimal f) x (subst (λ z. item m z f ≡ some (x ∷ [])) e q)

-- on a complete sheet there is no `?`
pub known_small : (sl : Slot) (k : ℕ) (f : List ℕ) (x : ℕ) → sl ≡ line_unknown k → item complete sl f ≡ some (x ∷ []) → x ≤ 9999
known_small sl k f x e q = index_small (decimal f) x (subst (λ z. item complete z f ≡ some (x ∷ [])) e q)

-- an item that is there, at its place
pub there_at : (s : State) (t j : ℕ) (l : List ℕ) → all_there s t j l ≡ true → (i : ℕ) → i < length l → there_is s (slot_at t (j + i)) (get_or l i 0) ≡ true
there_at s t j [] e i lt = absurd (omega arith)
there_at s t j (x ∷ l) e zero lt = and_both (there_is s (slot_at t j) x) (all_there s t (suc j) l) e (λ p q. rw add-zero p)
there_at s t j (x ∷ l) e (suc i) lt = and_both (there_is s (slot_at t j) x) (all_there s t (suc j) l) e
    (λ p q. subst (λ z. there_is s (slot_at t z) (get_or l i 0) ≡ true) (omega arith) (there_at s t (suc j) l q i (le_of_suc-le-suc lt)))
