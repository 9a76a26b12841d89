-- After a line without fault another of its key may come. Assumes nothing.
use mathlib.Core.Path.{◌≡◌, refl, sym, ap, ap₂, subst, ◌∙◌}
use mathlib.Core.Logic.{◌⊎◌, inl, inr}
use mathlib.Core.Bool.{Bool, true, false, cond, ◌&&◌}
use mathlib.Core.Option.{Option, none, some}
use mathlib.Core.List.{List, [], ◌∷◌, ◌++◌}
use Prim.Native.Nat.{ℕ, zero, suc, ◌<◌}
use native.Mathlib.Nat.{le_refl}
use native.Mathlib.Omega.{arith}
use native.Mathlib.Decide.{ℕ_discrete}
use borrow.Author.Tests.{eqb-true}
use lib.Dec.{leb, eqb}
use lib.ListN.{length, get_or, take, drop, set}
use lib.Seq.{get_or-set_other, take-set-le, drop-set-lt}
use Rattle.cedar.proofs.Tools.{and_left}
use Rattle.sheet.specs.Ascii.{ascii}
use Rattle.sheet.specs.Bytes.{same, split}
use Rattle.sheet.specs.Forms.{Mode, Form, no_form, forms, form_of, form_in, tag_of, heading, key_of, counted, items_from, or_empty, row_of_text, row_headed, row_of_value, TEXT, KIND, SHAPE, no_key}
use Rattle.sheet.specs.State.{State, empty, lines_of, count, lengths, counts}
use Rattle.sheet.specs.Sheet.{least, reach, enough, all_zero, in_order, fault, more}
use Rattle.sheet.proofs.reading.Lines.{passed}
use Rattle.judge.proofs.Judging.{line_key}
use Rattle.take.proofs.Taking.{fault_none}

-- ---- the order of keys with a line more

lengths_set : (ls : List (List (List ℕ))) (k : ℕ) (x : List (List ℕ)) → lengths (set ls k x) ≡ set (lengths ls) k (length x)
lengths_set [] k x = refl
lengths_set (l ∷ ls) zero x = refl
lengths_set (l ∷ ls) (suc k) x = ap (λ (r : List ℕ). length l ∷ r) (lengths_set ls k x)

-- no key before the kinds' needs more lines for more kinds
before_kinds : (c : List ℕ) (n m : ℕ) → reach (take KIND c) (set (least empty) SHAPE n) ≡ reach (take KIND c) (set (least empty) SHAPE m)
before_kinds [] n m = refl
before_kinds (x ∷ []) n m = refl
before_kinds (x ∷ y ∷ c) n m = refl

module _ (s : State) (r : List ℕ) where
  counts_more : counts (more s r) ≡ set (counts s) (key_of r) (length (lines_of s (key_of r) ++ (r ∷ [])))
  unfolding more
  counts_more = lengths_set s.lines (key_of r) (lines_of s (key_of r) ++ (r ∷ []))

  before_more : take (key_of r) (counts (more s r)) ≡ take (key_of r) (counts s)
  before_more = ap (take (key_of r)) counts_more ∙ take-set-le (key_of r) (counts s) (key_of r) (length (lines_of s (key_of r) ++ (r ∷ []))) (le_refl (key_of r))

  after_more : drop (suc (key_of r)) (counts (more s r)) ≡ drop (suc (key_of r)) (counts s)
  after_more = ap (drop (suc (key_of r))) counts_more ∙ drop-set-lt (suc (key_of r)) (counts s) (key_of r) (length (lines_of s (key_of r) ++ (r ∷ []))) (omega arith)

  kinds_more : (key_of r ≡ KIND → ⊥) → count (more s r) KIND ≡ count s KIND
  unfolding more
  kinds_more n = ap length (get_or-set_other s.lines (key_of r) KIND (lines_of s (key_of r) ++ (r ∷ [])) [] (λ e. n (sym e)))

  enough_more : enough (more s r) (key_of r) ≡ enough s (key_of r)
  enough_more = ap (λ (c : List ℕ). reach c (set (least empty) SHAPE (count (more s r) KIND))) before_more ∙ go (ℕ_discrete (key_of r) KIND)
    where
      go : Dec (key_of r ≡ KIND) → reach (take (key_of r) (counts s)) (set (least empty) SHAPE (count (more s r) KIND)) ≡ reach (take (key_of r) (counts s)) (set (least empty) SHAPE (count s KIND))
      go (yes e) =
          subst (λ (k : ℕ). reach (take k (counts s)) (set (least empty) SHAPE (count (more s r) KIND)) ≡ reach (take k (counts s)) (set (least empty) SHAPE (count s KIND))) (sym e)
          (before_kinds (counts s) (count (more s r) KIND) (count s KIND))
      go (no n) = ap (λ (m : ℕ). reach (take (key_of r) (counts s)) (set (least empty) SHAPE m)) (kinds_more n)

  order_more : in_order s (key_of r) ≡ true → in_order (more s r) (key_of r) ≡ true
  order_more h = ap₂ (λ (c : List ℕ) (b : Bool). all_zero c && b) after_more enough_more ∙ h

-- before the first line one of the first key may come
pub order_first : in_order empty 0 ≡ true
order_first = refl

-- ---- the key of a row

-- the form of a key and constructor has that key, where there is one
form_with : (f : Form) (fs : List Form) (k n : ℕ) (w : List ℕ) (t : Bool) → (eqb k f.key && same w (ascii f.name)) ≡ t → ((get_or fs n no_form).key ≡ k) ⊎ ((get_or fs n no_form).key ≡ no_key)
    → ((get_or (f ∷ fs) (cond t 0 (suc n)) no_form).key ≡ k) ⊎ ((get_or (f ∷ fs) (cond t 0 (suc n)) no_form).key ≡ no_key)
form_with f fs k n w true e h = inl (sym (eqb-true k f.key (and_left (eqb k f.key) (same w (ascii f.name)) e)))
form_with f fs k n w false e h = h

form_key : (fs : List Form) (k : ℕ) (w : List ℕ) → ((get_or fs (form_in k w fs) no_form).key ≡ k) ⊎ ((get_or fs (form_in k w fs) no_form).key ≡ no_key)
form_key [] k w = inr refl
form_key (f ∷ fs) k w = form_with f fs k (form_in k w fs) w (eqb k f.key && same w (ascii f.name)) refl (form_key fs k w)

one_of : (x k : ℕ) → (x ≡ k) ⊎ (x ≡ no_key) → x < no_key → x ≡ k
one_of x k (inl e) h = e
one_of x k (inr e) h = absurd (omega arith)

module _ (m : Mode) (k : ℕ) (v : List ℕ) where
  abbrev name : List ℕ
  name = (heading k (split 44 v)).name

  abbrev parts : List (List ℕ)
  parts = (heading k (split 44 v)).items

  text_key : (c : Bool) → k ≡ TEXT → (cond c (1 ∷ v) [] ≡ [] → ⊥) → key_of (cond c (1 ∷ v) []) ≡ k
  unfolding key_of form_of forms
  text_key true e n = sym e
  text_key false e n = absurd (n refl)

  other_key : (c : Bool) (o : Option (List ℕ)) → (cond c (or_empty (tag_of k name) o) [] ≡ [] → ⊥) → key_of (cond c (or_empty (tag_of k name) o) []) < no_key → key_of (cond c (or_empty (tag_of k name) o) []) ≡ k
  unfolding key_of form_of tag_of
  other_key true none n h = absurd (n refl)
  other_key true (some l) n h = one_of (key_of (tag_of k name ∷ l)) k (form_key forms k name) h
  other_key false o n h = absurd (n refl)

  row_key : (b : Bool) → eqb k TEXT ≡ b → (cond b (row_of_text v) (row_headed m k (heading k (split 44 v))) ≡ [] → ⊥) → key_of (cond b (row_of_text v) (row_headed m k (heading k (split 44 v)))) < no_key
      → key_of (cond b (row_of_text v) (row_headed m k (heading k (split 44 v)))) ≡ k
  row_key true e n h = text_key (leb (length v) 128) (eqb-true k TEXT e) n
  row_key false e n h = other_key (counted (tag_of k name) (length parts)) (items_from m (tag_of k name) 0 parts) n h

  -- a line without fault
  module _ (s : State) (e : fault s (row_of_value m k v) ≡ 0) where
    pub own_key : key_of (row_of_value m k v) ≡ k
    own_key = row_key (eqb k TEXT) refl (λ z. absurd (omega (arith, fault_none s (row_of_value m k v) z, e))) (line_key s (key_of (row_of_value m k v)) (passed s (row_of_value m k v) e).room)

    pub order_after : in_order (more s (row_of_value m k v)) k ≡ true
    order_after = subst (λ (x : ℕ). in_order (more s (row_of_value m k v)) x ≡ true) own_key (order_more s (row_of_value m k v) (passed s (row_of_value m k v) e).order)
