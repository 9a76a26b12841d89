-- A text's row, and a name among others, as the code looks for them. Assumes nothing.
use mathlib.Core.Path.{◌≡◌, refl, sym, ap, ◌∙◌}
use mathlib.Core.Bool.{Bool, true, false, ◌||◌}
use mathlib.Core.List.{List, [], ◌∷◌}
use Prim.Native.Nat.{ℕ, ◌+◌, ◌≤◌, ◌<◌}
use native.Mathlib.Numerals.{add-one}
use native.Mathlib.Omega.{arith}
use borrow.Author.Tests.{eq-eqb}
use lib.Dec.{eqb}
use lib.ListN.{length, get_or, drop, drop_of_length-le}
use lib.Seq.{drop-cons}
use Rattle.cedar.specs.Numbered.{mem_n}
use Rattle.sheet.specs.Bytes.{same}
use Rattle.sheet.specs.Forms.{tag}
use Rattle.sheet.specs.Sheet.{firsts}
use Rattle.table.specs.Layout.{part, rows_of, text_row}
use Rattle.table.proofs.Rows.{count_rows}
use Rattle.forms.specs.Tags.{TEXT_LINE}

-- ---- a row among others

pub row_of_law : (a : List ℕ) (k n i : ℕ) → n ≡ get_or a k 0 → i < n → i < length (rows_of a k)
row_of_law a k n i e h = omega (arith, count_rows a k)

rows_end : (a : List ℕ) (k n i : ℕ) → n ≡ get_or a k 0 → n ≤ i → drop i (rows_of a k) ≡ []
rows_end a k n i e h = drop_of_length-le (rows_of a k) {i = i} (omega (arith, count_rows a k))

module _ (a : List ℕ) (k n i : ℕ) (hn : n ≡ get_or a k 0) where
  rows_on : (x : List ℕ) → i < n → x ≡ get_or (rows_of a k) i [] → drop i (rows_of a k) ≡ x ∷ drop (i + 1) (rows_of a k)
  rows_on x h e = rw (drop-cons (rows_of a k) i [] (row_of_law a k n i hn h), ← e, add-one i) refl

-- ---- a text's row

pub text_same : (sheet q text : List ℕ) (t s n : ℕ) (b : Bool) (x : List ℕ) → t ≡ tag q → t ≡ TEXT_LINE → s ≡ get_or q 1 0 → n ≡ get_or q 2 0 → x ≡ part sheet s (s + n) → b ≡ same text x
    → b ≡ same (TEXT_LINE ∷ text) (text_row sheet q)
text_same sheet q text t s n b x e o hs hn hx hb = hb ∙ sym (rw (← e, eq-eqb TEXT_LINE t (sym o), ← hs, ← hn, ← hx) refl)

-- ---- a name among others

pub record Named (x : ℕ) (a : List ℕ) (k i : ℕ) : Type 0 where
  pub left : mem_n x (firsts (rows_of a k)) ≡ mem_n x (firsts (drop i (rows_of a k)))

module _ (x : ℕ) (a : List ℕ) (k n i : ℕ) (s : Named x a k i) (hn : n ≡ get_or a k 0) where
  module _ (q : List ℕ) (y : ℕ) (h : i < n) (hq : q ≡ get_or (rows_of a k) i []) (hy : y ≡ get_or q 1 0) where
    named_at : mem_n x (firsts (rows_of a k)) ≡ (eqb x y || mem_n x (firsts (drop (i + 1) (rows_of a k))))
    named_at = s.left ∙ rw (rows_on a k n i hn q h hq, ← hy) refl

    pub named_found : x ≡ y → true ≡ mem_n x (firsts (rows_of a k))
    named_found e = sym (named_at ∙ rw (eq-eqb x y e) refl)

  pub named_end : n ≤ i → false ≡ mem_n x (firsts (rows_of a k))
  named_end h = sym (s.left ∙ ap (λ (l : List (List ℕ)). mem_n x (firsts l)) (rows_end a k n i hn h))
