-- Rows in words: by number, where they are left as they were, and one more. Assumes nothing.
use mathlib.Core.Path.{◌≡◌, refl, sym, ap, ap₂, ◌∙◌}
use mathlib.Core.Bool.{Bool, true, false, cond}
use mathlib.Core.List.{List, [], ◌∷◌}
use Prim.Native.Nat.{ℕ, zero, suc, ◌+◌, ◌≤◌, ◌<◌}
use native.Mathlib.Nat.{le_refl}
use native.Mathlib.Numerals.{add-one}
use native.Mathlib.Omega.{arith}
use borrow.Author.Tests.{ne_eqb}
use lib.Dec.{eqb}
use lib.ListN.{length, get_or, set, get_or-eq_default}
use Rattle.sheet.specs.Forms.{no_key, items, at, TEXT}
use Rattle.sheet.specs.State.{lines_of, line_at, count}
use Rattle.table.specs.Layout.{part, TOP, base, row_at, rows_at, rows_of, text_rows, lines_held, held, text_at, with_row}
pub use Rattle.forms.proofs.Keys.{limit_small}
pub use Rattle.forms.proofs.Table.{key_low}

-- of a `match` on numbers one after another
pub above : (k i : ℕ) → i ≤ k → (k ≡ i → ⊥) → suc i ≤ k
above k i h ne = omega arith

-- ---- rows by number

pub length_rows : (w : List ℕ) (i n : ℕ) → length (rows_at w i n) ≡ n
unfolding rows_at
length_rows w i zero = refl
length_rows w i (suc n) = ap suc (length_rows w (suc i) n)

rows_in : (w : List ℕ) (i m n : ℕ) → n < m → get_or (rows_at w i m) n [] ≡ row_at w (i + n)
unfolding rows_at
rows_in w i zero n h = absurd (omega arith)
rows_in w i (suc m) zero h = ap (row_at w) (omega arith)
rows_in w i (suc m) (suc n) h =
    let e : suc i + n ≡ i + suc n = omega arith in
    rows_in w (suc i) m n (omega arith) ∙ ap (row_at w) e

rows_out : (w : List ℕ) (i m n : ℕ) → m ≤ n → get_or (rows_at w i m) n [] ≡ []
rows_out w i m n h = get_or-eq_default (rows_at w i m) [] (rw (length_rows w i m) h)

pub row_at_is : (a : List ℕ) (i s e : ℕ) (q : List ℕ) → s ≡ get_or a i 0 → e ≡ get_or a (i + 1) 0 → q ≡ part a s e → q ≡ row_at a i
unfolding row_at
row_at_is a i s e q hs he hq = hq ∙ ap₂ (part a) hs (he ∙ ap (λ (j : ℕ). get_or a j 0) (add-one i))

pub row_none : (a : List ℕ) (k n m : ℕ) → m ≡ get_or a k 0 → m ≤ n → [] ≡ get_or (rows_of a k) n []
unfolding rows_of
row_none a k n m e h = sym (rows_out a (base k) (get_or a k 0) n (omega arith))

pub row_some : (a : List ℕ) (k n m b : ℕ) (q : List ℕ) → m ≡ get_or a k 0 → n < m → b ≡ base k → q ≡ row_at a (b + n) → q ≡ get_or (rows_of a k) n []
unfolding rows_of
row_some a k n m b q e h hb hq = hq ∙ ap (λ (x : ℕ). row_at a (x + n)) hb ∙ sym (rows_in a (base k) (get_or a k 0) n (omega arith))

-- ---- texts

text_at_law : (sheet : List ℕ) (rs : List (List ℕ)) (t : ℕ) → items (get_or (text_rows sheet rs) t []) ≡ part sheet (at (get_or rs t []) 0) (at (get_or rs t []) 0 + at (get_or rs t []) 1)
text_at_law sheet [] t = refl
text_at_law sheet (r ∷ rs) zero = refl
text_at_law sheet (r ∷ rs) (suc t) = text_at_law sheet rs t

pub text_is : (sheet a : List ℕ) (t : ℕ) (r q : List ℕ) → r ≡ get_or (rows_of a TEXT) t [] → q ≡ part sheet (at r 0) (at r 0 + at r 1) → q ≡ text_at sheet a t
unfolding text_at
text_is sheet a t r q hr hq = hq ∙ ap (λ (l : List ℕ). part sheet (at l 0) (at l 0 + at l 1)) hr ∙ sym (text_at_law sheet (rows_of a TEXT) t)

-- ---- a list by places

abbrev pub tab : {A : Type 0} → (ℕ → A) → ℕ → ℕ → List A
tab f i zero = []
tab f i (suc n) = f i ∷ tab f (suc i) n

module _ {A : Type 0} where
  pub length_tab : (f : ℕ → A) (i n : ℕ) → length (tab f i n) ≡ n
  length_tab f i zero = refl
  length_tab f i (suc n) = ap suc (length_tab f (suc i) n)

  pub get_d_tab : (f : ℕ → A) (i n k : ℕ) (d : A) → k < n → get_or (tab f i n) k d ≡ f (i + k)
  get_d_tab f i zero k d h = absurd (omega arith)
  get_d_tab f i (suc n) zero d h = let e : i ≡ i + 0 = omega arith in ap f e
  get_d_tab f i (suc n) (suc k) d h =
      let e : suc i + k ≡ i + suc k = omega arith in
      get_d_tab f (suc i) n k d (omega arith) ∙ ap f e

  pub tab_same : (f g : ℕ → A) (i n : ℕ) → ((k : ℕ) → i ≤ k → k < i + n → f k ≡ g k) → tab f i n ≡ tab g i n
  tab_same f g i zero h = refl
  tab_same f g i (suc n) h = ap₂ (λ (x : A) (l : List A). x ∷ l) (h i (le_refl i) (omega arith)) (tab_same f g (suc i) n (λ k l m. h k (omega arith) (omega arith)))

  pub set_tab : (f g : ℕ → A) (i n k : ℕ) (y : A) → k < n → g (i + k) ≡ y → ((j : ℕ) → i ≤ j → j < i + n → (j ≡ i + k → ⊥) → g j ≡ f j) → set (tab f i n) k y ≡ tab g i n
  set_tab f g i zero k y h e o = absurd (omega arith)
  set_tab f g i (suc n) zero y h e o =
      let z : i + 0 ≡ i = omega arith in
      ap₂ (λ (x : A) (l : List A). x ∷ l) (sym e ∙ ap g z) (tab_same f g (suc i) n (λ k l m. sym (o k (omega arith) (omega arith) (omega arith))))
  set_tab f g i (suc n) (suc k) y h e o =
      let z : i + suc k ≡ suc i + k = omega arith in
      ap₂ (λ (x : A) (l : List A). x ∷ l) (sym (o i (le_refl i) (omega arith) (omega arith)))
      (set_tab f g (suc i) n k y (omega arith) (sym (ap g z) ∙ e) (λ j l m p. o j (omega arith) (omega arith) (λ q. p (q ∙ z))))

pub zero_plus : (k : ℕ) → 0 + k ≡ k
zero_plus k = omega arith

-- ---- the state that words hold

pub length_texts : (sheet : List ℕ) (rs : List (List ℕ)) → length (text_rows sheet rs) ≡ length rs
length_texts sheet [] = refl
length_texts sheet (r ∷ rs) = ap suc (length_texts sheet rs)

pub count_rows : (a : List ℕ) (k : ℕ) → length (rows_of a k) ≡ get_or a k 0
unfolding rows_of
count_rows a k = length_rows a (base k) (get_or a k 0)

abbrev pub lines_in : List ℕ → List ℕ → ℕ → List (List ℕ)
lines_in sheet w k = cond (eqb k TEXT) (text_rows sheet (rows_of w k)) (rows_of w k)

pub lines_tab : (sheet w : List ℕ) → lines_held sheet w ≡ tab (lines_in sheet w) 0 no_key
unfolding lines_held
lines_tab sheet w = refl

pub lines_of_law : (sheet w b : List ℕ) (k : ℕ) → k < no_key → lines_of (held sheet w b) k ≡ lines_in sheet w k
unfolding held
lines_of_law sheet w b k h =
    ap (λ (l : List (List (List ℕ))). get_or l k []) (lines_tab sheet w) ∙ get_d_tab (lines_in sheet w) 0 no_key k [] h ∙ ap (lines_in sheet w) (zero_plus k)

pub length_lines : (sheet w : List ℕ) (k : ℕ) → length (lines_in sheet w k) ≡ get_or w k 0
length_lines sheet w k = go (eqb k TEXT)
  where
    go : (t : Bool) → length (cond t (text_rows sheet (rows_of w k)) (rows_of w k)) ≡ get_or w k 0
    go true = length_texts sheet (rows_of w k) ∙ count_rows w k
    go false = count_rows w k

pub lines_held_law : (sheet a b : List ℕ) (k : ℕ) → k < no_key → (k ≡ TEXT → ⊥) → lines_of (held sheet a b) k ≡ rows_of a k
lines_held_law sheet a b k h n = lines_of_law sheet a b k h ∙ rw (ne_eqb k TEXT n) refl

pub texts_held : (sheet a b : List ℕ) → lines_of (held sheet a b) TEXT ≡ text_rows sheet (rows_of a TEXT)
unfolding held lines_held
texts_held sheet a b = refl

pub text_held : (sheet a b : List ℕ) (t : ℕ) → text_at sheet a t ≡ items (line_at (held sheet a b) TEXT t)
unfolding text_at held lines_held
text_held sheet a b t = refl

pub count_held : (sheet a b : List ℕ) (k : ℕ) → k < no_key → count (held sheet a b) k ≡ get_or a k 0
count_held sheet a b k h = ap length (lines_of_law sheet a b k h) ∙ length_lines sheet a k

-- ---- a row more

pub with_row_is : (a : List ℕ) (k e top n b : ℕ) (w₁ w₂ w₃ w₄ : List ℕ) → top ≡ get_or a TOP 0 → n ≡ get_or a k 0 → b ≡ base k
    → w₁ ≡ set a (b + n) top → w₂ ≡ set w₁ (b + n + 1) e → w₃ ≡ set w₂ k (n + 1) → w₄ ≡ set w₃ TOP e → w₄ ≡ with_row a k e
unfolding with_row
with_row_is a k e top n b w₁ w₂ w₃ w₄ ht hn hb h₁ h₂ h₃ h₄ = rw (h₄, h₃, h₂, h₁, add-one (b + n), add-one n, hb, hn, ht)
