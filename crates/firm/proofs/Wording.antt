-- Rows as plain words: a row read, a row stored, and the loops of the call over them. Assumes nothing.
use mathlib.Core.Path.{◌≡◌, refl, sym, ap, ◌∙◌, subst}
use mathlib.Core.List.{List, [], ◌∷◌, ◌++◌}
use Prim.Native.Nat.{ℕ, zero, suc, ◌+◌, ◌*◌, ◌/◌, ◌≤◌, ◌<◌}
use native.Mathlib.Omega.{arith}
use lib.ListN.{length, get_or, set}
use lib.Seq.{sets}
use Rattle.sheet.specs.Call.{worked}
use Rattle.firm.specs.declared.Row as R
use Rattle.firm.specs.declared.Quote as Q
use Rattle.firm.specs.Parts.{Begins, check_of, Singles, join_of}
use Rattle.firm.specs.Words.{row_of, rows_of_words, spare, words_of_row, words_of_rows, row_from_def, QuotesWords}
use Rattle.firm.proofs.Quoting.{checking, Checking, checking_on, Deciding, deciding_start, decided_on, decided_all}

pub rows_count : (ws : List ℕ) → length (rows_of_words ws) ≡ length ws / 3
rows_count [] = omega arith
rows_count (p ∷ []) = omega arith
rows_count (p ∷ q ∷ []) = omega arith
rows_count (p ∷ q ∷ d ∷ ws) = let z = rows_count ws in omega (arith, z)

words_same : (ws : List ℕ) → ws ≡ words_of_rows (rows_of_words ws) ++ spare ws
words_same [] = refl
words_same (p ∷ []) = refl
words_same (p ∷ q ∷ []) = refl
words_same (p ∷ q ∷ d ∷ ws) = ap (λ (l : List ℕ). p ∷ q ∷ d ∷ l) (words_same ws)

-- ---- a row read

row_further : (p q d : ℕ) (ws : List ℕ) (i : ℕ) → row_from_def (p ∷ q ∷ d ∷ ws) (suc i) ≡ row_from_def ws i
unfolding row_from_def
row_further p q d ws i =
    let e₀ : suc i * 3 ≡ suc (suc (suc (i * 3))) = omega arith in
    let e₁ : suc i * 3 + 1 ≡ suc (suc (suc (i * 3 + 1))) = omega arith in
    let e₂ : suc i * 3 + 2 ≡ suc (suc (suc (i * 3 + 2))) = omega arith in
    λ k. row_of (get_or (p ∷ q ∷ d ∷ ws) (e₀ k) 0) (get_or (p ∷ q ∷ d ∷ ws) (e₁ k) 0) (get_or (p ∷ q ∷ d ∷ ws) (e₂ k) 0)

row_read : (rs : List R.Row) (t : List ℕ) (i : ℕ) (d : R.Row) → i < length rs → row_from_def (words_of_rows rs ++ t) i ≡ get_or rs i d
unfolding row_from_def
row_read [] t i d h = absurd (omega arith)
row_read (r ∷ rs) t zero d h = refl
row_read (r ∷ rs) t (suc i) d h = row_further r.principal r.resource r.decision (words_of_rows rs ++ t) i ∙ row_read rs t i d (omega arith)

pub row_of_words : (ws : List ℕ) (i : ℕ) (d : R.Row) → i < length ws / 3 → row_from_def ws i ≡ get_or (rows_of_words ws) i d
row_of_words ws i d h = ap (λ (l : List ℕ). row_from_def l i) (words_same ws) ∙ row_read (rows_of_words ws) (spare ws) i d (omega (arith, h, rows_count ws))

-- the rows of the words that are left are those that are left
no_rows : (ws : List ℕ) → rows_of_words (spare ws) ≡ []
no_rows [] = refl
no_rows (p ∷ []) = refl
no_rows (p ∷ q ∷ []) = refl
no_rows (p ∷ q ∷ d ∷ ws) = no_rows ws

pub rows_back_law : (rs : List R.Row) (ws : List ℕ) → rows_of_words (words_of_rows rs ++ spare ws) ≡ rs
rows_back_law [] ws = no_rows ws
rows_back_law (r ∷ rs) ws = ap (λ (l : List R.Row). r ∷ l) (rows_back_law rs ws)

-- ---- a row stored

sets_further : (x : ℕ) (l : List ℕ) (n : ℕ) (vs : List ℕ) → sets (x ∷ l) (suc n) vs ≡ x ∷ sets l n vs
sets_further x l n [] = refl
sets_further x l n (v ∷ vs) = sets_further x (set l n v) (suc n) vs

row_stored : (rs : List R.Row) (t : List ℕ) (i : ℕ) (r : R.Row) → i < length rs → sets (words_of_rows rs ++ t) (i * 3) (words_of_row r) ≡ words_of_rows (set rs i r) ++ t
row_stored [] t i r h = absurd (omega arith)
row_stored (s ∷ rs) t zero r h = refl
row_stored (s ∷ rs) t (suc i) r h =
    let l = words_of_rows rs ++ t in
    let e : suc i * 3 ≡ suc (suc (suc (i * 3))) = omega arith in
    ap (λ (n : ℕ). sets (words_of_rows (s ∷ rs) ++ t) n (words_of_row r)) e
    ∙ sets_further s.principal (s.resource ∷ s.decision ∷ l) (suc (suc (i * 3))) (words_of_row r)
    ∙ ap (λ (m : List ℕ). s.principal ∷ m) (sets_further s.resource (s.decision ∷ l) (suc (i * 3)) (words_of_row r)
    ∙ ap (λ (m : List ℕ). s.resource ∷ m) (sets_further s.decision l (i * 3) (words_of_row r)
    ∙ ap (λ (m : List ℕ). s.decision ∷ m) (row_stored rs t i r (omega arith))))

-- ---- the first loop

pub begins_rows : (ws sheet w₁ w₂ : List ℕ) (f : Q.Quote) (a b : List ℕ) → Begins (length ws / 3) sheet w₁ w₂ f a b → Begins (length (rows_of_words ws)) sheet w₁ w₂ f a b
begins_rows ws sheet w₁ w₂ f a b g = subst (λ (n : ℕ). Begins n sheet w₁ w₂ f a b) (sym (rows_count ws)) g

module _ (a ws : List ℕ) (g f : Q.Quote) (i : ℕ) (c : Checking a (rows_of_words ws) g f i) where
  pub words_checked : i < length ws / 3 → (r : R.Row) → r ≡ row_from_def ws i → (f₁ : Q.Quote) → f₁ ≡ check_of a f r i → Checking a (rows_of_words ws) g f₁ (i + 1)
  words_checked h r er f₁ e =
      let n : i < length (rows_of_words ws) = omega (arith, h, rows_count ws) in
      checking_on a (rows_of_words ws) g f i c r f₁ n
      (e ∙ ap (λ (x : R.Row). check_of a f x i) (er ∙ row_of_words ws i r h))

-- ---- the second loop

-- the words are those of the rows where it stands
pub record Wording (sheet ws₀ a b₁ : List ℕ) (f₁ : Q.Quote) (ws b : List ℕ) (f : Q.Quote) (j : ℕ) : Type 0 where
  pub rows : List R.Row
  pub words_are : ws ≡ words_of_rows rows ++ spare ws₀
  pub whole : length ws ≡ length ws₀
  pub second : length b ≡ length b₁
  pub deciding : Deciding sheet (rows_of_words ws₀) a b₁ f₁ rows b f j

pub wording_start : (sheet ws a b : List ℕ) (f : Q.Quote) → Wording sheet ws a b f ws b f 0
wording_start sheet ws a b f = record { rows = rows_of_words ws; words_are = words_same ws; whole = refl; second = refl; deciding = deciding_start sheet (rows_of_words ws) a b f }

pub row_there : (sheet ws₀ a b₁ : List ℕ) (f₁ : Q.Quote) (ws b : List ℕ) (f : Q.Quote) (j : ℕ) → Wording sheet ws₀ a b₁ f₁ ws b f j → j < length ws₀ / 3 → j < length ws / 3
row_there sheet ws₀ a b₁ f₁ ws b f j i h = let z = i.whole in omega (arith, h, z)

module _ (sheet ws₀ w₁ w₂ a b₁ : List ℕ) (f₀ : Q.Quote) (g : Begins (length ws₀ / 3) sheet w₁ w₂ f₀ a b₁) (l₁ : length a ≡ length w₁) (l₂ : length b₁ ≡ length w₂)
    (f₁ : Q.Quote) (i₁ : ℕ) (k : Checking a (rows_of_words ws₀) (checking a 0 (rows_of_words ws₀) f₀) f₁ i₁) (e₁ : length ws₀ / 3 ≤ i₁)
    (ws b : List ℕ) (f : Q.Quote) (j : ℕ) (i : Wording sheet ws₀ a b₁ f₁ ws b f j) where
  abbrev rows₀ : List R.Row
  rows₀ = rows_of_words ws₀

  begun : Begins (length rows₀) sheet w₁ w₂ f₀ a b₁
  begun = begins_rows ws₀ sheet w₁ w₂ f₀ a b₁ g

  ended : length rows₀ ≤ i₁
  ended = omega (arith, e₁, rows_count ws₀)

  pub words_decided : j < length ws₀ / 3 → (r : R.Row) → r ≡ row_from_def ws j → (r' : R.Row) (b' : List ℕ) → length b' ≡ length b → Singles sheet a b f r r' b' → (f' : Q.Quote) → f' ≡ join_of f r'
      → (ws' : List ℕ) → ws' ≡ sets ws (j * 3) (words_of_row r') → length ws' ≡ length ws → Wording sheet ws₀ a b₁ f₁ ws' b' f' (j + 1)
  words_decided h r er r' b' lb x f' e ws' ew lw =
      let n : j < length rows₀ = omega (arith, h, rows_count ws₀) in
      let m : j < length i.rows = let z = i.deciding.long in omega (arith, n, z) in
      let q : r ≡ get_or i.rows j r = er ∙ ap (λ (l : List ℕ). row_from_def l j) i.words_are ∙ row_read i.rows (spare ws₀) j r m in
      record {
        rows = set i.rows j r';
        words_are = ew ∙ ap (λ (l : List ℕ). sets l (j * 3) (words_of_row r')) i.words_are ∙ row_stored i.rows (spare ws₀) j r' m;
        whole = lw ∙ i.whole;
        second = lb ∙ i.second;
        deciding = decided_on sheet rows₀ w₁ w₂ a b₁ f₀ begun l₁ l₂ f₁ i₁ k ended i.rows b f j i.deciding r n r' b' lb (subst (λ (y : R.Row). Singles sheet a b f y r' b') q x) f' e;
      }

  pub words_done : length ws₀ / 3 ≤ j → (x : Q.Quote) → x ≡ f → (v₁ v₂ : List ℕ) → v₁ ≡ worked a (length b) → v₂ ≡ worked b (length a) → QuotesWords sheet ws₀ w₁ w₂ x ws v₁ v₂
  words_done h x ex v₁ v₂ p q = record {
    rows = i.rows;
    quotes = decided_all sheet rows₀ w₁ w₂ a b₁ f₀ begun l₁ l₂ f₁ i₁ k ended i.rows b f j i.deciding (omega (arith, h, rows_count ws₀)) x ex v₁ v₂ p q;
    words_are = i.words_are;
  }
