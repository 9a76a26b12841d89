-- A row or a text among others, those with another end passed over. Assumes nothing.
use mathlib.Core.Path.{◌≡◌, refl, sym, ap, ap₂, ◌∙◌}
use mathlib.Core.Bool.{Bool, true, false, not, ◌||◌, true≢false}
use mathlib.Core.List.{List, [], ◌∷◌}
use Prim.Native.Nat.{ℕ, suc, ◌+◌, ◌-◌, ◌≤◌, ◌<◌}
use native.Mathlib.Numerals.{add-one}
use native.Mathlib.Omega.{arith}
use native.Mathlib.Decide.{ℕ_discrete, dec_lt}
use borrow.Author.Tests.{eq-eqb, ne_eqb}
use lib.ListN.{length, get_or, drop, length-take, length-drop, get_or-eq_default}
use lib.Seq.{drop-cons, get_or-drop}
use lib.Dec.{eqb}
use lib.Pointwise.{pointwise, bytes_decides}
use Rattle.std.specs.Array.{IsWholeChunk}
use Rattle.words.proofs.Stores.{part_at}
use Rattle.sheet.specs.Bytes.{same}
use Rattle.sheet.specs.Forms.{form_of, forms, tag, at, key_of, no_key}
use Rattle.forms.specs.Tags.{TEXT_LINE}
use Rattle.sheet.specs.Sheet.{among}
use Rattle.sheet.proofs.demand3.TwoSheets.{same_is}
use Rattle.table.specs.Layout.{part, base, heap, row_at, rows_of, text_row, text_rows}
use Rattle.table.proofs.Rows.{count_rows, row_at_is, row_some}
use Rattle.repeats.specs.Ends.{ends_of, RowEnds, TextEnds}

-- ---- whether some row passes a test

unfoldable pub any_of : (List ℕ → Bool) → List (List ℕ) → Bool
any_of p [] = false
any_of p (q ∷ l) = p q || any_of p l

pub any_row : (r : List ℕ) (l : List (List ℕ)) → any_of (same r) l ≡ among r l
unfolding any_of
any_row r [] = refl
any_row r (q ∷ l) = ap (λ (x : Bool). same r q || x) (any_row r l)

pub any_text : (sheet text : List ℕ) (l : List (List ℕ)) → any_of (λ (q : List ℕ). same text (text_row sheet q)) l ≡ among text (text_rows sheet l)
unfolding any_of
any_text sheet text [] = refl
any_text sheet text (q ∷ l) = ap (λ (x : Bool). same text (text_row sheet q) || x) (any_text sheet text l)

any_none : (p : List ℕ → Bool) (l : List (List ℕ)) → ((j : ℕ) → j < length l → p (get_or l j []) ≡ false) → any_of p l ≡ false
unfolding any_of
any_none p [] h = refl
any_none p (q ∷ l) h = rw (h 0 (omega arith)) (any_none p l (λ j i. h (suc j) (omega arith)))

-- the rows of key k from row i on are left
pub record Scanned (p : List ℕ → Bool) (a : List ℕ) (k i : ℕ) : Type 0 where
  pub left : any_of p (rows_of a k) ≡ any_of p (drop i (rows_of a k))

-- starts are those of the words that say where the rows of key k begin that are there
module _ (p : List ℕ → Bool) (a : List ℕ) (k n b i : ℕ) (starts : List ℕ) (s : Scanned p a k i) (hn : n ≡ get_or a k 0) (hb : (b ≡ base k) × (b < heap)) (hs : starts ≡ part a b (b + n)) where
  starts_long : (length starts ≤ n) × (length starts ≤ length a - b)
  starts_long =
      let z : b + n - b ≡ n = omega arith in
      (omega (arith, ap length hs, length-take (b + n - b) (drop b a)), omega (arith, ap length hs, length-take (b + n - b) (drop b a), length-drop b a))

  starts_short : length starts < n → length a - b ≤ length starts
  starts_short h = omega (arith, ap length hs, length-take (b + n - b) (drop b a), length-drop b a)

  pub start_at_law : i < length starts → get_or starts i 0 ≡ get_or a (b + i) 0
  start_at_law h = ap (λ (l : List ℕ). get_or l i 0) hs ∙ part_at a b (b + n) i (omega (arith, starts_long.0))

  module _ (v : Bool) (h : i < length starts) (hv : v ≡ p (row_at a (b + i))) where
    scan_at : any_of p (rows_of a k) ≡ (v || any_of p (drop (i + 1) (rows_of a k)))
    unfolding any_of
    scan_at =
        let l : i < n = omega (arith, starts_long.0) in
        let m : i < length (rows_of a k) = omega (arith, count_rows a k) in
        let e : get_or (rows_of a k) i [] ≡ row_at a (b + i) = sym (row_some a k i n b (row_at a (b + i)) hn l hb.0 refl) in
        s.left ∙ ap (any_of p) (drop-cons (rows_of a k) i [] m) ∙ ap₂ (λ (x : Bool) (j : ℕ). x || any_of p (drop j (rows_of a k))) (ap p e ∙ sym hv) (sym (add-one i))

    pub scan_found : v ≡ true → true ≡ any_of p (rows_of a k)
    scan_found e = sym (scan_at ∙ rw e refl)

    pub scan_on : v ≡ false → Scanned p a k (i + 1)
    scan_on e = record { left = scan_at ∙ rw e refl }

  -- past the words' end the rows are empty
  row_past : (j : ℕ) → length a ≤ b + j → row_at a (b + j) ≡ []
  row_past j h =
      let e : get_or a (b + j) 0 ≡ 0 = get_or-eq_default a 0 h in
      let f : get_or a (b + j + 1) 0 ≡ 0 = get_or-eq_default a 0 (omega arith) in
      sym (row_at_is a (b + j) 0 0 [] (sym e) (sym f) refl)

  pub scan_end : length starts ≤ i → p [] ≡ false → false ≡ any_of p (rows_of a k)
  scan_end h e = sym (s.left ∙ any_none p (drop i (rows_of a k)) each)
    where
      each : (j : ℕ) → j < length (drop i (rows_of a k)) → p (get_or (drop i (rows_of a k)) j []) ≡ false
      each j l =
          let m : i + j < n = omega (arith, length-drop i (rows_of a k), count_rows a k) in
          let r : get_or (rows_of a k) (i + j) [] ≡ row_at a (b + (i + j)) = sym (row_some a k (i + j) n b (row_at a (b + (i + j))) hn m hb.0 refl) in
          ap p (get_or-drop i (rows_of a k) j [] ∙ r ∙ row_past (i + j) (omega (arith, starts_short (omega arith)))) ∙ e

pub no_row : (r : List ℕ) → 1 ≤ length r → same r [] ≡ false
no_row [] h = absurd (omega arith)
no_row (x ∷ r) h = refl

-- ---- rows with another end

ends_some : (n : ℕ) (l : List ℕ) → 1 ≤ n → ends_of n l ≡ drop (n - 1) l
ends_some n l h = rw (ne_eqb n 0 (λ q. absurd (omega arith))) refl

pub ends_none : (n : ℕ) (l : List ℕ) → n ≡ 0 → [] ≡ ends_of n l
ends_none n l h = sym (rw (eq-eqb n 0 h) refl)

part_long : (l : List ℕ) (s e : ℕ) → length (part l s e) ≤ e - s
part_long l s e = omega (arith, length-take (e - s) (drop s l))

-- a part's last entry stands among the ends
part_end : (l q : List ℕ) (s e : ℕ) → q ≡ part l s e → 1 ≤ length q → get_or (ends_of (length q) l) s 0 ≡ get_or q (length q - 1) 0
part_end l q s e h m =
    let p : length q - 1 < e - s = omega (arith, ap length h, part_long l s e) in
    let c : length q - 1 + s ≡ s + (length q - 1) = omega arith in
    ap (λ (x : List ℕ). get_or x s 0) (ends_some (length q) l m) ∙ get_or-drop (length q - 1) l s 0 ∙ ap (λ (x : ℕ). get_or l x 0) c
    ∙ sym (ap (λ (x : List ℕ). get_or x (length q - 1) 0) h ∙ part_at l s e (length q - 1) p)

not_same : (k l : List ℕ) → (k ≡ l → ⊥) → false ≡ same k l
not_same k l n = go (same k l) refl
  where
    go : (b : Bool) → same k l ≡ b → false ≡ b
    go true e = absurd (n (same_is k l e))
    go false e = refl

-- runs of other lengths
pub other_length : (k l : List ℕ) → (length k ≡ length l → ⊥) → false ≡ same k l
other_length k l n = not_same k l (λ e. n (ap length e))

-- runs whose last n items differ
pub other_end : (k l x y : List ℕ) (n : ℕ) (b : Bool) → IsWholeChunk (drop (length k - n) k) x n → IsWholeChunk (drop (length l - n) l) y n
    → b ≡ not (pointwise eqb x y) → b ≡ true → false ≡ same k l
other_end k l x y n b ex ey eb t = not_same k l (λ e.
    let s : x ≡ y = ex.same ∙ ap (λ (z : List ℕ). drop (length z - n) z) e ∙ sym ey.same in
    let f : ◌≡◌ {A = Bool} true false = sym t ∙ eb ∙ ap not ((bytes_decides x y).1 s) in
    true≢false f)

no_ends : (n p : ℕ) (l : List ℕ) → p < length (ends_of n l) → 1 ≤ n
no_ends n p l h = go (ℕ_discrete n 0)
  where
    go : Dec (n ≡ 0) → 1 ≤ n
    go (yes z) = absurd (omega (arith, ap length (ends_none n l z)))
    go (no z) = omega arith

module _ (a r ends : List ℕ) (x i s : ℕ) (h : RowEnds a r ends x i s) where
  pub row_otherwise : s < length ends → (get_or ends s 0 ≡ x → ⊥) → false ≡ same r (row_at a i)
  row_otherwise l n = not_same r (row_at a i) (λ e. n (
      let m : 1 ≤ length r = no_ends (length r) s a (rw (← h.all) l) in
      let q : r ≡ part a s (get_or a (i + 1) 0) = e ∙ sym (row_at_is a i s (get_or a (i + 1) 0) (part a s (get_or a (i + 1) 0)) h.start refl refl) in
      ap (λ (y : List ℕ). get_or y s 0) h.all ∙ part_end a r s (get_or a (i + 1) 0) q m ∙ sym h.last))

  pub row_compared : (e : ℕ) (q : List ℕ) (b : Bool) → e ≡ get_or a (i + 1) 0 → q ≡ part a s e → b ≡ same r q → b ≡ same r (row_at a i)
  row_compared e q b he hq hb = hb ∙ ap (same r) (row_at_is a i s e q h.start he hq)

same_tail : (x y : ℕ) (k l : List ℕ) → x ∷ k ≡ y ∷ l → k ≡ l
same_tail x y k l e = cc

module _ (sheet a text ends : List ℕ) (x i s : ℕ) (h : TextEnds sheet a text ends x i s) where
  pub text_otherwise : (p : ℕ) → p ≡ get_or a (s + 1) 0 → p < length ends → (get_or ends p 0 ≡ x → ⊥) → false ≡ same (TEXT_LINE ∷ text) (text_row sheet (row_at a i))
  text_otherwise p hp l n = not_same (TEXT_LINE ∷ text) (text_row sheet (row_at a i)) (λ e. n (found (same_tail TEXT_LINE (tag (row_at a i)) text (part sheet (at (row_at a i) 0) (at (row_at a i) 0 + at (row_at a i) 1)) e)))
    where
      q : row_at a i ≡ part a s (get_or a (i + 1) 0)
      q = sym (row_at_is a i s (get_or a (i + 1) 0) (part a s (get_or a (i + 1) 0)) h.start refl refl)

      found : text ≡ part sheet (at (row_at a i) 0) (at (row_at a i) 0 + at (row_at a i) 1) → get_or ends p 0 ≡ x
      found e =
          let m : 1 ≤ length text = no_ends (length text) p sheet (rw (← h.all) l) in
          let some : 1 ≤ get_or (row_at a i) 2 0 = omega (arith, ap length e, part_long sheet (at (row_at a i) 0) (at (row_at a i) 0 + at (row_at a i) 1)) in
          let wide : 2 < length (row_at a i) = within (row_at a i) 2 some in
          let first : at (row_at a i) 0 ≡ p = ap (λ (y : List ℕ). get_or y 1 0) q ∙ part_at a s (get_or a (i + 1) 0) 1 (omega (arith, ap length q, part_long a s (get_or a (i + 1) 0))) ∙ sym hp in
          ap₂ (λ (y : List ℕ) (z : ℕ). get_or y z 0) h.all (sym first) ∙ part_end sheet text (at (row_at a i) 0) (at (row_at a i) 0 + at (row_at a i) 1) e m ∙ sym h.last
        where
          within : (l : List ℕ) (j : ℕ) → 1 ≤ get_or l j 0 → j < length l
          within l j g = go (dec_lt j (length l))
            where
              go : Dec (j < length l) → j < length l
              go (yes d) = d
              go (no d) = absurd (omega (arith, get_or-eq_default l 0 {n = j} (omega arith)))

  pub text_compared : (e : ℕ) (q : List ℕ) (b : Bool) → e ≡ get_or a (i + 1) 0 → q ≡ part a s e → b ≡ same (TEXT_LINE ∷ text) (text_row sheet q) → b ≡ same (TEXT_LINE ∷ text) (text_row sheet (row_at a i))
  text_compared e q b he hq hb = hb ∙ ap (λ (y : List ℕ). same (TEXT_LINE ∷ text) (text_row sheet y)) (row_at_is a i s e q h.start he hq)

-- ---- a row with a key has words

pub keyed_row : (r : List ℕ) (k : ℕ) → k ≡ key_of r → k < no_key → 1 ≤ length r
unfolding key_of form_of forms
keyed_row [] k e h = absurd (omega arith)
keyed_row (x ∷ r) k e h = omega arith
