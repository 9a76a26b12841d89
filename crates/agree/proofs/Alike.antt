-- How many lines of a key both sheets begin with that are the same, and where the first one after them breaks agreement. Assumes nothing.
use mathlib.Core.Path.{◌≡◌, refl, sym, ap, ap₂, ◌∙◌}
use mathlib.Core.Bool.{Bool, true, false, cond, not}
use mathlib.Core.Option.{none, some}
use mathlib.Core.List.{List, [], ◌∷◌}
use Prim.Native.Nat.{ℕ, suc, ◌+◌, ◌≤◌, ◌<◌}
use native.Mathlib.Numerals.{add-one}
use native.Mathlib.Omega.{arith}
use borrow.Author.Tests.{not-true, not-false}
use lib.ListN.{length, get_or, drop, drop_of_length-le}
use lib.Seq.{drop-cons}
use Rattle.sheet.specs.Bytes.{same}
use Rattle.table.specs.Layout.{rows_of, row_in}
use Rattle.table.proofs.Rows.{length_lines}
use Rattle.finished.specs.ByKey.{begin_break, same_break}
use Rattle.agree.specs.Breaks.{lines_in, counted, alike}
use Rattle.agree.proofs.Texts.{line_in}

-- ---- the lines in turn

-- line i is compared next, and those before it are the same
abbrev pub Comparing : List (List ℕ) → List (List ℕ) → ℕ → Type 0
Comparing p c i = alike p c ≡ i + alike (drop i p) (drop i c)

module _ (p c : List (List ℕ)) (i : ℕ) (g : Comparing p c i) where
  none_left : length p ≤ i → i ≡ alike p c
  none_left h = sym (g ∙ rw (drop_of_length-le p h) (omega arith))

  module _ (h : i < length p) where
    none_there : length c ≤ i → i ≡ alike p c
    none_there k = sym (g ∙ rw (drop-cons p i [], drop_of_length-le c k) (omega arith))

    module _ (k : i < length c) (b : Bool) (e : b ≡ same (get_or p i []) (get_or c i [])) where
      here : alike (drop i p) (drop i c) ≡ cond b (suc (alike (drop (i + 1) p) (drop (i + 1) c))) 0
      here = rw (e, add-one i, drop-cons p i [], drop-cons c i []) refl

      differs : b ≡ false → i ≡ alike p c
      differs f = sym (g ∙ rw (here, f) (omega arith))

      goes_on : b ≡ true → Comparing p c (i + 1)
      goes_on t = g ∙ rw (here, t) (omega arith)

-- line i of key k is compared next: the words a hold n of the partial sheet's lines, d hold m of the complete one's
pub record Matching (partial a complete d : List ℕ) (k n m i : ℕ) : Type 0 where
  pub mine : n ≡ get_or a k 0
  pub theirs : m ≡ get_or d k 0
  pub left : Comparing (lines_in partial a k) (lines_in complete d k) i

module _ (partial a complete d : List ℕ) (k n m : ℕ) where
  module _ (i : ℕ) (g : Matching partial a complete d k n m i) where
    pub match_end : n ≤ i → i ≡ alike (lines_in partial a k) (lines_in complete d k)
    match_end h = none_left (lines_in partial a k) (lines_in complete d k) i g.left (omega (arith, length_lines partial a k, g.mine))

    module _ (h : i < n) where
      mine_there : i < length (lines_in partial a k)
      mine_there = omega (arith, length_lines partial a k, g.mine)

      pub match_short : m ≤ i → i ≡ alike (lines_in partial a k) (lines_in complete d k)
      match_short l = none_there (lines_in partial a k) (lines_in complete d k) i g.left mine_there (omega (arith, length_lines complete d k, g.theirs))

      module _ (l : i < m) (b : Bool) (e : b ≡ same (row_in partial k (get_or (rows_of a k) i [])) (row_in complete k (get_or (rows_of d k) i []))) where
        theirs_there : i < length (lines_in complete d k)
        theirs_there = omega (arith, length_lines complete d k, g.theirs)

        compared : b ≡ same (get_or (lines_in partial a k) i []) (get_or (lines_in complete d k) i [])
        compared = e ∙ sym (ap₂ same (line_in partial a k i (omega (arith, g.mine))) (line_in complete d k i (omega (arith, g.theirs))))

        pub match_off : not b ≡ true → i ≡ alike (lines_in partial a k) (lines_in complete d k)
        match_off f = differs (lines_in partial a k) (lines_in complete d k) i g.left mine_there theirs_there b compared (not-true b f)

        pub match_on : not b ≡ false → Matching partial a complete d k n m (i + 1)
        match_on t = record { mine = g.mine; theirs = g.theirs; left = goes_on (lines_in partial a k) (lines_in complete d k) i g.left mine_there theirs_there b compared (not-false b t) }

-- ---- the line after them

begin_all : (p c : List (List ℕ)) (l : ℕ) → length p ≤ alike p c → begin_break p c l ≡ none
begin_all [] c l h = refl
begin_all (r ∷ p) [] l h = refl
begin_all (r ∷ p) (q ∷ c) l h = go (same r q) h (begin_all p c (suc l))
  where
    go : (b : Bool) → suc (length p) ≤ cond b (suc (alike p c)) 0 → (length p ≤ alike p c → begin_break p c (suc l) ≡ none) → cond b (begin_break p c (suc l)) (some l) ≡ none
    go true h f = f (omega arith)
    go false h f = absurd (omega arith)

begin_short : (p c : List (List ℕ)) (l : ℕ) → length c ≤ alike p c → begin_break p c l ≡ none
begin_short [] c l h = refl
begin_short (r ∷ p) [] l h = refl
begin_short (r ∷ p) (q ∷ c) l h = go (same r q) h (begin_short p c (suc l))
  where
    go : (b : Bool) → suc (length c) ≤ cond b (suc (alike p c)) 0 → (length c ≤ alike p c → begin_break p c (suc l) ≡ none) → cond b (begin_break p c (suc l)) (some l) ≡ none
    go true h f = f (omega arith)
    go false h f = absurd (omega arith)

begin_off : (p c : List (List ℕ)) (l : ℕ) → alike p c < length p → alike p c < length c → begin_break p c l ≡ some (l + alike p c)
begin_off [] c l h k = absurd (omega arith)
begin_off (r ∷ p) [] l h k = absurd (omega arith)
begin_off (r ∷ p) (q ∷ c) l h k = go (same r q) h k (begin_off p c (suc l))
  where
    go : (b : Bool) → cond b (suc (alike p c)) 0 < suc (length p) → cond b (suc (alike p c)) 0 < suc (length c)
        → (alike p c < length p → alike p c < length c → begin_break p c (suc l) ≡ some (suc l + alike p c)) → cond b (begin_break p c (suc l)) (some l) ≡ some (l + cond b (suc (alike p c)) 0)
    go true h k f = let z : suc l + alike p c ≡ l + suc (alike p c) = omega arith in f (omega arith) (omega arith) ∙ ap some z
    go false h k f = let z : l ≡ l + 0 = omega arith in ap some z

same_all : (p c : List (List ℕ)) (l : ℕ) → length c ≤ alike p c → same_break p c l ≡ none
same_all [] [] l h = refl
same_all [] (q ∷ c) l h = absurd (omega arith)
same_all (r ∷ p) [] l h = refl
same_all (r ∷ p) (q ∷ c) l h = go (same r q) h (same_all p c (suc l))
  where
    go : (b : Bool) → suc (length c) ≤ cond b (suc (alike p c)) 0 → (length c ≤ alike p c → same_break p c (suc l) ≡ none) → cond b (same_break p c (suc l)) (some l) ≡ none
    go true h f = f (omega arith)
    go false h f = absurd (omega arith)

same_off : (p c : List (List ℕ)) (l : ℕ) → alike p c < length c → same_break p c l ≡ some (l + alike p c)
same_off [] [] l h = absurd (omega arith)
same_off [] (q ∷ c) l h = let z : l ≡ l + 0 = omega arith in ap some z
same_off (r ∷ p) [] l h = absurd (omega arith)
same_off (r ∷ p) (q ∷ c) l h = go (same r q) h (same_off p c (suc l))
  where
    go : (b : Bool) → cond b (suc (alike p c)) 0 < suc (length c) → (alike p c < length c → same_break p c (suc l) ≡ some (suc l + alike p c)) → cond b (same_break p c (suc l)) (some l) ≡ some (l + cond b (suc (alike p c)) 0)
    go true h f = let z : suc l + alike p c ≡ l + suc (alike p c) = omega arith in f (omega arith) ∙ ap some z
    go false h f = let z : l ≡ l + 0 = omega arith in ap some z

-- the same of the lines of key k that the words a and d hold
module _ (partial a complete d : List ℕ) (k n : ℕ) (e : n ≡ alike (lines_in partial a k) (lines_in complete d k)) where
  pub begin_none : (m : ℕ) → m ≡ get_or a k 0 → m ≤ n → 0 ≡ counted (begin_break (lines_in partial a k) (lines_in complete d k) 0)
  begin_none m hm h = sym (ap counted (begin_all (lines_in partial a k) (lines_in complete d k) 0 (omega (arith, e, hm, length_lines partial a k))))

  module _ (m : ℕ) (hm : m ≡ get_or d k 0) where
    pub begin_less : m ≤ n → 0 ≡ counted (begin_break (lines_in partial a k) (lines_in complete d k) 0)
    begin_less h = sym (ap counted (begin_short (lines_in partial a k) (lines_in complete d k) 0 (omega (arith, e, hm, length_lines complete d k))))

    pub begin_some : (m₀ : ℕ) → m₀ ≡ get_or a k 0 → n < m₀ → n < m → n + 1 ≡ counted (begin_break (lines_in partial a k) (lines_in complete d k) 0)
    begin_some m₀ h₀ l₀ l =
        let z : n + 1 ≡ suc (0 + alike (lines_in partial a k) (lines_in complete d k)) = omega (arith, e) in
        z ∙ sym (ap counted (begin_off (lines_in partial a k) (lines_in complete d k) 0 (omega (arith, e, h₀, length_lines partial a k)) (omega (arith, e, hm, length_lines complete d k))))

    pub same_none : m ≤ n → 0 ≡ counted (same_break (lines_in partial a k) (lines_in complete d k) 0)
    same_none h = sym (ap counted (same_all (lines_in partial a k) (lines_in complete d k) 0 (omega (arith, e, hm, length_lines complete d k))))

    pub same_some : n < m → n + 1 ≡ counted (same_break (lines_in partial a k) (lines_in complete d k) 0)
    same_some l =
        let z : n + 1 ≡ suc (0 + alike (lines_in partial a k) (lines_in complete d k)) = omega (arith, e) in
        z ∙ sym (ap counted (same_off (lines_in partial a k) (lines_in complete d k) 0 (omega (arith, e, hm, length_lines complete d k))))
