-- A search by two words of a row: the rows that are passed are other rows. Assumes nothing.
use mathlib.Core.Path.{◌≡◌, refl, sym, ap, ◌∙◌, subst}
use mathlib.Core.Bool.{Bool, true, false, not, ◌&&◌}
use mathlib.Core.List.{List, [], ◌∷◌}
use Prim.Native.Nat.{ℕ, zero, suc, ◌+◌, ◌-◌, ◌≤◌, ◌<◌}
use native.Mathlib.Omega.{arith}
use native.Mathlib.Nat.{le_refl}
use native.Mathlib.Decide.{ℕ_discrete, dec_lt}
use borrow.Author.Tests.{lt-ltb, le-leb, lt-leb, leb-true, eqb-false, not-true, not-false}
use lib.Dec.{eqb, leb, ltb}
use lib.ListN.{length, get_or, take, drop, length-drop}
use lib.Seq.{drop-drop}
use Rattle.words.specs.Log.{part}
use Rattle.words.proofs.Stores.{length_part, part_at}
use Rattle.forms.specs.Tags.{BOOL_VALUE}
use Rattle.sheet.specs.Bytes.{same}
use Rattle.table.specs.Layout.{base, row_at, rows_of}
use Rattle.table.proofs.Rows.{row_at_is, row_some}
use Rattle.value.specs.Lines.{place_of}
use Rattle.value.specs.Places.{passed, Passing}
use Rattle.value.proofs.Lists.{uncons, spent, same_apart, same_differ}
use Rattle.value.proofs.Makes.{Finding, find_end, find_hit, find_on}

-- whether x stands in w at place p
abbrev alone : List ℕ → ℕ → ℕ → Bool
alone w x p = ltb p (length w) && eqb (get_or w p 0) x

-- whether x stands in w and y in v at place p
abbrev pub stands : List ℕ → List ℕ → ℕ → ℕ → ℕ → Bool
stands w v x y p = alone w x p && eqb (get_or v p 0) y

module _ (w v : List ℕ) (x y p : ℕ) (b : Bool) (e : b ≡ alone w x p) where
  off : b ≡ false → false ≡ stands w v x y p
  off f = ap (λ (c : Bool). c && eqb (get_or v p 0) y) (sym f ∙ e)

-- ---- places passed

module _ (w v : List ℕ) (x y : ℕ) (l : List ℕ) (i : ℕ) where
  pass_end : length l ≤ i → passed w v x y (drop i l) ≡ 0
  unfolding passed
  pass_end h = rw (spent l i h)

  module _ (h : i < length l) (b : Bool) (e : b ≡ stands w v x y (get_or l i 0)) where
    pass_hit : b ≡ true → passed w v x y (drop i l) ≡ 0
    unfolding passed
    pass_hit f = rw (uncons l 0 i h, ← e, f)

    pass_on : (j : ℕ) → j ≡ i + 1 → b ≡ false → passed w v x y (drop i l) ≡ suc (passed w v x y (drop j l))
    unfolding passed
    pass_on j ej f = rw (uncons l 0 i h, ← e, f, ej)

pass_none : (w v : List ℕ) (x y n : ℕ) → suc n ≤ passed w v x y [] → ⊥
unfolding passed
pass_none w v x y n h = omega arith

pass_many : (w v : List ℕ) (x y n : ℕ) (l : List ℕ) → n ≤ passed w v x y l → passed w v x y l ≡ n + passed w v x y (drop n l)
pass_many w v x y zero l h = omega arith
pass_many w v x y (suc n) [] h = absurd (pass_none w v x y n h)
pass_many w v x y (suc n) (p ∷ l) h = go (stands w v x y p) refl (pass_many w v x y n l)
  where
    go : (b : Bool) → b ≡ stands w v x y p → (n ≤ passed w v x y l → passed w v x y l ≡ n + passed w v x y (drop n l)) → passed w v x y (p ∷ l) ≡ suc n + passed w v x y (drop n l)
    go true e k = absurd (let z : passed w v x y (p ∷ l) ≡ 0 = pass_hit w v x y (p ∷ l) 0 (omega arith) true e refl in omega (arith, h, z))
    go false e k =
        let z : passed w v x y (p ∷ l) ≡ suc (passed w v x y l) = pass_on w v x y (p ∷ l) 0 (omega arith) false e 1 refl refl in
        let u : passed w v x y l ≡ n + passed w v x y (drop n l) = k (omega (arith, h, z)) in
        omega (arith, z, u)

-- the same from number i on
pass_from : (w v : List ℕ) (x y : ℕ) (l : List ℕ) (i n : ℕ) → n ≤ passed w v x y (drop i l) → passed w v x y (drop i l) ≡ n + passed w v x y (drop (i + n) l)
pass_from w v x y l i n h = pass_many w v x y n (drop i l) h ∙ ap (λ (q : List ℕ). n + passed w v x y q) (drop-drop n i l)

-- where one more is passed, they do not stand there
pass_one : (w v : List ℕ) (x y : ℕ) (l : List ℕ) (i : ℕ) → 1 ≤ passed w v x y (drop i l) → (i < length l) × (stands w v x y (get_or l i 0) ≡ false)
pass_one w v x y l i h = go (dec_lt i (length l))
  where
    go : Dec (i < length l) → (i < length l) × (stands w v x y (get_or l i 0) ≡ false)
    go (no n) = absurd (let z = pass_end w v x y l i (omega arith) in omega (arith, h, z))
    go (yes k) = (k, at (stands w v x y (get_or l i 0)) refl)
      where
        at : (b : Bool) → b ≡ stands w v x y (get_or l i 0) → b ≡ false
        at true e = absurd (let z = pass_hit w v x y l i k true e refl in omega (arith, h, z))
        at false e = refl

-- ---- four at a time

module _ (w v : List ℕ) (x y : ℕ) (l : List ℕ) (i : ℕ) (h : i + 4 ≤ length l) (b₀ : Bool) (e₀ : b₀ ≡ stands w v x y (get_or l i 0)) where
  pub four_1 : b₀ ≡ true → false ≡ leb 4 (passed w v x y (drop i l))
  four_1 f =
      let z : passed w v x y (drop i l) ≡ 0 = pass_hit w v x y l i (omega arith) b₀ e₀ f in
      sym (lt-leb 4 (passed w v x y (drop i l)) (omega (arith, z)))

  module _ (n₀ : b₀ ≡ false) (b₁ : Bool) (e₁ : b₁ ≡ stands w v x y (get_or l (i + 1) 0)) where
    p₀ : passed w v x y (drop i l) ≡ suc (passed w v x y (drop (i + 1) l))
    p₀ = pass_on w v x y l i (omega arith) b₀ e₀ (i + 1) refl n₀

    pub four_2 : b₁ ≡ true → false ≡ leb 4 (passed w v x y (drop i l))
    four_2 f =
        let z : passed w v x y (drop (i + 1) l) ≡ 0 = pass_hit w v x y l (i + 1) (omega arith) b₁ e₁ f in
        sym (lt-leb 4 (passed w v x y (drop i l)) (omega (arith, z, p₀)))

    module _ (n₁ : b₁ ≡ false) (b₂ : Bool) (e₂ : b₂ ≡ stands w v x y (get_or l (i + 2) 0)) where
      p₁ : passed w v x y (drop (i + 1) l) ≡ suc (passed w v x y (drop (i + 2) l))
      p₁ = pass_on w v x y l (i + 1) (omega arith) b₁ e₁ (i + 2) (omega arith) n₁

      pub four_3 : b₂ ≡ true → false ≡ leb 4 (passed w v x y (drop i l))
      four_3 f =
          let z : passed w v x y (drop (i + 2) l) ≡ 0 = pass_hit w v x y l (i + 2) (omega arith) b₂ e₂ f in
          sym (lt-leb 4 (passed w v x y (drop i l)) (omega (arith, z, p₀, p₁)))

      module _ (n₂ : b₂ ≡ false) where
        p₂ : passed w v x y (drop (i + 2) l) ≡ suc (passed w v x y (drop (i + 3) l))
        p₂ = pass_on w v x y l (i + 2) (omega arith) b₂ e₂ (i + 3) (omega arith) n₂

        pub four_4 : (b₃ : Bool) → b₃ ≡ stands w v x y (get_or l (i + 3) 0) → not b₃ ≡ leb 4 (passed w v x y (drop i l))
        four_4 true e =
            let z : passed w v x y (drop (i + 3) l) ≡ 0 = pass_hit w v x y l (i + 3) (omega arith) true e refl in
            sym (lt-leb 4 (passed w v x y (drop i l)) (omega (arith, z, p₀, p₁, p₂)))
        four_4 false e =
            let z : passed w v x y (drop (i + 3) l) ≡ suc (passed w v x y (drop (i + 4) l)) = pass_on w v x y l (i + 3) (omega arith) false e (i + 4) (omega arith) refl in
            sym (le-leb 4 (passed w v x y (drop i l)) (omega (arith, z, p₀, p₁, p₂)))

-- where x stands in w at none of the four, they are passed
module _ (w v : List ℕ) (x y : ℕ) (l : List ℕ) (i : ℕ) (h : i + 4 ≤ length l) (b₀ b₁ b₂ b₃ : Bool) where
  pub four_off : b₀ ≡ alone w x (get_or l i 0) → b₀ ≡ false → b₁ ≡ alone w x (get_or l (i + 1) 0) → b₁ ≡ false → b₂ ≡ alone w x (get_or l (i + 2) 0) → b₂ ≡ false → b₃ ≡ alone w x (get_or l (i + 3) 0) → b₃ ≡ false → true ≡ leb 4 (passed w v x y (drop i l))
  four_off e₀ f₀ e₁ f₁ e₂ f₂ e₃ f₃ =
      four_4 w v x y l i h false (off w v x y (get_or l i 0) b₀ e₀ f₀) refl false (off w v x y (get_or l (i + 1) 0) b₁ e₁ f₁) refl false (off w v x y (get_or l (i + 2) 0) b₂ e₂ f₂) refl false (off w v x y (get_or l (i + 3) 0) b₃ e₃ f₃)

pub passing_start : (w v : List ℕ) (x y : ℕ) (l : List ℕ) (i : ℕ) → i ≤ length l → Passing w v x y l i i
passing_start w v x y l i h = record { near = h; left = refl }

module _ (w v : List ℕ) (x y : ℕ) (l : List ℕ) (from i : ℕ) (g : Passing w v x y l from i) where
  pub passing_four : (b : Bool) → 4 ≤ length l - i → b ≡ leb 4 (passed w v x y (drop i l)) → not b ≡ false → Passing w v x y l from (i + 4)
  passing_four b h e f =
      let m : 4 ≤ passed w v x y (drop i l) = leb-true 4 (passed w v x y (drop i l)) (sym e ∙ not-false b f) in
      let z : passed w v x y (drop i l) ≡ 4 + passed w v x y (drop (i + 4) l) = pass_from w v x y l i 4 m in
      record { near = omega (arith, g.near); left = g.left ∙ omega (arith, z) }

  pub passing_end : length l ≤ i → i ≡ from + passed w v x y (drop from l)
  passing_end h = let z : passed w v x y (drop i l) ≡ 0 = pass_end w v x y l i h in omega (arith, z, g.left)

  module _ (h : i < length l) (b : Bool) (e : b ≡ stands w v x y (get_or l i 0)) where
    pub passing_hit : b ≡ true → i ≡ from + passed w v x y (drop from l)
    passing_hit f = let z : passed w v x y (drop i l) ≡ 0 = pass_hit w v x y l i h b e f in omega (arith, z, g.left)

    pub passing_on : b ≡ false → Passing w v x y l from (i + 1)
    passing_on f =
        let z : passed w v x y (drop i l) ≡ suc (passed w v x y (drop (i + 1) l)) = pass_on w v x y l i h b e (i + 1) refl f in
        record { near = omega arith; left = g.left ∙ omega (arith, z) }

-- ---- rows passed

take_most : (n : ℕ) (l : List ℕ) → (length (take n l) ≤ n) × (length (take n l) ≤ length l)
take_most zero l = (omega arith, omega arith)
take_most (suc n) [] = (omega arith, omega arith)
take_most (suc n) (x ∷ l) = let m = take_most n l in (omega (arith, m.0), omega (arith, m.1))

-- a part is no longer than it says, and ends with the words
part_most : (a : List ℕ) (s e : ℕ) → (length (part a s e) ≤ e - s) × (length (part a s e) ≤ length a - s)
part_most a s e = let m = take_most (e - s) (drop s a) in (m.0, omega (arith, m.1, length-drop s a))

-- a row from s to e that is r has word j of r at place s of the words from j on
module _ (a r : List ℕ) (s e j : ℕ) (hj : j < length r) where
  size : length (part a j (length a)) ≡ length a - j
  size = length_part a j (length a) (omega arith)

  past : length (part a j (length a)) ≤ s → same (part a s e) r ≡ false
  past h = sym (same_apart (part a s e) r (λ z. omega (arith, z, size, h, (part_most a s e).1)))

  pub differ : (get_or a (j + s) 0 ≡ get_or r j 0 → ⊥) → same (part a s e) r ≡ false
  differ n = go (ℕ_discrete (length (part a s e)) (length r))
    where
      go : Dec (length (part a s e) ≡ length r) → same (part a s e) r ≡ false
      go (no z) = sym (same_apart (part a s e) r z)
      go (yes z) =
          let there : get_or (part a s e) j 0 ≡ get_or a (s + j) 0 = part_at a s e j (omega (arith, z, (part_most a s e).0)) in
          let turn : j + s ≡ s + j = omega arith in
          sym (same_differ (part a s e) r j (λ q. n (ap (λ (i : ℕ). get_or a i 0) turn ∙ sym there ∙ q)))

  -- the same of a part from j up to m
  unlike : (m : ℕ) → s < m - j → eqb (get_or (part a j m) s 0) (get_or r j 0) ≡ false → same (part a s e) r ≡ false
  unlike m h f =
      let here : get_or (part a j m) s 0 ≡ get_or a (j + s) 0 = part_at a j m s h in
      differ (λ q. eqb-false (get_or (part a j m) s 0) (get_or r j 0) f (here ∙ q))

-- a row that is r has words j and o of r in their places
module _ (a r : List ℕ) (s e j o : ℕ) (hj : j < length r) (ho : o ≤ j) where
  apart : stands (part a j (length a)) (part a o (length a - j + o)) (get_or r j 0) (get_or r o 0) s ≡ false → same (part a s e) r ≡ false
  apart f = go (dec_lt s (length (part a j (length a))))
    where
      go : Dec (s < length (part a j (length a))) → same (part a s e) r ≡ false
      go (no h) = past a r s e j hj (omega arith)
      go (yes h) = at (eqb (get_or (part a j (length a)) s 0) (get_or r j 0)) refl
        where
          l : s < length a - j
          l = omega (arith, h, size a r s e j hj)

          at : (b : Bool) → b ≡ eqb (get_or (part a j (length a)) s 0) (get_or r j 0) → same (part a s e) r ≡ false
          at false z = unlike a r s e j hj (length a) l (sym z)
          at true z =
              let u : true ≡ alone (part a j (length a)) (get_or r j 0) s = z ∙ sym (ap (λ (b : Bool). b && eqb (get_or (part a j (length a)) s 0) (get_or r j 0)) (lt-ltb s (length (part a j (length a))) h)) in
              let y : eqb (get_or (part a o (length a - j + o)) s 0) (get_or r o 0) ≡ false = ap (λ (b : Bool). b && eqb (get_or (part a o (length a - j + o)) s 0) (get_or r o 0)) u ∙ f in
              unlike a r s e o (omega arith) (length a - j + o) (omega (arith, l)) y

module _ (r a : List ℕ) (k b n : ℕ) (eb : b ≡ base k) (en : n ≡ get_or a k 0) (h : b + n ≤ length a) (j : ℕ) (hj : j < length r) (o : ℕ) (ho : o ≤ j) where
  -- a row without words j and o of r in their places is another one
  other : (i : ℕ) → i < n → stands (part a j (length a)) (part a o (length a - j + o)) (get_or r j 0) (get_or r o 0) (get_or (part a b (b + n)) i 0) ≡ false → same (get_or (rows_of a k) i []) r ≡ false
  other i l f =
      let s : get_or (part a b (b + n)) i 0 ≡ get_or a (b + i) 0 = part_at a b (b + n) i (omega arith) in
      let g : stands (part a j (length a)) (part a o (length a - j + o)) (get_or r j 0) (get_or r o 0) (get_or a (b + i) 0) ≡ false = ap (stands (part a j (length a)) (part a o (length a - j + o)) (get_or r j 0) (get_or r o 0)) (sym s) ∙ f in
      let q : part a (get_or a (b + i) 0) (get_or a (b + i + 1) 0) ≡ get_or (rows_of a k) i [] =
      row_some a k i n b (part a (get_or a (b + i) 0) (get_or a (b + i + 1) 0)) en l eb (row_at_is a (b + i) (get_or a (b + i) 0) (get_or a (b + i + 1) 0) (part a (get_or a (b + i) 0) (get_or a (b + i + 1) 0)) refl refl refl) in
      ap (λ (x : List ℕ). same x r) (sym q) ∙ apart a r (get_or a (b + i) 0) (get_or a (b + i + 1) 0) j o hj ho g

  next_row : (i c : ℕ) → suc c ≤ passed (part a j (length a)) (part a o (length a - j + o)) (get_or r j 0) (get_or r o 0) (drop i (part a b (b + n))) → Finding r (rows_of a k) n (i + c) → Finding r (rows_of a k) n (i + c + 1)
  next_row i c m g =
      let u : passed (part a j (length a)) (part a o (length a - j + o)) (get_or r j 0) (get_or r o 0) (drop i (part a b (b + n))) ≡ c + passed (part a j (length a)) (part a o (length a - j + o)) (get_or r j 0) (get_or r o 0) (drop (i + c) (part a b (b + n))) = pass_from (part a j (length a)) (part a o (length a - j + o)) (get_or r j 0) (get_or r o 0) (part a b (b + n)) i c (omega arith) in
      let z = pass_one (part a j (length a)) (part a o (length a - j + o)) (get_or r j 0) (get_or r o 0) (part a b (b + n)) (i + c) (omega (arith, u, m)) in
      let l : i + c < n = omega (arith, z.0, length_part a b (b + n) h) in
      find_on r (rows_of a k) n (i + c) g l (get_or (rows_of a k) (i + c) []) refl false (sym (other (i + c) l z.1)) refl

  skip_rows : (c i : ℕ) → c ≤ passed (part a j (length a)) (part a o (length a - j + o)) (get_or r j 0) (get_or r o 0) (drop i (part a b (b + n))) → Finding r (rows_of a k) n i → Finding r (rows_of a k) n (i + c)
  skip_rows zero i m g = let z : i ≡ i + 0 = omega arith in subst (λ (x : ℕ). Finding r (rows_of a k) n x) z g
  skip_rows (suc c) i m g =
      let z : i + c + 1 ≡ i + suc c = omega arith in
      subst (λ (x : ℕ). Finding r (rows_of a k) n x) z (next_row i c m (skip_rows c i (omega arith) g))

  -- the search goes on at the next row that has the words
  module _ (i p : ℕ) (g : Finding r (rows_of a k) n i) (ep : p ≡ i + passed (part a j (length a)) (part a o (length a - j + o)) (get_or r j 0) (get_or r o 0) (drop i (part a b (b + n)))) where
    at_next : Finding r (rows_of a k) n p
    at_next =
        let c = passed (part a j (length a)) (part a o (length a - j + o)) (get_or r j 0) (get_or r o 0) (drop i (part a b (b + n))) in
        subst (λ (x : ℕ). Finding r (rows_of a k) n x) (sym ep) (skip_rows c i (le_refl c) g)

    pub telling_end : n ≤ p → n ≡ place_of r (rows_of a k)
    telling_end l = find_end r (rows_of a k) n p at_next l

    module _ (l : p < n) (c : Bool) (ec : c ≡ same (row_at a (b + p)) r) where
      row_here : row_at a (b + p) ≡ get_or (rows_of a k) p []
      row_here = row_some a k p n b (row_at a (b + p)) en l eb refl

      pub telling_hit : c ≡ true → p ≡ place_of r (rows_of a k)
      telling_hit f = find_hit r (rows_of a k) n p at_next l (row_at a (b + p)) row_here c ec f

      pub telling_on : c ≡ false → Finding r (rows_of a k) n (p + 1)
      telling_on f = find_on r (rows_of a k) n p at_next l (row_at a (b + p)) row_here c ec f

-- ---- one row

pub row_same : (a r q : List ℕ) (i s e : ℕ) (b : Bool) → s ≡ get_or a i 0 → e ≡ get_or a (i + 1) 0 → q ≡ part a s e → b ≡ same q r → b ≡ same (row_at a i) r
row_same a r q i s e b es ee eq eb = eb ∙ ap (λ (x : List ℕ). same x r) (row_at_is a i s e q es ee eq)

-- ---- row by row

module _ (r a : List ℕ) (k b n i : ℕ) (eb : b ≡ base k) (en : n ≡ get_or a k 0) (g : Finding r (rows_of a k) n i) (l : i < n) (c : Bool) (ec : c ≡ same (row_at a (b + i)) r) where
  row_there : row_at a (b + i) ≡ get_or (rows_of a k) i []
  row_there = row_some a k i n b (row_at a (b + i)) en l eb refl

  pub turn_hit : c ≡ true → i ≡ place_of r (rows_of a k)
  turn_hit f = find_hit r (rows_of a k) n i g l (row_at a (b + i)) row_there c ec f

  pub turn_on : c ≡ false → Finding r (rows_of a k) n (i + 1)
  turn_on f = find_on r (rows_of a k) n i g l (row_at a (b + i)) row_there c ec f

-- ---- a bool's row

module _ (a : List ℕ) (i s : ℕ) (es : s ≡ get_or a i 0) (v : ℕ) where
  other_word : (j : ℕ) → j < 2 → (get_or a (j + s) 0 ≡ get_or (BOOL_VALUE ∷ v ∷ []) j 0 → ⊥) → false ≡ same (row_at a i) (BOOL_VALUE ∷ v ∷ [])
  other_word j h n =
      let e : ℕ = get_or a (i + 1) 0 in
      sym (ap (λ (x : List ℕ). same x (BOOL_VALUE ∷ v ∷ [])) (sym (row_at_is a i s e (part a s e) es refl refl)) ∙ differ a (BOOL_VALUE ∷ v ∷ []) s e j h n)

  pub other_tag : (w : ℕ) → w ≡ get_or a s 0 → (w ≡ BOOL_VALUE → ⊥) → false ≡ same (row_at a i) (BOOL_VALUE ∷ v ∷ [])
  other_tag w e n = let z : s ≡ 0 + s = omega arith in other_word 0 (omega arith) (λ q. n (e ∙ ap (λ (x : ℕ). get_or a x 0) z ∙ q))

  pub other_bit : (w : ℕ) → w ≡ get_or a (s + 1) 0 → (w ≡ v → ⊥) → false ≡ same (row_at a i) (BOOL_VALUE ∷ v ∷ [])
  other_bit w e n = let z : s + 1 ≡ 1 + s = omega arith in other_word 1 (omega arith) (λ q. n (e ∙ ap (λ (x : ℕ). get_or a x 0) z ∙ q))
