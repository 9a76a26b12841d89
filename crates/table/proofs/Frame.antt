-- Rows that stand as they stood, and one more. Assumes nothing.
use mathlib.Core.Path.{◌≡◌, refl, sym, ap, ap₂, subst, ◌∙◌}
use mathlib.Core.Logic.{⊎_elim, ◌⊎◌, inl, inr}
use mathlib.Core.List.{List, [], ◌∷◌, ◌++◌}
use Prim.Native.Nat.{ℕ, zero, suc, ◌+◌, ◌-◌, ◌≤◌, ◌<◌}
use native.Mathlib.Nat.{le_refl}
use native.Mathlib.Omega.{arith}
use native.Mathlib.Decide.{ℕ_discrete}
use lib.ListN.{length, get_or, take, drop, set, length-set}
use lib.Seq.{get_or-set_same, get_or-set_other, drop-set-lt, drop-drop}
use Rattle.words.specs.Log.{room}
use Rattle.words.proofs.Stores.{get_d_below, part_below}
use Rattle.table.specs.Layout.{part, TOP, heap, base, row_at, rows_at, rows_of, with_row, limit, Last, Sound}
use Rattle.forms.specs.Keys.{INDEX}
use Rattle.forms.proofs.Keys.{regions_rise, regions_low, regions_high}

-- ---- rows that stand as they stood

-- every part of the heap up to t holds the same words
pub record Agree (w w' : List ℕ) (t : ℕ) : Type 0 where
  pub agree : (s z : ℕ) → heap ≤ s → z ≤ t → part w' s z ≡ part w s z

pub agree_above : (w w' : List ℕ) (t : ℕ) → drop heap w' ≡ drop heap w → Agree w w' t
agree_above w w' t e =
    record {
      agree = λ s z h l.
          let j : heap + (s - heap) ≡ s = omega arith in
          rw (← j, ← (drop-drop (s - heap) heap w'), ← (drop-drop (s - heap) heap w), e);
    }

no_part : (w : List ℕ) (s z : ℕ) → z ≤ s → part w s z ≡ []
no_part w s z h = let e : z - s ≡ 0 = omega arith in rw e

pub agree_below : (w w' : List ℕ) (t : ℕ) → take t w' ≡ take t w → Agree w w' t
agree_below w w' t e = record { agree = λ s z h l. go s z l (ℕ_discrete (z - s) 0) }
  where
    go : (s z : ℕ) → z ≤ t → Dec (z - s ≡ 0) → part w' s z ≡ part w s z
    go s z l (yes d) = no_part w' s z (omega arith) ∙ sym (no_part w s z (omega arith))
    go s z l (no d) = part_below t w w' e s z (omega arith) l

row_same : (w w' : List ℕ) (t i : ℕ) → Agree w w' t → get_or w' i 0 ≡ get_or w i 0 → get_or w' (suc i) 0 ≡ get_or w (suc i) 0 → heap ≤ get_or w i 0 → get_or w (suc i) 0 ≤ t
    → row_at w' i ≡ row_at w i
unfolding row_at
row_same w w' t i a p q l h = rw (p, q) (a.agree (get_or w i 0) (get_or w (suc i) 0) l h)

rows_same : (w w' : List ℕ) (i n : ℕ) → ((j : ℕ) → j < n → row_at w' (i + j) ≡ row_at w (i + j)) → rows_at w' i n ≡ rows_at w i n
unfolding rows_at
rows_same w w' i zero h = refl
rows_same w w' i (suc n) h =
    let z : i + 0 ≡ i = omega arith in
    ap₂ (λ (x : List ℕ) (xs : List (List ℕ)). x ∷ xs) (subst (λ (m : ℕ). row_at w' m ≡ row_at w m) z (h 0 (omega arith)))
    (rows_same w w' (suc i) n (λ j l. let m : suc i + j ≡ i + suc j = omega arith in rw m (h (suc j) (omega arith))))

-- a row more at the end
rows_snoc : (w : List ℕ) (i n : ℕ) → rows_at w i (suc n) ≡ rows_at w i n ++ (row_at w (i + n) ∷ [])
unfolding rows_at
rows_snoc w i zero = let z : i + 0 ≡ i = omega arith in rw z
rows_snoc w i (suc n) =
    let z : i + suc n ≡ suc i + n = omega arith in
    rw z (ap (λ (l : List (List ℕ)). row_at w i ∷ l) (rows_snoc w (suc i) n))

module _ (w : List ℕ) (s : Sound w) where
  -- words that agree up to the heap's end hold the same rows
  module _ (w' : List ℕ) (e : take (get_or w TOP 0) w' ≡ take (get_or w TOP 0) w) where
    pub word_kept : (i : ℕ) → i < heap → get_or w' i 0 ≡ get_or w i 0
    word_kept i h = get_d_below (get_or w TOP 0) w w' e i (omega (arith, s.over))

    pub rows_kept : (k : ℕ) → k < TOP → rows_of w' k ≡ rows_of w k
    unfolding rows_of
    rows_kept k h =
        let l = s.few k h in
        let m = regions_high k h in
        rw (word_kept k (omega arith))
        (rows_same w w' (base k) (get_or w k 0) (λ j i.
        row_same w w' (get_or w TOP 0) (base k + j) (agree_below w w' (get_or w TOP 0) e) (word_kept (base k + j) (omega arith)) (word_kept (suc (base k + j)) (omega arith))
        (s.low k j h i) (s.high k j h i)))

    pub last_was : (k : ℕ) → Last w' k → Last w k
    last_was k l = record { last = λ j h m. sym (word_kept j (omega arith)) ∙ l.last j h m }

    pub sound_kept : room ≤ length w' → Sound w'
    sound_kept long =
        record {
          few = λ k h. rw (word_kept k (omega arith)) (s.few k h);
          low = λ k i h l.
              let m : i < get_or w k 0 = omega (arith, word_kept k (omega arith)) in
              let n = s.few k h in
              let o = regions_high k h in
              rw (word_kept (base k + i) (omega arith)) (s.low k i h m);
          high = λ k i h l.
              let m : i < get_or w k 0 = omega (arith, word_kept k (omega arith)) in
              let n = s.few k h in
              let o = regions_high k h in
              rw (word_kept (suc (base k + i)) (omega arith), word_kept TOP (omega arith)) (s.high k i h m);
          ends = λ k h l z.
              let n = s.few k h in
              let o = regions_high k h in
              rw (word_kept k (omega arith), word_kept (base k + get_or w k 0) (omega arith), word_kept TOP (omega arith))
              (s.ends k h (omega (arith, word_kept k (omega arith))) (last_was k z));
          over = rw (word_kept TOP (omega arith)) s.over;
          long = long;
        }

  -- ---- a row more
  module _ (k e : ℕ) (h : k < TOP) (free : get_or w k 0 < limit k) (last : Last w k) (lo : get_or w TOP 0 ≤ e) where
    place : ℕ
    place = base k + get_or w k 0

    low_place : INDEX ≤ place
    unfolding place
    low_place = omega (arith, regions_low k h)

    high_place : suc place < heap
    unfolding place
    high_place = omega (arith, regions_high k h)

    abbrev w₁ : List ℕ
    w₁ = set w place (get_or w TOP 0)

    abbrev w₂ : List ℕ
    w₂ = set w₁ (suc place) e

    abbrev w₃ : List ℕ
    w₃ = set w₂ k (suc (get_or w k 0))

    new_is : with_row w k e ≡ set w₃ TOP e
    unfolding with_row place
    new_is = refl

    length₁ : room ≤ length w₁
    length₁ = omega (arith, length-set w place (get_or w TOP 0), s.long)

    length₂ : room ≤ length w₂
    length₂ = omega (arith, length-set w₁ (suc place) e, length₁)

    length₃ : room ≤ length w₃
    length₃ = omega (arith, length-set w₂ k (suc (get_or w k 0)), length₂)

    pub length_new : length (with_row w k e) ≡ length w
    length_new = rw (new_is, length-set w₃ TOP e, length-set w₂ k (suc (get_or w k 0)), length-set w₁ (suc place) e, length-set w place (get_or w TOP 0))

    pub top_new : get_or (with_row w k e) TOP 0 ≡ e
    top_new = rw new_is (get_or-set_same w₃ TOP e 0 (omega (arith, length₃)))

    pub count_new : get_or (with_row w k e) k 0 ≡ suc (get_or w k 0)
    count_new = rw (new_is, get_or-set_other w₃ TOP k e 0 (omega arith)) (get_or-set_same w₂ k (suc (get_or w k 0)) 0 (omega (arith, length₂)))

    end_new : get_or (with_row w k e) (suc place) 0 ≡ e
    end_new =
        let a = low_place in
        let b = high_place in
        rw (new_is, get_or-set_other w₃ TOP (suc place) e 0 (omega arith), get_or-set_other w₂ k (suc place) (suc (get_or w k 0)) 0 (omega arith))
        (get_or-set_same w₁ (suc place) e 0 (omega (arith, length₁)))

    begin_new : get_or (with_row w k e) place 0 ≡ get_or w TOP 0
    begin_new =
        let a = low_place in
        let b = high_place in
        rw (new_is, get_or-set_other w₃ TOP place e 0 (omega arith), get_or-set_other w₂ k place (suc (get_or w k 0)) 0 (omega arith), get_or-set_other w₁ (suc place) place e 0 (omega arith))
        (get_or-set_same w place (get_or w TOP 0) 0 (omega (arith, s.long)))

    other_new : (i : ℕ) → (i ≡ TOP → ⊥) → (i ≡ k → ⊥) → (i ≡ place → ⊥) → (i ≡ suc place → ⊥) → get_or (with_row w k e) i 0 ≡ get_or w i 0
    other_new i a b c d =
        rw (new_is, get_or-set_other w₃ TOP i e 0 a, get_or-set_other w₂ k i (suc (get_or w k 0)) 0 b, get_or-set_other w₁ (suc place) i e 0 d)
        (get_or-set_other w place i (get_or w TOP 0) 0 c)

    pub count_other : (j : ℕ) → j < TOP → (j ≡ k → ⊥) → get_or (with_row w k e) j 0 ≡ get_or w j 0
    count_other j l n = let a = low_place in other_new j (omega arith) n (omega arith) (omega arith)

    heap_new : drop heap (with_row w k e) ≡ drop heap w
    heap_new =
        let b = high_place in
        rw (new_is, drop-set-lt heap w₃ TOP e (omega arith), drop-set-lt heap w₂ k (suc (get_or w k 0)) (omega arith), drop-set-lt heap w₁ (suc place) e (omega arith))
        (drop-set-lt heap w place (get_or w TOP 0) (omega arith))

    pub rest_new : drop room (with_row w k e) ≡ drop room w
    rest_new =
        let b = high_place in
        rw (new_is, drop-set-lt room w₃ TOP e (omega arith), drop-set-lt room w₂ k (suc (get_or w k 0)) (omega arith), drop-set-lt room w₁ (suc place) e (omega arith))
        (drop-set-lt room w place (get_or w TOP 0) (omega arith))

    -- the words of another key's rows
    index_other : (j i : ℕ) → j < TOP → (j ≡ k → ⊥) → i ≤ get_or w j 0 → get_or (with_row w k e) (base j + i) 0 ≡ get_or w (base j + i) 0
    unfolding place
    index_other j i l n m =
        let f = s.few j l in
        let a = regions_low j l in
        let apart : (base j + i < place) ⊎ (suc place < base j + i) = sides (ℕ_discrete (k - j) 0) in
        ⊎_elim (λ x. other_new (base j + i) (omega arith) (omega arith) (omega arith) (omega arith))
        (λ x. other_new (base j + i) (omega arith) (omega arith) (omega arith) (omega arith)) apart
      where
        sides : Dec (k - j ≡ 0) → (base j + i < place) ⊎ (suc place < base j + i)
        sides (yes d) = inr (omega (arith, regions_rise j k l (omega arith)))
        sides (no d) = inl (omega (arith, regions_rise k j h (omega arith), s.few j l))

    -- the words of the key's own rows before the new one
    index_own : (i : ℕ) → i < get_or w k 0 → get_or (with_row w k e) (base k + i) 0 ≡ get_or w (base k + i) 0
    unfolding place
    index_own i l =
        let a = regions_low k h in
        other_new (base k + i) (omega arith) (omega arith) (omega arith) (omega arith)

    -- where they end: the last one's end is stored anew
    index_end : (i : ℕ) → i < get_or w k 0 → get_or (with_row w k e) (suc (base k + i)) 0 ≡ get_or w (suc (base k + i)) 0
    unfolding place
    index_end i l = go (ℕ_discrete (suc i) (get_or w k 0))
      where
        go : Dec (suc i ≡ get_or w k 0) → get_or (with_row w k e) (suc (base k + i)) 0 ≡ get_or w (suc (base k + i)) 0
        go (yes d) =
            let p : suc (base k + i) ≡ base k + get_or w k 0 = omega arith in
            rw (p, begin_new) (sym (s.ends k h (omega arith) last))
        go (no d) =
            let p : suc (base k + i) ≡ base k + suc i = omega arith in
            rw (p) (index_own (suc i) (omega arith))

    pub rows_other : (j : ℕ) → j < TOP → (j ≡ k → ⊥) → rows_of (with_row w k e) j ≡ rows_of w j
    unfolding rows_of
    rows_other j l n =
        rw (count_other j l n)
        (rows_same w (with_row w k e) (base j) (get_or w j 0) (λ i m.
        let p : suc (base j + i) ≡ base j + suc i = omega arith in
        row_same w (with_row w k e) (get_or w TOP 0) (base j + i) (agree_above w (with_row w k e) (get_or w TOP 0) heap_new)
        (index_other j i l n (omega arith)) (rw p (index_other j (suc i) l n m)) (s.low j i l m) (s.high j i l m)))

    pub rows_own : rows_of (with_row w k e) k ≡ rows_of w k ++ (part w (get_or w TOP 0) e ∷ [])
    unfolding rows_of row_at place
    rows_own =
        let old : rows_at (with_row w k e) (base k) (get_or w k 0) ≡ rows_at w (base k) (get_or w k 0) = rows_same w (with_row w k e) (base k) (get_or w k 0) (λ i m.
        row_same w (with_row w k e) (get_or w TOP 0) (base k + i) (agree_above w (with_row w k e) (get_or w TOP 0) heap_new)
        (index_own i m) (index_end i m) (s.low k i h m) (s.high k i h m)) in
        let new : row_at (with_row w k e) (base k + get_or w k 0) ≡ part w (get_or w TOP 0) e = rw (begin_new, end_new)
        ((agree_above w (with_row w k e) e heap_new).agree (get_or w TOP 0) e s.over (le_refl e)) in
        rw (count_new) (rows_snoc (with_row w k e) (base k) (get_or w k 0) ∙ ap₂ (λ (xs : List (List ℕ)) (x : List ℕ). xs ++ (x ∷ [])) old new)

    pub sound_new : Sound (with_row w k e)
    unfolding place
    sound_new =
        record {
          few = λ j l. few (ℕ_discrete j k) l;
          low = λ j i l m. low (ℕ_discrete j k) i l m;
          high = λ j i l m. high (ℕ_discrete j k) i l m;
          ends = λ j l m z. ends (ℕ_discrete j k) l m z;
          over = rw top_new (omega (arith, s.over));
          long = rw length_new s.long;
        }
      where
        few : {j : ℕ} → Dec (j ≡ k) → j < TOP → get_or (with_row w k e) j 0 ≤ limit j
        few (yes d) l = rw (d, count_new) free
        few {j} (no d) l = rw (count_other j l d) (s.few j l)

        low : {j : ℕ} → Dec (j ≡ k) → (i : ℕ) → j < TOP → i < get_or (with_row w k e) j 0 → heap ≤ get_or (with_row w k e) (base j + i) 0
        low {j} (yes d) i l m = rw d (newest (ℕ_discrete i (get_or w k 0)))
          where
            newest : Dec (i ≡ get_or w k 0) → heap ≤ get_or (with_row w k e) (base k + i) 0
            newest (yes c) = rw (c, begin_new) s.over
            newest (no c) =
                let q : i < get_or w k 0 = omega (arith, count_new, subst (λ (x : ℕ). i < get_or (with_row w k e) x 0) d m) in
                rw (index_own i q) (s.low k i h q)
        low {j} (no d) i l m =
            let q : i < get_or w j 0 = omega (arith, count_other j l d) in
            rw (index_other j i l d (omega arith)) (s.low j i l q)

        high : {j : ℕ} → Dec (j ≡ k) → (i : ℕ) → j < TOP → i < get_or (with_row w k e) j 0 → get_or (with_row w k e) (suc (base j + i)) 0 ≤ get_or (with_row w k e) TOP 0
        high {j} (yes d) i l m = rw (d, top_new) (newest (ℕ_discrete i (get_or w k 0)))
          where
            newest : Dec (i ≡ get_or w k 0) → get_or (with_row w k e) (suc (base k + i)) 0 ≤ e
            newest (yes c) = rw (c, end_new) (le_refl e)
            newest (no c) =
                let q : i < get_or w k 0 = omega (arith, count_new, subst (λ (x : ℕ). i < get_or (with_row w k e) x 0) d m) in
                rw (index_end i q) (omega (arith, s.high k i h q))
        high {j} (no d) i l m =
            let q : i < get_or w j 0 = omega (arith, count_other j l d) in
            let p : suc (base j + i) ≡ base j + suc i = omega arith in
            rw (p, index_other j (suc i) l d q, top_new, ← p) (omega (arith, s.high j i l q))

        ends : {j : ℕ} → Dec (j ≡ k) → j < TOP → 1 ≤ get_or (with_row w k e) j 0 → Last (with_row w k e) j → get_or (with_row w k e) (base j + get_or (with_row w k e) j 0) 0 ≡ get_or (with_row w k e) TOP 0
        ends (yes d) l m z =
            let p : base k + suc (get_or w k 0) ≡ suc (base k + get_or w k 0) = omega arith in
            rw (d, count_new, top_new, p) end_new
        ends {j} (no d) l m z = absurd (side (ℕ_discrete (k - j) 0))
          where
            side : Dec (k - j ≡ 0) → ⊥
            side (yes c) = omega (arith, last.last j (omega arith) l, count_other j l d)
            side (no c) = omega (arith, z.last k (omega arith) h, count_new)
