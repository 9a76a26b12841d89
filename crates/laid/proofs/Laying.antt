-- Words of a row's own: what each step of laying them leaves, and all of them together. Assumes nothing.
use mathlib.Core.Path.{◌≡◌, refl, sym, ap, ◌∙◌, subst}
use mathlib.Core.List.{List, [], ◌∷◌}
use Prim.Native.Nat.{ℕ, suc, ◌+◌, ◌-◌, ◌≤◌, ◌<◌}
use native.Mathlib.Omega.{arith}
use native.Mathlib.Numerals.{add-one}
use lib.ListN.{length, get_or, take, set, length-set}
use lib.Seq.{sets, ext_get_or, get_or-set_same, get_or-set_other, drop-set-lt}
use Rattle.words.specs.Log.{part, room}
use Rattle.words.proofs.Stores.{take_sets, drop_sets, part_sets, get_d_below, get_d_above, part_at, length_part}
use Rattle.sheet.specs.Forms.{PRINCIPAL, RESOURCE}
use Rattle.table.specs.Layout.{TOP, heap, base, limit, rows_of}
use Rattle.forms.specs.Keys.{bases}
use Rattle.forms.proofs.Keys.{regions_high}
use Rattle.laid.specs.Laid.{LINE, AHEAD, moved, line_with, Moves, Shifted, Lays, Others, Laid, Roomy}

-- ---- runs of stores by places

pub length_sets : (vs w : List ℕ) (i : ℕ) → length (sets w i vs) ≡ length w
length_sets [] w i = refl
length_sets (v ∷ vs) w i = length_sets vs (set w i v) (suc i) ∙ length-set w i v

module _ (vs w : List ℕ) (i : ℕ) where
  pub sets_low : (j : ℕ) → j < i → get_or (sets w i vs) j 0 ≡ get_or w j 0
  sets_low j h = get_d_below i w (sets w i vs) (take_sets vs w i i (omega arith)) j h

  pub sets_high : (j : ℕ) → i + length vs ≤ j → get_or (sets w i vs) j 0 ≡ get_or w j 0
  sets_high j h = get_d_above (i + length vs) w (sets w i vs) (drop_sets vs w (i + length vs) i (omega arith)) j h

  pub sets_in : i + length vs ≤ length w → (j : ℕ) → j < length vs → get_or (sets w i vs) (i + j) 0 ≡ get_or vs j 0
  sets_in l j h =
      sym (part_at (sets w i vs) i (i + length vs) j (omega (arith, h)))
      ∙ ap (λ (x : List ℕ). get_or x j 0) (part_sets vs w i (i + length vs) refl l)

-- a store below a part leaves it
part_set : (w : List ℕ) (i x s e : ℕ) → i < s → part (set w i x) s e ≡ part w s e
part_set w i x s e h = ap (take (e - s)) (drop-set-lt s w i x h)

-- parts of three words that are equal by places
three_same : (w w' : List ℕ) (s : ℕ) → s + 3 ≤ length w → s + 3 ≤ length w' → ((i : ℕ) → s ≤ i → i < s + 3 → get_or w' i 0 ≡ get_or w i 0) → part w' s (s + 3) ≡ part w s (s + 3)
three_same w w' s l l' f = ext_get_or 0 (part w' s (s + 3)) (part w s (s + 3)) (length_part w' s (s + 3) l' ∙ sym (length_part w s (s + 3) l))
    (λ i h. let z = length_part w' s (s + 3) l' in part_at w' s (s + 3) i (omega (arith, h, z)) ∙ f (s + i) (omega arith) (omega (arith, h, z)) ∙ sym (part_at w s (s + 3) i (omega (arith, h, z))))

-- ---- a row of principal or resource

module _ (k s : ℕ) (r w : List ℕ) (lo : heap ≤ s) (hi : s + 3 ≤ 16384) (long : 16384 ≤ length w) (three : length r ≡ 3) (near : suc (base k) < heap) where
  abbrev w₁ : List ℕ
  w₁ = sets w s r

  abbrev w₂ : List ℕ
  w₂ = set w₁ (base k) s

  abbrev w₃ : List ℕ
  w₃ = set w₂ (suc (base k)) (s + 3)

  long₁ : 16384 ≤ length w₁
  long₁ = omega (arith, length_sets r w s, long)

  long₂ : 16384 ≤ length w₂
  long₂ = omega (arith, length-set w₁ (base k) s, long₁)

  lays : Lays k s r w w₃
  lays = record {
    long = length-set w₂ (suc (base k)) (s + 3) ∙ length-set w₁ (base k) s ∙ length_sets r w s;
    first = get_or-set_other w₂ (suc (base k)) (base k) (s + 3) 0 (omega arith) ∙ get_or-set_same w₁ (base k) s 0 (omega (arith, near, long₁));
    next = get_or-set_same w₂ (suc (base k)) (s + 3) 0 (omega (arith, near, long₂));
    row = part_set w₂ (suc (base k)) (s + 3) s (s + 3) (omega (arith, near, lo)) ∙ part_set w₁ (base k) s s (s + 3) (omega (arith, near, lo)) ∙ part_sets r w s (s + 3) (omega (arith, three)) (omega (arith, hi, long));
    index = λ i h p q. get_or-set_other w₂ (suc (base k)) i (s + 3) 0 q ∙ get_or-set_other w₁ (base k) i s 0 p ∙ sets_low r w s i (omega (arith, h, lo));
    below = λ i h l. get_or-set_other w₂ (suc (base k)) i (s + 3) 0 (omega (arith, h, near)) ∙ get_or-set_other w₁ (base k) i s 0 (omega (arith, h, near)) ∙ sets_low r w s i l;
    above = λ i h. get_or-set_other w₂ (suc (base k)) i (s + 3) 0 (omega (arith, h, near, lo)) ∙ get_or-set_other w₁ (base k) i s 0 (omega (arith, h, near, lo)) ∙ sets_high r w s i (omega (arith, three, h));
  }

-- as the code stores it: w₁ with the row, w₂ and w₃ with its two places
pub lays_line : (k s : ℕ) (l : List ℕ) (t x y b : ℕ) (w w₁ w₂ w₃ : List ℕ) → (heap ≤ s) × (s + 3 ≤ 16384) × (16384 ≤ length w) × (suc (base k) < heap) → x ≡ get_or l 0 0 → y ≡ get_or l 1 0 → b ≡ base k
    → w₁ ≡ sets w s (x ∷ y ∷ t ∷ []) → w₂ ≡ set w₁ b s → w₃ ≡ set w₂ (b + 1) (s + 3) → Lays k s (line_with l t) w w₃
lays_line k s l t x y b w w₁ w₂ w₃ h ex ey eb e₁ e₂ e₃ =
    let r : w₁ ≡ sets w s (line_with l t) = e₁ ∙ (λ i. sets w s (ex i ∷ ey i ∷ t ∷ [])) in
    let p : b + 1 ≡ suc (base k) = add-one b ∙ ap suc eb in
    let z : w₃ ≡ set (set (sets w s (line_with l t)) (base k) s) (suc (base k)) (s + 3) = e₃ ∙ (λ i. set ((e₂ ∙ (λ j. set (r j) (eb j) s)) i) (p i) (s + 3)) in
    subst (Lays k s (line_with l t) w) (sym z) (lays k s (line_with l t) w h.0 h.1 h.2 refl h.3)

-- ---- where the rows of principal and resource are said

pub near_principal : suc (base PRINCIPAL) < heap
unfolding base bases
near_principal = omega arith

pub near_resource : suc (base RESOURCE) < heap
unfolding base bases
near_resource = omega arith

apart : suc (base PRINCIPAL) < base RESOURCE
unfolding base bases
apart = omega arith

past_index : TOP < base PRINCIPAL
unfolding base bases
past_index = omega arith

-- ---- all rows

module _ (a w₀ w₁ w₂ w₃ : List ℕ) (long : length w₀ ≡ 16384) (c : w₁ ≡ sets w₀ 0 (part a 0 TOP)) (m : Moves a w₁ w₂) (h : w₃ ≡ sets w₂ (heap + AHEAD) (part a heap (get_or a TOP 0))) (r : Roomy a) where
  abbrev top : ℕ
  top = get_or a TOP 0

  counts_long : length (part a 0 TOP) ≡ TOP
  counts_long = length_part a 0 TOP (omega (arith, r.long))

  rows_long : length (part a heap top) ≡ top - heap
  rows_long = length_part a heap top (omega (arith, r.long, r.under))

  size₁ : length w₁ ≡ 16384
  size₁ = ap length c ∙ length_sets (part a 0 TOP) w₀ 0 ∙ long

  size₂ : length w₂ ≡ 16384
  size₂ = m.long ∙ size₁

  size₃ : length w₃ ≡ 16384
  size₃ = ap length h ∙ length_sets (part a heap top) w₂ (heap + AHEAD) ∙ size₂

  -- no word of the index changes with the rows
  index_kept : (i : ℕ) → i < heap → get_or w₃ i 0 ≡ get_or w₂ i 0
  index_kept i hi = ap (λ (w : List ℕ). get_or w i 0) h ∙ sets_low (part a heap top) w₂ (heap + AHEAD) i (omega (arith, hi))

  count_at : (k : ℕ) → k < TOP → get_or w₃ k 0 ≡ get_or a k 0
  count_at k lt =
      index_kept k (omega (arith, lt)) ∙ m.below k lt
      ∙ ap (λ (w : List ℕ). get_or w k 0) c
      ∙ subst (λ (n : ℕ). get_or (sets w₀ 0 (part a 0 TOP)) n 0 ≡ get_or a n 0) zero
      (sets_in (part a 0 TOP) w₀ 0 (omega (arith, counts_long, long)) k (omega (arith, counts_long, lt)) ∙ part_at a 0 TOP k (omega (arith, lt)))
    where
      zero : 0 + k ≡ k
      zero = omega arith

  place_at : (k i : ℕ) → k < TOP → i ≤ get_or a k 0 → i ≤ limit k → get_or w₃ (base k + i) 0 ≡ moved (get_or a (base k + i) 0)
  place_at k i lt le few = let z = regions_high k (omega (arith, lt)) in index_kept (base k + i) (omega (arith, z, few)) ∙ m.moves k i lt le few

  row_at : (i : ℕ) → heap ≤ i → i < top → get_or w₃ (i + AHEAD) 0 ≡ get_or a i 0
  row_at i lo hi =
      let j : heap + AHEAD + (i - heap) ≡ i + AHEAD = omega (arith, lo) in
      let e : heap + (i - heap) ≡ i = omega (arith, lo) in
      ap (λ (w : List ℕ). get_or w (i + AHEAD) 0) h
      ∙ subst (λ (n : ℕ). get_or (sets w₂ (heap + AHEAD) (part a heap top)) n 0 ≡ get_or (part a heap top) (i - heap) 0) j
      (sets_in (part a heap top) w₂ (heap + AHEAD) (omega (arith, rows_long, size₂, r.under, r.over)) (i - heap) (omega (arith, rows_long, lo, hi)))
      ∙ part_at a heap top (i - heap) (omega (arith, lo, hi)) ∙ ap (λ (n : ℕ). get_or a n 0) e

  shifted : Shifted a w₃
  shifted = record { long = size₃; counts = count_at; top = index_kept TOP (omega arith) ∙ m.top; places = place_at; rows = row_at }

-- as the code shifts them
pub shifted_by : (a w₀ w₁ w₂ w₃ l m : List ℕ) (t : ℕ) → length w₀ ≡ 16384 → l ≡ part a 0 TOP → w₁ ≡ sets w₀ 0 l → Moves a w₁ w₂ → t ≡ get_or a TOP 0 → m ≡ part a heap t → w₃ ≡ sets w₂ (heap + AHEAD) m → Roomy a → Shifted a w₃
shifted_by a w₀ w₁ w₂ w₃ l m t long el c mv et em h room = shifted a w₀ w₁ w₂ w₃ long (c ∙ ap (sets w₀ 0) el) mv (h ∙ ap (sets w₂ (heap + AHEAD)) (em ∙ ap (part a heap) et)) room

-- ---- then the rows of principal and resource

module _ (a w₃ w₄ w₅ : List ℕ) (p q : ℕ) (s : Shifted a w₃) (x : Lays PRINCIPAL heap (line_with (get_or (rows_of a PRINCIPAL) 0 []) p) w₃ w₄)
    (y : Lays RESOURCE (heap + LINE) (line_with (get_or (rows_of a RESOURCE) 0 []) q) w₄ w₅) where
  counts_stay : (k : ℕ) → k < TOP → get_or w₅ k 0 ≡ get_or a k 0
  counts_stay k lt =
      y.index k (omega (arith, lt)) (omega (arith, lt, past_index, apart)) (omega (arith, lt, past_index, apart))
      ∙ x.index k (omega (arith, lt)) (omega (arith, lt, past_index)) (omega (arith, lt, past_index)) ∙ s.counts k lt

  word_stays : (i : ℕ) → i < heap → Others i → get_or w₅ i 0 ≡ get_or w₃ i 0
  word_stays i hi o = y.index i hi o.resource o.resource_end ∙ x.index i hi o.principal o.principal_end

  row_stays : (i : ℕ) → heap ≤ i → i < get_or a TOP 0 → get_or w₅ (i + AHEAD) 0 ≡ get_or a i 0
  row_stays i lo hi = y.above (i + AHEAD) (omega (arith, lo)) ∙ x.above (i + AHEAD) (omega (arith, lo)) ∙ s.rows i lo hi

  -- the principal's row is left as it was by the resource's
  principal_kept : part w₅ heap (heap + LINE) ≡ part w₄ heap (heap + LINE)
  principal_kept =
      let size₄ : length w₄ ≡ 16384 = x.long ∙ s.long in
      let size₅ : length w₅ ≡ 16384 = y.long ∙ size₄ in
      three_same w₄ w₅ heap (omega (arith, size₄)) (omega (arith, size₅)) (λ i lo hi. y.below i lo hi)

  laid : Laid a p q w₅
  laid = record {
    long = y.long ∙ x.long ∙ s.long;
    counts = counts_stay;
    top = word_stays TOP (omega arith) (record { principal = omega (arith, past_index); principal_end = omega (arith, past_index); resource = omega (arith, past_index, apart); resource_end = omega (arith, past_index, apart) }) ∙ s.top;
    places = λ k i lt le few o. let z = regions_high k (omega (arith, lt)) in word_stays (base k + i) (omega (arith, z, few)) o ∙ s.places k i lt le few;
    rows = row_stays;
    principal = record {
      first = y.index (base PRINCIPAL) (omega (arith, near_principal)) (omega (arith, apart)) (omega (arith, apart)) ∙ x.first;
      next = y.index (suc (base PRINCIPAL)) near_principal (omega (arith, apart)) (omega (arith, apart)) ∙ x.next;
      row = principal_kept ∙ x.row;
    };
    resource = record { first = y.first; next = y.next; row = y.row };
  }

-- as the code lays them
pub laid_by : (a w₃ w₄ w₅ r r' : List ℕ) (p q : ℕ) → (Roomy a → Shifted a w₃) → r ≡ get_or (rows_of a PRINCIPAL) 0 [] → Lays PRINCIPAL heap (line_with r p) w₃ w₄ → r' ≡ get_or (rows_of a RESOURCE) 0 []
    → Lays RESOURCE (heap + LINE) (line_with r' q) w₄ w₅ → Roomy a → Laid a p q w₅
laid_by a w₃ w₄ w₅ r r' p q s er x er' y room =
    laid a w₃ w₄ w₅ p q (s room) (subst (λ (z : List ℕ). Lays PRINCIPAL heap (line_with z p) w₃ w₄) er x) (subst (λ (z : List ℕ). Lays RESOURCE (heap + LINE) (line_with z q) w₄ w₅) er' y)
