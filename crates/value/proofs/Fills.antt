-- A row written word by word past the end of a log, and made. Assumes nothing.
use mathlib.Core.Path.{◌≡◌, refl, sym, ap, subst, ◌∙◌}
use mathlib.Core.List.{List, [], ◌∷◌, ◌++◌, append_assoc, append-nil}
use mathlib.Core.Option.{none}
use Prim.Native.Nat.{ℕ, zero, suc, ◌+◌, ◌-◌, ◌/◌, ◌≤◌, ◌<◌}
use native.Mathlib.Nat.{le_refl}
use native.Mathlib.Omega.{arith}
use native.Mathlib.Decide.{dec_le}
use lib.ListN.{length, get_or, take, drop, length-drop, length-append}
use lib.Seq.{take-nil, take-take, take-append-le, drop_at, get_or-take, length-take-le}
use Rattle.words.specs.Log.{part, Room, Holds, Appended, pushed}
use Rattle.words.proofs.Logs.{log_length, append_holds, append_room, append_below, append_length, appended_is, appended_full}
use Rattle.words.proofs.Stores.{get_d_below, length_part, part_at}
use Rattle.cedar.specs.Making.{sort_n}
use Rattle.forms.specs.Tags.{SET_VALUE, RECORD_VALUE}
use Rattle.std.specs.Prelude.{Option, Some, None}
use Rattle.std.specs.Simd.{first_chunks}
use Rattle.value.specs.Shapes.{value_found}
use Rattle.value.specs.Made.{ROW, SOURCE, Made, MadeBeside, values_in, least_of, set_row, pairs_of, record_row, push_all, written}
use Rattle.value.proofs.Lists.{uncons2}
use Rattle.value.proofs.Sorting.{from_n, from_none, least_none, least_some, uncons4}

-- ---- a part of a log

pub drop_take : (s e : ℕ) (w : List ℕ) → drop s (take e w) ≡ take (e - s) (drop s w)
drop_take zero e w = let z : e ≡ e - 0 = omega arith in ap (λ (n : ℕ). take n w) z
drop_take (suc s) zero w = let z : 0 - suc s ≡ 0 = omega arith in rw z
drop_take (suc s) (suc e) [] = sym (take-nil (suc e - suc s))
drop_take (suc s) (suc e) (x ∷ w) = let z : e - s ≡ suc e - suc s = omega arith in drop_take s e w ∙ ap (λ (n : ℕ). take n (drop s w)) z

pub part_same : (w v : List ℕ) (at s e : ℕ) → take at v ≡ take at w → e ≤ at → part v s e ≡ part w s e
part_same w v at s e h l =
    sym (drop_take s e v)
    ∙ ap (drop s) (sym (take-take e at v l) ∙ ap (take e) h ∙ take-take e at w l)
    ∙ drop_take s e w

-- ---- words pushed one after the other

pub push_grows : (l xs : List ℕ) → length l ≤ length (push_all l xs)
unfolding push_all
push_grows l [] = le_refl (length l)
push_grows l (x ∷ xs) = omega (arith, one l x, push_grows (pushed l x) xs)
  where
    one : (m : List ℕ) (y : ℕ) → length m ≤ length (pushed m y)
    one m y = go (dec_le (length m + 1) 16384)
      where
        go : Dec (length m + 1 ≤ 16384) → length m ≤ length (pushed m y)
        go (yes d) = rw (appended_is m (y ∷ []) d, length-append m (y ∷ [])) (omega arith)
        go (no d) = rw (appended_full m (y ∷ []) (omega arith)) (le_refl (length m))

pub push_below : (l xs : List ℕ) (n : ℕ) → n ≤ length l → take n (push_all l xs) ≡ take n l
unfolding push_all
push_below l [] n h = refl
push_below l (x ∷ xs) n h = go (dec_le (length l + 1) 16384) (push_below (pushed l x) xs n)
  where
    go : Dec (length l + 1 ≤ 16384) → (n ≤ length (pushed l x) → take n (push_all (pushed l x) xs) ≡ take n (pushed l x)) → take n (push_all (pushed l x) xs) ≡ take n l
    go (yes d) ih =
        let e : pushed l x ≡ l ++ (x ∷ []) = appended_is l (x ∷ []) d in
        let k : n ≤ length (pushed l x) = rw (e, length-append l (x ∷ [])) (omega arith) in
        ih k ∙ ap (take n) e ∙ take-append-le n l (x ∷ []) h
    go (no d) ih =
        let e : pushed l x ≡ l = appended_full l (x ∷ []) (omega arith) in
        let k : n ≤ length (pushed l x) = rw e h in
        ih k ∙ ap (take n) e

-- with room for all of them
pub push_all_law : (l xs : List ℕ) → length l + length xs ≤ 16384 → push_all l xs ≡ l ++ xs
unfolding push_all
push_all_law l [] h = sym (append-nil l)
push_all_law l (x ∷ xs) h =
    let e : pushed l x ≡ l ++ (x ∷ []) = appended_is l (x ∷ []) (omega arith) in
    let k : length (pushed l x) + length xs ≤ 16384 = rw (e, length-append l (x ∷ [])) (omega arith) in
    push_all_law (pushed l x) xs k ∙ ap (λ (m : List ℕ). m ++ xs) e ∙ append_assoc l (x ∷ []) xs

pub written_is : (l xs : List ℕ) → length l + length xs ≤ 16384 → written l xs ≡ xs
unfolding written
written_is l xs h = rw (push_all_law l xs h) (drop_at l xs (length l) refl)

-- ---- a row ascending

pub record Filling (b₀ : List ℕ) (at start bt : ℕ) (b : List ℕ) (p lo : ℕ) : Type 0 where
  pub room : Room b p
  pub len : length b ≡ length b₀
  pub grows : at ≤ p
  pub base : take at b ≡ take at b₀
  pub left : push_all (take at b₀) (sort_n (values_in (part b₀ start bt))) ≡ push_all (take p b) (from_n lo (sort_n (values_in (part b₀ start bt))))

pub fill_start : (b : List ℕ) (at start bt : ℕ) → Room b at → Filling b at start bt b at 0
fill_start b at start bt h =
    record { room = h; len = refl; grows = le_refl at; base = refl; left = ap (push_all (take at b)) (sym (from_none (sort_n (values_in (part b start bt))))) }

-- one word more at the end of the log
module _ {b b' : List ℕ} {p p' x : ℕ} (h : Room b p) (w : Appended b p (x ∷ []) b' p') where
  pub pushed_log : take p' b' ≡ pushed (take p b) x
  pushed_log = (append_holds h w).is

  pub pushed_on : p ≤ p'
  pushed_on = (append_holds h w).grows

  pub pushed_base : (at : ℕ) → at ≤ p → take at b' ≡ take at b
  pushed_base at l = sym (take-take at p b' l) ∙ ap (take at) (append_below w) ∙ take-take at p b l

module _ (b₀ : List ℕ) (at start bt : ℕ) (h : bt ≤ at) (b : List ℕ) (p lo : ℕ) (g : Filling b₀ at start bt b p lo)
    (rows : List ℕ) (er : rows ≡ part b start bt) (e : Option ℕ) (ee : value_found e ≡ least_of lo none (values_in rows)) where
  the_least : least_of lo none (values_in (part b₀ start bt)) ≡ value_found e
  the_least = ap (λ (l : List ℕ). least_of lo none (values_in l)) (sym (er ∙ part_same b₀ b at start bt g.base h)) ∙ sym ee

  pub fill_end : e ≡ None → Holds at b p (push_all (take at b₀) (sort_n (values_in (part b₀ start bt))))
  unfolding push_all
  fill_end z =
      record {
        is = sym (g.left ∙ ap (push_all (take p b)) (least_none lo (values_in (part b₀ start bt)) (the_least ∙ ap value_found z)));
        low = g.room.low;
        grows = g.grows;
      }

  module _ (x : ℕ) (z : e ≡ Some x) where
    next : from_n lo (sort_n (values_in (part b₀ start bt))) ≡ x ∷ from_n (x + 1) (sort_n (values_in (part b₀ start bt)))
    next = least_some lo x (values_in (part b₀ start bt)) (the_least ∙ ap value_found z)

    pub fill_less : length (from_n (x + 1) (sort_n (values_in (part b₀ start bt)))) < length (from_n lo (sort_n (values_in (part b₀ start bt))))
    fill_less = omega (arith, ap length next)

    pub fill_on : (b' : List ℕ) (p' : ℕ) → Appended b p (x ∷ []) b' p' → Filling b₀ at start bt b' p' (x + 1)
    unfolding push_all
    fill_on b' p' w =
        record {
          room = append_room g.room w;
          len = append_length w ∙ g.len;
          grows = omega (arith, g.grows, pushed_on g.room w);
          base = pushed_base g.room w at g.grows ∙ g.base;
          left = g.left ∙ ap (push_all (take p b)) next ∙ ap (λ (l : List ℕ). push_all l (from_n (x + 1) (sort_n (values_in (part b₀ start bt))))) (sym (pushed_log g.room w));
        }

-- ---- texts with values

pub record Pairing (r b₀ : List ℕ) (at start bt : ℕ) (b : List ℕ) (p i q : ℕ) : Type 0 where
  pub room : Room b p
  pub len : length b ≡ length b₀
  pub grows : at ≤ p
  pub base : take at b ≡ take at b₀
  pub near_q : q ≤ bt
  pub near_i : i ≤ length r + 2
  pub left : push_all (take at b₀) (pairs_of (drop 2 r) (part b₀ start bt)) ≡ push_all (take p b) (pairs_of (drop i r) (part b₀ q bt))

pub pair_start : (r b : List ℕ) (at start bt : ℕ) → Room b at → start ≤ bt → Pairing r b at start bt b at 2 start
pair_start r b at start bt h l = record { room = h; len = refl; grows = le_refl at; base = refl; near_q = l; near_i = omega arith; left = refl }

few_texts : (l rows : List ℕ) → length l < 2 → pairs_of l rows ≡ []
unfolding pairs_of
few_texts [] rows h = refl
few_texts (t ∷ []) rows h = refl
few_texts (t ∷ n ∷ l) rows h = absurd (omega arith)

few_rows : (l rows : List ℕ) → length rows < ROW → pairs_of l rows ≡ []
unfolding pairs_of
few_rows [] rows h = refl
few_rows (t ∷ []) rows h = refl
few_rows (t ∷ n ∷ l) [] h = refl
few_rows (t ∷ n ∷ l) (a ∷ []) h = refl
few_rows (t ∷ n ∷ l) (a ∷ b ∷ []) h = refl
few_rows (t ∷ n ∷ l) (a ∷ b ∷ c ∷ []) h = refl
few_rows (t ∷ n ∷ l) (a ∷ b ∷ c ∷ d ∷ rows) h = absurd (omega arith)

module _ (r b₀ : List ℕ) (at start bt : ℕ) (h : bt ≤ at) (b : List ℕ) (p i q : ℕ) (g : Pairing r b₀ at start bt b p i q) where
  done : pairs_of (drop i r) (part b₀ q bt) ≡ [] → Holds at b p (push_all (take at b₀) (pairs_of (drop 2 r) (part b₀ start bt)))
  unfolding push_all
  done z = record { is = sym (g.left ∙ ap (push_all (take p b)) z); low = g.room.low; grows = g.grows }

  pub pair_texts : length r < i + 2 → Holds at b p (push_all (take at b₀) (pairs_of (drop 2 r) (part b₀ start bt)))
  pair_texts l =
      let n : length (drop i r) < 2 = rw (length-drop i r) (omega arith) in
      done (few_texts (drop i r) (part b₀ q bt) n)

  rows_length : length (part b₀ q bt) ≡ bt - q
  rows_length = length_part b₀ q bt (omega (arith, g.room.long, g.room.low, g.len, g.grows))

  pub pair_rows : bt < q + ROW → Holds at b p (push_all (take at b₀) (pairs_of (drop 2 r) (part b₀ start bt)))
  pair_rows l =
      let n : length (part b₀ q bt) < ROW = rw rows_length (omega (arith, g.near_q)) in
      done (few_rows (drop i r) (part b₀ q bt) n)

  module _ (li : i + 2 ≤ length r) (lq : q + ROW ≤ bt) (v : ℕ) (ev : v ≡ get_or b (q + SOURCE) 0) where
    the_value : get_or b₀ (q + SOURCE) 0 ≡ v
    the_value = sym (ev ∙ get_d_below at b₀ b g.base (q + SOURCE) (omega arith))

    -- the rows from q on, as the log has them
    four : part b₀ q bt ≡ get_or b₀ q 0 ∷ v ∷ get_or b₀ (q + 2) 0 ∷ get_or b₀ (q + 2 + 1) 0 ∷ part b₀ (q + ROW) bt
    four =
        let k : length (take bt b₀) ≡ bt = length-take-le bt b₀ (omega (arith, g.room.long, g.room.low, g.len, g.grows)) in
        let u = uncons4 (take bt b₀) q (omega arith) in
        sym (drop_take q bt b₀) ∙ u
        ∙ rw (get_or-take bt b₀ q 0 (omega arith), get_or-take bt b₀ (q + SOURCE) 0 (omega arith), get_or-take bt b₀ (q + 2) 0 (omega arith), get_or-take bt b₀ (q + 2 + 1) 0 (omega arith), the_value, drop_take (q + ROW) bt b₀)

    pair : pairs_of (drop i r) (part b₀ q bt) ≡ get_or r i 0 ∷ v ∷ pairs_of (drop (i + 2) r) (part b₀ (q + ROW) bt)
    unfolding pairs_of
    pair = rw (four, uncons2 r i li)

    pub pair_on : (b₁ : List ℕ) (p₁ : ℕ) (b₂ : List ℕ) (p₂ : ℕ) → Appended b p (get_or r i 0 ∷ []) b₁ p₁ → Appended b₁ p₁ (v ∷ []) b₂ p₂
        → Pairing r b₀ at start bt b₂ p₂ (i + 2) (q + ROW)
    unfolding push_all
    pair_on b₁ p₁ b₂ p₂ w₁ w₂ =
        let m : Room b₁ p₁ = append_room g.room w₁ in
        record {
          room = append_room m w₂;
          len = append_length w₂ ∙ append_length w₁ ∙ g.len;
          grows = omega (arith, g.grows, pushed_on g.room w₁, pushed_on m w₂);
          base = pushed_base m w₂ at (omega (arith, g.grows, pushed_on g.room w₁)) ∙ pushed_base g.room w₁ at g.grows ∙ g.base;
          near_q = lq;
          near_i = omega arith;
          left = g.left ∙ ap (push_all (take p b)) pair
              ∙ ap (λ (l : List ℕ). push_all l (pairs_of (drop (i + 2) r) (part b₀ (q + ROW) bt)))
              (sym (pushed_log m w₂ ∙ ap (λ (l : List ℕ). pushed l v) (pushed_log g.room w₁)));
        }

-- the texts of a node with their nodes, in pairs, of which those before number j are written
abbrev pub text_at : ℕ → ℕ
text_at j = 2 + (j + j)

first_of_pair : (n : ℕ) (xs : List ℕ) (j : ℕ) (d : List ℕ) → n ≡ length xs / 2 → j < n → get_or (get_or (first_chunks 2 n xs) j d) 0 0 ≡ get_or xs (j + j) 0
first_of_pair n [] j d e h = absurd (omega arith)
first_of_pair n (x ∷ []) j d e h = absurd (omega arith)
first_of_pair zero (x ∷ y ∷ xs) j d e h = absurd (omega arith)
first_of_pair (suc n) (x ∷ y ∷ xs) zero d e h = refl
first_of_pair (suc n) (x ∷ y ∷ xs) (suc j) d e h =
    let z : suc j + suc j ≡ suc (suc (j + j)) = omega arith in
    first_of_pair n xs j d (omega arith) (omega arith) ∙ sym (ap (λ (i : ℕ). get_or (x ∷ y ∷ xs) i 0) z)

module _ (r b₀ : List ℕ) (at start bt : ℕ) (h : bt ≤ at) (b : List ℕ) (p j q : ℕ) (g : Pairing r b₀ at start bt b p (text_at j) q) (s : List (List ℕ)) (xs : List ℕ) (ex : xs ≡ part r 2 (length r)) (n : length s ≡ length xs / 2) where
  texts_length : length xs ≡ length r - 2
  texts_length = ap length ex ∙ length_part r 2 (length r) (omega arith)

  pub paired_end : length s ≤ j → Holds at b p (push_all (take at b₀) (pairs_of (drop 2 r) (part b₀ start bt)))
  paired_end l = pair_texts r b₀ at start bt h b p (text_at j) q g (omega (arith, texts_length, n))

  pub paired_on : j < length s → s ≡ first_chunks 2 (length xs / 2) xs → q + ROW ≤ bt → (v : ℕ) → v ≡ get_or b (q + SOURCE) 0
      → (d : List ℕ) (b₁ : List ℕ) (p₁ : ℕ) (b₂ : List ℕ) (p₂ : ℕ) → Appended b p (get_or (get_or s j d) 0 0 ∷ []) b₁ p₁ → Appended b₁ p₁ (v ∷ []) b₂ p₂
      → Pairing r b₀ at start bt b₂ p₂ (text_at (j + 1)) (q + ROW)
  paired_on l es lq v ev d b₁ p₁ b₂ p₂ w₁ w₂ =
      let lr : text_at j + 2 ≤ length r = omega (arith, texts_length, n, l) in
      let z : text_at j + 2 ≡ text_at (j + 1) = omega arith in
      let t : get_or (get_or s j d) 0 0 ≡ get_or r (text_at j) 0 =
      ap (λ (x : List (List ℕ)). get_or (get_or x j d) 0 0) es ∙ first_of_pair (length xs / 2) xs j d refl (omega (arith, n, l))
      ∙ ap (λ (x : List ℕ). get_or x (j + j) 0) ex ∙ part_at r 2 (length r) (j + j) (omega (arith, lr)) in
      subst (λ (i : ℕ). Pairing r b₀ at start bt b₂ p₂ i (q + ROW)) z
      (pair_on r b₀ at start bt h b p (text_at j) q g lr lq v ev b₁ p₁ b₂ p₂ (subst (λ (x : ℕ). Appended b p (x ∷ []) b₁ p₁) t w₁) w₂)

-- ---- made

-- a first word k, then the words xs, then made
module _ (b : List ℕ) (bt : ℕ) (h : Room b bt) (k : ℕ) (b₁ : List ℕ) (q : ℕ) (w : Appended b bt (k ∷ []) b₁ q) where
  pub first_room : Room b₁ q
  first_room = append_room h w

  pub first_on : bt ≤ q
  first_on = pushed_on h w

  pub first_part : (start : ℕ) → part b₁ start bt ≡ part b start bt
  first_part start = part_same b b₁ bt start bt (append_below w) (le_refl bt)

  module _ (xs b₂ : List ℕ) (e : ℕ) (f : Holds q b₂ e (push_all (take q b₁) xs)) where
    all_pushed : take e b₂ ≡ push_all (take bt b) (k ∷ xs)
    unfolding push_all
    all_pushed = f.is ∙ ap (λ (l : List ℕ). push_all l xs) (pushed_log h w)

    row_written : part b₂ bt e ≡ written (take bt b) (k ∷ xs)
    unfolding written
    row_written = sym (drop_take bt e b₂) ∙ ap (drop bt) all_pushed ∙ ap (λ (n : ℕ). drop n (push_all (take bt b) (k ∷ xs))) (sym (log_length b bt h))

    log_kept : take bt b₂ ≡ take bt b
    log_kept =
        sym (take-take bt e b₂ (omega (arith, first_on, f.grows))) ∙ ap (take bt) all_pushed
        ∙ push_below (take bt b) (k ∷ xs) bt (omega (arith, log_length b bt h)) ∙ take-take bt bt b (le_refl bt)

    pub beside : (a is : List ℕ) (v : ℕ) (row : List ℕ) → row ≡ part b₂ bt e → Made a row is v → MadeBeside a is v bt b b₂ (k ∷ xs)
    beside a is v row er m = record { made = rw (← (er ∙ row_written)) m; log = log_kept }

module _ (a is : List ℕ) (v : ℕ) (b : List ℕ) (start bt : ℕ) (h : Room b bt) (b₁ : List ℕ) (q : ℕ) where
  pub set_made : (b₂ : List ℕ) (e : ℕ) (row : List ℕ) → Appended b bt (SET_VALUE ∷ []) b₁ q → Holds q b₂ e (push_all (take q b₁) (sort_n (values_in (part b₁ start bt))))
      → row ≡ part b₂ bt e → Made a row is v → MadeBeside a is v bt b b₂ (set_row (part b start bt))
  unfolding set_row
  set_made b₂ e row w f er m = rw (← (first_part b bt h SET_VALUE b₁ q w start)) (beside b bt h SET_VALUE b₁ q w (sort_n (values_in (part b₁ start bt))) b₂ e f a is v row er m)

  pub record_made : (b₂ : List ℕ) (e : ℕ) (row r node : List ℕ) → r ≡ node → Appended b bt (RECORD_VALUE ∷ []) b₁ q → Holds q b₂ e (push_all (take q b₁) (pairs_of (drop 2 r) (part b₁ start bt)))
      → row ≡ part b₂ bt e → Made a row is v → MadeBeside a is v bt b b₂ (record_row node (part b start bt))
  unfolding record_row
  record_made b₂ e row r node en w f er m =
      rw (← en, ← (first_part b bt h RECORD_VALUE b₁ q w start)) (beside b bt h RECORD_VALUE b₁ q w (pairs_of (drop 2 r) (part b₁ start bt)) b₂ e f a is v row er m)
