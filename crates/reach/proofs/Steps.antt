-- The functions of `reach` do what their definitions say. Assumes nothing.
use mathlib.Core.Path.{◌≡◌, refl, sym, ◌∙◌, ap, ap₂, subst}
use mathlib.Core.Bool.{Bool, true, false, cond, not, ◌&&◌, ◌||◌}
use mathlib.Core.List.{List, [], ◌∷◌}
use Prim.Native.Nat.{ℕ, zero, suc, ◌+◌, ◌-◌, ◌*◌, ◌<◌, ◌≤◌}
use native.Mathlib.Omega.{arith}
use borrow.Author.Tests.{lt-ltb, le-ltb, eq-eqb, ne_eqb, eqb-true, eqb-false, ltb-true, ltb-false}
use lib.Dec.{ltb, eqb}
use native.Mathlib.Numerals.{add-one}
use Rattle.std.specs.List.{list_any, range_with_len}
use lib.ListN.{length, get_or, take, drop, set, replicate, length-set, length-replicate, get_or-replicate, get_or-eq_default}
use lib.Seq.{take_all, length-take-le, get_or-take, get_or-set_same}
use Rattle.cedar.specs.Rows.{Row, rbool, rlong, rtext, rent, rset, rrec}
use Rattle.cedar.specs.Numbered.{any_n, mem_n, r_set}
use Rattle.sheet.specs.Forms.{tag, items, at, mark, first_value, VALUE, ENTITY}
use Rattle.sheet.specs.State.{value_row, entries_of}
use Rattle.sheet.specs.Bytes.{long_at}
use Rattle.sheet.specs.Parents.{parents_in}
use Rattle.sheet.proofs.reading.Lines.{set_cases}
use Rattle.forms.specs.Tags.{SET_VALUE}
use Rattle.table.specs.Layout.{base, part, rows_of}
use Rattle.table.proofs.Rows.{count_rows, row_at_is, row_some}
use Rattle.value.proofs.Lists.{uncons, spent}
use Rattle.met.specs.Noting.{Entered, Skipped}
use Rattle.met.proofs.Meeting.{not_none}
use Rattle.reach.specs.Marks.{LINES, VALUES, HIDDEN, FAR, line_rows, place_of, named, Filled, Indexed, Listed, Queue, Grown, Opened, Taken, Spot, Seen, Spread, Expanded, Found, marked_at, any_marked, names_at, is_met, any_met}
use Rattle.reach.proofs.Marking.{Marks, place_most, grown_old, grown_beside, grown_one, room_left, noted_queue, taken_on, seen_none, seen_old, seen_new, seen_more, seen_skip, opened_long, marks_open, marks_shown, marks_on, marks_end, marks_start, queue_start}

-- ---- lines, line_at

pub few_lines : (a : List ℕ) (n : ℕ) → n ≡ get_or a ENTITY 0 → n ≤ LINES → (n ≡ length (line_rows a)) × (n ≤ LINES)
unfolding line_rows
few_lines a n e h = let z = count_rows a ENTITY in (sym (ap length (take_all LINES (rows_of a ENTITY) (omega (arith, z, e, h))) ∙ count_rows a ENTITY ∙ sym e), h)

pub many_lines : (a : List ℕ) (n : ℕ) → n ≡ get_or a ENTITY 0 → LINES < n → (LINES ≡ length (line_rows a)) × (LINES ≤ LINES)
unfolding line_rows
many_lines a n e h = let z = count_rows a ENTITY in (sym (length-take-le LINES (rows_of a ENTITY) (omega (arith, z, e, h))), omega arith)

pub lines_most : (a : List ℕ) → length (line_rows a) ≤ LINES
unfolding line_rows
lines_most a = go LINES (rows_of a ENTITY)
  where
    go : {A : Type 0} (n : ℕ) (l : List A) → length (take n l) ≤ n
    go zero l = omega arith
    go (suc n) [] = omega arith
    go (suc n) (x ∷ l) = let z = go n l in omega (arith, z)

lines_few : (a : List ℕ) → length (line_rows a) ≤ get_or a ENTITY 0
unfolding line_rows
lines_few a = let z = count_rows a ENTITY in let y = go LINES (rows_of a ENTITY) in omega (arith, z, y)
  where
    go : {A : Type 0} (n : ℕ) (l : List A) → length (take n l) ≤ length l
    go zero l = omega arith
    go (suc n) [] = omega arith
    go (suc n) (x ∷ l) = let z = go n l in omega (arith, z)

module _ (a : List ℕ) (i n : ℕ) where
  pub line_past : (n ≡ length (line_rows a)) × (n ≤ LINES) → n ≤ i → [] ≡ get_or (line_rows a) i []
  line_past e h = sym (get_or-eq_default (line_rows a) [] (let z = e.0 in omega (arith, z, h)))

  pub line_row : (n ≡ length (line_rows a)) × (n ≤ LINES) → i < n → (r : List ℕ) → r ≡ get_or (rows_of a ENTITY) i [] → r ≡ get_or (line_rows a) i []
  unfolding line_rows
  line_row e h r er = er ∙ sym (get_or-take LINES (rows_of a ENTITY) i [] (let z = e.1 in omega (arith, z, h)))

-- ---- place_of

pub record Placing (a : List ℕ) (v n i : ℕ) : Type 0 where
  pub all : n ≡ length (line_rows a)
  pub near : i ≤ n
  pub rest : place_of v (line_rows a) ≡ i + place_of v (drop i (line_rows a))

module _ (a : List ℕ) (v n : ℕ) where
  pub place_start : n ≡ length (line_rows a) → Placing a v n 0
  place_start e = record { all = e; near = omega arith; rest = omega arith }

  module _ (i : ℕ) (c : Placing a v n i) where
    module _ (r : List ℕ) (x : ℕ) (h : i < n) (er : r ≡ get_or (line_rows a) i []) (ex : x ≡ get_or r 1 0) where
      front : place_of v (drop i (line_rows a)) ≡ cond (eqb x v) 0 (suc (place_of v (drop (i + 1) (line_rows a))))
      unfolding place_of
      front = ap (place_of v) (uncons (line_rows a) [] i (let y = c.all in omega (arith, y, h)))
          ∙ ap (λ (y : ℕ). cond (eqb y v) 0 (suc (place_of v (drop (i + 1) (line_rows a))))) (ap (λ (q : List ℕ). get_or q 1 0) (sym er) ∙ sym ex)

      pub place_hit : x ≡ v → i ≡ place_of v (line_rows a)
      place_hit e = let z = c.rest in let y : place_of v (drop i (line_rows a)) ≡ 0 = front ∙ ap (λ (b : Bool). cond b 0 (suc (place_of v (drop (i + 1) (line_rows a))))) (eq-eqb x v e) in omega (arith, z, y)

      pub place_on : (x ≡ v → ⊥) → Placing a v n (i + 1)
      place_on e = record {
        all = c.all;
        near = omega (arith, h);
        rest = let z = c.rest in let y : place_of v (drop i (line_rows a)) ≡ suc (place_of v (drop (i + 1) (line_rows a))) = front ∙ ap (λ (b : Bool). cond b 0 (suc (place_of v (drop (i + 1) (line_rows a))))) (ne_eqb x v e) in omega (arith, z, y);
      }

    pub place_end : n ≤ i → i ≡ place_of v (line_rows a)
    unfolding place_of
    place_end h = let z = c.rest in let y : place_of v (drop i (line_rows a)) ≡ 0 = ap (place_of v) (spent (line_rows a) i (let w = c.all in omega (arith, w, h))) in omega (arith, z, y)

-- ---- index, place

-- made anew, and a part of that
pub filled_new : (n x : ℕ) → Filled x (replicate n x)
filled_new n x = record { is = λ v h. get_or-replicate n v x 0 (let z = length-replicate {A = ℕ} n x in omega (arith, z, h)) }

pub filled_part : (n x : ℕ) (w : List ℕ) → Filled x w → Filled x (take n w)
filled_part n x w c = record { is = λ v h. go n w v h ∙ c.is v (near n w v h) }
  where
    go : (n : ℕ) (w : List ℕ) (v : ℕ) → v < length (take n w) → get_or (take n w) v 0 ≡ get_or w v 0
    go zero w v h = absurd (omega (arith, h))
    go (suc n) [] v h = refl
    go (suc n) (y ∷ w) zero h = refl
    go (suc n) (y ∷ w) (suc v) h = go n w v (omega (arith, h))

    near : (n : ℕ) (w : List ℕ) (v : ℕ) → v < length (take n w) → v < length w
    near zero w v h = absurd (omega (arith, h))
    near (suc n) [] v h = absurd (omega (arith, h))
    near (suc n) (y ∷ w) zero h = omega arith
    near (suc n) (y ∷ w) (suc v) h = let z = near n w v (omega (arith, h)) in omega (arith, z)

pub record Indexing (a p₀ p : List ℕ) (i : ℕ) : Type 0 where
  pub long : length p ≡ length p₀
  pub near : i ≤ length (line_rows a)
  pub is : (v : ℕ) → v < length p → get_or p v 0 ≡ i + place_of v (drop i (line_rows a))

pub index_start : (a p : List ℕ) (n : ℕ) → n ≡ length (line_rows a) → Filled (length (line_rows a)) p → Indexing a p p n
unfolding place_of
index_start a p n e f = record { long = refl; near = omega (arith, e); is = λ v h. let y : place_of v (drop n (line_rows a)) ≡ 0 = ap (place_of v) (spent (line_rows a) n (omega (arith, e))) in let z = f.is v h in omega (arith, y, z, e) }

-- an entity's place among the lines from j on, by the first of them
front_line : (a : List ℕ) (j : ℕ) → j < length (line_rows a) → (r : List ℕ) (x : ℕ) → r ≡ get_or (line_rows a) j [] → x ≡ get_or r 1 0 → (v : ℕ) → place_of v (drop j (line_rows a)) ≡ cond (eqb x v) 0 (suc (place_of v (drop (j + 1) (line_rows a))))
unfolding place_of
front_line a j h r x er ex v = ap (place_of v) (uncons (line_rows a) [] j h) ∙ ap (λ (y : ℕ). cond (eqb y v) 0 (suc (place_of v (drop (j + 1) (line_rows a))))) (ap (λ (q : List ℕ). get_or q 1 0) (sym er) ∙ sym ex)

index_step : (a p₀ p : List ℕ) (j : ℕ) → Indexing a p₀ p (j + 1) → (r : List ℕ) (x : ℕ) → r ≡ get_or (line_rows a) j [] → x ≡ get_or r 1 0 → Indexing a p₀ (set p x j) j
index_step a p₀ p j c r x er ex = record {
  long = length-set p x j ∙ c.long;
  near = let z = c.near in omega (arith, z);
  is = λ v h. go v (let z = length-set p x j in omega (arith, z, h)) (eqb x v) refl;
}
  where
    front : (v : ℕ) → place_of v (drop j (line_rows a)) ≡ cond (eqb x v) 0 (suc (place_of v (drop (j + 1) (line_rows a))))
    front = front_line a j (let y = c.near in omega (arith, y)) r x er ex

    go : (v : ℕ) → v < length p → (b : Bool) → eqb x v ≡ b → get_or (set p x j) v 0 ≡ j + place_of v (drop j (line_rows a))
    go v h true e = let y : place_of v (drop j (line_rows a)) ≡ 0 = front v ∙ ap (λ (b : Bool). cond b 0 (suc (place_of v (drop (j + 1) (line_rows a))))) e in
        let z : get_or (set p x j) v 0 ≡ j = subst (λ (u : ℕ). get_or (set p x j) u 0 ≡ j) (eqb-true x v e) (get_or-set_same p x j 0 (let w = eqb-true x v e in omega (arith, w, h))) in omega (arith, y, z)
    go v h false e = let y : place_of v (drop j (line_rows a)) ≡ suc (place_of v (drop (j + 1) (line_rows a))) = front v ∙ ap (λ (b : Bool). cond b 0 (suc (place_of v (drop (j + 1) (line_rows a))))) e in
        let z = c.is v h in let w = eqb-false x v e in set_cases p x v j 0 (λ q. omega (arith, y, z, q)) (λ q u. absurd (w (sym q)))

-- of the entities of lines from i on the words are the last items of their lines
pub record Listing (a u : List ℕ) (i : ℕ) : Type 0 where
  pub is : (v : ℕ) → v < length u → (k : ℕ) → k ≡ i + place_of v (drop i (line_rows a)) → k < length (line_rows a) → get_or u v 0 ≡ at (get_or (line_rows a) k []) 3

list_step : (a u : List ℕ) (j : ℕ) → j < length (line_rows a) → Listing a u (j + 1) → (r : List ℕ) (x y : ℕ) → r ≡ get_or (line_rows a) j [] → x ≡ get_or r 4 0 → y ≡ get_or r 1 0 → Listing a (set u y x) j
list_step a u j lj c r x y er ex ey = record { is = λ v h k ek lk. go v (let z = length-set u y x in omega (arith, z, h)) k ek lk (eqb y v) refl }
  where
    front : (v : ℕ) → place_of v (drop j (line_rows a)) ≡ cond (eqb y v) 0 (suc (place_of v (drop (j + 1) (line_rows a))))
    front = front_line a j lj r y er ey

    go : (v : ℕ) → v < length u → (k : ℕ) → k ≡ j + place_of v (drop j (line_rows a)) → k < length (line_rows a) → (b : Bool) → eqb y v ≡ b → get_or (set u y x) v 0 ≡ at (get_or (line_rows a) k []) 3
    go v h k ek lk true e = let z : place_of v (drop j (line_rows a)) ≡ 0 = front v ∙ ap (λ (b : Bool). cond b 0 (suc (place_of v (drop (j + 1) (line_rows a))))) e in
        let w : get_or (set u y x) v 0 ≡ x = subst (λ (n : ℕ). get_or (set u y x) n 0 ≡ x) (eqb-true y v e) (get_or-set_same u y x 0 (let w = eqb-true y v e in omega (arith, w, h))) in
        w ∙ ex ∙ ap (λ (q : List ℕ). get_or q 4 0) er ∙ ap (λ (n : ℕ). at (get_or (line_rows a) n []) 3) (let m : j ≡ k = omega (arith, z, ek) in m)
    go v h k ek lk false e = let z : place_of v (drop j (line_rows a)) ≡ suc (place_of v (drop (j + 1) (line_rows a))) = front v ∙ ap (λ (b : Bool). cond b 0 (suc (place_of v (drop (j + 1) (line_rows a))))) e in
        let w = eqb-false y v e in set_cases u y v x 0 (λ q. q ∙ c.is v h k (omega (arith, z, ek)) lk) (λ q n. absurd (w (sym q)))

-- from the last line to line i: each begins where word `base ENTITY` and its number says, and ends at e, where the next one begins
pub record Walking (a p₀ u₀ p u : List ℕ) (b i e : ℕ) : Type 0 where
  pub index : Indexing a p₀ p i
  pub longu : length u ≡ length u₀
  pub low : b ≡ base ENTITY
  pub end : e ≡ get_or a (b + i) 0
  pub listing : Listing a u i

pub walk_start : (a p u : List ℕ) (b n e : ℕ) → (n ≡ length (line_rows a)) × (n ≤ LINES) → Filled (length (line_rows a)) p → b ≡ base ENTITY → e ≡ get_or a (b + n) 0 → Walking a p u p u b n e
walk_start a p u b n e en f eb ee = record { index = index_start a p n en.0 f; longu = refl; low = eb; end = ee; listing = record { is = λ v h k l z. let y = en.0 in absurd (omega (arith, l, z, y)) } }

module _ (a p₀ u₀ p u : List ℕ) (b i e : ℕ) (c : Walking a p₀ u₀ p u b i e) (h : 0 < i) where
  walk_line : (s : ℕ) (r : List ℕ) → s ≡ get_or a (b + (i - 1)) 0 → r ≡ part a s e → r ≡ get_or (line_rows a) (i - 1) []
  walk_line s r es er = let z = c.index.near in let y = lines_few a in let x = lines_most a in
      line_row a (i - 1) (length (line_rows a)) (refl, x) (omega (arith, z, h)) r
      (row_some a ENTITY (i - 1) (get_or a ENTITY 0) b r refl (omega (arith, z, y, h)) c.low
      (row_at_is a (b + (i - 1)) s e r es (c.end ∙ ap (λ (j : ℕ). get_or a j 0) (let w : b + i ≡ b + (i - 1) + 1 = omega (arith, h) in w)) er))

  pub walk_on : (s : ℕ) (r : List ℕ) (x y : ℕ) (u' p' : List ℕ) → s ≡ get_or a (b + (i - 1)) 0 → r ≡ part a s e → y ≡ get_or r 1 0 → x ≡ get_or r 4 0 → u' ≡ set u y x → p' ≡ set p y (i - 1) → Walking a p₀ u₀ p' u' b (i - 1) s
  walk_on s r x y u' p' es er ey ex eu ep = record {
    index = subst (λ (w : List ℕ). Indexing a p₀ w (i - 1)) (sym ep) (index_step a p₀ p (i - 1) (subst (Indexing a p₀ p) back c.index) r y (walk_line s r es er) ey);
    longu = ap length eu ∙ length-set u y x ∙ c.longu;
    low = c.low;
    end = es;
    listing = subst (λ (w : List ℕ). Listing a w (i - 1)) (sym eu) (list_step a u (i - 1) (let z = c.index.near in omega (arith, z, h)) (subst (Listing a u) back c.listing) r x y (walk_line s r es er) ex ey);
  }
    where
      back : i ≡ i - 1 + 1
      back = omega (arith, h)

module _ (a p₀ u₀ p u : List ℕ) (b i e : ℕ) (c : Walking a p₀ u₀ p u b i e) (h : i ≤ 0) where
  pub walk_indexed : Indexed (line_rows a) p
  walk_indexed = record { is = λ v l. let z : i ≡ 0 = omega (arith, h) in let y : get_or p v 0 ≡ 0 + place_of v (line_rows a) = c.index.is v l ∙ ap (λ (j : ℕ). j + place_of v (drop j (line_rows a))) z in omega (arith, y) }

  pub walk_listed : Listed (line_rows a) u
  walk_listed = record { is = λ v l. c.listing.is v l (place_of v (line_rows a)) (let z : i ≡ 0 = omega (arith, h) in let y : i + place_of v (drop i (line_rows a)) ≡ 0 + place_of v (line_rows a) = ap (λ (j : ℕ). j + place_of v (drop j (line_rows a))) z in omega (arith, y)) }

pub place_in : (a p : List ℕ) (v : ℕ) → Indexed (line_rows a) p → v < length p → get_or p v 0 ≡ place_of v (line_rows a)
place_in a p v c h = c.is v h

pub set_far : (a : List ℕ) (v k : ℕ) (r : List ℕ) (x : ℕ) → k ≡ place_of v (line_rows a) → r ≡ get_or (line_rows a) k [] → x ≡ get_or r 4 0 → x ≡ at (get_or (line_rows a) (place_of v (line_rows a)) []) 3
set_far a v k r x ek er ex = ex ∙ ap (λ (q : List ℕ). get_or q 4 0) (er ∙ ap (λ (n : ℕ). get_or (line_rows a) n []) ek)

pub set_near : (a u : List ℕ) (v : ℕ) → Listed (line_rows a) u → v < length u → place_of v (line_rows a) < length (line_rows a) → get_or u v 0 ≡ at (get_or (line_rows a) (place_of v (line_rows a)) []) 3
set_near a u v c h l = c.is v h l

-- ---- parents_of

-- the members of a row of tag t, where it is a set's
abbrev rows_for : List ℕ → List Row
rows_for s = rbool (eqb (at s 0) 1) ∷ rlong (long_at (at s 0 * 4294967296 + at s 1)) ∷ rtext (at s 0) ∷ rent (at s 0) (at s 1) ∷ rset (items s) ∷ rrec (entries_of (items s)) ∷ []

no_members : (s : List ℕ) (n : ℕ) → (n ≡ 4 → ⊥) → r_set [] (get_or (rows_for s) n (rbool false)) (λ l. l) ≡ []
no_members s zero h = refl
no_members s (suc zero) h = refl
no_members s (suc (suc zero)) h = refl
no_members s (suc (suc (suc zero))) h = refl
no_members s (suc (suc (suc (suc zero)))) h = absurd (h refl)
no_members s (suc (suc (suc (suc (suc zero))))) h = refl
no_members s (suc (suc (suc (suc (suc (suc n)))))) h = refl

module _ (a : List ℕ) (x : ℕ) where
  pub parents_unknown : x ≡ mark → [] ≡ named (rows_of a VALUE) x
  parents_unknown e = sym (ap (named (rows_of a VALUE)) e)

  module _ (ne : x ≡ mark → ⊥) (s : List ℕ) (t : ℕ) (es : s ≡ get_or (rows_of a VALUE) x []) (et : t ≡ tag s) where
    known : named (rows_of a VALUE) x ≡ r_set [] (value_row s) (λ l. l)
    known = ap (λ (b : Bool). cond b [] (r_set [] (value_row (get_or (rows_of a VALUE) x [])) (λ l. l))) (ne_eqb x mark ne) ∙ ap (λ (q : List ℕ). r_set [] (value_row q) (λ l. l)) (sym es)

    pub parents_other : (t ≡ SET_VALUE → ⊥) → [] ≡ named (rows_of a VALUE) x
    parents_other n = sym (known ∙ no_members s (tag s - first_value) (λ z. n (omega (arith, et, z))))

    pub parents_set : t ≡ SET_VALUE → (q : List ℕ) → q ≡ items s → q ≡ named (rows_of a VALUE) x
    parents_set e q eq = eq ∙ sym (known ∙ ap (λ (n : ℕ). r_set [] (get_or (rows_for s) (n - first_value) (rbool false)) (λ l. l)) (sym et ∙ e))

-- the parents that line i names are those that its last item names
module _ (a : List ℕ) (i : ℕ) (r : List ℕ) (x : ℕ) (er : r ≡ get_or (line_rows a) i []) (ex : x ≡ get_or r 4 0) where
  on_it : named (rows_of a VALUE) x ≡ parents_in (rows_of a VALUE) (line_rows a) (get_or (line_rows a) i [])
  on_it = ap (named (rows_of a VALUE)) (ex ∙ ap (λ (q : List ℕ). get_or q 4 0) er)

  pub parents_line : (l : List ℕ) → l ≡ named (rows_of a VALUE) x → l ≡ parents_in (rows_of a VALUE) (line_rows a) (get_or (line_rows a) i [])
  parents_line l e = e ∙ on_it

-- ---- see_at, meet, see, expand

pub see_mark : (a : List ℕ) (v : ℕ) (m q : List ℕ) (t : ℕ) → Queue (line_rows a) m q t → (k : ℕ) → k ≡ place_of v (line_rows a) → k < length m
see_mark a v m q t c k ek = let z = place_most v (line_rows a) in let y = c.lines in let w = c.marks in omega (arith, ek, z, y, w)

module _ (a : List ℕ) (v : ℕ) (m q : List ℕ) (t : ℕ) (c : Queue (line_rows a) m q t) (k : ℕ) (ek : k ≡ place_of v (line_rows a)) (x : ℕ) (ex : x ≡ get_or m k 0) where
  pub see_old : (x ≡ 0 → ⊥) → Grown (line_rows a) v m q t m q t
  see_old e = grown_old (line_rows a) v m q t c (subst (λ (i : ℕ). 1 ≤ get_or m i 0) ek (subst (λ (y : ℕ). 1 ≤ y) ex (not_none x e)))

  module _ (e : x ≡ 0) (m' : List ℕ) (em : m' ≡ set m k 1) (n : ℕ) (en : (n ≡ length (line_rows a)) × (n ≤ LINES)) where
    pub see_past : n ≤ k → Grown (line_rows a) v m q t m' q t
    see_past h = subst (λ (w : List ℕ). Grown (line_rows a) v m q t w q t) (sym em) (grown_beside (line_rows a) v m q t c k ek (let z = en.0 in omega (arith, z, h)))

    pub see_place : k < n → t < length q
    see_place h = let y = en.0 in let z = room_left (line_rows a) m q t k c (omega (arith, h, y)) (sym ex ∙ e) in let w = c.room in omega (arith, z, w)

    pub see_room : k < n → t < LINES
    see_room h = let y = en.0 in let z = room_left (line_rows a) m q t k c (omega (arith, h, y)) (sym ex ∙ e) in let w = lines_most a in omega (arith, z, w)

    pub see_new : k < n → (q' : List ℕ) → q' ≡ set q t v → Grown (line_rows a) v m q t m' q' (t + 1)
    see_new h q' eq = subst (λ (w : List ℕ). Grown (line_rows a) v m q t w q' (t + 1)) (sym em) (subst (λ (w : List ℕ). Grown (line_rows a) v m q t (set m k 1) w (t + 1)) (sym eq) (grown_one (line_rows a) v m q t c k ek (let y = en.0 in omega (arith, h, y)) (sym ex ∙ e)))

pub meet_old : (E : List (List ℕ)) (v : ℕ) (w m q : List ℕ) (t : ℕ) → Queue E m q t → Spot E w m → (w' m' : List ℕ) (b : Bool) → Entered FAR v w m w' m' b → b ≡ true → Seen E (v ∷ []) 1 w m q t w' m' q t
meet_old E v w m q t c d w' m' b f e = let (h, ew, em) = f.old e in
    subst (λ (x : List ℕ). Seen E (v ∷ []) 1 w m q t x m' q t) (sym ew) (subst (λ (x : List ℕ). Seen E (v ∷ []) 1 w m q t w x q t) (sym em) (seen_old E v w m q t c d h))

pub meet_queue : (E : List (List ℕ)) (v : ℕ) (w m q : List ℕ) (t : ℕ) → Queue E m q t → (w' m' : List ℕ) (b : Bool) → Entered FAR v w m w' m' b → b ≡ false → Queue E m' q t
meet_queue E v w m q t c w' m' b f e = noted_queue E (length w') v m m' q t c (f.new e).1

pub meet_new : (E : List (List ℕ)) (v : ℕ) (w m q : List ℕ) (t : ℕ) → Queue E m q t → Spot E w m → (w' m₁ : List ℕ) (b : Bool) → Entered FAR v w m w' m₁ b → b ≡ false → (m' q' : List ℕ) (t' : ℕ) → Grown E v m₁ q t m' q' t' → Seen E (v ∷ []) 1 w m q t w' m' q' t'
meet_new E v w m q t c d w' m₁ b f e m' q' t' g = seen_new E v w m q t c d w' (f.new e).0 m₁ (f.new e).1 m' q' t' g

pub record Seeing (a l w₀ m₀ q₀ : List ℕ) (t : ℕ) (w m q : List ℕ) (u j : ℕ) : Type 0 where
  pub near : j ≤ length l
  pub longw : length w ≡ length w₀
  pub long : length m ≡ length m₀
  pub longq : length q ≡ length q₀
  pub queue : Queue (line_rows a) m q u
  pub spot : Spot (line_rows a) w m
  pub seen : Seen (line_rows a) l j w₀ m₀ q₀ t w m q u

pub seeing_start : (a l w m q : List ℕ) (t j : ℕ) → Queue (line_rows a) m q t → Spot (line_rows a) w m → Skipped w l 0 j → Seeing a l w m q t w m q t j
seeing_start a l w m q t j d s k = record { near = k.near; longw = refl; long = refl; longq = refl; queue = d; spot = s; seen = seen_skip (line_rows a) l 0 j w m q t w m q t (seen_none (line_rows a) l 0 w m q t d s (λ i h. absurd (omega arith))) k }

module _ (a l w₀ m₀ q₀ : List ℕ) (t : ℕ) (w m q : List ℕ) (u j : ℕ) (c : Seeing a l w₀ m₀ q₀ t w m q u j) where
  pub seeing_on : j < length l → (w' m' q' : List ℕ) (u' : ℕ) → Seen (line_rows a) (get_or l j 0 ∷ []) 1 w m q u w' m' q' u' → (i : ℕ) → Skipped w' l (j + 1) i → Seeing a l w₀ m₀ q₀ t w' m' q' u' i
  seeing_on h w' m' q' u' g i k = record { near = k.near; longw = g.longw ∙ c.longw; long = g.long ∙ c.long; longq = g.longq ∙ c.longq; queue = g.queue; spot = g.spot; seen = seen_skip (line_rows a) l (j + 1) i w₀ m₀ q₀ t w' m' q' u' (seen_more (line_rows a) l j w₀ m₀ q₀ t w m q u w' m' q' u' c.seen g) k }

  pub seeing_less : j < length l → (w' : List ℕ) (i : ℕ) → Skipped w' l (j + 1) i → length l - i < length l - j
  seeing_less h w' i k = let z = k.more in omega (arith, h, z)

  pub seeing_end : length l ≤ j → Seen (line_rows a) l (length l) w₀ m₀ q₀ t w m q u
  seeing_end h = subst (λ (n : ℕ). Seen (line_rows a) l n w₀ m₀ q₀ t w m q u) (let z = c.near in let x : j ≡ length l = omega (arith, z, h) in x) c.seen

pub hide_open : (x : ℕ) (m m' : List ℕ) → x ≡ mark → m' ≡ set m HIDDEN 1 → Opened x m m'
hide_open x m m' h e = record { known = λ n. absurd (n h); unknown = λ z. e }

pub hide_known : (x : ℕ) (m : List ℕ) → (x ≡ mark → ⊥) → Opened x m m
hide_known x m h = record { known = λ n. refl; unknown = λ z. absurd (h z) }

module _ (a : List ℕ) (x : ℕ) (s w m q : List ℕ) (t : ℕ) (c : Queue (line_rows a) m q t) (o : Spot (line_rows a) w m) (d : Spread (rows_of a VALUE) (line_rows a) s w m) (y : ℕ) (ey : y ≡ get_or s x 0) where
  Full : List ℕ → List ℕ → List ℕ → Type 0
  Full w m l = (i : ℕ) → i < length l → Taken (line_rows a) w m (get_or l i 0)

  pub expand_old : (y ≡ 0 → ⊥) → Expanded (rows_of a VALUE) (line_rows a) x s w m q t s w m q t
  expand_old e = record {
    long = refl;
    seen = seen_none (line_rows a) (named (rows_of a VALUE) x) (length (named (rows_of a VALUE) x)) w m q t c o (d.is x (subst (λ (z : ℕ). 1 ≤ z) ey (not_none y e)));
    spread = d;
  }

  pub expand_new : (s' l w' m' q' : List ℕ) (t' : ℕ) → s' ≡ set s x 1 → l ≡ named (rows_of a VALUE) x → Seen (line_rows a) l (length l) w m q t w' m' q' t' → Expanded (rows_of a VALUE) (line_rows a) x s w m q t s' w' m' q' t'
  unfolding Full
  expand_new s' l w' m' q' t' es el g = record {
    long = ap length es ∙ length-set s x 1;
    seen = subst (λ (k : List ℕ). Seen (line_rows a) k (length k) w m q t w' m' q' t') el g;
    spread = subst (λ (u : List ℕ). Spread (rows_of a VALUE) (line_rows a) u w' m') (sym es) (record {
      is = λ z h. set_cases s x z 1 0
          (λ e i' b. taken_on (line_rows a) w m w' m' (get_or (named (rows_of a VALUE) z) i' 0) g.longw g.kept g.keptw (d.is z (omega (arith, h, e)) i' b))
          (λ e u. subst (λ (n : ℕ). Full w' m' (named (rows_of a VALUE) n)) (sym e) (subst (Full w' m') el g.full));
    });
  }

-- ---- reach

pub record Going (a : List ℕ) (v : ℕ) (w₀ m₀ s w m q : List ℕ) (t h : ℕ) : Type 0 where
  pub longw : length w ≡ length w₀
  pub long : length m ≡ length m₀
  pub longs : length s ≡ VALUES
  pub longq : length q ≡ LINES
  pub queue : Queue (line_rows a) m q t
  pub spot : Spot (line_rows a) w m
  pub spread : Spread (rows_of a VALUE) (line_rows a) s w m
  pub marks : Marks (rows_of a VALUE) (line_rows a) v s w m q t h

none_there : (s : List ℕ) → Filled 0 s → (x : ℕ) → get_or s x 0 ≡ 0
none_there s c x = go (ltb x (length s)) refl
  where
    go : (b : Bool) → ltb x (length s) ≡ b → get_or s x 0 ≡ 0
    go true e = c.is x (ltb-true x (length s) e)
    go false e = get_or-eq_default s 0 (ltb-false x (length s) e)

pub reach_places : (a : List ℕ) (n : ℕ) → (n ≡ length (line_rows a)) × (n ≤ LINES) → Filled (length (line_rows a)) (replicate VALUES n)
reach_places a n e = subst (λ (x : ℕ). Filled x (replicate VALUES n)) e.0 (filled_new VALUES n)

module _ (a : List ℕ) (v : ℕ) where
  few : length (line_rows a) < HIDDEN
  few = let z = lines_most a in omega (arith, z)

  pub reach_queue : (m q : List ℕ) → FAR < length m → Filled 0 m → length q ≡ LINES → Queue (line_rows a) m q 0
  reach_queue m q h c e = queue_start (rows_of a VALUE) (line_rows a) v m q few h (let z = lines_most a in omega (arith, z, e)) c.is

  pub going_start : (m m₂ w q q₂ : List ℕ) (t : ℕ) → FAR < length m → Filled 0 w × Filled 0 m → length q ≡ LINES → Grown (line_rows a) v m q 0 m₂ q₂ t → Going a v w m₂ (replicate VALUES 0) w m₂ q₂ t 0
  going_start m m₂ w q q₂ t h c nq g = let x = marks_start (rows_of a VALUE) (line_rows a) v (replicate VALUES 0) w m q m₂ q₂ t few h c.1.is (none_there (replicate VALUES 0) (filled_new VALUES 0)) (none_there w c.0) g in
      record { longw = refl; long = refl; longs = length-replicate {A = ℕ} VALUES 0; longq = g.longq ∙ nq; queue = x.queue; spot = x.spot; spread = x.spread; marks = x }

  module _ (w₀ m₀ s w m q : List ℕ) (t h : ℕ) (c : Going a v w₀ m₀ s w m q t h) where
    pub going_place : h < t → h < LINES
    going_place l = let z = c.queue.few in let y = lines_most a in omega (arith, z, y, l)

    pub going_there : h < t → (y : ℕ) → y ≡ get_or q h 0 → place_of y (line_rows a) < length (line_rows a)
    going_there l y ey = subst (λ (n : ℕ). place_of n (line_rows a) < length (line_rows a)) (sym ey) (c.queue.back h l).0

    module _ (l : h < t) (y : ℕ) (ey : y ≡ get_or q h 0) (x : ℕ) (ex : x ≡ at (get_or (line_rows a) (place_of y (line_rows a)) []) 3) (m₁ : List ℕ) (o : Opened x m m₁) where
      ek : place_of y (line_rows a) ≡ place_of (get_or q h 0) (line_rows a)
      ek = ap (λ (n : ℕ). place_of n (line_rows a)) ey

      pub going_open : Marks (rows_of a VALUE) (line_rows a) v s w m₁ q t h
      going_open = marks_open (rows_of a VALUE) (line_rows a) v s w m q t h c.marks l (place_of y (line_rows a)) ek x ex m₁ o

      pub going_on : (s' w' m' q' : List ℕ) (t' : ℕ) → Expanded (rows_of a VALUE) (line_rows a) x s w m₁ q t s' w' m' q' t' → Going a v w₀ m₀ s' w' m' q' t' (h + 1)
      going_on s' w' m' q' t' g = record { longw = g.seen.longw ∙ c.longw; long = g.seen.long ∙ opened_long x m m₁ o ∙ c.long; longs = g.long ∙ c.longs; longq = g.seen.longq ∙ c.longq; queue = g.seen.queue; spot = g.seen.spot; spread = g.spread; marks = marks_on (rows_of a VALUE) (line_rows a) v s w m₁ q t h going_open l (place_of y (line_rows a)) ek x ex (marks_shown (rows_of a VALUE) (line_rows a) v s w m q t h c.marks l (place_of y (line_rows a)) ek x ex m₁ o) s' w' m' q' t' g }

    pub going_less : h < t → length (line_rows a) - (h + 1) < length (line_rows a) - h
    going_less l = let z = c.queue.few in omega (arith, z, l)

    pub going_end : t ≤ h → Found (rows_of a VALUE) (line_rows a) v w m
    going_end l = marks_end (rows_of a VALUE) (line_rows a) v s w m q t h c.marks l

-- ---- marked places asked in turn

pub record Asking (f : ℕ → Bool) (m : List ℕ) (d n k : ℕ) : Type 0 where
  pub all : n ≡ d
  pub near : k ≤ n
  pub rest : any_marked f m 0 d ≡ any_marked f m k (n - k)

module _ (f : ℕ → Bool) (m : List ℕ) (d n : ℕ) where
  pub asking_start : n ≡ d → Asking f m d n 0
  asking_start e = record { all = e; near = omega arith; rest = ap (any_marked f m 0) (let y : d ≡ n - 0 = omega (arith, e) in y) }

  module _ (k : ℕ) (c : Asking f m d n k) where
    module _ (h : k < n) (b : Bool) (eb : b ≡ marked_at f m k) where
      turn : any_marked f m 0 d ≡ (b || any_marked f m (k + 1) (n - (k + 1)))
      unfolding any_marked
      turn = c.rest ∙ ap (any_marked f m k) (let z : n - k ≡ suc (n - (k + 1)) = omega (arith, h) in z)
          ∙ ap₂ (λ (y : Bool) (i : ℕ). y || any_marked f m i (n - (k + 1))) (sym eb) (let z : suc k ≡ k + 1 = omega arith in z)

      pub asked_yes : b ≡ true → true ≡ any_marked f m 0 d
      asked_yes e = sym (turn ∙ ap (λ (y : Bool). y || any_marked f m (k + 1) (n - (k + 1))) e)

      pub asked_no : b ≡ false → Asking f m d n (k + 1)
      asked_no e = record { all = c.all; near = omega (arith, h); rest = turn ∙ ap (λ (y : Bool). y || any_marked f m (k + 1) (n - (k + 1))) e }

    pub asked_end : n ≤ k → false ≡ any_marked f m 0 d
    unfolding any_marked
    asked_end h = sym (c.rest ∙ ap (any_marked f m k) (let z : n - k ≡ 0 = omega (arith, h) in z))

-- the same as a chain over places answers it
any_places : (f : ℕ → Bool) (m : List ℕ) (i n : ℕ) → list_any (marked_at f m) (range_with_len i n) ≡ any_marked f m i n
unfolding any_marked
any_places f m i zero = refl
any_places f m i (suc n) = ap (λ (b : Bool). marked_at f m i || b) (any_places f m (i + 1) n ∙ ap (λ (j : ℕ). any_marked f m j n) (add-one i))

pub asked_is : (f : ℕ → Bool) (m : List ℕ) (n d : ℕ) (b : Bool) → n ≡ d → b ≡ list_any (marked_at f m) (range_with_len 0 n) → b ≡ any_marked f m 0 d
asked_is f m n d b e q = q ∙ any_places f m 0 n ∙ ap (any_marked f m 0) e

module _ (f : ℕ → Bool) (m : List ℕ) (k x : ℕ) (ex : x ≡ get_or m k 0) where
  pub mark_none : x ≡ 0 → false ≡ marked_at f m k
  unfolding marked_at
  mark_none e = sym (ap (λ (y : ℕ). not (eqb y 0) && f k) (sym ex) ∙ ap (λ (b : Bool). not b && f k) (eq-eqb x 0 e))

  pub mark_some : (x ≡ 0 → ⊥) → (b : Bool) → b ≡ f k → b ≡ marked_at f m k
  unfolding marked_at
  mark_some e b eb = eb ∙ sym (ap (λ (y : ℕ). not (eqb y 0) && f k) (sym ex) ∙ ap (λ (b : Bool). not b && f k) (ne_eqb x 0 e))

-- ---- names_at, is_met, meets_above

pub names_some : (a m : List ℕ) (k v x : ℕ) → x ≡ get_or m k 0 → (x ≡ 0 → ⊥) → (l : List ℕ) → l ≡ parents_in (rows_of a VALUE) (line_rows a) (get_or (line_rows a) k []) → (b : Bool) → b ≡ mem_n v l → b ≡ marked_at (names_at (rows_of a VALUE) (line_rows a) v) m k
unfolding names_at
names_some a m k v x ex e l el b eb = mark_some (names_at (rows_of a VALUE) (line_rows a) v) m k x ex e b (eb ∙ ap (mem_n v) el)

module _ (a w m : List ℕ) (v : ℕ) where
  pub met_near : v < length w → not (eqb (get_or w v 0) 0) ≡ is_met (rows_of a VALUE) (line_rows a) w m v
  unfolding is_met
  met_near h = sym (ap (λ (b : Bool). cond b (not (eqb (get_or w v 0) 0)) (not (eqb (get_or m FAR 0) 0) && any_marked (names_at (rows_of a VALUE) (line_rows a) v) m 0 (length (line_rows a)))) (lt-ltb v (length w) h))

  module _ (h : length w ≤ v) (x : ℕ) (ex : x ≡ get_or m FAR 0) where
    past : is_met (rows_of a VALUE) (line_rows a) w m v ≡ (not (eqb x 0) && any_marked (names_at (rows_of a VALUE) (line_rows a) v) m 0 (length (line_rows a)))
    unfolding is_met
    past = ap (λ (b : Bool). cond b (not (eqb (get_or w v 0) 0)) (not (eqb (get_or m FAR 0) 0) && any_marked (names_at (rows_of a VALUE) (line_rows a) v) m 0 (length (line_rows a)))) (le-ltb v (length w) h) ∙ ap (λ (y : ℕ). not (eqb y 0) && any_marked (names_at (rows_of a VALUE) (line_rows a) v) m 0 (length (line_rows a))) (sym ex)

    pub met_none : x ≡ 0 → false ≡ is_met (rows_of a VALUE) (line_rows a) w m v
    met_none e = sym (past ∙ ap (λ (b : Bool). not b && any_marked (names_at (rows_of a VALUE) (line_rows a) v) m 0 (length (line_rows a))) (eq-eqb x 0 e))

    pub met_far : (x ≡ 0 → ⊥) → (b : Bool) → b ≡ any_marked (names_at (rows_of a VALUE) (line_rows a) v) m 0 (length (line_rows a)) → b ≡ is_met (rows_of a VALUE) (line_rows a) w m v
    met_far e b eb = eb ∙ sym (past ∙ ap (λ (b : Bool). not b && any_marked (names_at (rows_of a VALUE) (line_rows a) v) m 0 (length (line_rows a))) (ne_eqb x 0 e))

pub any_is : (a w m l : List ℕ) → list_any (is_met (rows_of a VALUE) (line_rows a) w m) l ≡ any_met (rows_of a VALUE) (line_rows a) w m l
unfolding any_met
any_is a w m [] = refl
any_is a w m (t ∷ l) = ap (λ (b : Bool). is_met (rows_of a VALUE) (line_rows a) w m t || b) (any_is a w m l)

-- ---- open_above

module _ (a m : List ℕ) (x : ℕ) (ex : x ≡ get_or m HIDDEN 0) where
  pub open_hidden : (x ≡ 0 → ⊥) → true ≡ (not (eqb (get_or m HIDDEN 0) 0) || not (eqb (get_or m (length (line_rows a)) 0) 0))
  open_hidden e = sym (ap (λ (y : ℕ). not (eqb y 0) || not (eqb (get_or m (length (line_rows a)) 0) 0)) (sym ex) ∙ ap (λ (b : Bool). not b || not (eqb (get_or m (length (line_rows a)) 0) 0)) (ne_eqb x 0 e))

  pub open_listed : x ≡ 0 → (n : ℕ) → (n ≡ length (line_rows a)) × (n ≤ LINES) → (y : ℕ) → y ≡ get_or m n 0 → not (eqb y 0) ≡ (not (eqb (get_or m HIDDEN 0) 0) || not (eqb (get_or m (length (line_rows a)) 0) 0))
  open_listed e n en y ey = ap (λ (z : ℕ). not (eqb z 0)) (ey ∙ ap (λ (i : ℕ). get_or m i 0) en.0) ∙ sym (ap (λ (b : Bool). not b || not (eqb (get_or m (length (line_rows a)) 0) 0)) (eq-eqb (get_or m HIDDEN 0) 0 (sym ex ∙ e)))

-- ---- none of these

pub any_none : (l : List ℕ) → any_n l [] ≡ false
any_none [] = refl
any_none (x ∷ l) = any_none l
