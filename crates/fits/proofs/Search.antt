-- The recursion: one law for each way through its functions.
use mathlib.Core.Path.{◌≡◌, refl, sym, ap, ◌∙◌}
use mathlib.Core.Bool.{Bool, true, false, ◌&&◌, not}
use mathlib.Core.Logic.{⊎_elim}
use mathlib.Core.List.{List, [], ◌∷◌}
use mathlib.Core.Option.{none, some}
use Prim.Native.Nat.{ℕ, suc, ◌+◌, ◌-◌, ◌≤◌, ◌<◌}
use native.Mathlib.Omega.{arith}
use borrow.Author.Tests.{not-true, not-false}
use native.Mathlib.Numerals.{add-one}
use lib.ListN.{length, get_or, take, drop, drop_of_length-le}
use lib.Seq.{drop-cons}
use Rattle.cedar.specs.Value.{on_some}
use Rattle.cedar.proofs.Tools.{no_true}
use Rattle.sheet.specs.Forms.{tag, items, VALUE, TYPE}
use Rattle.sheet.specs.State.{declareds, entries_of}
use Rattle.sheet.specs.Typing.{declared_in, all_in, all_entries, fits_in}
use Rattle.forms.specs.Tags.{SET_TYPE, RECORD_TYPE, SET_VALUE, RECORD_VALUE}
use Rattle.table.specs.Layout.{rows_of, TYPEDEPTHS}
use Rattle.fits.specs.Fit.{complete_in, declared_by, set_fits, record_fits, tags_fit_by, rows_fit, Leaf, marked, with_pair, SettledIn, deep, full, Known, Ran, Answered}
use Rattle.fits.proofs.Walks.{entries_end, entries_on}
use Rattle.fits.proofs.Sorts.{set_is, set_not, record_is, record_lacks, record_not}
use Rattle.fits.proofs.Remembered.{only_pair, rest_pair}

module _ {a m n : List ℕ} {low high : Bool} where
  ran_no : low ≡ false → Known a n → drop TYPEDEPTHS n ≡ drop TYPEDEPTHS m → Ran a m n low high false
  ran_no e k q = record { yes_is = λ h. no_true h; no_is = λ h. e; known = k; rest = q }

  ran_yes : (SettledIn a → high ≡ true) → Known a n → drop TYPEDEPTHS n ≡ drop TYPEDEPTHS m → Ran a m n low high true
  ran_yes e k q = record { yes_is = λ h. e; no_is = λ h. no_true (sym h); known = k; rest = q }

  ran_as : {l h b : Bool} → low ≡ l → high ≡ h → Ran a m n l h b → Ran a m n low high b
  ran_as p q r = record { yes_is = λ h s. q ∙ r.yes_is h s; no_is = λ h. p ∙ r.no_is h; known = r.known; rest = r.rest }

-- ---- walks from words m, now n: what is left decides the whole

pub record Walk (a m n : List ℕ) (low high low' high' : Bool) : Type 0 where
  pub up : SettledIn a → high' ≡ true → high ≡ true
  pub down : low' ≡ false → low ≡ false
  pub known : Known a n
  pub rest : drop TYPEDEPTHS n ≡ drop TYPEDEPTHS m

and_true : (x y : Bool) → x ≡ true → y ≡ true → (x && y) ≡ true
and_true x y p q = rw (p, q)

and_false : (x y : Bool) → y ≡ false → (x && y) ≡ false
and_false true y h = h
and_false false y h = refl

module _ {a m n : List ℕ} {low high : Bool} where
  walk_end : Walk a m n low high true true → Ran a m n low high true
  walk_end w = ran_yes (λ s. w.up s refl) w.known w.rest

  walk_no : {high' : Bool} → Walk a m n low high false high' → Ran a m n low high false
  walk_no w = ran_no (w.down refl) w.known w.rest

  walk_as : {l h l' h' : Bool} → l ≡ l' → h ≡ h' → Walk a m n low high l h → Walk a m n low high l' h'
  walk_as p q w = record { up = λ s e. w.up s (q ∙ e); down = λ e. w.down (p ∙ e); known = w.known; rest = w.rest }

  module _ (low' high' : Bool) {o : List ℕ} {x y b : Bool} (w : Walk a m n low high (x && low') (y && high')) (r : Ran a n o x y b) where
    walk_on : b ≡ true → Walk a m o low high low' high'
    walk_on e = record {
      up = λ s h. w.up s (and_true y high' (r.yes_is e s) h);
      down = λ h. w.down (and_false x low' h);
      known = r.known;
      rest = r.rest ∙ w.rest;
    }

    walk_off : b ≡ false → Ran a m o low high false
    walk_off e = ran_no (w.down (rw (r.no_is e))) r.known (r.rest ∙ w.rest)

pub next : (r : List ℕ) (i : ℕ) → i < length r → drop i r ≡ get_or r i 0 ∷ drop (i + 1) r
next r i h = rw (add-one i) (drop-cons r i 0 h)

-- ---- `elements`: the items s of row r, walked from item i on

module _ (a r : List ℕ) (y d : ℕ) where
  pub record Elements (m n s : List ℕ) (i : ℕ) : Type 0 where
    pub walk : Walk a m n (set_fits (deep a d) r y) (set_fits (full a) r y) (all_in (λ x. deep a d x y) (drop i s)) (all_in (λ x. full a x y) (drop i s))

  pub elements_start : (m s : List ℕ) → s ≡ items r → Known a m → Elements m m s 0
  unfolding set_fits
  elements_start m s e k = rw e (record { walk = record { up = λ s e. e; down = λ e. e; known = k; rest = refl } })

  all_on : (f : ℕ → Bool) (s : List ℕ) (i : ℕ) → i < length s → all_in f (drop i s) ≡ (f (get_or s i 0) && all_in f (drop (i + 1) s))
  all_on f s i h = rw (next s i h)

  module _ (m n o s : List ℕ) (i : ℕ) (b : Bool) (w : Elements m n s i) (h : i < length s) (q : Ran a n o (deep a d (get_or s i 0) y) (full a (get_or s i 0) y) b) where
    step : Walk a m n (set_fits (deep a d) r y) (set_fits (full a) r y) (deep a d (get_or s i 0) y && all_in (λ x. deep a d x y) (drop (i + 1) s)) (full a (get_or s i 0) y && all_in (λ x. full a x y) (drop (i + 1) s))
    step = walk_as (all_on (λ x. deep a d x y) s i h) (all_on (λ x. full a x y) s i h) w.walk

    pub elements_on : b ≡ true → Elements m o s (i + 1)
    elements_on nb = record { walk = walk_on (all_in (λ x. deep a d x y) (drop (i + 1) s)) (all_in (λ x. full a x y) (drop (i + 1) s)) step q nb }

    pub elements_off : b ≡ false → Ran a m o (set_fits (deep a d) r y) (set_fits (full a) r y) false
    elements_off nb = walk_off (all_in (λ x. deep a d x y) (drop (i + 1) s)) (all_in (λ x. full a x y) (drop (i + 1) s)) step q nb

  pub elements_end : (m n s : List ℕ) (i : ℕ) → Elements m n s i → length s ≤ i → Ran a m n (set_fits (deep a d) r y) (set_fits (full a) r y) true
  elements_end m n s i w h =
      let e : drop i s ≡ [] = drop_of_length-le s h in
      walk_end (walk_as (ap (all_in (λ x. deep a d x y)) e) (ap (all_in (λ x. full a x y)) e) w.walk)

-- ---- `entries`: items l are left

module _ (a r y : List ℕ) (d : ℕ) where
  abbrev left : (ℕ → ℕ → Bool) → List ℕ → Bool
  left f l = all_entries (λ t x. on_some false (declared_in t (declareds (items y))) (f x)) (entries_of l)

  pub record Entered (m n l : List ℕ) : Type 0 where
    pub walk : Walk a m n (record_fits (deep a d) r y) (record_fits (full a) r y) (left (deep a d) l) (left (full a) l)

  pub entries_start : (m l : List ℕ) → l ≡ items r → Known a m → Entered m m l
  unfolding record_fits
  entries_start m l e k = rw e (record { walk = record { up = λ s e. e; down = λ e. e; known = k; rest = refl } })

  module _ (m n l : List ℕ) (w : Entered m n l) where
    pub entries_done : length l < 2 → Ran a m n (record_fits (deep a d) r y) (record_fits (full a) r y) true
    entries_done h =
        let e : (f : ℕ → ℕ → Bool) → left f l ≡ true = λ f. rw (entries_end l h) in
        walk_end (walk_as (e (deep a d)) (e (full a)) w.walk)

    module _ (h : 2 ≤ length l) where
      on : (f : ℕ → ℕ → Bool) → left f l ≡ (on_some false (declared_in (get_or l 0 0) (declareds (items y))) (f (get_or l 1 0)) && left f (take (length l - 2) (drop 2 l)))
      on f = rw (entries_on l h)

      pub entries_undeclared : none ≡ declared_by y (get_or l 0 0) → Ran a m n (record_fits (deep a d) r y) (record_fits (full a) r y) false
      unfolding declared_by
      entries_undeclared e =
          let p : (f : ℕ → ℕ → Bool) → left f l ≡ false = λ f. on f ∙ rw (← e) in
          walk_no (walk_as (p (deep a d)) (p (full a)) w.walk)

      module _ (o : List ℕ) (z : ℕ) (b : Bool) (e : some z ≡ declared_by y (get_or l 0 0)) (q : Ran a n o (deep a d (get_or l 1 0) z) (full a (get_or l 1 0) z) b) where
        on_as : (f : ℕ → ℕ → Bool) → left f l ≡ (f (get_or l 1 0) z && left f (take (length l - 2) (drop 2 l)))
        unfolding declared_by
        on_as f = on f ∙ rw (← e)

        stepped : Walk a m n (record_fits (deep a d) r y) (record_fits (full a) r y) (deep a d (get_or l 1 0) z && left (deep a d) (take (length l - 2) (drop 2 l))) (full a (get_or l 1 0) z && left (full a) (take (length l - 2) (drop 2 l)))
        stepped = walk_as (on_as (deep a d)) (on_as (full a)) w.walk

        pub entries_more : b ≡ true → Entered m o (take (length l - 2) (drop 2 l))
        entries_more nb = record { walk = walk_on (left (deep a d) (take (length l - 2) (drop 2 l))) (left (full a) (take (length l - 2) (drop 2 l))) stepped q nb }

        pub entries_off : b ≡ false → Ran a m o (record_fits (deep a d) r y) (record_fits (full a) r y) false
        entries_off nb = walk_off (left (deep a d) (take (length l - 2) (drop 2 l))) (left (full a) (take (length l - 2) (drop 2 l))) stepped q nb

-- ---- `row_fits`

module _ (a m n r y : List ℕ) (d k z : ℕ) (ek : k ≡ tag r) (ez : z ≡ tag y) where
  pub row_set : (b : Bool) (e : ℕ) → z ≡ SET_TYPE → k ≡ SET_VALUE → e ≡ get_or y 1 0 → Ran a m n (set_fits (deep a d) r e) (set_fits (full a) r e) b → Ran a m n (rows_fit (deep a d) r y) (rows_fit (full a) r y) b
  row_set b e h7 h14 he q = ran_as (set_is (deep a d) r y e (sym ez ∙ h7) (sym ek ∙ h14) he) (set_is (full a) r y e (sym ez ∙ h7) (sym ek ∙ h14) he) q

  pub row_record : (b c : Bool) → z ≡ RECORD_TYPE → k ≡ RECORD_VALUE → c ≡ complete_in r y → not c ≡ false → Ran a m n (record_fits (deep a d) r y) (record_fits (full a) r y) b
      → Ran a m n (rows_fit (deep a d) r y) (rows_fit (full a) r y) b
  row_record b c h8 h15 ec nc q =
      let t : complete_in r y ≡ true = sym ec ∙ not-false c nc in
      ran_as (record_is (deep a d) r y (sym ez ∙ h8) (sym ek ∙ h15) t) (record_is (full a) r y (sym ez ∙ h8) (sym ek ∙ h15) t) q

module _ (a m r y : List ℕ) (d k z : ℕ) (ek : k ≡ tag r) (ez : z ≡ tag y) (q : Known a m) where
  pub row_no_set : z ≡ SET_TYPE → (k ≡ SET_VALUE → ⊥) → Ran a m m (rows_fit (deep a d) r y) (rows_fit (full a) r y) false
  row_no_set h7 h14 = ran_no (set_not (deep a d) r y (sym ez ∙ h7) (λ e. h14 (ek ∙ e))) q refl

  pub row_lacks : (c : Bool) → z ≡ RECORD_TYPE → k ≡ RECORD_VALUE → c ≡ complete_in r y → not c ≡ true → Ran a m m (rows_fit (deep a d) r y) (rows_fit (full a) r y) false
  row_lacks c h8 h15 ec nc = ran_no (record_lacks (deep a d) r y (sym ez ∙ h8) (sym ek ∙ h15) (sym ec ∙ not-true c nc)) q refl

  pub row_no_record : z ≡ RECORD_TYPE → (k ≡ RECORD_VALUE → ⊥) → Ran a m m (rows_fit (deep a d) r y) (rows_fit (full a) r y) false
  row_no_record h8 h15 = ran_no (record_not (deep a d) r y (sym ez ∙ h8) (λ e. h15 (ek ∙ e))) q refl

  pub row_leaf : (b : Bool) → (z ≡ SET_TYPE → ⊥) → (z ≡ RECORD_TYPE → ⊥) → Leaf r y b → Ran a m m (rows_fit (deep a d) r y) (rows_fit (full a) r y) b
  row_leaf b h7 h8 l =
      let e : (f : ℕ → ℕ → Bool) → b ≡ rows_fit f r y = λ f. l.is f (λ h. h7 (ez ∙ h)) (λ h. h8 (ez ∙ h)) in
      record { yes_is = λ h s. sym (e (full a)) ∙ h; no_is = λ h. sym (e (deep a d)) ∙ h; known = q; rest = refl }

-- ---- `fits`

module _ (a m : List ℕ) (v t d : ℕ) where
  pub fits_deep : d ≡ 0 → Known a m → Ran a m m (deep a d v t) (full a v t) false
  unfolding deep
  fits_deep e k = ran_no (rw e) k refl

  pub fits_hit : (b : Bool) → Known a m → b ≡ marked m v t → b ≡ true → Ran a m m (deep a d v t) (full a v t) true
  fits_hit b k eb e = ran_yes (λ s. k.holds v t (sym eb ∙ e) s) k refl

  module _ (n r y : List ℕ) (b : Bool) (er : r ≡ get_or (rows_of a VALUE) v []) (ey : y ≡ get_or (rows_of a TYPE) t [])
      (q : Ran a m n (rows_fit (deep a (d - 1)) r y) (rows_fit (full a) r y) b) where
    pub fits_no : (d ≡ 0 → ⊥) → not b ≡ true → Ran a m n (deep a d v t) (full a v t) false
    unfolding deep rows_fit
    fits_no nd nb =
        let e : d ≡ suc (d - 1) = omega arith in
        let h : rows_fit (deep a (d - 1)) (get_or (rows_of a VALUE) v []) (get_or (rows_of a TYPE) t []) ≡ false = rw (← er, ← ey) (q.no_is (not-true b nb)) in
        ran_no (rw e h) q.known q.rest

    closed : not b ≡ false → SettledIn a → full a v t ≡ true
    unfolding SettledIn full rows_fit
    closed nb s = s.closes v t (rw (← er, ← ey) (q.yes_is (not-false b nb) s))

    pub fits_yes : (o : List ℕ) → not b ≡ false → o ≡ with_pair n v t → Ran a m o (deep a d v t) (full a v t) true
    fits_yes o nb e = rw e (ran_yes (closed nb) (record {
      holds = λ w u h s. ⊎_elim (λ i. q.known.holds w u i s) (λ i. rw (i.0, i.1) (closed nb s)) (only_pair n v t w u h);
    }) (rest_pair n v t ∙ q.rest))

-- ---- at the whole depth both ends of the answer meet

pub answered : (a m n : List ℕ) (v t : ℕ) (b : Bool) → Ran a m n (deep a 64 v t) (full a v t) b → Answered a m n (full a v t) b
unfolding deep full fits_in
answered a m n v t true r = record { is = λ s. sym (r.yes_is refl s); known = r.known; rest = r.rest }
answered a m n v t false r = record { is = λ s. sym (r.no_is refl); known = r.known; rest = r.rest }

-- ---- `tags_fit`: items l are left

module _ (a r : List ℕ) (y : ℕ) where
  abbrev tags : List ℕ → Bool
  tags l = all_entries (λ t x. full a x y) (entries_of l)

  pub record Tagged (m n l : List ℕ) : Type 0 where
    pub left : SettledIn a → tags_fit_by (full a) r y ≡ tags l
    pub known : Known a n
    pub rest : drop TYPEDEPTHS n ≡ drop TYPEDEPTHS m

  pub tags_start : (m l : List ℕ) → l ≡ items r → Known a m → Tagged m m l
  unfolding tags_fit_by
  tags_start m l e k = rw e (record { left = λ s. refl; known = k; rest = refl })

  module _ (m n l : List ℕ) (w : Tagged m n l) where
    pub tags_done : length l < 2 → Answered a m n (tags_fit_by (full a) r y) true
    tags_done h = record { is = λ s. sym (w.left s ∙ rw (entries_end l h)); known = w.known; rest = w.rest }

    module _ (o : List ℕ) (b : Bool) (h : 2 ≤ length l) (q : Answered a n o (full a (get_or l 1 0) y) b) where
      tags_step : tags l ≡ (full a (get_or l 1 0) y && tags (take (length l - 2) (drop 2 l)))
      tags_step = rw (entries_on l h)

      pub tags_on : b ≡ true → Tagged m o (take (length l - 2) (drop 2 l))
      tags_on nb = record {
        left = λ s. let e : full a (get_or l 1 0) y ≡ true = sym (q.is s) ∙ nb in w.left s ∙ tags_step ∙ rw e;
        known = q.known;
        rest = q.rest ∙ w.rest;
      }

      pub tags_off : b ≡ false → Answered a m o (tags_fit_by (full a) r y) false
      tags_off nb = record {
        is = λ s. let e : full a (get_or l 1 0) y ≡ false = sym (q.is s) ∙ nb in sym (w.left s ∙ tags_step ∙ rw e);
        known = q.known;
        rest = q.rest ∙ w.rest;
      }
