-- Walks over the items of a row by two and by three: what is left decides the whole.
use mathlib.Core.Path.{◌≡◌, refl, sym, ap, ◌∙◌}
use mathlib.Core.Bool.{Bool, true, false, cond, ◌&&◌, not, or-true}
use mathlib.Core.List.{List, [], ◌∷◌}
use mathlib.Core.Option.{Option, some}
use Prim.Native.Nat.{ℕ, ◌-◌, ◌≤◌, ◌<◌}
use native.Mathlib.Omega.{arith}
use borrow.Author.Tests.{eq-eqb, ne_eqb, ltb-true, lt-ltb, le-ltb, not-true, not-false}
use lib.Dec.{eqb, ltb}
use lib.ListN.{length, get_or, take, drop}
use Rattle.std.specs.Prelude.{Some, None}
use Rattle.std.proofs.lemmas.List.{take_rest}
use Rattle.cedar.specs.Rows.{stop, entry}
use Rattle.cedar.specs.Numbered.{entry_of, is_some, pick_n}
use Rattle.sheet.specs.Forms.{items}
use Rattle.sheet.specs.State.{declareds, entries_of}
use Rattle.sheet.specs.Typing.{declared_in, required_there}
use Rattle.forms.specs.Tags.{REQUIRED}
use Rattle.fits.specs.Fit.{has_in, Within, after_in, complete_in, met, Ahead, Sought, declared_by, found_in}

-- ---- the first entry of items l, and what is left of them behind it

pub entries_end : (l : List ℕ) → length l < 2 → entries_of l ≡ stop
entries_end [] h = refl
entries_end (t ∷ []) h = refl
entries_end (t ∷ x ∷ l) h = absurd (omega arith)

pub entries_on : (l : List ℕ) → 2 ≤ length l → entries_of l ≡ entry (get_or l 0 0) (get_or l 1 0) (entries_of (take (length l - 2) (drop 2 l)))
entries_on l h = rw (take_rest l 2) (go l h)
  where
    go : (l : List ℕ) → 2 ≤ length l → entries_of l ≡ entry (get_or l 0 0) (get_or l 1 0) (entries_of (drop 2 l))
    go [] h = absurd (omega arith)
    go (t ∷ []) h = absurd (omega arith)
    go (t ∷ x ∷ l) h = refl

pub declareds_end : (l : List ℕ) → length l < 3 → declareds l ≡ []
declareds_end [] h = refl
declareds_end (t ∷ []) h = refl
declareds_end (t ∷ r ∷ []) h = refl
declareds_end (t ∷ r ∷ y ∷ l) h = absurd (omega arith)

pub declareds_on : (l : List ℕ) → 3 ≤ length l
    → declareds l ≡ record { text = get_or l 0 0; required = eqb (get_or l 1 0) 1; type = get_or l 2 0 } ∷ declareds (take (length l - 3) (drop 3 l))
declareds_on l h = rw (take_rest l 3) (go l h)
  where
    go : (l : List ℕ) → 3 ≤ length l → declareds l ≡ record { text = get_or l 0 0; required = eqb (get_or l 1 0) 1; type = get_or l 2 0 } ∷ declareds (drop 3 l)
    go [] h = absurd (omega arith)
    go (t ∷ []) h = absurd (omega arith)
    go (t ∷ r ∷ []) h = absurd (omega arith)
    go (t ∷ r ∷ y ∷ l) h = refl

-- ---- `there`

-- what is left of record r decides whether it has attribute t
pub record There (r : List ℕ) (t : ℕ) (l : List ℕ) : Type 0 where
  pub left : has_in r t ≡ is_some (entry_of t (entries_of l))

pub there_start : (r : List ℕ) (t : ℕ) (l : List ℕ) → l ≡ items r → There r t l
unfolding has_in
there_start r t l e = record { left = rw e }

module _ (r : List ℕ) (t : ℕ) (l : List ℕ) (w : There r t l) where
  pub there_end : length l < 2 → false ≡ has_in r t
  there_end h = sym (w.left ∙ ap (λ es. is_some (entry_of t es)) (entries_end l h))

  pub there_hit : 2 ≤ length l → t ≡ get_or l 0 0 → true ≡ has_in r t
  there_hit h e = sym (w.left ∙ rw (entries_on l h, eq-eqb t (get_or l 0 0) e))

  pub there_on : 2 ≤ length l → (t ≡ get_or l 0 0 → ⊥) → There r t (take (length l - 2) (drop 2 l))
  there_on h e = record { left = w.left ∙ rw (entries_on l h, ne_eqb t (get_or l 0 0) e) }

-- ---- `declared`

-- what is left of record type y decides what it declares for attribute t
pub record Declares (y : List ℕ) (t : ℕ) (l : List ℕ) : Type 0 where
  pub left : declared_by y t ≡ declared_in t (declareds l)

pub declared_start : (y : List ℕ) (t : ℕ) (l : List ℕ) → l ≡ items y → Declares y t l
unfolding declared_by
declared_start y t l e = record { left = rw e }

declared_first : (t : ℕ) (l : List ℕ) → 3 ≤ length l → t ≡ get_or l 0 0 → declared_in t (declareds l) ≡ some (get_or l 2 0)
declared_first t l h e = rw (declareds_on l h, eq-eqb t (get_or l 0 0) e)

declared_later : (t : ℕ) (l : List ℕ) → 3 ≤ length l → (t ≡ get_or l 0 0 → ⊥) → declared_in t (declareds l) ≡ declared_in t (declareds (take (length l - 3) (drop 3 l)))
declared_later t l h e = rw (declareds_on l h, ne_eqb t (get_or l 0 0) e)

module _ (y : List ℕ) (t : ℕ) (l : List ℕ) (w : Declares y t l) where
  pub declared_end : length l < 3 → found_in None ≡ declared_by y t
  declared_end h = sym (w.left ∙ ap (declared_in t) (declareds_end l h))

  pub declared_hit : 3 ≤ length l → t ≡ get_or l 0 0 → found_in (Some (get_or l 2 0)) ≡ declared_by y t
  declared_hit h e = sym (w.left ∙ declared_first t l h e)

  pub declared_on : 3 ≤ length l → (t ≡ get_or l 0 0 → ⊥) → Declares y t (take (length l - 3) (drop 3 l))
  declared_on h e = record { left = w.left ∙ declared_later t l h e }

-- ---- `seek`

pub ahead_start : (y l : List ℕ) → l ≡ items y → Ahead y l
unfolding declared_by
ahead_start y l e = record { left = λ t h. rw e }

pub ahead_on : (y l m : List ℕ) → Ahead y l → Sought l m → Ahead y m
ahead_on y l m a s = record { left = λ t h. a.left t (omega (arith, s.low)) ∙ s.left t h }

-- the attributes passed are below t
pub record Seeks (l : List ℕ) (t : ℕ) (m : List ℕ) : Type 0 where
  pub low : t ≤ get_or l 0 0 → get_or m 0 0 ≡ get_or l 0 0
  pub above : (u : ℕ) → t ≤ u → get_or m 0 0 ≤ u → declared_in u (declareds l) ≡ declared_in u (declareds m)

pub seek_start : (l : List ℕ) (t : ℕ) → Seeks l t l
seek_start l t = record { low = λ h. refl; above = λ u h k. refl }

module _ (l : List ℕ) (t : ℕ) (m : List ℕ) (w : Seeks l t m) where
  pub seek_hit : t ≤ get_or m 0 0 → Sought l m
  seek_hit h = record { low = grind (arith, w.low); left = λ u k. w.above u (omega arith) k }

  pub seek_on : 3 ≤ length m → get_or m 0 0 < t → Seeks l t (take (length m - 3) (drop 3 m))
  seek_on n h = record {
    low = λ k. absurd (omega (arith, w.low k));
    above = λ u k e. w.above u k (omega arith) ∙ declared_later u m n (λ q. omega arith);
  }

pub seek_none : (l : List ℕ) → Sought l l
seek_none l = record { low = omega arith; left = λ t h. refl }

pub declared_here : (y l : List ℕ) (t : ℕ) → Ahead y l → 3 ≤ length l → t ≡ get_or l 0 0 → found_in (Some (get_or l 2 0)) ≡ declared_by y t
declared_here y l t a h e = sym (a.left t (omega arith) ∙ declared_first t l h e)

-- ---- `after`

module _ (l : List ℕ) (t : ℕ) where
  pub after_end : length l < 2 → l ≡ after_in l t
  unfolding after_in
  after_end h = rw (le-ltb 1 (length l) (omega arith))

  module _ (h : 2 ≤ length l) where
    pub after_hit : t ≡ get_or l 0 0 → take (length l - 2) (drop 2 l) ≡ after_in l t
    unfolding after_in
    after_hit e = rw (lt-ltb 1 (length l) (omega arith), eq-eqb t (get_or l 0 0) e, take_rest l 2)

    pub after_off : (t ≡ get_or l 0 0 → ⊥) → l ≡ after_in l t
    unfolding after_in
    after_off e = rw (lt-ltb 1 (length l) (omega arith), ne_eqb t (get_or l 0 0) e)

-- behind an attribute, and at it
some_pick : (b : Bool) (n : ℕ) (o : Option ℕ) → is_some o ≡ true → is_some (pick_n b n o) ≡ true
some_pick true n o h = refl
some_pick false n o h = h

pub within_start : (r l : List ℕ) → l ≡ items r → Within r l
unfolding has_in
within_start r l e = record { had = λ t h. rw (← e) h }

module _ (r : List ℕ) (l : List ℕ) (t : ℕ) (w : Within r l) where
  behind : 2 ≤ length l → Within r (drop 2 l)
  behind h = record {
    had = λ u k. w.had u (rw (entries_on l h) (some_pick (eqb u (get_or l 0 0)) (get_or l 1 0) (entry_of u (entries_of (take (length l - 2) (drop 2 l)))) (rw (take_rest l 2) k)));
  }

  pub within_after : (m : List ℕ) → m ≡ after_in l t → Within r m
  unfolding after_in
  within_after m e = rw e (go (ltb 1 (length l)) refl (eqb t (get_or l 0 0)))
    where
      go : (b : Bool) → ltb 1 (length l) ≡ b → (c : Bool) → Within r (cond (b && c) (drop 2 l) l)
      go true q true = behind (ltb-true 1 (length l) q)
      go true q false = w
      go false q c = w

  found_after : (b c : Bool) → ltb 1 (length l) ≡ b → eqb t (get_or l 0 0) ≡ c → length (cond (b && c) (drop 2 l) l) < length l → has_in r t ≡ true
  found_after true true p q h = w.had t (rw (entries_on l (ltb-true 1 (length l) p), q))
  found_after true false p q h = absurd (omega arith)
  found_after false c p q h = absurd (omega arith)

  -- ---- `complete`

  pub met_here : (m : List ℕ) (x : ℕ) → m ≡ after_in l t → length m < length l → true ≡ met r t x
  unfolding met after_in
  met_here m x e h =
      let q : has_in r t ≡ true = found_after (ltb 1 (length l)) (eqb t (get_or l 0 0)) refl refl (rw (← e) h) in
      rw q (sym (or-true (not (eqb x REQUIRED))))

pub met_there : (r : List ℕ) (t x : ℕ) (b : Bool) → x ≡ REQUIRED → b ≡ has_in r t → b ≡ met r t x
unfolding met
met_there r t x b e eb = rw e eb

pub met_free : (r : List ℕ) (t x : ℕ) → (x ≡ REQUIRED → ⊥) → true ≡ met r t x
unfolding met
met_free r t x e = rw (ne_eqb x REQUIRED e)

-- what is left of record type y decides whether record r has all that it requires
pub record Completes (r y l : List ℕ) : Type 0 where
  pub left : complete_in r y ≡ required_there (declareds l) (has_in r)

pub complete_start : (r y l : List ℕ) → l ≡ items y → Completes r y l
unfolding complete_in
complete_start r y l e = record { left = rw e }

module _ (r y l : List ℕ) (w : Completes r y l) where
  pub complete_end : length l < 3 → true ≡ complete_in r y
  complete_end h = sym (w.left ∙ rw (declareds_end l h))

  module _ (b : Bool) (h : 3 ≤ length l) (eb : b ≡ met r (get_or l 0 0) (get_or l 1 0)) where
    pub complete_off : not b ≡ true → false ≡ complete_in r y
    unfolding met
    complete_off e = sym (w.left ∙ rw (declareds_on l h, ← eb, not-true b e))

    pub complete_on : not b ≡ false → Completes r y (take (length l - 3) (drop 3 l))
    unfolding met
    complete_on e = record { left = w.left ∙ rw (declareds_on l h, ← eb, not-false b e) }
