-- A step from all record types of a set by a text: worked out, or remembered at a place for each text and each type.
use mathlib.Core.Path.{◌≡◌, refl, sym, subst, ◌∙◌}
use mathlib.Core.Bool.{Bool, true, false, not}
use mathlib.Core.List.{List}
use Prim.Native.Nat.{ℕ, ◌+◌, ◌*◌, ◌/◌, ◌%◌, ◌≤◌, ◌<◌}
use native.Mathlib.Omega.{arith}
use native.Mathlib.Decide.{dec_lt}
use Rattle.cedar.proofs.Tools.{no_true}
use lib.ListN.{length, get_or, replicate}
use lib.Seq.{sets}
use Rattle.words.specs.Bits.{member, added, joined}
use Rattle.typesets.specs.Sets.{TYPES, TYPE_WORDS, SLOTS, PLACES, Next, Gathered, set_at, AllSeen, of_sets, Settled}
use Rattle.typesets.proofs.FirstBit.{member_out}
use Rattle.typesets.proofs.Members.{member_zeros, gathered_as, Walked, walk_end, walk_off, walk_on}
use Rattle.typesets.proofs.Unions.{empty, held_off, held_own, held_kept, joins_off, joins_on}
use Rattle.pathtypes.specs.Paths.{declared_each, of_declared, of_step, of_place, of_slot, PlacedIn, Seen}

-- ---- a place that is seen, and one that is worked out

pub seen_none : (a texts images : List ℕ) → Seen a texts (replicate (SLOTS * TYPE_WORDS) 0) images
seen_none a texts images = record { at = λ p m. no_true (sym (member_zeros (SLOTS * TYPE_WORDS) p) ∙ m) }

pub look_known : (a texts seen w : List ℕ) (p : ℕ) (k : Seen a texts seen w) (b : Bool) → b ≡ member seen p → b ≡ true → PlacedIn a texts w p true
look_known a texts seen w p k b e h = k.at p (sym e ∙ h)

module _ (a texts w own : List ℕ) (p : ℕ) (b : Bool) (t : ℕ) (et : t ≡ get_or texts (p / TYPES) 0) (d : Gathered (replicate TYPE_WORDS 0) own (of_declared a t (p % TYPES)) b) where
  g : Gathered (replicate TYPE_WORDS 0) own (of_place a texts p) b
  g = subst (λ (x : ℕ). Gathered (replicate TYPE_WORDS 0) own (of_declared a x (p % TYPES)) b) et d

  pub look_off : not b ≡ true → PlacedIn a texts w p false
  look_off = held_off (of_place a texts) w p own b g

  module _ (v : List ℕ) (h : not b ≡ false) (l : length own ≡ TYPE_WORDS) (lw : length w ≡ PLACES * TYPE_WORDS) (s : p < PLACES) (ev : v ≡ sets w (p * TYPE_WORDS) own) where
    pub look_own : PlacedIn a texts v p true
    look_own = held_own (of_place a texts) w p own b g v h l (omega arith) ev

    -- rows and texts are as they were
    pub look_kept : (a' texts' seen now : List ℕ) → a' ≡ a → texts' ≡ texts → Seen a' texts' seen w → now ≡ added seen p → Seen a' texts' now v
    look_kept a' texts' seen now ea es k en =
        let g' : Gathered (replicate TYPE_WORDS 0) own (of_place a' texts' p) b = subst (λ (x : List ℕ). Gathered (replicate TYPE_WORDS 0) own (of_place x texts' p) b) (sym ea) (subst (λ (x : List ℕ). Gathered (replicate TYPE_WORDS 0) own (of_place a x p) b) (sym es) g) in
        record { at = held_kept (of_place a' texts') w p own b g' v h l (omega arith) ev seen now k.at en }

module _ (a texts w v : List ℕ) (p : ℕ) (b : Bool) (g : PlacedIn a texts v p b) where
  pub place_off : not b ≡ true → Gathered w w (of_place a texts p) false
  place_off = joins_off (of_place a texts) w v p b g

  pub place_on : (own u : List ℕ) → own ≡ set_at v p → length w ≡ TYPE_WORDS → length v ≡ PLACES * TYPE_WORDS → p < PLACES → u ≡ joined w own → not b ≡ false → Gathered w u (of_place a texts p) true
  place_on own u eo lw lv s eu = joins_on (of_place a texts) w v p b g own u eo lw (omega arith) eu

-- the slot and the record type of a place
at_place : (a texts : List ℕ) (s y : ℕ) (f : ℕ → Bool) → y < TYPES → declared_each a (get_or texts ((s * TYPES + y) / TYPES) 0) f ((s * TYPES + y) % TYPES) ≡ declared_each a (get_or texts s 0) f y
at_place a texts s y f l =
    let q : (s * TYPES + y) / TYPES ≡ s = omega arith in
    let r : (s * TYPES + y) % TYPES ≡ y = omega arith in
    rw (q, r)

-- ---- the places of all record types of a set

module _ (a texts w s v : List ℕ) (n y : ℕ) (k : Walked (declared_each a (get_or texts n 0)) w s v y) where
  pub places_end : TYPES ≤ y → length s ≡ 4 → Gathered w v (of_slot a texts s n) true
  places_end = walk_end (declared_each a (get_or texts n 0)) w s v y k

  -- rows and texts are as they were
  module _ (a' texts' : List ℕ) (ea : a' ≡ a) (et : texts' ≡ texts) (u : List ℕ) (b : Bool) (d' : Gathered v u (of_place a' texts' (n * TYPES + y)) b) (h : y < TYPES) where
    d : Gathered v u (of_place a texts (n * TYPES + y)) b
    d = subst (λ (x : List ℕ). Gathered v u (of_place x texts (n * TYPES + y)) b) ea (subst (λ (x : List ℕ). Gathered v u (of_place a' x (n * TYPES + y)) b) et d')

    here : Gathered v u (λ f. declared_each a (get_or texts n 0) f y ≡ true) b
    here = gathered_as (of_place a texts (n * TYPES + y)) (λ f. declared_each a (get_or texts n 0) f y ≡ true) (λ f e. sym (at_place a texts n y f h) ∙ e) (λ f e. at_place a texts n y f h ∙ e) d

    pub places_off : not b ≡ true → Gathered w u (of_slot a texts s n) false
    places_off = walk_off (declared_each a (get_or texts n 0)) w s v y k u b here h

    pub places_on : (z : ℕ) → not b ≡ false → Next s (y + 1) z → Walked (declared_each a (get_or texts n 0)) w s u z
    places_on = walk_on (declared_each a (get_or texts n 0)) w s v y k u b here h

-- ---- a step

-- by the sets of places that are all seen
pub step_seen : (a texts seen images records : List ℕ) (s : ℕ) (w v : List ℕ) (b : Bool) → Seen a texts seen images → AllSeen seen records s b → b ≡ true → length records ≡ TYPE_WORDS → Gathered w v (of_sets images s records 0) true → Gathered w v (of_slot a texts records s) true
step_seen a texts seen images records s w v b k d h l = gathered_as (of_sets images s records 0) (of_slot a texts records s)
    (λ f q. record { at = λ y o m. sym (at_place a texts s y f (low y m)) ∙ ((k.at (s * TYPES + y) (d.at h y m)).asks refl f (q y o m)).1 })
    (λ f e y o m. (k.at (s * TYPES + y) (d.at h y m)).joins refl f (empty f) (at_place a texts s y f (low y m) ∙ e.at y o m))
  where
    low : (y : ℕ) → member records y ≡ true → y < TYPES
    low y m = go (dec_lt y TYPES)
      where
        go : Dec (y < TYPES) → y < TYPES
        go (yes c) = c
        go (no c) = no_true (sym (member_out records y (omega (arith, c))) ∙ m)

-- by the text of a slot
module _ (texts seen u now : List ℕ) (t s : ℕ) (d : Settled texts seen u now t s) where
  pub seen_settled : (a images : List ℕ) → Seen a texts seen images → Seen a u now images
  seen_settled a images k = record { at = λ p m. let (o, e) = d.kept p m in subst (λ (x : ℕ). Gathered (replicate TYPE_WORDS 0) (set_at images p) (λ f. declared_each a x f (p % TYPES) ≡ true) true) (sym e) (k.at p o) }

  pub step_settled : (a records w v : List ℕ) (b : Bool) → Gathered w v (of_slot a u records s) b → Gathered w v (of_step a records t) b
  step_settled a records w v b g = subst (λ (x : ℕ). Gathered w v (of_step a records x) b) d.text g
