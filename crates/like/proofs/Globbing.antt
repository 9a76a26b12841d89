-- Wildcard match: the items between two stars may be matched at the first place where they stand. Assumes nothing.
use mathlib.Core.Path.{◌≡◌, refl, sym, ap, ◌∙◌, subst}
use mathlib.Core.Bool.{Bool, true, false, not, cond, ◌&&◌, ◌||◌, and-eq-true_iff}
use mathlib.Core.List.{List, [], ◌∷◌}
use Prim.Native.Nat.{ℕ, suc, ◌+◌, ◌-◌, ◌≤◌, ◌<◌}
use native.Mathlib.Numerals.{add-one}
use native.Mathlib.Omega.{arith}
use borrow.Author.Tests.{eq-eqb, ne_eqb, ltb-true, ltb-false, lt-ltb, le-ltb, le-leb, lt-leb, not-true, not-false}
use lib.Dec.{eqb, leb, ltb}
use lib.ListN.{length, get_or, take, drop, length-drop}
use lib.Seq.{drop-drop, get_or-take, get_or-drop}
use lib.Pointwise.{pointwise}
use Rattle.cedar.proofs.Tools.{or_right, either, iff}
use Rattle.cedar.specs.Evaluate.{match_piece, any_suffix, is_nil, matches}
use Rattle.cedar.specs.Residual.{star, piece}
use Rattle.sheet.specs.Bytes.{same}
use Rattle.sheet.specs.Forms.{mark}
use Rattle.sheet.specs.Content.{pattern_of}
use Rattle.like.specs.Globs.{Block, misses, ends_at, star_at, Step, holds, fails, on_to, block_in, step_in, begins, block_of, until_piece, later_of, step_of, after, Steps}
use Rattle.like.specs.declared.Block.{Block as Blockᶜ}
use Rattle.like.specs.declared.Block.TheVariants.{Misses, Ends, Star}
use Rattle.like.specs.declared.Step.{Step as Stepᶜ}
use Rattle.like.specs.declared.Step.TheVariants.{Holds, Fails, On}
use Rattle.value.proofs.Lists.{uncons, spent, same_differ}

-- ---- a piece at a place

pub begins_short : (p : List ℕ) → eqb (length p) 0 ≡ begins p []
unfolding begins
begins_short [] = refl
begins_short (x ∷ p) = ne_eqb (suc (length p)) 0 (λ e. omega arith)

pub begins_past : (p s : List ℕ) (at : ℕ) → length s < at → eqb (length p) 0 ≡ begins p (drop at s)
begins_past p s at h = begins_short p ∙ ap (begins p) (sym (spent s at (omega arith)))

pub too_long : (p s : List ℕ) → length s < length p → false ≡ begins p s
unfolding begins
too_long [] s h = absurd (omega arith)
too_long (x ∷ p) [] h = refl
too_long (x ∷ p) (y ∷ s) h = go (eqb x y) (too_long p s (omega arith))
  where
    go : (t : Bool) → false ≡ begins p s → false ≡ (t && begins p s)
    go true e = e
    go false e = refl

pub begins_long : (p s : List ℕ) (at : ℕ) → length s - at < length p → false ≡ begins p (drop at s)
begins_long p s at h = too_long p (drop at s) (rw (length-drop at s) h)

-- a piece that stands there fits
pub begins_fits : (p s : List ℕ) → begins p s ≡ true → length p ≤ length s
unfolding begins
begins_fits [] s e = omega arith
begins_fits (x ∷ p) [] e = let z : ◌≡◌ {A = ℕ} 0 1 = cc in absurd (omega arith)
begins_fits (x ∷ p) (y ∷ s) e =
    let h = begins_fits p s ((and-eq-true_iff (eqb x y) (begins p s)).0 e).1 in
    omega (arith, h)

pub begins_none : (p s : List ℕ) → length p ≡ 0 → true ≡ begins p s
unfolding begins
begins_none [] s e = refl
begins_none (x ∷ p) s e = absurd (omega arith)

pointwise_same : (p s : List ℕ) → pointwise eqb p s ≡ same p s
pointwise_same [] [] = refl
pointwise_same [] (y ∷ s) = refl
pointwise_same (x ∷ p) [] = refl
pointwise_same (x ∷ p) (y ∷ s) = ap (λ (b : Bool). eqb x y && b) (pointwise_same p s)

begins_same : (p s : List ℕ) → length p ≤ length s → begins p s ≡ same p (take (length p) s)
unfolding begins
begins_same [] s h = refl
begins_same (x ∷ p) [] h = absurd (omega arith)
begins_same (x ∷ p) (y ∷ s) h = ap (λ (b : Bool). eqb x y && b) (begins_same p s (omega arith))

module _ (p s : List ℕ) (at : ℕ) (h : at ≤ length s) (k : length p ≤ length s - at) where
  as_same : begins p (drop at s) ≡ same p (take (length p) (drop at s))
  as_same = begins_same p (drop at s) (rw (length-drop at s) k)

  apart : (j : ℕ) → j < length p → (get_or p j 0 ≡ get_or s (at + j) 0 → ⊥) → false ≡ begins p (drop at s)
  apart j l n =
      same_differ p (take (length p) (drop at s)) j (λ z. n (z ∙ rw (get_or-take (length p) (drop at s) j 0 l, get_or-drop at s j 0)))
      ∙ sym as_same

  module _ (o : length p ≡ 0 → ⊥) where
    pub begins_first : (get_or p 0 0 ≡ get_or s at 0 → ⊥) → false ≡ begins p (drop at s)
    begins_first n =
        let z : at + 0 ≡ at = omega arith in
        apart 0 (omega arith) (λ e. n (e ∙ ap (λ (j : ℕ). get_or s j 0) z))

    pub begins_last : (get_or p (length p - 1) 0 ≡ get_or s (at + length p - 1) 0 → ⊥) → false ≡ begins p (drop at s)
    begins_last n =
        let l : length p - 1 < length p = omega arith in
        let z : at + (length p - 1) ≡ at + length p - 1 = omega arith in
        apart (length p - 1) l (λ e. n (e ∙ ap (λ (j : ℕ). get_or s j 0) z))

  pub begins_told : (b : Bool) → b ≡ pointwise eqb p (take (at + length p - at) (drop at s)) → b ≡ begins p (drop at s)
  begins_told b e =
      let z : at + length p - at ≡ length p = omega arith in
      e ∙ rw z (pointwise_same p (take (length p) (drop at s)) ∙ sym as_same)

-- ---- the first place of a piece

pub until_most : (p s : List ℕ) → until_piece p s ≤ length s
unfolding until_piece
until_most p [] = omega arith
until_most p (y ∷ s) = go (begins p (y ∷ s)) (until_most p s)
  where
    go : (b : Bool) → until_piece p s ≤ length s → cond b 0 (suc (until_piece p s)) ≤ suc (length s)
    go true h = omega arith
    go false h = omega arith

until_short : (p s : List ℕ) → length s < length p → until_piece p s ≡ length s
unfolding until_piece
until_short p [] h = refl
until_short p (y ∷ s) h = rw (← (too_long p (y ∷ s) h)) (ap suc (until_short p s (omega arith)))

until_here : (p s : List ℕ) → begins p s ≡ true → until_piece p s ≡ 0
unfolding until_piece
until_here p [] e = refl
until_here p (y ∷ s) e = rw e

pub begins_some : (p s : List ℕ) → length p ≤ length s → begins p s ≡ false → 1 ≤ length s
unfolding begins
begins_some [] s h e = let z : ◌≡◌ {A = ℕ} 0 1 = cc in absurd (omega arith)
begins_some (x ∷ p) s h e = omega arith

-- the search has come to place u
pub record Hunting (p s : List ℕ) (from u : ℕ) : Type 0 where
  pub near : u ≤ length s
  pub left : from + until_piece p (drop from s) ≡ u + until_piece p (drop u s)

module _ (p s : List ℕ) (from u : ℕ) (g : Hunting p s from u) where
  pub hunt_short : length s - u < length p → length s ≡ from + until_piece p (drop from s)
  hunt_short h =
      let l : length (drop u s) ≡ length s - u = length-drop u s in
      let z : until_piece p (drop u s) ≡ length (drop u s) = until_short p (drop u s) (omega arith) in
      omega (arith, g.left, g.near)

  pub hunt_end : length s ≤ u → length s ≡ from + until_piece p (drop from s)
  unfolding until_piece
  hunt_end h =
      let z : until_piece p (drop u s) ≡ 0 = ap (until_piece p) (spent s u h) in
      omega (arith, g.left, g.near, z)

  module _ (b : Bool) (eb : b ≡ begins p (drop u s)) where
    pub hunt_hit : b ≡ true → u ≡ from + until_piece p (drop from s)
    hunt_hit e = omega (arith, g.left, until_here p (drop u s) (sym eb ∙ e))

    pub hunt_on : length p ≤ length s - u → b ≡ false → Hunting p s from (u + 1)
    unfolding until_piece
    hunt_on h e =
        let l : 1 ≤ length (drop u s) = begins_some p (drop u s) (rw (length-drop u s) h) (sym eb ∙ e) in
        let k : u < length s = omega (arith, length-drop u s) in
        let d = uncons s 0 u k in
        let f : begins p (get_or s u 0 ∷ drop (u + 1) s) ≡ false = ap (begins p) (sym d) ∙ sym eb ∙ e in
        let z : until_piece p (drop u s) ≡ suc (until_piece p (drop (u + 1) s)) = ap (until_piece p) d ∙ rw f in
        record { near = omega arith; left = omega (arith, g.left) }

-- ---- a block: where the loop stands

pub record Blocking (B : ℕ → List ℕ) (P S : List ℕ) (q t p e : ℕ) : Type 0 where
  pub near_p : p ≤ length P
  pub near_s : e ≤ length S
  pub left : block_of B q t (drop q P) (drop t S) ≡ block_of B p e (drop p P) (drop e S)

pub block_start : (B : ℕ → List ℕ) (P S : List ℕ) (q t : ℕ) → q ≤ length P → t ≤ length S → Blocking B P S q t q t
block_start B P S q t h k = record { near_p = h; near_s = k; left = refl }

module _ (B : ℕ → List ℕ) (P S : List ℕ) (q t p e : ℕ) (g : Blocking B P S q t p e) where
  pub block_end : length P ≤ p → block_in (Ends e) ≡ block_of B q t (drop q P) (drop t S)
  unfolding block_of
  block_end h = sym (g.left ∙ rw (spent P p h))

  module _ (h : p < length P) (x : ℕ) (ex : x ≡ get_or P p 0) where
    at_item : block_of B p e (drop p P) (drop e S) ≡ cond (eqb x mark) (star_at (suc p) e)
        (cond (begins (B x) (drop e S)) (block_of B (suc p) (e + length (B x)) (drop (p + 1) P) (drop (length (B x)) (drop e S))) misses)
    unfolding block_of
    at_item = rw (uncons P 0 p h, ← ex)

    pub block_star : x ≡ mark → block_in (Star (p + 1) e) ≡ block_of B q t (drop q P) (drop t S)
    block_star m = sym (g.left ∙ at_item ∙ rw (eq-eqb x mark m, add-one p))

    module _ (n : x ≡ mark → ⊥) (w : List ℕ) (ew : w ≡ B x) (b : Bool) (eb : b ≡ begins w (drop e S)) where
      here : begins (B x) (drop e S) ≡ b
      here = rw (← ew) (sym eb)

      pub block_miss : not b ≡ true → block_in Misses ≡ block_of B q t (drop q P) (drop t S)
      block_miss f =
          let z : begins (B x) (drop e S) ≡ false = here ∙ not-true b f in
          sym (g.left ∙ at_item ∙ rw (ne_eqb x mark n, z))

      pub block_fits : not b ≡ false → e + length w ≤ length S
      block_fits f =
          let z : length w ≤ length (drop e S) = begins_fits w (drop e S) (sym eb ∙ not-false b f) in
          omega (arith, z, length-drop e S, g.near_s)

      pub block_on : not b ≡ false → Blocking B P S q t (p + 1) (e + length w)
      block_on f =
          let z : begins (B x) (drop e S) ≡ true = here ∙ not-false b f in
          record {
            near_p = omega arith;
            near_s = block_fits f;
            left = g.left ∙ at_item ∙ rw (ne_eqb x mark n, z, drop-drop (length (B x)) e S, ← ew, ← (add-one p));
          }

-- ---- what a block means

module _ (B : ℕ → List ℕ) where
  abbrev M : List ℕ → List ℕ → Bool
  M p s = matches B (pattern_of p) s

  and_assoc : (a b c : Bool) → (a && (b && c)) ≡ ((a && b) && c)
  and_assoc true b c = refl
  and_assoc false b c = refl

  piece_is : (p s : List ℕ) (f : List ℕ → Bool) → match_piece p s f ≡ (begins p s && f (drop (length p) s))
  unfolding begins
  piece_is [] s f = refl
  piece_is (x ∷ p) [] f = refl
  piece_is (x ∷ p) (y ∷ s) f = ap (λ (b : Bool). eqb x y && b) (piece_is p s f) ∙ and_assoc (eqb x y) (begins p s) (f (drop (length p) s))

  pub at_piece : (x : ℕ) (p s : List ℕ) → eqb x mark ≡ false → M (x ∷ p) s ≡ (begins (B x) s && M p (drop (length (B x)) s))
  at_piece x p s e = ap (λ (b : Bool). matches B (cond b star (piece x) ∷ pattern_of p) s) e ∙ piece_is (B x) s (M p)

  pub at_star : (x : ℕ) (p s : List ℕ) → eqb x mark ≡ true → M (x ∷ p) s ≡ any_suffix (M p) s
  at_star x p s e = ap (λ (b : Bool). matches B (cond b star (piece x) ∷ pattern_of p) s) e

  module _ (P S : List ℕ) where
    -- the block of items p at place t stands there, up to the star before item k and to place e; elsewhere it may stand too, and is as long
    record Jumps (p : List ℕ) (q t k e : ℕ) : Type 0 where
      wide : ℕ
      stands : List ℕ → Bool
      means : (s : List ℕ) → M p s ≡ (stands s && any_suffix (M (drop k P)) (drop wide s))
      here : stands (drop t S) ≡ true
      far : e ≡ t + wide
      next : q < k
      most : k ≤ length P
      within : e ≤ length S

    Means : List ℕ → ℕ → ℕ → Block → Type 0
    Means p q t misses = M p (drop t S) ≡ false
    Means p q t (ends_at e) = M p (drop t S) ≡ is_nil (drop e S)
    Means p q t (star_at k e) = Jumps p q t k e

    -- one piece more before a block
    further : (x : ℕ) (p : List ℕ) (q t : ℕ) → eqb x mark ≡ false → begins (B x) (drop t S) ≡ true
        → (r : Block) → Means p (suc q) (t + length (B x)) r → Means (x ∷ p) q t r
    unfolding Means
    further x p q t e h misses m = at_piece x p (drop t S) e ∙ rw (h, drop-drop (length (B x)) t S) m
    further x p q t e h (ends_at f) m = at_piece x p (drop t S) e ∙ rw (h, drop-drop (length (B x)) t S) m
    further x p q t e h (star_at k f) m =
        record {
          wide = length (B x) + m.wide;
          stands = λ s. begins (B x) s && m.stands (drop (length (B x)) s);
          means = λ s. at_piece x p s e ∙ ap (λ (b : Bool). begins (B x) s && b) (m.means (drop (length (B x)) s))
              ∙ and_assoc (begins (B x) s) (m.stands (drop (length (B x)) s)) (any_suffix (M (drop k P)) (drop m.wide (drop (length (B x)) s)))
              ∙ ap (λ (l : List ℕ). (begins (B x) s && m.stands (drop (length (B x)) s)) && any_suffix (M (drop k P)) l) (drop-drop m.wide (length (B x)) s);
          here = rw (h, drop-drop (length (B x)) t S) m.here;
          far = omega (arith, m.far);
          next = omega (arith, m.next);
          most = m.most;
          within = m.within;
        }

    tail_of : (x : ℕ) (p : List ℕ) (q : ℕ) → x ∷ p ≡ drop q P → p ≡ drop (suc q) P
    tail_of x p q e =
        let d : drop 1 (drop q P) ≡ drop (q + 1) P = drop-drop 1 q P in
        ap (λ (l : List ℕ). drop 1 l) e ∙ d ∙ ap (λ (j : ℕ). drop j P) (add-one q)

    inside : (x : ℕ) (p : List ℕ) (q : ℕ) → x ∷ p ≡ drop q P → q < length P
    inside x p q e = omega (arith, ap length e, length-drop q P)

    block_means : (p : List ℕ) (q t : ℕ) → p ≡ drop q P → t ≤ length S → Means p q t (block_of B q t p (drop t S))
    unfolding Means block_of
    block_means [] q t e h = refl
    block_means (x ∷ p) q t e h = go (eqb x mark) (begins (B x) (drop t S)) refl refl (block_means p (suc q) (t + length (B x)) (tail_of x p q e))
      where
        go : (m b : Bool) → eqb x mark ≡ m → begins (B x) (drop t S) ≡ b
            → (t + length (B x) ≤ length S → Means p (suc q) (t + length (B x)) (block_of B (suc q) (t + length (B x)) p (drop (t + length (B x)) S)))
            → Means (x ∷ p) q t (cond m (star_at (suc q) t) (cond b (block_of B (suc q) (t + length (B x)) p (drop (length (B x)) (drop t S))) misses))
        go true b em eb ih =
            record {
              wide = 0;
              stands = λ s. true;
              means = λ s. at_star x p s em ∙ ap (λ (l : List ℕ). any_suffix (M l) s) (tail_of x p q e);
              here = refl;
              far = omega arith;
              next = omega arith;
              most = inside x p q e;
              within = h;
            }
        go false true em eb ih =
            let f : t + length (B x) ≤ length S = omega (arith, begins_fits (B x) (drop t S) eb, length-drop t S) in
            rw (drop-drop (length (B x)) t S) (further x p q t em eb (block_of B (suc q) (t + length (B x)) p (drop (t + length (B x)) S)) (ih f))
        go false false em eb ih = at_piece x p (drop t S) em ∙ rw eb

  -- ---- the first place is enough

  module _ (K : List ℕ → Bool) where
    from_later : (l : List ℕ) → any_suffix K (drop 1 l) ≡ true → any_suffix K l ≡ true
    from_later [] e = e
    from_later (x ∷ l) e = or_right (K (x ∷ l)) (any_suffix K l) e

    later_wide : (n x : ℕ) (s : List ℕ) → any_suffix K (drop n s) ≡ true → any_suffix K (drop n (x ∷ s)) ≡ true
    later_wide n x s e =
        let d : drop 1 (drop n (x ∷ s)) ≡ drop n s = drop-drop 1 n (x ∷ s) ∙ ap (λ (j : ℕ). drop j (x ∷ s)) (add-one n) in
        from_later (drop n (x ∷ s)) (ap (any_suffix K) d ∙ e)

    module _ (n : ℕ) (b f : List ℕ → Bool) (m : (s : List ℕ) → f s ≡ (b s && any_suffix K (drop n s))) where
      second : (s : List ℕ) → f s ≡ true → any_suffix K (drop n s) ≡ true
      second s e = ((and-eq-true_iff (b s) (any_suffix K (drop n s))).0 (sym (m s) ∙ e)).1

      any_wide : (s : List ℕ) → any_suffix f s ≡ true → any_suffix K (drop n s) ≡ true
      any_wide [] e = second [] e
      any_wide (x ∷ s) e = either (f (x ∷ s)) (any_suffix f s) e (second (x ∷ s)) (λ q. later_wide n x s (any_wide s q))

      first : (s : List ℕ) → f s ≡ true → any_suffix f s ≡ true
      first [] e = e
      first (x ∷ s) e = rw e

      pub greedy : (s : List ℕ) → b s ≡ true → any_suffix f s ≡ any_suffix K (drop n s)
      greedy s h = iff (any_suffix f s) (any_suffix K (drop n s)) (any_wide s) (λ e. first s (m s ∙ rw (h, e)))

  -- ---- a step

  module _ (P S : List ℕ) where
    -- what is left to find after a star: the items from q on at place t or later
    abbrev pub After : ℕ → ℕ → Bool
    After q t = any_suffix (M (drop q P)) (drop t S)

    jumped : (q t k e : ℕ) → Jumps P S (drop q P) q t k e → After q t ≡ After k e
    jumped q t k e j =
        greedy (M (drop k P)) j.wide j.stands (M (drop q P)) j.means (drop t S) j.here
        ∙ ap (any_suffix (M (drop k P))) (drop-drop j.wide t S ∙ ap (λ (i : ℕ). drop i S) (sym j.far))

    nil_past : (e : ℕ) → is_nil (drop e S) ≡ leb (length S) e
    nil_past e = go (drop e S) refl (length-drop e S)
      where
        go : (l : List ℕ) → drop e S ≡ l → length l ≡ length S - e → is_nil l ≡ leb (length S) e
        go [] d n = sym (le-leb (length S) e (omega arith))
        go (x ∷ l) d n = sym (lt-leb (length S) e (omega arith))

    -- a place where the items do not match, up to the end: the next one
    passed : (q t : ℕ) → t ≤ length S → M (drop q P) (drop t S) ≡ false → t < length S → After q t ≡ After q (t + 1)
    passed q t h m l =
        ap (any_suffix (M (drop q P))) (uncons S 0 t l) ∙ ap (λ (b : Bool). b || After q (t + 1)) (ap (M (drop q P)) (sym (uncons S 0 t l)) ∙ m)

    over : (q t : ℕ) → M (drop q P) (drop t S) ≡ false → length S ≤ t → After q t ≡ false
    over q t m l =
        let d : drop t S ≡ [] = spent S t l in
        ap (any_suffix (M (drop q P))) d ∙ ap (M (drop q P)) (sym d) ∙ m

    -- what is found by a step, or is left after it
    abbrev pub reached : Step → Bool
    reached holds = true
    reached fails = false
    reached (on_to q t) = After q t

    later_is : (q t : ℕ) → t ≤ length S → M (drop q P) (drop t S) ≡ false → After q t ≡ reached (later_of (length S) q t)
    unfolding later_of
    later_is q t h m = go (ltb t (length S)) refl
      where
        go : (b : Bool) → ltb t (length S) ≡ b → After q t ≡ reached (cond b (on_to q (t + 1)) fails)
        go true e = passed q t h m (ltb-true t (length S) e)
        go false e = over q t m (ltb-false t (length S) e)

    any_first : (f : List ℕ → Bool) (s : List ℕ) → f s ≡ true → any_suffix f s ≡ true
    any_first f [] e = e
    any_first f (x ∷ s) e = rw e

    pub step_is : (q t : ℕ) → t ≤ length S → After q t ≡ reached (step_of (length S) q t (block_of B q t (drop q P) (drop t S)))
    unfolding Means step_of
    step_is q t h = go (block_of B q t (drop q P) (drop t S)) (block_means P S (drop q P) q t refl h)
      where
        ends : (e : ℕ) (b : Bool) → M (drop q P) (drop t S) ≡ b → leb (length S) e ≡ b → After q t ≡ reached (cond b holds (later_of (length S) q t))
        ends e true m l = any_first (M (drop q P)) (drop t S) m
        ends e false m l = later_is q t h m

        go : (r : Block) → Means P S (drop q P) q t r → After q t ≡ reached (step_of (length S) q t r)
        go misses m = later_is q t h m
        go (ends_at e) m = ends e (leb (length S) e) (m ∙ nil_past e) refl
        go (star_at k e) m = jumped q t k e m

    -- where a step goes on, it has come nearer to the end
    pub record Nearer (q t k e : ℕ) : Type 0 where
      pub most : k ≤ length P
      pub within : e ≤ length S
      pub less : length P - k + (length S - e) < length P - q + (length S - t)

    pub step_nearer : (q t k e : ℕ) → q ≤ length P → t ≤ length S → step_of (length S) q t (block_of B q t (drop q P) (drop t S)) ≡ on_to k e → Nearer q t k e
    unfolding Means step_of later_of
    step_nearer q t k e l h eq = go (block_of B q t (drop q P) (drop t S)) (block_means P S (drop q P) q t refl h) eq
      where
        later : (b : Bool) → ltb t (length S) ≡ b → cond b (on_to q (t + 1)) fails ≡ on_to k e → Nearer q t k e
        later true y z =
            let j : t < length S = ltb-true t (length S) y in
            let p : q ≡ k = cc in
            let u : t + 1 ≡ e = cc in
            record { most = omega arith; within = omega arith; less = omega arith }
        later false y z = let w : ◌≡◌ {A = ℕ} 0 1 = cc in absurd (omega arith)

        ends : (b : Bool) → cond b holds (later_of (length S) q t) ≡ on_to k e → Nearer q t k e
        ends true z = let w : ◌≡◌ {A = ℕ} 0 1 = cc in absurd (omega arith)
        ends false z = later (ltb t (length S)) refl z

        star : (i j : ℕ) → Jumps P S (drop q P) q t i j → on_to i j ≡ on_to k e → Nearer q t k e
        star i j m z =
            let p : i ≡ k = cc in
            let u : j ≡ e = cc in
            record { most = omega (arith, m.most); within = omega (arith, m.within); less = omega (arith, m.most, m.within, m.next, m.far) }

        go : (r : Block) → Means P S (drop q P) q t r → step_of (length S) q t r ≡ on_to k e → Nearer q t k e
        go misses m z = later (ltb t (length S)) refl z
        go (ends_at f) m z = ends (leb (length S) f) z
        go (star_at i j) m z = star i j m z

    -- the items before the first star
    pub first_misses : (r : Blockᶜ) → block_in r ≡ block_of B 0 0 P S → r ≡ Misses → false ≡ matches B (pattern_of P) S
    unfolding Means
    first_misses r er e = sym (the_block (sym er ∙ ap block_in e))
      where
        the_block : block_of B 0 0 P S ≡ misses → M P S ≡ false
        the_block z = subst (λ (x : Block). Means P S P 0 0 x) z (block_means P S P 0 0 refl (omega arith))

    pub first_ends : (r : Blockᶜ) (e : ℕ) → block_in r ≡ block_of B 0 0 P S → r ≡ Ends e → leb (length S) e ≡ matches B (pattern_of P) S
    unfolding Means
    first_ends r e er z = sym (the_block (sym er ∙ ap block_in z) ∙ nil_past e)
      where
        the_block : block_of B 0 0 P S ≡ ends_at e → M P S ≡ is_nil (drop e S)
        the_block y = subst (λ (x : Block). Means P S P 0 0 x) y (block_means P S P 0 0 refl (omega arith))

-- the first block ends at a star
module _ (B : ℕ → List ℕ) (P S : List ℕ) (r : Blockᶜ) (k e : ℕ) (er : block_in r ≡ block_of B 0 0 P S) (z : r ≡ Star k e) where
  the_jump : Jumps B P S P 0 0 k e
  unfolding Means
  the_jump = subst (λ (x : Block). Means B P S P 0 0 x) (sym er ∙ ap block_in z) (block_means B P S P 0 0 refl (omega arith))

  pub first_most : k ≤ length P
  first_most = the_jump.most

  pub first_within : e ≤ length S
  first_within = the_jump.within

  pub first_star : (b : Bool) → b ≡ after B P S k e → b ≡ matches B (pattern_of P) S
  unfolding after
  first_star b h =
      let f : the_jump.wide ≡ e = omega (arith, the_jump.far) in
      h ∙ sym (the_jump.means S ∙ rw the_jump.here (ap (λ (i : ℕ). any_suffix (M B (drop k P)) (drop i S)) f))

-- where the search stands: item q, after a star, and place t
pub record Globbing (B : ℕ → List ℕ) (P S : List ℕ) (q₀ t₀ q t : ℕ) : Type 0 where
  pub near_p : q ≤ length P
  pub near_s : t ≤ length S
  pub left : after B P S q₀ t₀ ≡ after B P S q t

-- places before the first item's are passed over
pub any_skip : (f : List ℕ → Bool) (p : List ℕ) → ((l : List ℕ) → begins p l ≡ false → f l ≡ false) → (s : List ℕ) → any_suffix f s ≡ any_suffix f (drop (until_piece p s) s)
unfolding until_piece
any_skip f p h [] = refl
any_skip f p h (y ∷ s) = go (begins p (y ∷ s)) refl (any_skip f p h s)
  where
    go : (b : Bool) → begins p (y ∷ s) ≡ b → any_suffix f s ≡ any_suffix f (drop (until_piece p s) s)
        → any_suffix f (y ∷ s) ≡ any_suffix f (drop (cond b 0 (suc (until_piece p s))) (y ∷ s))
    go true e ih = refl
    go false e ih = rw (h (y ∷ s) e) ih

module _ (B : ℕ → List ℕ) (P S : List ℕ) (q₀ t₀ q t : ℕ) (g : Globbing B P S q₀ t₀ q t) (r : Stepᶜ) (j : Steps B P S q t (step_in r)) where
  as_step : (o : Stepᶜ) → r ≡ o → Steps B P S q t (step_in o)
  as_step o e = subst (λ (x : Stepᶜ). Steps B P S q t (step_in x)) e j

  pub glob_holds : r ≡ Holds → true ≡ after B P S q₀ t₀
  unfolding Steps
  glob_holds e = sym (g.left ∙ as_step Holds e)

  pub glob_fails : r ≡ Fails → false ≡ after B P S q₀ t₀
  unfolding Steps
  glob_fails e = sym (g.left ∙ as_step Fails e)

  module _ (k e : ℕ) (z : r ≡ On k e) where
    pub glob_on : Globbing B P S q₀ t₀ k e
    unfolding Steps
    glob_on = let o = as_step (On k e) z in record { near_p = o.1; near_s = o.2; left = g.left ∙ o.0 }

    pub glob_less : length P - k + (length S - e) < length P - q + (length S - t)
    unfolding Steps
    glob_less = (as_step (On k e) z).3

-- a step by its block
module _ (n q t : ℕ) (B : ℕ → List ℕ) (p s : List ℕ) (r : Blockᶜ) (er : block_in r ≡ block_of B q t p s) where
  pub step_star : (k e : ℕ) → r ≡ Star k e → step_in (On k e) ≡ step_of n q t (block_of B q t p s)
  unfolding step_of
  step_star k e z = sym (ap (step_of n q t) (sym er ∙ ap block_in z))

  pub step_misses : (o : Stepᶜ) → step_in o ≡ later_of n q t → r ≡ Misses → step_in o ≡ step_of n q t (block_of B q t p s)
  unfolding step_of
  step_misses o eo z = eo ∙ sym (ap (step_of n q t) (sym er ∙ ap block_in z))

  pub step_holds : (e : ℕ) → r ≡ Ends e → n ≤ e → step_in Holds ≡ step_of n q t (block_of B q t p s)
  unfolding step_of
  step_holds e z h = sym (ap (step_of n q t) (sym er ∙ ap block_in z) ∙ rw (le-leb n e h))

  pub step_later : (e : ℕ) (o : Stepᶜ) → step_in o ≡ later_of n q t → r ≡ Ends e → e < n → step_in o ≡ step_of n q t (block_of B q t p s)
  unfolding step_of
  step_later e o eo z h = eo ∙ sym (ap (step_of n q t) (sym er ∙ ap block_in z) ∙ rw (lt-leb n e h))

pub later_on : (n q t : ℕ) → t < n → step_in (On q (t + 1)) ≡ later_of n q t
unfolding later_of
later_on n q t h = rw (lt-ltb t n h)

pub later_fails : (n q t : ℕ) → n ≤ t → step_in Fails ≡ later_of n q t
unfolding later_of
later_fails n q t h = rw (le-ltb t n h)
