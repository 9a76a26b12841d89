-- The items between two stars as one text: what it asks of a text is what they ask, after a star. Assumes nothing.
use mathlib.Core.Path.{◌≡◌, refl, sym, ap, ap₂, ◌∙◌, subst}
use mathlib.Core.Bool.{Bool, true, false, cond, not, ◌&&◌, ◌||◌, and-true, and-false}
use mathlib.Core.List.{List, [], ◌∷◌, ◌++◌}
use Prim.Native.Nat.{ℕ, zero, suc, ◌+◌, ◌-◌, ◌≤◌, ◌<◌}
use native.Mathlib.Omega.{arith}
use native.Mathlib.Decide.{dec_le}
use borrow.Author.Tests.{eq-eqb, ne_eqb, eqb-true, ltb-true, ltb-false, lt-ltb, le-ltb, not-true, not-false}
use lib.Dec.{eqb, ltb}
use lib.ListN.{length, get_or, take, drop, length-drop, length-append}
use lib.Seq.{drop-drop, sets, length-sets}
use Rattle.words.proofs.Stores.{take_sets_run}
use Rattle.cedar.specs.Evaluate.{any_suffix, is_nil, matches}
use Rattle.sheet.specs.Forms.{mark}
use Rattle.sheet.specs.Content.{pattern_of}
use Rattle.like.specs.Globs.{Step, holds, fails, on_to, step_in, begins, until_piece, block_of, step_of, after, standing, asked, Joins, first_of, last_of, Steps}
use Rattle.like.specs.declared.Step.{Step as Stepᶜ}
use Rattle.like.specs.declared.Step.TheVariants.{Holds, Fails, On}
use Rattle.like.specs.declared.Joined.{Joined as Joinedᶜ}
use Rattle.like.specs.declared.Joined.TheVariants.{Long, Last, Inner}
use Rattle.value.proofs.Lists.{uncons, spent}
use Rattle.like.proofs.Globbing.{too_long, begins_fits, until_most, at_piece, at_star, greedy, any_skip, reached, Nearer, step_is, step_nearer}

-- ---- some place of a text

any_as : (f g : List ℕ → Bool) → ((l : List ℕ) → f l ≡ g l) → (s : List ℕ) → any_suffix f s ≡ any_suffix g s
any_as f g h [] = h []
any_as f g h (x ∷ s) = ap₂ (λ (a b : Bool). a || b) (h (x ∷ s)) (any_as f g h s)

any_twice : (f : List ℕ → Bool) (s : List ℕ) → any_suffix (any_suffix f) s ≡ any_suffix f s
any_twice f [] = refl
any_twice f (x ∷ s) = ap (λ (b : Bool). (f (x ∷ s) || any_suffix f s) || b) (any_twice f s) ∙ again (f (x ∷ s)) (any_suffix f s)
  where
    again : (a b : Bool) → ((a || b) || b) ≡ (a || b)
    again true b = refl
    again false true = refl
    again false false = refl

any_short : (f : List ℕ → Bool) (n : ℕ) → ((l : List ℕ) → length l ≤ n → f l ≡ false) → (s : List ℕ) → length s ≤ n → any_suffix f s ≡ false
any_short f n h [] l = h [] l
any_short f n h (x ∷ s) l = rw (h (x ∷ s) l) (any_short f n h s (omega arith))

-- where a piece never stands
any_never : (f : List ℕ → Bool) (p : List ℕ) → ((l : List ℕ) → begins p l ≡ false → f l ≡ false) → (s : List ℕ) → begins p (drop (until_piece p s) s) ≡ false → any_suffix f s ≡ false
unfolding until_piece
any_never f p h [] e = h [] e
any_never f p h (y ∷ s) e = go (begins p (y ∷ s)) refl e (any_never f p h s)
  where
    go : (b : Bool) → begins p (y ∷ s) ≡ b → begins p (drop (cond b 0 (suc (until_piece p s))) (y ∷ s)) ≡ false
        → (begins p (drop (until_piece p s) s) ≡ false → any_suffix f s ≡ false) → any_suffix f (y ∷ s) ≡ false
    go true b k ih = let z : ◌≡◌ {A = ℕ} 0 1 = cc in absurd (omega arith)
    go false b k ih = rw (h (y ∷ s) b) (ih k)

-- ---- a piece, and what follows it

begins_append : (p r s : List ℕ) → begins (p ++ r) s ≡ (begins p s && begins r (drop (length p) s))
unfolding begins
begins_append [] r s = refl
begins_append (x ∷ p) r [] = refl
begins_append (x ∷ p) r (y ∷ s) = ap (λ (b : Bool). eqb x y && b) (begins_append p r s) ∙ and_assoc (eqb x y) (begins p s) (begins r (drop (length p) s))
  where
    and_assoc : (a b c : Bool) → (a && (b && c)) ≡ ((a && b) && c)
    and_assoc true b c = refl
    and_assoc false b c = refl

-- one piece after the other
standing_append : (p r : List ℕ) (f : List ℕ → Bool) (s : List ℕ) → standing p (standing r f) s ≡ standing (p ++ r) f s
unfolding standing
standing_append p r f s =
    let d : drop (length r) (drop (length p) s) ≡ drop (length (p ++ r)) s = drop-drop (length r) (length p) s ∙ ap (λ (n : ℕ). drop n s) (sym (length-append p r)) in
    and_assoc (begins p s) (begins r (drop (length p) s)) (f (drop (length r) (drop (length p) s)))
    ∙ ap₂ (λ (a : Bool) (l : List ℕ). a && f l) (sym (begins_append p r s)) d
  where
    and_assoc : (a b c : Bool) → (a && (b && c)) ≡ ((a && b) && c)
    and_assoc true b c = refl
    and_assoc false b c = refl

standing_as : (p : List ℕ) (f g : List ℕ → Bool) → ((l : List ℕ) → f l ≡ g l) → (s : List ℕ) → standing p f s ≡ standing p g s
unfolding standing
standing_as p f g h s = ap (λ (b : Bool). begins p s && b) (h (drop (length p) s))

standing_off : (p : List ℕ) (f : List ℕ → Bool) (l : List ℕ) → begins p l ≡ false → standing p f l ≡ false
unfolding standing
standing_off p f l e = rw e

-- ---- the end of a text

nil_no : (l : List ℕ) → 1 ≤ length l → is_nil l ≡ false
nil_no [] h = absurd (omega arith)
nil_no (x ∷ l) h = refl

module _ (p : List ℕ) where
  ends_full : (s : List ℕ) → length p ≡ length s → standing p is_nil s ≡ begins p s
  unfolding standing
  ends_full s e = rw (spent s (length p) (omega arith)) (and-true (begins p s))

  ends_longer : (s : List ℕ) → length p < length s → standing p is_nil s ≡ false
  unfolding standing
  ends_longer s h =
      let z : is_nil (drop (length p) s) ≡ false = nil_no (drop (length p) s) (omega (arith, length-drop (length p) s)) in
      rw z (and-false (begins p s))

  ends_shorter : (s : List ℕ) → length s < length p → any_suffix (standing p is_nil) s ≡ false
  ends_shorter s h = any_short (standing p is_nil) (length s) (λ l k. standing_off p is_nil l (sym (too_long p l (omega arith)))) s (omega arith)

  ends_at : (s : List ℕ) (k : ℕ) → k + length p ≡ length s → any_suffix (standing p is_nil) s ≡ begins p (drop k s)
  ends_at [] zero e = ends_full [] (omega (arith, e))
  ends_at (x ∷ s) zero e = rw (ends_full (x ∷ s) (omega (arith, e)), ends_shorter s (omega (arith, e))) (or_false (begins p (x ∷ s)))
    where
      or_false : (b : Bool) → (b || false) ≡ b
      or_false true = refl
      or_false false = refl
  ends_at [] (suc k) e = absurd (omega (arith, e))
  ends_at (x ∷ s) (suc k) e = rw (ends_longer (x ∷ s) (omega (arith, e))) (ends_at s k (omega (arith, e)))

  ends_last : (s : List ℕ) (t : ℕ) → t ≤ length s → length p ≤ length s - t → any_suffix (standing p is_nil) (drop t s) ≡ begins p (drop (length s - length p) s)
  ends_last s t h l =
      let z : t + (length s - t - length p) ≡ length s - length p = omega arith in
      ends_at (drop t s) (length s - t - length p) (omega (arith, length-drop t s))
      ∙ ap (begins p) (drop-drop (length s - t - length p) t s ∙ ap (λ (i : ℕ). drop i s) z)

-- a block that stands somewhere is matched at its first place
first_found : (B : ℕ → List ℕ) (p : List ℕ) (K : List ℕ → Bool) (s : List ℕ) → begins p (drop (until_piece p s) s) ≡ true
    → any_suffix (standing p (any_suffix K)) s ≡ any_suffix K (drop (length p) (drop (until_piece p s) s))
unfolding standing
first_found B p K s e =
    any_skip (standing p (any_suffix K)) p (standing_off p (any_suffix K)) s
    ∙ greedy B K (length p) (begins p) (standing p (any_suffix K)) (λ l. refl) (drop (until_piece p s) s) e

over : (s : List ℕ) (t u n : ℕ) → drop n (drop u (drop t s)) ≡ drop (t + u + n) s
over s t u n = ap (drop n) (drop-drop u t s) ∙ drop-drop n (t + u) s

-- ---- where the joining stands

-- the n bytes of `text` are joined, and the items from p on are left; `empty` is a star or an empty text
pub record Joining (B : ℕ → List ℕ) (P : List ℕ) (q : ℕ) (w₀ w : List ℕ) (p n empty : ℕ) : Type 0 where
  pub near_p : p ≤ length P
  pub ahead : q ≤ p
  pub text : List ℕ
  pub wide : length w ≡ length w₀
  pub size : n ≡ length text
  pub room : n ≤ length w
  pub held : take n w ≡ text
  pub none : (empty ≡ mark → ⊥) → B empty ≡ []
  pub asks : (s : List ℕ) → asked B P q s ≡ any_suffix (standing text (matches B (pattern_of (drop p P)))) s

pub join_start : (B : ℕ → List ℕ) (P : List ℕ) (q : ℕ) (w : List ℕ) → q ≤ length P → Joining B P q w w q 0 mark
unfolding asked standing begins
join_start B P q w h =
    record {
      near_p = h;
      ahead = omega arith;
      text = [];
      wide = refl;
      size = refl;
      room = omega arith;
      held = refl;
      none = λ n. absurd (n refl);
      asks = λ s. refl;
    }

module _ (B : ℕ → List ℕ) (P : List ℕ) (q : ℕ) (w₀ w : List ℕ) (p n empty : ℕ) (g : Joining B P q w₀ w p n empty) where
  abbrev M : ℕ → List ℕ → Bool
  M k = matches B (pattern_of (drop k P))

  -- what is left, said of other items
  asks_as : (f : List ℕ → Bool) → ((l : List ℕ) → M p l ≡ f l) → (s : List ℕ) → asked B P q s ≡ any_suffix (standing g.text f) s
  asks_as f h s = g.asks s ∙ any_as (standing g.text (M p)) (standing g.text f) (standing_as g.text (M p) f h) s

  asks_held : (f : List ℕ → Bool) → ((l : List ℕ) → M p l ≡ f l) → (s : List ℕ) → asked B P q s ≡ any_suffix (standing (take n w) f) s
  asks_held f h s = asks_as f h s ∙ ap (λ (x : List ℕ). any_suffix (standing x f) s) (sym g.held)

  pub join_last : length P ≤ p → Joins B P q w (Last n)
  unfolding Joins
  join_last h = (g.room, asks_held is_nil (λ l. ap (λ (x : List ℕ). matches B (pattern_of x) l) (spent P p h)))

  module _ (h : p < length P) (x : ℕ) (ex : x ≡ get_or P p 0) where
    at_items : (l : List ℕ) → M p l ≡ matches B (pattern_of (x ∷ drop (p + 1) P)) l
    at_items l = ap (λ (y : List ℕ). matches B (pattern_of y) l) (uncons P 0 p h ∙ ap (λ (y : ℕ). y ∷ drop (p + 1) P) (sym ex))

    by_star : x ≡ mark → (l : List ℕ) → M p l ≡ asked B P (p + 1) l
    unfolding asked
    by_star m l = at_items l ∙ at_star B x (drop (p + 1) P) l (eq-eqb x mark m)

    by_piece : (x ≡ mark → ⊥) → (l : List ℕ) → M p l ≡ standing (B x) (M (p + 1)) l
    unfolding standing
    by_piece m l = at_items l ∙ at_piece B x (drop (p + 1) P) l (ne_eqb x mark m)

    pub join_idle : (b : Bool) → b ≡ cond (eqb x mark) (eqb n 0) (eqb x empty) → b ≡ true → Joining B P q w₀ w (p + 1) n empty
    unfolding asked standing begins
    join_idle b eb e = go (eqb x mark) refl (sym eb ∙ e)
      where
        next : ((s : List ℕ) → asked B P q s ≡ any_suffix (standing g.text (M (p + 1))) s) → Joining B P q w₀ w (p + 1) n empty
        next a = record { near_p = omega arith; ahead = omega (arith, g.ahead); text = g.text; wide = g.wide; size = g.size; room = g.room; held = g.held; none = g.none; asks = a }

        none_yet : (t : List ℕ) → length t ≡ 0 → (f : List ℕ → Bool) (s : List ℕ) → any_suffix (standing t (any_suffix f)) s ≡ any_suffix (standing t f) s
        none_yet [] z f s = any_twice f s
        none_yet (y ∷ t) z f s = absurd (omega arith)

        nothing : (v : List ℕ) → v ≡ [] → (f : List ℕ → Bool) (l : List ℕ) → standing v f l ≡ f l
        nothing v z f l = rw z

        go : (m : Bool) → eqb x mark ≡ m → cond m (eqb n 0) (eqb x empty) ≡ true → Joining B P q w₀ w (p + 1) n empty
        go true m z =
            let o : length g.text ≡ 0 = sym g.size ∙ eqb-true n 0 z in
            next (λ s. asks_as (asked B P (p + 1)) (by_star (eqb-true x mark m)) s ∙ none_yet g.text o (M (p + 1)) s)
        go false m z =
            let k : x ≡ mark → ⊥ = λ y. let c : ◌≡◌ {A = Bool} true false = sym (eq-eqb x mark y) ∙ m in let u : ◌≡◌ {A = ℕ} 0 1 = cc in absurd (omega arith) in
            let i : x ≡ empty = eqb-true x empty z in
            let v : B x ≡ [] = ap B i ∙ g.none (λ y. k (i ∙ y)) in
            next (λ s. asks_as (M (p + 1)) (λ l. by_piece k l ∙ nothing (B x) v (M (p + 1)) l) s)

    pub join_star : x ≡ mark → Joins B P q w (Inner (p + 1) n)
    unfolding Joins
    join_star m = (g.room, omega (arith, g.ahead), omega arith, asks_held (asked B P (p + 1)) (by_star m))

    module _ (m : x ≡ mark → ⊥) (v : List ℕ) (ev : v ≡ B x) where
      by_text : (l : List ℕ) → M p l ≡ standing v (M (p + 1)) l
      by_text l = by_piece m l ∙ ap (λ (y : List ℕ). standing y (M (p + 1)) l) (sym ev)

      pub join_long : length w - n < length v → Joins B P q w Long
      unfolding Joins standing
      join_long o = λ s k.
          asks_as (standing v (M (p + 1))) by_text s
          ∙ any_short (standing g.text (standing v (M (p + 1)))) (length w)
          (λ l j.
          let f : begins v (drop (length g.text) l) ≡ false = sym (too_long v (drop (length g.text) l) (omega (arith, length-drop (length g.text) l, g.size))) in
          rw f (and-false (begins g.text l)))
          s k

      pub join_on : length v ≤ length w - n → (w' : List ℕ) → w' ≡ sets w n v → (e : ℕ) → e ≡ cond (eqb (length v) 0) x empty → Joining B P q w₀ w' (p + 1) (n + length v) e
      join_on o w' k e ee =
          record {
            near_p = omega arith;
            ahead = omega (arith, g.ahead);
            text = g.text ++ v;
            wide = ap length k ∙ length-sets w n v ∙ g.wide;
            size = omega (arith, length-append g.text v, g.size);
            room = omega (arith, ap length k, length-sets w n v, g.room);
            held = ap (take (n + length v)) k ∙ take_sets_run v w n (omega (arith, g.room)) ∙ ap (λ (l : List ℕ). l ++ v) g.held;
            none = go (eqb (length v) 0) refl ee;
            asks = λ s. asks_as (standing v (M (p + 1))) by_text s
                ∙ any_as (standing g.text (standing v (M (p + 1)))) (standing (g.text ++ v) (M (p + 1))) (standing_append g.text v (M (p + 1))) s;
          }
        where
          nil : (l : List ℕ) → length l ≡ 0 → l ≡ []
          nil [] z = refl
          nil (y ∷ l) z = absurd (omega arith)

          go : (b : Bool) → eqb (length v) 0 ≡ b → e ≡ cond b x empty → (e ≡ mark → ⊥) → B e ≡ []
          go true z y c = ap B y ∙ sym ev ∙ nil v (eqb-true (length v) 0 z)
          go false z y c = ap B y ∙ g.none (λ i. c (y ∙ i))

-- ---- a step

module _ (p s : List ℕ) (t k : ℕ) (u : ℕ) (eu : u ≡ t + until_piece p (drop t s)) (b : Bool) (eb : b ≡ begins p (drop u s)) where
  there : begins p (drop (until_piece p (drop t s)) (drop t s)) ≡ b
  there = ap (begins p) (drop-drop (until_piece p (drop t s)) t s ∙ ap (λ (i : ℕ). drop i s) (sym eu)) ∙ sym eb

  pub first_fails : not b ≡ true → step_in Fails ≡ first_of p (drop t s) t k
  unfolding first_of
  first_fails e = rw (there, not-true b e)

  pub first_on : not b ≡ false → step_in (On k (u + length p)) ≡ first_of p (drop t s) t k
  unfolding first_of
  first_on e = rw (there, not-false b e, ← eu)

  pub first_fits : t ≤ length s → not b ≡ false → u + length p ≤ length s
  first_fits h e = go (dec_le u (length s))
    where
      fit : length p ≤ length (drop u s)
      fit = begins_fits p (drop u s) (sym eb ∙ not-false b e)

      go : Dec (u ≤ length s) → u + length p ≤ length s
      go (yes l) = omega (arith, fit, length-drop u s)
      go (no l) = absurd (omega (arith, eu, until_most p (drop t s), length-drop t s))

module _ (p s : List ℕ) (t : ℕ) where
  pub last_short : length s - t < length p → step_in Fails ≡ last_of p s t
  unfolding last_of
  last_short h = rw (lt-ltb (length s - t) (length p) h)

  module _ (h : length p ≤ length s - t) (b : Bool) (eb : b ≡ begins p (drop (length s - length p) s)) where
    pub last_holds : b ≡ true → step_in Holds ≡ last_of p s t
    unfolding last_of
    last_holds e = rw (le-ltb (length s - t) (length p) h, ← eb, e)

    pub last_fails : b ≡ false → step_in Fails ≡ last_of p s t
    unfolding last_of
    last_fails e = rw (le-ltb (length s - t) (length p) h, ← eb, e)

module _ (B : ℕ → List ℕ) (P S : List ℕ) (q t : ℕ) (h : q ≤ length P) (k : t ≤ length S) where
  steps_as : (o r : Step) → r ≡ o → Steps B P S q t o → Steps B P S q t r
  steps_as o r e s = subst (Steps B P S q t) (sym e) s

  -- tried at one place
  pub advance_step : (r : Stepᶜ) → step_in r ≡ step_of (length S) q t (block_of B q t (drop q P) (drop t S)) → Steps B P S q t (step_in r)
  unfolding Steps after asked
  advance_step r e = steps_as (step_of (length S) q t (block_of B q t (drop q P) (drop t S))) (step_in r) e
      (go (step_of (length S) q t (block_of B q t (drop q P) (drop t S))) (step_is B P S q t k) (λ i j. step_nearer B P S q t i j h k))
    where
      go : (o : Step) → asked B P q (drop t S) ≡ reached B P S o → ((i j : ℕ) → o ≡ on_to i j → Nearer B P S q t i j) → Steps B P S q t o
      go holds m n = m
      go fails m n = m
      go (on_to i j) m n = let z = n i j refl in (m, z.most, z.within, z.less)

  module _ (w : List ℕ) (o : Joinedᶜ) (j : Joins B P q w o) where
    as_joined : (x : Joinedᶜ) → o ≡ x → Joins B P q w x
    as_joined x e = subst (Joins B P q w) e j

    pub inner_room : (i n : ℕ) → o ≡ Inner i n → n ≤ length w
    unfolding Joins
    inner_room i n e = (as_joined (Inner i n) e).0

    pub last_room : (n : ℕ) → o ≡ Last n → n ≤ length w
    unfolding Joins
    last_room n e = (as_joined (Last n) e).0

    pub advance_long : o ≡ Long → 128 ≤ length w → length S - t ≤ 128 → Steps B P S q t (step_in Fails)
    unfolding Steps after asked Joins
    advance_long e l m = as_joined Long e (drop t S) (omega (arith, length-drop t S))

    pub advance_last : (n : ℕ) → o ≡ Last n → (r : Stepᶜ) → step_in r ≡ last_of (take n w) S t → Steps B P S q t (step_in r)
    unfolding last_of Joins Steps after asked
    advance_last n e r er = steps_as (last_of (take n w) S t) (step_in r) er (go (ltb (length S - t) (length (take n w))) refl)
      where
        asks : asked B P q (drop t S) ≡ any_suffix (standing (take n w) is_nil) (drop t S)
        asks = (as_joined (Last n) e).1 (drop t S)

        stands : (b : Bool) → begins (take n w) (drop (length S - length (take n w)) S) ≡ b → length (take n w) ≤ length S - t → Steps B P S q t (cond b holds fails)
        stands true z l = asks ∙ ends_last (take n w) S t k l ∙ z
        stands false z l = asks ∙ ends_last (take n w) S t k l ∙ z

        go : (b : Bool) → ltb (length S - t) (length (take n w)) ≡ b
            → Steps B P S q t (cond b fails (cond (begins (take n w) (drop (length S - length (take n w)) S)) holds fails))
        go true z = asks ∙ ends_shorter (take n w) (drop t S) (omega (arith, length-drop t S, ltb-true (length S - t) (length (take n w)) z))
        go false z = stands (begins (take n w) (drop (length S - length (take n w)) S)) refl (ltb-false (length S - t) (length (take n w)) z)

    pub advance_first : (i n : ℕ) → o ≡ Inner i n → (r : Stepᶜ) → step_in r ≡ first_of (take n w) (drop t S) t i → Steps B P S q t (step_in r)
    unfolding first_of Joins Steps after asked
    advance_first i n e r er = steps_as (first_of (take n w) (drop t S) t i) (step_in r) er (go (begins (take n w) (drop (until_piece (take n w) (drop t S)) (drop t S))) refl)
      where
        whole : Joins B P q w (Inner i n)
        whole = as_joined (Inner i n) e

        asks : asked B P q (drop t S) ≡ any_suffix (standing (take n w) (asked B P i)) (drop t S)
        asks = whole.3 (drop t S)

        near : (q < i) × (i ≤ length P)
        near = (whole.1, whole.2)

        go : (b : Bool) → begins (take n w) (drop (until_piece (take n w) (drop t S)) (drop t S)) ≡ b
            → Steps B P S q t (cond b (on_to i (t + until_piece (take n w) (drop t S) + length (take n w))) fails)
        go true z =
            let u = until_piece (take n w) (drop t S) in
            let f : length (take n w) ≤ length (drop u (drop t S)) = begins_fits (take n w) (drop u (drop t S)) z in
            let y : u ≤ length (drop t S) = until_most (take n w) (drop t S) in
            let m : t + u + length (take n w) ≤ length S = omega (arith, f, y, length-drop u (drop t S), length-drop t S) in (
              asks ∙ first_found B (take n w) (matches B (pattern_of (drop i P))) (drop t S) z ∙ ap (any_suffix (matches B (pattern_of (drop i P)))) (over S t u (length (take n w))),
              near.1,
              m,
              omega (arith, near.0, near.1),
            )
        go false z = asks ∙ any_never (standing (take n w) (asked B P i)) (take n w) (standing_off (take n w) (asked B P i)) (drop t S) z
