-- 64 levels show all nodes under a node, in every state that a reading reaches, and there are no more types than a sheet may have. Assumes nothing.
use mathlib.Core.Path.{◌≡◌, refl, sym, ap, ap₂, subst, ◌∙◌}
use mathlib.Core.Bool.{Bool, cond}
use mathlib.Core.List.{List, [], ◌∷◌, ◌++◌}
use Prim.Native.Nat.{ℕ, zero, suc, ◌≤◌, ◌<◌}
use native.Mathlib.Omega.{arith}
use native.Mathlib.Decide.{dec_lt}
use borrow.Author.Tests.{lt-ltb, le-ltb}
use lib.Dec.{ltb}
use lib.ListN.{get_or}
use lib.Seq.{take-length}
use Rattle.cedar.proofs.TableLaws.{InN, now', later'}
use Rattle.sheet.specs.Forms.{Mode, refs, TYPE, NODE}
use Rattle.sheet.specs.State.{State, lines_of, line_at, count, depths_of}
use Rattle.sheet.specs.Typing.{gathered, under_from, nodes_under}
use Rattle.sheet.proofs.reading.Under.{lower, under_lower, lower_is, lower_none}
use Rattle.sheet.proofs.reading.Depths.{Reached, Deep, Depths, reached_depths, reached_history}
use Rattle.sheet.proofs.reading.Limits.{lines_at_most}
use Rattle.table.specs.Layout.{lines_held, held}
use Rattle.table.proofs.Rows.{count_rows}
use Rattle.typesets.specs.Sets.{TYPES}
use Rattle.typing.specs.Links.{seen_below, seen_from, Shown}

module _ (s : State) where
  -- nothing is under a node that is not there, and nothing is shown of it
  none_under : (n : ℕ) → count s NODE ≤ n → nodes_under s n ≡ []
  unfolding nodes_under
  none_under n h = ap (λ (l : List (List ℕ)). get_or (under_from [] l) n []) (sym (take-length (lines_of s NODE))) ∙ lower_none s (count s NODE) n h

  none_seen : (d n : ℕ) → count s NODE ≤ n → seen_from (lines_of s NODE) d n ≡ []
  unfolding seen_from
  none_seen zero n h = refl
  none_seen (suc d) n h = ap (λ (b : Bool). cond b (line_at s NODE n ∷ seen_below (seen_from (lines_of s NODE) d) n (refs NODE (line_at s NODE n))) []) (le-ltb n (count s NODE) h)

  -- what is shown of the nodes that stand before node n, where each is shown whole
  seen_lower : (f : ℕ → List (List ℕ)) (n : ℕ) → n < count s NODE → (l : List ℕ) → ((x : ℕ) → InN x l → f x ≡ nodes_under s x) → seen_below f n l ≡ gathered (lower s n) l
  unfolding seen_below
  seen_lower f n lt [] h = refl
  seen_lower f n lt (x ∷ l) h = ap₂ (λ (a b : List (List ℕ)). a ++ b) (one (dec_lt x n)) (seen_lower f n lt l (λ y i. h y (later' i)))
    where
      one : Dec (x < n) → cond (ltb x n) (f x) [] ≡ get_or (lower s n) x []
      one (yes a) = ap (λ (b : Bool). cond b (f x) []) (lt-ltb x n a) ∙ h x now' ∙ sym (lower_is s n x a (omega (arith, lt)))
      one (no a) = ap (λ (b : Bool). cond b (f x) []) (le-ltb x n (omega (arith, a))) ∙ sym (lower_none s n x (omega (arith, a)))

  module _ (ds : List ℕ) (levels : Deep NODE (lines_of s NODE) ds) where
    -- as many levels as a node is deep show all
    seen_all : (d n : ℕ) → get_or ds n 0 ≤ d → seen_from (lines_of s NODE) d n ≡ nodes_under s n
    unfolding seen_from
    seen_all zero n h = go (dec_lt n (count s NODE))
      where
        go : Dec (n < count s NODE) → seen_from (lines_of s NODE) zero n ≡ nodes_under s n
        go (yes a) = let z = levels.least n a in absurd (omega (arith, z, h))
        go (no a) = none_seen zero n (omega (arith, a)) ∙ sym (none_under n (omega (arith, a)))
    seen_all (suc d) n h = go (dec_lt n (count s NODE)) (λ x l. seen_all d x l)
      where
        go : Dec (n < count s NODE) → ((x : ℕ) → get_or ds x 0 ≤ d → seen_from (lines_of s NODE) d x ≡ nodes_under s x) → seen_from (lines_of s NODE) (suc d) n ≡ nodes_under s n
        go (yes a) ih =
            ap (λ (b : Bool). cond b (line_at s NODE n ∷ seen_below (seen_from (lines_of s NODE) d) n (refs NODE (line_at s NODE n))) []) (lt-ltb n (count s NODE) a)
            ∙ ap (λ (l : List (List ℕ)). line_at s NODE n ∷ l) (seen_lower (seen_from (lines_of s NODE) d) n a (refs NODE (line_at s NODE n)) (λ x i. let (u, v) = levels.falls n x i in ih x (omega (arith, v, h))))
            ∙ sym (under_lower s n a)
        go (no a) ih = none_seen (suc d) n (omega (arith, a)) ∙ sym (none_under n (omega (arith, a)))

-- so it is of the rows in words, where it is of the state that they hold
pub shown_held : (sheet a b : List ℕ) → count (held sheet a b) TYPE ≤ TYPES → Depths (held sheet a b) → Shown a
unfolding held lines_held
shown_held sheet a b l h = record {
  few = subst (λ (n : ℕ). n ≤ TYPES) (count_rows a TYPE) l;
  all = λ n. seen_all (held [] a []) (depths_of (held sheet a b) NODE) (h.deep NODE) 64 n ((h.deep NODE).low n);
}

-- EVERY STATE REACHED
pub shown_reached : {m : Mode} (sheet a b : List ℕ) → Reached m (held sheet a b) → Shown a
shown_reached {m} sheet a b r = shown_held sheet a b (lines_at_most m (held sheet a b) (reached_history r) TYPE) (reached_depths r)
