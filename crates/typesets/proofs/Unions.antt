-- The union of two sets; sets at places, of which some are worked out.
use mathlib.Core.Path.{◌≡◌, refl, sym, ap, subst, ◌∙◌}
use mathlib.Core.Bool.{Bool, true, false, not}
use mathlib.Core.List.{List}
use mathlib.Core.Logic.{◌⊎◌, inl, inr}
use Prim.Native.Nat.{ℕ, ◌+◌, ◌-◌, ◌*◌, ◌≤◌, ◌<◌}
use native.Mathlib.Omega.{arith}
use native.Mathlib.Decide.{dec_lt, ℕ_discrete}
use Rattle.cedar.proofs.Tools.{no_true, either, or_left, or_right}
use borrow.Author.Tests.{not-true, not-false}
use lib.ListN.{length, take, replicate}
use lib.Seq.{sets}
use Rattle.words.specs.Bits.{member, added, joined}
use Rattle.words.proofs.Bits.{added_is, member_joined}
use Rattle.words.proofs.Stores.{take_sets, drop_sets, part_sets, part_below, length_part}
use Rattle.typesets.proofs.Members.{each_zeros, never_passes}
use Rattle.typesets.specs.Sets.{TYPE_WORDS, Each, Asked, Gathered, set_at}

pub empty : (f : ℕ → Bool) → Each (replicate TYPE_WORDS 0) f
empty = each_zeros TYPE_WORDS

-- ---- the union of two sets

module _ (w v : List ℕ) (e : length w ≡ length v) (f : ℕ → Bool) where
  pub joined_left : Each (joined w v) f → Each w f
  joined_left h = record { at = λ x l m. h.at x l (member_joined w v x e ∙ or_left (member w x) (member v x) m) }

  pub joined_right : Each (joined w v) f → Each v f
  joined_right h = record { at = λ x l m. h.at x l (member_joined w v x e ∙ or_right (member w x) (member v x) m) }

  pub joined_both : Each w f → Each v f → Each (joined w v) f
  joined_both h k = record { at = λ x l m. either (member w x) (member v x) (sym (member_joined w v x e) ∙ m) (λ i. h.at x l i) (λ i. k.at x l i) }

-- a set, gathered from nothing, joins
pub join_asked : (w own : List ℕ) (q : Asked) → length w ≡ length own → Gathered (replicate TYPE_WORDS 0) own q true → Gathered w (joined w own) q true
join_asked w own q l g = record {
  asks = λ e f x. (joined_left w own l f x, (g.asks refl f (joined_right w own l f x)).1);
  joins = λ e f x y. joined_both w own l f x (g.joins refl f (empty f) y);
  fails = λ e f x y. no_true (sym e);
}

-- ---- the sets of other types stay

-- a run stored in the place of type y's set
module _ (own w : List ℕ) (y : ℕ) (l : length own ≡ TYPE_WORDS) where
  pub set_own : y * TYPE_WORDS + TYPE_WORDS ≤ length w → set_at (sets w (y * TYPE_WORDS) own) y ≡ own
  set_own h = part_sets own w (y * TYPE_WORDS) (y * TYPE_WORDS + TYPE_WORDS) (omega arith) (omega arith)

  pub set_other : (z : ℕ) → (z ≡ y → ⊥) → set_at (sets w (y * TYPE_WORDS) own) z ≡ set_at w z
  set_other z n = go (dec_lt z y)
    where
      go : Dec (z < y) → set_at (sets w (y * TYPE_WORDS) own) z ≡ set_at w z
      go (yes h) = part_below (y * TYPE_WORDS) w (sets w (y * TYPE_WORDS) own) (take_sets own w (y * TYPE_WORDS) (y * TYPE_WORDS) (omega arith)) (z * TYPE_WORDS) (z * TYPE_WORDS + TYPE_WORDS) (omega arith) (omega arith)
      go (no h) = ap (take (z * TYPE_WORDS + TYPE_WORDS - z * TYPE_WORDS)) (drop_sets own w (z * TYPE_WORDS) (y * TYPE_WORDS) (omega (arith, h, n)))

-- ---- a number whose set is known, and one whose set is worked out: what q asks of it

module _ (q : ℕ → Asked) (w : List ℕ) (y : ℕ) (own : List ℕ) (b : Bool) (g : Gathered (replicate TYPE_WORDS 0) own (q y) b) where
  pub held_off : not b ≡ true → Gathered (replicate TYPE_WORDS 0) (set_at w y) (q y) false
  held_off h = never_passes (replicate TYPE_WORDS 0) (set_at w y) (q y) (λ f p. g.fails (not-true b h) f (empty f) p)

  module _ (v : List ℕ) (h : not b ≡ false) (l : length own ≡ TYPE_WORDS) (room : y * TYPE_WORDS + TYPE_WORDS ≤ length w) (ev : v ≡ sets w (y * TYPE_WORDS) own) where
    pub held_own : Gathered (replicate TYPE_WORDS 0) (set_at v y) (q y) true
    held_own = subst (λ (u : List ℕ). Gathered (replicate TYPE_WORDS 0) u (q y) true) (sym (ap (λ (u : List ℕ). set_at u y) ev ∙ set_own own w y l room)) (subst (Gathered (replicate TYPE_WORDS 0) own (q y)) (not-false b h) g)

    pub held_kept : (known now : List ℕ) → ((z : ℕ) → member known z ≡ true → Gathered (replicate TYPE_WORDS 0) (set_at w z) (q z) true) → now ≡ added known y → (z : ℕ) → member now z ≡ true → Gathered (replicate TYPE_WORDS 0) (set_at v z) (q z) true
    held_kept known now k en z m = go (ℕ_discrete z y) ((added_is known y).joined z (ap (λ (u : List ℕ). member u z) (sym en) ∙ m))
      where
        go : Dec (z ≡ y) → (member known z ≡ true) ⊎ (z ≡ y) → Gathered (replicate TYPE_WORDS 0) (set_at v z) (q z) true
        go (yes e) m = subst (λ (x : ℕ). Gathered (replicate TYPE_WORDS 0) (set_at v x) (q x) true) (sym e) held_own
        go (no n) (inl m) = subst (λ (u : List ℕ). Gathered (replicate TYPE_WORDS 0) u (q z) true) (sym (ap (λ (u : List ℕ). set_at u z) ev ∙ set_other own w y l z n)) (k z m)
        go (no n) (inr e) = absurd (n e)

-- a set that is worked out joins
module _ (q : ℕ → Asked) (w v : List ℕ) (y : ℕ) (b : Bool) (g : Gathered (replicate TYPE_WORDS 0) (set_at v y) (q y) b) where
  pub joins_off : not b ≡ true → Gathered w w (q y) false
  joins_off h = never_passes w w (q y) (λ f p. g.fails (not-true b h) f (empty f) p)

  pub joins_on : (own u : List ℕ) → own ≡ set_at v y → length w ≡ TYPE_WORDS → y * TYPE_WORDS + TYPE_WORDS ≤ length v → u ≡ joined w own → not b ≡ false → Gathered w u (q y) true
  joins_on own u eo lw room eu h = subst (λ (x : List ℕ). Gathered w x (q y) true) (sym eu) (join_asked w own (q y) same given)
    where
      same : length w ≡ length own
      same = lw ∙ sym (ap length eo ∙ length_part v (y * TYPE_WORDS) (y * TYPE_WORDS + TYPE_WORDS) room ∙ omega arith)

      given : Gathered (replicate TYPE_WORDS 0) own (q y) true
      given = subst (λ (x : List ℕ). Gathered (replicate TYPE_WORDS 0) x (q y) true) (sym eo) (subst (Gathered (replicate TYPE_WORDS 0) (set_at v y) (q y)) (not-false b h) g)
