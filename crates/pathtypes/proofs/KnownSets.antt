-- The record types of a type, worked out once: a set for each type, and the set of the types whose own is known.
use mathlib.Core.Path.{◌≡◌, sym, ◌∙◌}
use mathlib.Core.Bool.{Bool, true, false, not}
use mathlib.Core.List.{List}
use Prim.Native.Nat.{ℕ, ◌*◌, ◌<◌}
use native.Mathlib.Omega.{arith}
use Rattle.cedar.proofs.Tools.{no_true}
use lib.ListN.{length, replicate}
use lib.Seq.{sets}
use Rattle.words.specs.Bits.{member, added, joined}
use Rattle.typesets.specs.Sets.{TYPES, TYPE_WORDS, Gathered, set_at}
use Rattle.typesets.proofs.Members.{member_zeros}
use Rattle.typesets.proofs.Unions.{held_off, held_own, held_kept, joins_off, joins_on}
use Rattle.pathtypes.specs.Paths.{SETS, RecordsOf, Learned, of_each}

pub learned_none : (a sets : List ℕ) → Learned a (replicate TYPE_WORDS 0) sets
learned_none a sets = record { at = λ y m. no_true (sym (member_zeros TYPE_WORDS y) ∙ m) }

module _ (a known w : List ℕ) (y : ℕ) (k : Learned a known w) where
  pub learn_known : (b : Bool) → b ≡ member known y → b ≡ true → RecordsOf a (set_at w y) y true
  learn_known b e h = k.at y (sym e ∙ h)

  module _ (own : List ℕ) (b : Bool) (g : RecordsOf a own y b) where
    pub learn_off : not b ≡ true → RecordsOf a (set_at w y) y false
    learn_off = held_off (of_each a) w y own b g

    module _ (v : List ℕ) (h : not b ≡ false) (l : length own ≡ TYPE_WORDS) (lw : length w ≡ SETS) (s : y < TYPES) (ev : v ≡ sets w (y * TYPE_WORDS) own) where
      pub learn_own : RecordsOf a (set_at v y) y true
      learn_own = held_own (of_each a) w y own b g v h l (omega arith) ev

      pub learn_kept : (now : List ℕ) → now ≡ added known y → Learned a now v
      learn_kept now en = record { at = held_kept (of_each a) w y own b g v h l (omega arith) ev known now k.at en }

module _ (a w v : List ℕ) (y : ℕ) (b : Bool) (g : RecordsOf a (set_at v y) y b) where
  pub known_off : not b ≡ true → Gathered w w (of_each a y) false
  known_off = joins_off (of_each a) w v y b g

  pub known_on : (own u : List ℕ) → own ≡ set_at v y → length w ≡ TYPE_WORDS → length v ≡ SETS → y < TYPES → u ≡ joined w own → not b ≡ false → Gathered w u (of_each a y) true
  known_on own u eo lw lv s eu = joins_on (of_each a) w v y b g own u eo lw (omega arith) eu
