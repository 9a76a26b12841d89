-- Places that are all seen, the sets that join there, and the text of a slot.
use mathlib.Core.Path.{◌≡◌, refl, sym, ap, subst, ◌∙◌}
use mathlib.Core.Bool.{Bool, true, false, ◌||◌}
use mathlib.Core.List.{List, [], ◌∷◌}
use mathlib.Core.Logic.{◌⊎◌, inl, inr}
use Prim.Native.Nat.{ℕ, ◌+◌, ◌-◌, ◌*◌, ◌/◌, ◌%◌, ◌^◌, ◌≤◌, ◌<◌}
use native.Mathlib.Omega.{arith}
use native.Mathlib.Decide.{dec_lt, ℕ_discrete}
use Rattle.cedar.proofs.Tools.{no_true, or_right}
use lib.Bits.{bit_or}
use lib.Count.{count_trailing_zeros}
use lib.Pow.{pow_mono}
use lib.ListN.{length, get_or, set, replicate}
use lib.Seq.{sets, get_or-set_same, get_or-set_other}
use Rattle.words.specs.Bits.{bit, member, joined}
use Rattle.words.proofs.Bits.{bit_joins, bit_keeps, member_joined}
use Rattle.words.proofs.Stores.{part_at, length_part}
use Rattle.typesets.proofs.FirstBit.{bit_of_zero, bit_over, member_out, tz_here, bit_less}
use Rattle.typesets.proofs.Members.{zero_in, Turned, turn_start, turn_done, turn_on}
use Rattle.typesets.proofs.Unions.{joined_left, joined_right, joined_both, join_asked, set_own, set_other}
use Rattle.typesets.specs.Sets.{TYPES, TYPE_WORDS, SLOTS, Each, Gathered, set_at, AllSeen, of_word, of_sets, Settled}

-- ---- places that are all seen

-- those below number n are
pub record Below (seen records : List ℕ) (s n : ℕ) : Type 0 where
  pub at : (y : ℕ) → y < n → member records y ≡ true → member seen (s * TYPES + y) ≡ true

module _ (seen records : List ℕ) (s : ℕ) where
  pub below_start : Below seen records s 0
  below_start = record { at = λ y l m. absurd (omega arith) }

  pub below_not : AllSeen seen records s false
  below_not = record { at = λ e y m. no_true e }

  module _ (w : ℕ) (k : Below seen records s (w * 32)) where
    pub below_end : 4 ≤ w → length records ≡ TYPE_WORDS → AllSeen seen records s true
    below_end h l = record { at = λ e y m. go y m (dec_lt y TYPES) }
      where
        go : (y : ℕ) → member records y ≡ true → Dec (y < TYPES) → member seen (s * TYPES + y) ≡ true
        go y m (yes c) = k.at y (omega arith) m
        go y m (no c) = no_true (sym (member_out records y (omega (arith, c))) ∙ m)

    pub below_on : (x r : ℕ) → x ≡ get_or seen (s * TYPE_WORDS + w) 0 → r ≡ get_or records w 0 → bit_or x r ≡ x → Below seen records s ((w + 1) * 32)
    unfolding member joined
    below_on x r ex er h = record { at = λ y l m. go y l m (dec_lt y (w * 32)) }
      where
        go : (y : ℕ) → y < (w + 1) * 32 → member records y ≡ true → Dec (y < w * 32) → member seen (s * TYPES + y) ≡ true
        go y l m (yes c) = k.at y c m
        go y l m (no c) =
            let i : y / 32 ≡ w = omega (arith, c) in
            let j : (s * TYPES + y) / 32 ≡ s * TYPE_WORDS + w = omega (arith, c) in
            let o : (s * TYPES + y) % 32 ≡ y % 32 = omega arith in
            let z : y % 32 / 32 ≡ 0 = omega arith in
            let n : y % 32 % 32 ≡ y % 32 = omega arith in
            let b : bit (y % 32) r ≡ true = ap (bit (y % 32)) (er ∙ ap (λ (q : ℕ). get_or records q 0) (sym i)) ∙ m in
            let d = member_joined (x ∷ []) (r ∷ []) (y % 32) refl in
            let c = subst (λ (q : ℕ). bit q (get_or (bit_or x r ∷ []) (y % 32 / 32) 0) ≡ (bit q (get_or (x ∷ []) (y % 32 / 32) 0) || bit q (get_or (r ∷ []) (y % 32 / 32) 0))) n d in
            let e : bit (y % 32) (bit_or x r) ≡ (bit (y % 32) x || bit (y % 32) r) = subst (λ (q : ℕ). bit (y % 32) (get_or (bit_or x r ∷ []) q 0) ≡ (bit (y % 32) (get_or (x ∷ []) q 0) || bit (y % 32) (get_or (r ∷ []) q 0))) z c in
            rw (j, o, ← ex) (ap (bit (y % 32)) (sym h) ∙ e ∙ or_right (bit (y % 32) x) (bit (y % 32) r) b)

-- ---- the lowest bit of a word

module _ (x : ℕ) (nz : x ≡ 0 → ⊥) (small : x < 4294967296) where
  pub low_in : count_trailing_zeros 32 x < 32
  low_in = go (dec_lt (count_trailing_zeros 32 x) 32)
    where
      go : Dec (count_trailing_zeros 32 x < 32) → count_trailing_zeros 32 x < 32
      go (yes l) = l
      go (no l) = no_true (sym (bit_over 32 (count_trailing_zeros 32 x) x small (omega (arith, l))) ∙ tz_here 32 x nz small)

  low_le : 2 ^ count_trailing_zeros 32 x ≤ x
  low_le = (bit_less (count_trailing_zeros 32 x) x (tz_here 32 x nz small)).0

  pub low_one : (1 * 2 ^ count_trailing_zeros 32 x) % 4294967296 ≡ 2 ^ count_trailing_zeros 32 x
  low_one = let l = low_le in omega (arith, l)

  pub low_room : (1 * 2 ^ count_trailing_zeros 32 x) % 4294967296 ≤ x
  low_room = let l = low_le in let e = low_one in omega (arith, l, e)

  pub low_less : x - (1 * 2 ^ count_trailing_zeros 32 x) % 4294967296 < x
  low_less = let l = low_le in let e = low_one in let z : 0 ≤ count_trailing_zeros 32 x = omega arith in let m : 2 ^ 0 ≤ 2 ^ count_trailing_zeros 32 x = pow_mono z in omega (arith, l, e, m)

-- ---- the sets that the bits of a word number

-- what is left of word x₀ is x
pub record Worded (images : List ℕ) (n x₀ : ℕ) (own : List ℕ) (x : ℕ) : Type 0 where
  pub turned : Turned (replicate TYPE_WORDS 0) (of_word images n x₀) own (of_word images n x)

module _ (images : List ℕ) (n x₀ : ℕ) where
  pub word_start : (own : List ℕ) → own ≡ replicate TYPE_WORDS 0 → Worded images n x₀ own x₀
  word_start own e = record { turned = subst (λ (u : List ℕ). Turned (replicate TYPE_WORDS 0) (of_word images n x₀) u (of_word images n x₀)) (sym e) (turn_start (replicate TYPE_WORDS 0) (of_word images n x₀) (of_word images n x₀) (λ f q. q) (λ f q. q)) }

  module _ (own : List ℕ) (x : ℕ) (d : Worded images n x₀ own x) where
    pub word_end : (w u : List ℕ) → (x ≡ 0) → length w ≡ TYPE_WORDS → length own ≡ TYPE_WORDS → u ≡ joined w own → Gathered w u (of_word images n x₀) true
    word_end w u h lw lo eu =
        subst (λ (v : List ℕ). Gathered w v (of_word images n x₀) true) (sym eu)
        (join_asked w own (of_word images n x₀) (lw ∙ sym lo)
        (turn_done (replicate TYPE_WORDS 0) own (of_word images n x₀) (of_word images n x) d.turned (λ f k l b. no_true (sym (bit_of_zero k) ∙ ap (bit k) (sym h) ∙ b))))

    module _ (k : ℕ) (ek : k ≡ count_trailing_zeros 32 x) (nz : x ≡ 0 → ⊥) (small : x < 4294967296) where
      low_bit : bit k x ≡ true
      low_bit = ap (λ (i : ℕ). bit i x) ek ∙ tz_here 32 x nz small

      room_low : 2 ^ k ≤ x
      room_low = (bit_less k x low_bit).0

      module _ (one z : ℕ) (s u : List ℕ) (l : k < 32) (eo : one ≡ 2 ^ k) (ez : z ≡ x - one) (es : s ≡ set_at images (n + k)) (eu : u ≡ joined own s) (lw : length own ≡ TYPE_WORDS) (room : (n + k) * TYPE_WORDS + TYPE_WORDS ≤ length images) where
        lo : length own ≡ length s
        lo = lw ∙ sym (ap length es ∙ length_part images ((n + k) * TYPE_WORDS) ((n + k) * TYPE_WORDS + TYPE_WORDS) room ∙ omega arith)

        whole : z + 2 ^ k ≡ x
        whole = let r = room_low in omega (arith, r, eo, ez)

        off : bit k z ≡ false
        off = ap (bit k) (ez ∙ ap (λ (m : ℕ). x - m) eo) ∙ (bit_less k x low_bit).1

        kept : (j : ℕ) → bit j z ≡ true → bit j x ≡ true
        kept j b = ap (bit j) (sym whole) ∙ bit_keeps k j z off b

        left : (j : ℕ) → bit j x ≡ true → (bit j z ≡ true) ⊎ (j ≡ k)
        left j b = bit_joins k j z off (ap (bit j) whole ∙ b)

        pub word_on : Worded images n x₀ u z
        word_on = record {
          turned = record {
            to = λ f e q.
                let (o, r) = d.turned.to f e q in
                (subst (λ (v : List ℕ). Each v f) (sym eu) (joined_both own s lo f o (subst (λ (v : List ℕ). Each v f) (sym es) (r k l low_bit))), λ j h b. r j h (kept j b));
            back = λ f e q.
                let e' : Each (joined own s) f = subst (λ (v : List ℕ). Each v f) eu e in
                d.turned.back f (joined_left own s lo f e') (λ j h b. go f j h (left j b) q (subst (λ (v : List ℕ). Each v f) es (joined_right own s lo f e')));
          };
        }
          where
            go : (f : ℕ → Bool) (j : ℕ) → j < 32 → (bit j z ≡ true) ⊎ (j ≡ k) → of_word images n z f → Each (set_at images (n + k)) f → Each (set_at images (n + j)) f
            go f j h (inl b) q e = q j h b
            go f j h (inr i) q e = subst (λ (m : ℕ). Each (set_at images (n + m)) f) (sym i) e

-- ---- those that the members of a set number

pub record Gone (images : List ℕ) (s : ℕ) (records w v : List ℕ) (n : ℕ) : Type 0 where
  pub turned : Turned w (of_sets images s records 0) v (of_sets images s records n)

module _ (images : List ℕ) (s : ℕ) (records w : List ℕ) where
  pub gone_start : Gone images s records w w (0 * 32)
  gone_start = record { turned = turn_start w (of_sets images s records 0) (of_sets images s records 0) (λ f q. q) (λ f q. q) }

  module _ (v : List ℕ) (i : ℕ) (d : Gone images s records w v (i * 32)) where
    pub gone_end : 4 ≤ i → length records ≡ TYPE_WORDS → Gathered w v (of_sets images s records 0) true
    gone_end h l = turn_done w v (of_sets images s records 0) (of_sets images s records (i * 32)) d.turned (λ f y c m. no_true (sym (member_out records y (omega arith)) ∙ m))

    module _ (x : ℕ) (u : List ℕ) (ex : x ≡ get_or records i 0) (g : Gathered v u (of_word images (s * TYPES + i * 32) x) true) where
      bit_at : (y : ℕ) → y / 32 ≡ i → member records y ≡ bit (y % 32) x
      unfolding member
      bit_at y e = rw (e, ← ex)

      pub gone_on : Gone images s records w u ((i + 1) * 32)
      gone_on = record {
        turned = turn_on w v (of_sets images s records 0) (of_sets images s records (i * 32)) d.turned u (of_word images (s * TYPES + i * 32) x) true g (of_sets images s records ((i + 1) * 32)) refl first
            (λ f q y c m. q y (omega arith) m)
            (λ f p q y c m. go f p q y c m (dec_lt y ((i + 1) * 32)));
      }
        where
          first : (f : ℕ → Bool) → of_sets images s records (i * 32) f → of_word images (s * TYPES + i * 32) x f
          first f q k l b =
              let e : (i * 32 + k) % 32 ≡ k = omega arith in
              let c : s * TYPES + (i * 32 + k) ≡ s * TYPES + i * 32 + k = omega arith in
              subst (λ (m : ℕ). Each (set_at images m) f) c (q (i * 32 + k) (omega arith) (bit_at (i * 32 + k) (omega arith) ∙ ap (λ (m : ℕ). bit m x) e ∙ b))

          go : (f : ℕ → Bool) → of_word images (s * TYPES + i * 32) x f → of_sets images s records ((i + 1) * 32) f → (y : ℕ) → i * 32 ≤ y → member records y ≡ true → Dec (y < (i + 1) * 32) → Each (set_at images (s * TYPES + y)) f
          go f p q y c m (yes h) =
              let e : s * TYPES + i * 32 + y % 32 ≡ s * TYPES + y = omega arith in
              subst (λ (n : ℕ). Each (set_at images n) f) e (p (y % 32) (omega arith) (sym (bit_at y (omega arith)) ∙ m))
          go f p q y c m (no h) = q y (omega (arith, h)) m

-- ---- the text of a slot

pub settle_same : (texts seen : List ℕ) (t s x : ℕ) → x ≡ get_or texts s 0 → x ≡ t → Settled texts seen texts seen t s
settle_same texts seen t s x ex h = record { text = sym ex ∙ h; kept = λ p m. (m, refl) }

set_word : (w : List ℕ) (p : ℕ) → get_or w (p / 32) 0 ≡ get_or (set_at w (p / TYPES)) (p / 32 - p / TYPES * TYPE_WORDS) 0
set_word w p =
    let e : p / TYPES * TYPE_WORDS + (p / 32 - p / TYPES * TYPE_WORDS) ≡ p / 32 = omega arith in
    sym (part_at w (p / TYPES * TYPE_WORDS) (p / TYPES * TYPE_WORDS + TYPE_WORDS) (p / 32 - p / TYPES * TYPE_WORDS) (omega arith) ∙ ap (λ (i : ℕ). get_or w i 0) e)

pub settle_new : (texts seen : List ℕ) (t s : ℕ) (none now u : List ℕ) → none ≡ replicate TYPE_WORDS 0 → length none ≡ TYPE_WORDS → length texts ≡ SLOTS → length seen ≡ SLOTS * TYPE_WORDS → s < SLOTS → now ≡ sets seen (s * TYPE_WORDS) none → u ≡ set texts s t → Settled texts seen u now t s
unfolding member
settle_new texts seen t s none now u en ln lt ls l ev eu = record {
  text = ap (λ (x : List ℕ). get_or x s 0) eu ∙ get_or-set_same texts s t 0 (omega arith);
  kept = λ p m. go p m (ℕ_discrete (p / TYPES) s);
}
  where
    in_slot : (p : ℕ) (x : List ℕ) → set_at now (p / TYPES) ≡ x → member now p ≡ bit (p % 32) (get_or x (p / 32 - p / TYPES * TYPE_WORDS) 0)
    in_slot p x e = ap (bit (p % 32)) (set_word now p ∙ ap (λ (v : List ℕ). get_or v (p / 32 - p / TYPES * TYPE_WORDS) 0) e)

    own : set_at now s ≡ replicate TYPE_WORDS 0
    own = ap (λ (x : List ℕ). set_at x s) ev ∙ set_own none seen s ln (omega arith) ∙ en

    other : (z : ℕ) → (z ≡ s → ⊥) → set_at now z ≡ set_at seen z
    other z n = ap (λ (x : List ℕ). set_at x z) ev ∙ set_other none seen s ln z n

    was : (p : ℕ) → bit (p % 32) (get_or (set_at seen (p / TYPES)) (p / 32 - p / TYPES * TYPE_WORDS) 0) ≡ member seen p
    was p = ap (bit (p % 32)) (sym (set_word seen p))

    go : (p : ℕ) → member now p ≡ true → Dec (p / TYPES ≡ s) → (member seen p ≡ true) × (get_or u (p / TYPES) 0 ≡ get_or texts (p / TYPES) 0)
    go p m (yes e) = no_true (sym (in_slot p (replicate TYPE_WORDS 0) (ap (set_at now) e ∙ own) ∙ ap (bit (p % 32)) (zero_in TYPE_WORDS (p / 32 - p / TYPES * TYPE_WORDS)) ∙ bit_of_zero (p % 32)) ∙ m)
    go p m (no n) = (sym (was p) ∙ sym (in_slot p (set_at seen (p / TYPES)) (other (p / TYPES) n)) ∙ m, ap (λ (x : List ℕ). get_or x (p / TYPES) 0) eu ∙ get_or-set_other texts s (p / TYPES) t 0 n)
