-- Bytes as one number, of which one sum tells which are printable, byte by byte from the lowest. Assumes nothing.
use Rattle.std.proofs.Common.{◌≡◌, ℕ, zero, suc, ◌+◌, ◌-◌, ◌*◌, ◌/◌, ◌%◌, ◌^◌, ◌<◌, ◌≤◌, false, List, [], ◌∷◌, length, get_or, take, drop, sym, refl, ap, ◌∙◌, ap₂, pow-suc, arith, le-leb}
use native.Mathlib.Decide.{dec_lt}
use borrow.Author.Tests.{lt-leb}
use lib.Arith.{mod-mul}
use lib.Bits.{bit_and, bit_or, and_block, or_block, or_lt, and_shifted, and_comm, and_zero_r, or_add_and, and_le_l, and_le_r, shifted_half, shifted_even}
use lib.Count.{count_trailing_zeros}
use native.Mathlib.Nat.{one-le-pow}
use Rattle.scan.specs.Numbers.{bytes_of, Packed}
use Rattle.scan.specs.Places.{is_printable, plain_to, Marked}
use Rattle.scan.proofs.Packing.{length_drop_enough}

-- ---- zeros at the end

-- j more than k
abbrev more : ℕ → ℕ → ℕ
more zero k = k
more (suc j) k = suc (more j k)

zeros_shifted : (j k m : ℕ) → count_trailing_zeros (more j k) (m * 2 ^ j) ≡ more j (count_trailing_zeros k m)
unfolding count_trailing_zeros
zeros_shifted zero k m = let e : m * 2 ^ 0 ≡ m = omega arith in ap (count_trailing_zeros k) e
zeros_shifted (suc j) k m = rw (shifted_even m j, shifted_half m j) (ap suc (zeros_shifted j k m))

zeros_odd : (k q : ℕ) → count_trailing_zeros (suc k) (q * 2 + 1) ≡ 0
unfolding count_trailing_zeros
zeros_odd k q = let e : (q * 2 + 1) % 2 ≡ 1 = omega arith in rw e refl

-- ---- the numbers of n bytes

-- 1, 128 and 223 in each byte
abbrev ones : ℕ → ℕ
ones zero = 0
ones (suc n) = ones n * 256 + 1

abbrev tops : ℕ → ℕ
tops zero = 0
tops (suc n) = tops n * 256 + 128

abbrev lows : ℕ → ℕ
lows zero = 0
lows (suc n) = lows n * 256 + 223

abbrev bits_in : ℕ → ℕ
bits_in zero = 0
bits_in (suc n) = more 8 (bits_in n)

-- 32 less than each byte, and 1 more, as long as none is carried
abbrev less : ℕ → ℕ → ℕ
less n w = (w + (lows n + 1)) % 256 ^ n

abbrev above : ℕ → ℕ → ℕ
above n w = (w + ones n) % 256 ^ n

abbrev marks_in : ℕ → ℕ → ℕ
marks_in n w = bit_and (bit_or (bit_or (less n w) (above n w)) w) (tops n)

-- the same of one byte
abbrev mark_of : ℕ → ℕ → ℕ → ℕ
mark_of a b x = bit_and (bit_or (bit_or a b) x) 128

wide : (n s : ℕ) → s % 256 ^ suc n ≡ (s / 256 % 256 ^ n) * 256 + s % 256
wide n s = ap (λ (m : ℕ). s % m) (pow-suc 256 n) ∙ mod-mul s {m = 256 ^ n} {c = 256} (one-le-pow n 256 (omega arith)) (omega arith)

module _ (n w x : ℕ) (h : x < 256) where
  less_wide : less (suc n) (w * 256 + x) ≡ ((w * 256 + x + (lows (suc n) + 1)) / 256 % 256 ^ n) * 256 + (x + 224) % 256
  less_wide =
      let e : (w * 256 + x + (lows n * 256 + 223 + 1)) % 256 ≡ (x + 224) % 256 = omega arith in
      wide n (w * 256 + x + (lows (suc n) + 1)) ∙ ap (λ (k : ℕ). ((w * 256 + x + (lows (suc n) + 1)) / 256 % 256 ^ n) * 256 + k) e

  above_wide : above (suc n) (w * 256 + x) ≡ ((w * 256 + x + ones (suc n)) / 256 % 256 ^ n) * 256 + (x + 1) % 256
  above_wide =
      let e : (w * 256 + x + (ones n * 256 + 1)) % 256 ≡ (x + 1) % 256 = omega arith in
      wide n (w * 256 + x + ones (suc n)) ∙ ap (λ (k : ℕ). ((w * 256 + x + ones (suc n)) / 256 % 256 ^ n) * 256 + k) e

-- the marks of the lowest byte stand apart
marks_block : (a p b q w x t : ℕ) → p < 256 → q < 256 → x < 256
    → bit_and (bit_or (bit_or (a * 256 + p) (b * 256 + q)) (w * 256 + x)) (t * 256 + 128) ≡ bit_and (bit_or (bit_or a b) w) t * 256 + mark_of p q x
marks_block a p b q w x t hp hq hx =
    rw (or_block 8 a b p q hp hq, or_block 8 (bit_or a b) w (bit_or p q) x (or_lt 8 p q hp hq) hx)
    (and_block 8 (bit_or (bit_or a b) w) t (bit_or (bit_or p q) x) 128 (or_lt 8 (bit_or p q) x (or_lt 8 p q hp hq) hx) (omega arith))

-- ---- one byte

mark_none : (a b x : ℕ) → a < 128 → b < 128 → x < 128 → mark_of a b x ≡ 0
mark_none a b x ha hb hx = and_comm (bit_or (bit_or a b) x) 128 ∙ and_shifted 1 7 (bit_or (bit_or a b) x) (or_lt 7 (bit_or a b) x (or_lt 7 a b ha hb) hx)

top_bit : (u : ℕ) → 128 ≤ u → u < 256 → bit_and u 128 ≡ 128
top_bit u h g =
    let e : u ≡ 1 * 128 + (u - 128) = omega arith in
    ap (λ (k : ℕ). bit_and k 128) e ∙ and_block 7 1 1 (u - 128) 0 (omega arith) (omega arith) ∙ omega (arith, and_zero_r (u - 128))

or_left : (a b : ℕ) → a ≤ bit_or a b
or_left a b = omega (arith, or_add_and a b, and_le_r a b)

or_right : (a b : ℕ) → b ≤ bit_or a b
or_right a b = omega (arith, or_add_and a b, and_le_l a b)

module _ (a b x : ℕ) (ha : a < 256) (hb : b < 256) (hx : x < 256) where
  mark_some : 128 ≤ bit_or (bit_or a b) x → mark_of a b x ≡ 128
  mark_some h = top_bit (bit_or (bit_or a b) x) h (or_lt 8 (bit_or a b) x (or_lt 8 a b ha hb) hx)

  mark_first : 128 ≤ a → mark_of a b x ≡ 128
  mark_first h = mark_some (omega (arith, or_left a b, or_left (bit_or a b) x))

  mark_second : 128 ≤ b → mark_of a b x ≡ 128
  mark_second h = mark_some (omega (arith, or_right a b, or_left (bit_or a b) x))

  mark_third : 128 ≤ x → mark_of a b x ≡ 128
  mark_third h = mark_some (omega (arith, or_right (bit_or a b) x))

-- ---- a byte before others

module _ (n w x : ℕ) where
  marks_plain : 32 ≤ x → x ≤ 126 → marks_in (suc n) (w * 256 + x) ≡ marks_in n w * 256
  marks_plain l g =
      let p : less (suc n) (w * 256 + x) ≡ less n w * 256 + (x - 32) =
      let d : (w * 256 + x + (lows n * 256 + 223 + 1)) / 256 ≡ w + (lows n + 1) = omega arith in
      let r : (x + 224) % 256 ≡ x - 32 = omega arith in
      less_wide n w x (omega arith) ∙ rw (d, r) refl in
      let q : above (suc n) (w * 256 + x) ≡ above n w * 256 + (x + 1) =
      let d : (w * 256 + x + (ones n * 256 + 1)) / 256 ≡ w + ones n = omega arith in
      let r : (x + 1) % 256 ≡ x + 1 = omega arith in
      above_wide n w x (omega arith) ∙ rw (d, r) refl in
      let m : marks_in (suc n) (w * 256 + x) ≡ marks_in n w * 256 + mark_of (x - 32) (x + 1) x =
      rw (p, q) (marks_block (less n w) (x - 32) (above n w) (x + 1) w x (tops n) (omega arith) (omega arith) (omega arith)) in
      omega (arith, m, mark_none (x - 32) (x + 1) x (omega arith) (omega arith) (omega arith))

record Other (m : ℕ) : Type 0 where
  rest : ℕ
  is : m ≡ (rest * 2 + 1) * 128

module _ (n w x : ℕ) (h : x < 256) where
  marks_other : mark_of ((x + 224) % 256) ((x + 1) % 256) x ≡ 128 → Other (marks_in (suc n) (w * 256 + x))
  marks_other e =
      let a = (w * 256 + x + (lows (suc n) + 1)) / 256 % 256 ^ n in
      let b = (w * 256 + x + ones (suc n)) / 256 % 256 ^ n in
      let r = bit_and (bit_or (bit_or a b) w) (tops n) in
      let m : marks_in (suc n) (w * 256 + x) ≡ r * 256 + mark_of ((x + 224) % 256) ((x + 1) % 256) x =
      rw (less_wide n w x h, above_wide n w x h) (marks_block a ((x + 224) % 256) b ((x + 1) % 256) w x (tops n) (omega arith) (omega arith) h) in
      record { rest = r; is = omega (arith, m, e) }

  other_low : x < 32 → Other (marks_in (suc n) (w * 256 + x))
  other_low l = marks_other (mark_first ((x + 224) % 256) ((x + 1) % 256) x (omega arith) (omega arith) h (omega arith))

  other_high : 126 < x → Other (marks_in (suc n) (w * 256 + x))
  other_high g = marks_other (go (dec_lt x 128))
    where
      go : Dec (x < 128) → mark_of ((x + 224) % 256) ((x + 1) % 256) x ≡ 128
      go (yes l) = mark_second ((x + 224) % 256) ((x + 1) % 256) x (omega arith) (omega arith) h (omega arith)
      go (no l) = mark_third ((x + 224) % 256) ((x + 1) % 256) x (omega arith) (omega arith) h (omega arith)

-- ---- all bytes

record MarkedIn (l : List ℕ) (k m : ℕ) : Type 0 where
  none : m ≡ 0 → plain_to l ≡ length l
  some : (m ≡ 0 → ⊥) → plain_to l < length l
  before : count_trailing_zeros k m / 8 ≡ plain_to l

module _ (x : ℕ) (l : List ℕ) (k : ℕ) where
  marked_plain : (m r : ℕ) → 32 ≤ x → x ≤ 126 → m ≡ r * 256 → MarkedIn l k r → MarkedIn (x ∷ l) (more 8 k) m
  marked_plain m r a b e q =
      let p : plain_to (x ∷ l) ≡ suc (plain_to l) = rw (le-leb 32 x a, le-leb x 126 b) refl in
      let z : count_trailing_zeros (more 8 k) m ≡ more 8 (count_trailing_zeros k r) = ap (count_trailing_zeros (more 8 k)) e ∙ zeros_shifted 8 k r in
      record {
        none = λ h. p ∙ ap suc (q.none (omega (arith, e, h)));
        some = λ h. rw p (omega (arith, q.some (λ g. h (omega (arith, e, g)))));
        before = omega (arith, p, z, q.before);
      }

  marked_other : (m : ℕ) → is_printable x ≡ false → Other m → MarkedIn (x ∷ l) (more 8 k) m
  marked_other m f o =
      let p : plain_to (x ∷ l) ≡ 0 = rw f refl in
      let z : count_trailing_zeros (more 8 k) m ≡ 7 = ap (count_trailing_zeros (more 8 k)) o.is ∙ zeros_shifted 7 (suc k) (o.rest * 2 + 1) ∙ ap (more 7) (zeros_odd k o.rest) in
      record {
        none = λ h. absurd (omega (arith, o.is, h));
        some = λ h. rw p (omega arith);
        before = omega (arith, p, z);
      }

marked_in : (l : List ℕ) → ((j : ℕ) → get_or l j 0 < 256) → MarkedIn l (bits_in (length l)) (marks_in (length l) (bytes_of l))
unfolding count_trailing_zeros
marked_in [] h = record { none = λ e. refl; some = λ e. absurd (e (and_zero_r (bit_or (bit_or (less 0 0) (above 0 0)) 0))); before = refl }
marked_in (x ∷ l) h = go (marked_in l (λ j. h (suc j))) (dec_lt x 32) (dec_lt 126 x)
  where
    e : x + 256 * bytes_of l ≡ bytes_of l * 256 + x
    e = omega arith

    turn : MarkedIn (x ∷ l) (bits_in (suc (length l))) (marks_in (suc (length l)) (bytes_of l * 256 + x)) → MarkedIn (x ∷ l) (bits_in (length (x ∷ l))) (marks_in (length (x ∷ l)) (bytes_of (x ∷ l)))
    turn q = rw e q

    go : MarkedIn l (bits_in (length l)) (marks_in (length l) (bytes_of l)) → Dec (x < 32) → Dec (126 < x) → MarkedIn (x ∷ l) (bits_in (length (x ∷ l))) (marks_in (length (x ∷ l)) (bytes_of (x ∷ l)))
    go q (yes a) b = turn (marked_other x l (bits_in (length l)) _ (rw (lt-leb 32 x a) refl) (other_low (length l) (bytes_of l) x (h 0) a))
    go q (no a) (yes b) = turn (marked_other x l (bits_in (length l)) _ (rw (le-leb 32 x (omega arith), lt-leb x 126 b) refl) (other_high (length l) (bytes_of l) x (h 0) b))
    go q (no a) (no b) = turn (marked_plain x l (bits_in (length l)) _ (marks_in (length l) (bytes_of l)) (omega arith) (omega arith) (marks_plain (length l) (bytes_of l) x (omega arith) (omega arith)) q)

marked_eight : (l : List ℕ) → length l ≡ 8 → ((j : ℕ) → get_or l j 0 < 256) → (w m : ℕ) → w ≡ bytes_of l → m ≡ marks_in 8 w → Marked l m
marked_eight l e h w m f g =
    let z : m ≡ marks_in (length l) (bytes_of l) = g ∙ ap₂ marks_in (sym e) f in
    let q = marked_in l h in
    record {
      none = λ p. q.none (sym z ∙ p) ∙ e;
      some = λ p. rw (← e) (q.some (λ t. p (z ∙ t)));
      before = ap (λ (k : ℕ). count_trailing_zeros 64 k / 8) z ∙ ap (λ (n : ℕ). count_trailing_zeros (bits_in n) (marks_in (length l) (bytes_of l)) / 8) (sym e) ∙ q.before;
    }

-- ---- eight bytes of a text

bytes_drop : (i : ℕ) (l : List ℕ) → ((j : ℕ) → get_or l j 0 < 256) → (j : ℕ) → get_or (drop i l) j 0 < 256
bytes_drop zero l h j = h j
bytes_drop (suc i) [] h j = h j
bytes_drop (suc i) (x ∷ l) h j = bytes_drop i l (λ k. h (suc k)) j

bytes_take : (n : ℕ) (l : List ℕ) → ((j : ℕ) → get_or l j 0 < 256) → (j : ℕ) → get_or (take n l) j 0 < 256
bytes_take zero l h j = omega arith
bytes_take (suc n) [] h j = h j
bytes_take (suc n) (x ∷ l) h zero = h 0
bytes_take (suc n) (x ∷ l) h (suc j) = bytes_take n l (λ k. h (suc k)) j

pub marked : (s : List ℕ) (i w m : ℕ) → i + 8 ≤ length s → Packed s i 8 w → m ≡ marks_in 8 w → Marked (take 8 (drop i s)) m
marked s i w m h p e =
    marked_eight (take 8 (drop i s)) (length_drop_enough s i 8 h) (bytes_take 8 (drop i s) (bytes_drop i s p.bytes)) w m p.is e
