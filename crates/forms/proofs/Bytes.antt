-- A form's eight numbers as the bytes of one word. Assumes nothing.
use mathlib.Core.Path.{◌≡◌, refl}
use Prim.Native.Nat.{ℕ, ◌+◌, ◌*◌, ◌/◌, ◌%◌, ◌<◌}
use native.Mathlib.Omega.{arith}
use Rattle.sheet.specs.Forms.{form_of}
use Rattle.forms.specs.Rows.{row, unpacked}
use Rattle.forms.proofs.Table.{row_at, key_is}

-- ---- the byte x of a word, after lower ones and before higher ones

module _ (w l x h : ℕ) (q : x < 256) where
  byte_1 : w ≡ x + 256 * h → w % 256 ≡ x
  byte_1 e = omega arith

  byte_2 : l < 256 → w ≡ l + 256 * (x + 256 * h) → w / 256 % 256 ≡ x
  byte_2 p e = omega arith

  byte_3 : l < 65536 → w ≡ l + 65536 * (x + 256 * h) → w / 65536 % 256 ≡ x
  byte_3 p e = omega arith

  byte_4 : l < 16777216 → w ≡ l + 16777216 * (x + 256 * h) → w / 16777216 % 256 ≡ x
  byte_4 p e = omega arith

  byte_5 : l < 4294967296 → w ≡ l + 4294967296 * (x + 256 * h) → w / 4294967296 % 256 ≡ x
  byte_5 p e = omega arith

  byte_6 : l < 1099511627776 → w ≡ l + 1099511627776 * (x + 256 * h) → w / 1099511627776 % 256 ≡ x
  byte_6 p e = omega arith

  byte_7 : l < 281474976710656 → w ≡ l + 281474976710656 * (x + 256 * h) → w / 281474976710656 % 256 ≡ x
  byte_7 p e = omega arith

  byte_8 : l < 72057594037927936 → w ≡ l + 72057594037927936 * (x + 256 * h) → w / 72057594037927936 % 256 ≡ x
  byte_8 p e = omega arith

-- ---- the whole word

same_row_law : (k n g m a b c d k' n' g' m' a' b' c' d' : ℕ)
    → k ≡ k' → n ≡ n' → g ≡ g' → m ≡ m' → a ≡ a' → b ≡ b' → c ≡ c' → d ≡ d' → row k n g m a b c d ≡ row k' n' g' m' a' b' c' d'
same_row_law k n g m a b c d k' n' g' m' a' b' c' d' e1 e2 e3 e4 e5 e6 e7 e8 = rw (e1, e2, e3, e4, e5, e6, e7, e8) refl

pub packed_row : (k n g m a b c d w : ℕ) → k < 256 → n < 256 → g < 256 → m < 256 → a < 256 → b < 256 → c < 256 → d < 256
    → w ≡ k + 256 * n + 65536 * g + 16777216 * m + 4294967296 * (a + 256 * b + 65536 * c + 16777216 * d) → unpacked w ≡ row k n g m a b c d
unfolding unpacked
packed_row k n g m a b c d w hk hn hg hm ha hb hc hd e =
    same_row_law (w % 256) (w / 256 % 256) (w / 65536 % 256) (w / 16777216 % 256) (w / 4294967296 % 256) (w / 1099511627776 % 256)
    (w / 281474976710656 % 256) (w / 72057594037927936 % 256) k n g m a b c d
    (byte_1 w 0 k (n + 256 * g + 65536 * m + 16777216 * (a + 256 * b + 65536 * c + 16777216 * d)) hk (omega (arith, e)))
    (byte_2 w k n (g + 256 * m + 65536 * (a + 256 * b + 65536 * c + 16777216 * d)) hn hk (omega (arith, e)))
    (byte_3 w (k + 256 * n) g (m + 256 * (a + 256 * b + 65536 * c + 16777216 * d)) hg (omega (arith, hk, hn)) (omega (arith, e)))
    (byte_4 w (k + 256 * n + 65536 * g) m (a + 256 * b + 65536 * c + 16777216 * d) hm (omega (arith, hk, hn, hg)) (omega (arith, e)))
    (byte_5 w (k + 256 * n + 65536 * g + 16777216 * m) a (b + 256 * c + 65536 * d) ha (omega (arith, hk, hn, hg, hm)) (omega (arith, e)))
    (byte_6 w (k + 256 * n + 65536 * g + 16777216 * m + 4294967296 * a) b (c + 256 * d) hb (omega (arith, hk, hn, hg, hm, ha)) (omega (arith, e)))
    (byte_7 w (k + 256 * n + 65536 * g + 16777216 * m + 4294967296 * a + 1099511627776 * b) c d hc (omega (arith, hk, hn, hg, hm, ha, hb))
    (omega (arith, e)))
    (byte_8 w (k + 256 * n + 65536 * g + 16777216 * m + 4294967296 * a + 1099511627776 * b + 281474976710656 * c) d 0 hd
    (omega (arith, hk, hn, hg, hm, ha, hb, hc)) (omega (arith, e)))

-- the lowest byte of a form's word is its key
pub key_word : (t w : ℕ) → unpacked w ≡ row_at t → w % 256 ≡ (form_of t).key
unfolding unpacked
key_word t w e = key_is t (unpacked w) e
