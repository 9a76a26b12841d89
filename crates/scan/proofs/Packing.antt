-- Bytes as one number: parts joined, and that no two words have the same number. Assumes nothing.
use Rattle.std.proofs.Common.{◌≡◌, ℕ, zero, suc, ◌+◌, ◌*◌, ◌^◌, ◌<◌, ◌≤◌, true, false, ◌&&◌, ltb, leb, List, [], ◌∷◌, ◌++◌, length, get_or, take, drop, sym, refl, ap, ◌∙◌, ap₂, mul_assoc, mul_comm, mul-le-mul_left, pow-suc, mul-add, arith, length-take-le, drop-cons, drop-drop, take-add, pow-add, ltb-true, le-leb}
use native.Mathlib.Decide.{dec_lt}
use borrow.Author.Tests.{lt-leb}
use lib.Seq.{take-length}
use Rattle.sheet.proofs.reading.Lines.{and_both}
use Rattle.scan.specs.Numbers.{bytes_of, are_bytes, code_of, word_of, Packed, WordRead}

bytes_append : (a b : List ℕ) → bytes_of (a ++ b) ≡ bytes_of a + 256 ^ length a * bytes_of b
bytes_append [] b = omega arith
bytes_append (x ∷ a) b =
    let p : 256 ^ suc (length a) * bytes_of b ≡ 256 * (256 ^ length a * bytes_of b) =
    rw (pow-suc 256 (length a), mul_comm (256 ^ length a) 256, mul_assoc 256 (256 ^ length a) (bytes_of b)) refl in
    omega (arith, p, bytes_append a b)

small_join : (p q a b : ℕ) → a < p → b < q → a + p * b < p * q
small_join p q a b h g = omega (arith, mul-le-mul_left {m = b + 1} {n = q} p (omega arith), mul-add p b 1)

pub length_drop_enough : (s : List ℕ) (i n : ℕ) → i + n ≤ length s → length (take n (drop i s)) ≡ n
length_drop_enough s i n h = length-take-le n (drop i s) (omega (arith, long s i (omega arith)))
  where
    long : (s : List ℕ) (i : ℕ) → i ≤ length s → length (drop i s) + i ≡ length s
    long s zero h = omega arith
    long [] (suc i) h = absurd (omega arith)
    long (x ∷ s) (suc i) h = omega (arith, long s i (omega arith))

-- one byte, and a part after another
pub packed_one : (s : List ℕ) (i : ℕ) → i < length s → ((j : ℕ) → get_or s j 0 < 256) → Packed s i 1 (get_or s i 0)
packed_one s i h b = record { is = rw (drop-cons s i 0 h) (omega arith); small = b i; bytes = b }

pub packed_join : (s : List ℕ) (i n m a b : ℕ) → i + n ≤ length s → Packed s i n a → Packed s (i + n) m b → Packed s i (n + m) (a + 256 ^ n * b)
packed_join s i n m a b h p q =
    let l : length (take n (drop i s)) ≡ n = length_drop_enough s i n h in
    let e : bytes_of (take (n + m) (drop i s)) ≡ bytes_of (take n (drop i s)) + 256 ^ n * bytes_of (take m (drop (i + n) s)) =
    ap bytes_of (take-add n m (drop i s)) ∙ bytes_append (take n (drop i s)) (take m (drop n (drop i s))) ∙ rw (l, drop-drop n i s) refl in
    record {
      is = rw (e, ← p.is, ← q.is) refl;
      small = rw (pow-add 256 n m) (small_join (256 ^ n) (256 ^ m) a b p.small q.small);
      bytes = p.bytes;
    }

-- ---- words

code_some : (w : List ℕ) → 1 ≤ code_of w
code_some [] = omega arith
code_some (x ∷ w) = omega (arith, code_some w)

-- no two words have the same number
code_one : (a b : List ℕ) → ((j : ℕ) → get_or a j 0 < 256) → are_bytes b ≡ true → code_of a ≡ code_of b → a ≡ b
code_one [] [] h t e = refl
code_one [] (y ∷ b) h t e = absurd (omega (arith, code_some b))
code_one (x ∷ a) [] h t e = absurd (omega (arith, code_some a))
code_one (x ∷ a) (y ∷ b) h t e = and_both (ltb y 256) (are_bytes b) t (λ u v.
    let p : x < 256 = h 0 in
    let q : y < 256 = ltb-true y 256 u in
    ap₂ ◌∷◌ (omega arith) (code_one a b (λ j. h (suc j)) v (omega arith)))

module _ (s : List ℕ) (n r : ℕ) (l : length s ≡ n) (p : Packed s 0 n r) where
  code_is : code_of s ≡ 256 ^ n + r
  code_is =
      let w : take n s ≡ s = ap (λ (i : ℕ). take i s) (sym l) ∙ take-length s in
      let q : r ≡ bytes_of s = p.is ∙ ap bytes_of w in
      bytes_append s (1 ∷ []) ∙ rw l (omega arith)

  pub word_read : (leb 2 n && leb n 7) ≡ true → (x : ℕ) → x ≡ 256 ^ n + r → WordRead s x
  unfolding word_of
  word_read t x e =
      record {
        is = rw (l, t) (e ∙ sym code_is);
        only = λ w h q. sym (code_one s w p.bytes h (code_is ∙ sym e ∙ q));
      }

pub word_none : (s : List ℕ) → (length s ≡ 2 → ⊥) → (length s ≡ 3 → ⊥) → (length s ≡ 4 → ⊥) → (length s ≡ 5 → ⊥) → (length s ≡ 6 → ⊥) → (length s ≡ 7 → ⊥) → WordRead s 0
unfolding word_of
word_none s a b c d e f = record { is = rw (go (dec_lt (length s) 2) (dec_lt 7 (length s))) refl; only = λ w h q. absurd (omega (arith, code_some w)) }
  where
    go : Dec (length s < 2) → Dec (7 < length s) → (leb 2 (length s) && leb (length s) 7) ≡ false
    go (yes x) y = rw (lt-leb 2 (length s) x) refl
    go (no x) (yes y) = rw (le-leb 2 (length s) (omega arith), lt-leb (length s) 7 y) refl
    go (no x) (no y) = absurd (omega arith)
