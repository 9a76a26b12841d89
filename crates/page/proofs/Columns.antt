-- Columns: bytes cut or filled with spaces. Assumes nothing.
use mathlib.Core.Path.{◌≡◌, sym, ap, ap₂, ◌∙◌}
use mathlib.Core.List.{List, [], ◌∷◌, ◌++◌, append-nil}
use Prim.Native.Nat.{ℕ, suc, ◌+◌, ◌-◌, ◌≤◌, ◌<◌}
use native.Mathlib.Omega.{arith}
use lib.ListN.{length, take, drop}
use lib.Seq.{take_all, take-append_seam, length-take-le}
use Rattle.sheet.specs.Bytes.{digits}
use Rattle.print.specs.declared.Out.{Out}
use Rattle.print.specs.Out.{Prints}
use Rattle.print.specs.Written.{Written}
use Rattle.print.proofs.Outs.{prints_as, prints_two}
use Rattle.print.proofs.Writing.{written_over, digits_few}
use Rattle.listing.proofs.Printing.{Printing, printing_start, printing_on, printing_end}
use Rattle.paged.specs.Page.{spaces, cell, right_cell, left_off}

-- ---- spaces

one_more : (n i : ℕ) → i < n → n - i ≡ suc (n - (i + 1))
one_more n i h = omega arith

-- those left after i of n
unfoldable pub spaces_left : ℕ → ℕ → List ℕ
spaces_left n i = spaces (n - i)

pub spaces_start : (n : ℕ) (o : Out) → Printing (spaces n) (spaces_left n 0) o o
unfolding spaces_left
spaces_start n o = let e : n ≡ n - 0 = omega arith in printing_start (spaces n) (spaces_left n 0) o (ap spaces e)

module _ (n i : ℕ) {a b : Out} (p : Printing (spaces n) (spaces_left n i) a b) where
  pub spaces_on : {c : Out} → i < n → Prints b (32 ∷ []) c → Printing (spaces n) (spaces_left n (i + 1)) a c
  unfolding spaces_left
  spaces_on h w = printing_on p (32 ∷ []) (spaces_left n (i + 1)) (ap spaces (one_more n i h)) w

  pub spaces_end : n ≤ i → Prints a (spaces n) b
  unfolding spaces_left
  spaces_end h = let e : n - i ≡ 0 = omega arith in printing_end p (ap spaces e)

-- ---- a text

no_spaces : (t : List ℕ) (n : ℕ) → n < length t → spaces (n - length t) ≡ []
no_spaces t n h = let e : n - length t ≡ 0 = omega arith in ap spaces e

-- a part of a text
pub part_cut : (t : List ℕ) (n : ℕ) → n < length t → length (take n t) ≡ n
part_cut t n h = length-take-le n t (omega arith)

module _ {a b : Out} (t : List ℕ) (n : ℕ) where
  pub cell_cut : n < length t → Prints a (take n t) b → Prints a (cell n t) b
  cell_cut h p = prints_as p (sym (ap (λ (l : List ℕ). take n t ++ l) (no_spaces t n h) ∙ append-nil (take n t)))

  pub right_cut : n < length t → Prints a (take n t) b → Prints a (right_cell n t) b
  right_cut h p = prints_as p (sym (ap (λ (l : List ℕ). l ++ take n t) (no_spaces t n h)))

  pub cell_filled : {m : Out} → length t ≤ n → Prints a t m → Prints m (spaces (n - length t)) b → Prints a (cell n t) b
  cell_filled h p q = prints_as (prints_two p q) (ap (λ (l : List ℕ). l ++ spaces (n - length t)) (sym (take_all n t h)))

  pub right_filled : {m : Out} → length t ≤ n → Prints a (spaces (n - length t)) m → Prints m t b → Prints a (right_cell n t) b
  right_filled h p q = prints_as (prints_two p q) (ap (λ (l : List ℕ). spaces (n - length t) ++ l) (sym (take_all n t h)))

-- ---- a number: its bytes in an array that has room for them

module _ (was bytes is : List ℕ) (k : ℕ) (w : Written was 0 bytes is k) (h : length bytes ≤ length was) where
  bytes_back : take k is ≡ bytes
  bytes_back = let (o, e) = written_over was bytes is k w h in ap₂ (λ (n : ℕ) (l : List ℕ). take n l) e o ∙ take-append_seam bytes (drop (length bytes) was)

  within : length is ≡ length was → k ≤ length is
  within l = let (o, e) = written_over was bytes is k w h in omega (arith, e, h, l)

module _ (was is : List ℕ) (k n : ℕ) where
  pub number_within : length was ≡ 20 → Written was 0 (digits n) is k → length is ≡ length was → k ≤ length is
  number_within l w e = within was (digits n) is k w (omega (arith, l, digits_few n)) e

  pub number_part : length was ≡ 20 → Written was 0 (digits n) is k → length is ≡ length was → length (take k is) ≡ k
  number_part l w e = length-take-le k is (number_within l w e)

  pub number_right : length was ≡ 20 → Written was 0 (digits n) is k → {a b : Out} (width : ℕ) → Prints a (right_cell width (take k is)) b → Prints a (right_cell width (digits n)) b
  number_right l w width v = prints_as v (ap (right_cell width) (bytes_back was (digits n) is k w (omega (arith, l, digits_few n))))

  pub left_within : length was ≡ 21 → Written was 0 (left_off n) is k → length is ≡ length was → k ≤ length is
  left_within l w e = within was (left_off n) is k w (omega (arith, l, digits_few n)) e

  pub left_part : length was ≡ 21 → Written was 0 (left_off n) is k → length is ≡ length was → length (take k is) ≡ k
  left_part l w e = length-take-le k is (left_within l w e)

  pub left_is : length was ≡ 21 → Written was 0 (left_off n) is k → {a b : Out} (width : ℕ) → Prints a (cell width (take k is)) b → Prints a (cell width (left_off n)) b
  left_is l w width v = prints_as v (ap (cell width) (bytes_back was (left_off n) is k w (omega (arith, l, digits_few n))))
