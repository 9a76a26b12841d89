-- The words of rows, and error analysis as the code does it. Assumes nothing.
use mathlib.Core.Path.{◌≡◌, refl, sym, ap, ◌∙◌}
use mathlib.Core.Bool.{Bool, true, false, cond, ◌||◌}
use mathlib.Core.List.{List}
use Prim.Native.Nat.{ℕ, zero, suc, ◌-◌, ◌≤◌, ◌<◌}
use native.Mathlib.Omega.{arith}
use native.Mathlib.Decide.{dec_le, dec_lt}
use borrow.Author.Tests.{lt-ltb, le-ltb, le-leb, lt-leb}
use lib.Dec.{leb}
use Rattle.residual.specs.Rows.{ROW, WORDS, word_at, start_at}
use Rattle.residual.specs.Errs.{op_errs_def, blocks_by, blocks_err}

-- ---- where a block begins

pub start_low : (l : List ℕ) (e : ℕ) → start_at l e ≤ e
unfolding start_at
start_low l e = omega arith

-- a block has words
pub start_less : (l : List ℕ) (p q : ℕ) → 0 < p → q ≡ start_at l p → q < p
unfolding start_at
start_less l p q h e = go (dec_lt (word_at l p WORDS) ROW)
  where
    go : Dec (word_at l p WORDS < ROW) → q < p
    go (yes k) =
        let z : q ≡ p - ROW = e ∙ rw (lt-ltb (word_at l p WORDS) ROW k) in
        omega arith
    go (no k) =
        let z : q ≡ p - word_at l p WORDS = e ∙ rw (le-ltb (word_at l p WORDS) ROW (omega arith)) in
        omega arith

pub look_less : (l : List ℕ) (start p q : ℕ) → start < p → q ≡ start_at l p → q < p
look_less l start p q h e = start_less l p q (omega arith) e

-- ---- operations

pub op_errs_law : (n : ℕ) → op_errs_def n ≡ true → (t : ℕ) → t ≡ n → true ≡ op_errs_def t
op_errs_law n p t e = sym (ap op_errs_def e ∙ p)

-- ---- blocks

module _ (f : ℕ → Bool) (l : List ℕ) (start : ℕ) where
  -- as many blocks as words are enough
  pub enough : (m n p : ℕ) → p ≤ m → p ≤ n → blocks_by f l start m p ≡ blocks_by f l start n p
  unfolding blocks_by
  enough zero zero p h k = refl
  enough zero (suc n) p h k = let z : p ≤ start = omega arith in rw (le-leb p start z)
  enough (suc m) zero p h k = let z : p ≤ start = omega arith in rw (le-leb p start z)
  enough (suc m) (suc n) p h k = go (dec_le p start) (enough m n (start_at l p))
    where
      go : Dec (p ≤ start) → (start_at l p ≤ m → start_at l p ≤ n → blocks_by f l start m (start_at l p) ≡ blocks_by f l start n (start_at l p))
          → cond (leb p start) false (f p || blocks_by f l start m (start_at l p)) ≡ cond (leb p start) false (f p || blocks_by f l start n (start_at l p))
      go (yes d) ih = rw (le-leb p start d)
      go (no d) ih =
          let s = start_less l p (start_at l p) (omega arith) refl in
          rw (lt-leb p start (omega arith)) (ap (λ (b : Bool). f p || b) (ih (omega arith) (omega arith)))

  pub blocks_none : (p : ℕ) → p ≤ start → blocks_err f l start p ≡ false
  unfolding blocks_err blocks_by
  blocks_none zero h = refl
  blocks_none (suc p) h = rw (le-leb (suc p) start h)

  pub blocks_step : (p : ℕ) → start < p → blocks_err f l start p ≡ (f p || blocks_err f l start (start_at l p))
  unfolding blocks_err blocks_by
  blocks_step zero h = absurd (omega arith)
  blocks_step (suc p) h =
      let s = start_less l (suc p) (start_at l (suc p)) (omega arith) refl in
      rw (lt-leb (suc p) start h) (ap (λ (b : Bool). f (suc p) || b) (enough p (start_at l (suc p)) (start_at l (suc p)) (omega arith) (omega arith)))
