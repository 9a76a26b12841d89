-- What the code reads in a slice, up to the end of a log, is what the log holds. Assumes nothing.
use mathlib.Core.Path.{◌≡◌, refl, ◌∙◌, ap, ap₂}
use mathlib.Core.Bool.{Bool, false, cond, ◌||◌}
use mathlib.Core.List.{List}
use Prim.Native.Nat.{ℕ, zero, suc, ◌+◌, ◌-◌, ◌≤◌, ◌<◌}
use native.Mathlib.Omega.{arith}
use native.Mathlib.Decide.{dec_lt}
use borrow.Author.Tests.{lt-ltb, le-ltb}
use lib.Dec.{ltb, leb}
use lib.ListN.{get_or, take}
use Rattle.words.proofs.Logs.{log_read}
use Rattle.residual.specs.Rows.{word_at, stage_of, stage_at, block_words, start_at}
use Rattle.residual.specs.Errs.{blocks_by, blocks_err, row_errs, errs_by, errs}
use Rattle.residual.proofs.Steps.{start_low}

module _ (b : List ℕ) (bt : ℕ) where
  pub word_log : (e j : ℕ) → e ≤ bt → j < 4 → word_at b e j ≡ word_at (take bt b) e j
  unfolding word_at
  word_log e j h k = go (dec_lt e 4)
    where
      go : Dec (e < 4) → cond (ltb e 4) 0 (get_or b (e - 4 + j) 0) ≡ cond (ltb e 4) 0 (get_or (take bt b) (e - 4 + j) 0)
      go (yes d) = rw (lt-ltb e 4 d)
      go (no d) = rw (le-ltb e 4 (omega arith)) (log_read b bt (e - 4 + j) (omega (arith, h, k)))

  pub stage_log : (e : ℕ) → e ≤ bt → stage_at b e ≡ stage_at (take bt b) e
  unfolding stage_at
  stage_log e h = ap₂ stage_of (word_log e 0 h (omega arith)) (word_log e 1 h (omega arith))

  pub start_log : (e : ℕ) → e ≤ bt → start_at b e ≡ start_at (take bt b) e
  unfolding start_at
  start_log e h = ap (λ (n : ℕ). e - block_words n) (word_log e 2 h (omega arith))

  module _ (f g : ℕ → Bool) (same : (p : ℕ) → p ≤ bt → f p ≡ g p) where
    by_log : (start n p : ℕ) → p ≤ bt → blocks_by f b start n p ≡ blocks_by g (take bt b) start n p
    unfolding blocks_by
    by_log start zero p h = refl
    by_log start (suc n) p h =
        ap₂ (λ (x y : Bool). cond (leb p start) false (x || y)) (same p h)
        (by_log start n (start_at b p) (let z = start_low b p in omega (arith, z, h)) ∙ ap (blocks_by g (take bt b) start n) (start_log p h))

    row_log : (nodes : List (List ℕ)) (e : ℕ) → e ≤ bt → row_errs f nodes b e ≡ row_errs g nodes (take bt b) e
    unfolding row_errs blocks_err
    row_log nodes e h =
        rw (word_log e 0 h (omega arith), word_log e 1 h (omega arith), start_log e h, by_log (start_at (take bt b) e) (e - 4) (e - 4) (omega (arith, h)))

  pub errs_by_log : (nodes : List (List ℕ)) (d e : ℕ) → e ≤ bt → errs_by nodes b d e ≡ errs_by nodes (take bt b) d e
  unfolding errs_by
  errs_by_log nodes zero e h = refl
  errs_by_log nodes (suc d) e h = row_log (errs_by nodes b d) (errs_by nodes (take bt b) d) (λ p k. errs_by_log nodes d p k) nodes e h

  pub errs_log : (nodes : List (List ℕ)) (e : ℕ) → e ≤ bt → errs nodes b e ≡ errs nodes (take bt b) e
  unfolding errs
  errs_log nodes e h = errs_by_log nodes 64 e h
