-- The log as a stack of residuals: what a push leaves, and the block that ends at a place of the slice. Assumes nothing.
use mathlib.Core.Path.{◌≡◌, sym, ap, ◌∙◌}
use mathlib.Core.List.{List, ◌++◌, append_assoc}
use Prim.Native.Nat.{ℕ, ◌+◌, ◌-◌, ◌≤◌}
use native.Mathlib.Omega.{arith}
use lib.ListN.{length, take, drop, length-append, take-append-drop}
use lib.Seq.{length-take-le}
use Rattle.words.specs.Log.{Room, Appended}
use Rattle.words.proofs.Logs.{log_length, append_holds, append_length, appended_is}
use Rattle.cedar.specs.Types.{Ty}
use Rattle.cedar.specs.Residual.{ty_of, can_err, view}
use Rattle.residual.specs.Rows.{ROW, ROW_TYPE, lit_row, err_row, left_row, word_at, stage_at, start_at}
use Rattle.residual.specs.Errs.{errs}
use Rattle.residual.specs.Trees.{Res, rlit, rerr, rleft, Ress, flat, flats, ty_at, tree_of, Whole}
use Rattle.residual.proofs.Blocks.{res_start}
use Rattle.residual.proofs.Meaning.{stage_for, stage_is, type_is, can_error_is}

-- ---- pushes, where there is room

module _ {b b' : List ℕ} {bt e : ℕ} {row : List ℕ} (h : Room b bt) (w : Appended b bt row b' e) (fits : bt + length row ≤ 16384) where
  row_pushed : take e b' ≡ take bt b ++ row
  row_pushed = (append_holds h w).is ∙ appended_is (take bt b) row (omega (arith, log_length b bt h))

  pub end_pushed : e ≡ bt + length row
  end_pushed =
      let n : length (take e b') ≡ bt + length row = ap length row_pushed ∙ length-append (take bt b) row ∙ ap (λ (m : ℕ). m + length row) (log_length b bt h) in
      let l : length (take e b') ≡ e = log_length b' e (record { low = (append_holds h w).low; long = long }) in
      omega arith
    where
      long : 16384 ≤ length b'
      long = omega (arith, append_length w, h.long)

module _ {b b' : List ℕ} {bt e : ℕ} (h : Room b bt) where
  pub value_pushed : (v y : ℕ) → Appended b bt (lit_row v y) b' e → bt + ROW ≤ 16384 → take e b' ≡ take bt b ++ flat (rlit v y)
  unfolding flat
  value_pushed v y w fits = row_pushed h w fits

  pub error_pushed : (y : ℕ) → Appended b bt (err_row y) b' e → bt + ROW ≤ 16384 → take e b' ≡ take bt b ++ flat (rerr y)
  unfolding flat
  error_pushed y w fits = row_pushed h w fits

  -- over the blocks from start on
  pub left_pushed : (pre : List ℕ) (rs : Ress) (start n k y : ℕ) → take bt b ≡ pre ++ flats rs → start ≡ length pre
      → Appended b bt (left_row n k (bt - start) y) b' e → bt + ROW ≤ 16384 → take e b' ≡ pre ++ flat (rleft n k y rs)
  unfolding flat
  left_pushed pre rs start n k y t s w fits =
      let l : length pre + length (flats rs) ≡ bt = sym (length-append pre (flats rs)) ∙ ap length (sym t) ∙ log_length b bt h in
      let m : bt - start ≡ length (flats rs) = omega arith in
      row_pushed h w fits ∙ ap (λ (x : List ℕ). x ++ left_row n k (bt - start) y) t ∙ append_assoc pre (flats rs) (left_row n k (bt - start) y)
      ∙ ap (λ (x : ℕ). pre ++ (flats rs ++ left_row n k x y)) m

-- ---- the block that ends at e

module _ (b : List ℕ) (e : ℕ) (pre : List ℕ) (r : Res) (t : take e b ≡ pre ++ flat r) (l : e ≤ length b) where
  the_slice : b ≡ pre ++ (flat r ++ drop e b)
  the_slice = sym (take-append-drop e b) ∙ ap (λ (x : List ℕ). x ++ drop e b) t ∙ append_assoc pre (flat r) (drop e b)

  the_end : e ≡ length pre + length (flat r)
  the_end = sym (length-take-le e b l) ∙ ap length t ∙ length-append pre (flat r)

  at_block : {A : Type 0} (f : List ℕ → ℕ → A) → f b e ≡ f (pre ++ (flat r ++ drop e b)) (length pre + length (flat r))
  at_block f = ap (λ (x : List ℕ). f x e) the_slice ∙ ap (f (pre ++ (flat r ++ drop e b))) the_end

  pub block_start : start_at b e ≡ length pre
  block_start = at_block start_at ∙ res_start pre r (drop e b)

  module _ (ts : List Ty) (nodes : List (List ℕ)) where
    pub block_stage : {d : ℕ} → Whole ts nodes d r → stage_at b e ≡ stage_for (view (tree_of ts nodes r))
    block_stage w = at_block stage_at ∙ stage_is ts nodes r w pre (drop e b)

    pub block_type : {d : ℕ} → Whole ts nodes d r → ty_at ts nodes (word_at b e ROW_TYPE) ≡ ty_of (tree_of ts nodes r)
    block_type w = ap (ty_at ts nodes) (at_block (λ x i. word_at x i ROW_TYPE)) ∙ type_is ts nodes r w pre (drop e b)

    pub block_errs : Whole ts nodes 64 r → errs nodes b e ≡ can_err (tree_of ts nodes r)
    block_errs w = at_block (errs nodes) ∙ can_error_is ts nodes r w pre (drop e b)
