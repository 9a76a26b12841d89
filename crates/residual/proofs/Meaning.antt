-- A block of words that is a residual's: its stage, its type and whether it can err are those of its tree. Assumes nothing.
use mathlib.Core.Path.{◌≡◌, refl, sym, ap, ◌∙◌}
use mathlib.Core.Bool.{Bool, true, false, cond, ◌||◌, or-false}
use mathlib.Core.List.{List, [], ◌++◌, append_assoc}
use Prim.Native.Nat.{ℕ, suc, ◌+◌, ◌-◌, ◌*◌, ◌≤◌}
use native.Mathlib.Omega.{arith}
use borrow.Author.Tests.{ne_eqb, le-ltb}
use lib.ListN.{length, get_or, length-append}
use Rattle.cedar.specs.Types.{Ty}
use Rattle.cedar.specs.Residual.{ty_of, can_err, Stage, value, error, open', view}
use Rattle.sheet.specs.Forms.{tag}
use Rattle.sheet.specs.Answer.{size}
use Rattle.residual.specs.Rows.{ROW, WHAT, SOURCE, ROW_TYPE, VALUE_ROW, ERROR_ROW, LEFT_ROW, left_row, word_at, stage_at, start_at}
use Rattle.residual.specs.Errs.{op_errs_def, blocks_err, row_errs, errs_by, errs}
use Rattle.residual.specs.Trees.{Res, rlit, rerr, rleft, Ress, rnil, rcons, flat, flats, count_res, suits, ty_at, tree_of, trees_of, Whole, whole_lit, whole_err, whole_left, Wholes, whole_none, whole_more}
use Rattle.residual.specs.declared.Stage.TheVariants.{Value, Error, Open}
use Rattle.residual.specs.declared.Stage.{Stage as Stageʳ}
use Rattle.residual.proofs.Steps.{blocks_none, blocks_step}
use Rattle.residual.proofs.Blocks.{row_of, body_of, size_all, left_size, flat_length, res_word, res_start, any_errs, left_errs, left_open, left_typed}

pub trees_count : (ts : List Ty) (nodes : List (List ℕ)) (rs : Ress) → length (trees_of ts nodes rs) ≡ count_res rs
unfolding trees_of
trees_count ts nodes rnil = refl
trees_count ts nodes (rcons r rs) = ap suc (trees_count ts nodes rs)

pub apart : (pre : List ℕ) (r : Res) (rs : Ress) (post : List ℕ) → pre ++ (flats (rcons r rs) ++ post) ≡ pre ++ (flat r ++ (flats rs ++ post))
unfolding flats
apart pre r rs post = ap (λ (m : List ℕ). pre ++ m) (append_assoc (flat r) (flats rs) post)

pub before_row : (n k y : ℕ) (rs : Ress) (pre post : List ℕ) → pre ++ (flat (rleft n k y rs) ++ post) ≡ pre ++ (flats rs ++ (left_row n k (length (flats rs)) y ++ post))
unfolding flat
before_row n k y rs pre post = ap (λ (m : List ℕ). pre ++ m) (append_assoc (flats rs) (left_row n k (length (flats rs)) y) post)

pub suited : (ts : List Ty) (nodes : List (List ℕ)) (n : ℕ) (rs : Ress) → suits (get_or nodes n []) (count_res rs) ≡ true → suits (get_or nodes n []) (length (trees_of ts nodes rs)) ≡ true
suited ts nodes n rs s = ap (suits (get_or nodes n [])) (trees_count ts nodes rs) ∙ s

-- ---- stage and type

abbrev pub stage_for : Stage ℕ → Stageʳ
stage_for (value v) = Value v
stage_for error = Error
stage_for open' = Open

module _ (ts : List Ty) (nodes : List (List ℕ)) where
  pub stage_is : {d : ℕ} (r : Res) → Whole ts nodes d r → (pre post : List ℕ)
      → stage_at (pre ++ (flat r ++ post)) (length pre + length (flat r)) ≡ stage_for (view (tree_of ts nodes r))
  unfolding stage_at row_of tree_of
  stage_is (rlit v y) w pre post = rw (res_word pre (rlit v y) post WHAT (omega arith), res_word pre (rlit v y) post SOURCE (omega arith))
  stage_is (rerr y) w pre post = rw (res_word pre (rerr y) post WHAT (omega arith))
  stage_is (rleft n k y rs) (whole_left t s ws) pre post =
      rw (
        res_word pre (rleft n k y rs) post WHAT (omega arith),
        ne_eqb (LEFT_ROW + k) VALUE_ROW (omega arith),
        ne_eqb (LEFT_ROW + k) ERROR_ROW (omega arith),
        left_open (get_or nodes n []) k (ty_at ts nodes y) (trees_of ts nodes rs) (suited ts nodes n rs s),
      )

  pub type_is : {d : ℕ} (r : Res) → Whole ts nodes d r → (pre post : List ℕ)
      → ty_at ts nodes (word_at (pre ++ (flat r ++ post)) (length pre + length (flat r)) ROW_TYPE) ≡ ty_of (tree_of ts nodes r)
  unfolding row_of tree_of
  type_is (rlit v y) w pre post = rw (res_word pre (rlit v y) post ROW_TYPE (omega arith))
  type_is (rerr y) w pre post = rw (res_word pre (rerr y) post ROW_TYPE (omega arith))
  type_is (rleft n k y rs) (whole_left t s ws) pre post =
      rw (res_word pre (rleft n k y rs) post ROW_TYPE (omega arith)) (sym (left_typed (get_or nodes n []) k (ty_at ts nodes y) (trees_of ts nodes rs) (suited ts nodes n rs s)))

  -- ---- errors

  lit_errs : (d v y : ℕ) (pre post : List ℕ) → errs_by nodes (pre ++ (flat (rlit v y) ++ post)) (suc d) (length pre + length (flat (rlit v y))) ≡ false
  unfolding errs_by row_errs row_of
  lit_errs d v y pre post = rw (res_word pre (rlit v y) post WHAT (omega arith))

  err_errs : (d y : ℕ) (pre post : List ℕ) → errs_by nodes (pre ++ (flat (rerr y) ++ post)) (suc d) (length pre + length (flat (rerr y))) ≡ true
  unfolding errs_by row_errs row_of
  err_errs d y pre post = rw (res_word pre (rerr y) post WHAT (omega arith))

  or_cond : (o x : Bool) → cond o true x ≡ (o || x)
  or_cond true x = refl
  or_cond false x = refl

  or_move : (a b x : Bool) → (b || (a || x)) ≡ ((a || b) || x)
  or_move true true x = refl
  or_move true false x = refl
  or_move false true x = refl
  or_move false false x = refl

  opened : (l : List ℕ) (d e t n s p : ℕ) (b : Bool) → word_at l e WHAT ≡ suc (suc t) → word_at l e SOURCE ≡ n → start_at l e ≡ s → e - ROW ≡ p → ROW ≤ e
      → blocks_err (errs_by nodes l d) l s p ≡ b → errs_by nodes l (suc d) e ≡ (op_errs_def (tag (get_or nodes n [])) || b)
  unfolding errs_by row_errs
  opened l d e t n s p b w x y z f g =
      rw (w, ne_eqb (suc (suc t)) VALUE_ROW (omega arith), ne_eqb (suc (suc t)) ERROR_ROW (omega arith), x, le-ltb e ROW f, y, z, g) (or_cond (op_errs_def (tag (get_or nodes n []))) b)

  -- a node left: by its operation, or by the blocks before its row
  left_row_law : (d n k y : ℕ) (rs : Ress) (pre post : List ℕ) (b : Bool)
      → blocks_err (errs_by nodes (pre ++ (flat (rleft n k y rs) ++ post)) d) (pre ++ (flat (rleft n k y rs) ++ post)) (length pre) (length pre + length (flats rs)) ≡ b
      → errs_by nodes (pre ++ (flat (rleft n k y rs) ++ post)) (suc d) (length pre + length (flat (rleft n k y rs))) ≡ (op_errs_def (tag (get_or nodes n [])) || b)
  unfolding row_of body_of
  left_row_law d n k y rs pre post b h =
      let m : length (flat (rleft n k y rs)) ≡ length (flats rs) + ROW = flat_length (rleft n k y rs) in
      let w : word_at (pre ++ (flat (rleft n k y rs) ++ post)) (length pre + length (flat (rleft n k y rs))) WHAT ≡ suc (suc k) = res_word pre (rleft n k y rs) post WHAT (omega arith) ∙ two k in
      opened (pre ++ (flat (rleft n k y rs) ++ post)) d (length pre + length (flat (rleft n k y rs))) k n (length pre) (length pre + length (flats rs)) b
      w (res_word pre (rleft n k y rs) post SOURCE (omega arith)) (res_start pre (rleft n k y rs) post) (omega arith) (omega arith) h
    where
      two : (j : ℕ) → LEFT_ROW + j ≡ suc (suc j)
      two j = omega arith

  -- the blocks of children, up to one that ends before them
  none_more : (f : ℕ → Bool) (l : List ℕ) (start : ℕ) (pre : List ℕ) → blocks_err f l start (length pre + length (flats rnil)) ≡ blocks_err f l start (length pre)
  unfolding flats
  none_more f l start pre = ap (blocks_err f l start) (omega arith)

  one_more : (d : ℕ) (l : List ℕ) (start : ℕ) (pre : List ℕ) (r : Res) (rs : Ress) (post : List ℕ) (x y : Bool) → l ≡ pre ++ (flat r ++ (flats rs ++ post)) → start ≤ length pre
      → errs_by nodes l d (length pre + length (flat r)) ≡ x
      → blocks_err (errs_by nodes l d) l start (length (pre ++ flat r) + length (flats rs)) ≡ (y || blocks_err (errs_by nodes l d) l start (length (pre ++ flat r)))
      → blocks_err (errs_by nodes l d) l start (length pre + length (flats (rcons r rs))) ≡ ((x || y) || blocks_err (errs_by nodes l d) l start (length pre))
  unfolding flats
  one_more d l start pre r rs post x y el h ex ey =
      let n = flat_length r in
      let a : length (pre ++ flat r) ≡ length pre + length (flat r) = length-append pre (flat r) in
      let z : length pre + length (flat r ++ flats rs) ≡ length (pre ++ flat r) + length (flats rs) = omega (arith, length-append (flat r) (flats rs)) in
      let s : start_at l (length pre + length (flat r)) ≡ length pre = ap (λ (m : List ℕ). start_at m (length pre + length (flat r))) el ∙ res_start pre r (flats rs ++ post) in
      let step : blocks_err (errs_by nodes l d) l start (length (pre ++ flat r)) ≡ (x || blocks_err (errs_by nodes l d) l start (length pre)) =
      ap (blocks_err (errs_by nodes l d) l start) a ∙ blocks_step (errs_by nodes l d) l start (length pre + length (flat r)) (omega arith)
      ∙ rw (ex, s) in
      ap (blocks_err (errs_by nodes l d) l start) z ∙ ey ∙ ap (λ (b : Bool). y || b) step ∙ or_move x y (blocks_err (errs_by nodes l d) l start (length pre))

  tree_left : (n k y : ℕ) (rs : Ress) → suits (get_or nodes n []) (count_res rs) ≡ true → can_err (tree_of ts nodes (rleft n k y rs)) ≡ (op_errs_def (tag (get_or nodes n [])) || any_errs (trees_of ts nodes rs))
  unfolding tree_of
  tree_left n k y rs s = left_errs (get_or nodes n []) k (ty_at ts nodes y) (trees_of ts nodes rs) (suited ts nodes n rs s)

  tree_lit : (v y : ℕ) → can_err (tree_of ts nodes (rlit v y)) ≡ false
  unfolding tree_of
  tree_lit v y = refl

  tree_err : (y : ℕ) → can_err (tree_of ts nodes (rerr y)) ≡ true
  unfolding tree_of
  tree_err y = refl

  trees_none : any_errs (trees_of ts nodes rnil) ≡ false
  unfolding trees_of any_errs
  trees_none = refl

  trees_more : (r : Res) (rs : Ress) → any_errs (trees_of ts nodes (rcons r rs)) ≡ (can_err (tree_of ts nodes r) || any_errs (trees_of ts nodes rs))
  unfolding trees_of any_errs
  trees_more r rs = refl

  mutual
    pub errs_is : {d : ℕ} (r : Res) → Whole ts nodes d r → (pre post : List ℕ)
        → errs_by nodes (pre ++ (flat r ++ post)) d (length pre + length (flat r)) ≡ can_err (tree_of ts nodes r)
    errs_is (rlit v y) (whole_lit {d = d} t) pre post = lit_errs d v y pre post ∙ sym (tree_lit v y)
    errs_is (rerr y) (whole_err {d = d} t) pre post = err_errs d y pre post ∙ sym (tree_err y)
    errs_is (rleft n k y rs) (whole_left {d = d} t s ws) pre post =
        left_row_law d n k y rs pre post (any_errs (trees_of ts nodes rs))
        (blocks_are rs ws (pre ++ (flat (rleft n k y rs) ++ post)) (length pre) pre (left_row n k (length (flats rs)) y ++ post) (before_row n k y rs pre post) (omega arith)
        ∙ ap (λ (b : Bool). any_errs (trees_of ts nodes rs) || b) (blocks_none (errs_by nodes (pre ++ (flat (rleft n k y rs) ++ post)) d) (pre ++ (flat (rleft n k y rs) ++ post)) (length pre) (length pre) (omega arith))
        ∙ or-false (any_errs (trees_of ts nodes rs)))
        ∙ sym (tree_left n k y rs s)

    blocks_are : {d : ℕ} (rs : Ress) → Wholes ts nodes d rs → (l : List ℕ) (start : ℕ) (pre post : List ℕ) → l ≡ pre ++ (flats rs ++ post) → start ≤ length pre
        → blocks_err (errs_by nodes l d) l start (length pre + length (flats rs)) ≡ (any_errs (trees_of ts nodes rs) || blocks_err (errs_by nodes l d) l start (length pre))
    blocks_are rnil (whole_none {d = d}) l start pre post el h =
        none_more (errs_by nodes l d) l start pre ∙ ap (λ (b : Bool). b || blocks_err (errs_by nodes l d) l start (length pre)) (sym trees_none)
    blocks_are (rcons r rs) (whole_more {d = d} w ws) l start pre post el h =
        let at : l ≡ pre ++ (flat r ++ (flats rs ++ post)) = el ∙ apart pre r rs post in
        one_more d l start pre r rs post (can_err (tree_of ts nodes r)) (any_errs (trees_of ts nodes rs)) at h
        (ap (λ (m : List ℕ). errs_by nodes m d (length pre + length (flat r))) at ∙ errs_is r w pre (flats rs ++ post))
        (blocks_are rs ws l start (pre ++ flat r) post (at ∙ sym (append_assoc pre (flat r) (flats rs ++ post))) (omega (arith, length-append pre (flat r))))
        ∙ ap (λ (b : Bool). b || blocks_err (errs_by nodes l d) l start (length pre)) (sym (trees_more r rs))

  -- "a tree is never deeper than 64"
  pub can_error_is : (r : Res) → Whole ts nodes 64 r → (pre post : List ℕ) → errs nodes (pre ++ (flat r ++ post)) (length pre + length (flat r)) ≡ can_err (tree_of ts nodes r)
  unfolding errs
  can_error_is r w pre post = errs_is r w pre post

  -- ---- a row for each node of the tree

  left_rows : (n k y m : ℕ) (rs : Ress) → suits (get_or nodes n []) (count_res rs) ≡ true → length (flats rs) ≡ m → m ≡ ROW * size_all (trees_of ts nodes rs)
      → length (flat (rleft n k y rs)) ≡ ROW * size (tree_of ts nodes (rleft n k y rs))
  unfolding tree_of body_of
  left_rows n k y m rs s e f =
      let z = flat_length (rleft n k y rs) in
      let w = left_size (get_or nodes n []) k (ty_at ts nodes y) (trees_of ts nodes rs) (suited ts nodes n rs s) in
      omega (arith, z, w, e, f)

  more_rows : (r : Res) (rs : Ress) → length (flat r) ≡ ROW * size (tree_of ts nodes r) → length (flats rs) ≡ ROW * size_all (trees_of ts nodes rs) → length (flats (rcons r rs)) ≡ ROW * size_all (trees_of ts nodes (rcons r rs))
  unfolding flats trees_of size_all
  more_rows r rs e f = length-append (flat r) (flats rs) ∙ omega (arith, e, f)

  lit_rows : (v y : ℕ) → length (flat (rlit v y)) ≡ ROW * size (tree_of ts nodes (rlit v y))
  unfolding flat tree_of
  lit_rows v y = refl

  err_rows : (y : ℕ) → length (flat (rerr y)) ≡ ROW * size (tree_of ts nodes (rerr y))
  unfolding flat tree_of
  err_rows y = refl

  no_rows : length (flats rnil) ≡ ROW * size_all (trees_of ts nodes rnil)
  unfolding flats trees_of size_all
  no_rows = refl

  mutual
    pub rows_are : {d : ℕ} (r : Res) → Whole ts nodes d r → length (flat r) ≡ ROW * size (tree_of ts nodes r)
    rows_are (rlit v y) w = lit_rows v y
    rows_are (rerr y) w = err_rows y
    rows_are (rleft n k y rs) (whole_left t s ws) = left_rows n k y (length (flats rs)) rs s refl (all_rows rs ws)

    all_rows : {d : ℕ} (rs : Ress) → Wholes ts nodes d rs → length (flats rs) ≡ ROW * size_all (trees_of ts nodes rs)
    all_rows rnil w = no_rows
    all_rows (rcons r rs) (whole_more w ws) = more_rows r rs (rows_are r w) (all_rows rs ws)
