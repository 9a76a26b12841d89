-- The lines of a log are those of the trees whose words it holds. Assumes nothing.
use mathlib.Core.Path.{◌≡◌, refl, sym, ap, ap₂, ◌∙◌}
use mathlib.Core.Bool.{true, false, and-eq-true_iff}
use mathlib.Core.List.{List, [], ◌∷◌, ◌++◌, append-nil, append_assoc}
use Prim.Native.Nat.{ℕ, zero, suc, ◌+◌, ◌-◌, ◌*◌, ◌/◌, ◌≤◌, ◌<◌}
use native.Mathlib.Omega.{arith}
use native.Mathlib.Decide.{ℕ_discrete}
use borrow.Author.Tests.{eqb-true, ne_eqb}
use lib.Dec.{leb}
use lib.ListN.{length, get_or, drop, length-append, length-drop}
use lib.Seq.{drop-drop}
use Rattle.cedar.specs.Types.{Ty}
use Rattle.cedar.specs.Residual.{Node}
use Rattle.cedar.specs.Runs.{NVerdict}
use Rattle.sheet.specs.Ascii.{ascii}
use Rattle.sheet.specs.Bytes.{digits}
use Rattle.sheet.specs.Forms.{forms, form_of, slot_at, tag_of, tag, items, first_node}
use Rattle.sheet.specs.Answer.{printed, size, root, type_number, tree_rows, residual_rows, node_lines}
use Rattle.forms.specs.Tags.{RECORD_OF}
use Rattle.residual.specs.Rows.{left_row, word_at, stage_at, start_at}
use Rattle.residual.specs.Trees.{Res, rlit, rerr, rleft, Ress, rnil, rcons, flat, flats, count_res, suits, suits_for, ty_at, left_tree, tree_of, trees_of, Whole, whole_lit, whole_err, whole_left, Wholes, whole_more}
use Rattle.residual.specs.declared.Stage.{Stage}
use Rattle.residual.specs.declared.Stage.TheVariants.{Value, Error, Open}
use Rattle.residual.proofs.Blocks.{row_of, body_of, size_all, left_size, left_open, flat_length, res_word, res_start}
use Rattle.residual.proofs.Meaning.{stage_for, stage_is, rows_are, suited, apart, before_row}
use Rattle.value.proofs.Lists.{uncons2}
use Rattle.listing.specs.Names.{op_name_def}
use Rattle.listing.specs.Nodes.{number_of, children_to, fields_to, left_items, left_said, left_at, said_at, node_line, lines_by, log_lines, said_as}
use Rattle.listing.proofs.NodeLines.{children_end, children_step, fields_end, fields_step}
use Rattle.listing.proofs.TreeRows.{rows_all, roots_all, fields_all, lines_append, said_over, left_lines}

-- ---- a line by the words of its row

module _ (nodes : List (List ℕ)) (l : List ℕ) (e y : ℕ) (ey : word_at l e 3 ≡ y) where
  line_value : (v : ℕ) → stage_at l e ≡ Value v → node_line nodes l e ≡ printed "node" (digits y ∷ ascii "lit" ∷ digits v ∷ [])
  unfolding node_line said_at
  line_value v s = ap₂ (λ (x : ℕ) (t : Stage). printed "node" (digits x ∷ said_as nodes l e t)) ey s

  line_error : stage_at l e ≡ Error → node_line nodes l e ≡ printed "node" (digits y ∷ ascii "err" ∷ [])
  unfolding node_line said_at
  line_error s = ap₂ (λ (x : ℕ) (t : Stage). printed "node" (digits x ∷ said_as nodes l e t)) ey s

  line_open : (n k start p : ℕ) → stage_at l e ≡ Open → word_at l e 1 ≡ n → word_at l e 0 ≡ 2 + k → start_at l e ≡ start → e - 4 ≡ p
      → node_line nodes l e ≡ printed "node" (digits y ∷ left_said (get_or nodes n []) k l start p)
  unfolding node_line said_at left_at
  line_open n k start p s en ek es ep =
      let z : 2 + k - 2 ≡ k = omega arith in
      ap₂ (λ (x : ℕ) (t : Stage). printed "node" (digits x ∷ said_as nodes l e t)) ey s
      ∙ ap (λ (x : ℕ). printed "node" (digits y ∷ left_said (get_or nodes x []) (word_at l e 0 - 2) l (start_at l e) (e - 4))) en
      ∙ ap (λ (x : ℕ). printed "node" (digits y ∷ left_said (get_or nodes n []) x l (start_at l e) (e - 4))) (ap (λ (x : ℕ). x - 2) ek ∙ z)
      ∙ ap₂ (λ (x w : ℕ). printed "node" (digits y ∷ left_said (get_or nodes n []) k l x w)) es ep

-- ---- as many lines more

module _ (nodes : List (List ℕ)) (l : List ℕ) where
  lines_join : (a b s : ℕ) → lines_by nodes l (a + b) s ≡ lines_by nodes l a s ++ lines_by nodes l b (s + 4 * a)
  unfolding lines_by
  lines_join zero b s =
      let z : zero + b ≡ b = omega arith in
      let w : s ≡ s + 4 * zero = omega arith in
      ap (λ (n : ℕ). lines_by nodes l n s) z ∙ ap (lines_by nodes l b) w
  lines_join (suc a) b s =
      let z : suc a + b ≡ suc (a + b) = omega arith in
      let w : s + 4 + 4 * a ≡ s + 4 * suc a = omega arith in
      ap (λ (n : ℕ). lines_by nodes l n s) z
      ∙ ap (λ (x : List (List ℕ)). node_line nodes l (s + 4) ∷ x) (lines_join a b (s + 4) ∙ ap (λ (n : ℕ). lines_by nodes l a (s + 4) ++ lines_by nodes l b n) w)

  line_once : (s : ℕ) → lines_by nodes l 1 s ≡ node_line nodes l (s + 4) ∷ []
  unfolding lines_by
  line_once s = refl

-- ---- children and fields

module _ (ts : List Ty) (nodes : List (List ℕ)) where
  abbrev tree : Res → Node ℕ
  tree r = tree_of ts nodes r

  abbrev trees : Ress → List (Node ℕ)
  trees rs = trees_of ts nodes rs

  trees_none : trees rnil ≡ []
  unfolding trees_of
  trees_none = refl

  trees_more : (r : Res) (rs : Ress) → trees (rcons r rs) ≡ tree r ∷ trees rs
  unfolding trees_of
  trees_more r rs = refl

  flats_none : length (flats rnil) ≡ 0
  unfolding flats
  flats_none = refl

  flats_more : (r : Res) (rs : Ress) → length (flats (rcons r rs)) ≡ length (flat r) + length (flats rs)
  unfolding flats
  flats_more r rs = length-append (flat r) (flats rs)

  -- the block of r, which stands in l after the m rows of pre
  module _ {d : ℕ} (r : Res) (w : Whole ts nodes d r) (l pre post : List ℕ) (m : ℕ) (el : l ≡ pre ++ (flat r ++ post)) (em : length pre ≡ 4 * m) where
    rows : length (flat r) ≡ 4 * size (tree r)
    rows = rows_are ts nodes r w

    next : length (pre ++ flat r) ≡ 4 * (m + size (tree r))
    next = length-append pre (flat r) ∙ omega (arith, rows)

    block_start : start_at l (length pre + length (flat r)) ≡ length pre
    block_start = ap (λ (x : List ℕ). start_at x (length pre + length (flat r))) el ∙ res_start pre r post

    block_number : number_of (length pre + length (flat r)) ≡ root m (tree r)
    block_number = omega (arith, rows, flat_length r)

    block_more : 0 < length (flat r)
    block_more = omega (arith, flat_length r)

    -- one child more
    child_more : (start : ℕ) → start ≤ length pre → children_to l start (length (pre ++ flat r)) ≡ children_to l start (length pre) ++ (root m (tree r) ∷ [])
    child_more start h =
        ap (children_to l start) (length-append pre (flat r)) ∙ children_step l start (length pre + length (flat r)) (omega (arith, block_more))
        ∙ ap₂ (λ (p n : ℕ). children_to l start p ++ (n ∷ [])) block_start block_number

    field_more : (row : List ℕ) (j start : ℕ) → start ≤ length pre
        → fields_to row (suc (suc j)) l start (length (pre ++ flat r)) ≡ fields_to row j l start (length pre) ++ (get_or row j 0 ∷ root m (tree r) ∷ [])
    field_more row j start h =
        ap (fields_to row (suc (suc j)) l start) (length-append pre (flat r)) ∙ fields_step row l start j (length pre + length (flat r)) (omega (arith, block_more))
        ∙ ap₂ (λ (p n : ℕ). fields_to row j l start p ++ (get_or row j 0 ∷ n ∷ [])) block_start block_number

  children_are : {d : ℕ} (rs : Ress) → Wholes ts nodes d rs → (l : List ℕ) (start m : ℕ) (pre post : List ℕ) → l ≡ pre ++ (flats rs ++ post) → start ≤ length pre → length pre ≡ 4 * m
      → children_to l start (length pre + length (flats rs)) ≡ children_to l start (length pre) ++ roots_all m (trees rs)
  children_are rnil ws l start m pre post el h em =
      let z : length pre + length (flats rnil) ≡ length pre = omega (arith, flats_none) in
      ap (children_to l start) z ∙ sym (append-nil (children_to l start (length pre))) ∙ ap (λ (x : List (Node ℕ)). children_to l start (length pre) ++ roots_all m x) (sym trees_none)
  children_are (rcons r rs) (whole_more w ws) l start m pre post el h em =
      let at : l ≡ pre ++ (flat r ++ (flats rs ++ post)) = el ∙ apart pre r rs post in
      let n : length (pre ++ flat r) ≡ length pre + length (flat r) = length-append pre (flat r) in
      let z : length pre + length (flats (rcons r rs)) ≡ length (pre ++ flat r) + length (flats rs) = omega (arith, flats_more r rs) in
      ap (children_to l start) z
      ∙ children_are rs ws l start (m + size (tree r)) (pre ++ flat r) post (at ∙ sym (append_assoc pre (flat r) (flats rs ++ post))) (omega arith) (next r w l pre (flats rs ++ post) m at em)
      ∙ ap (λ (x : List ℕ). x ++ roots_all (m + size (tree r)) (trees rs)) (child_more r w l pre (flats rs ++ post) m at em start h)
      ∙ append_assoc (children_to l start (length pre)) (root m (tree r) ∷ []) (roots_all (m + size (tree r)) (trees rs))
      ∙ ap (λ (x : List (Node ℕ)). children_to l start (length pre) ++ roots_all m x) (sym (trees_more r rs))

  fields_are : {d : ℕ} (rs : Ress) → Wholes ts nodes d rs → (row l : List ℕ) (start j i m : ℕ) (pre post : List ℕ) → l ≡ pre ++ (flats rs ++ post) → start ≤ length pre → length pre ≡ 4 * m
      → i ≡ j + (count_res rs + count_res rs) → i ≤ length row
      → fields_to row i l start (length pre + length (flats rs)) ≡ fields_to row j l start (length pre) ++ fields_all m (drop j row) (trees rs)
  fields_are rnil ws row l start j i m pre post el h em ei fit =
      let z : length pre + length (flats rnil) ≡ length pre = omega (arith, flats_none) in
      let w : i ≡ j = omega arith in
      ap₂ (λ (x p : ℕ). fields_to row x l start p) w z ∙ sym (append-nil (fields_to row j l start (length pre)))
      ∙ ap (λ (x : List ℕ). fields_to row j l start (length pre) ++ x) (sym (none (drop j row)) ∙ ap (fields_all m (drop j row)) (sym trees_none))
    where
      none : (x : List ℕ) → fields_all m x [] ≡ []
      none [] = refl
      none (t ∷ []) = refl
      none (t ∷ n ∷ x) = refl
  fields_are (rcons r rs) (whole_more w ws) row l start j i m pre post el h em ei fit =
      let at : l ≡ pre ++ (flat r ++ (flats rs ++ post)) = el ∙ apart pre r rs post in
      let n : length (pre ++ flat r) ≡ length pre + length (flat r) = length-append pre (flat r) in
      let z : length pre + length (flats (rcons r rs)) ≡ length (pre ++ flat r) + length (flats rs) = omega (arith, flats_more r rs) in
      let q : suc (suc j) ≡ j + 2 = omega arith in
      ap (fields_to row i l start) z
      ∙ fields_are rs ws row l start (suc (suc j)) i (m + size (tree r)) (pre ++ flat r) post (at ∙ sym (append_assoc pre (flat r) (flats rs ++ post))) (omega arith) (next r w l pre (flats rs ++ post) m at em) (omega arith) fit
      ∙ ap₂ (λ (x : List ℕ) (k : ℕ). x ++ fields_all (m + size (tree r)) (drop k row) (trees rs)) (field_more r w l pre (flats rs ++ post) m at em row j start h) q
      ∙ append_assoc (fields_to row j l start (length pre)) (get_or row j 0 ∷ root m (tree r) ∷ []) (fields_all (m + size (tree r)) (drop (j + 2) row) (trees rs))
      ∙ ap (λ (x : List ℕ). fields_to row j l start (length pre) ++ x)
      (sym (ap (λ (x : List ℕ). fields_all m x (tree r ∷ trees rs)) (uncons2 row j (omega arith))) ∙ ap (fields_all m (drop j row)) (sym (trees_more r rs)))

-- ---- a node that is left

-- fields matter to a record alone
fields_matter : (t : ℕ) (r : List ℕ) (k : ℕ) (cs fs fs' : List ℕ) → (t ≡ RECORD_OF → fs ≡ fs') → left_items t r k cs fs ≡ left_items t r k cs fs'
unfolding left_items
fields_matter t r k cs fs fs' h = go (ℕ_discrete t RECORD_OF)
  where
    go : Dec (t ≡ RECORD_OF) → left_items t r k cs fs ≡ left_items t r k cs fs'
    go (yes d) = ap (left_items t r k cs) (h d)
    go (no d) = rw (ne_eqb t RECORD_OF d)

-- a record has a text for each child
record_texts : (r : List ℕ) (n : ℕ) → suits r n ≡ true → tag r ≡ RECORD_OF → length (drop 1 (items r)) ≡ n + n
unfolding suits
record_texts r n s e =
    let p = (and-eq-true_iff (leb first_node (tag r)) (get_or (suits_for r n) (tag r - first_node) false)).0 s in
    let q : get_or (suits_for r n) (RECORD_OF - first_node) false ≡ true = ap (λ (t : ℕ). get_or (suits_for r n) (t - first_node) false) (sym e) ∙ p.1 in
    eqb-true (length (drop 1 (items r))) (n + n) q

body_length : (n k y : ℕ) (rs : Ress) → length (flat (rleft n k y rs)) ≡ length (flats rs) + 4
unfolding body_of
body_length n k y rs = flat_length (rleft n k y rs)

-- its words
module _ (n k y : ℕ) (rs : Ress) (l pre post : List ℕ) (el : l ≡ pre ++ (flat (rleft n k y rs) ++ post)) where
  abbrev end : ℕ
  end = length pre + length (flat (rleft n k y rs))

  left_what : word_at l end 0 ≡ 2 + k
  unfolding row_of
  left_what = ap (λ (x : List ℕ). word_at x end 0) el ∙ res_word pre (rleft n k y rs) post 0 (omega arith)

  left_source : word_at l end 1 ≡ n
  unfolding row_of
  left_source = ap (λ (x : List ℕ). word_at x end 1) el ∙ res_word pre (rleft n k y rs) post 1 (omega arith)

  left_type : word_at l end 3 ≡ y
  unfolding row_of
  left_type = ap (λ (x : List ℕ). word_at x end 3) el ∙ res_word pre (rleft n k y rs) post 3 (omega arith)

  left_start : start_at l end ≡ length pre
  left_start = ap (λ (x : List ℕ). start_at x end) el ∙ res_start pre (rleft n k y rs) post

  left_body : end - 4 ≡ length pre + length (flats rs)
  left_body = omega (arith, body_length n k y rs)

module _ (ts : List Ty) (nodes : List (List ℕ)) where
  left_stage : {d : ℕ} (n k y : ℕ) (rs : Ress) → y < length ts → suits (get_or nodes n []) (count_res rs) ≡ true → Wholes ts nodes d rs → (l pre post : List ℕ) → l ≡ pre ++ (flat (rleft n k y rs) ++ post)
      → stage_at l (length pre + length (flat (rleft n k y rs))) ≡ Open
  unfolding tree_of
  left_stage n k y rs t s ws l pre post el =
      ap (λ (x : List ℕ). stage_at x (length pre + length (flat (rleft n k y rs)))) el ∙ stage_is ts nodes (rleft n k y rs) (whole_left t s ws) pre post
      ∙ ap stage_for (left_open (get_or nodes n []) k (ty_at ts nodes y) (trees ts nodes rs) (suited ts nodes n rs s))

  -- a record's fields, all of them
  record_fields : {d : ℕ} (rs : Ress) → Wholes ts nodes d rs → (row l pre post : List ℕ) (m : ℕ) → l ≡ pre ++ (flats rs ++ post) → length pre ≡ 4 * m → length (drop 1 (items row)) ≡ count_res rs + count_res rs
      → fields_to row (length row) l (length pre) (length pre + length (flats rs)) ≡ fields_all m (drop 1 (items row)) (trees ts nodes rs)
  record_fields rnil ws row l pre post m el em et =
      fields_end row l (length pre) (length row) (length pre + length (flats rnil)) (omega (arith, flats_none ts nodes)) ∙ sym (none (drop 1 (items row))) ∙ ap (fields_all m (drop 1 (items row))) (sym (trees_none ts nodes))
    where
      none : (x : List ℕ) → fields_all m x [] ≡ []
      none [] = refl
      none (t ∷ []) = refl
      none (t ∷ n ∷ x) = refl
  record_fields (rcons r rs) ws row l pre post m el em et =
      let a = length-drop 1 (items row) in
      let b = length-drop 1 row in
      fields_are ts nodes (rcons r rs) ws row l (length pre) 2 (length row) m pre post el (omega arith) em (omega (arith, a, b, et)) (omega arith)
      ∙ ap₂ (λ (x y : List ℕ). x ++ fields_all m y (trees ts nodes (rcons r rs))) (fields_end row l (length pre) 2 (length pre) (omega arith)) (sym (drop-drop 1 1 row))

  module _ (same : (y : ℕ) → y < length ts → type_number ts (ty_at ts nodes y) ≡ y) where
    left_line : {d : ℕ} (n k y : ℕ) (rs : Ress) → y < length ts → suits (get_or nodes n []) (count_res rs) ≡ true → Wholes ts nodes d rs → (l pre post : List ℕ) (m : ℕ) → l ≡ pre ++ (flat (rleft n k y rs) ++ post) → length pre ≡ 4 * m
        → node_line nodes l (length pre + length (flat (rleft n k y rs))) ≡ printed "node" (said_over ts (get_or nodes n []) k m (ty_at ts nodes y) (tag (get_or nodes n [])) (trees ts nodes rs))
    left_line n k y rs t s ws l pre post m el em =
        let row : List ℕ = get_or nodes n [] in
        let at : l ≡ pre ++ (flats rs ++ (left_row n k (length (flats rs)) y ++ post)) = el ∙ before_row n k y rs pre post in
        let cs : children_to l (length pre) (length pre + length (flats rs)) ≡ roots_all m (trees ts nodes rs) =
        children_are ts nodes rs ws l (length pre) m pre (left_row n k (length (flats rs)) y ++ post) at (omega arith) em
        ∙ ap (λ (x : List ℕ). x ++ roots_all m (trees ts nodes rs)) (children_end l (length pre) (length pre) (omega arith)) in
        line_open nodes l (length pre + length (flat (rleft n k y rs))) y (left_type n k y rs l pre post el) n k (length pre) (length pre + length (flats rs))
        (left_stage n k y rs t s ws l pre post el) (left_source n k y rs l pre post el) (left_what n k y rs l pre post el) (left_start n k y rs l pre post el) (left_body n k y rs l pre post el)
        ∙ ap₂ (λ (i : ℕ) (x : List (List ℕ)). printed "node" (digits i ∷ ascii (op_name_def (tag row)) ∷ x)) (sym (same y t))
        (ap (λ (x : List ℕ). left_items (tag row) row k x (fields_to row (length row) l (length pre) (length pre + length (flats rs)))) cs
        ∙ fields_matter (tag row) row k (roots_all m (trees ts nodes rs)) (fields_to row (length row) l (length pre) (length pre + length (flats rs))) (fields_all m (drop 1 (items row)) (trees ts nodes rs))
        (λ e. record_fields rs ws row l pre (left_row n k (length (flats rs)) y ++ post) m at em (record_texts row (count_res rs) s e)))

    -- ---- the lines of a tree

    lit_lines : (v y : ℕ) → y < length ts → (l pre post : List ℕ) (m : ℕ) → l ≡ pre ++ (flat (rlit v y) ++ post)
        → lines_by nodes l (size (tree ts nodes (rlit v y))) (length pre) ≡ node_lines (tree_rows ts m (tree ts nodes (rlit v y)))
    unfolding tree_of flat row_of tag_of form_of forms slot_at
    lit_lines v y t l pre post m el =
        line_once nodes l (length pre)
        ∙ ap (λ (x : List ℕ). x ∷ [])
        (line_value nodes l (length pre + 4) y (ap (λ (x : List ℕ). word_at x (length pre + 4) 3) el ∙ res_word pre (rlit v y) post 3 (omega arith)) v
        (ap (λ (x : List ℕ). stage_at x (length pre + 4)) el ∙ stage_is ts nodes (rlit v y) (whole_lit {d = 0} t) pre post)
        ∙ ap (λ (i : ℕ). printed "node" (digits i ∷ ascii "lit" ∷ digits v ∷ [])) (sym (same y t)))

    err_lines : (y : ℕ) → y < length ts → (l pre post : List ℕ) (m : ℕ) → l ≡ pre ++ (flat (rerr y) ++ post)
        → lines_by nodes l (size (tree ts nodes (rerr y))) (length pre) ≡ node_lines (tree_rows ts m (tree ts nodes (rerr y)))
    unfolding tree_of flat row_of tag_of form_of forms slot_at
    err_lines y t l pre post m el =
        line_once nodes l (length pre)
        ∙ ap (λ (x : List ℕ). x ∷ [])
        (line_error nodes l (length pre + 4) y (ap (λ (x : List ℕ). word_at x (length pre + 4) 3) el ∙ res_word pre (rerr y) post 3 (omega arith))
        (ap (λ (x : List ℕ). stage_at x (length pre + 4)) el ∙ stage_is ts nodes (rerr y) (whole_err {d = 0} t) pre post)
        ∙ ap (λ (i : ℕ). printed "node" (digits i ∷ ascii "err" ∷ [])) (sym (same y t)))

    node_lines_law : {d : ℕ} (n k y : ℕ) (rs : Ress) → y < length ts → suits (get_or nodes n []) (count_res rs) ≡ true → Wholes ts nodes d rs → (l pre post : List ℕ) (m : ℕ) → l ≡ pre ++ (flat (rleft n k y rs) ++ post) → length pre ≡ 4 * m
        → lines_by nodes l (size_all (trees ts nodes rs)) (length pre) ≡ node_lines (rows_all ts m (trees ts nodes rs))
        → lines_by nodes l (size (tree ts nodes (rleft n k y rs))) (length pre) ≡ node_lines (tree_rows ts m (tree ts nodes (rleft n k y rs)))
    unfolding tree_of
    node_lines_law n k y rs t s ws l pre post m el em ih =
        let row : List ℕ = get_or nodes n [] in
        let cs : List (Node ℕ) = trees ts nodes rs in
        let z : size (left_tree row k (ty_at ts nodes y) cs) ≡ suc (size_all cs) = left_size row k (ty_at ts nodes y) cs (suited ts nodes n rs s) in
        let q : length (flat (rleft n k y rs)) ≡ 4 * size (left_tree row k (ty_at ts nodes y) cs) = rows_are ts nodes (rleft n k y rs) (whole_left t s ws) in
        let one : size (left_tree row k (ty_at ts nodes y) cs) ≡ size_all cs + 1 = omega (arith, z) in
        let e : length pre + 4 * size_all cs + 4 ≡ length pre + length (flat (rleft n k y rs)) = omega (arith, z, q) in
        ap (λ (i : ℕ). lines_by nodes l i (length pre)) one ∙ lines_join nodes l (size_all cs) 1 (length pre)
        ∙ ap₂ (λ (x x' : List (List ℕ)). x ++ x') ih
        (line_once nodes l (length pre + 4 * size_all cs) ∙ ap (λ (i : ℕ). node_line nodes l i ∷ []) e ∙ ap (λ (x : List ℕ). x ∷ []) (left_line n k y rs t s ws l pre post m el em))
        ∙ sym (left_lines ts row k m (ty_at ts nodes y) cs (suited ts nodes n rs s))

    no_lines : (l : List ℕ) (s m : ℕ) → lines_by nodes l (size_all (trees ts nodes rnil)) s ≡ node_lines (rows_all ts m (trees ts nodes rnil))
    unfolding trees_of size_all lines_by
    no_lines l s m = refl

    more_lines : {d : ℕ} (r : Res) (rs : Ress) → Whole ts nodes d r → (l pre post : List ℕ) (m : ℕ) → l ≡ pre ++ (flat r ++ (flats rs ++ post)) → length pre ≡ 4 * m
        → lines_by nodes l (size (tree ts nodes r)) (length pre) ≡ node_lines (tree_rows ts m (tree ts nodes r))
        → lines_by nodes l (size_all (trees ts nodes rs)) (length (pre ++ flat r)) ≡ node_lines (rows_all ts (m + size (tree ts nodes r)) (trees ts nodes rs))
        → lines_by nodes l (size_all (trees ts nodes (rcons r rs))) (length pre) ≡ node_lines (rows_all ts m (trees ts nodes (rcons r rs)))
    unfolding trees_of size_all
    more_lines r rs w l pre post m el em p q =
        let z : length pre + 4 * size (tree ts nodes r) ≡ length (pre ++ flat r) = omega (arith, next ts nodes r w l pre (flats rs ++ post) m el em) in
        lines_join nodes l (size (tree ts nodes r)) (size_all (trees ts nodes rs)) (length pre)
        ∙ ap₂ (λ (x x' : List (List ℕ)). x ++ x') p (ap (lines_by nodes l (size_all (trees ts nodes rs))) z ∙ q)
        ∙ sym (lines_append (tree_rows ts m (tree ts nodes r)) (rows_all ts (m + size (tree ts nodes r)) (trees ts nodes rs)))

    mutual
      tree_lines_law : {d : ℕ} (r : Res) → Whole ts nodes d r → (l pre post : List ℕ) (m : ℕ) → l ≡ pre ++ (flat r ++ post) → length pre ≡ 4 * m
          → lines_by nodes l (size (tree ts nodes r)) (length pre) ≡ node_lines (tree_rows ts m (tree ts nodes r))
      tree_lines_law (rlit v y) (whole_lit t) l pre post m el em = lit_lines v y t l pre post m el
      tree_lines_law (rerr y) (whole_err t) l pre post m el em = err_lines y t l pre post m el
      tree_lines_law (rleft n k y rs) (whole_left t s ws) l pre post m el em =
          node_lines_law n k y rs t s ws l pre post m el em (all_lines rs ws l pre (left_row n k (length (flats rs)) y ++ post) m (el ∙ before_row n k y rs pre post) em)

      all_lines : {d : ℕ} (rs : Ress) → Wholes ts nodes d rs → (l pre post : List ℕ) (m : ℕ) → l ≡ pre ++ (flats rs ++ post) → length pre ≡ 4 * m
          → lines_by nodes l (size_all (trees ts nodes rs)) (length pre) ≡ node_lines (rows_all ts m (trees ts nodes rs))
      all_lines rnil ws l pre post m el em = no_lines l (length pre) m
      all_lines (rcons r rs) (whole_more w ws) l pre post m el em =
          let at : l ≡ pre ++ (flat r ++ (flats rs ++ post)) = el ∙ apart pre r rs post in
          more_lines r rs w l pre post m at em (tree_lines_law r w l pre (flats rs ++ post) m at em)
          (all_lines rs ws l (pre ++ flat r) post (m + size (tree ts nodes r)) (at ∙ sym (append_assoc pre (flat r) (flats rs ++ post))) (next ts nodes r w l pre (flats rs ++ post) m at em))

    -- ---- all of a log

    words_all : {d : ℕ} (rs : Ress) → Wholes ts nodes d rs → length (flats rs) ≡ 4 * size_all (trees ts nodes rs)
    unfolding trees_of size_all
    words_all rnil ws = flats_none ts nodes
    words_all (rcons r rs) (whole_more w ws) = flats_more ts nodes r rs ∙ omega (arith, rows_are ts nodes r w, words_all rs ws)

    -- THE LINES OF A LOG OF RESIDUALS ARE THOSE OF THEIR TREES
    pub log_lines_law : {d : ℕ} (rs : Ress) → Wholes ts nodes d rs → log_lines nodes (flats rs) ≡ node_lines (rows_all ts 0 (trees ts nodes rs))
    unfolding log_lines
    log_lines_law rs ws =
        let z : length (flats rs) / 4 ≡ size_all (trees ts nodes rs) = omega (arith, words_all rs ws) in
        ap (λ (n : ℕ). lines_by nodes (flats rs) n 0) z ∙ all_lines rs ws (flats rs) [] [] 0 (sym (append-nil (flats rs))) refl

-- the trees under the roots of a run's lines
abbrev pub trees_in : List NVerdict → List (Node ℕ)
trees_in [] = []
trees_in (v ∷ vs) = v.root ∷ trees_in vs

pub residual_rows_law : (ts : List Ty) (n : ℕ) (ls : List NVerdict) → residual_rows ts n ls ≡ rows_all ts n (trees_in ls)
residual_rows_law ts n [] = refl
residual_rows_law ts n (v ∷ vs) = ap (λ (x : List (List ℕ)). tree_rows ts n v.root ++ x) (residual_rows_law ts (n + size v.root) vs)
