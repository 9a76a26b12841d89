-- The line of a node that is left, and those of its children, from its tree. Assumes nothing.
use mathlib.Core.Path.{◌≡◌, refl, sym, ap, ap₂, ◌∙◌, subst}
use mathlib.Core.Bool.{Bool, true, false, cond, and-eq-true_iff}
use mathlib.Core.List.{List, [], ◌∷◌, ◌++◌, append-nil, append_assoc}
use Prim.Native.Nat.{ℕ, zero, suc, ◌+◌, ◌-◌}
use native.Mathlib.Omega.{arith}
use borrow.Author.Tests.{eqb-true, leb-true}
use lib.Dec.{eqb, leb}
use lib.ListN.{length, get_or, drop}
use Rattle.cedar.proofs.Tools.{no_true}
use Rattle.cedar.specs.Types.{Ty, tbool}
use Rattle.cedar.specs.Residual.{star, piece, Node, err, var, and, or, ite, un, bin, rel, get, has, haspath, set, rec, unot, uneg, uempty, uis, ulike, beq, blt, ble, badd, bsub, bmul, bcontains, ball, bany, rin, rgettag, rhastag}
use Rattle.sheet.specs.Ascii.{ascii}
use Rattle.sheet.specs.Bytes.{digits}
use Rattle.sheet.specs.Forms.{Slot, line_or, forms, form_of, slot_at, tag_of, tag, items, at, mark, first_node, TEXT, asterisk}
use Rattle.sheet.specs.Content.{var_of, pattern_of}
use Rattle.sheet.specs.Answer.{printed, numbers, size, root, roots, arg_roots, pattern_items, var_number, type_number, tree_rows, all_rows, arg_rows, item_out, items_out, node_items, node_lines}
use Rattle.sheet.proofs.reading.Slots.{like_slot, path_slot, set_slot, name_slot, field_slot}
use Rattle.forms.specs.Tags.{LIT, VAR, AND, OR, EQ, LT, LE, ADD, SUB, MUL, IN, GETTAG, HASTAG, CONTAINS, ALL, ANY, IF, IS, LIKE, GET, HAS, HASPATH, NOT, NEG, EMPTY, SET_OF, RECORD_OF}
use Rattle.residual.specs.Trees.{nodes_of, args_of, left_for, left_tree, suits_for, suits}
use Rattle.listing.specs.Names.{op_name_def}
use Rattle.listing.specs.Nodes.{letter, pieces, rest_items, left_items}
use Rattle.residual.proofs.Blocks.{Each, each0, each1, each_at, over0, over1, over2, over3}

-- ---- the rows and the roots of trees in a row, numbered from m on

module _ (ts : List Ty) where
  abbrev pub rows_all : ℕ → List (Node ℕ) → List (List ℕ)
  rows_all m [] = []
  rows_all m (c ∷ cs) = tree_rows ts m c ++ rows_all (m + size c) cs

  nodes_rows : (m : ℕ) (cs : List (Node ℕ)) → all_rows ts m (nodes_of cs) ≡ rows_all m cs
  nodes_rows m [] = refl
  nodes_rows m (c ∷ cs) = ap (λ (l : List (List ℕ)). tree_rows ts m c ++ l) (nodes_rows (m + size c) cs)

  args_rows : (m : ℕ) (l : List ℕ) (cs : List (Node ℕ)) → length l ≡ length cs + length cs → arg_rows ts m (args_of l cs) ≡ rows_all m cs
  args_rows m [] [] e = refl
  args_rows m [] (c ∷ cs) e = absurd (omega arith)
  args_rows m (t ∷ []) cs e = absurd (omega arith)
  args_rows m (t ∷ n ∷ l) [] e = absurd (omega arith)
  args_rows m (t ∷ n ∷ l) (c ∷ cs) e = ap (λ (x : List (List ℕ)). tree_rows ts m c ++ x) (args_rows (m + size c) l cs (omega arith))

abbrev pub roots_all : ℕ → List (Node ℕ) → List ℕ
roots_all m [] = []
roots_all m (c ∷ cs) = root m c ∷ roots_all (m + size c) cs

-- each after a text of l
abbrev pub fields_all : ℕ → List ℕ → List (Node ℕ) → List ℕ
fields_all m [] cs = []
fields_all m (t ∷ []) cs = []
fields_all m (t ∷ n ∷ l) [] = []
fields_all m (t ∷ n ∷ l) (c ∷ cs) = t ∷ root m c ∷ fields_all (m + size c) l cs

nodes_roots : (m : ℕ) (cs : List (Node ℕ)) → roots m (nodes_of cs) ≡ roots_all m cs
nodes_roots m [] = refl
nodes_roots m (c ∷ cs) = ap (λ (l : List ℕ). root m c ∷ l) (nodes_roots (m + size c) cs)

args_roots : (m : ℕ) (l : List ℕ) (cs : List (Node ℕ)) → arg_roots m (args_of l cs) ≡ fields_all m l cs
args_roots m [] cs = refl
args_roots m (t ∷ []) cs = refl
args_roots m (t ∷ n ∷ l) [] = refl
args_roots m (t ∷ n ∷ l) (c ∷ cs) = ap (λ (x : List ℕ). t ∷ root m c ∷ x) (args_roots (m + size c) l cs)

-- ---- items that repeat

like_items : (j : ℕ) (l : List ℕ) → items_out LIKE (suc (suc j)) (pattern_items (pattern_of l)) ≡ pieces l
like_items j [] = refl
like_items j (x ∷ l) = go (eqb x mark) refl (like_items (suc j) l)
  where
    go : (b : Bool) → eqb x mark ≡ b → items_out LIKE (suc (suc (suc j))) (pattern_items (pattern_of l)) ≡ pieces l
        → items_out LIKE (suc (suc j)) (pattern_items (cond b star (piece x) ∷ pattern_of l)) ≡ item_out (line_or asterisk TEXT) x ∷ pieces l
    go true e ih = ap₂ (λ (s : Slot) (k : List (List ℕ)). item_out s mark ∷ k) (like_slot j) ih ∙ ap (λ (b : Bool). cond b (asterisk ∷ []) (digits x) ∷ pieces l) (sym e)
    go false e ih = ap₂ (λ (s : Slot) (k : List (List ℕ)). item_out s x ∷ k) (like_slot j) ih

path_items : (j : ℕ) (l : List ℕ) → items_out HASPATH (suc (suc (suc j))) l ≡ numbers l
path_items j [] = refl
path_items j (x ∷ l) = ap₂ (λ (s : Slot) (k : List (List ℕ)). item_out s x ∷ k) (path_slot j) (path_items (suc j) l)

set_items : (j : ℕ) (l : List ℕ) → items_out SET_OF (suc j) l ≡ numbers l
set_items j [] = refl
set_items j (x ∷ l) = ap₂ (λ (s : Slot) (k : List (List ℕ)). item_out s x ∷ k) (set_slot j) (set_items (suc j) l)

field_items : (i m : ℕ) (l : List ℕ) (cs : List (Node ℕ)) → items_out RECORD_OF (suc (i + i)) (fields_all m l cs) ≡ numbers (fields_all m l cs)
field_items i m [] cs = refl
field_items i m (t ∷ []) cs = refl
field_items i m (t ∷ n ∷ l) [] = refl
field_items i m (t ∷ n ∷ l) (c ∷ cs) =
    let z : suc (suc (suc (i + i))) ≡ suc (suc i + suc i) = omega arith in
    ap₂ (λ (s : Slot) (k : List (List ℕ)). item_out s t ∷ k) (name_slot i)
    (ap₂ (λ (s : Slot) (k : List (List ℕ)). item_out s (root m c) ∷ k) (field_slot i)
    (ap (λ (j : ℕ). items_out RECORD_OF j (fields_all (m + size c) l cs)) z ∙ field_items (suc i) (m + size c) l cs))

letter_is : (x : ℕ) → ascii (get_or ("p" ∷ "a" ∷ "r" ∷ "c" ∷ []) (var_number (var_of x)) "") ≡ letter x
letter_is zero = refl
letter_is (suc zero) = refl
letter_is (suc (suc zero)) = refl
letter_is (suc (suc (suc zero))) = refl
letter_is (suc (suc (suc (suc x)))) = refl

-- ---- lines

pub lines_append : (k l : List (List ℕ)) → node_lines (k ++ l) ≡ node_lines k ++ node_lines l
lines_append [] l = refl
lines_append (r ∷ k) l = ap (λ (x : List (List ℕ)). printed "node" (node_items r) ∷ x) (lines_append k l)

one_line : (R A : List (List ℕ)) (row : List ℕ) (said : List (List ℕ)) → R ≡ A ++ (row ∷ []) → node_items row ≡ said → node_lines R ≡ node_lines A ++ (printed "node" said ∷ [])
one_line R A row said e f = ap node_lines e ∙ lines_append A (row ∷ []) ∙ ap (λ (x : List (List ℕ)). node_lines A ++ (printed "node" x ∷ [])) f

-- ---- operation by operation

module _ (ts : List Ty) (r : List ℕ) (k m : ℕ) (T : Ty) where
  -- what the line of operation i says over the children l
  abbrev pub said_over : ℕ → List (Node ℕ) → List (List ℕ)
  said_over i l = digits (type_number ts T) ∷ ascii (op_name_def i) ∷ left_items i r k (roots_all m l) (fields_all m (drop 1 (items r)) l)

  Lines : ℕ → Node ℕ → List (Node ℕ) → Type 0
  Lines i n l = node_lines (tree_rows ts m n) ≡ node_lines (rows_all ts m l) ++ (printed "node" (said_over i l) ∷ [])

  lines1 : (i : ℕ) (x n : Node ℕ) (row : List ℕ) → tree_rows ts m n ≡ tree_rows ts m x ++ (row ∷ []) → node_items row ≡ said_over i (x ∷ []) → Lines i n (x ∷ [])
  unfolding Lines
  lines1 i x n row e f =
      one_line (tree_rows ts m n) (tree_rows ts m x ++ []) row (said_over i (x ∷ []))
      (e ∙ ap (λ (l : List (List ℕ)). l ++ (row ∷ [])) (sym (append-nil (tree_rows ts m x)))) f

  lines2 : (i : ℕ) (x y n : Node ℕ) (row : List ℕ) → tree_rows ts m n ≡ (tree_rows ts m x ++ tree_rows ts (m + size x) y) ++ (row ∷ []) → node_items row ≡ said_over i (x ∷ y ∷ []) → Lines i n (x ∷ y ∷ [])
  unfolding Lines
  lines2 i x y n row e f =
      one_line (tree_rows ts m n) (rows_all ts m (x ∷ y ∷ [])) row (said_over i (x ∷ y ∷ []))
      (e ∙ ap (λ (l : List (List ℕ)). (tree_rows ts m x ++ l) ++ (row ∷ [])) (sym (append-nil (tree_rows ts (m + size x) y)))) f

  lines3 : (i : ℕ) (x y w n : Node ℕ) (row : List ℕ) → tree_rows ts m n ≡ ((tree_rows ts m x ++ tree_rows ts (m + size x) y) ++ tree_rows ts (m + size x + size y) w) ++ (row ∷ [])
      → node_items row ≡ said_over i (x ∷ y ∷ w ∷ []) → Lines i n (x ∷ y ∷ w ∷ [])
  unfolding Lines
  lines3 i x y w n row e f =
      one_line (tree_rows ts m n) (rows_all ts m (x ∷ y ∷ w ∷ [])) row (said_over i (x ∷ y ∷ w ∷ []))
      (e ∙ ap (λ (l : List (List ℕ)). l ++ (row ∷ []))
      (append_assoc (tree_rows ts m x) (tree_rows ts (m + size x) y) (tree_rows ts (m + size x + size y) w)
      ∙ ap (λ (l : List (List ℕ)). tree_rows ts m x ++ (tree_rows ts (m + size x) y ++ l)) (sym (append-nil (tree_rows ts (m + size x + size y) w))))) f

  module _ (cs : List (Node ℕ)) where
    abbrev c : ℕ → Node ℕ
    c j = get_or cs j (err tbool)

    Said : ℕ → Node ℕ → Type 0
    Said i n = Lines i n cs

    -- an operation of two children without other items
    pair : (i : ℕ) (f : Node ℕ → Node ℕ → Node ℕ)
        → ((x y : Node ℕ) → tree_rows ts m (f x y) ≡ (tree_rows ts m x ++ tree_rows ts (m + size x) y) ++ ((i ∷ type_number ts T ∷ root m x ∷ root (m + size x) y ∷ []) ∷ []))
        → ((x y : Node ℕ) → node_items (i ∷ type_number ts T ∷ root m x ∷ root (m + size x) y ∷ []) ≡ said_over i (x ∷ y ∷ []))
        → eqb (length cs) 2 ≡ true → Said i (f (c 0) (c 1))
    unfolding Said
    pair i f h g e =
        over2 (λ l. Lines i (f (get_or l 0 (err tbool)) (get_or l 1 (err tbool))) l) cs
        (λ x y. lines2 i x y (f x y) (i ∷ type_number ts T ∷ root m x ∷ root (m + size x) y ∷ []) (h x y) (g x y)) e

    -- of one child, with other items
    single : (i : ℕ) (f : Node ℕ → Node ℕ) (more : List ℕ) → ((x : Node ℕ) → tree_rows ts m (f x) ≡ tree_rows ts m x ++ ((i ∷ type_number ts T ∷ root m x ∷ more) ∷ []))
        → ((x : Node ℕ) → node_items (i ∷ type_number ts T ∷ root m x ∷ more) ≡ said_over i (x ∷ [])) → eqb (length cs) 1 ≡ true → Said i (f (c 0))
    unfolding Said
    single i f more h g e =
        over1 (λ l. Lines i (f (get_or l 0 (err tbool))) l) cs (λ x. lines1 i x (f x) (i ∷ type_number ts T ∷ root m x ∷ more) (h x) (g x)) e

    var_said : eqb (length cs) 0 ≡ true → Said VAR (var T (var_of (at r 1)))
    unfolding Said Lines tag_of form_of forms slot_at op_name_def left_items
    var_said e = over0 (λ l. Lines VAR (var T (var_of (at r 1))) l) cs (ap (λ (x : List ℕ). printed "node" (digits (type_number ts T) ∷ ascii "var" ∷ x ∷ []) ∷ []) (letter_is (at r 1))) e

    if_said : eqb (length cs) 3 ≡ true → Said IF (ite T (c 0) (c 1) (c 2))
    unfolding Said tag_of form_of forms slot_at op_name_def left_items rest_items
    if_said e =
        over3 (λ l. Lines IF (ite T (get_or l 0 (err tbool)) (get_or l 1 (err tbool)) (get_or l 2 (err tbool))) l) cs
        (λ x y w. lines3 IF x y w (ite T x y w) (IF ∷ type_number ts T ∷ root m x ∷ root (m + size x) y ∷ root (m + size x + size y) w ∷ []) refl refl) e

    set_said : Said SET_OF (set T (nodes_of cs))
    unfolding Said Lines tag_of form_of forms op_name_def left_items rest_items
    set_said =
        one_line (tree_rows ts m (set T (nodes_of cs))) (rows_all ts m cs) (SET_OF ∷ type_number ts T ∷ roots m (nodes_of cs)) (said_over SET_OF cs)
        (ap (λ (l : List (List ℕ)). l ++ ((SET_OF ∷ type_number ts T ∷ roots m (nodes_of cs)) ∷ [])) (nodes_rows ts m cs))
        (ap (λ (l : List (List ℕ)). digits (type_number ts T) ∷ ascii "set" ∷ l) (set_items 0 (roots m (nodes_of cs)) ∙ ap numbers (nodes_roots m cs) ∙ sym (append-nil (numbers (roots_all m cs)))))

    record_said : eqb (length (drop 1 (items r))) (length cs + length cs) ≡ true → Said RECORD_OF (rec T (args_of (drop 1 (items r)) cs))
    unfolding Said Lines tag_of form_of forms op_name_def left_items
    record_said e =
        one_line (tree_rows ts m (rec T (args_of (drop 1 (items r)) cs))) (rows_all ts m cs) (RECORD_OF ∷ type_number ts T ∷ arg_roots m (args_of (drop 1 (items r)) cs)) (said_over RECORD_OF cs)
        (ap (λ (l : List (List ℕ)). l ++ ((RECORD_OF ∷ type_number ts T ∷ arg_roots m (args_of (drop 1 (items r)) cs)) ∷ []))
        (args_rows ts m (drop 1 (items r)) cs (eqb-true (length (drop 1 (items r))) (length cs + length cs) e)))
        (ap (λ (l : List (List ℕ)). digits (type_number ts T) ∷ ascii "record" ∷ l)
        (ap (items_out RECORD_OF 1) (args_roots m (drop 1 (items r)) cs) ∙ field_items 0 m (drop 1 (items r)) cs))

    all_said : Each Said LIT (suits_for r (length cs)) (left_for r k T cs c)
    unfolding tag_of form_of forms slot_at op_name_def left_items rest_items
    all_said =
        each1 (λ e. no_true e) (each1 (λ e. no_true e) (each1 var_said
        (each1 (pair AND (and T) (λ x y. refl) (λ x y. refl))
        (each1 (pair OR (or T) (λ x y. refl) (λ x y. refl))
        (each1 (pair EQ (bin T beq) (λ x y. refl) (λ x y. refl))
        (each1 (pair LT (bin T blt) (λ x y. refl) (λ x y. refl))
        (each1 (pair LE (bin T ble) (λ x y. refl) (λ x y. refl))
        (each1 (pair ADD (bin T badd) (λ x y. refl) (λ x y. refl))
        (each1 (pair SUB (bin T bsub) (λ x y. refl) (λ x y. refl))
        (each1 (pair MUL (bin T bmul) (λ x y. refl) (λ x y. refl))
        (each1 (pair IN (rel T rin) (λ x y. refl) (λ x y. refl))
        (each1 (pair GETTAG (rel T rgettag) (λ x y. refl) (λ x y. refl))
        (each1 (pair HASTAG (rel T rhastag) (λ x y. refl) (λ x y. refl))
        (each1 (pair CONTAINS (bin T bcontains) (λ x y. refl) (λ x y. refl))
        (each1 (pair ALL (bin T ball) (λ x y. refl) (λ x y. refl))
        (each1 (pair ANY (bin T bany) (λ x y. refl) (λ x y. refl))
        (each1 if_said
        (each1 (single IS (un T (uis (at r 2))) (at r 2 ∷ []) (λ x. refl) (λ x. refl))
        (each1 (single LIKE (un T (ulike (pattern_of (drop 2 (items r))))) (pattern_items (pattern_of (drop 2 (items r)))) (λ x. refl)
        (λ x. ap (λ (l : List (List ℕ)). digits (type_number ts T) ∷ ascii "like" ∷ digits (root m x) ∷ l) (like_items 0 (drop 2 (items r)))))
        (each1 (single GET (λ x. get T x (at r 2)) (at r 2 ∷ []) (λ x. refl) (λ x. refl))
        (each1 (single HAS (λ x. has T x (at r 2)) (at r 2 ∷ []) (λ x. refl) (λ x. refl))
        (each1 (single HASPATH (λ x. haspath T x (at r (2 + k)) (drop (3 + k) (items r))) (at r (2 + k) ∷ drop (3 + k) (items r)) (λ x. refl)
        (λ x. ap (λ (l : List (List ℕ)). digits (type_number ts T) ∷ ascii "haspath" ∷ digits (root m x) ∷ digits (at r (2 + k)) ∷ l) (path_items 0 (drop (3 + k) (items r)))))
        (each1 (single NOT (un T unot) [] (λ x. refl) (λ x. refl))
        (each1 (single NEG (un T uneg) [] (λ x. refl) (λ x. refl))
        (each1 (single EMPTY (un T uempty) [] (λ x. refl) (λ x. refl))
        (each1 (λ e. set_said) (each1 record_said each0)))))))))))))))))))))))))))

    -- THE LINES OF A NODE THAT IS LEFT: its children's, then its own
    pub left_lines : suits r (length cs) ≡ true → node_lines (tree_rows ts m (left_tree r k T cs)) ≡ node_lines (rows_all ts m cs) ++ (printed "node" (said_over (tag r) cs) ∷ [])
    unfolding suits left_tree Said Lines
    left_lines s =
        let p = (and-eq-true_iff (leb first_node (tag r)) (get_or (suits_for r (length cs)) (tag r - first_node) false)).0 s in
        let t : tag r - first_node + first_node ≡ tag r = omega (arith, leb-true first_node (tag r) p.0) in
        let q : Said (tag r - first_node + first_node) (get_or (left_for r k T cs c) (tag r - first_node) (err tbool)) = each_at (err tbool) all_said (tag r - first_node) p.1 in
        subst (λ (i : ℕ). Said i (get_or (left_for r k T cs c) (tag r - first_node) (err tbool))) t q
