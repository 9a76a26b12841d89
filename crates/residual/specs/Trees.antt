-- What a block of rows stands for: a tree whose nodes have their operation, attribute, kind, path and pattern from the sheet's nodes.
use Rattle.std.specs.Prelude.{◌≡◌, Bool, true, false, ◌&&◌, List, [], ◌∷◌, ◌++◌, ℕ, suc, ◌+◌, ◌-◌, ◌<◌, eqb, leb, length, get_or, drop}
use Rattle.cedar.specs.Types.{Ty, tbool}
use Rattle.cedar.specs.Residual.{Node, Nodes, NodeArgs, lit, err, var, and, or, ite, un, bin, rel, get, has, haspath, set, rec, enil, econs, gnil, gcons, unot, uneg, uempty, uis, ulike, beq, blt, ble, badd, bsub, bmul, bcontains, ball, bany, rin, rgettag, rhastag}
use Rattle.sheet.specs.Forms.{tag, items, at, first_node}
use Rattle.sheet.specs.Content.{var_of, pattern_of}
use Rattle.residual.specs.Rows.{lit_row, err_row, left_row}

-- a residual by its rows: a value and its type; an error and its type; a node, the steps taken, its type, and its children
mutual
  pub data Res : Type 0 where
    rlit : ℕ → ℕ → Res
    rerr : ℕ → Res
    rleft : ℕ → ℕ → ℕ → Ress → Res

  pub data Ress : Type 0 where
    rnil : Ress
    rcons : Res → Ress → Ress

-- its words
unfoldable mutual
  pub flat : Res → List ℕ
  flat (rlit v y) = lit_row v y
  flat (rerr y) = err_row y
  flat (rleft n k y rs) = flats rs ++ left_row n k (length (flats rs)) y

  pub flats : Ress → List ℕ
  flats rnil = []
  flats (rcons r rs) = flat r ++ flats rs

abbrev pub count_res : Ress → ℕ
count_res rnil = 0
count_res (rcons r rs) = suc (count_res rs)

-- ---- a node over its children

abbrev pub nodes_of : List (Node ℕ) → Nodes ℕ
nodes_of [] = enil
nodes_of (c ∷ cs) = econs c (nodes_of cs)

-- with the texts of a record's row
abbrev pub args_of : List ℕ → List (Node ℕ) → NodeArgs ℕ
args_of [] cs = gnil
args_of (t ∷ []) cs = gnil
args_of (t ∷ n ∷ l) [] = gnil
args_of (t ∷ n ∷ l) (c ∷ cs) = gcons t c (args_of l cs)

-- one tree for each operation, in the table's order: r the source node's row, k the steps taken, T the type, cs the children
abbrev pub left_for : List ℕ → ℕ → Ty → List (Node ℕ) → (ℕ → Node ℕ) → List (Node ℕ)
left_for r k T cs c =
    lit T (at r 1)
    ∷ err T
    ∷ var T (var_of (at r 1))
    ∷ and T (c 0) (c 1)
    ∷ or T (c 0) (c 1)
    ∷ bin T beq (c 0) (c 1)
    ∷ bin T blt (c 0) (c 1)
    ∷ bin T ble (c 0) (c 1)
    ∷ bin T badd (c 0) (c 1)
    ∷ bin T bsub (c 0) (c 1)
    ∷ bin T bmul (c 0) (c 1)
    ∷ rel T rin (c 0) (c 1)
    ∷ rel T rgettag (c 0) (c 1)
    ∷ rel T rhastag (c 0) (c 1)
    ∷ bin T bcontains (c 0) (c 1)
    ∷ bin T ball (c 0) (c 1)
    ∷ bin T bany (c 0) (c 1)
    ∷ ite T (c 0) (c 1) (c 2)
    ∷ un T (uis (at r 2)) (c 0)
    ∷ un T (ulike (pattern_of (drop 2 (items r)))) (c 0)
    ∷ get T (c 0) (at r 2)
    ∷ has T (c 0) (at r 2)
    ∷ haspath T (c 0) (at r (2 + k)) (drop (3 + k) (items r))
    ∷ un T unot (c 0)
    ∷ un T uneg (c 0)
    ∷ un T uempty (c 0)
    ∷ set T (nodes_of cs)
    ∷ rec T (args_of (drop 1 (items r)) cs)
    ∷ []

unfoldable pub left_tree : List ℕ → ℕ → Ty → List (Node ℕ) → Node ℕ
left_tree r k T cs = get_or (left_for r k T cs (λ j. get_or cs j (err tbool))) (tag r - first_node) (err tbool)

-- whether a node of this row may be left over n children; `lit` and `err` never are
abbrev pub suits_for : List ℕ → ℕ → List Bool
suits_for r n =
    false ∷ false ∷ eqb n 0
    ∷ eqb n 2 ∷ eqb n 2 ∷ eqb n 2 ∷ eqb n 2 ∷ eqb n 2 ∷ eqb n 2 ∷ eqb n 2 ∷ eqb n 2 ∷ eqb n 2 ∷ eqb n 2 ∷ eqb n 2 ∷ eqb n 2 ∷ eqb n 2 ∷ eqb n 2
    ∷ eqb n 3
    ∷ eqb n 1 ∷ eqb n 1 ∷ eqb n 1 ∷ eqb n 1 ∷ eqb n 1 ∷ eqb n 1 ∷ eqb n 1 ∷ eqb n 1
    ∷ true ∷ eqb (length (drop 1 (items r))) (n + n) ∷ []

unfoldable pub suits : List ℕ → ℕ → Bool
suits r n = leb first_node (tag r) && get_or (suits_for r n) (tag r - first_node) false

-- ---- the tree of a residual, over the types and the sheet's node rows

module _ (ts : List Ty) (nodes : List (List ℕ)) where
  abbrev pub ty_at : ℕ → Ty
  ty_at y = get_or ts y tbool

  unfoldable mutual
    pub tree_of : Res → Node ℕ
    tree_of (rlit v y) = lit (ty_at y) v
    tree_of (rerr y) = err (ty_at y)
    tree_of (rleft n k y rs) = left_tree (get_or nodes n []) k (ty_at y) (trees_of rs)

    pub trees_of : Ress → List (Node ℕ)
    trees_of rnil = []
    trees_of (rcons r rs) = tree_of r ∷ trees_of rs

  -- a residual of at most d levels whose types are numbers of ts and whose nodes have the children that they should
  mutual
    pub data Whole : ℕ → Res → Type 0 where
      whole_lit : {d v y : ℕ} → y < length ts → Whole (suc d) (rlit v y)
      whole_err : {d y : ℕ} → y < length ts → Whole (suc d) (rerr y)
      whole_left : {d n k y : ℕ} {rs : Ress} → y < length ts → suits (get_or nodes n []) (count_res rs) ≡ true → Wholes d rs → Whole (suc d) (rleft n k y rs)

    pub data Wholes : ℕ → Ress → Type 0 where
      whole_none : {d : ℕ} → Wholes d rnil
      whole_more : {d : ℕ} {r : Res} {rs : Ress} → Whole d r → Wholes d rs → Wholes d (rcons r rs)
