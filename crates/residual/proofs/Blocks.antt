-- Where the words of a residual lie, and that a row's words say what its tree is. Assumes nothing.
use mathlib.Core.Path.{◌≡◌, refl, sym, ap, ◌∙◌, subst}
use mathlib.Core.Bool.{Bool, true, false, ◌||◌, or-false, and-eq-true_iff}
use mathlib.Core.List.{List, [], ◌∷◌, ◌++◌, append_assoc}
use Prim.Native.Nat.{ℕ, zero, suc, ◌+◌, ◌-◌, ◌<◌}
use native.Mathlib.Omega.{arith}
use borrow.Author.Tests.{eqb-true, le-ltb, leb-true}
use lib.Dec.{eqb, leb}
use lib.ListN.{length, get_or, drop, length-append, get_or-append}
use lib.Seq.{get_or-append-add}
use Rattle.cedar.proofs.Tools.{no_true}
use Rattle.cedar.specs.Types.{Ty, tbool}
use Rattle.cedar.specs.Residual.{Node, err, and, or, ite, un, bin, rel, get, has, haspath, unot, uneg, uempty, uis, ulike, beq, blt, ble, badd, bsub, bmul, bcontains, ball, bany, rin, rgettag, rhastag, ty_of, can_err, can_errs, can_err_args, open', view}
use Rattle.sheet.specs.Forms.{tag, items, at, first_node}
use Rattle.sheet.specs.Content.{pattern_of}
use Rattle.sheet.specs.Answer.{size, sizes, size_args}
use Rattle.forms.specs.Tags.{AND, OR, EQ, LT, LE, ADD, SUB, MUL, IN, GETTAG, HASTAG, CONTAINS, ALL, ANY, IS, LIKE, GET, HAS, HASPATH, NOT, NEG, EMPTY}
use Rattle.residual.specs.Rows.{ROW, WORDS, lit_row, err_row, left_row, word_at, start_at}
use Rattle.residual.specs.Errs.{op_errs_def}
use Rattle.residual.specs.Trees.{Res, rlit, rerr, rleft, flat, flats, nodes_of, args_of, left_for, left_tree, suits_for, suits}

-- ---- a residual's last row, and what stands before it

unfoldable pub body_of : Res → List ℕ
body_of (rlit v y) = []
body_of (rerr y) = []
body_of (rleft n k y rs) = flats rs

unfoldable pub row_of : Res → List ℕ
row_of (rlit v y) = lit_row v y
row_of (rerr y) = err_row y
row_of (rleft n k y rs) = left_row n k (length (flats rs)) y

flat_is : (r : Res) → flat r ≡ body_of r ++ row_of r
unfolding flat body_of row_of
flat_is (rlit v y) = refl
flat_is (rerr y) = refl
flat_is (rleft n k y rs) = refl

row_four : (r : Res) → length (row_of r) ≡ ROW
unfolding row_of
row_four (rlit v y) = refl
row_four (rerr y) = refl
row_four (rleft n k y rs) = refl

pub flat_length : (r : Res) → length (flat r) ≡ length (body_of r) + ROW
flat_length r = ap length (flat_is r) ∙ length-append (body_of r) (row_of r) ∙ ap (λ (n : ℕ). length (body_of r) + n) (row_four r)

row_length : (r : Res) → get_or (row_of r) WORDS 0 ≡ length (flat r)
unfolding row_of flat body_of
row_length (rlit v y) = refl
row_length (rerr y) = refl
row_length (rleft n k y rs) = sym (length-append (flats rs) (left_row n k (length (flats rs)) y))

-- the words of the last row, wherever the residual lies
module _ (pre : List ℕ) (r : Res) (post : List ℕ) where
  abbrev log : List ℕ
  log = pre ++ (flat r ++ post)

  abbrev end : ℕ
  end = length pre + length (flat r)

  pub res_word : (j : ℕ) → j < ROW → word_at log end j ≡ get_or (row_of r) j 0
  unfolding word_at
  res_word j h =
      let n = flat_length r in
      let p : end - ROW + j ≡ length pre + (length (body_of r) + j) = omega arith in
      let q : flat r ++ post ≡ body_of r ++ (row_of r ++ post) = ap (λ (l : List ℕ). l ++ post) (flat_is r) ∙ append_assoc (body_of r) (row_of r) post in
      rw (le-ltb end ROW (omega arith), p, get_or-append-add pre (flat r ++ post) (length (body_of r) + j) 0, q, get_or-append-add (body_of r) (row_of r ++ post) j 0)
      (get_or-append (row_of r) post 0 j (omega (arith, row_four r)))

  pub res_start : start_at log end ≡ length pre
  unfolding start_at
  res_start =
      let n = flat_length r in
      rw (res_word WORDS (omega arith), row_length r, le-ltb (length (flat r)) ROW (omega arith)) (omega arith)

-- ---- properties of a node over its children, operation by operation

-- Q holds at each place, from place i on, where the test does
pub data Each (Q : ℕ → Node ℕ → Type 0) : ℕ → List Bool → List (Node ℕ) → Type 0 where
  each0 : {i : ℕ} → Each Q i [] []
  each1 : {i : ℕ} {s : Bool} {ss : List Bool} {n : Node ℕ} {ns : List (Node ℕ)} → (s ≡ true → Q i n) → Each Q (suc i) ss ns → Each Q i (s ∷ ss) (n ∷ ns)

pub each_at : {Q : ℕ → Node ℕ → Type 0} {i : ℕ} {ss : List Bool} {ns : List (Node ℕ)} (d : Node ℕ) → Each Q i ss ns → (j : ℕ) → get_or ss j false ≡ true → Q (j + i) (get_or ns j d)
each_at d each0 j e = no_true e
each_at {Q} {i} d (each1 {n = n} {ns = ns} f r) zero e =
    let z : i ≡ 0 + i = omega arith in
    subst (λ (m : ℕ). Q m n) z (f e)
each_at {Q} {i} d (each1 {n = n} {ns = ns} f r) (suc j) e =
    let z : j + suc i ≡ suc j + i = omega arith in
    subst (λ (m : ℕ). Q m (get_or ns j d)) z (each_at d r j e)

unfoldable pub any_errs : List (Node ℕ) → Bool
any_errs [] = false
any_errs (c ∷ cs) = can_err c || any_errs cs

unfoldable pub size_all : List (Node ℕ) → ℕ
size_all [] = 0
size_all (x ∷ l) = size x + size_all l

-- children by their number
pub over0 : (P : List (Node ℕ) → Type 0) (cs : List (Node ℕ)) → P [] → eqb (length cs) 0 ≡ true → P cs
over0 P [] f e = f
over0 P (x ∷ l) f e = let z = eqb-true (suc (length l)) 0 e in absurd (omega arith)

pub over1 : (P : List (Node ℕ) → Type 0) (cs : List (Node ℕ)) → ((x : Node ℕ) → P (x ∷ [])) → eqb (length cs) 1 ≡ true → P cs
over1 P [] f e = let z = eqb-true 0 1 e in absurd (omega arith)
over1 P (x ∷ []) f e = f x
over1 P (x ∷ y ∷ l) f e = let z = eqb-true (suc (suc (length l))) 1 e in absurd (omega arith)

pub over2 : (P : List (Node ℕ) → Type 0) (cs : List (Node ℕ)) → ((x y : Node ℕ) → P (x ∷ y ∷ [])) → eqb (length cs) 2 ≡ true → P cs
over2 P [] f e = let z = eqb-true 0 2 e in absurd (omega arith)
over2 P (x ∷ []) f e = let z = eqb-true 1 2 e in absurd (omega arith)
over2 P (x ∷ y ∷ []) f e = f x y
over2 P (x ∷ y ∷ w ∷ l) f e = let z = eqb-true (suc (suc (suc (length l)))) 2 e in absurd (omega arith)

pub over3 : (P : List (Node ℕ) → Type 0) (cs : List (Node ℕ)) → ((x y w : Node ℕ) → P (x ∷ y ∷ w ∷ [])) → eqb (length cs) 3 ≡ true → P cs
over3 P [] f e = let z = eqb-true 0 3 e in absurd (omega arith)
over3 P (x ∷ []) f e = let z = eqb-true 1 3 e in absurd (omega arith)
over3 P (x ∷ y ∷ []) f e = let z = eqb-true 2 3 e in absurd (omega arith)
over3 P (x ∷ y ∷ w ∷ []) f e = f x y w
over3 P (x ∷ y ∷ w ∷ v ∷ l) f e = let z = eqb-true (suc (suc (suc (suc (length l))))) 3 e in absurd (omega arith)

module _ (r : List ℕ) (k : ℕ) (T : Ty) (cs : List (Node ℕ)) where
  abbrev c : ℕ → Node ℕ
  c j = get_or cs j (err tbool)

  pub at_operation : {Q : ℕ → Node ℕ → Type 0} → Each Q first_node (suits_for r (length cs)) (left_for r k T cs c) → suits r (length cs) ≡ true → Q (tag r) (left_tree r k T cs)
  unfolding suits left_tree
  at_operation {Q} e s =
      let p = (and-eq-true_iff (leb first_node (tag r)) (get_or (suits_for r (length cs)) (tag r - first_node) false)).0 s in
      let t : tag r - first_node + first_node ≡ tag r = omega (arith, leb-true first_node (tag r) p.0) in
      let q : Q (tag r - first_node + first_node) (get_or (left_for r k T cs c) (tag r - first_node) (err tbool)) = each_at (err tbool) e (tag r - first_node) p.1 in
      rw t at q

  -- ---- errors

  or_two : (a b : Bool) → (a || b) ≡ (a || (b || false))
  or_two true b = refl
  or_two false b = sym (or-false b)

  or_three : (a b d : Bool) → (a || b || d) ≡ (a || (b || (d || false)))
  or_three true b d = refl
  or_three false b d = or_two b d

  Errs : ℕ → Node ℕ → Type 0
  Errs i n = can_err n ≡ (op_errs_def i || any_errs cs)

  one_errs : (i : ℕ) (f : Node ℕ → Node ℕ) → ((x : Node ℕ) → can_err (f x) ≡ (op_errs_def i || (can_err x || false))) → eqb (length cs) 1 ≡ true → Errs i (f (c 0))
  unfolding Errs any_errs
  one_errs i f h e = over1 (λ l. can_err (f (get_or l 0 (err tbool))) ≡ (op_errs_def i || any_errs l)) cs h e

  two_errs : (i : ℕ) (f : Node ℕ → Node ℕ → Node ℕ) → ((x y : Node ℕ) → can_err (f x y) ≡ (op_errs_def i || (can_err x || (can_err y || false)))) → eqb (length cs) 2 ≡ true → Errs i (f (c 0) (c 1))
  unfolding Errs any_errs
  two_errs i f h e = over2 (λ l. can_err (f (get_or l 0 (err tbool)) (get_or l 1 (err tbool))) ≡ (op_errs_def i || any_errs l)) cs h e

  nodes_errs : (l : List (Node ℕ)) → can_errs (nodes_of l) ≡ any_errs l
  unfolding any_errs
  nodes_errs [] = refl
  nodes_errs (x ∷ l) = ap (λ (b : Bool). can_err x || b) (nodes_errs l)

  args_errs : (ts : List ℕ) (l : List (Node ℕ)) → length ts ≡ length l + length l → can_err_args (args_of ts l) ≡ any_errs l
  unfolding any_errs
  args_errs [] [] e = refl
  args_errs [] (x ∷ l) e = absurd (omega arith)
  args_errs (t ∷ []) l e = absurd (omega arith)
  args_errs (t ∷ n ∷ ts) [] e = absurd (omega arith)
  args_errs (t ∷ n ∷ ts) (x ∷ l) e = ap (λ (b : Bool). can_err x || b) (args_errs ts l (omega arith))

  all_errs : Each Errs first_node (suits_for r (length cs)) (left_for r k T cs c)
  unfolding Errs op_errs_def any_errs
  all_errs =
      each1 (λ e. no_true e) (each1 (λ e. no_true e) (each1 (λ e. over0 (λ l. false ≡ any_errs l) cs refl e)
      (each1 (two_errs AND (and T) (λ x y. or_two (can_err x) (can_err y)))
      (each1 (two_errs OR (or T) (λ x y. or_two (can_err x) (can_err y)))
      (each1 (two_errs EQ (bin T beq) (λ x y. or_two (can_err x) (can_err y)))
      (each1 (two_errs LT (bin T blt) (λ x y. or_two (can_err x) (can_err y)))
      (each1 (two_errs LE (bin T ble) (λ x y. or_two (can_err x) (can_err y)))
      (each1 (two_errs ADD (bin T badd) (λ x y. refl))
      (each1 (two_errs SUB (bin T bsub) (λ x y. refl))
      (each1 (two_errs MUL (bin T bmul) (λ x y. refl))
      (each1 (two_errs IN (rel T rin) (λ x y. or_two (can_err x) (can_err y)))
      (each1 (two_errs GETTAG (rel T rgettag) (λ x y. refl))
      (each1 (two_errs HASTAG (rel T rhastag) (λ x y. or_two (can_err x) (can_err y)))
      (each1 (two_errs CONTAINS (bin T bcontains) (λ x y. or_two (can_err x) (can_err y)))
      (each1 (two_errs ALL (bin T ball) (λ x y. or_two (can_err x) (can_err y)))
      (each1 (two_errs ANY (bin T bany) (λ x y. or_two (can_err x) (can_err y)))
      (each1 (λ e. over3 (λ l. can_err (ite T (get_or l 0 (err tbool)) (get_or l 1 (err tbool)) (get_or l 2 (err tbool))) ≡ any_errs l) cs (λ x y w. or_three (can_err x) (can_err y) (can_err w)) e)
      (each1 (one_errs IS (un T (uis (at r 2))) (λ x. sym (or-false (can_err x))))
      (each1 (one_errs LIKE (un T (ulike (pattern_of (drop 2 (items r))))) (λ x. sym (or-false (can_err x))))
      (each1 (one_errs GET (λ x. get T x (at r 2)) (λ x. refl))
      (each1 (one_errs HAS (λ x. has T x (at r 2)) (λ x. sym (or-false (can_err x))))
      (each1 (one_errs HASPATH (λ x. haspath T x (at r (2 + k)) (drop (3 + k) (items r))) (λ x. sym (or-false (can_err x))))
      (each1 (one_errs NOT (un T unot) (λ x. sym (or-false (can_err x))))
      (each1 (one_errs NEG (un T uneg) (λ x. refl))
      (each1 (one_errs EMPTY (un T uempty) (λ x. sym (or-false (can_err x))))
      (each1 (λ e. nodes_errs cs)
      (each1 (λ e. args_errs (drop 1 (items r)) cs (eqb-true (length (drop 1 (items r))) (length cs + length cs) e)) each0)))))))))))))))))))))))))))

  pub left_errs : suits r (length cs) ≡ true → can_err (left_tree r k T cs) ≡ (op_errs_def (tag r) || any_errs cs)
  unfolding Errs
  left_errs s = at_operation {Q = Errs} all_errs s

  -- ---- what is left is open, and has its own type

  Opens : ℕ → Node ℕ → Type 0
  Opens i n = view n ≡ open'

  all_open : Each Opens first_node (suits_for r (length cs)) (left_for r k T cs c)
  unfolding Opens
  all_open = each1 (λ e. no_true e) (each1 (λ e. no_true e) (each1 (λ e. refl) (each1 (λ e. refl) (each1 (λ e. refl) (each1 (λ e. refl) (each1 (λ e. refl) (each1 (λ e. refl) (each1 (λ e. refl) (each1 (λ e. refl) (each1 (λ e. refl) (each1 (λ e. refl) (each1 (λ e. refl) (each1 (λ e. refl) (each1 (λ e. refl) (each1 (λ e. refl) (each1 (λ e. refl) (each1 (λ e. refl) (each1 (λ e. refl) (each1 (λ e. refl) (each1 (λ e. refl) (each1 (λ e. refl) (each1 (λ e. refl) (each1 (λ e. refl) (each1 (λ e. refl) (each1 (λ e. refl) (each1 (λ e. refl) (each1 (λ e. refl) each0)))))))))))))))))))))))))))

  pub left_open : suits r (length cs) ≡ true → view (left_tree r k T cs) ≡ open'
  unfolding Opens
  left_open s = at_operation {Q = Opens} all_open s

  Types : ℕ → Node ℕ → Type 0
  Types i n = ty_of n ≡ T

  all_typed : Each Types first_node (suits_for r (length cs)) (left_for r k T cs c)
  unfolding Types
  all_typed = each1 (λ e. no_true e) (each1 (λ e. no_true e) (each1 (λ e. refl) (each1 (λ e. refl) (each1 (λ e. refl) (each1 (λ e. refl) (each1 (λ e. refl) (each1 (λ e. refl) (each1 (λ e. refl) (each1 (λ e. refl) (each1 (λ e. refl) (each1 (λ e. refl) (each1 (λ e. refl) (each1 (λ e. refl) (each1 (λ e. refl) (each1 (λ e. refl) (each1 (λ e. refl) (each1 (λ e. refl) (each1 (λ e. refl) (each1 (λ e. refl) (each1 (λ e. refl) (each1 (λ e. refl) (each1 (λ e. refl) (each1 (λ e. refl) (each1 (λ e. refl) (each1 (λ e. refl) (each1 (λ e. refl) (each1 (λ e. refl) each0)))))))))))))))))))))))))))

  pub left_typed : suits r (length cs) ≡ true → ty_of (left_tree r k T cs) ≡ T
  unfolding Types
  left_typed s = at_operation {Q = Types} all_typed s

  -- ---- how many nodes there are

  sum_one : (m : ℕ) → suc m ≡ suc (m + 0)
  sum_one m = omega arith

  sum_two : (m n : ℕ) → suc (m + n) ≡ suc (m + (n + 0))
  sum_two m n = omega arith

  sum_three : (m n o : ℕ) → suc (m + n + o) ≡ suc (m + (n + (o + 0)))
  sum_three m n o = omega arith

  Sizes : ℕ → Node ℕ → Type 0
  Sizes i n = size n ≡ suc (size_all cs)

  one_size : (i : ℕ) (f : Node ℕ → Node ℕ) → ((x : Node ℕ) → size (f x) ≡ suc (size x)) → eqb (length cs) 1 ≡ true → Sizes i (f (c 0))
  unfolding Sizes size_all
  one_size i f h e = over1 (λ l. size (f (get_or l 0 (err tbool))) ≡ suc (size_all l)) cs (λ x. h x ∙ sum_one (size x)) e

  two_size : (i : ℕ) (f : Node ℕ → Node ℕ → Node ℕ) → ((x y : Node ℕ) → size (f x y) ≡ suc (size x + size y)) → eqb (length cs) 2 ≡ true → Sizes i (f (c 0) (c 1))
  unfolding Sizes size_all
  two_size i f h e = over2 (λ l. size (f (get_or l 0 (err tbool)) (get_or l 1 (err tbool))) ≡ suc (size_all l)) cs (λ x y. h x y ∙ sum_two (size x) (size y)) e

  nodes_size : (l : List (Node ℕ)) → sizes (nodes_of l) ≡ size_all l
  unfolding size_all
  nodes_size [] = refl
  nodes_size (x ∷ l) = ap (λ (m : ℕ). size x + m) (nodes_size l)

  args_size : (ts : List ℕ) (l : List (Node ℕ)) → length ts ≡ length l + length l → size_args (args_of ts l) ≡ size_all l
  unfolding size_all
  args_size [] [] e = refl
  args_size [] (x ∷ l) e = absurd (omega arith)
  args_size (t ∷ []) l e = absurd (omega arith)
  args_size (t ∷ n ∷ ts) [] e = absurd (omega arith)
  args_size (t ∷ n ∷ ts) (x ∷ l) e = ap (λ (m : ℕ). size x + m) (args_size ts l (omega arith))

  all_sizes : Each Sizes first_node (suits_for r (length cs)) (left_for r k T cs c)
  unfolding Sizes size_all
  all_sizes =
      each1 (λ e. no_true e) (each1 (λ e. no_true e) (each1 (λ e. over0 (λ l. 1 ≡ suc (size_all l)) cs refl e)
      (each1 (two_size AND (and T) (λ x y. refl))
      (each1 (two_size OR (or T) (λ x y. refl))
      (each1 (two_size EQ (bin T beq) (λ x y. refl))
      (each1 (two_size LT (bin T blt) (λ x y. refl))
      (each1 (two_size LE (bin T ble) (λ x y. refl))
      (each1 (two_size ADD (bin T badd) (λ x y. refl))
      (each1 (two_size SUB (bin T bsub) (λ x y. refl))
      (each1 (two_size MUL (bin T bmul) (λ x y. refl))
      (each1 (two_size IN (rel T rin) (λ x y. refl))
      (each1 (two_size GETTAG (rel T rgettag) (λ x y. refl))
      (each1 (two_size HASTAG (rel T rhastag) (λ x y. refl))
      (each1 (two_size CONTAINS (bin T bcontains) (λ x y. refl))
      (each1 (two_size ALL (bin T ball) (λ x y. refl))
      (each1 (two_size ANY (bin T bany) (λ x y. refl))
      (each1 (λ e. over3 (λ l. size (ite T (get_or l 0 (err tbool)) (get_or l 1 (err tbool)) (get_or l 2 (err tbool))) ≡ suc (size_all l)) cs (λ x y w. sum_three (size x) (size y) (size w)) e)
      (each1 (one_size IS (un T (uis (at r 2))) (λ x. refl))
      (each1 (one_size LIKE (un T (ulike (pattern_of (drop 2 (items r))))) (λ x. refl))
      (each1 (one_size GET (λ x. get T x (at r 2)) (λ x. refl))
      (each1 (one_size HAS (λ x. has T x (at r 2)) (λ x. refl))
      (each1 (one_size HASPATH (λ x. haspath T x (at r (2 + k)) (drop (3 + k) (items r))) (λ x. refl))
      (each1 (one_size NOT (un T unot) (λ x. refl))
      (each1 (one_size NEG (un T uneg) (λ x. refl))
      (each1 (one_size EMPTY (un T uempty) (λ x. refl))
      (each1 (λ e. ap suc (nodes_size cs))
      (each1 (λ e. ap suc (args_size (drop 1 (items r)) cs (eqb-true (length (drop 1 (items r))) (length cs + length cs) e))) each0)))))))))))))))))))))))))))

  pub left_size : suits r (length cs) ≡ true → size (left_tree r k T cs) ≡ suc (size_all cs)
  unfolding Sizes
  left_size s = at_operation {Q = Sizes} all_sizes s
