-- The rows of a tree with small numbers are rows whose lines read back.
use mathlib.Core.Path.{◌≡◌, refl, ◌∙◌, ap}
use mathlib.Core.Bool.{Bool, true, false, cond, ◌&&◌, ◌||◌}
use mathlib.Core.List.{List, [], ◌∷◌, ◌++◌}
use Prim.Native.Nat.{ℕ, suc, ◌≤◌, ◌+◌}
use native.Mathlib.Omega.{arith}
use borrow.Author.Tests.{le-leb}
use lib.Dec.{leb, eqb}
use lib.ListN.{length}
use Rattle.cedar.specs.Types.{Ty, Var, principal, action, resource, context, ty_same}
use Rattle.cedar.specs.Residual.{Item, star, piece, Node, Nodes, NodeArgs, lit, err, var, and, or, ite, un, bin, rel, get, has, haspath, set, rec, enil, econs, gnil, gcons, Un, unot, uneg, uempty, uis, ulike, Bin, beq, blt, ble, badd, bsub, bmul, bcontains, ball, bany, Rel, rin, rgettag, rhastag}
use Rattle.cedar.specs.Runs.{NVerdict}
use Rattle.sheet.specs.Forms.{forms, form_of, slot_at, counted, tag_of, mark}
use Rattle.sheet.specs.Answer.{size, sizes, size_args, root, roots, arg_roots, op, pattern_items, un_tag, un_items, bin_tag, rel_tag, var_number, type_number, tree_rows, all_rows, arg_rows, residual_rows}
use Rattle.sheet.proofs.reading.Lines.{and_both}
use Rattle.sheet.proofs.running.MadeCount.{residual_sizes}
use Rattle.sheet.proofs.answer.RowsBack.{comes, all_come, good_row, counted_groups}
use Rattle.sheet.proofs.reading.Slots.{like_slot, path_slot, set_slot, name_slot, field_slot}
use Rattle.sheet.proofs.answer.TreesBack.{SmallPattern, SmallUn, SmallTexts, Small, SmallAll, SmallArgs, Short}
use Rattle.cedar.proofs.Tools.{both}

abbrev pub all_good : List (List ℕ) → Bool
all_good [] = true
all_good (r ∷ rs) = good_row r && all_good rs

pub good_append : (a b : List (List ℕ)) → all_good a ≡ true → all_good b ≡ true → all_good (a ++ b) ≡ true
good_append [] b g h = h
good_append (r ∷ a) b g h = and_both (good_row r) (all_good a) g (λ p q. rw p (good_append a b q h))

-- ---- how many items may follow

like_counted : (n : ℕ) → counted 40 (suc (suc n)) ≡ true
unfolding counted form_of forms
like_counted n = counted_groups 2 (suc (suc n)) 1 (omega arith) (omega arith) (omega arith)

path_counted : (n : ℕ) → counted 43 (suc (suc (suc n))) ≡ true
unfolding counted form_of forms
path_counted n = counted_groups 3 (suc (suc (suc n))) 1 (omega arith) (omega arith) (omega arith)

set_counted : (n : ℕ) → counted 47 (suc n) ≡ true
unfolding counted form_of forms
set_counted n = counted_groups 1 (suc n) 1 (omega arith) (omega arith) (omega arith)

record_counted : (n : ℕ) → counted 48 (suc (n + n)) ≡ true
unfolding counted form_of forms
record_counted n = counted_groups 1 (suc (n + n)) 2 (omega arith) (omega arith) (omega arith)

-- ---- what may follow reads back

pattern_comes : (j : ℕ) (p : List Item) → SmallPattern Short p → all_come 40 (suc (suc j)) (pattern_items p) ≡ true
pattern_comes j [] h = refl
pattern_comes j (star ∷ p) h = both (ap (λ s. comes s mark) (like_slot j)) (pattern_comes (suc j) p h)
pattern_comes j (piece t ∷ p) h = both (ap (λ s. comes s t) (like_slot j) ∙ small t (eqb t mark) (le-leb t 9999 h.0)) (pattern_comes (suc j) p h.1)
  where
    small : (t : ℕ) (b : Bool) → leb t 9999 ≡ true → (b || leb t 9999) ≡ true
    small t true e = refl
    small t false e = e

texts_come : (j : ℕ) (l : List ℕ) → SmallTexts Short l → all_come 43 (suc (suc (suc j))) l ≡ true
texts_come j [] h = refl
texts_come j (t ∷ l) h = both (ap (λ s. comes s t) (path_slot j) ∙ le-leb t 9999 h.0) (texts_come (suc j) l h.1)

roots_come : (es : Nodes ℕ) (j n : ℕ) → n + sizes es ≤ 10000 → all_come 47 (suc j) (roots n es) ≡ true
roots_come enil j n h = refl
roots_come (econs e es) j n h = both (ap (λ s. comes s (root n e)) (set_slot j) ∙ le-leb (root n e) 9999 (omega arith)) (roots_come es (suc j) (n + size e) (omega arith))

abbrev how_many : NodeArgs ℕ → ℕ
how_many gnil = 0
how_many (gcons t e gs) = suc (how_many gs)

args_length : (gs : NodeArgs ℕ) (n : ℕ) → length (arg_roots n gs) ≡ how_many gs + how_many gs
args_length gnil n = refl
args_length (gcons t e gs) n = let z = args_length gs (n + size e) in omega (arith, z)

args_come : (gs : NodeArgs ℕ) (i n : ℕ) → SmallArgs Short (λ v. v ≤ 9999) gs → n + size_args gs ≤ 10000 → all_come 48 (suc (i + i)) (arg_roots n gs) ≡ true
args_come gnil i n h b = refl
args_come (gcons t e gs) i n h b = both (ap (λ s. comes s t) (name_slot i) ∙ le-leb t 9999 h.0)
    (both (ap (λ s. comes s (root n e)) (field_slot i) ∙ le-leb (root n e) 9999 (omega arith)) (ap (λ j. all_come 48 j (arg_roots (n + size e) gs)) (omega arith) ∙ args_come gs (suc i) (n + size e) h.2 (omega arith)))

-- ---- rows

type_small : (ts : List Ty) (T : Ty) → type_number ts T ≤ length ts
type_small [] T = omega arith
type_small (A ∷ ts) T = go (ty_same A T) (type_small ts T)
  where
    go : (b : Bool) → type_number ts T ≤ length ts → cond b 0 (suc (type_number ts T)) ≤ suc (length ts)
    go true h = omega arith
    go false h = omega arith

-- of all residuals
abbrev pub ResidualsSmall : List NVerdict → Type 0
ResidualsSmall [] = Unit {0}
ResidualsSmall (l ∷ ls) = Small Short (λ v. v ≤ 9999) l.root × ResidualsSmall ls

module _ (ts : List Ty) (few : length ts ≤ 9999) where
  ty : (T : Ty) → leb (type_number ts T) 9999 ≡ true
  ty T = let h = type_small ts T in le-leb (type_number ts T) 9999 (omega arith)

  small : (x : ℕ) → x ≤ 9999 → leb x 9999 ≡ true
  small x h = le-leb x 9999 h

  two_good : (T : Ty) (x z : ℕ) → x ≤ 9999 → z ≤ 9999 → (leb (type_number ts T) 9999 && (leb x 9999 && (leb z 9999 && true))) ≡ true
  two_good T x z g h = both (ty T) (both (small x g) (both (small z h) refl))

  bin_good : (T : Ty) (o : Bin) (x y : ℕ) → x ≤ 9999 → y ≤ 9999 → good_row (bin_tag o ∷ type_number ts T ∷ x ∷ y ∷ []) ≡ true
  unfolding tag_of form_of forms slot_at counted
  bin_good T beq x y g h = two_good T x y g h
  bin_good T blt x y g h = two_good T x y g h
  bin_good T ble x y g h = two_good T x y g h
  bin_good T badd x y g h = two_good T x y g h
  bin_good T bsub x y g h = two_good T x y g h
  bin_good T bmul x y g h = two_good T x y g h
  bin_good T bcontains x y g h = two_good T x y g h
  bin_good T ball x y g h = two_good T x y g h
  bin_good T bany x y g h = two_good T x y g h

  rel_good : (T : Ty) (o : Rel) (x y : ℕ) → x ≤ 9999 → y ≤ 9999 → good_row (rel_tag o ∷ type_number ts T ∷ x ∷ y ∷ []) ≡ true
  unfolding tag_of form_of forms slot_at counted
  rel_good T rin x y g h = two_good T x y g h
  rel_good T rgettag x y g h = two_good T x y g h
  rel_good T rhastag x y g h = two_good T x y g h

  un_good : (T : Ty) (u : Un) (x : ℕ) → SmallUn Short u → x ≤ 9999 → good_row (un_tag u ∷ type_number ts T ∷ x ∷ un_items u) ≡ true
  unfolding tag_of form_of forms slot_at counted
  un_good T unot x u g = both (ty T) (both (small x g) refl)
  un_good T uneg x u g = both (ty T) (both (small x g) refl)
  un_good T uempty x u g = both (ty T) (both (small x g) refl)
  un_good T (uis k) x u g = two_good T x k g u
  un_good T (ulike p) x u g = both (like_counted (length (pattern_items p))) (both (ty T) (both (small x g) (pattern_comes 0 p u)))

  var_good : (T : Ty) (x : Var) → good_row (op "var" ∷ type_number ts T ∷ var_number x ∷ []) ≡ true
  unfolding tag_of form_of forms slot_at counted
  var_good T principal = both (ty T) refl
  var_good T action = both (ty T) refl
  var_good T resource = both (ty T) refl
  var_good T context = both (ty T) refl

  one_good : (r : List ℕ) → good_row r ≡ true → all_good (r ∷ []) ≡ true
  one_good r e = both e refl

  mutual
    unfolding tag_of form_of forms slot_at counted

    pub tree_good : (e : Node ℕ) (n : ℕ) → Small Short (λ v. v ≤ 9999) e → n + size e ≤ 10000 → all_good (tree_rows ts n e) ≡ true
    tree_good (lit T v) n h b = one_good (op "lit" ∷ type_number ts T ∷ v ∷ []) (both (ty T) (both (small v h) refl))
    tree_good (err T) n h b = one_good (op "err" ∷ type_number ts T ∷ []) (both (ty T) refl)
    tree_good (var T x) n h b = one_good (op "var" ∷ type_number ts T ∷ var_number x ∷ []) (var_good T x)
    tree_good (and T x y) n h b = good_append (tree_rows ts n x ++ tree_rows ts (n + size x) y) _ (good_append (tree_rows ts n x) (tree_rows ts (n + size x) y) (tree_good x n h.0 (omega arith)) (tree_good y (n + size x) h.1 (omega arith)))
        (one_good (op "and" ∷ type_number ts T ∷ root n x ∷ root (n + size x) y ∷ []) (two_good T (root n x) (root (n + size x) y) (omega arith) (omega arith)))
    tree_good (or T x y) n h b = good_append (tree_rows ts n x ++ tree_rows ts (n + size x) y) _ (good_append (tree_rows ts n x) (tree_rows ts (n + size x) y) (tree_good x n h.0 (omega arith)) (tree_good y (n + size x) h.1 (omega arith)))
        (one_good (op "or" ∷ type_number ts T ∷ root n x ∷ root (n + size x) y ∷ []) (two_good T (root n x) (root (n + size x) y) (omega arith) (omega arith)))
    tree_good (ite T c x y) n h b = good_append (tree_rows ts n c ++ tree_rows ts (n + size c) x ++ tree_rows ts (n + size c + size x) y) _
        (good_append (tree_rows ts n c ++ tree_rows ts (n + size c) x) (tree_rows ts (n + size c + size x) y)
        (good_append (tree_rows ts n c) (tree_rows ts (n + size c) x) (tree_good c n h.0 (omega arith)) (tree_good x (n + size c) h.1 (omega arith))) (tree_good y (n + size c + size x) h.2 (omega arith)))
        (one_good (op "if" ∷ type_number ts T ∷ root n c ∷ root (n + size c) x ∷ root (n + size c + size x) y ∷ []) (both (ty T) (both (small (root n c) (omega arith)) (both (small (root (n + size c) x) (omega arith)) (both (small (root (n + size c + size x) y) (omega arith)) refl)))))
    tree_good (un T u x) n h b = good_append (tree_rows ts n x) _ (tree_good x n h.1 (omega arith)) (one_good (un_tag u ∷ type_number ts T ∷ root n x ∷ un_items u) (un_good T u (root n x) h.0 (omega arith)))
    tree_good (bin T o x y) n h b = good_append (tree_rows ts n x ++ tree_rows ts (n + size x) y) _ (good_append (tree_rows ts n x) (tree_rows ts (n + size x) y) (tree_good x n h.0 (omega arith)) (tree_good y (n + size x) h.1 (omega arith)))
        (one_good (bin_tag o ∷ type_number ts T ∷ root n x ∷ root (n + size x) y ∷ []) (bin_good T o (root n x) (root (n + size x) y) (omega arith) (omega arith)))
    tree_good (rel T o x y) n h b = good_append (tree_rows ts n x ++ tree_rows ts (n + size x) y) _ (good_append (tree_rows ts n x) (tree_rows ts (n + size x) y) (tree_good x n h.0 (omega arith)) (tree_good y (n + size x) h.1 (omega arith)))
        (one_good (rel_tag o ∷ type_number ts T ∷ root n x ∷ root (n + size x) y ∷ []) (rel_good T o (root n x) (root (n + size x) y) (omega arith) (omega arith)))
    tree_good (get T x t) n h b = good_append (tree_rows ts n x) _ (tree_good x n h.1 (omega arith)) (one_good (op "get" ∷ type_number ts T ∷ root n x ∷ t ∷ []) (two_good T (root n x) t (omega arith) h.0))
    tree_good (has T x t) n h b = good_append (tree_rows ts n x) _ (tree_good x n h.1 (omega arith)) (one_good (op "has" ∷ type_number ts T ∷ root n x ∷ t ∷ []) (two_good T (root n x) t (omega arith) h.0))
    tree_good (haspath T x t us) n h b = good_append (tree_rows ts n x) _ (tree_good x n h.1 (omega arith))
        (one_good (op "haspath" ∷ type_number ts T ∷ root n x ∷ t ∷ us) (both (path_counted (length us)) (both (ty T) (both (small (root n x) (omega arith)) (both (small t h.0.0) (texts_come 0 us h.0.1))))))
    tree_good (set T es) n h b = good_append (all_rows ts n es) _ (all_good_law es n h (omega arith)) (one_good (op "set" ∷ type_number ts T ∷ roots n es) (both (set_counted (length (roots n es))) (both (ty T) (roots_come es 0 n (omega arith)))))
    tree_good (rec T gs) n h b = good_append (arg_rows ts n gs) _ (args_good gs n h (omega arith))
        (one_good (op "record" ∷ type_number ts T ∷ arg_roots n gs) (both (ap (λ k. counted 48 (suc k)) (args_length gs n) ∙ record_counted (how_many gs)) (both (ty T) (args_come gs 0 n h (omega arith)))))

    all_good_law : (es : Nodes ℕ) (n : ℕ) → SmallAll Short (λ v. v ≤ 9999) es → n + sizes es ≤ 10000 → all_good (all_rows ts n es) ≡ true
    all_good_law enil n h b = refl
    all_good_law (econs e es) n h b = good_append (tree_rows ts n e) (all_rows ts (n + size e) es) (tree_good e n h.0 (omega arith)) (all_good_law es (n + size e) h.1 (omega arith))

    args_good : (gs : NodeArgs ℕ) (n : ℕ) → SmallArgs Short (λ v. v ≤ 9999) gs → n + size_args gs ≤ 10000 → all_good (arg_rows ts n gs) ≡ true
    args_good gnil n h b = refl
    args_good (gcons t e gs) n h b = good_append (tree_rows ts n e) (arg_rows ts (n + size e) gs) (tree_good e n h.1 (omega arith)) (args_good gs (n + size e) h.2 (omega arith))

  pub residuals_good : (ls : List NVerdict) (n : ℕ) → ResidualsSmall ls → n + residual_sizes ls ≤ 10000 → all_good (residual_rows ts n ls) ≡ true
  residuals_good [] n h b = refl
  residuals_good (l ∷ ls) n h b = good_append (tree_rows ts n l.root) (residual_rows ts (n + size l.root) ls) (tree_good l.root n h.0 (omega arith)) (residuals_good ls (n + size l.root) h.1 (omega arith))
