-- What a run makes and what evaluating its residuals may make, together: at most one value for each use of a node, and three words.
-- A node that is left makes nothing in the run; a node that gave a value is no longer there. `and`, `or` and `if` make nothing when they are evaluated.
use mathlib.Core.Path.{◌≡◌, refl}
use mathlib.Core.Bool.{Bool, true, false, cond, ◌||◌}
use mathlib.Core.Option.{Option, none, some}
use mathlib.Core.List.{List, [], ◌∷◌}
use Prim.Native.Nat.{ℕ, suc, ◌≤◌, ◌+◌, ◌*◌}
use native.Mathlib.Omega.{arith}
use lib.ListN.{length, length-append}
use Rattle.cedar.specs.Value.{on_some}
use Rattle.cedar.specs.Types.{Ty, Schema, Var}
use Rattle.cedar.specs.Residual.{Node, Nodes, NodeArgs, lit, err, var, and, or, ite, un, bin, rel, get, has, haspath, set, rec, enil, econs, gnil, gcons, ty_of, can_err, Stage, value, error, open', view, Class, ctrue, cfalse, cerror, copen, any_error, any_error_arg}
use Rattle.cedar.specs.TypeRules.{un_rule, bin_rule, rel_rule, has_rule}
use Rattle.cedar.specs.Rows.{Entries, Row, rbool, rset, rrec}
use Rattle.cedar.specs.Making.{find_row, or_add, intern, sort_n}
use Rattle.cedar.specs.Interpret.{alone}
use Rattle.cedar.specs.Numbered.{NEnv, Give, made, old, NOut, give, fails, stays, is_some, entry_of, row_at, Out, out, make, give_lit, n_settle, n_strict1, n_strict2, n_by_rule, n_class, n_and_open, n_and, n_or_open, n_or, n_if, numbers, entries, Outs, OutArgs, n_un, n_bin, n_rel, n_get, n_has, n_left, n_walk, n_path, n_var, n_interpret, n_interprets, n_interpret_args}
use Rattle.cedar.specs.Runs.{NPolicy, NVerdict, n_run}
use Rattle.cedar.proofs.Outcomes.{GiveIs, OutIs, e_some, e_entries, made_un, made_bin, made_rel, made_get, made_has}
use Rattle.sheet.specs.Answer.{size, sizes, size_args}
use Rattle.sheet.proofs.running.MadeCount.{policy_sizes}
use Rattle.sheet.proofs.running.MadeWords.{row_words, how_many, how_many_args, numbers_are, entries_are, Measure, Cheap, cheap, budget, budget_any, budget_asked}
use Rattle.tpe.proofs.Sets.{sort_short}

module _ (N : NEnv) (small : (x : Var) (r : Row) → N.request x ≡ some (made r) → row_words r ≤ 3) where
  pub budgets : Measure N (budget N small)
  budgets = record { any = budget_any N small; asked = budget_asked N small }

-- ---- what evaluating a residual may take: words, with two to spare; and how many values it may make

abbrev mutual
  pub takes : Node ℕ → ℕ
  takes (lit T v) = 2
  takes (err T) = 2
  takes (var T x) = 3
  takes (and T a b) = suc (takes a + takes b)
  takes (or T a b) = suc (takes a + takes b)
  takes (ite T c a b) = suc (takes c + takes a + takes b)
  takes (un T u a) = 3 + takes a
  takes (bin T o a b) = 3 + (takes a + takes b)
  takes (rel T o a b) = 3 + (takes a + takes b)
  takes (get T a t) = 3 + takes a
  takes (has T a t) = 3 + takes a
  takes (haspath T a t ts) = 3 + takes a
  takes (set T es) = 3 + takes_all es
  takes (rec T gs) = 3 + takes_args gs

  pub takes_all : Nodes ℕ → ℕ
  takes_all enil = 0
  takes_all (econs e es) = takes e + takes_all es

  pub takes_args : NodeArgs ℕ → ℕ
  takes_args gnil = 0
  takes_args (gcons t e gs) = takes e + takes_args gs

abbrev mutual
  pub makes : Node ℕ → ℕ
  makes (lit T v) = 0
  makes (err T) = 0
  makes (var T x) = 1
  makes (and T a b) = makes a + makes b
  makes (or T a b) = makes a + makes b
  makes (ite T c a b) = makes c + makes a + makes b
  makes (un T u a) = suc (makes a)
  makes (bin T o a b) = suc (makes a + makes b)
  makes (rel T o a b) = suc (makes a + makes b)
  makes (get T a t) = suc (makes a)
  makes (has T a t) = suc (makes a)
  makes (haspath T a t ts) = suc (makes a)
  makes (set T es) = suc (makes_all es)
  makes (rec T gs) = suc (makes_args gs)

  pub makes_all : Nodes ℕ → ℕ
  makes_all enil = 0
  makes_all (econs e es) = makes e + makes_all es

  pub makes_args : NodeArgs ℕ → ℕ
  makes_args gnil = 0
  makes_args (gcons t e gs) = makes e + makes_args gs

pub takes_least : (e : Node ℕ) → 2 ≤ takes e
takes_least (lit T v) = omega arith
takes_least (err T) = omega arith
takes_least (var T x) = omega arith
takes_least (and T a b) = let h = takes_least a in omega (arith, h)
takes_least (or T a b) = let h = takes_least a in omega (arith, h)
takes_least (ite T c a b) = let h = takes_least c in omega (arith, h)
takes_least (un T u a) = omega arith
takes_least (bin T o a b) = omega arith
takes_least (rel T o a b) = omega arith
takes_least (get T a t) = omega arith
takes_least (has T a t) = omega arith
takes_least (haspath T a t ts) = omega arith
takes_least (set T es) = omega arith
takes_least (rec T gs) = omega arith

two_least : (a b : Node ℕ) → 2 ≤ takes a + takes b
two_least a b = let h = takes_least a in omega (arith, h)

all_least : (es : Nodes ℕ) → 2 * how_many es ≤ takes_all es
all_least enil = omega arith
all_least (econs e es) = let a = takes_least e in let b = all_least es in omega (arith, a, b)

args_least : (gs : NodeArgs ℕ) → 2 * how_many_args gs ≤ takes_args gs
args_least gnil = omega arith
args_least (gcons t e gs) = let a = takes_least e in let b = args_least gs in omega (arith, a, b)

intern_one : (R : List Row) (r : Row) → length (intern R r).rows ≤ suc (length R)
intern_one R r = go (find_row r R)
  where
    go : (o : Option ℕ) → length (or_add o R r).rows ≤ suc (length R)
    go none = let z = length-append R (r ∷ []) in omega (arith, z)
    go (some n) = omega arith

-- of all policies
abbrev pub takes_in : List NVerdict → ℕ
takes_in [] = 0
takes_in (l ∷ ls) = takes l.root + takes_in ls

abbrev pub makes_in : List NVerdict → ℕ
makes_in [] = 0
makes_in (l ∷ ls) = makes l.root + makes_in ls

module _ (S : Schema) (N : NEnv) (μ : List Row → ℕ) (mu : Measure N μ) where
  -- ---- one step over operands that may take p words and make q values

  record Step (p q : ℕ) (R : List Row) (o : Out) : Type 0 where
    words : μ o.rows + takes o.tree ≤ μ R + (3 + p)
    count : length o.rows + makes o.tree ≤ length R + suc q

  module _ (p q : ℕ) (least : 2 ≤ p) (R : List Row) (T : Ty) where
    s_err : Step p q R (out R (err T))
    s_err = record { words = omega (arith, least); count = omega arith }

    s_lit : (m : ℕ) → Step p q R (out R (lit T m))
    s_lit m = record { words = omega (arith, least); count = omega arith }

    s_keep : (e : Node ℕ) → takes e ≤ 3 + p → makes e ≤ suc q → Step p q R (out R e)
    s_keep e h k = record { words = omega (arith, h); count = omega (arith, k) }

    s_make : (r : Row) → Cheap r → Step p q R (make T r R)
    s_make r h = let a = mu.any R r in let b = intern_one R r in record { words = omega (arith, a, h, least); count = omega (arith, b) }

    s_give : (g : Give) → GiveIs Cheap g → Step p q R (give_lit T g R)
    s_give (made r) h = s_make r h
    s_give (old m) h = s_lit m

    module _ (keep : Node ℕ) (tk : takes keep ≤ 3 + p) (mk : makes keep ≤ suc q) where
      s_settle : (x : NOut) → OutIs Cheap x → Step p q R (n_settle T keep x R)
      s_settle (give g) h = s_give g h
      s_settle fails h = s_err
      s_settle stays h = s_keep keep tk mk

      s_strict1 : (f : ℕ → NOut) → ((n : ℕ) → OutIs Cheap (f n)) → (s : Stage ℕ) → Step p q R (n_strict1 T keep f s R)
      s_strict1 f h (value m) = s_settle (f m) (h m)
      s_strict1 f h error = s_err
      s_strict1 f h open' = s_keep keep tk mk

      s_strict2 : (f : ℕ → ℕ → NOut) → ((m n : ℕ) → OutIs Cheap (f m n)) → (s u : Stage ℕ) → Step p q R (n_strict2 T keep f s u R)
      s_strict2 f h (value m) (value n) = s_settle (f m n) (h m n)
      s_strict2 f h (value m) error = s_err
      s_strict2 f h (value m) open' = s_keep keep tk mk
      s_strict2 f h error u = s_err
      s_strict2 f h open' (value n) = s_keep keep tk mk
      s_strict2 f h open' error = s_err
      s_strict2 f h open' open' = s_keep keep tk mk

    s_decide : (c : Bool) (o : Option Bool) (r : Out) → Step p q R r → Step p q R (n_by_rule T c o r R)
    s_decide true o r k = k
    s_decide false none r k = k
    s_decide false (some b) r k = s_make (rbool b) (omega arith)

    s_left : (a : Node ℕ) (t : ℕ) (ts : List ℕ) → takes a ≤ p → makes a ≤ q → Step p q R (n_left S N T a t ts R)
    s_left a t ts h k = s_decide (can_err a) (has_rule S t (ty_of a)) (out R (haspath T a t ts)) (s_keep (haspath T a t ts) (omega (arith, h)) (omega (arith, k)))

    s_walk : (U : ℕ → Ty) (ts : List ℕ) (t m : ℕ) → Step p q R (n_walk S N T R U ts t m)
    s_walk U [] t m = e_entries (Step p q R) (out R (err T)) s_err N R (λ k i. n_left S N T (lit (U k) m) t [] R) (λ k i. s_left (lit (U k) m) t [] least (omega arith))
        (λ d. make T (rbool (is_some (entry_of t d))) R) (λ d. s_make (rbool (is_some (entry_of t d))) (omega arith)) (row_at R m)
    s_walk U (u ∷ us) t m = e_entries (Step p q R) (out R (err T)) s_err N R (λ k i. n_left S N T (lit (U k) m) t (u ∷ us) R) (λ k i. s_left (lit (U k) m) t (u ∷ us) least (omega arith))
        (λ d. on_some (make T (rbool false) R) (entry_of t d) (n_walk S N T R alone us u)) (λ d. e_some (Step p q R) (make T (rbool false) R) (s_make (rbool false) (omega arith)) (entry_of t d) (n_walk S N T R alone us u) (λ x. s_walk alone us u x)) (row_at R m)

    s_path : (a : Node ℕ) (t : ℕ) (ts : List ℕ) → takes a ≤ p → makes a ≤ q → (s : Stage ℕ) → Step p q R (n_path S N T a t ts s R)
    s_path a t ts h k (value m) = s_walk (λ k. ty_of a) ts t m
    s_path a t ts h k error = s_err
    s_path a t ts h k open' = s_left a t ts h k

  -- ---- a tree of n nodes

  pub record Paid (n : ℕ) (R : List Row) (o : Out) : Type 0 where
    pub words : μ o.rows + takes o.tree ≤ μ R + 3 * n
    pub count : length o.rows + makes o.tree ≤ length R + n

  module _ (T : Ty) (p q : ℕ) (R : List Row) (o : Out) (f : List Row → Out) (w : Paid p R o) (v : (Q : List Row) → Paid q Q (f Q)) where
    abbrev x : Out
    x = f o.rows

    right : Paid (suc (p + q)) R x
    right =
        let l = takes_least o.tree in
        record { words = omega (arith, w.words, (v o.rows).words, l); count = omega (arith, w.count, (v o.rows).count) }

    made_left : (b : Bool) → Paid (suc (p + q)) R (make T (rbool b) o.rows)
    made_left b =
        let a = mu.any o.rows (rbool b) in let c = intern_one o.rows (rbool b) in let l = takes_least o.tree in
        record { words = omega (arith, a, w.words, l); count = omega (arith, c, w.count) }

    err_left : Paid (suc (p + q)) R (out o.rows (err T))
    err_left = let l = takes_least o.tree in record { words = omega (arith, w.words, l); count = omega (arith, w.count) }

    -- the right side is gone
    kept_left : Paid (suc (p + q)) R (out x.rows o.tree)
    kept_left = record { words = omega (arith, w.words, (v o.rows).words); count = omega (arith, w.count, (v o.rows).count) }

    kept : (e : Node ℕ) → takes e ≤ 3 + (takes o.tree + takes x.tree) → makes e ≤ suc (makes o.tree + makes x.tree) → Paid (suc (p + q)) R (out x.rows e)
    kept e h k = record { words = omega (arith, w.words, (v o.rows).words, h); count = omega (arith, w.count, (v o.rows).count, k) }

    cut : (c b : Bool) (e : Node ℕ) → takes e ≡ suc (takes o.tree + 2) → makes e ≡ makes o.tree + 0 → Paid (suc (p + q)) R (cond c (out (intern x.rows (rbool b)).rows e) (make T (rbool b) x.rows))
    cut true b e h k =
        let d = mu.any x.rows (rbool b) in let c = intern_one x.rows (rbool b) in let l = takes_least x.tree in
        record { words = omega (arith, w.words, (v o.rows).words, h, d, l); count = omega (arith, w.count, (v o.rows).count, k, c) }
    cut false b e h k =
        let d = mu.any x.rows (rbool b) in let c = intern_one x.rows (rbool b) in let l = takes_least x.tree in let j = takes_least o.tree in
        record { words = omega (arith, w.words, (v o.rows).words, d, l, j); count = omega (arith, w.count, (v o.rows).count, c) }

    p_and_open : (c : Class) → Paid (suc (p + q)) R (n_and_open T o.tree x c)
    p_and_open ctrue = kept_left
    p_and_open cfalse = cut (can_err o.tree) false (and T o.tree (lit T (intern x.rows (rbool false)).number)) refl refl
    p_and_open cerror = kept (and T o.tree x.tree) (omega arith) (omega arith)
    p_and_open copen = kept (and T o.tree x.tree) (omega arith) (omega arith)

    p_and : (c : Class) → Paid (suc (p + q)) R (n_and T o f c)
    p_and cfalse = made_left false
    p_and ctrue = right
    p_and cerror = err_left
    p_and copen = p_and_open (n_class x)

    p_or_open : (c : Class) → Paid (suc (p + q)) R (n_or_open T o.tree x c)
    p_or_open cfalse = kept_left
    p_or_open ctrue = cut (can_err o.tree) true (or T o.tree (lit T (intern x.rows (rbool true)).number)) refl refl
    p_or_open cerror = kept (or T o.tree x.tree) (omega arith) (omega arith)
    p_or_open copen = kept (or T o.tree x.tree) (omega arith) (omega arith)

    p_or : (c : Class) → Paid (suc (p + q)) R (n_or T o f c)
    p_or ctrue = made_left true
    p_or cfalse = right
    p_or cerror = err_left
    p_or copen = p_or_open (n_class x)

    p_two : (r : Out) → Step (takes o.tree + takes x.tree) (makes o.tree + makes x.tree) x.rows r → Paid (suc (p + q)) R r
    p_two r k = record { words = omega (arith, w.words, (v o.rows).words, k.words); count = omega (arith, w.count, (v o.rows).count, k.count) }

  p_if : (T : Ty) (n p q : ℕ) (R : List Row) (o : Out) (f g : List Row → Out) → Paid n R o → ((Q : List Row) → Paid p Q (f Q)) → ((Q : List Row) → Paid q Q (g Q)) → (c : Class) → Paid (suc (n + p + q)) R (n_if T o f g c)
  p_if T n p q R o f g w v u ctrue = let a = v o.rows in record { words = omega (arith, a.words, w.words); count = omega (arith, a.count, w.count) }
  p_if T n p q R o f g w v u cfalse = let a = u o.rows in record { words = omega (arith, a.words, w.words); count = omega (arith, a.count, w.count) }
  p_if T n p q R o f g w v u cerror = let l = takes_least o.tree in record { words = omega (arith, w.words, l); count = omega (arith, w.count) }
  p_if T n p q R o f g w v u copen = let a = v o.rows in let b = u (f o.rows).rows in record { words = omega (arith, a.words, b.words, w.words); count = omega (arith, a.count, b.count, w.count) }

  p_one : (n : ℕ) (R : List Row) (o r : Out) → Paid n R o → Step (takes o.tree) (makes o.tree) o.rows r → Paid (suc n) R r
  p_one n R o r w k = record { words = omega (arith, w.words, k.words); count = omega (arith, w.count, k.count) }

  p_var : (T : Ty) (x : Var) (R : List Row) (o : Option Give) → N.request x ≡ o → Paid 1 R (n_var S N T (var T x) o R)
  p_var T x R none e = record { words = omega arith; count = omega arith }
  p_var T x R (some (made r)) e = let a = mu.asked x r e R in let b = intern_one R r in record { words = omega (arith, a); count = omega (arith, b) }
  p_var T x R (some (old n)) e = record { words = omega arith; count = omega arith }

  record AllPaid (n : ℕ) (R : List Row) (o : Outs) : Type 0 where
    words : μ o.rows + takes_all o.trees ≤ μ R + 3 * n
    count : length o.rows + makes_all o.trees ≤ length R + n

  record ArgsPaid (n : ℕ) (R : List Row) (o : OutArgs) : Type 0 where
    words : μ o.rows + takes_args o.trees ≤ μ R + 3 * n
    count : length o.rows + makes_args o.trees ≤ length R + n

  p_set : (T : Ty) (n : ℕ) (R : List Row) (o : Outs) → AllPaid n R o → (l : Option (List ℕ)) → numbers o.trees ≡ l
      → Paid (suc n) R (on_some (out o.rows (cond (any_error o.trees) (err T) (set T o.trees))) l (λ l. make T (rset (sort_n l)) o.rows))
  p_set T n R o w none e = go (any_error o.trees)
    where
      go : (b : Bool) → Paid (suc n) R (out o.rows (cond b (err T) (set T o.trees)))
      go true = record { words = omega (arith, w.words); count = omega (arith, w.count) }
      go false = record { words = omega (arith, w.words); count = omega (arith, w.count) }
  p_set T n R o w (some l) e =
      let c = numbers_are o.trees l e in let d = sort_short l in let k = mu.any o.rows (rset (sort_n l)) in let i = intern_one o.rows (rset (sort_n l)) in let j = all_least o.trees in
      record { words = omega (arith, w.words, c, d, k, j); count = omega (arith, w.count, i) }

  p_rec : (T : Ty) (n : ℕ) (R : List Row) (o : OutArgs) → ArgsPaid n R o → (l : Option Entries) → entries o.trees ≡ l
      → Paid (suc n) R (on_some (out o.rows (cond (any_error_arg o.trees) (err T) (rec T o.trees))) l (λ e. make T (rrec e) o.rows))
  p_rec T n R o w none e = go (any_error_arg o.trees)
    where
      go : (b : Bool) → Paid (suc n) R (out o.rows (cond b (err T) (rec T o.trees)))
      go true = record { words = omega (arith, w.words); count = omega (arith, w.count) }
      go false = record { words = omega (arith, w.words); count = omega (arith, w.count) }
  p_rec T n R o w (some d) e =
      let c = entries_are o.trees d e in let k = mu.any o.rows (rrec d) in let i = intern_one o.rows (rrec d) in let j = args_least o.trees in
      record { words = omega (arith, w.words, c, k, j); count = omega (arith, w.count, i) }

  mutual
    pub paid : (e : Node ℕ) (R : List Row) → Paid (size e) R (n_interpret S N e R)
    paid (lit T n) R = record { words = omega arith; count = omega arith }
    paid (err T) R = record { words = omega arith; count = omega arith }
    paid (var T x) R = p_var T x R (N.request x) refl
    paid (and T a b) R = p_and T (size a) (size b) R (n_interpret S N a R) (n_interpret S N b) (paid a R) (λ Q. paid b Q) (n_class (n_interpret S N a R))
    paid (or T a b) R = p_or T (size a) (size b) R (n_interpret S N a R) (n_interpret S N b) (paid a R) (λ Q. paid b Q) (n_class (n_interpret S N a R))
    paid (ite T c a b) R = p_if T (size c) (size a) (size b) R (n_interpret S N c R) (n_interpret S N a) (n_interpret S N b) (paid c R) (λ Q. paid a Q) (λ Q. paid b Q) (n_class (n_interpret S N c R))
    paid (un T u a) R = let o = n_interpret S N a R in p_one (size a) R o _ (paid a R)
        (s_decide _ _ (takes_least o.tree) o.rows T (can_err o.tree) (un_rule S u (ty_of o.tree)) _
        (s_strict1 _ _ (takes_least o.tree) o.rows T (un T u o.tree) (omega arith) (omega arith) (λ n. n_un S u (row_at o.rows n)) (λ n. made_un cheap S u (row_at o.rows n)) (view o.tree)))
    paid (bin T p a b) R = let o = n_interpret S N a R in let q = n_interpret S N b o.rows in let l : 2 ≤ takes o.tree + takes q.tree = two_least o.tree q.tree in
        p_two T (size a) (size b) R o (n_interpret S N b) (paid a R) (λ Q. paid b Q) _
        (s_decide _ _ l q.rows T (can_err o.tree || can_err q.tree) (bin_rule S p (ty_of o.tree) (ty_of q.tree)) _
        (s_strict2 _ _ l q.rows T (bin T p o.tree q.tree) (omega arith) (omega arith) (λ m n. n_bin p m n (row_at q.rows m) (row_at q.rows n)) (λ m n. made_bin cheap p m n (row_at q.rows m) (row_at q.rows n)) (view o.tree) (view q.tree)))
    paid (rel T p a b) R = let o = n_interpret S N a R in let q = n_interpret S N b o.rows in let l : 2 ≤ takes o.tree + takes q.tree = two_least o.tree q.tree in
        p_two T (size a) (size b) R o (n_interpret S N b) (paid a R) (λ Q. paid b Q) _
        (s_decide _ _ l q.rows T (can_err o.tree || can_err q.tree) (rel_rule S p (ty_of o.tree) (ty_of q.tree)) _
        (s_strict2 _ _ l q.rows T (rel T p o.tree q.tree) (omega arith) (omega arith) (λ m n. n_rel N q.rows p m n (row_at q.rows m) (row_at q.rows n)) (λ m n. made_rel cheap N q.rows p m n (row_at q.rows m) (row_at q.rows n)) (view o.tree) (view q.tree)))
    paid (get T a t) R = let o = n_interpret S N a R in p_one (size a) R o _ (paid a R)
        (s_strict1 _ _ (takes_least o.tree) o.rows T (get T o.tree t) (omega arith) (omega arith) (λ n. n_get N o.rows t (row_at o.rows n)) (λ n. made_get cheap N o.rows t (row_at o.rows n)) (view o.tree))
    paid (has T a t) R = let o = n_interpret S N a R in p_one (size a) R o _ (paid a R)
        (s_decide _ _ (takes_least o.tree) o.rows T (can_err o.tree) (has_rule S t (ty_of o.tree)) _
        (s_strict1 _ _ (takes_least o.tree) o.rows T (has T o.tree t) (omega arith) (omega arith) (λ n. n_has N o.rows t (row_at o.rows n)) (λ n. made_has cheap N o.rows t (row_at o.rows n)) (view o.tree)))
    paid (haspath T a t ts) R = let o = n_interpret S N a R in p_one (size a) R o _ (paid a R) (s_path _ _ (takes_least o.tree) o.rows T o.tree t ts (omega arith) (omega arith) (view o.tree))
    paid (set T es) R = p_set T (sizes es) R (n_interprets S N es R) (all_paid es R) (numbers (n_interprets S N es R).trees) refl
    paid (rec T gs) R = p_rec T (size_args gs) R (n_interpret_args S N gs R) (args_paid gs R) (entries (n_interpret_args S N gs R).trees) refl

    all_paid : (es : Nodes ℕ) (R : List Row) → AllPaid (sizes es) R (n_interprets S N es R)
    all_paid enil R = record { words = omega arith; count = omega arith }
    all_paid (econs e es) R = let k = paid e R in let l = all_paid es (n_interpret S N e R).rows in record { words = omega (arith, k.words, l.words); count = omega (arith, k.count, l.count) }

    args_paid : (gs : NodeArgs ℕ) (R : List Row) → ArgsPaid (size_args gs) R (n_interpret_args S N gs R)
    args_paid gnil R = record { words = omega arith; count = omega arith }
    args_paid (gcons t e gs) R = let k = paid e R in let l = args_paid gs (n_interpret S N e R).rows in record { words = omega (arith, k.words, l.words); count = omega (arith, k.count, l.count) }

  -- ---- all policies

  pub run_words : (ps : List NPolicy) (R : List Row) → μ (n_run S N ps R).rows + takes_in (n_run S N ps R).lines ≤ μ R + 3 * policy_sizes ps
  run_words [] R = omega arith
  run_words (p ∷ ps) R = let a = (paid p.tree R).words in let b = run_words ps (n_interpret S N p.tree R).rows in omega (arith, a, b)

  pub run_count : (ps : List NPolicy) (R : List Row) → length (n_run S N ps R).rows + makes_in (n_run S N ps R).lines ≤ length R + policy_sizes ps
  run_count [] R = omega arith
  run_count (p ∷ ps) R = let a = (paid p.tree R).count in let b = run_count ps (n_interpret S N p.tree R).rows in omega (arith, a, b)
