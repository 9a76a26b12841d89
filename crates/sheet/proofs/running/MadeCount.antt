-- Each use of a node makes at most one value, and what is left of a tree is no larger than the tree.
use mathlib.Core.Path.{◌≡◌, refl}
use mathlib.Core.Bool.{Bool, true, false, cond, ◌||◌}
use mathlib.Core.Option.{Option, none, some}
use mathlib.Core.List.{List, [], ◌∷◌}
use Prim.Native.Nat.{ℕ, suc, ◌≤◌, ◌+◌}
use native.Mathlib.Omega.{arith}
use lib.ListN.{length, length-append}
use Rattle.cedar.specs.Value.{on_some}
use Rattle.cedar.specs.Types.{Ty, Schema, Var}
use Rattle.cedar.specs.Residual.{Node, Nodes, NodeArgs, lit, err, var, and, or, ite, un, bin, rel, get, has, haspath, set, rec, enil, econs, gnil, gcons, ty_of, can_err, Stage, value, error, open', view, Class, ctrue, cfalse, cerror, copen, any_error, any_error_arg}
use Rattle.cedar.specs.TypeRules.{un_rule, bin_rule, rel_rule, has_rule}
use Rattle.cedar.specs.Rows.{Entries, Row, rbool, rlong, rtext, rent, rset, rrec}
use Rattle.cedar.specs.Making.{find_row, or_add, intern, sort_n}
use Rattle.cedar.specs.Interpret.{alone}
use Rattle.cedar.specs.Numbered.{NEnv, Give, made, old, NOut, give, fails, stays, r_rec, give_row, nentity, on_entries, is_some, entry_of, row_at, Out, out, make, give_lit, n_settle, n_strict1, n_strict2, n_by_rule, n_class, n_and_open, n_and, n_or_open, n_or, n_if, numbers, entries, Outs, OutArgs, n_un, n_bin, n_rel, n_get, n_has, n_left, n_walk, n_path, n_var, n_interpret, n_interprets, n_interpret_args}
use Rattle.cedar.specs.Runs.{NPolicy, NVerdict, n_run}
use Rattle.sheet.specs.Answer.{size, sizes, size_args}

pub size_least : {L : Type 0} (e : Node L) → 1 ≤ size e
size_least (lit T v) = omega arith
size_least (err T) = omega arith
size_least (var T x) = omega arith
size_least (and T a b) = omega arith
size_least (or T a b) = omega arith
size_least (ite T c a b) = omega arith
size_least (un T u a) = omega arith
size_least (bin T o a b) = omega arith
size_least (rel T o a b) = omega arith
size_least (get T a t) = omega arith
size_least (has T a t) = omega arith
size_least (haspath T a t ts) = omega arith
size_least (set T es) = omega arith
size_least (rec T gs) = omega arith

-- ---- one step: at most one row more, and at most n nodes

pub record Step (n : ℕ) (R : List Row) (o : Out) : Type 0 where
  pub rows : length o.rows ≤ suc (length R)
  pub nodes : size o.tree ≤ n

intern_one : (R : List Row) (r : Row) → length (intern R r).rows ≤ suc (length R)
intern_one R r = go (find_row r R)
  where
    go : (o : Option ℕ) → length (or_add o R r).rows ≤ suc (length R)
    go none = let z = length-append R (r ∷ []) in omega (arith, z)
    go (some n) = omega arith

module _ (n : ℕ) (R : List Row) (T : Ty) where
  s_out : (e : Node ℕ) → size e ≤ n → Step n R (out R e)
  s_out e h = record { rows = omega arith; nodes = h }

  s_make : (r : Row) → 1 ≤ n → Step n R (make T r R)
  s_make r h = record { rows = intern_one R r; nodes = h }

  s_give : (g : Give) → 1 ≤ n → Step n R (give_lit T g R)
  s_give (made r) h = s_make r h
  s_give (old m) h = s_out (lit T m) h

  module _ (keep : Node ℕ) (one : 1 ≤ n) (k : size keep ≤ n) where
    s_settle : (x : NOut) → Step n R (n_settle T keep x R)
    s_settle (give g) = s_give g one
    s_settle fails = s_out (err T) one
    s_settle stays = s_out keep k

    s_strict1 : (f : ℕ → NOut) (s : Stage ℕ) → Step n R (n_strict1 T keep f s R)
    s_strict1 f (value m) = s_settle (f m)
    s_strict1 f error = s_out (err T) one
    s_strict1 f open' = s_out keep k

    s_strict2 : (f : ℕ → ℕ → NOut) (s u : Stage ℕ) → Step n R (n_strict2 T keep f s u R)
    s_strict2 f (value m) (value p) = s_settle (f m p)
    s_strict2 f (value m) error = s_out (err T) one
    s_strict2 f (value m) open' = s_out keep k
    s_strict2 f error u = s_out (err T) one
    s_strict2 f open' (value p) = s_out keep k
    s_strict2 f open' error = s_out (err T) one
    s_strict2 f open' open' = s_out keep k

  s_decide : (c : Bool) (o : Option Bool) (r : Out) → 1 ≤ n → Step n R r → Step n R (n_by_rule T c o r R)
  s_decide true o r h k = k
  s_decide false none r h k = k
  s_decide false (some b) r h k = s_make (rbool b) h

-- ---- the walk along a path

module _ (S : Schema) (N : NEnv) where
  on_entries_law : {A : Type 0} (X : A → Type 0) (R : List Row) (d : A) (u : ℕ → ℕ → A) (r : Row) (f : Entries → A) → X d → ((k i : ℕ) → X (u k i)) → ((e : Entries) → X (f e)) → X (on_entries N R d u r f)
  on_entries_law X R d u r f x y z = go r
    where
      of_row : (q : Row) → X (r_rec d q f)
      of_row (rbool b) = x
      of_row (rlong n) = x
      of_row (rtext t) = x
      of_row (rent k t) = x
      of_row (rset l) = x
      of_row (rrec e) = z e

      of_attrs : (k i : ℕ) (o : Option Give) → X (on_some (u k i) o (λ a. r_rec d (give_row R a) f))
      of_attrs k i none = y k i
      of_attrs k i (some a) = of_row (give_row R a)

      go : (r : Row) → X (on_entries N R d u r f)
      go (rbool b) = x
      go (rlong n) = x
      go (rtext t) = x
      go (rent k i) = of_attrs k i (nentity N k i).attrs
      go (rset l) = x
      go (rrec e) = z e

  s_left : (n : ℕ) (R : List Row) (T : Ty) (a : Node ℕ) (t : ℕ) (ts : List ℕ) → suc (size a) ≤ n → Step n R (n_left S N T a t ts R)
  s_left n R T a t ts h = s_decide n R T (can_err a) (has_rule S t (ty_of a)) (out R (haspath T a t ts)) (omega arith) (s_out n R T (haspath T a t ts) h)

  s_walk : (n : ℕ) → 2 ≤ n → (R : List Row) (T : Ty) (U : ℕ → Ty) (ts : List ℕ) (t m : ℕ) → Step n R (n_walk S N T R U ts t m)
  s_walk n h R T U [] t m = on_entries_law (Step n R) R (out R (err T)) (λ k i. n_left S N T (lit (U k) m) t [] R) (row_at R m) (λ e. make T (rbool (is_some (entry_of t e))) R)
      (s_out n R T (err T) (omega arith)) (λ k i. s_left n R T (lit (U k) m) t [] h) (λ e. s_make n R T (rbool (is_some (entry_of t e))) (omega arith))
  s_walk n h R T U (u ∷ us) t m = on_entries_law (Step n R) R (out R (err T)) (λ k i. n_left S N T (lit (U k) m) t (u ∷ us) R) (row_at R m) (λ e. on_some (make T (rbool false) R) (entry_of t e) (n_walk S N T R alone us u))
      (s_out n R T (err T) (omega arith)) (λ k i. s_left n R T (lit (U k) m) t (u ∷ us) h) (λ e. go (entry_of t e) (λ x. s_walk n h R T alone us u x))
    where
      go : (o : Option ℕ) → ((x : ℕ) → Step n R (n_walk S N T R alone us u x)) → Step n R (on_some (make T (rbool false) R) o (n_walk S N T R alone us u))
      go none ih = s_make n R T (rbool false) (omega arith)
      go (some x) ih = ih x

  s_path : (n : ℕ) (R : List Row) (T : Ty) (a : Node ℕ) (t : ℕ) (ts : List ℕ) (s : Stage ℕ) → suc (size a) ≤ n → Step n R (n_path S N T a t ts s R)
  s_path n R T a t ts (value m) h = let z = size_least a in s_walk n (omega (arith, z)) R T (λ k. ty_of a) ts t m
  s_path n R T a t ts error h = s_out n R T (err T) (omega arith)
  s_path n R T a t ts open' h = s_left n R T a t ts h

  -- ---- a tree: at most as many rows as it has nodes, and no more nodes

  pub record Within (n : ℕ) (R : List Row) (o : Out) : Type 0 where
    pub rows : length o.rows ≤ length R + n
    pub nodes : size o.tree ≤ n

  record AllWithin (n : ℕ) (R : List Row) (o : Outs) : Type 0 where
    rows : length o.rows ≤ length R + n
    nodes : sizes o.trees ≤ n

  record ArgsWithin (n : ℕ) (R : List Row) (o : OutArgs) : Type 0 where
    rows : length o.rows ≤ length R + n
    nodes : size_args o.trees ≤ n

  module _ (T : Ty) (p q : ℕ) (R : List Row) (o : Out) (f : List Row → Out) (w : Within p R o) (v : (Q : List Row) → Within q Q (f Q)) (one : 1 ≤ q) where
    both_rows : length (f o.rows).rows ≤ length R + (p + q)
    both_rows = let a = w.rows in let b = (v o.rows).rows in omega (arith, a, b)

    right : Within (suc (p + q)) R (f o.rows)
    right = let a = both_rows in let b = (v o.rows).nodes in record { rows = omega (arith, a); nodes = omega (arith, b) }

    made_left : (r : Row) → Within (suc (p + q)) R (make T r o.rows)
    made_left r = let a = w.rows in let b = intern_one o.rows r in record { rows = omega (arith, a, b); nodes = omega arith }

    err_left : Within (suc (p + q)) R (out o.rows (err T))
    err_left = let a = w.rows in record { rows = omega (arith, a); nodes = omega arith }

    kept : (e : Node ℕ) → size e ≤ suc (p + q) → Within (suc (p + q)) R (out (f o.rows).rows e)
    kept e h = let a = both_rows in record { rows = omega (arith, a); nodes = h }

    cut : (c : Bool) (r : Row) (e : Node ℕ) → size e ≡ suc (size o.tree + 1) → Within (suc (p + q)) R (cond c (out (intern (f o.rows).rows r).rows e) (make T r (f o.rows).rows))
    cut true r e h = let a = both_rows in let b = intern_one (f o.rows).rows r in let c = w.nodes in record { rows = omega (arith, a, b); nodes = omega (arith, c, h) }
    cut false r e h = let a = both_rows in let b = intern_one (f o.rows).rows r in record { rows = omega (arith, a, b); nodes = omega arith }

    both : size o.tree + size (f o.rows).tree ≤ p + q
    both = let a = w.nodes in let b = (v o.rows).nodes in omega (arith, a, b)

    left : size o.tree ≤ suc (p + q)
    left = let a = w.nodes in omega (arith, a)

    w_and_open : (c : Class) → Within (suc (p + q)) R (n_and_open T o.tree (f o.rows) c)
    w_and_open ctrue = kept o.tree left
    w_and_open cfalse = cut (can_err o.tree) (rbool false) (and T o.tree (lit T (intern (f o.rows).rows (rbool false)).number)) refl
    w_and_open cerror = let a = both in kept (and T o.tree (f o.rows).tree) (omega (arith, a))
    w_and_open copen = let a = both in kept (and T o.tree (f o.rows).tree) (omega (arith, a))

    w_and : (c : Class) → Within (suc (p + q)) R (n_and T o f c)
    w_and cfalse = made_left (rbool false)
    w_and ctrue = right
    w_and cerror = err_left
    w_and copen = w_and_open (n_class (f o.rows))

    w_or_open : (c : Class) → Within (suc (p + q)) R (n_or_open T o.tree (f o.rows) c)
    w_or_open cfalse = kept o.tree left
    w_or_open ctrue = cut (can_err o.tree) (rbool true) (or T o.tree (lit T (intern (f o.rows).rows (rbool true)).number)) refl
    w_or_open cerror = let a = both in kept (or T o.tree (f o.rows).tree) (omega (arith, a))
    w_or_open copen = let a = both in kept (or T o.tree (f o.rows).tree) (omega (arith, a))

    w_or : (c : Class) → Within (suc (p + q)) R (n_or T o f c)
    w_or ctrue = made_left (rbool true)
    w_or cfalse = right
    w_or cerror = err_left
    w_or copen = w_or_open (n_class (f o.rows))

    -- a strict operation of two operands
    w_two : (r : Out) → Step (suc (size o.tree + size (f o.rows).tree)) (f o.rows).rows r → Within (suc (p + q)) R r
    w_two r k = let a = both_rows in let b = both in let c = k.rows in let d = k.nodes in record { rows = omega (arith, a, c); nodes = omega (arith, b, d) }

  module _ (T : Ty) (n p q : ℕ) (R : List Row) (o : Out) (f g : List Row → Out) (w : Within n R o) (v : (Q : List Row) → Within p Q (f Q)) (u : (Q : List Row) → Within q Q (g Q)) where
    w_if : (c : Class) → Within (suc (n + p + q)) R (n_if T o f g c)
    w_if ctrue = let a = w.rows in let b = (v o.rows).rows in let c = (v o.rows).nodes in record { rows = omega (arith, a, b); nodes = omega (arith, c) }
    w_if cfalse = let a = w.rows in let b = (u o.rows).rows in let c = (u o.rows).nodes in record { rows = omega (arith, a, b); nodes = omega (arith, c) }
    w_if cerror = let a = w.rows in record { rows = omega (arith, a); nodes = omega arith }
    w_if copen = let a = w.rows in let b = (v o.rows).rows in let c = (u (f o.rows).rows).rows in let x = w.nodes in let y = (v o.rows).nodes in let z = (u (f o.rows).rows).nodes in
        record { rows = omega (arith, a, b, c); nodes = omega (arith, x, y, z) }

  -- an operation of one operand
  w_one : (n : ℕ) (R : List Row) (o r : Out) → Within n R o → Step (suc (size o.tree)) o.rows r → Within (suc n) R r
  w_one n R o r w k = let a = w.rows in let b = w.nodes in let c = k.rows in let d = k.nodes in record { rows = omega (arith, a, c); nodes = omega (arith, b, d) }

  w_var : (T : Ty) (x : Var) (R : List Row) (o : Option Give) → Within 1 R (n_var S N T (var T x) o R)
  w_var T x R none = record { rows = omega arith; nodes = omega arith }
  w_var T x R (some g) = let k = s_give 1 R T g (omega arith) in let a = k.rows in let b = k.nodes in record { rows = omega (arith, a); nodes = b }

  w_set : (T : Ty) (n : ℕ) (R : List Row) (o : Outs) → AllWithin n R o → (l : Option (List ℕ)) → Within (suc n) R (on_some (out o.rows (cond (any_error o.trees) (err T) (set T o.trees))) l (λ l. make T (rset (sort_n l)) o.rows))
  w_set T n R o w (some l) = let a = w.rows in let b = intern_one o.rows (rset (sort_n l)) in record { rows = omega (arith, a, b); nodes = omega arith }
  w_set T n R o w none = let a = w.rows in record { rows = omega (arith, a); nodes = go (any_error o.trees) }
    where
      go : (b : Bool) → size (cond b (err T) (set T o.trees)) ≤ suc n
      go true = omega arith
      go false = let b = w.nodes in omega (arith, b)

  w_rec : (T : Ty) (n : ℕ) (R : List Row) (o : OutArgs) → ArgsWithin n R o → (l : Option Entries) → Within (suc n) R (on_some (out o.rows (cond (any_error_arg o.trees) (err T) (rec T o.trees))) l (λ e. make T (rrec e) o.rows))
  w_rec T n R o w (some e) = let a = w.rows in let b = intern_one o.rows (rrec e) in record { rows = omega (arith, a, b); nodes = omega arith }
  w_rec T n R o w none = let a = w.rows in record { rows = omega (arith, a); nodes = go (any_error_arg o.trees) }
    where
      go : (b : Bool) → size (cond b (err T) (rec T o.trees)) ≤ suc n
      go true = omega arith
      go false = let b = w.nodes in omega (arith, b)

  mutual
    -- EACH USE OF A NODE MAKES AT MOST ONE VALUE
    pub interpret_within : (e : Node ℕ) (R : List Row) → Within (size e) R (n_interpret S N e R)
    interpret_within (lit T n) R = record { rows = omega arith; nodes = omega arith }
    interpret_within (err T) R = record { rows = omega arith; nodes = omega arith }
    interpret_within (var T x) R = w_var T x R (N.request x)
    interpret_within (and T a b) R = w_and T (size a) (size b) R (n_interpret S N a R) (n_interpret S N b) (interpret_within a R) (λ Q. interpret_within b Q) (size_least b) (n_class (n_interpret S N a R))
    interpret_within (or T a b) R = w_or T (size a) (size b) R (n_interpret S N a R) (n_interpret S N b) (interpret_within a R) (λ Q. interpret_within b Q) (size_least b) (n_class (n_interpret S N a R))
    interpret_within (ite T c a b) R = w_if T (size c) (size a) (size b) R (n_interpret S N c R) (n_interpret S N a) (n_interpret S N b) (interpret_within c R) (λ Q. interpret_within a Q) (λ Q. interpret_within b Q) (n_class (n_interpret S N c R))
    interpret_within (un T u a) R = let o = n_interpret S N a R in w_one (size a) R o _ (interpret_within a R)
        (s_decide _ o.rows T (can_err o.tree) (un_rule S u (ty_of o.tree)) _ (omega arith) (s_strict1 _ o.rows T (un T u o.tree) (omega arith) (omega arith) (λ n. n_un S u (row_at o.rows n)) (view o.tree)))
    interpret_within (bin T p a b) R = let o = n_interpret S N a R in let q = n_interpret S N b o.rows in w_two T (size a) (size b) R o (n_interpret S N b) (interpret_within a R) (λ Q. interpret_within b Q) (size_least b) _
        (s_decide _ q.rows T (can_err o.tree || can_err q.tree) (bin_rule S p (ty_of o.tree) (ty_of q.tree)) _ (omega arith)
        (s_strict2 _ q.rows T (bin T p o.tree q.tree) (omega arith) (omega arith) (λ m n. n_bin p m n (row_at q.rows m) (row_at q.rows n)) (view o.tree) (view q.tree)))
    interpret_within (rel T p a b) R = let o = n_interpret S N a R in let q = n_interpret S N b o.rows in w_two T (size a) (size b) R o (n_interpret S N b) (interpret_within a R) (λ Q. interpret_within b Q) (size_least b) _
        (s_decide _ q.rows T (can_err o.tree || can_err q.tree) (rel_rule S p (ty_of o.tree) (ty_of q.tree)) _ (omega arith)
        (s_strict2 _ q.rows T (rel T p o.tree q.tree) (omega arith) (omega arith) (λ m n. n_rel N q.rows p m n (row_at q.rows m) (row_at q.rows n)) (view o.tree) (view q.tree)))
    interpret_within (get T a t) R = let o = n_interpret S N a R in w_one (size a) R o _ (interpret_within a R) (s_strict1 _ o.rows T (get T o.tree t) (omega arith) (omega arith) (λ n. n_get N o.rows t (row_at o.rows n)) (view o.tree))
    interpret_within (has T a t) R = let o = n_interpret S N a R in w_one (size a) R o _ (interpret_within a R)
        (s_decide _ o.rows T (can_err o.tree) (has_rule S t (ty_of o.tree)) _ (omega arith) (s_strict1 _ o.rows T (has T o.tree t) (omega arith) (omega arith) (λ n. n_has N o.rows t (row_at o.rows n)) (view o.tree)))
    interpret_within (haspath T a t ts) R = let o = n_interpret S N a R in w_one (size a) R o _ (interpret_within a R) (s_path _ o.rows T o.tree t ts (view o.tree) (omega arith))
    interpret_within (set T es) R = w_set T (sizes es) R (n_interprets S N es R) (all_within es R) (numbers (n_interprets S N es R).trees)
    interpret_within (rec T gs) R = w_rec T (size_args gs) R (n_interpret_args S N gs R) (args_within gs R) (entries (n_interpret_args S N gs R).trees)

    all_within : (es : Nodes ℕ) (R : List Row) → AllWithin (sizes es) R (n_interprets S N es R)
    all_within enil R = record { rows = omega arith; nodes = omega arith }
    all_within (econs e es) R = let k = interpret_within e R in let l = all_within es (n_interpret S N e R).rows in let a = k.rows in let b = k.nodes in let c = l.rows in let d = l.nodes in
        record { rows = omega (arith, a, c); nodes = omega (arith, b, d) }

    args_within : (gs : NodeArgs ℕ) (R : List Row) → ArgsWithin (size_args gs) R (n_interpret_args S N gs R)
    args_within gnil R = record { rows = omega arith; nodes = omega arith }
    args_within (gcons t e gs) R = let k = interpret_within e R in let l = args_within gs (n_interpret S N e R).rows in let a = k.rows in let b = k.nodes in let c = l.rows in let d = l.nodes in
        record { rows = omega (arith, a, c); nodes = omega (arith, b, d) }

-- ---- a run

-- the nodes of the policies' trees, and of the residuals
abbrev pub policy_sizes : List NPolicy → ℕ
policy_sizes [] = 0
policy_sizes (p ∷ ps) = size p.tree + policy_sizes ps

abbrev pub residual_sizes : List NVerdict → ℕ
residual_sizes [] = 0
residual_sizes (l ∷ ls) = size l.root + residual_sizes ls

module _ (S : Schema) (N : NEnv) where
  pub run_rows : (ps : List NPolicy) (R : List Row) → length (n_run S N ps R).rows ≤ length R + policy_sizes ps
  run_rows [] R = omega arith
  run_rows (p ∷ ps) R = let a = (interpret_within S N p.tree R).rows in let b = run_rows ps (n_interpret S N p.tree R).rows in omega (arith, a, b)

  pub run_nodes : (ps : List NPolicy) (R : List Row) → residual_sizes (n_run S N ps R).lines ≤ policy_sizes ps
  run_nodes [] R = omega arith
  run_nodes (p ∷ ps) R = let a = (interpret_within S N p.tree R).nodes in let b = run_nodes ps (n_interpret S N p.tree R).rows in omega (arith, a, b)
