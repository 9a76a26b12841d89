-- The words of the values that a run makes: three for each use of a node at most, and twelve for what the request makes.
-- A row in words is its tag and its items. Each child of a record takes two words there, so a tree's three words a node are two too many.
use mathlib.Core.Path.{◌≡◌, refl, sym, ◌∙◌, ap}
use mathlib.Core.Bool.{Bool, true, false, cond, ◌||◌}
use mathlib.Core.Option.{Option, none, some, some-injective}
use mathlib.Core.List.{List, [], ◌∷◌, ◌++◌}
use Prim.Native.Nat.{ℕ, suc, ◌≤◌, ◌+◌, ◌*◌, compare, Ordering}
use native.Mathlib.Omega.{arith}
use lib.ListN.{length}
use Rattle.cedar.proofs.Tools.{no_some}
use Rattle.cedar.proofs.TableLaws.{same_row_refl}
use Rattle.cedar.specs.Value.{on_some}
use Rattle.cedar.specs.Types.{Ty, Schema, Var, principal, action, resource, context}
use Rattle.cedar.specs.Residual.{Node, Nodes, NodeArgs, lit, err, var, and, or, ite, un, bin, rel, get, has, haspath, set, rec, enil, econs, gnil, gcons, ty_of, can_err, Stage, value, error, open', view, Class, ctrue, cfalse, cerror, copen, any_error, any_error_arg}
use Rattle.cedar.specs.TypeRules.{un_rule, bin_rule, rel_rule, has_rule}
use Rattle.cedar.specs.Rows.{Entries, stop, entry, Row, rbool, rlong, rtext, rent, rset, rrec, same_row}
use Rattle.cedar.specs.Making.{find_row, pick_row, or_add, intern, place_n, insert_n, sort_n}
use Rattle.cedar.specs.Interpret.{alone}
use Rattle.cedar.specs.Numbered.{NEnv, Give, made, old, NOut, give, fails, stays, is_some, entry_of, row_at, Out, out, make, give_lit, n_settle, n_strict1, n_strict2, n_by_rule, n_class, n_and_open, n_and, n_or_open, n_or, n_if, cons_n, numbers, entry_n, entries, Outs, OutArgs, n_un, n_bin, n_rel, n_get, n_has, n_left, n_walk, n_path, n_var, n_interpret, n_interprets, n_interpret_args}
use Rattle.cedar.specs.Runs.{NPolicy, n_run}
use Rattle.cedar.proofs.Outcomes.{Basic, GiveIs, OutIs, e_some, e_entries, made_un, made_bin, made_rel, made_get, made_has}
use Rattle.sheet.specs.Answer.{size, sizes, size_args}
use Rattle.sheet.proofs.running.MadeCount.{policy_sizes}

-- ---- the words of rows

abbrev pub fields_in : Entries → ℕ
fields_in stop = 0
fields_in (entry t n e) = suc (fields_in e)

abbrev pub row_words : Row → ℕ
row_words (rbool b) = 2
row_words (rlong z) = 3
row_words (rtext t) = 2
row_words (rent k t) = 3
row_words (rset l) = suc (length l)
row_words (rrec e) = suc (fields_in e + fields_in e)

abbrev pub words_of : List Row → ℕ
words_of [] = 0
words_of (r ∷ R) = row_words r + words_of R

pub words_append : (R : List Row) (r : Row) → words_of (R ++ (r ∷ [])) ≡ words_of R + row_words r
words_append [] r = omega arith
words_append (q ∷ R) r = let a = words_append R r in omega (arith, a)

-- a set that is sorted has no more members
insert_most : (m : ℕ) (l : List ℕ) → length (insert_n m l) ≤ suc (length l)
insert_most m [] = omega arith
insert_most m (n ∷ l) = go (compare m n) (insert_most m l)
  where
    go : (c : Ordering) → length (insert_n m l) ≤ suc (length l) → length (place_n c m n l (insert_n m l)) ≤ suc (suc (length l))
    go Ordering.lt h = omega arith
    go Ordering.eq h = omega arith
    go Ordering.gt h = omega (arith, h)

sort_most : (l : List ℕ) → length (sort_n l) ≤ length l
sort_most [] = omega arith
sort_most (n ∷ l) = let a = insert_most n (sort_n l) in let b = sort_most l in omega (arith, a, b)

-- ---- children

abbrev pub how_many : Nodes ℕ → ℕ
how_many enil = 0
how_many (econs e es) = suc (how_many es)

abbrev pub how_many_args : NodeArgs ℕ → ℕ
how_many_args gnil = 0
how_many_args (gcons t e gs) = suc (how_many_args gs)

pub numbers_are : (es : Nodes ℕ) (l : List ℕ) → numbers es ≡ some l → length l ≡ how_many es
numbers_are enil l q = ap length (sym (some-injective _ _ q))
numbers_are (econs e es) l q = go (view e) (numbers es) refl (λ k p. numbers_are es k p) q
  where
    go : (x : Stage ℕ) (o : Option (List ℕ)) → numbers es ≡ o → ((k : List ℕ) → numbers es ≡ some k → length k ≡ how_many es) → cons_n x o ≡ some l → length l ≡ suc (how_many es)
    go (value n) (some k) p f r = ap length (sym (some-injective _ _ r)) ∙ ap suc (f k p)
    go (value n) none p f r = no_some r
    go error o p f r = no_some r
    go open' o p f r = no_some r

pub entries_are : (gs : NodeArgs ℕ) (d : Entries) → entries gs ≡ some d → fields_in d ≡ how_many_args gs
entries_are gnil d q = ap fields_in (sym (some-injective _ _ q))
entries_are (gcons t e gs) d q = go (view e) (entries gs) refl (λ k p. entries_are gs k p) q
  where
    go : (x : Stage ℕ) (o : Option Entries) → entries gs ≡ o → ((k : Entries) → entries gs ≡ some k → fields_in k ≡ how_many_args gs) → entry_n t x o ≡ some d → fields_in d ≡ suc (how_many_args gs)
    go (value n) (some k) p f r = ap fields_in (sym (some-injective _ _ r)) ∙ ap suc (f k p)
    go (value n) none p f r = no_some r
    go error o p f r = no_some r
    go open' o p f r = no_some r

-- ---- a measure of rows that a made row raises by its words at most, and what the request makes not at all

pub record Measure (N : NEnv) (μ : List Row → ℕ) : Type 0 where
  pub any : (R : List Row) (r : Row) → μ (intern R r).rows ≤ μ R + row_words r
  pub asked : (x : Var) (r : Row) → N.request x ≡ some (made r) → (R : List Row) → μ (intern R r).rows ≤ μ R

abbrev pub Cheap : Row → Type 0
Cheap r = row_words r ≤ 3

pub cheap : Basic Cheap
cheap = record { bools = λ b. omega arith; longs = λ z e. omega arith }

module _ (S : Schema) (N : NEnv) (μ : List Row → ℕ) (mu : Measure N μ) where
  record Step (R : List Row) (o : Out) : Type 0 where
    words : μ o.rows ≤ μ R + 3

  module _ (R : List Row) (T : Ty) where
    s_out : (e : Node ℕ) → Step R (out R e)
    s_out e = record { words = omega arith }

    s_make : (r : Row) → Cheap r → Step R (make T r R)
    s_make r h = let a = mu.any R r in record { words = omega (arith, a, h) }

    s_give : (g : Give) → GiveIs Cheap g → Step R (give_lit T g R)
    s_give (made r) h = s_make r h
    s_give (old m) h = s_out (lit T m)

    s_settle : (keep : Node ℕ) (x : NOut) → OutIs Cheap x → Step R (n_settle T keep x R)
    s_settle keep (give g) h = s_give g h
    s_settle keep fails h = s_out (err T)
    s_settle keep stays h = s_out keep

    s_strict1 : (keep : Node ℕ) (f : ℕ → NOut) → ((n : ℕ) → OutIs Cheap (f n)) → (s : Stage ℕ) → Step R (n_strict1 T keep f s R)
    s_strict1 keep f h (value m) = s_settle keep (f m) (h m)
    s_strict1 keep f h error = s_out (err T)
    s_strict1 keep f h open' = s_out keep

    s_strict2 : (keep : Node ℕ) (f : ℕ → ℕ → NOut) → ((m n : ℕ) → OutIs Cheap (f m n)) → (s u : Stage ℕ) → Step R (n_strict2 T keep f s u R)
    s_strict2 keep f h (value m) (value p) = s_settle keep (f m p) (h m p)
    s_strict2 keep f h (value m) error = s_out (err T)
    s_strict2 keep f h (value m) open' = s_out keep
    s_strict2 keep f h error u = s_out (err T)
    s_strict2 keep f h open' (value p) = s_out keep
    s_strict2 keep f h open' error = s_out (err T)
    s_strict2 keep f h open' open' = s_out keep

    s_decide : (c : Bool) (o : Option Bool) (r : Out) → Step R r → Step R (n_by_rule T c o r R)
    s_decide true o r k = k
    s_decide false none r k = k
    s_decide false (some b) r k = s_make (rbool b) (omega arith)

    s_left : (a : Node ℕ) (t : ℕ) (ts : List ℕ) → Step R (n_left S N T a t ts R)
    s_left a t ts = s_decide (can_err a) (has_rule S t (ty_of a)) (out R (haspath T a t ts)) (s_out (haspath T a t ts))

    s_walk : (U : ℕ → Ty) (ts : List ℕ) (t m : ℕ) → Step R (n_walk S N T R U ts t m)
    s_walk U [] t m = e_entries (Step R) (out R (err T)) (s_out (err T)) N R (λ k i. n_left S N T (lit (U k) m) t [] R) (λ k i. s_left (lit (U k) m) t [])
        (λ d. make T (rbool (is_some (entry_of t d))) R) (λ d. s_make (rbool (is_some (entry_of t d))) (omega arith)) (row_at R m)
    s_walk U (u ∷ us) t m = e_entries (Step R) (out R (err T)) (s_out (err T)) N R (λ k i. n_left S N T (lit (U k) m) t (u ∷ us) R) (λ k i. s_left (lit (U k) m) t (u ∷ us))
        (λ d. on_some (make T (rbool false) R) (entry_of t d) (n_walk S N T R alone us u)) (λ d. e_some (Step R) (make T (rbool false) R) (s_make (rbool false) (omega arith)) (entry_of t d) (n_walk S N T R alone us u) (λ x. s_walk alone us u x)) (row_at R m)

    s_path : (a : Node ℕ) (t : ℕ) (ts : List ℕ) (s : Stage ℕ) → Step R (n_path S N T a t ts s R)
    s_path a t ts (value m) = s_walk (λ k. ty_of a) ts t m
    s_path a t ts error = s_out (err T)
    s_path a t ts open' = s_left a t ts

  -- ---- a tree of n nodes: two words less than three for each

  abbrev pub Paid : ℕ → List Row → Out → Type 0
  Paid n R o = μ o.rows + 2 ≤ μ R + 3 * n

  module _ (T : Ty) (p q : ℕ) (R : List Row) (o : Out) (f : List Row → Out) (w : Paid p R o) (v : (Q : List Row) → Paid q Q (f Q)) where
    both : μ (f o.rows).rows + 4 ≤ μ R + 3 * p + 3 * q
    both = let a = v o.rows in omega (arith, a, w)

    right : Paid (suc (p + q)) R (f o.rows)
    right = let a = both in omega (arith, a)

    made_left : (b : Bool) → Paid (suc (p + q)) R (make T (rbool b) o.rows)
    made_left b = let a = mu.any o.rows (rbool b) in omega (arith, a, w)

    err_left : Paid (suc (p + q)) R (out o.rows (err T))
    err_left = omega (arith, w)

    kept : (e : Node ℕ) → Paid (suc (p + q)) R (out (f o.rows).rows e)
    kept e = let a = both in omega (arith, a)

    cut : (c b : Bool) (e : Node ℕ) → Paid (suc (p + q)) R (cond c (out (intern (f o.rows).rows (rbool b)).rows e) (make T (rbool b) (f o.rows).rows))
    cut true b e = let a = both in let d = mu.any (f o.rows).rows (rbool b) in omega (arith, a, d)
    cut false b e = let a = both in let d = mu.any (f o.rows).rows (rbool b) in omega (arith, a, d)

    p_and_open : (c : Class) → Paid (suc (p + q)) R (n_and_open T o.tree (f o.rows) c)
    p_and_open ctrue = kept o.tree
    p_and_open cfalse = cut (can_err o.tree) false (and T o.tree (lit T (intern (f o.rows).rows (rbool false)).number))
    p_and_open cerror = kept (and T o.tree (f o.rows).tree)
    p_and_open copen = kept (and T o.tree (f o.rows).tree)

    p_and : (c : Class) → Paid (suc (p + q)) R (n_and T o f c)
    p_and cfalse = made_left false
    p_and ctrue = right
    p_and cerror = err_left
    p_and copen = p_and_open (n_class (f o.rows))

    p_or_open : (c : Class) → Paid (suc (p + q)) R (n_or_open T o.tree (f o.rows) c)
    p_or_open cfalse = kept o.tree
    p_or_open ctrue = cut (can_err o.tree) true (or T o.tree (lit T (intern (f o.rows).rows (rbool true)).number))
    p_or_open cerror = kept (or T o.tree (f o.rows).tree)
    p_or_open copen = kept (or T o.tree (f o.rows).tree)

    p_or : (c : Class) → Paid (suc (p + q)) R (n_or T o f c)
    p_or ctrue = made_left true
    p_or cfalse = right
    p_or cerror = err_left
    p_or copen = p_or_open (n_class (f o.rows))

    p_two : (r : Out) → Step (f o.rows).rows r → Paid (suc (p + q)) R r
    p_two r k = let a = both in let b = k.words in omega (arith, a, b)

  p_if : (T : Ty) (n p q : ℕ) (R : List Row) (o : Out) (f g : List Row → Out) → Paid n R o → ((Q : List Row) → Paid p Q (f Q)) → ((Q : List Row) → Paid q Q (g Q)) → (c : Class) → Paid (suc (n + p + q)) R (n_if T o f g c)
  p_if T n p q R o f g w v u ctrue = let a = v o.rows in omega (arith, a, w)
  p_if T n p q R o f g w v u cfalse = let a = u o.rows in omega (arith, a, w)
  p_if T n p q R o f g w v u cerror = omega (arith, w)
  p_if T n p q R o f g w v u copen = let a = v o.rows in let b = u (f o.rows).rows in omega (arith, a, b, w)

  p_one : (n : ℕ) (R : List Row) (o r : Out) → Paid n R o → Step o.rows r → Paid (suc n) R r
  p_one n R o r w k = let b = k.words in omega (arith, w, b)

  p_var : (T : Ty) (x : Var) (R : List Row) (o : Option Give) → N.request x ≡ o → Paid 1 R (n_var S N T (var T x) o R)
  p_var T x R none e = omega arith
  p_var T x R (some (made r)) e = let a = mu.asked x r e R in omega (arith, a)
  p_var T x R (some (old n)) e = omega arith

  -- children: two words less for each
  record AllPaid (es : Nodes ℕ) (R : List Row) (o : Outs) : Type 0 where
    words : μ o.rows + 2 * how_many es ≤ μ R + 3 * sizes es
    count : how_many o.trees ≡ how_many es

  record ArgsPaid (gs : NodeArgs ℕ) (R : List Row) (o : OutArgs) : Type 0 where
    words : μ o.rows + 2 * how_many_args gs ≤ μ R + 3 * size_args gs
    count : how_many_args o.trees ≡ how_many_args gs

  p_set : (T : Ty) (es : Nodes ℕ) (R : List Row) (o : Outs) → AllPaid es R o → (l : Option (List ℕ)) → numbers o.trees ≡ l
      → Paid (suc (sizes es)) R (on_some (out o.rows (cond (any_error o.trees) (err T) (set T o.trees))) l (λ l. make T (rset (sort_n l)) o.rows))
  p_set T es R o w none e = let a = w.words in omega (arith, a)
  p_set T es R o w (some l) e = let a = w.words in let b = w.count in let c = numbers_are o.trees l e in let d = sort_most l in let k = mu.any o.rows (rset (sort_n l)) in omega (arith, a, b, c, d, k)

  p_rec : (T : Ty) (gs : NodeArgs ℕ) (R : List Row) (o : OutArgs) → ArgsPaid gs R o → (l : Option Entries) → entries o.trees ≡ l
      → Paid (suc (size_args gs)) R (on_some (out o.rows (cond (any_error_arg o.trees) (err T) (rec T o.trees))) l (λ e. make T (rrec e) o.rows))
  p_rec T gs R o w none e = let a = w.words in omega (arith, a)
  p_rec T gs R o w (some d) e = let a = w.words in let b = w.count in let c = entries_are o.trees d e in let k = mu.any o.rows (rrec d) in omega (arith, a, b, c, k)

  mutual
    pub paid : (e : Node ℕ) (R : List Row) → Paid (size e) R (n_interpret S N e R)
    paid (lit T n) R = omega arith
    paid (err T) R = omega arith
    paid (var T x) R = p_var T x R (N.request x) refl
    paid (and T a b) R = p_and T (size a) (size b) R (n_interpret S N a R) (n_interpret S N b) (paid a R) (λ Q. paid b Q) (n_class (n_interpret S N a R))
    paid (or T a b) R = p_or T (size a) (size b) R (n_interpret S N a R) (n_interpret S N b) (paid a R) (λ Q. paid b Q) (n_class (n_interpret S N a R))
    paid (ite T c a b) R = p_if T (size c) (size a) (size b) R (n_interpret S N c R) (n_interpret S N a) (n_interpret S N b) (paid c R) (λ Q. paid a Q) (λ Q. paid b Q) (n_class (n_interpret S N c R))
    paid (un T u a) R = let o = n_interpret S N a R in p_one (size a) R o _ (paid a R)
        (s_decide o.rows T (can_err o.tree) (un_rule S u (ty_of o.tree)) _ (s_strict1 o.rows T (un T u o.tree) (λ n. n_un S u (row_at o.rows n)) (λ n. made_un cheap S u (row_at o.rows n)) (view o.tree)))
    paid (bin T p a b) R = let o = n_interpret S N a R in let q = n_interpret S N b o.rows in p_two T (size a) (size b) R o (n_interpret S N b) (paid a R) (λ Q. paid b Q) _
        (s_decide q.rows T (can_err o.tree || can_err q.tree) (bin_rule S p (ty_of o.tree) (ty_of q.tree)) _
        (s_strict2 q.rows T (bin T p o.tree q.tree) (λ m n. n_bin p m n (row_at q.rows m) (row_at q.rows n)) (λ m n. made_bin cheap p m n (row_at q.rows m) (row_at q.rows n)) (view o.tree) (view q.tree)))
    paid (rel T p a b) R = let o = n_interpret S N a R in let q = n_interpret S N b o.rows in p_two T (size a) (size b) R o (n_interpret S N b) (paid a R) (λ Q. paid b Q) _
        (s_decide q.rows T (can_err o.tree || can_err q.tree) (rel_rule S p (ty_of o.tree) (ty_of q.tree)) _
        (s_strict2 q.rows T (rel T p o.tree q.tree) (λ m n. n_rel N q.rows p m n (row_at q.rows m) (row_at q.rows n)) (λ m n. made_rel cheap N q.rows p m n (row_at q.rows m) (row_at q.rows n)) (view o.tree) (view q.tree)))
    paid (get T a t) R = let o = n_interpret S N a R in p_one (size a) R o _ (paid a R) (s_strict1 o.rows T (get T o.tree t) (λ n. n_get N o.rows t (row_at o.rows n)) (λ n. made_get cheap N o.rows t (row_at o.rows n)) (view o.tree))
    paid (has T a t) R = let o = n_interpret S N a R in p_one (size a) R o _ (paid a R)
        (s_decide o.rows T (can_err o.tree) (has_rule S t (ty_of o.tree)) _ (s_strict1 o.rows T (has T o.tree t) (λ n. n_has N o.rows t (row_at o.rows n)) (λ n. made_has cheap N o.rows t (row_at o.rows n)) (view o.tree)))
    paid (haspath T a t ts) R = let o = n_interpret S N a R in p_one (size a) R o _ (paid a R) (s_path o.rows T o.tree t ts (view o.tree))
    paid (set T es) R = p_set T es R (n_interprets S N es R) (all_paid es R) (numbers (n_interprets S N es R).trees) refl
    paid (rec T gs) R = p_rec T gs R (n_interpret_args S N gs R) (args_paid gs R) (entries (n_interpret_args S N gs R).trees) refl

    all_paid : (es : Nodes ℕ) (R : List Row) → AllPaid es R (n_interprets S N es R)
    all_paid enil R = record { words = omega arith; count = refl }
    all_paid (econs e es) R = let k = paid e R in let l = all_paid es (n_interpret S N e R).rows in let a = l.words in record { words = omega (arith, k, a); count = ap suc l.count }

    args_paid : (gs : NodeArgs ℕ) (R : List Row) → ArgsPaid gs R (n_interpret_args S N gs R)
    args_paid gnil R = record { words = omega arith; count = refl }
    args_paid (gcons t e gs) R = let k = paid e R in let l = args_paid gs (n_interpret S N e R).rows in let a = l.words in record { words = omega (arith, k, a); count = ap suc l.count }

  pub run_paid : (ps : List NPolicy) (R : List Row) → μ (n_run S N ps R).rows ≤ μ R + 3 * policy_sizes ps
  run_paid [] R = omega arith
  run_paid (p ∷ ps) R = let a = paid p.tree R in let b = run_paid ps (n_interpret S N p.tree R).rows in omega (arith, a, b)

-- ---- the words, and three for each value of the request that is not yet there

abbrev gap_in : Option ℕ → ℕ
gap_in none = 1
gap_in (some n) = 0

abbrev gap : Row → List Row → ℕ
gap r R = gap_in (find_row r R)

gap_cons : (r q : Row) (R : List Row) → gap r (q ∷ R) ≡ cond (same_row q r) 0 (gap r R)
gap_cons r q R = go (same_row q r) (find_row r R)
  where
    go : (b : Bool) (o : Option ℕ) → gap_in (pick_row b o) ≡ cond b 0 (gap_in o)
    go true o = refl
    go false none = refl
    go false (some n) = refl

gap_most : (r : Row) (R : List Row) → gap r R ≤ 1
gap_most r R = go (find_row r R)
  where
    go : (o : Option ℕ) → gap_in o ≤ 1
    go none = omega arith
    go (some n) = omega arith

gap_falls : (r q : Row) (R : List Row) → gap r (R ++ (q ∷ [])) ≤ gap r R
gap_falls r q [] = gap_most r (q ∷ [])
gap_falls r q (x ∷ R) = let a = gap_cons r x (R ++ (q ∷ [])) in let b = gap_cons r x R in go (same_row x r) a b (gap_falls r q R)
  where
    go : (c : Bool) → gap r (x ∷ (R ++ (q ∷ []))) ≡ cond c 0 (gap r (R ++ (q ∷ []))) → gap r (x ∷ R) ≡ cond c 0 (gap r R) → gap r (R ++ (q ∷ [])) ≤ gap r R → gap r (x ∷ (R ++ (q ∷ []))) ≤ gap r (x ∷ R)
    go true a b h = omega (arith, a, b)
    go false a b h = omega (arith, a, b, h)

gap_closed : (r : Row) (R : List Row) → gap r (R ++ (r ∷ [])) ≡ 0
gap_closed r [] = gap_cons r r [] ∙ ap (λ b. cond b 0 1) (same_row_refl r)
gap_closed r (x ∷ R) = gap_cons r x (R ++ (r ∷ [])) ∙ go (same_row x r) (gap_closed r R)
  where
    go : (c : Bool) → gap r (R ++ (r ∷ [])) ≡ 0 → cond c 0 (gap r (R ++ (r ∷ []))) ≡ 0
    go true h = refl
    go false h = h

abbrev ask : Option Give → List Row → ℕ
ask none R = 0
ask (some (made r)) R = gap r R
ask (some (old n)) R = 0

ask_most : (o : Option Give) (R : List Row) → ask o R ≤ 1
ask_most none R = omega arith
ask_most (some (made r)) R = gap_most r R
ask_most (some (old n)) R = omega arith

ask_falls : (o : Option Give) (q : Row) (R : List Row) → ask o (R ++ (q ∷ [])) ≤ ask o R
ask_falls none q R = omega arith
ask_falls (some (made r)) q R = gap_falls r q R
ask_falls (some (old n)) q R = omega arith

module _ (N : NEnv) where
  abbrev pub missing : List Row → ℕ
  missing R = ask (N.request principal) R + ask (N.request action) R + ask (N.request resource) R + ask (N.request context) R

  pub missing_most : (R : List Row) → missing R ≤ 4
  missing_most R = let a = ask_most (N.request principal) R in let b = ask_most (N.request action) R in let c = ask_most (N.request resource) R in let d = ask_most (N.request context) R in omega (arith, a, b, c, d)

  -- one of the four falls, the others do not rise
  pub missing_falls : (R : List Row) (q : Row) → missing (R ++ (q ∷ [])) ≤ missing R
  missing_falls R q = let a = ask_falls (N.request principal) q R in let b = ask_falls (N.request action) q R in let c = ask_falls (N.request resource) q R in let d = ask_falls (N.request context) q R in omega (arith, a, b, c, d)

  pub one_less : (x : Var) (r : Row) → N.request x ≡ some (made r) → (R : List Row) → find_row r R ≡ none → missing (R ++ (r ∷ [])) + 1 ≤ missing R
  one_less x r e R f = go x (ask_was x e) (ask_now x e)
    where
      ask_was : (x : Var) → N.request x ≡ some (made r) → ask (N.request x) R ≡ 1
      ask_was x e = ap (λ o. ask o R) e ∙ ap gap_in f

      ask_now : (x : Var) → N.request x ≡ some (made r) → ask (N.request x) (R ++ (r ∷ [])) ≡ 0
      ask_now x e = ap (λ o. ask o (R ++ (r ∷ []))) e ∙ gap_closed r R

      go : (x : Var) → ask (N.request x) R ≡ 1 → ask (N.request x) (R ++ (r ∷ [])) ≡ 0 → missing (R ++ (r ∷ [])) + 1 ≤ missing R
      go principal p q = let b = ask_falls (N.request action) r R in let c = ask_falls (N.request resource) r R in let d = ask_falls (N.request context) r R in omega (arith, p, q, b, c, d)
      go action p q = let b = ask_falls (N.request principal) r R in let c = ask_falls (N.request resource) r R in let d = ask_falls (N.request context) r R in omega (arith, p, q, b, c, d)
      go resource p q = let b = ask_falls (N.request principal) r R in let c = ask_falls (N.request action) r R in let d = ask_falls (N.request context) r R in omega (arith, p, q, b, c, d)
      go context p q = let b = ask_falls (N.request principal) r R in let c = ask_falls (N.request action) r R in let d = ask_falls (N.request resource) r R in omega (arith, p, q, b, c, d)

  pub missing_intern : (R : List Row) (r : Row) → missing (intern R r).rows ≤ missing R
  missing_intern R r = go (find_row r R)
    where
      go : (o : Option ℕ) → missing (or_add o R r).rows ≤ missing R
      go none = missing_falls R r
      go (some n) = omega arith

module _ (N : NEnv) (small : (x : Var) (r : Row) → N.request x ≡ some (made r) → row_words r ≤ 3) where
  abbrev pub budget : List Row → ℕ
  budget R = words_of R + 3 * missing N R

  pub budget_any : (R : List Row) (r : Row) → budget (intern R r).rows ≤ budget R + row_words r
  budget_any R r = go (find_row r R)
    where
      go : (o : Option ℕ) → budget (or_add o R r).rows ≤ budget R + row_words r
      go none = let a = words_append R r in let b = missing_falls N R r in omega (arith, a, b)
      go (some n) = omega arith

  pub budget_asked : (x : Var) (r : Row) → N.request x ≡ some (made r) → (R : List Row) → budget (intern R r).rows ≤ budget R
  budget_asked x r e R = go (find_row r R) refl
    where
      go : (o : Option ℕ) → find_row r R ≡ o → budget (or_add o R r).rows ≤ budget R
      go none f = let a = words_append R r in let b = one_less N x r e R f in let c = small x r e in omega (arith, a, b, c)
      go (some n) f = omega arith

  -- AT MOST THREE WORDS FOR EACH USE OF A NODE, AND TWELVE
  pub run_words : (S : Schema) (ps : List NPolicy) (R : List Row) → words_of (n_run S N ps R).rows ≤ words_of R + 12 + 3 * policy_sizes ps
  run_words S ps R = let a = run_paid S N budget (record { any = budget_any; asked = budget_asked }) ps R in let b = missing_most N R in omega (arith, a, b)
