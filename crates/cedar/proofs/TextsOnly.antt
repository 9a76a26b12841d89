-- The partial run looks only at texts of its own sheet: another sheet's further texts change nothing.
use mathlib.Core.Path.{◌≡◌, refl, ◌∙◌, ap}
use mathlib.Core.Bool.{Bool, true, false, cond, ◌||◌}
use mathlib.Core.Option.{Option, none, some}
use mathlib.Core.List.{List, [], ◌∷◌}
use Prim.Native.Nat.{ℕ, ◌<◌}
use lib.ListN.{get_or}
use Rattle.cedar.specs.Value.{on_some}
use Rattle.cedar.specs.Types.{Ty, Schema, Var}
use Rattle.cedar.specs.Residual.{Item, star, piece, Node, Nodes, NodeArgs, lit, err, var, and, or, ite, un, bin, rel, get, has, haspath, set, rec, enil, econs, gnil, gcons, Un, unot, uneg, uempty, uis, ulike, Bin, Rel, ty_of, can_err, Stage, value, error, open', view, Class, ctrue, cfalse, cerror, copen, any_error, any_error_arg}
use Rattle.cedar.specs.Evaluate.{matches, match_piece, any_suffix}
use Rattle.cedar.specs.TypeRules.{un_rule, bin_rule, rel_rule, has_rule}
use Rattle.cedar.specs.Rows.{Entries, Row, rbool, rlong, rtext, rent, rset, rrec}
use Rattle.cedar.specs.Making.{intern, or_add, find_row, sort_n}
use Rattle.cedar.specs.Interpret.{alone}
use Rattle.cedar.specs.Numbered.{Give, made, old, NEnv, nentity, row_at, give_row, r_rec, NOut, give, fails, stays, truly, entry_of, is_some, n_un, n_bin, n_rel, on_entries, n_get, n_has, Out, out, make, give_lit, n_settle, n_strict1, n_strict2, n_by_rule, n_class, n_and_open, n_and, n_or_open, n_or, n_if_open, n_if, numbers, entries, Outs, OutArgs, n_left, n_walk, n_path, n_var, n_step_un, n_step_bin, n_step_rel, n_step_get, n_step_has, n_step_set, n_step_rec, then_and, then_or, then_if, then_bin, then_rel, n_step_path, join_all, then_all, join_args, then_args, n_interpret, n_interprets, n_interpret_args}
use Rattle.cedar.specs.Runs.{NPolicy, join_run, then_run, n_run}
use Rattle.cedar.proofs.Outcomes.{Basic, GiveIs, OutIs, made_un, made_bin, made_rel, made_get, made_has}
use Rattle.cedar.proofs.Tools.{all_snoc}

-- texts below N
module _ (N : ℕ) where
  abbrev pub RowOk : Row → Type 0
  RowOk (rbool b) = Unit {0}
  RowOk (rlong n) = Unit {0}
  RowOk (rtext t) = t < N
  RowOk (rent k t) = Unit {0}
  RowOk (rset l) = Unit {0}
  RowOk (rrec e) = Unit {0}

  abbrev pub RowsOk : List Row → Type 0
  RowsOk R = (n : ℕ) → RowOk (get_or R n (rbool false))

  abbrev pub Pieces : List Item → Type 0
  Pieces [] = Unit {0}
  Pieces (star ∷ p) = Pieces p
  Pieces (piece t ∷ p) = (t < N) × Pieces p

  abbrev pub UnTexts : Un → Type 0
  UnTexts unot = Unit {0}
  UnTexts uneg = Unit {0}
  UnTexts uempty = Unit {0}
  UnTexts (uis k) = Unit {0}
  UnTexts (ulike p) = Pieces p

  -- the patterns of a tree
  mutual
    pub data Texts : Node ℕ → Type 0 where
      xlit : {T : Ty} {n : ℕ} → Texts (lit T n)
      xerr : {T : Ty} → Texts (err T)
      xvar : {T : Ty} {x : Var} → Texts (var T x)
      xand : {T : Ty} {a b : Node ℕ} → Texts a → Texts b → Texts (and T a b)
      xor : {T : Ty} {a b : Node ℕ} → Texts a → Texts b → Texts (or T a b)
      xite : {T : Ty} {c a b : Node ℕ} → Texts c → Texts a → Texts b → Texts (ite T c a b)
      xun : {T : Ty} {u : Un} {a : Node ℕ} → UnTexts u → Texts a → Texts (un T u a)
      xbin : {T : Ty} {o : Bin} {a b : Node ℕ} → Texts a → Texts b → Texts (bin T o a b)
      xrel : {T : Ty} {o : Rel} {a b : Node ℕ} → Texts a → Texts b → Texts (rel T o a b)
      xget : {T : Ty} {a : Node ℕ} {t : ℕ} → Texts a → Texts (get T a t)
      xhas : {T : Ty} {a : Node ℕ} {t : ℕ} → Texts a → Texts (has T a t)
      xpath : {T : Ty} {a : Node ℕ} {t : ℕ} {ts : List ℕ} → Texts a → Texts (haspath T a t ts)
      xset : {T : Ty} {es : Nodes ℕ} → AllTexts es → Texts (set T es)
      xrec : {T : Ty} {gs : NodeArgs ℕ} → ArgTexts gs → Texts (rec T gs)

    pub data AllTexts : Nodes ℕ → Type 0 where
      xnil : AllTexts enil
      xcons : {a : Node ℕ} {es : Nodes ℕ} → Texts a → AllTexts es → AllTexts (econs a es)

    pub data ArgTexts : NodeArgs ℕ → Type 0 where
      xstop : ArgTexts gnil
      xarg : {t : ℕ} {a : Node ℕ} {gs : NodeArgs ℕ} → Texts a → ArgTexts gs → ArgTexts (gcons t a gs)

  abbrev pub GiveOk : Give → Type 0
  GiveOk g = GiveIs RowOk g

  abbrev OutOk : NOut → Type 0
  OutOk o = OutIs RowOk o

  row_ok : Basic RowOk
  row_ok = record { bools = λ b. tt; longs = λ z e. tt }

  -- rows that grow
  intern_ok : (R : List Row) (r : Row) → RowsOk R → RowOk r → RowsOk (intern R r).rows
  intern_ok R r h k = go (find_row r R)
    where
      go : (o : Option ℕ) → RowsOk (or_add o R r).rows
      go none = all_snoc RowOk (rbool false) tt R r h k
      go (some n) = h

  give_ok : (T : Ty) (g : Give) (R : List Row) → GiveOk g → RowsOk R → RowsOk (give_lit T g R).rows
  give_ok T (made r) R k h = intern_ok R r h k
  give_ok T (old n) R k h = h

  settle_ok : (T : Ty) (keep : Node ℕ) (o : NOut) (R : List Row) → OutOk o → RowsOk R → RowsOk (n_settle T keep o R).rows
  settle_ok T keep (give g) R k h = give_ok T g R k h
  settle_ok T keep fails R k h = h
  settle_ok T keep stays R k h = h

  strict1_ok : (T : Ty) (keep : Node ℕ) (f : ℕ → NOut) (x : Stage ℕ) (R : List Row) → ((n : ℕ) → OutOk (f n)) → RowsOk R → RowsOk (n_strict1 T keep f x R).rows
  strict1_ok T keep f (value n) R k h = settle_ok T keep (f n) R (k n) h
  strict1_ok T keep f error R k h = h
  strict1_ok T keep f open' R k h = h

  strict2_ok : (T : Ty) (keep : Node ℕ) (f : ℕ → ℕ → NOut) (x y : Stage ℕ) (R : List Row) → ((m n : ℕ) → OutOk (f m n)) → RowsOk R → RowsOk (n_strict2 T keep f x y R).rows
  strict2_ok T keep f (value m) (value n) R k h = settle_ok T keep (f m n) R (k m n) h
  strict2_ok T keep f (value m) error R k h = h
  strict2_ok T keep f (value m) open' R k h = h
  strict2_ok T keep f error y R k h = h
  strict2_ok T keep f open' (value n) R k h = h
  strict2_ok T keep f open' error R k h = h
  strict2_ok T keep f open' open' R k h = h

  decide_ok : (T : Ty) (c : Bool) (o : Option Bool) (r : Out) (R : List Row) → RowsOk r.rows → RowsOk R → RowsOk (n_by_rule T c o r R).rows
  decide_ok T true o r R k h = k
  decide_ok T false none r R k h = k
  decide_ok T false (some b) r R k h = intern_ok R (rbool b) h tt

  and_open_ok : (T : Ty) (a : Node ℕ) (o : Out) (c : Class) → RowsOk o.rows → RowsOk (n_and_open T a o c).rows
  and_open_ok T a o ctrue h = h
  and_open_ok T a o cfalse h = go (can_err a)
    where
      go : (b : Bool) → RowsOk (cond b (out (intern o.rows (rbool false)).rows (and T a (lit T (intern o.rows (rbool false)).number))) (make T (rbool false) o.rows)).rows
      go true = intern_ok o.rows (rbool false) h tt
      go false = intern_ok o.rows (rbool false) h tt
  and_open_ok T a o cerror h = h
  and_open_ok T a o copen h = h

  or_open_ok : (T : Ty) (a : Node ℕ) (o : Out) (c : Class) → RowsOk o.rows → RowsOk (n_or_open T a o c).rows
  or_open_ok T a o cfalse h = h
  or_open_ok T a o ctrue h = go (can_err a)
    where
      go : (b : Bool) → RowsOk (cond b (out (intern o.rows (rbool true)).rows (or T a (lit T (intern o.rows (rbool true)).number))) (make T (rbool true) o.rows)).rows
      go true = intern_ok o.rows (rbool true) h tt
      go false = intern_ok o.rows (rbool true) h tt
  or_open_ok T a o cerror h = h
  or_open_ok T a o copen h = h

  entries_ok : (M : NEnv) (R : List Row) (d : Out) (u : ℕ → ℕ → Out) (f : Entries → Out) → RowsOk d.rows → ((k i : ℕ) → RowsOk (u k i).rows) → ((e : Entries) → RowsOk (f e).rows) → (r : Row) → RowsOk (on_entries M R d u r f).rows
  entries_ok M R d u f a b c (rbool x) = a
  entries_ok M R d u f a b c (rlong n) = a
  entries_ok M R d u f a b c (rtext t) = a
  entries_ok M R d u f a b c (rent k t) = go (nentity M k t).attrs
    where
      in_row : (q : Row) → RowsOk (r_rec d q f).rows
      in_row (rbool x) = a
      in_row (rlong n) = a
      in_row (rtext t) = a
      in_row (rent k t) = a
      in_row (rset l) = a
      in_row (rrec e) = c e

      go : (o : Option Give) → RowsOk (on_some (u k t) o (λ g. r_rec d (give_row R g) f)).rows
      go none = b k t
      go (some g) = in_row (give_row R g)
  entries_ok M R d u f a b c (rset l) = a
  entries_ok M R d u f a b c (rrec e) = c e

  -- another table of bytes that is the same below N
  module _ (S : Schema) (bytes' : ℕ → List ℕ) (agree : (t : ℕ) → t < N → bytes' t ≡ S.bytes t) (M : NEnv) (asked : (x : Var) (g : Give) → M.request x ≡ some g → GiveOk g) where
    abbrev S' : Schema
    S' = record { shape = S.shape; bytes = bytes'; request = S.request }

    same_matches : (p : List Item) → Pieces p → (s : List ℕ) → matches bytes' p s ≡ matches S.bytes p s
    same_matches [] h s = refl
    same_matches (star ∷ p) h s = λ i. any_suffix (λ x. same_matches p h x i) s
    same_matches (piece t ∷ p) h s = λ i. match_piece (agree t h.0 i) s (λ x. same_matches p h.1 x i)

    same_like : (p : List Item) → Pieces p → (r : Row) → RowOk r → n_un S' (ulike p) r ≡ n_un S (ulike p) r
    same_like p h (rbool b) k = refl
    same_like p h (rlong n) k = refl
    same_like p h (rtext t) k = ap truly (ap (matches bytes' p) (agree t k) ∙ same_matches p h (S.bytes t))
    same_like p h (rent l t) k = refl
    same_like p h (rset l) k = refl
    same_like p h (rrec e) k = refl

    step_un : (T : Ty) (u : Un) (o : Out) → UnTexts u → RowsOk o.rows → n_step_un S' M T u o ≡ n_step_un S M T u o
    step_un T unot o h k = refl
    step_un T uneg o h k = refl
    step_un T uempty o h k = refl
    step_un T (uis n) o h k = refl
    step_un T (ulike p) o h k = λ i. n_by_rule T (can_err o.tree) none (n_strict1 T (un T (ulike p) o.tree) (λ n. same_like p h (row_at o.rows n) (k n) i) (view o.tree) o.rows) o.rows

    left_ok : (T : Ty) (a : Node ℕ) (t : ℕ) (ts : List ℕ) (R : List Row) → RowsOk R → RowsOk (n_left S M T a t ts R).rows
    left_ok T a t ts R h = decide_ok T (can_err a) (has_rule S t (ty_of a)) (out R (haspath T a t ts)) R h h

    found_ok : (T : Ty) (R : List Row) → RowsOk R → (o : Option ℕ) (f : ℕ → Out) → ((n : ℕ) → RowsOk (f n).rows) → RowsOk (on_some (make T (rbool false) R) o f).rows
    found_ok T R h none f k = intern_ok R (rbool false) h tt
    found_ok T R h (some n) f k = k n

    walk_ok : (T : Ty) (R : List Row) → RowsOk R → (U : ℕ → Ty) (us : List ℕ) (t n : ℕ) → RowsOk (n_walk S M T R U us t n).rows
    walk_ok T R h U [] t n = entries_ok M R (out R (err T)) (λ k i. n_left S M T (lit (U k) n) t [] R) (λ e. make T (rbool (is_some (entry_of t e))) R) h (λ k i. left_ok T (lit (U k) n) t [] R h) (λ e. intern_ok R (rbool (is_some (entry_of t e))) h tt) (row_at R n)
    walk_ok T R h U (u ∷ us) t n = entries_ok M R (out R (err T)) (λ k i. n_left S M T (lit (U k) n) t (u ∷ us) R) (λ e. on_some (make T (rbool false) R) (entry_of t e) (n_walk S M T R alone us u)) h
        (λ k i. left_ok T (lit (U k) n) t (u ∷ us) R h) (λ e. found_ok T R h (entry_of t e) (n_walk S M T R alone us u) (λ x. walk_ok T R h alone us u x)) (row_at R n)

    path_ok_law : (T : Ty) (a : Node ℕ) (t : ℕ) (ts : List ℕ) (x : Stage ℕ) (R : List Row) → RowsOk R → RowsOk (n_path S M T a t ts x R).rows
    path_ok_law T a t ts (value n) R h = walk_ok T R h (λ k. ty_of a) ts t n
    path_ok_law T a t ts error R h = h
    path_ok_law T a t ts open' R h = left_ok T a t ts R h

    same_walk : (T : Ty) (R : List Row) (U : ℕ → Ty) (us : List ℕ) (t n : ℕ) → n_walk S' M T R U us t n ≡ n_walk S M T R U us t n
    same_walk T R U [] t n = refl
    same_walk T R U (u ∷ us) t n = λ i. on_entries M R (out R (err T)) (λ k j. n_left S M T (lit (U k) n) t (u ∷ us) R) (row_at R n) (λ e. on_some (make T (rbool false) R) (entry_of t e) (λ x. same_walk T R alone us u x i))

    same_path : (T : Ty) (a : Node ℕ) (t : ℕ) (ts : List ℕ) (x : Stage ℕ) (R : List Row) → n_path S' M T a t ts x R ≡ n_path S M T a t ts x R
    same_path T a t ts (value n) R = same_walk T R (λ k. ty_of a) ts t n
    same_path T a t ts error R = refl
    same_path T a t ts open' R = refl

    var_ok : (T : Ty) (e : Node ℕ) (o : Option Give) (R : List Row) → ((g : Give) → o ≡ some g → GiveOk g) → RowsOk R → RowsOk (n_var S M T e o R).rows
    var_ok T e none R k h = h
    var_ok T e (some g) R k h = give_ok T g R (k g refl) h

    set_ok : (T : Ty) (o : Outs) → RowsOk o.rows → RowsOk (n_step_set S M T o).rows
    set_ok T o h = go (numbers o.trees)
      where
        go : (x : Option (List ℕ)) → RowsOk (on_some (out o.rows (cond (any_error o.trees) (err T) (set T o.trees))) x (λ l. make T (rset (sort_n l)) o.rows)).rows
        go none = h
        go (some l) = intern_ok o.rows (rset (sort_n l)) h tt

    rec_ok : (T : Ty) (o : OutArgs) → RowsOk o.rows → RowsOk (n_step_rec S M T o).rows
    rec_ok T o h = go (entries o.trees)
      where
        go : (x : Option Entries) → RowsOk (on_some (out o.rows (cond (any_error_arg o.trees) (err T) (rec T o.trees))) x (λ e. make T (rrec e) o.rows)).rows
        go none = h
        go (some e) = intern_ok o.rows (rrec e) h tt

    step_un_ok : (T : Ty) (u : Un) (o : Out) → RowsOk o.rows → RowsOk (n_step_un S M T u o).rows
    step_un_ok T u o h = decide_ok T (can_err o.tree) (un_rule S u (ty_of o.tree)) (n_strict1 T (un T u o.tree) (λ n. n_un S u (row_at o.rows n)) (view o.tree) o.rows) o.rows
        (strict1_ok T (un T u o.tree) (λ n. n_un S u (row_at o.rows n)) (view o.tree) o.rows (λ n. made_un row_ok S u (row_at o.rows n)) h) h

    step_bin_ok : (T : Ty) (p : Bin) (a : Node ℕ) (o : Out) → RowsOk o.rows → RowsOk (n_step_bin S M T p a o).rows
    step_bin_ok T p a o h = decide_ok T (can_err a || can_err o.tree) (bin_rule S p (ty_of a) (ty_of o.tree)) (n_strict2 T (bin T p a o.tree) (λ m n. n_bin p m n (row_at o.rows m) (row_at o.rows n)) (view a) (view o.tree) o.rows) o.rows
        (strict2_ok T (bin T p a o.tree) (λ m n. n_bin p m n (row_at o.rows m) (row_at o.rows n)) (view a) (view o.tree) o.rows (λ m n. made_bin row_ok p m n (row_at o.rows m) (row_at o.rows n)) h) h

    step_rel_ok : (T : Ty) (p : Rel) (a : Node ℕ) (o : Out) → RowsOk o.rows → RowsOk (n_step_rel S M T p a o).rows
    step_rel_ok T p a o h = decide_ok T (can_err a || can_err o.tree) (rel_rule S p (ty_of a) (ty_of o.tree)) (n_strict2 T (rel T p a o.tree) (λ m n. n_rel M o.rows p m n (row_at o.rows m) (row_at o.rows n)) (view a) (view o.tree) o.rows) o.rows
        (strict2_ok T (rel T p a o.tree) (λ m n. n_rel M o.rows p m n (row_at o.rows m) (row_at o.rows n)) (view a) (view o.tree) o.rows (λ m n. made_rel row_ok M o.rows p m n (row_at o.rows m) (row_at o.rows n)) h) h

    step_get_ok : (T : Ty) (o : Out) (t : ℕ) → RowsOk o.rows → RowsOk (n_step_get S M T o t).rows
    step_get_ok T o t h = strict1_ok T (get T o.tree t) (λ n. n_get M o.rows t (row_at o.rows n)) (view o.tree) o.rows (λ n. made_get row_ok M o.rows t (row_at o.rows n)) h

    step_has_ok : (T : Ty) (o : Out) (t : ℕ) → RowsOk o.rows → RowsOk (n_step_has S M T o t).rows
    step_has_ok T o t h = decide_ok T (can_err o.tree) (has_rule S t (ty_of o.tree)) (n_strict1 T (has T o.tree t) (λ n. n_has M o.rows t (row_at o.rows n)) (view o.tree) o.rows) o.rows
        (strict1_ok T (has T o.tree t) (λ n. n_has M o.rows t (row_at o.rows n)) (view o.tree) o.rows (λ n. made_has row_ok M o.rows t (row_at o.rows n)) h) h

    -- the lazy operations: equal and good where what they go on with is
    module _ (T : Ty) (o : Out) (k k' : List Row → Out) (e : k' o.rows ≡ k o.rows) (h : RowsOk o.rows) (g : RowsOk (k o.rows).rows) where
      same_and : (c : Class) → n_and T o k' c ≡ n_and T o k c
      same_and cfalse = refl
      same_and ctrue = e
      same_and cerror = refl
      same_and copen = ap (λ x. n_and_open T o.tree x (n_class x)) e

      ok_and : (c : Class) → RowsOk (n_and T o k c).rows
      ok_and cfalse = intern_ok o.rows (rbool false) h tt
      ok_and ctrue = g
      ok_and cerror = h
      ok_and copen = and_open_ok T o.tree (k o.rows) (n_class (k o.rows)) g

      same_or : (c : Class) → n_or T o k' c ≡ n_or T o k c
      same_or ctrue = refl
      same_or cfalse = e
      same_or cerror = refl
      same_or copen = ap (λ x. n_or_open T o.tree x (n_class x)) e

      ok_or : (c : Class) → RowsOk (n_or T o k c).rows
      ok_or ctrue = intern_ok o.rows (rbool true) h tt
      ok_or cfalse = g
      ok_or cerror = h
      ok_or copen = or_open_ok T o.tree (k o.rows) (n_class (k o.rows)) g

      module _ (l l' : List Row → Out) (f : l' o.rows ≡ l o.rows) (f₂ : l' (k o.rows).rows ≡ l (k o.rows).rows) (i : RowsOk (l o.rows).rows) (i₂ : RowsOk (l (k o.rows).rows).rows) where
        same_if : (c : Class) → n_if T o k' l' c ≡ n_if T o k l c
        same_if ctrue = e
        same_if cfalse = f
        same_if cerror = refl
        same_if copen = ap (λ x. n_if_open T o.tree x l') e ∙ ap (λ x. out x.rows (ite T o.tree (k o.rows).tree x.tree)) f₂

        ok_if : (c : Class) → RowsOk (n_if T o k l c).rows
        ok_if ctrue = g
        ok_if cfalse = i
        ok_if cerror = h
        ok_if copen = i₂

    Same : Node ℕ → List Row → Type 0
    Same a R = (n_interpret S' M a R ≡ n_interpret S M a R) × RowsOk (n_interpret S M a R).rows

    SameAll : Nodes ℕ → List Row → Type 0
    SameAll es R = (n_interprets S' M es R ≡ n_interprets S M es R) × RowsOk (n_interprets S M es R).rows

    SameArgs : NodeArgs ℕ → List Row → Type 0
    SameArgs gs R = (n_interpret_args S' M gs R ≡ n_interpret_args S M gs R) × RowsOk (n_interpret_args S M gs R).rows

    mutual
      unfolding Same SameAll SameArgs

      same : {a : Node ℕ} → Texts a → (R : List Row) → RowsOk R → Same a R
      same xlit R h = (refl, h)
      same xerr R h = (refl, h)
      same (xvar {T = T} {x = x}) R h = (refl, var_ok T (var T x) (M.request x) R (asked x) h)
      same (xand {T = T} {a = a} {b = b} p q) R h = let (e, i) = same p R h in let (f, j) = same q (n_interpret S M a R).rows i in
          (ap (λ o. then_and S M T o (n_interpret S' M b)) e ∙ same_and T (n_interpret S M a R) (n_interpret S M b) (n_interpret S' M b) f i j (n_class (n_interpret S M a R)), ok_and T (n_interpret S M a R) (n_interpret S M b) (n_interpret S' M b) f i j (n_class (n_interpret S M a R)))
      same (xor {T = T} {a = a} {b = b} p q) R h = let (e, i) = same p R h in let (f, j) = same q (n_interpret S M a R).rows i in
          (ap (λ o. then_or S M T o (n_interpret S' M b)) e ∙ same_or T (n_interpret S M a R) (n_interpret S M b) (n_interpret S' M b) f i j (n_class (n_interpret S M a R)), ok_or T (n_interpret S M a R) (n_interpret S M b) (n_interpret S' M b) f i j (n_class (n_interpret S M a R)))
      same (xite {T = T} {c = c} {a = a} {b = b} t p q) R h = let (e, i) = same t R h in let (f, j) = same p (n_interpret S M c R).rows i in let (g, k) = same q (n_interpret S M c R).rows i in let (g₂, k₂) = same q (n_interpret S M a (n_interpret S M c R).rows).rows j in (
        ap (λ o. then_if S M T o (n_interpret S' M a) (n_interpret S' M b)) e ∙ same_if T (n_interpret S M c R) (n_interpret S M a) (n_interpret S' M a) f i j (n_interpret S M b) (n_interpret S' M b) g g₂ k k₂ (n_class (n_interpret S M c R)),
        ok_if T (n_interpret S M c R) (n_interpret S M a) (n_interpret S' M a) f i j (n_interpret S M b) (n_interpret S' M b) g g₂ k k₂ (n_class (n_interpret S M c R)),
      )
      same (xun {T = T} {u = u} {a = a} t p) R h = let (e, i) = same p R h in
          (ap (n_step_un S' M T u) e ∙ step_un T u (n_interpret S M a R) t i, step_un_ok T u (n_interpret S M a R) i)
      same (xbin {T = T} {o = o} {a = a} {b = b} p q) R h = let (e, i) = same p R h in let (f, j) = same q (n_interpret S M a R).rows i in (
        ap (λ x. then_bin S M T o x (n_interpret S' M b)) e ∙ ap (n_step_bin S M T o (n_interpret S M a R).tree) f,
        step_bin_ok T o (n_interpret S M a R).tree (n_interpret S M b (n_interpret S M a R).rows) j,
      )
      same (xrel {T = T} {o = o} {a = a} {b = b} p q) R h = let (e, i) = same p R h in let (f, j) = same q (n_interpret S M a R).rows i in (
        ap (λ x. then_rel S M T o x (n_interpret S' M b)) e ∙ ap (n_step_rel S M T o (n_interpret S M a R).tree) f,
        step_rel_ok T o (n_interpret S M a R).tree (n_interpret S M b (n_interpret S M a R).rows) j,
      )
      same (xget {T = T} {a = a} {t = t} p) R h = let (e, i) = same p R h in
          (ap (λ x. n_step_get S M T x t) e, step_get_ok T (n_interpret S M a R) t i)
      same (xhas {T = T} {a = a} {t = t} p) R h = let (e, i) = same p R h in
          (ap (λ x. n_step_has S M T x t) e, step_has_ok T (n_interpret S M a R) t i)
      same (xpath {T = T} {a = a} {t = t} {ts = ts} p) R h = let (e, i) = same p R h in
          (ap (λ x. n_step_path S' M T x t ts) e ∙ same_path T (n_interpret S M a R).tree t ts (view (n_interpret S M a R).tree) (n_interpret S M a R).rows, path_ok_law T (n_interpret S M a R).tree t ts (view (n_interpret S M a R).tree) (n_interpret S M a R).rows i)
      same (xset {T = T} {es = es} p) R h = let (e, i) = same_all p R h in (ap (n_step_set S M T) e, set_ok T (n_interprets S M es R) i)
      same (xrec {T = T} {gs = gs} p) R h = let (e, i) = same_args p R h in (ap (n_step_rec S M T) e, rec_ok T (n_interpret_args S M gs R) i)

      same_all : {es : Nodes ℕ} → AllTexts es → (R : List Row) → RowsOk R → SameAll es R
      same_all xnil R h = (refl, h)
      same_all (xcons {a = a} {es = es} p q) R h = let (e, i) = same p R h in let (f, j) = same_all q (n_interpret S M a R).rows i in
          (ap (λ x. then_all S M x (n_interprets S' M es)) e ∙ ap (join_all S M (n_interpret S M a R).tree) f, j)

      same_args : {gs : NodeArgs ℕ} → ArgTexts gs → (R : List Row) → RowsOk R → SameArgs gs R
      same_args xstop R h = (refl, h)
      same_args (xarg {t = t} {a = a} {gs = gs} p q) R h = let (e, i) = same p R h in let (f, j) = same_args q (n_interpret S M a R).rows i in
          (ap (λ x. then_args S M t x (n_interpret_args S' M gs)) e ∙ ap (join_args S M t (n_interpret S M a R).tree) f, j)

    pub data PolicyTexts : List NPolicy → Type 0 where
      none_left : PolicyTexts []
      one_more : {p : NPolicy} {ps : List NPolicy} → Texts p.tree → PolicyTexts ps → PolicyTexts (p ∷ ps)

    -- the whole run
    pub same_run : {ps : List NPolicy} → PolicyTexts ps → (R : List Row) → RowsOk R → n_run S' M ps R ≡ n_run S M ps R
    unfolding Same
    same_run none_left R h = refl
    same_run (one_more {p = p} {ps = ps} t ts) R h = let (e, i) = same t R h in
        ap (λ o. then_run S M p.effect o (n_run S' M ps)) e ∙ ap (join_run S M (record { effect = p.effect; class = n_class (n_interpret S M p.tree R); root = (n_interpret S M p.tree R).tree })) (same_run ts (n_interpret S M p.tree R).rows i)
