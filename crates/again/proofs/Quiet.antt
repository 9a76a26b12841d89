-- Interpreting a tree that interpretation leaves as it is makes no value: the rows stay.
use mathlib.Core.Path.{◌≡◌, refl, sym, ◌∙◌, ap, subst}
use mathlib.Core.Bool.{Bool, true, false, cond, ◌||◌}
use mathlib.Core.Option.{Option, none, some}
use mathlib.Core.List.{List, [], ◌∷◌}
use Prim.Native.Nat.{ℕ, suc, ◌≤◌}
use native.Mathlib.Omega.{arith}
use Rattle.cedar.specs.Value.{Value, on_some}
use Rattle.cedar.specs.Types.{Ty, Schema, Var}
use Rattle.cedar.specs.Interpret.{alone}
use Rattle.cedar.specs.Residual.{Node, Nodes, NodeArgs, Expr, Exprs, Args, lit, err, var, and, or, ite, un, bin, rel, get, has, haspath, set, rec, enil, econs, gnil, gcons, Un, Bin, Rel, ty_of, can_err, Stage, value, error, open', view, Class, ctrue, cfalse, cerror, copen, truth, any_error, any_error_arg}
use Rattle.cedar.specs.Entities.{PEnv}
use Rattle.cedar.specs.TypeRules.{un_rule, bin_rule, rel_rule, has_rule}
use Rattle.cedar.specs.Rows.{Row, rbool, rlong, rtext, rent, rset, rrec}
use Rattle.cedar.specs.Table.{At, Table}
use Rattle.cedar.specs.Making.{find_row, or_add, intern, sort_n}
use Rattle.cedar.specs.Numbered.{NEnv, Give, made, old, NOut, give, fails, stays, r_bool, is_some, entry_of, row_at, Out, out, make, give_lit, n_settle, n_strict1, n_strict2, n_by_rule, n_class, n_and_open, n_and, n_or_open, n_or, n_if, numbers, entries, n_un, n_bin, n_rel, n_get, n_has, n_left, n_walk, n_path, n_var, n_interpret, n_interprets, n_interpret_args}
use Rattle.cedar.specs.Reads.{Reads, xlit, xand, xor, xite, xun, xbin, xrel, xget, xhas, xpath, xset, xrec, ReadsAll, xcons, ReadsArgs, xarg, EnvRead}
use Rattle.cedar.proofs.MakingLaws.{intern_makes, content_of}
use Rattle.cedar.proofs.TableLaws.{row_of_law, number_inj}
use Rattle.cedar.proofs.Outcomes.{e_some, e_entries}
use Rattle.cedar.proofs.ReadsLaws.{at_is}
use Rattle.cedar.proofs.ReadsOps.{keep_env}
use Rattle.cedar.proofs.ReadsLaws.{keep_reads, keep_all, keep_args}
use Rattle.cedar.proofs.Refine.{refine}
use Rattle.sheet.specs.Answer.{size}
use Rattle.sheet.proofs.content.Fitting.{at_less}
use Rattle.sheet.proofs.running.MadeCount.{size_least, interpret_within}

-- a value that is there is not made: a second row of one content has no place in a table
there_stays : {T : List Row} {C : List Value} {r : Row} {n : ℕ} → Table T C → At T n r → (intern T r).rows ≡ T
there_stays {T} {C} {r} {n} t a = go (find_row r T) refl
  where
    go : (o : Option ℕ) → find_row r T ≡ o → (or_add o T r).rows ≡ T
    go none e =
        let (v, b, d) = content_of t a in
        let m = intern_makes t d in
        let q = number_inj m.table n (intern T r).number v (m.keeps n v b) m.at in
        let z = ap (λ o. (or_add o T r).number) e in
        let y = at_less a in
        absurd (omega (arith, q, z, y))
    go (some m) e = refl

-- what a step leaves: the node with the rows as they are, a value, an error, or the rest of a path with the rows as they are
data Ends (keep : Node ℕ) (R : List Row) : Out → Type 0 where
  keeps : Ends keep R (out R keep)
  lits : {Q : List Row} {T : Ty} {n : ℕ} → Ends keep R (out Q (lit T n))
  errs : {Q : List Row} {T : Ty} → Ends keep R (out Q (err T))
  walks : {T A : Ty} {n t : ℕ} {ts : List ℕ} → Ends keep R (out R (haspath T (lit A n) t ts))

module _ {keep : Node ℕ} {R : List Row} (T : Ty) where
  e_give : (g : Give) → Ends keep R (give_lit T g R)
  e_give (made r) = lits
  e_give (old n) = lits

  e_settle : (x : NOut) → Ends keep R (n_settle T keep x R)
  e_settle (give g) = e_give g
  e_settle fails = errs
  e_settle stays = keeps

  e_strict1 : (f : ℕ → NOut) (s : Stage ℕ) → Ends keep R (n_strict1 T keep f s R)
  e_strict1 f (value n) = e_settle (f n)
  e_strict1 f error = errs
  e_strict1 f open' = keeps

  e_strict2 : (f : ℕ → ℕ → NOut) (s u : Stage ℕ) → Ends keep R (n_strict2 T keep f s u R)
  e_strict2 f (value m) (value n) = e_settle (f m n)
  e_strict2 f (value m) error = errs
  e_strict2 f (value m) open' = keeps
  e_strict2 f error u = errs
  e_strict2 f open' (value n) = keeps
  e_strict2 f open' error = errs
  e_strict2 f open' open' = keeps

  e_rule : (c : Bool) (o : Option Bool) {r : Out} → Ends keep R r → Ends keep R (n_by_rule T c o r R)
  e_rule true o h = h
  e_rule false none h = h
  e_rule false (some b) h = lits

  e_make : {A : Type 0} (f : A → Row) (o : Option A) (b : Bool) → Ends keep R (on_some (out R (cond b (err T) keep)) o (λ a. make T (f a) R))
  e_make f (some a) b = lits
  e_make f none true = errs
  e_make f none false = keeps

module _ (S : Schema) (N : NEnv) where
  e_left : {keep : Node ℕ} (T A : Ty) (n t : ℕ) (ts : List ℕ) (R : List Row) → Ends keep R (n_left S N T (lit A n) t ts R)
  e_left T A n t ts R = e_rule T false (has_rule S t A) walks

  e_walk : {keep : Node ℕ} (R : List Row) (T : Ty) (U : ℕ → Ty) (ts : List ℕ) (t m : ℕ) → Ends keep R (n_walk S N T R U ts t m)
  e_walk {keep} R T U [] t m = e_entries (Ends keep R) (out R (err T)) errs N R (λ k i. n_left S N T (lit (U k) m) t [] R) (λ k i. e_left T (U k) m t [] R) (λ e. make T (rbool (is_some (entry_of t e))) R) (λ e. lits) (row_at R m)
  e_walk {keep} R T U (u ∷ us) t m = e_entries (Ends keep R) (out R (err T)) errs N R (λ k i. n_left S N T (lit (U k) m) t (u ∷ us) R) (λ k i. e_left T (U k) m t (u ∷ us) R) (λ e. on_some (make T (rbool false) R) (entry_of t e) (n_walk S N T R alone us u))
      (λ e. e_some (Ends keep R) (make T (rbool false) R) lits (entry_of t e) (n_walk S N T R alone us u) (λ x. e_walk R T alone us u x)) (row_at R m)

  e_path : (T : Ty) (a : Node ℕ) (t : ℕ) (ts : List ℕ) (s : Stage ℕ) (R : List Row) → Ends (haspath T a t ts) R (n_path S N T a t ts s R)
  e_path T a t ts (value n) R = e_walk R T (λ k. ty_of a) ts t n
  e_path T a t ts error R = errs
  e_path T a t ts open' R = e_rule T (can_err a) (has_rule S t (ty_of a)) keeps

  e_var : (T : Ty) (x : Var) (o : Option Give) (R : List Row) → Ends (var T x) R (n_var S N T (var T x) o R)
  e_var T x none R = keeps
  e_var T x (some g) R = e_give T g

  -- what is left is no larger than the tree, so that no tree is a part of itself
  no_part : {X : Type 0} (a t : Node ℕ) (R : List Row) → (n_interpret S N a R).tree ≡ t → suc (size a) ≤ size t → X
  no_part a t R e h = let z = (interpret_within S N a R).nodes in let q = ap size e in absurd (omega (arith, z, q, h))

-- ---- taking apart what is left

abbrev shape : Node ℕ → ℕ
shape (lit T n) = 0
shape (err T) = 1
shape (var T x) = 3
shape (and T a b) = 3
shape (or T a b) = 3
shape (ite T c a b) = 3
shape (un T u a) = 3
shape (bin T o a b) = 3
shape (rel T o a b) = 3
shape (get T a t) = 3
shape (has T a t) = 3
shape (haspath T a t ts) = 2
shape (set T es) = 3
shape (rec T gs) = 3

-- a node that is no leaf and no path is the one kept
ended : {X : Type 0} {keep t : Node ℕ} {R : List Row} {o : Out} → Ends keep R o → o.tree ≡ t → shape t ≡ 3 → (o.rows ≡ R → keep ≡ t → X) → X
ended keeps e s f = f refl e
ended lits e s f = let q = ap shape e in absurd (omega (arith, q, s))
ended errs e s f = let q = ap shape e in absurd (omega (arith, q, s))
ended walks e s f = let q = ap shape e in absurd (omega (arith, q, s))

row_class : (r : Row) (x : Bool) → r_bool copen r truth ≡ truth x → r ≡ rbool x
row_class (rbool true) true e = refl
row_class (rbool true) false e = cc
row_class (rbool false) true e = cc
row_class (rbool false) false e = refl
row_class (rlong n) true e = cc
row_class (rlong n) false e = cc
row_class (rtext t) true e = cc
row_class (rtext t) false e = cc
row_class (rent k t) true e = cc
row_class (rent k t) false e = cc
row_class (rset l) true e = cc
row_class (rset l) false e = cc
row_class (rrec l) true e = cc
row_class (rrec l) false e = cc

module _ (S : Schema) (N : NEnv) (P : PEnv) where
  abbrev Quiet : Node ℕ → Type 0
  Quiet t = (E : Expr) (C : List Value) (R : List Row) → Table R C → EnvRead C N P → Reads C t E → (n_interpret S N t R).tree ≡ t → (n_interpret S N t R).rows ≡ R

  abbrev QuietAll : Nodes ℕ → Type 0
  QuietAll t = (E : Exprs) (C : List Value) (R : List Row) → Table R C → EnvRead C N P → ReadsAll C t E → (n_interprets S N t R).trees ≡ t → (n_interprets S N t R).rows ≡ R

  abbrev QuietArgs : NodeArgs ℕ → Type 0
  QuietArgs t = (E : Args) (C : List Value) (R : List Row) → Table R C → EnvRead C N P → ReadsArgs C t E → (n_interpret_args S N t R).trees ≡ t → (n_interpret_args S N t R).rows ≡ R

  -- the second of two operands, over the rows that the first left
  second : (a b : Node ℕ) → Quiet a → Quiet b → {d e : Expr} {C : List Value} {R : List Row} → Table R C → EnvRead C N P → Reads C a d → Reads C b e
      → (n_interpret S N a R).tree ≡ a → (n_interpret S N b (n_interpret S N a R).rows).tree ≡ b → (n_interpret S N b (n_interpret S N a R).rows).rows ≡ R
  second a b qa qb {d} {e} {C} {R} t env ra rb ea eb =
      let k = refine S N P a t env ra in
      qb e k.contents (n_interpret S N a R).rows k.table (keep_env k.keeps env) (keep_reads k.keeps rb) eb ∙ qa d C R t env ra ea

  -- the literal that a left side that can err keeps beside it is there
  beside : (T : Ty) (x : Bool) (m : ℕ) (b : Node ℕ) {E : Expr} {C : List Value} {Q : List Row} → lit T m ≡ b → Table Q C → Reads C b E → n_class (n_interpret S N b Q) ≡ truth x → (intern (n_interpret S N b Q).rows (rbool x)).rows ≡ Q
  beside T x m b {E} {C} {Q} q t h c = subst (λ z. Reads C z E → n_class (n_interpret S N z Q) ≡ truth x → (intern (n_interpret S N z Q).rows (rbool x)).rows ≡ Q) q (λ g. base g) h c
    where
      base : {F : Expr} → Reads C (lit T m) F → r_bool copen (row_at Q m) truth ≡ truth x → (intern Q (rbool x)).rows ≡ Q
      base (xlit a) c = let (r, f, d) = row_of_law t a in there_stays t (subst (At Q m) (sym (at_is (rbool false) f) ∙ row_class (row_at Q m) x c) f)

  module _ (T : Ty) (a b : Node ℕ) (qa : Quiet a) (qb : Quiet b) {d e : Expr} {C : List Value} {R : List Row} (t : Table R C) (env : EnvRead C N P) (ra : Reads C a d) (rb : Reads C b e) where
    abbrev one : Out
    one = n_interpret S N a R

    abbrev two : Out
    two = n_interpret S N b one.rows

    and_kept : and T one.tree two.tree ≡ and T a b → two.rows ≡ R
    and_kept q = second a b qa qb t env ra rb (let z : one.tree ≡ a = cc in z) (let z : two.tree ≡ b = cc in z)

    or_kept : or T one.tree two.tree ≡ or T a b → two.rows ≡ R
    or_kept q = second a b qa qb t env ra rb (let z : one.tree ≡ a = cc in z) (let z : two.tree ≡ b = cc in z)

    and_cut : (x : Bool) → n_class two ≡ cfalse → (cond x (out (intern two.rows (rbool false)).rows (and T one.tree (lit T (intern two.rows (rbool false)).number))) (make T (rbool false) two.rows)).tree ≡ and T a b
        → (cond x (out (intern two.rows (rbool false)).rows (and T one.tree (lit T (intern two.rows (rbool false)).number))) (make T (rbool false) two.rows)).rows ≡ R
    and_cut true c q =
        let k = refine S N P a t env ra in
        let u : one.tree ≡ a = cc in
        let w : lit T (intern two.rows (rbool false)).number ≡ b = cc in
        beside T false (intern two.rows (rbool false)).number b w k.table (keep_reads k.keeps rb) c ∙ qa d C R t env ra u
    and_cut false c q = let z = ap shape q in absurd (omega (arith, z))

    or_cut : (x : Bool) → n_class two ≡ ctrue → (cond x (out (intern two.rows (rbool true)).rows (or T one.tree (lit T (intern two.rows (rbool true)).number))) (make T (rbool true) two.rows)).tree ≡ or T a b
        → (cond x (out (intern two.rows (rbool true)).rows (or T one.tree (lit T (intern two.rows (rbool true)).number))) (make T (rbool true) two.rows)).rows ≡ R
    or_cut true c q =
        let k = refine S N P a t env ra in
        let u : one.tree ≡ a = cc in
        let w : lit T (intern two.rows (rbool true)).number ≡ b = cc in
        beside T true (intern two.rows (rbool true)).number b w k.table (keep_reads k.keeps rb) c ∙ qa d C R t env ra u
    or_cut false c q = let z = ap shape q in absurd (omega (arith, z))

    and_open : (c : Class) → n_class two ≡ c → (n_and_open T one.tree two c).tree ≡ and T a b → (n_and_open T one.tree two c).rows ≡ R
    and_open ctrue g q = no_part S N a (and T a b) R q (let z = size_least b in omega (arith, z))
    and_open cfalse g q = and_cut (can_err one.tree) g q
    and_open cerror g q = and_kept q
    and_open copen g q = and_kept q

    quiet_and : (c : Class) → (n_and T one (n_interpret S N b) c).tree ≡ and T a b → (n_and T one (n_interpret S N b) c).rows ≡ R
    quiet_and cfalse q = let z = ap shape q in absurd (omega (arith, z))
    quiet_and ctrue q = no_part S N b (and T a b) one.rows q (let z = size_least a in omega (arith, z))
    quiet_and cerror q = let z = ap shape q in absurd (omega (arith, z))
    quiet_and copen q = and_open (n_class two) refl q

    or_open : (c : Class) → n_class two ≡ c → (n_or_open T one.tree two c).tree ≡ or T a b → (n_or_open T one.tree two c).rows ≡ R
    or_open cfalse g q = no_part S N a (or T a b) R q (let z = size_least b in omega (arith, z))
    or_open ctrue g q = or_cut (can_err one.tree) g q
    or_open cerror g q = or_kept q
    or_open copen g q = or_kept q

    quiet_or : (c : Class) → (n_or T one (n_interpret S N b) c).tree ≡ or T a b → (n_or T one (n_interpret S N b) c).rows ≡ R
    quiet_or ctrue q = let z = ap shape q in absurd (omega (arith, z))
    quiet_or cfalse q = no_part S N b (or T a b) one.rows q (let z = size_least a in omega (arith, z))
    quiet_or cerror q = let z = ap shape q in absurd (omega (arith, z))
    quiet_or copen q = or_open (n_class two) refl q

  module _ (T : Ty) (a b c : Node ℕ) (qa : Quiet a) (qb : Quiet b) (qc : Quiet c) {d e f : Expr} {C : List Value} {R : List Row} (t : Table R C) (env : EnvRead C N P) (ra : Reads C a d) (rb : Reads C b e) (rc : Reads C c f) where
    abbrev test : Out
    test = n_interpret S N a R

    abbrev then' : Out
    then' = n_interpret S N b test.rows

    abbrev else' : Out
    else' = n_interpret S N c then'.rows

    if_kept : ite T test.tree then'.tree else'.tree ≡ ite T a b c → else'.rows ≡ R
    if_kept q =
        let k = refine S N P a t env ra in
        let x : test.tree ≡ a = cc in
        let y : then'.tree ≡ b = cc in
        let z : else'.tree ≡ c = cc in
        second b c qb qc k.table (keep_env k.keeps env) (keep_reads k.keeps rb) (keep_reads k.keeps rc) y z ∙ qa d C R t env ra x

    quiet_if : (x : Class) → (n_if T test (n_interpret S N b) (n_interpret S N c) x).tree ≡ ite T a b c → (n_if T test (n_interpret S N b) (n_interpret S N c) x).rows ≡ R
    quiet_if ctrue q = no_part S N b (ite T a b c) test.rows q (let z = size_least a in let y = size_least c in omega (arith, y, z))
    quiet_if cfalse q = no_part S N c (ite T a b c) test.rows q (let z = size_least a in let y = size_least b in omega (arith, y, z))
    quiet_if cerror q = let z = ap shape q in absurd (omega (arith, z))
    quiet_if copen q = if_kept q

  q_and : (T : Ty) (a b : Node ℕ) → Quiet a → Quiet b → Quiet (and T a b)
  q_and T a b qa qb E C R t env h q = go h
    where
      go : {F : Expr} → Reads C (and T a b) F → (n_interpret S N (and T a b) R).rows ≡ R
      go (xand ra rb) = quiet_and T a b qa qb t env ra rb (n_class (n_interpret S N a R)) q

  q_or : (T : Ty) (a b : Node ℕ) → Quiet a → Quiet b → Quiet (or T a b)
  q_or T a b qa qb E C R t env h q = go h
    where
      go : {F : Expr} → Reads C (or T a b) F → (n_interpret S N (or T a b) R).rows ≡ R
      go (xor ra rb) = quiet_or T a b qa qb t env ra rb (n_class (n_interpret S N a R)) q

  q_if : (T : Ty) (a b c : Node ℕ) → Quiet a → Quiet b → Quiet c → Quiet (ite T a b c)
  q_if T a b c qa qb qc E C R t env h q = go h
    where
      go : {F : Expr} → Reads C (ite T a b c) F → (n_interpret S N (ite T a b c) R).rows ≡ R
      go (xite ra rb rc) = quiet_if T a b c qa qb qc t env ra rb rc (n_class (n_interpret S N a R)) q

  q_var : (T : Ty) (x : Var) → Quiet (var T x)
  q_var T x E C R t env h q = ended (e_var S N T x (N.request x) R) q refl (λ r k. r)

  q_un : (T : Ty) (u : Un) (a : Node ℕ) → Quiet a → Quiet (un T u a)
  q_un T u a qa E C R t env h q = go h
    where
      go : {F : Expr} → Reads C (un T u a) F → (n_interpret S N (un T u a) R).rows ≡ R
      go (xun {d = d} ra) = let o = n_interpret S N a R in
          ended (e_rule T (can_err o.tree) (un_rule S u (ty_of o.tree)) (e_strict1 {keep = un T u o.tree} T (λ n. n_un S u (row_at o.rows n)) (view o.tree))) q refl (λ r k. r ∙ qa d C R t env ra (let z : (n_interpret S N a R).tree ≡ a = cc in z))

  q_bin : (T : Ty) (p : Bin) (a b : Node ℕ) → Quiet a → Quiet b → Quiet (bin T p a b)
  q_bin T p a b qa qb E C R t env h q = go h
    where
      go : {F : Expr} → Reads C (bin T p a b) F → (n_interpret S N (bin T p a b) R).rows ≡ R
      go (xbin ra rb) = let o = n_interpret S N a R in let v = n_interpret S N b o.rows in
          ended (e_rule T (can_err o.tree || can_err v.tree) (bin_rule S p (ty_of o.tree) (ty_of v.tree)) (e_strict2 {keep = bin T p o.tree v.tree} T (λ m n. n_bin p m n (row_at v.rows m) (row_at v.rows n)) (view o.tree) (view v.tree))) q refl
          (λ r k. r ∙ second a b qa qb t env ra rb (let z : (n_interpret S N a R).tree ≡ a = cc in z) (let z : (n_interpret S N b (n_interpret S N a R).rows).tree ≡ b = cc in z))

  q_rel : (T : Ty) (p : Rel) (a b : Node ℕ) → Quiet a → Quiet b → Quiet (rel T p a b)
  q_rel T p a b qa qb E C R t env h q = go h
    where
      go : {F : Expr} → Reads C (rel T p a b) F → (n_interpret S N (rel T p a b) R).rows ≡ R
      go (xrel ra rb) = let o = n_interpret S N a R in let v = n_interpret S N b o.rows in
          ended (e_rule T (can_err o.tree || can_err v.tree) (rel_rule S p (ty_of o.tree) (ty_of v.tree)) (e_strict2 {keep = rel T p o.tree v.tree} T (λ m n. n_rel N v.rows p m n (row_at v.rows m) (row_at v.rows n)) (view o.tree) (view v.tree))) q refl
          (λ r k. r ∙ second a b qa qb t env ra rb (let z : (n_interpret S N a R).tree ≡ a = cc in z) (let z : (n_interpret S N b (n_interpret S N a R).rows).tree ≡ b = cc in z))

  q_get : (T : Ty) (a : Node ℕ) (u : ℕ) → Quiet a → Quiet (get T a u)
  q_get T a u qa E C R t env h q = go h
    where
      go : {F : Expr} → Reads C (get T a u) F → (n_interpret S N (get T a u) R).rows ≡ R
      go (xget {d = d} ra) = let o = n_interpret S N a R in
          ended (e_strict1 {keep = get T o.tree u} T (λ n. n_get N o.rows u (row_at o.rows n)) (view o.tree)) q refl (λ r k. r ∙ qa d C R t env ra (let z : (n_interpret S N a R).tree ≡ a = cc in z))

  q_has : (T : Ty) (a : Node ℕ) (u : ℕ) → Quiet a → Quiet (has T a u)
  q_has T a u qa E C R t env h q = go h
    where
      go : {F : Expr} → Reads C (has T a u) F → (n_interpret S N (has T a u) R).rows ≡ R
      go (xhas {d = d} ra) = let o = n_interpret S N a R in
          ended (e_rule T (can_err o.tree) (has_rule S u (ty_of o.tree)) (e_strict1 {keep = has T o.tree u} T (λ n. n_has N o.rows u (row_at o.rows n)) (view o.tree))) q refl (λ r k. r ∙ qa d C R t env ra (let z : (n_interpret S N a R).tree ≡ a = cc in z))

  -- a path: the node kept, or the rest of a walk over a literal
  lit_quiet : (a : Node ℕ) (A : Ty) (n : ℕ) (R : List Row) → lit A n ≡ a → (n_interpret S N a R).rows ≡ R
  lit_quiet a A n R e = subst (λ z. (n_interpret S N z R).rows ≡ R) e refl

  path_ended : (T : Ty) (a b : Node ℕ) (u : ℕ) (us : List ℕ) {R Q : List Row} {o : Out} → Ends (haspath T b u us) Q o → o.tree ≡ haspath T a u us → (n_interpret S N a R).rows ≡ Q → (b ≡ a → (n_interpret S N a R).rows ≡ R) → o.rows ≡ R
  path_ended T a b u us keeps e r f = sym r ∙ f (let z : b ≡ a = cc in z)
  path_ended T a b u us lits e r f = let q = ap shape e in absurd (omega (arith, q))
  path_ended T a b u us errs e r f = let q = ap shape e in absurd (omega (arith, q))
  path_ended T a b u us {R} (walks {A = A} {n = n}) e r f = sym r ∙ lit_quiet a A n R (let z : lit A n ≡ a = cc in z)

  q_path : (T : Ty) (a : Node ℕ) (u : ℕ) (us : List ℕ) → Quiet a → Quiet (haspath T a u us)
  q_path T a u us qa E C R t env h q = go h
    where
      go : {F : Expr} → Reads C (haspath T a u us) F → (n_interpret S N (haspath T a u us) R).rows ≡ R
      go (xpath {d = d} ra) = let o = n_interpret S N a R in path_ended T a o.tree u us (e_path S N T o.tree u us (view o.tree) o.rows) q refl (λ k. qa d C R t env ra k)

  q_set : (T : Ty) (es : Nodes ℕ) → QuietAll es → Quiet (set T es)
  q_set T es qs E C R t env h q = go h
    where
      go : {F : Expr} → Reads C (set T es) F → (n_interpret S N (set T es) R).rows ≡ R
      go (xset {fs = fs} rs) = let o = n_interprets S N es R in
          ended (e_make {keep = set T o.trees} T (λ l. rset (sort_n l)) (numbers o.trees) (any_error o.trees)) q refl (λ r k. r ∙ qs fs C R t env rs (let z : (n_interprets S N es R).trees ≡ es = cc in z))

  q_rec : (T : Ty) (gs : NodeArgs ℕ) → QuietArgs gs → Quiet (rec T gs)
  q_rec T gs qs E C R t env h q = go h
    where
      go : {F : Expr} → Reads C (rec T gs) F → (n_interpret S N (rec T gs) R).rows ≡ R
      go (xrec {hs = hs} rs) = let o = n_interpret_args S N gs R in
          ended (e_make {keep = rec T o.trees} T (λ l. rrec l) (entries o.trees) (any_error_arg o.trees)) q refl (λ r k. r ∙ qs hs C R t env rs (let z : (n_interpret_args S N gs R).trees ≡ gs = cc in z))

  q_cons : (e : Node ℕ) (es : Nodes ℕ) → Quiet e → QuietAll es → QuietAll (econs e es)
  q_cons e es q qs E C R t env h g = go h
    where
      go : {F : Exprs} → ReadsAll C (econs e es) F → (n_interprets S N (econs e es) R).rows ≡ R
      go (xcons {d = d} {fs = fs} r rs) =
          let k = refine S N P e t env r in
          let x : (n_interpret S N e R).tree ≡ e = cc in
          let y : (n_interprets S N es (n_interpret S N e R).rows).trees ≡ es = cc in
          qs fs k.contents (n_interpret S N e R).rows k.table (keep_env k.keeps env) (keep_all k.keeps rs) y ∙ q d C R t env r x

  q_arg : (u : ℕ) (e : Node ℕ) (es : NodeArgs ℕ) → Quiet e → QuietArgs es → QuietArgs (gcons u e es)
  q_arg u e es q qs E C R t env h g = go h
    where
      go : {F : Args} → ReadsArgs C (gcons u e es) F → (n_interpret_args S N (gcons u e es) R).rows ≡ R
      go (xarg {d = d} {hs = fs} r rs) =
          let k = refine S N P e t env r in
          let x : (n_interpret S N e R).tree ≡ e = cc in
          let y : (n_interpret_args S N es (n_interpret S N e R).rows).trees ≡ es = cc in
          qs fs k.contents (n_interpret S N e R).rows k.table (keep_env k.keeps env) (keep_args k.keeps rs) y ∙ q d C R t env r x

  mutual
    -- A TREE THAT INTERPRETATION LEAVES AS IT IS MAKES NO VALUE
    pub quiet : (t : Node ℕ) → Quiet t
    quiet (lit T n) = λ E C R t env h e. refl
    quiet (err T) = λ E C R t env h e. refl
    quiet (var T x) = q_var T x
    quiet (and T a b) = q_and T a b (quiet a) (quiet b)
    quiet (or T a b) = q_or T a b (quiet a) (quiet b)
    quiet (ite T a b c) = q_if T a b c (quiet a) (quiet b) (quiet c)
    quiet (un T u a) = q_un T u a (quiet a)
    quiet (bin T p a b) = q_bin T p a b (quiet a) (quiet b)
    quiet (rel T p a b) = q_rel T p a b (quiet a) (quiet b)
    quiet (get T a u) = q_get T a u (quiet a)
    quiet (has T a u) = q_has T a u (quiet a)
    quiet (haspath T a u us) = q_path T a u us (quiet a)
    quiet (set T es) = q_set T es (quiet_all es)
    quiet (rec T gs) = q_rec T gs (quiet_args gs)

    quiet_all : (es : Nodes ℕ) → QuietAll es
    quiet_all enil = λ E C R t env h e. refl
    quiet_all (econs e es) = q_cons e es (quiet e) (quiet_all es)

    quiet_args : (gs : NodeArgs ℕ) → QuietArgs gs
    quiet_args gnil = λ E C R t env h e. refl
    quiet_args (gcons u e gs) = q_arg u e gs (quiet e) (quiet_args gs)
