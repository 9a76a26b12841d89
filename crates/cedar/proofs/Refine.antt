-- From numbers to content: interpretation by number, with its made values, reads as interpretation by content.
use mathlib.Core.Path.{◌≡◌, refl, subst}
use mathlib.Core.Bool.{Bool, true, false, cond, ◌||◌}
use mathlib.Core.Option.{Option, none, some}
use mathlib.Core.List.{List, [], ◌∷◌}
use Prim.Native.Nat.{ℕ}
use Rattle.cedar.specs.Value.{Value, vbool, vent, vrec, Values, Fields, found, on_some}
use Rattle.cedar.specs.Canonical.{make_set}
use Rattle.cedar.specs.Types.{Ty, Schema}
use Rattle.cedar.specs.Residual.{Node, Nodes, NodeArgs, Expr, Exprs, Args, lit, err, var, and, or, ite, un, bin, rel, get, has, haspath, set, rec, enil, econs, gnil, gcons, Un, Bin, Rel, ty_of, can_err, Stage, Class, ctrue, cfalse, cerror, copen, truth, is_error, any_error, any_error_arg}
use Rattle.cedar.specs.Entities.{PEnv}
use Rattle.cedar.specs.Interpret.{alone, left_path, View, class, class_of, simp_and, simp_or, simp_if, walk, simp_path, values, fields, step_var, step_un, step_bin, step_rel, step_get, step_has, step_set, step_rec, interpret, interprets, interpret_args}
use Rattle.cedar.specs.TypeRules.{un_rule, bin_rule, rel_rule, has_rule}
use Rattle.cedar.specs.Rows.{Row, rbool, rset, rrec, Entries}
use Rattle.cedar.specs.Table.{At, Elems, elem0, elem1, Named, name0, name1, dbool, drec, Table}
use Rattle.cedar.proofs.TableLaws.{number_inj}
use Rattle.cedar.specs.Making.{intern, sort_n}
use Rattle.cedar.proofs.MakingLaws.{intern_makes, set_denotes}
use Rattle.cedar.specs.Numbered.{NEnv, Give, Out, out, make, n_var, n_class_of, n_class, n_and_open, n_and, n_or_open, n_or, n_if, is_some, n_left, n_walk, n_path, numbers, entries, Outs, OutArgs, n_step_un, n_step_bin, n_step_rel, n_step_get, n_step_has, n_step_set, n_step_rec, n_interpret, n_interprets, n_interpret_args}
use Rattle.cedar.specs.Reads.{Reads, xlit, xerr, xvar, xand, xor, xite, xun, xbin, xrel, xget, xhas, xpath, xset, xrec, ReadsAll, xnil, xcons, ReadsArgs, xstop, xarg}
use Rattle.cedar.proofs.ReadsLaws.{StageReads, svalue, serror, sopen, Refines, keep_reads, keep_all, keep_args, same_ty, same_err, same_stage, as_is, makes, stricts1, stricts2, decides, and_then, row_denotes, on_bool_law}
use Rattle.cedar.proofs.ReadsOps.{un_reads, bin_reads, rel_reads, get_reads, has_reads, on_fields_law, OptAt, absent, there_at, entry_at, EnvRead, GiveRead, give_unknown, give_made, give_old, keep_env}
use Rattle.cedar.specs.Numbered as N
use Rattle.cedar.specs.Interpret as I

same_class : {C : List Value} {R : List Row} {s : Stage ℕ} {w : View} → Table R C → StageReads C s w → n_class_of R s ≡ class_of w
same_class t (svalue a) = on_bool_law ◌≡◌ refl truth truth (row_denotes t a) (λ b. refl)
same_class t serror = refl
same_class t sopen = refl

pub class_of_law : {C : List Value} {o : Out} {E : Expr} (k : Refines C o E) → n_class o ≡ class E
class_of_law k = same_class k.table (same_stage k.reads)

-- and, or, if

module _ (T : Ty) {C : List Value} {o : Out} {A : Expr} (k : Refines C o A) (f : List Row → Out) {B : Expr} (l : Refines k.contents (f o.rows) B) where
  with_lit : (b : Bool) (n : Node ℕ → Node ℕ → Node ℕ) (e : Expr → Expr → Expr) → ((D : List Value) (j : ℕ) → Reads D o.tree A → At D j (vbool b) → Reads D (n o.tree (lit T j)) (e A (lit T (vbool b))))
      → Refines C (out (intern (f o.rows).rows (rbool b)).rows (n o.tree (lit T (intern (f o.rows).rows (rbool b)).number))) (e A (lit T (vbool b)))
  with_lit b n e h = let m = intern_makes l.table (dbool {b = b}) in
      record {
        contents = m.contents;
        table = m.table;
        keeps = λ n v a. m.keeps n v (l.keeps n v (k.keeps n v a));
        reads = h m.contents _ (keep_reads (λ n v a. m.keeps n v (l.keeps n v a)) k.reads) m.at;
      }

  both_kept : {D : Expr} {e : Node ℕ} → Reads l.contents e D → Refines C (out (f o.rows).rows e) D
  both_kept h = and_then k (and_then l (as_is l.table h))

  left : Reads l.contents o.tree A
  left = keep_reads l.keeps k.reads

  and_cut : (c : Bool) → Refines C (cond c (out (intern (f o.rows).rows (rbool false)).rows (and T o.tree (lit T (intern (f o.rows).rows (rbool false)).number))) (make T (rbool false) (f o.rows).rows))
      (cond c (and T A (lit T (vbool false))) (lit T (vbool false)))
  and_cut true = with_lit false (and T) (and T) (λ D j p q. xand p (xlit q))
  and_cut false = and_then k (and_then l (makes l.table T dbool))

  and_open : (d : Class) → Refines C (n_and_open T o.tree (f o.rows) d) (simp_and T A B copen d)
  and_open ctrue = both_kept left
  and_open cfalse = rw (same_err k.reads) (and_cut (can_err A))
  and_open cerror = both_kept (xand left l.reads)
  and_open copen = both_kept (xand left l.reads)

  refine_and : (c : Class) → Refines C (n_and T o f c) (simp_and T A B c (class B))
  refine_and cfalse = and_then k (makes k.table T dbool)
  refine_and ctrue = and_then k l
  refine_and cerror = and_then k (as_is k.table xerr)
  refine_and copen = rw (class_of_law l) (and_open (class B))

  or_cut : (c : Bool) → Refines C (cond c (out (intern (f o.rows).rows (rbool true)).rows (or T o.tree (lit T (intern (f o.rows).rows (rbool true)).number))) (make T (rbool true) (f o.rows).rows))
      (cond c (or T A (lit T (vbool true))) (lit T (vbool true)))
  or_cut true = with_lit true (or T) (or T) (λ D j p q. xor p (xlit q))
  or_cut false = and_then k (and_then l (makes l.table T dbool))

  or_open : (d : Class) → Refines C (n_or_open T o.tree (f o.rows) d) (simp_or T A B copen d)
  or_open cfalse = both_kept left
  or_open ctrue = rw (same_err k.reads) (or_cut (can_err A))
  or_open cerror = both_kept (xor left l.reads)
  or_open copen = both_kept (xor left l.reads)

  refine_or : (c : Class) → Refines C (n_or T o f c) (simp_or T A B c (class B))
  refine_or ctrue = and_then k (makes k.table T dbool)
  refine_or cfalse = and_then k l
  refine_or cerror = and_then k (as_is k.table xerr)
  refine_or copen = rw (class_of_law l) (or_open (class B))

module _ (T : Ty) {C : List Value} {o : Out} {D : Expr} (k : Refines C o D) (f g : List Row → Out) {A B : Expr} where
  refine_if : (c : Class) → Refines k.contents (f o.rows) A → (Refines k.contents (g o.rows) B) → ((l : Refines k.contents (f o.rows) A) → Refines l.contents (g (f o.rows).rows) B) → Refines C (n_if T o f g c) (simp_if T D A B c)
  refine_if ctrue l m n = and_then k l
  refine_if cfalse l m n = and_then k m
  refine_if cerror l m n = and_then k (as_is k.table xerr)
  refine_if copen l m n = let p = n l in
      and_then k (and_then l (and_then p (as_is p.table (xite (keep_reads (λ x v a. p.keeps x v (l.keeps x v a)) k.reads) (keep_reads p.keeps l.reads) p.reads))))

-- lists of operands

data NumsRead (C : List Value) : Option (List ℕ) → Option Values → Type 0 where
  not_all : NumsRead C none none
  all_nums : {l : List ℕ} {vs : Values} → Elems C l vs → NumsRead C (some l) (some vs)

data EntriesRead (C : List Value) : Option Entries → Option Fields → Type 0 where
  not_all : EntriesRead C none none
  all_entries : {e : Entries} {fs : Fields} → Named C e fs → EntriesRead C (some e) (some fs)

module _ {C : List Value} where
  nums_read : {es : Nodes ℕ} {fs : Exprs} → ReadsAll C es fs → NumsRead C (numbers es) (values fs)
  nums_read xnil = all_nums elem0
  nums_read (xcons a h) = go (same_stage a) (nums_read h)
    where
      go : {s : Stage ℕ} {w : View} {o : Option (List ℕ)} {p : Option Values} → StageReads C s w → NumsRead C o p → NumsRead C (N.cons_n s o) (I.cons_v w p)
      go (svalue b) (all_nums e) = all_nums (elem1 b e)
      go (svalue b) not_all = not_all
      go serror n = not_all
      go sopen n = not_all

  entries_read : {gs : NodeArgs ℕ} {hs : Args} → ReadsArgs C gs hs → EntriesRead C (entries gs) (fields hs)
  entries_read xstop = all_entries name0
  entries_read (xarg {t = t} a h) = go (same_stage a) (entries_read h)
    where
      go : {s : Stage ℕ} {w : View} {o : Option Entries} {p : Option Fields} → StageReads C s w → EntriesRead C o p → EntriesRead C (N.entry_n t s o) (I.field_v t w p)
      go (svalue b) (all_entries e) = all_entries (name1 b e)
      go (svalue b) not_all = not_all
      go serror n = not_all
      go sopen n = not_all

  is_error_law : {s : Stage ℕ} {w : View} → StageReads C s w → is_error s ≡ is_error w
  is_error_law (svalue a) = refl
  is_error_law serror = refl
  is_error_law sopen = refl

  any_error_law : {es : Nodes ℕ} {fs : Exprs} → ReadsAll C es fs → any_error es ≡ any_error fs
  any_error_law xnil = refl
  any_error_law (xcons a h) = rw (is_error_law (same_stage a), any_error_law h)

  any_error_arg_law : {gs : NodeArgs ℕ} {hs : Args} → ReadsArgs C gs hs → any_error_arg gs ≡ any_error_arg hs
  any_error_arg_law xstop = refl
  any_error_arg_law (xarg a h) = rw (is_error_law (same_stage a), any_error_arg_law h)

record RefinesAll (C : List Value) (o : Outs) (fs : Exprs) : Type 0 where
  contents : List Value
  table : Table o.rows contents
  keeps : (n : ℕ) (v : Value) → At C n v → At contents n v
  reads : ReadsAll contents o.trees fs

record RefinesArgs (C : List Value) (o : OutArgs) (hs : Args) : Type 0 where
  contents : List Value
  table : Table o.rows contents
  keeps : (n : ℕ) (v : Value) → At C n v → At contents n v
  reads : ReadsArgs contents o.trees hs

module _ (S : Schema) (M : NEnv) (P : PEnv) where
  -- one operand
  module _ {C : List Value} {o : Out} {A : Expr} (k : Refines C o A) (env : EnvRead k.contents M P) (T : Ty) where
    refine_un : (u : Un) → Refines C (n_step_un S M T u o) (step_un S P T u A)
    refine_un u = and_then k (rw (same_err k.reads, same_ty k.reads)
        (decides k.table T (can_err A) (un_rule S u (ty_of A)) (stricts1 k.table T (xun k.reads) (same_stage k.reads) (λ n v a. un_reads k.contents S (number_inj k.table) u (row_denotes k.table a)))))

    refine_get : (t : ℕ) → Refines C (n_step_get S M T o t) (step_get S P T A t)
    refine_get t = and_then k (stricts1 k.table T (xget k.reads) (same_stage k.reads) (λ n v a. get_reads k.table env t (row_denotes k.table a)))

    refine_has : (t : ℕ) → Refines C (n_step_has S M T o t) (step_has S P T A t)
    refine_has t = and_then k (rw (same_err k.reads, same_ty k.reads)
        (decides k.table T (can_err A) (has_rule S t (ty_of A)) (stricts1 k.table T (xhas k.reads) (same_stage k.reads) (λ n v a. has_reads k.table env t (row_denotes k.table a)))))

  -- two
  module _ {C : List Value} {R : List Row} (t : Table R C) {a b : Node ℕ} {A B : Expr} (h : Reads C a A) (i : Reads C b B) (T : Ty) where
    refine_bin : (o : Bin) → Refines C (n_step_bin S M T o a (out R b)) (step_bin S P T o A B)
    refine_bin o = rw (same_err h, same_err i, same_ty h, same_ty i)
        (decides t T (can_err A || can_err B) (bin_rule S o (ty_of A) (ty_of B)) (stricts2 t T (xbin h i) (same_stage h) (same_stage i) (λ m n v w x y. bin_reads C (number_inj t) o x y (row_denotes t x) (row_denotes t y))))

    refine_rel : EnvRead C M P → (o : Rel) → Refines C (n_step_rel S M T o a (out R b)) (step_rel S P T o A B)
    refine_rel env o = rw (same_err h, same_err i, same_ty h, same_ty i)
        (decides t T (can_err A || can_err B) (rel_rule S o (ty_of A) (ty_of B)) (stricts2 t T (xrel h i) (same_stage h) (same_stage i) (λ m n v w x y. rel_reads t env o x y (row_denotes t x) (row_denotes t y))))

  -- haspath
  module _ {C : List Value} {R : List Row} (t : Table R C) (env : EnvRead C M P) (T : Ty) where
    left_reads : {a : Node ℕ} {A : Expr} (i : ℕ) (is : List ℕ) → Reads C a A → Refines C (n_left S M T a i is R) (left_path S T A i is)
    left_reads {A = A} i is h = rw (same_err h, same_ty h) (decides t T (can_err A) (has_rule S i (ty_of A)) (as_is t (xpath h)))

    found_reads : {x : Option ℕ} {y : Option Value} → OptAt C x y → Refines C (make T (rbool (is_some x)) R) (lit T (vbool (found y)))
    found_reads absent = makes t T dbool
    found_reads (there_at a) = makes t T dbool

    step_reads : {x : Option ℕ} {y : Option Value} {f : ℕ → Out} {g : Value → Expr} → ((n : ℕ) (v : Value) → At C n v → Refines C (f n) (g v)) → OptAt C x y → Refines C (on_some (make T (rbool false) R) x f) (on_some (lit T (vbool false)) y g)
    step_reads h absent = makes t T dbool
    step_reads h (there_at {n = n} {v = v} a) = h n v a

    walk_reads : (U : ℕ → Ty) (is : List ℕ) (i n : ℕ) (v : Value) → At C n v → Refines C (n_walk S M T R U is i n) (walk P S T U is i v)
    walk_reads U [] i n v a = on_fields_law t env (Refines C) (as_is t xerr) (λ k j. n_left S M T (lit (U k) n) i [] R) (λ k j. left_path S T (lit (U k) (vent k j)) i [])
        (λ e fs h. found_reads (entry_at i h)) (row_denotes t a) (λ k j q. left_reads i [] (xlit {T = U k} (subst (At C n) q a)))
    walk_reads U (u ∷ us) i n v a = on_fields_law t env (Refines C) (as_is t xerr) (λ k j. n_left S M T (lit (U k) n) i (u ∷ us) R) (λ k j. left_path S T (lit (U k) (vent k j)) i (u ∷ us))
        (λ e fs h. step_reads (walk_reads alone us u) (entry_at i h)) (row_denotes t a) (λ k j q. left_reads i (u ∷ us) (xlit {T = U k} (subst (At C n) q a)))

    path_reads : {a : Node ℕ} {A : Expr} (i : ℕ) (is : List ℕ) {s : Stage ℕ} {w : View} → Reads C a A → StageReads C s w → Refines C (n_path S M T a i is s R) (simp_path S P T A i is w)
    path_reads {A = A} i is h (svalue {n = n} {v = v} a) = rw (same_ty h) (walk_reads (λ k. ty_of A) is i n v a)
    path_reads i is h serror = as_is t xerr
    path_reads i is h sopen = left_reads i is h

  -- var, set, record
  refine_var : {C : List Value} {R : List Row} (t : Table R C) (T : Ty) {e : Node ℕ} {E : Expr} {g : Option Give} {o : Option Value} → Reads C e E → GiveRead C g o → Refines C (n_var S M T e g R) (step_var S P T E o)
  refine_var t T h give_unknown = as_is t h
  refine_var t T h (give_made d) = makes t T d
  refine_var t T h (give_old a) = as_is t (xlit a)

  refine_set : {C : List Value} {o : Outs} {fs : Exprs} (k : RefinesAll C o fs) (T : Ty) → Refines C (n_step_set S M T o) (step_set S P T fs)
  refine_set {C} {o} {fs} k T = back (go (nums_read k.reads))
    where
      back : {p : Out} {E : Expr} → Refines k.contents p E → Refines C p E
      back l = record { contents = l.contents; table = l.table; keeps = λ n v a. l.keeps n v (k.keeps n v a); reads = l.reads }

      kept : (b : Bool) → Reads k.contents (cond b (err T) (set T o.trees)) (cond b (err T) (set T fs))
      kept true = xerr
      kept false = xset k.reads

      go : {x : Option (List ℕ)} {y : Option Values} → NumsRead k.contents x y → Refines k.contents (on_some (out o.rows (cond (any_error o.trees) (err T) (set T o.trees))) x (λ l. make T (rset (sort_n l)) o.rows))
          (on_some (cond (any_error fs) (err T) (set T fs)) y (λ vs. lit T (make_set vs)))
      go not_all = rw (any_error_law k.reads) (as_is k.table (kept (any_error fs)))
      go (all_nums e) = makes k.table T (set_denotes e)

  refine_rec : {C : List Value} {o : OutArgs} {hs : Args} (k : RefinesArgs C o hs) (T : Ty) → Refines C (n_step_rec S M T o) (step_rec S P T hs)
  refine_rec {C} {o} {hs} k T = back (go (entries_read k.reads))
    where
      back : {p : Out} {E : Expr} → Refines k.contents p E → Refines C p E
      back l = record { contents = l.contents; table = l.table; keeps = λ n v a. l.keeps n v (k.keeps n v a); reads = l.reads }

      kept : (b : Bool) → Reads k.contents (cond b (err T) (rec T o.trees)) (cond b (err T) (rec T hs))
      kept true = xerr
      kept false = xrec k.reads

      go : {x : Option Entries} {y : Option Fields} → EntriesRead k.contents x y → Refines k.contents (on_some (out o.rows (cond (any_error_arg o.trees) (err T) (rec T o.trees))) x (λ e. make T (rrec e) o.rows))
          (on_some (cond (any_error_arg hs) (err T) (rec T hs)) y (λ fs. lit T (vrec fs)))
      go not_all = rw (any_error_arg_law k.reads) (as_is k.table (kept (any_error_arg hs)))
      go (all_entries e) = makes k.table T (drec e)

  mutual
    pub refine : (e : Node ℕ) {E : Expr} {C : List Value} {R : List Row} → Table R C → EnvRead C M P → Reads C e E → Refines C (n_interpret S M e R) (interpret S P E)
    refine (lit T n) t env (xlit a) = as_is t (xlit a)
    refine (err T) t env xerr = as_is t xerr
    refine (var T x) t env xvar = refine_var t T xvar (env.request x)
    refine (and T a b) t env (xand {d = A} h i) =
        let k = refine a t env h in
        let l = refine b k.table (keep_env k.keeps env) (keep_reads k.keeps i) in
        rw (class_of_law k) (refine_and T k (n_interpret S M b) l (class (interpret S P A)))
    refine (or T a b) t env (xor {d = A} h i) =
        let k = refine a t env h in
        let l = refine b k.table (keep_env k.keeps env) (keep_reads k.keeps i) in
        rw (class_of_law k) (refine_or T k (n_interpret S M b) l (class (interpret S P A)))
    refine (ite T c a b) t env (xite {f = D} g h i) =
        let k = refine c t env g in
        let l = refine a k.table (keep_env k.keeps env) (keep_reads k.keeps h) in
        let m = refine b k.table (keep_env k.keeps env) (keep_reads k.keeps i) in
        rw (class_of_law k) (refine_if T k (n_interpret S M a) (n_interpret S M b) (class (interpret S P D)) l m
        (λ p. refine b p.table (keep_env (λ n v x. p.keeps n v (k.keeps n v x)) env) (keep_reads (λ n v x. p.keeps n v (k.keeps n v x)) i)))
    refine (un T u a) t env (xun h) = let k = refine a t env h in refine_un k (keep_env k.keeps env) T u
    refine (bin T o a b) t env (xbin h i) =
        let k = refine a t env h in
        let l = refine b k.table (keep_env k.keeps env) (keep_reads k.keeps i) in
        and_then k (and_then l (refine_bin l.table (keep_reads l.keeps k.reads) l.reads T o))
    refine (rel T o a b) t env (xrel h i) =
        let k = refine a t env h in
        let l = refine b k.table (keep_env k.keeps env) (keep_reads k.keeps i) in
        and_then k (and_then l (refine_rel l.table (keep_reads l.keeps k.reads) l.reads T (keep_env (λ n v x. l.keeps n v (k.keeps n v x)) env) o))
    refine (get T a i) t env (xget h) = let k = refine a t env h in refine_get k (keep_env k.keeps env) T i
    refine (has T a i) t env (xhas h) = let k = refine a t env h in refine_has k (keep_env k.keeps env) T i
    refine (haspath T a i is) t env (xpath h) = let k = refine a t env h in and_then k (path_reads k.table (keep_env k.keeps env) T i is k.reads (same_stage k.reads))
    refine (set T es) t env (xset h) = refine_set (refine_all es t env h) T
    refine (rec T gs) t env (xrec h) = refine_rec (refine_args gs t env h) T

    refine_all : (es : Nodes ℕ) {fs : Exprs} {C : List Value} {R : List Row} → Table R C → EnvRead C M P → ReadsAll C es fs → RefinesAll C (n_interprets S M es R) (interprets S P fs)
    refine_all enil {C = C} t env xnil = record { contents = C; table = t; keeps = λ n v a. a; reads = xnil }
    refine_all (econs e es) t env (xcons a h) =
        let k = refine e t env a in
        let l = refine_all es k.table (keep_env k.keeps env) (keep_all k.keeps h) in
        record { contents = l.contents; table = l.table; keeps = λ n v x. l.keeps n v (k.keeps n v x); reads = xcons (keep_reads l.keeps k.reads) l.reads }

    refine_args : (gs : NodeArgs ℕ) {hs : Args} {C : List Value} {R : List Row} → Table R C → EnvRead C M P → ReadsArgs C gs hs → RefinesArgs C (n_interpret_args S M gs R) (interpret_args S P hs)
    refine_args gnil {C = C} t env xstop = record { contents = C; table = t; keeps = λ n v a. a; reads = xstop }
    refine_args (gcons i e gs) t env (xarg a h) =
        let k = refine e t env a in
        let l = refine_args gs k.table (keep_env k.keeps env) (keep_args k.keeps h) in
        record { contents = l.contents; table = l.table; keeps = λ n v x. l.keeps n v (k.keeps n v x); reads = xarg (keep_reads l.keeps k.reads) l.reads }
