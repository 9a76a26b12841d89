-- Document 01, "Interpretation", over value numbers: the rows grow by "made values .. in order of making". This is what the program computes.
-- Names begin with n where `Interpret` or `Evaluate` has the same by content; the sentences stand there.
use Rattle.std.specs.Prelude.{Bool, true, false, not, cond, ◌||◌, ◌&&◌, List, [], ◌∷◌, ℕ, eqb, get_or, ℤ, neg_ℤ, ◌+ℤ◌, ◌-ℤ◌, ◌*ℤ◌}
use Rattle.std.proofs.Math.Option.{Option, none, some}
use Rattle.std.specs.Int.Signed.{lt_z, le_z}
use Rattle.cedar.specs.Value.{on_some}
use Rattle.cedar.specs.Types.{Ty, Schema, Var}
use Rattle.cedar.specs.Residual.{Node, Nodes, NodeArgs, lit, err, var, and, or, ite, un, bin, rel, get, has, haspath, set, rec, enil, econs, gnil, gcons, Un, unot, uneg, uempty, uis, ulike, Bin, beq, blt, ble, badd, bsub, bmul, bcontains, ball, bany, Rel, rin, rgettag, rhastag, ty_of, can_err, Stage, value, error, open', view, Class, ctrue, cfalse, cerror, copen, truth, any_error, any_error_arg}
use Rattle.cedar.specs.Evaluate.{matches, is_nil, in_range}
use Rattle.cedar.specs.Interpret.{alone}
use Rattle.cedar.specs.TypeRules.{un_rule, bin_rule, rel_rule, has_rule}
use Rattle.cedar.specs.Rows.{Entries, stop, entry, Row, rbool, rlong, rtext, rent, rset, rrec}
use Rattle.cedar.specs.Making.{intern, sort_n}

-- What is given: a row that may have no number yet (principal, action, resource, the nothing of an unlisted entity), or a numbered value.
pub data Give : Type 0 where
  made : Row → Give
  old : ℕ → Give

-- Known parts of the request and of entity lines; `none` is unknown.
pub record NLine : Type 0 where
  pub attrs : Option Give
  pub tags : Option Give
  pub ancestors : Option Give

pub record NEnv : Type 0 where
  pub request : Var → Option Give
  pub line : ℕ → ℕ → Option NLine

-- "Unlisted entity on a partial sheet: .. It is unknown."
abbrev pub nline_or : Option NLine → NLine
nline_or none = record { attrs = none; tags = none; ancestors = none }
nline_or (some l) = l

abbrev pub nentity : NEnv → ℕ → ℕ → NLine
nentity N k t = nline_or (N.line k t)

-- The row of a number; every number in a tree has one.
abbrev pub row_at : List Row → ℕ → Row
row_at R n = get_or R n (rbool false)

abbrev pub give_row : List Row → Give → Row
give_row R (made r) = r
give_row R (old n) = row_at R n

-- Taking a row apart; `d` is the answer where the row is of another sort.
module _ {A : Type 0} (d : A) where
  abbrev pub r_bool : Row → (Bool → A) → A
  r_bool (rbool b) f = f b
  r_bool (rlong n) f = d
  r_bool (rtext t) f = d
  r_bool (rent k t) f = d
  r_bool (rset l) f = d
  r_bool (rrec e) f = d

  abbrev pub r_long : Row → (ℤ → A) → A
  r_long (rbool b) f = d
  r_long (rlong n) f = f n
  r_long (rtext t) f = d
  r_long (rent k t) f = d
  r_long (rset l) f = d
  r_long (rrec e) f = d

  abbrev pub r_text : Row → (ℕ → A) → A
  r_text (rbool b) f = d
  r_text (rlong n) f = d
  r_text (rtext t) f = f t
  r_text (rent k t) f = d
  r_text (rset l) f = d
  r_text (rrec e) f = d

  abbrev pub r_ent : Row → (ℕ → ℕ → A) → A
  r_ent (rbool b) f = d
  r_ent (rlong n) f = d
  r_ent (rtext t) f = d
  r_ent (rent k t) f = f k t
  r_ent (rset l) f = d
  r_ent (rrec e) f = d

  abbrev pub r_set : Row → (List ℕ → A) → A
  r_set (rbool b) f = d
  r_set (rlong n) f = d
  r_set (rtext t) f = d
  r_set (rent k t) f = d
  r_set (rset l) f = f l
  r_set (rrec e) f = d

  abbrev pub r_rec : Row → (Entries → A) → A
  r_rec (rbool b) f = d
  r_rec (rlong n) f = d
  r_rec (rtext t) f = d
  r_rec (rent k t) f = d
  r_rec (rset l) f = d
  r_rec (rrec e) f = f e

-- What an operation gives: a value, an error, or nothing, so that the node stays.
pub data NOut : Type 0 where
  give : Give → NOut
  fails stays : NOut

-- A bool; a long if it is in the 64-bit range.
abbrev pub truly : Bool → NOut
truly b = give (made (rbool b))

abbrev pub nlong : ℤ → NOut
nlong n = cond (in_range n) (give (made (rlong n))) fails

-- Sets by the numbers of their members; fields of records by text.
abbrev pub mem_n : ℕ → List ℕ → Bool
mem_n n [] = false
mem_n n (m ∷ l) = eqb n m || mem_n n l

abbrev pub all_n : List ℕ → List ℕ → Bool
all_n [] l = true
all_n (n ∷ k) l = mem_n n l && all_n k l

abbrev pub any_n : List ℕ → List ℕ → Bool
any_n [] l = false
any_n (n ∷ k) l = mem_n n l || any_n k l

abbrev pub pick_n : Bool → ℕ → Option ℕ → Option ℕ
pick_n true n o = some n
pick_n false n o = o

abbrev pub entry_of : ℕ → Entries → Option ℕ
entry_of t stop = none
entry_of t (entry u n e) = pick_n (eqb t u) n (entry_of t e)

abbrev pub is_some : Option ℕ → Bool
is_some none = false
is_some (some n) = true

abbrev pub or_fail : Option ℕ → NOut
or_fail none = fails
or_fail (some n) = give (old n)

-- Operations that look at no entity.
abbrev pub n_un : Schema → Un → Row → NOut
n_un S unot r = r_bool fails r (λ b. truly (not b))
n_un S uneg r = r_long fails r (λ n. nlong (neg_ℤ n))
n_un S uempty r = r_set fails r (λ l. truly (is_nil l))
n_un S (uis k) r = r_ent fails r (λ l t. truly (eqb k l))
n_un S (ulike p) r = r_text fails r (λ t. truly (matches S.bytes p (S.bytes t)))

-- Operands m and n have rows r and s. Equality is equality of numbers.
abbrev pub n_bin : Bin → ℕ → ℕ → Row → Row → NOut
n_bin beq m n r s = truly (eqb m n)
n_bin blt m n r s = r_long fails r (λ x. r_long fails s (λ y. truly (lt_z x y)))
n_bin ble m n r s = r_long fails r (λ x. r_long fails s (λ y. truly (le_z x y)))
n_bin badd m n r s = r_long fails r (λ x. r_long fails s (λ y. nlong (x +ℤ y)))
n_bin bsub m n r s = r_long fails r (λ x. r_long fails s (λ y. nlong (x -ℤ y)))
n_bin bmul m n r s = r_long fails r (λ x. r_long fails s (λ y. nlong (x *ℤ y)))
n_bin bcontains m n r s = r_set fails r (λ l. truly (mem_n n l))
n_bin ball m n r s = r_set fails r (λ l. r_set fails s (λ k. truly (all_n k l)))
n_bin bany m n r s = r_set fails r (λ l. r_set fails s (λ k. truly (any_n k l)))

-- Entities: what an entity may be in, and whether it is.

abbrev pub is_rent : Row → Bool
is_rent r = r_ent false r (λ k t. true)

abbrev pub all_rent : List Row → List ℕ → Bool
all_rent R [] = true
all_rent R (n ∷ l) = is_rent (row_at R n) && all_rent R l

abbrev pub n_targets : List Row → ℕ → Row → Option (List ℕ)
n_targets R n (rbool b) = none
n_targets R n (rlong x) = none
n_targets R n (rtext t) = none
n_targets R n (rent k t) = some (n ∷ [])
n_targets R n (rset l) = cond (all_rent R l) (some l) none
n_targets R n (rrec e) = none

abbrev pub n_in : List Row → ℕ → Option Give → List ℕ → NOut
n_in R m none l = cond (mem_n m l) (truly true) (cond (is_nil l) (truly false) stays)
n_in R m (some a) l = r_set fails (give_row R a) (λ k. truly (mem_n m l || any_n l k))

module _ (N : NEnv) (R : List Row) where
  abbrev pub n_rel : Rel → ℕ → ℕ → Row → Row → NOut
  n_rel rin m n r s = r_ent fails r (λ k t. on_some fails (n_targets R n s) (n_in R m (nentity N k t).ancestors))
  n_rel rgettag m n r s = r_ent fails r (λ k t. r_text fails s (λ u. on_some stays (nentity N k t).tags (λ a. r_rec fails (give_row R a) (λ e. or_fail (entry_of u e)))))
  n_rel rhastag m n r s = r_ent fails r (λ k t. r_text fails s (λ u. on_some stays (nentity N k t).tags (λ a. r_rec fails (give_row R a) (λ e. truly (is_some (entry_of u e))))))

  -- What is made of the fields of a record, or of an entity whose attributes are known.
  abbrev pub on_entries : {A : Type 0} → (bad : A) → (unknown : ℕ → ℕ → A) → Row → (Entries → A) → A
  on_entries d u (rbool b) f = d
  on_entries d u (rlong n) f = d
  on_entries d u (rtext t) f = d
  on_entries d u (rent k t) f = on_some (u k t) (nentity N k t).attrs (λ a. r_rec d (give_row R a) f)
  on_entries d u (rset l) f = d
  on_entries d u (rrec e) f = f e

  abbrev pub n_get : ℕ → Row → NOut
  n_get t r = on_entries fails (λ k i. stays) r (λ e. or_fail (entry_of t e))

  abbrev pub n_has : ℕ → Row → NOut
  n_has t r = on_entries fails (λ k i. stays) r (λ e. truly (is_some (entry_of t e)))

-- A result: the rows with what was made, and the tree that is left.

pub record Out : Type 0 where
  pub rows : List Row
  pub tree : Node ℕ

abbrev pub out : List Row → Node ℕ → Out
out R e = record { rows = R; tree = e }

-- "made values .. numbered on from the sheet's": the row is found or added, and its number is the literal.
abbrev pub make : Ty → Row → List Row → Out
make T r R = out (intern R r).rows (lit T (intern R r).number)

abbrev pub give_lit : Ty → Give → List Row → Out
give_lit T (made r) R = make T r R
give_lit T (old n) R = out R (lit T n)

-- The strict operations and the type rules, as in `Interpret`.
abbrev pub n_settle : Ty → Node ℕ → NOut → List Row → Out
n_settle T keep (give g) R = give_lit T g R
n_settle T keep fails R = out R (err T)
n_settle T keep stays R = out R keep

abbrev pub n_strict1 : Ty → Node ℕ → (ℕ → NOut) → Stage ℕ → List Row → Out
n_strict1 T keep f (value n) R = n_settle T keep (f n) R
n_strict1 T keep f error R = out R (err T)
n_strict1 T keep f open' R = out R keep

abbrev pub n_strict2 : Ty → Node ℕ → (ℕ → ℕ → NOut) → Stage ℕ → Stage ℕ → List Row → Out
n_strict2 T keep f (value m) (value n) R = n_settle T keep (f m n) R
n_strict2 T keep f (value m) error R = out R (err T)
n_strict2 T keep f (value m) open' R = out R keep
n_strict2 T keep f error y R = out R (err T)
n_strict2 T keep f open' (value n) R = out R keep
n_strict2 T keep f open' error R = out R (err T)
n_strict2 T keep f open' open' R = out R keep

abbrev pub n_by_rule : Ty → Bool → Option Bool → Out → List Row → Out
n_by_rule T true o r R = r
n_by_rule T false none r R = r
n_by_rule T false (some b) r R = make T (rbool b) R

-- What a bool operand or policy is called.
abbrev pub n_class_of : List Row → Stage ℕ → Class
n_class_of R (value n) = r_bool copen (row_at R n) truth
n_class_of R error = cerror
n_class_of R open' = copen

abbrev pub n_class : Out → Class
n_class o = n_class_of o.rows (view o.tree)

-- and, or, if: the left side or test is worked; the right side and the branches only where they are needed.
abbrev pub n_and_open : Ty → Node ℕ → Out → Class → Out
n_and_open T a o ctrue = out o.rows a
n_and_open T a o cfalse = cond (can_err a) (out (intern o.rows (rbool false)).rows (and T a (lit T (intern o.rows (rbool false)).number))) (make T (rbool false) o.rows)
n_and_open T a o cerror = out o.rows (and T a o.tree)
n_and_open T a o copen = out o.rows (and T a o.tree)

abbrev pub n_and : Ty → Out → (List Row → Out) → Class → Out
n_and T o k cfalse = make T (rbool false) o.rows
n_and T o k ctrue = k o.rows
n_and T o k cerror = out o.rows (err T)
n_and T o k copen = n_and_open T o.tree (k o.rows) (n_class (k o.rows))

abbrev pub n_or_open : Ty → Node ℕ → Out → Class → Out
n_or_open T a o cfalse = out o.rows a
n_or_open T a o ctrue = cond (can_err a) (out (intern o.rows (rbool true)).rows (or T a (lit T (intern o.rows (rbool true)).number))) (make T (rbool true) o.rows)
n_or_open T a o cerror = out o.rows (or T a o.tree)
n_or_open T a o copen = out o.rows (or T a o.tree)

abbrev pub n_or : Ty → Out → (List Row → Out) → Class → Out
n_or T o k ctrue = make T (rbool true) o.rows
n_or T o k cfalse = k o.rows
n_or T o k cerror = out o.rows (err T)
n_or T o k copen = n_or_open T o.tree (k o.rows) (n_class (k o.rows))

abbrev pub n_if_open : Ty → Node ℕ → Out → (List Row → Out) → Out
n_if_open T c o l = out (l o.rows).rows (ite T c o.tree (l o.rows).tree)

abbrev pub n_if : Ty → Out → (List Row → Out) → (List Row → Out) → Class → Out
n_if T o k l ctrue = k o.rows
n_if T o k l cfalse = l o.rows
n_if T o k l cerror = out o.rows (err T)
n_if T o k l copen = n_if_open T o.tree (k o.rows) l

-- Children of sets and records, if all are values.
abbrev pub cons_n : Stage ℕ → Option (List ℕ) → Option (List ℕ)
cons_n (value n) (some l) = some (n ∷ l)
cons_n (value n) none = none
cons_n error o = none
cons_n open' o = none

abbrev pub numbers : Nodes ℕ → Option (List ℕ)
numbers enil = some []
numbers (econs e es) = cons_n (view e) (numbers es)

abbrev pub entry_n : ℕ → Stage ℕ → Option Entries → Option Entries
entry_n t (value n) (some e) = some (entry t n e)
entry_n t (value n) none = none
entry_n t error o = none
entry_n t open' o = none

abbrev pub entries : NodeArgs ℕ → Option Entries
entries gnil = some stop
entries (gcons t e gs) = entry_n t (view e) (entries gs)

-- Results of children in turn.
pub record Outs : Type 0 where
  pub rows : List Row
  pub trees : Nodes ℕ

pub record OutArgs : Type 0 where
  pub rows : List Row
  pub trees : NodeArgs ℕ

-- The step of each operation, over its operands as interpreted.
module _ (S : Schema) (N : NEnv) where
  abbrev pub n_left : Ty → Node ℕ → ℕ → List ℕ → List Row → Out
  n_left T a t ts R = n_by_rule T (can_err a) (has_rule S t (ty_of a)) (out R (haspath T a t ts)) R

  abbrev pub n_walk : Ty → List Row → (ℕ → Ty) → List ℕ → ℕ → ℕ → Out
  n_walk T R U [] t n = on_entries N R (out R (err T)) (λ k i. n_left T (lit (U k) n) t [] R) (row_at R n) (λ e. make T (rbool (is_some (entry_of t e))) R)
  n_walk T R U (u ∷ us) t n = on_entries N R (out R (err T)) (λ k i. n_left T (lit (U k) n) t (u ∷ us) R) (row_at R n) (λ e. on_some (make T (rbool false) R) (entry_of t e) (n_walk T R alone us u))

  abbrev pub n_path : Ty → Node ℕ → ℕ → List ℕ → Stage ℕ → List Row → Out
  n_path T a t ts (value n) R = n_walk T R (λ k. ty_of a) ts t n
  n_path T a t ts error R = out R (err T)
  n_path T a t ts open' R = n_left T a t ts R

  abbrev pub n_var : Ty → Node ℕ → Option Give → List Row → Out
  n_var T e none R = out R e
  n_var T e (some g) R = give_lit T g R

  abbrev pub n_step_un : Ty → Un → Out → Out
  n_step_un T u o = n_by_rule T (can_err o.tree) (un_rule S u (ty_of o.tree)) (n_strict1 T (un T u o.tree) (λ n. n_un S u (row_at o.rows n)) (view o.tree) o.rows) o.rows

  abbrev pub n_step_bin : Ty → Bin → Node ℕ → Out → Out
  n_step_bin T p a o = n_by_rule T (can_err a || can_err o.tree) (bin_rule S p (ty_of a) (ty_of o.tree))
      (n_strict2 T (bin T p a o.tree) (λ m n. n_bin p m n (row_at o.rows m) (row_at o.rows n)) (view a) (view o.tree) o.rows) o.rows

  abbrev pub n_step_rel : Ty → Rel → Node ℕ → Out → Out
  n_step_rel T p a o = n_by_rule T (can_err a || can_err o.tree) (rel_rule S p (ty_of a) (ty_of o.tree))
      (n_strict2 T (rel T p a o.tree) (λ m n. n_rel N o.rows p m n (row_at o.rows m) (row_at o.rows n)) (view a) (view o.tree) o.rows) o.rows

  abbrev pub n_step_get : Ty → Out → ℕ → Out
  n_step_get T o t = n_strict1 T (get T o.tree t) (λ n. n_get N o.rows t (row_at o.rows n)) (view o.tree) o.rows

  abbrev pub n_step_has : Ty → Out → ℕ → Out
  n_step_has T o t = n_by_rule T (can_err o.tree) (has_rule S t (ty_of o.tree)) (n_strict1 T (has T o.tree t) (λ n. n_has N o.rows t (row_at o.rows n)) (view o.tree) o.rows) o.rows

  abbrev pub n_step_set : Ty → Outs → Out
  n_step_set T o = on_some (out o.rows (cond (any_error o.trees) (err T) (set T o.trees))) (numbers o.trees) (λ l. make T (rset (sort_n l)) o.rows)

  abbrev pub n_step_rec : Ty → OutArgs → Out
  n_step_rec T o = on_some (out o.rows (cond (any_error_arg o.trees) (err T) (rec T o.trees))) (entries o.trees) (λ e. make T (rrec e) o.rows)

  -- Operands in turn, each worked once and its rows handed on.
  abbrev pub then_and : Ty → Out → (List Row → Out) → Out
  then_and T o k = n_and T o k (n_class o)

  abbrev pub then_or : Ty → Out → (List Row → Out) → Out
  then_or T o k = n_or T o k (n_class o)

  abbrev pub then_if : Ty → Out → (List Row → Out) → (List Row → Out) → Out
  then_if T o k l = n_if T o k l (n_class o)

  abbrev pub then_bin : Ty → Bin → Out → (List Row → Out) → Out
  then_bin T p o k = n_step_bin T p o.tree (k o.rows)

  abbrev pub then_rel : Ty → Rel → Out → (List Row → Out) → Out
  then_rel T p o k = n_step_rel T p o.tree (k o.rows)

  abbrev pub n_step_path : Ty → Out → ℕ → List ℕ → Out
  n_step_path T o t ts = n_path T o.tree t ts (view o.tree) o.rows

  abbrev pub join_all : Node ℕ → Outs → Outs
  join_all e o = record { rows = o.rows; trees = econs e o.trees }

  abbrev pub then_all : Out → (List Row → Outs) → Outs
  then_all o k = join_all o.tree (k o.rows)

  abbrev pub join_args : ℕ → Node ℕ → OutArgs → OutArgs
  join_args t e o = record { rows = o.rows; trees = gcons t e o.trees }

  abbrev pub then_args : ℕ → Out → (List Row → OutArgs) → OutArgs
  then_args t o k = join_args t o.tree (k o.rows)

  -- "children left to right; an unknown part leaves the node"
  abbrev mutual
    pub n_interpret : Node ℕ → List Row → Out
    n_interpret (lit T n) R = out R (lit T n)
    n_interpret (err T) R = out R (err T)
    n_interpret (var T x) R = n_var T (var T x) (N.request x) R
    n_interpret (and T a b) R = then_and T (n_interpret a R) (n_interpret b)
    n_interpret (or T a b) R = then_or T (n_interpret a R) (n_interpret b)
    n_interpret (ite T c a b) R = then_if T (n_interpret c R) (n_interpret a) (n_interpret b)
    n_interpret (un T u a) R = n_step_un T u (n_interpret a R)
    n_interpret (bin T o a b) R = then_bin T o (n_interpret a R) (n_interpret b)
    n_interpret (rel T o a b) R = then_rel T o (n_interpret a R) (n_interpret b)
    n_interpret (get T a t) R = n_step_get T (n_interpret a R) t
    n_interpret (has T a t) R = n_step_has T (n_interpret a R) t
    n_interpret (haspath T a t ts) R = n_step_path T (n_interpret a R) t ts
    n_interpret (set T es) R = n_step_set T (n_interprets es R)
    n_interpret (rec T gs) R = n_step_rec T (n_interpret_args gs R)

    pub n_interprets : Nodes ℕ → List Row → Outs
    n_interprets enil R = record { rows = R; trees = enil }
    n_interprets (econs e es) R = then_all (n_interpret e R) (n_interprets es)

    pub n_interpret_args : NodeArgs ℕ → List Row → OutArgs
    n_interpret_args gnil R = record { rows = R; trees = gnil }
    n_interpret_args (gcons t e gs) R = then_args t (n_interpret e R) (n_interpret_args gs)
