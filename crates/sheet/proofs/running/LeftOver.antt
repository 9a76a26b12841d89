-- What interpretation leaves of a tree, and what it makes: a residual has no texts of its own, and the rows only grow, by bools, longs of 64 bits, the entities asked for, sets, and records with the tree's texts.
use mathlib.Core.Path.{◌≡◌, refl, sym, ◌∙◌, ap, subst}
use mathlib.Core.Bool.{Bool, true, false, cond, ◌||◌}
use mathlib.Core.Option.{Option, none, some, some-injective}
use mathlib.Core.List.{List, [], ◌∷◌, ◌++◌, append_assoc, append-nil}
use Prim.Native.Nat.{ℕ}
use Rattle.cedar.proofs.Tools.{no_some}
use Rattle.cedar.specs.Value.{on_some}
use Rattle.cedar.specs.Types.{Ty, Schema, Var}
use Rattle.cedar.specs.Residual.{Node, Nodes, NodeArgs, lit, err, var, and, or, ite, un, bin, rel, get, has, haspath, set, rec, enil, econs, gnil, gcons, Un, Bin, Rel, ty_of, can_err, Stage, value, error, open', view, Class, ctrue, cfalse, cerror, copen, any_error, any_error_arg}
use Rattle.cedar.specs.TypeRules.{un_rule, bin_rule, rel_rule, has_rule}
use Rattle.cedar.specs.Rows.{Entries, stop, entry, Row, rbool, rlong, rtext, rent, rset, rrec}
use Rattle.cedar.specs.Making.{intern, or_add, find_row, sort_n}
use Rattle.cedar.specs.Interpret.{alone}
use Rattle.cedar.specs.Numbered.{Give, made, old, NEnv, row_at, NOut, give, fails, stays, entry_of, is_some, n_un, n_bin, n_rel, n_get, n_has, Out, out, make, give_lit, n_settle, n_strict1, n_strict2, n_by_rule, n_class, n_and_open, n_and, n_or_open, n_or, n_if, entry_n, numbers, entries, Outs, OutArgs, n_left, n_walk, n_path, n_var, n_step_un, n_step_bin, n_step_rel, n_step_get, n_step_has, n_step_set, n_step_rec, n_interpret, n_interprets, n_interpret_args}
use Rattle.cedar.specs.Runs.{NPolicy, NVerdict, Run, n_run}
use Rattle.sheet.specs.Forms.{TEXT, KIND}
use Rattle.sheet.proofs.answer.DigitsBack.{IsLong, in_range_law}
use Rattle.sheet.proofs.answer.TreesBack.{SmallTexts, Small, SmallAll, SmallArgs}
use Rattle.cedar.proofs.Outcomes.{Basic, GiveIs, OutIs, e_some, e_entries, made_un, made_bin, made_rel, made_get, made_has}

-- ---- what may be left of a tree

-- the rest of a path
pub data Along : ℕ → List ℕ → ℕ → List ℕ → Type 0 where
  here : {t : ℕ} {ts : List ℕ} → Along t ts t ts
  on : {t u v : ℕ} {us vs : List ℕ} → Along u us v vs → Along t (u ∷ us) v vs

mutual
  pub data Left : Node ℕ → Node ℕ → Type 0 where
    as_lit : {e : Node ℕ} {T : Ty} {n : ℕ} → Left e (lit T n)
    as_err : {e : Node ℕ} {T : Ty} → Left e (err T)
    as_var : {T : Ty} {x : Var} → Left (var T x) (var T x)
    in_and : {T : Ty} {a b c d : Node ℕ} → Left a c → Left b d → Left (and T a b) (and T c d)
    and_one : {T : Ty} {a b c : Node ℕ} → Left a c → Left (and T a b) c
    and_two : {T : Ty} {a b c : Node ℕ} → Left b c → Left (and T a b) c
    in_or : {T : Ty} {a b c d : Node ℕ} → Left a c → Left b d → Left (or T a b) (or T c d)
    or_one : {T : Ty} {a b c : Node ℕ} → Left a c → Left (or T a b) c
    or_two : {T : Ty} {a b c : Node ℕ} → Left b c → Left (or T a b) c
    in_if : {T : Ty} {a b c d e f : Node ℕ} → Left a d → Left b e → Left c f → Left (ite T a b c) (ite T d e f)
    if_one : {T : Ty} {a b c e : Node ℕ} → Left b e → Left (ite T a b c) e
    if_two : {T : Ty} {a b c e : Node ℕ} → Left c e → Left (ite T a b c) e
    in_un : {T : Ty} {u : Un} {a c : Node ℕ} → Left a c → Left (un T u a) (un T u c)
    in_bin : {T : Ty} {o : Bin} {a b c d : Node ℕ} → Left a c → Left b d → Left (bin T o a b) (bin T o c d)
    in_rel : {T : Ty} {o : Rel} {a b c d : Node ℕ} → Left a c → Left b d → Left (rel T o a b) (rel T o c d)
    in_get : {T : Ty} {a c : Node ℕ} {t : ℕ} → Left a c → Left (get T a t) (get T c t)
    in_has : {T : Ty} {a c : Node ℕ} {t : ℕ} → Left a c → Left (has T a t) (has T c t)
    in_path : {T : Ty} {a c : Node ℕ} {t : ℕ} {ts : List ℕ} → Left a c → Left (haspath T a t ts) (haspath T c t ts)
    on_path : {T A : Ty} {a : Node ℕ} {t u n : ℕ} {ts us : List ℕ} → Along t ts u us → Left (haspath T a t ts) (haspath T (lit A n) u us)
    in_set : {T : Ty} {es fs : Nodes ℕ} → LeftAll es fs → Left (set T es) (set T fs)
    in_rec : {T : Ty} {gs hs : NodeArgs ℕ} → LeftArgs gs hs → Left (rec T gs) (rec T hs)

  pub data LeftAll : Nodes ℕ → Nodes ℕ → Type 0 where
    left_nil : LeftAll enil enil
    left_cons : {a c : Node ℕ} {es fs : Nodes ℕ} → Left a c → LeftAll es fs → LeftAll (econs a es) (econs c fs)

  pub data LeftArgs : NodeArgs ℕ → NodeArgs ℕ → Type 0 where
    left_stop : LeftArgs gnil gnil
    left_arg : {t : ℕ} {a c : Node ℕ} {gs hs : NodeArgs ℕ} → Left a c → LeftArgs gs hs → LeftArgs (gcons t a gs) (gcons t c hs)

-- of any literal
abbrev pub Any : ℕ → Type 0
Any n = Unit {0}

module _ (N : ℕ → ℕ → Type 0) where
  along_small : {t u : ℕ} {ts us : List ℕ} → Along t ts u us → SmallTexts N (t ∷ ts) → SmallTexts N (u ∷ us)
  along_small here h = h
  along_small (on p) h = along_small p h.1

  -- it has the tree's texts and kinds
  mutual
    pub left_small : {e r : Node ℕ} → Left e r → Small N Any e → Small N Any r
    left_small as_lit h = tt
    left_small as_err h = tt
    left_small as_var h = tt
    left_small (in_and a b) h = (left_small a h.0, left_small b h.1)
    left_small (and_one a) h = left_small a h.0
    left_small (and_two b) h = left_small b h.1
    left_small (in_or a b) h = (left_small a h.0, left_small b h.1)
    left_small (or_one a) h = left_small a h.0
    left_small (or_two b) h = left_small b h.1
    left_small (in_if a b c) h = (left_small a h.0, left_small b h.1, left_small c h.2)
    left_small (if_one b) h = left_small b h.1
    left_small (if_two c) h = left_small c h.2
    left_small (in_un a) h = (h.0, left_small a h.1)
    left_small (in_bin a b) h = (left_small a h.0, left_small b h.1)
    left_small (in_rel a b) h = (left_small a h.0, left_small b h.1)
    left_small (in_get a) h = (h.0, left_small a h.1)
    left_small (in_has a) h = (h.0, left_small a h.1)
    left_small (in_path a) h = (h.0, left_small a h.1)
    left_small (on_path p) h = (along_small p h.0, tt)
    left_small (in_set k) h = left_all_small k h
    left_small (in_rec k) h = left_args_small k h

    left_all_small : {es fs : Nodes ℕ} → LeftAll es fs → SmallAll N Any es → SmallAll N Any fs
    left_all_small left_nil h = tt
    left_all_small (left_cons a k) h = (left_small a h.0, left_all_small k h.1)

    left_args_small : {gs hs : NodeArgs ℕ} → LeftArgs gs hs → SmallArgs N Any gs → SmallArgs N Any hs
    left_args_small left_stop h = tt
    left_args_small (left_arg a k) h = (h.0, left_small a h.1, left_args_small k h.2)

-- ---- what may be made: N of its texts and kinds

abbrev pub SmallNames : (ℕ → ℕ → Type 0) → Entries → Type 0
SmallNames N stop = Unit {0}
SmallNames N (entry t n e) = N TEXT t × SmallNames N e

abbrev pub MadeOk : (ℕ → ℕ → Type 0) → Row → Type 0
MadeOk N (rbool b) = Unit {0}
MadeOk N (rlong z) = IsLong z
MadeOk N (rtext t) = N TEXT t
MadeOk N (rent k t) = N KIND k × N TEXT t
MadeOk N (rset l) = Unit {0}
MadeOk N (rrec e) = SmallNames N e

abbrev pub AllMade : (ℕ → ℕ → Type 0) → List Row → Type 0
AllMade N [] = Unit {0}
AllMade N (r ∷ R) = MadeOk N r × AllMade N R

-- rows that grew
pub record Grown (N : ℕ → ℕ → Type 0) (R R' : List Row) : Type 0 where
  pub more : List Row
  pub good : AllMade N more
  pub grew : R' ≡ R ++ more

abbrev pub GiveMade : (ℕ → ℕ → Type 0) → Give → Type 0
GiveMade N g = GiveIs (MadeOk N) g

abbrev OutMade : (ℕ → ℕ → Type 0) → NOut → Type 0
OutMade N o = OutIs (MadeOk N) o

-- a step: what it leaves of e, and the rows grown from R
pub record Leaves (N : ℕ → ℕ → Type 0) (e : Node ℕ) (R : List Row) (o : Out) : Type 0 where
  pub left : Left e o.tree
  pub grown : Grown N R o.rows

record LeavesAll (N : ℕ → ℕ → Type 0) (es : Nodes ℕ) (R : List Row) (o : Outs) : Type 0 where
  left : LeftAll es o.trees
  grown : Grown N R o.rows

record LeavesArgs (N : ℕ → ℕ → Type 0) (gs : NodeArgs ℕ) (R : List Row) (o : OutArgs) : Type 0 where
  left : LeftArgs gs o.trees
  grown : Grown N R o.rows

-- of all policies
abbrev pub PoliciesSmall : (ℕ → ℕ → Type 0) → List NPolicy → Type 0
PoliciesSmall N [] = Unit {0}
PoliciesSmall N (p ∷ ps) = Small N Any p.tree × PoliciesSmall N ps

pub data LeftLines : List NPolicy → List NVerdict → Type 0 where
  no_lines : LeftLines [] []
  one_line : {p : NPolicy} {ps : List NPolicy} {l : NVerdict} {ls : List NVerdict} → Left p.tree l.root → LeftLines ps ls → LeftLines (p ∷ ps) (l ∷ ls)

pub record RunLeaves (N : ℕ → ℕ → Type 0) (ps : List NPolicy) (R : List Row) (r : Run) : Type 0 where
  pub lines : LeftLines ps r.lines
  pub rows : Grown N R r.rows

module _ (N : ℕ → ℕ → Type 0) where
  pub same_rows : (R : List Row) → Grown N R R
  same_rows R = record { more = []; good = tt; grew = sym (append-nil R) }

  made_append : (k l : List Row) → AllMade N k → AllMade N l → AllMade N (k ++ l)
  made_append [] l g h = h
  made_append (r ∷ k) l g h = (g.0, made_append k l g.1 h)

  pub grow_on : {R R' R'' : List Row} → Grown N R R' → Grown N R' R'' → Grown N R R''
  grow_on {R} g h = record { more = g.more ++ h.more; good = made_append g.more h.more g.good h.good; grew = h.grew ∙ ap (λ z. z ++ h.more) g.grew ∙ append_assoc R g.more h.more }

  intern_grows : (R : List Row) (r : Row) → MadeOk N r → Grown N R (intern R r).rows
  intern_grows R r k = go (find_row r R)
    where
      go : (o : Option ℕ) → Grown N R (or_add o R r).rows
      go none = record { more = r ∷ []; good = (k, tt); grew = refl }
      go (some n) = same_rows R

  made_ok : Basic (MadeOk N)
  made_ok = record { bools = λ b. tt; longs = in_range_law }

  -- ---- steps

  after : {e : Node ℕ} {R R' : List Row} (o : Out) → Grown N R R' → Leaves N e R' o → Leaves N e R o
  after o g l = record { left = l.left; grown = grow_on g l.grown }

  module _ {e : Node ℕ} (R : List Row) where
    stay : (k : Node ℕ) → Left e k → Leaves N e R (out R k)
    stay k l = record { left = l; grown = same_rows R }

    makes : (T : Ty) (r : Row) → MadeOk N r → Leaves N e R (make T r R)
    makes T r k = record { left = as_lit; grown = intern_grows R r k }

    gives : (T : Ty) (g : Give) → GiveMade N g → Leaves N e R (give_lit T g R)
    gives T (made r) k = makes T r k
    gives T (old n) k = stay (lit T n) as_lit

    settles : (T : Ty) (keep : Node ℕ) → Left e keep → (o : NOut) → OutMade N o → Leaves N e R (n_settle T keep o R)
    settles T keep l (give g) k = gives T g k
    settles T keep l fails k = stay (err T) as_err
    settles T keep l stays k = stay keep l

    strict1 : (T : Ty) (keep : Node ℕ) → Left e keep → (f : ℕ → NOut) → ((n : ℕ) → OutMade N (f n)) → (x : Stage ℕ) → Leaves N e R (n_strict1 T keep f x R)
    strict1 T keep l f k (value n) = settles T keep l (f n) (k n)
    strict1 T keep l f k error = stay (err T) as_err
    strict1 T keep l f k open' = stay keep l

    strict2 : (T : Ty) (keep : Node ℕ) → Left e keep → (f : ℕ → ℕ → NOut) → ((m n : ℕ) → OutMade N (f m n)) → (x y : Stage ℕ) → Leaves N e R (n_strict2 T keep f x y R)
    strict2 T keep l f k (value m) (value n) = settles T keep l (f m n) (k m n)
    strict2 T keep l f k (value m) error = stay (err T) as_err
    strict2 T keep l f k (value m) open' = stay keep l
    strict2 T keep l f k error y = stay (err T) as_err
    strict2 T keep l f k open' (value n) = stay keep l
    strict2 T keep l f k open' error = stay (err T) as_err
    strict2 T keep l f k open' open' = stay keep l

    decides : (T : Ty) (c : Bool) (o : Option Bool) (r : Out) → Leaves N e R r → Leaves N e R (n_by_rule T c o r R)
    decides T true o r h = h
    decides T false none r h = h
    decides T false (some b) r h = makes T (rbool b) tt

  -- and, or, if: o is the left side worked over R, k what goes on with its rows
  module _ (T : Ty) {a b : Node ℕ} {R : List Row} (o : Out) (h : Leaves N a R o) (k : List Row → Out) (g : Leaves N b o.rows (k o.rows)) where
    two_rows : Grown N R (k o.rows).rows
    two_rows = grow_on h.grown g.grown

    leaves_and_open : (c : Class) → Leaves N (and T a b) R (n_and_open T o.tree (k o.rows) c)
    leaves_and_open ctrue = record { left = and_one h.left; grown = two_rows }
    leaves_and_open cfalse = go (can_err o.tree)
      where
        go : (c : Bool) → Leaves N (and T a b) R (cond c (out (intern (k o.rows).rows (rbool false)).rows (and T o.tree (lit T (intern (k o.rows).rows (rbool false)).number))) (make T (rbool false) (k o.rows).rows))
        go true = record { left = in_and h.left as_lit; grown = grow_on two_rows (intern_grows (k o.rows).rows (rbool false) tt) }
        go false = after (make T (rbool false) (k o.rows).rows) two_rows (makes (k o.rows).rows T (rbool false) tt)
    leaves_and_open cerror = record { left = in_and h.left g.left; grown = two_rows }
    leaves_and_open copen = record { left = in_and h.left g.left; grown = two_rows }

    leaves_and : (c : Class) → Leaves N (and T a b) R (n_and T o k c)
    leaves_and cfalse = after (make T (rbool false) o.rows) h.grown (makes o.rows T (rbool false) tt)
    leaves_and ctrue = record { left = and_two g.left; grown = two_rows }
    leaves_and cerror = record { left = as_err; grown = h.grown }
    leaves_and copen = leaves_and_open (n_class (k o.rows))

    leaves_or_open : (c : Class) → Leaves N (or T a b) R (n_or_open T o.tree (k o.rows) c)
    leaves_or_open cfalse = record { left = or_one h.left; grown = two_rows }
    leaves_or_open ctrue = go (can_err o.tree)
      where
        go : (c : Bool) → Leaves N (or T a b) R (cond c (out (intern (k o.rows).rows (rbool true)).rows (or T o.tree (lit T (intern (k o.rows).rows (rbool true)).number))) (make T (rbool true) (k o.rows).rows))
        go true = record { left = in_or h.left as_lit; grown = grow_on two_rows (intern_grows (k o.rows).rows (rbool true) tt) }
        go false = after (make T (rbool true) (k o.rows).rows) two_rows (makes (k o.rows).rows T (rbool true) tt)
    leaves_or_open cerror = record { left = in_or h.left g.left; grown = two_rows }
    leaves_or_open copen = record { left = in_or h.left g.left; grown = two_rows }

    leaves_or : (c : Class) → Leaves N (or T a b) R (n_or T o k c)
    leaves_or ctrue = after (make T (rbool true) o.rows) h.grown (makes o.rows T (rbool true) tt)
    leaves_or cfalse = record { left = or_two g.left; grown = two_rows }
    leaves_or cerror = record { left = as_err; grown = h.grown }
    leaves_or copen = leaves_or_open (n_class (k o.rows))

    leaves_if : {c : Node ℕ} (l : List Row → Out) → Leaves N c o.rows (l o.rows) → Leaves N c (k o.rows).rows (l (k o.rows).rows) → (d : Class) → Leaves N (ite T a b c) R (n_if T o k l d)
    leaves_if l i j ctrue = record { left = if_one g.left; grown = two_rows }
    leaves_if l i j cfalse = record { left = if_two i.left; grown = grow_on h.grown i.grown }
    leaves_if l i j cerror = record { left = as_err; grown = h.grown }
    leaves_if l i j copen = record { left = in_if h.left g.left j.left; grown = grow_on two_rows j.grown }

  -- ---- the whole interpretation

  names_small : (gs : NodeArgs ℕ) → SmallArgs N Any gs → (e : Entries) → entries gs ≡ some e → SmallNames N e
  names_small gnil h e q = subst (SmallNames N) (some-injective _ _ q) tt
  names_small (gcons t a gs) h e q = go (view a) (entries gs) refl (λ d p. names_small gs h.2 d p) q
    where
      go : (x : Stage ℕ) (o : Option Entries) → entries gs ≡ o → ((d : Entries) → entries gs ≡ some d → SmallNames N d) → entry_n t x o ≡ some e → SmallNames N e
      go (value n) (some d) p f r = subst (SmallNames N) (some-injective _ _ r) (h.0, f d p)
      go (value n) none p f r = no_some r
      go error o p f r = no_some r
      go open' o p f r = no_some r

  module _ (S : Schema) (M : NEnv) (asked : (x : Var) (g : Give) → M.request x ≡ some g → GiveMade N g) where
    leaves_var : (T : Ty) (x : Var) (o : Option Give) (R : List Row) → ((g : Give) → o ≡ some g → GiveMade N g) → Leaves N (var T x) R (n_var S M T (var T x) o R)
    leaves_var T x none R k = stay R (var T x) as_var
    leaves_var T x (some g) R k = gives R T g (k g refl)

    module _ {e : Node ℕ} (T : Ty) (R : List Row) where
      leaves_left : (a : Node ℕ) (t : ℕ) (ts : List ℕ) → Left e (haspath T a t ts) → Leaves N e R (n_left S M T a t ts R)
      leaves_left a t ts l = decides R T (can_err a) (has_rule S t (ty_of a)) (out R (haspath T a t ts)) (stay R (haspath T a t ts) l)

      leaves_walk : (U : ℕ → Ty) (us : List ℕ) (t : ℕ) → ((A : Ty) (m v : ℕ) (vs : List ℕ) → Along t us v vs → Left e (haspath T (lit A m) v vs)) → (n : ℕ) → Leaves N e R (n_walk S M T R U us t n)
      leaves_walk U [] t f n = e_entries (Leaves N e R) (out R (err T)) (stay R (err T) as_err) M R (λ k i. n_left S M T (lit (U k) n) t [] R) (λ k i. leaves_left (lit (U k) n) t [] (f (U k) n t [] here))
          (λ d. make T (rbool (is_some (entry_of t d))) R) (λ d. makes R T (rbool (is_some (entry_of t d))) tt) (row_at R n)
      leaves_walk U (u ∷ us) t f n = e_entries (Leaves N e R) (out R (err T)) (stay R (err T) as_err) M R (λ k i. n_left S M T (lit (U k) n) t (u ∷ us) R) (λ k i. leaves_left (lit (U k) n) t (u ∷ us) (f (U k) n t (u ∷ us) here))
          (λ d. on_some (make T (rbool false) R) (entry_of t d) (n_walk S M T R alone us u)) (λ d. e_some (Leaves N e R) (make T (rbool false) R) (makes R T (rbool false) tt) (entry_of t d) (n_walk S M T R alone us u) (λ x. leaves_walk alone us u (λ A m v vs p. f A m v vs (on p)) x)) (row_at R n)

    leaves_path : (T : Ty) (a : Node ℕ) (t : ℕ) (ts : List ℕ) {R : List Row} (o : Out) → Leaves N a R o → (x : Stage ℕ) → Leaves N (haspath T a t ts) R (n_path S M T o.tree t ts x o.rows)
    leaves_path T a t ts o h (value n) = after (n_walk S M T o.rows (λ k. ty_of o.tree) ts t n) h.grown (leaves_walk T o.rows (λ k. ty_of o.tree) ts t (λ A m v vs p. on_path p) n)
    leaves_path T a t ts o h error = record { left = as_err; grown = h.grown }
    leaves_path T a t ts o h open' = after (n_left S M T o.tree t ts o.rows) h.grown (leaves_left T o.rows o.tree t ts (in_path h.left))

    leaves_un : (T : Ty) (u : Un) (a : Node ℕ) {R : List Row} (o : Out) → Leaves N a R o → Leaves N (un T u a) R (n_step_un S M T u o)
    leaves_un T u a o h = after (n_step_un S M T u o) h.grown (decides o.rows T (can_err o.tree) (un_rule S u (ty_of o.tree)) _
        (strict1 o.rows T (un T u o.tree) (in_un h.left) (λ n. n_un S u (row_at o.rows n)) (λ n. made_un made_ok S u (row_at o.rows n)) (view o.tree)))

    leaves_bin : (T : Ty) (p : Bin) (a b : Node ℕ) {R : List Row} (q o : Out) → Leaves N a R q → Leaves N b q.rows o → Leaves N (bin T p a b) R (n_step_bin S M T p q.tree o)
    leaves_bin T p a b q o g h = after (n_step_bin S M T p q.tree o) (grow_on g.grown h.grown) (decides o.rows T (can_err q.tree || can_err o.tree) (bin_rule S p (ty_of q.tree) (ty_of o.tree)) _
        (strict2 o.rows T (bin T p q.tree o.tree) (in_bin g.left h.left) (λ m n. n_bin p m n (row_at o.rows m) (row_at o.rows n)) (λ m n. made_bin made_ok p m n (row_at o.rows m) (row_at o.rows n)) (view q.tree) (view o.tree)))

    leaves_rel : (T : Ty) (p : Rel) (a b : Node ℕ) {R : List Row} (q o : Out) → Leaves N a R q → Leaves N b q.rows o → Leaves N (rel T p a b) R (n_step_rel S M T p q.tree o)
    leaves_rel T p a b q o g h = after (n_step_rel S M T p q.tree o) (grow_on g.grown h.grown) (decides o.rows T (can_err q.tree || can_err o.tree) (rel_rule S p (ty_of q.tree) (ty_of o.tree)) _
        (strict2 o.rows T (rel T p q.tree o.tree) (in_rel g.left h.left) (λ m n. n_rel M o.rows p m n (row_at o.rows m) (row_at o.rows n)) (λ m n. made_rel made_ok M o.rows p m n (row_at o.rows m) (row_at o.rows n)) (view q.tree) (view o.tree)))

    leaves_get : (T : Ty) (a : Node ℕ) (t : ℕ) {R : List Row} (o : Out) → Leaves N a R o → Leaves N (get T a t) R (n_step_get S M T o t)
    leaves_get T a t o h = after (n_step_get S M T o t) h.grown (strict1 o.rows T (get T o.tree t) (in_get h.left) (λ n. n_get M o.rows t (row_at o.rows n))
        (λ n. made_get made_ok M o.rows t (row_at o.rows n)) (view o.tree))

    leaves_has : (T : Ty) (a : Node ℕ) (t : ℕ) {R : List Row} (o : Out) → Leaves N a R o → Leaves N (has T a t) R (n_step_has S M T o t)
    leaves_has T a t o h = after (n_step_has S M T o t) h.grown (decides o.rows T (can_err o.tree) (has_rule S t (ty_of o.tree)) _
        (strict1 o.rows T (has T o.tree t) (in_has h.left) (λ n. n_has M o.rows t (row_at o.rows n))
        (λ n. made_has made_ok M o.rows t (row_at o.rows n)) (view o.tree)))

    leaves_set : (T : Ty) (es : Nodes ℕ) {R : List Row} (o : Outs) → LeavesAll N es R o → Leaves N (set T es) R (n_step_set S M T o)
    leaves_set T es {R} o h = go (numbers o.trees) (any_error o.trees)
      where
        go : (x : Option (List ℕ)) (b : Bool) → Leaves N (set T es) R (on_some (out o.rows (cond b (err T) (set T o.trees))) x (λ l. make T (rset (sort_n l)) o.rows))
        go none true = record { left = as_err; grown = h.grown }
        go none false = record { left = in_set h.left; grown = h.grown }
        go (some l) b = after (make T (rset (sort_n l)) o.rows) h.grown (makes o.rows T (rset (sort_n l)) tt)

    leaves_rec : (T : Ty) (gs : NodeArgs ℕ) {R : List Row} (o : OutArgs) → SmallArgs N Any gs → LeavesArgs N gs R o → Leaves N (rec T gs) R (n_step_rec S M T o)
    leaves_rec T gs {R} o s h = go (entries o.trees) (any_error_arg o.trees) refl
      where
        go : (x : Option Entries) (b : Bool) → entries o.trees ≡ x → Leaves N (rec T gs) R (on_some (out o.rows (cond b (err T) (rec T o.trees))) x (λ e. make T (rrec e) o.rows))
        go none true q = record { left = as_err; grown = h.grown }
        go none false q = record { left = in_rec h.left; grown = h.grown }
        go (some e) b q = after (make T (rrec e) o.rows) h.grown (makes o.rows T (rrec e) (names_small o.trees (left_args_small N h.left s) e q))

    mutual
      pub leaves : (e : Node ℕ) → Small N Any e → (R : List Row) → Leaves N e R (n_interpret S M e R)
      leaves (lit T n) s R = stay R (lit T n) as_lit
      leaves (err T) s R = stay R (err T) as_err
      leaves (var T x) s R = leaves_var T x (M.request x) R (asked x)
      leaves (and T a b) s R = leaves_and T (n_interpret S M a R) (leaves a s.0 R) (n_interpret S M b) (leaves b s.1 (n_interpret S M a R).rows) (n_class (n_interpret S M a R))
      leaves (or T a b) s R = leaves_or T (n_interpret S M a R) (leaves a s.0 R) (n_interpret S M b) (leaves b s.1 (n_interpret S M a R).rows) (n_class (n_interpret S M a R))
      leaves (ite T c a b) s R = leaves_if T (n_interpret S M c R) (leaves c s.0 R) (n_interpret S M a) (leaves a s.1 (n_interpret S M c R).rows) (n_interpret S M b) (leaves b s.2 (n_interpret S M c R).rows)
          (leaves b s.2 (n_interpret S M a (n_interpret S M c R).rows).rows) (n_class (n_interpret S M c R))
      leaves (un T u a) s R = leaves_un T u a (n_interpret S M a R) (leaves a s.1 R)
      leaves (bin T o a b) s R = leaves_bin T o a b (n_interpret S M a R) (n_interpret S M b (n_interpret S M a R).rows) (leaves a s.0 R) (leaves b s.1 (n_interpret S M a R).rows)
      leaves (rel T o a b) s R = leaves_rel T o a b (n_interpret S M a R) (n_interpret S M b (n_interpret S M a R).rows) (leaves a s.0 R) (leaves b s.1 (n_interpret S M a R).rows)
      leaves (get T a t) s R = leaves_get T a t (n_interpret S M a R) (leaves a s.1 R)
      leaves (has T a t) s R = leaves_has T a t (n_interpret S M a R) (leaves a s.1 R)
      leaves (haspath T a t ts) s R = leaves_path T a t ts (n_interpret S M a R) (leaves a s.1 R) (view (n_interpret S M a R).tree)
      leaves (set T es) s R = leaves_set T es (n_interprets S M es R) (leaves_all es s R)
      leaves (rec T gs) s R = leaves_rec T gs (n_interpret_args S M gs R) s (leaves_args gs s R)

      leaves_all : (es : Nodes ℕ) → SmallAll N Any es → (R : List Row) → LeavesAll N es R (n_interprets S M es R)
      leaves_all enil s R = record { left = left_nil; grown = same_rows R }
      leaves_all (econs e es) s R = let h = leaves e s.0 R in let k = leaves_all es s.1 (n_interpret S M e R).rows in record { left = left_cons h.left k.left; grown = grow_on h.grown k.grown }

      leaves_args : (gs : NodeArgs ℕ) → SmallArgs N Any gs → (R : List Row) → LeavesArgs N gs R (n_interpret_args S M gs R)
      leaves_args gnil s R = record { left = left_stop; grown = same_rows R }
      leaves_args (gcons t e gs) s R = let h = leaves e s.1 R in let k = leaves_args gs s.2 (n_interpret S M e R).rows in record { left = left_arg h.left k.left; grown = grow_on h.grown k.grown }

    pub run_leaves : (ps : List NPolicy) → PoliciesSmall N ps → (R : List Row) → RunLeaves N ps R (n_run S M ps R)
    run_leaves [] s R = record { lines = no_lines; rows = same_rows R }
    run_leaves (p ∷ ps) s R = let h = leaves p.tree s.0 R in let k = run_leaves ps s.1 (n_interpret S M p.tree R).rows in record { lines = one_line h.left k.lines; rows = grow_on h.grown k.rows }
