-- Document 01, "Interpretation", by content: a tree is worked on a partial request and entities as far as it goes. What is left is a tree.
-- Each node is worked by a step over its children as interpreted; `Numbered` has the same with numbers and the order of making.
use Rattle.std.specs.Prelude.{Bool, true, false, cond, ◌||◌, List, [], ◌∷◌, ℕ}
use Rattle.std.proofs.Math.Option.{Option, none, some}
use Rattle.cedar.specs.Value.{Value, vbool, vlong, vtext, vent, vset, vrec, Values, vnil, vcons, Fields, fnil, fcons, Result, ok, fail, find, found, on_bool, on_text, on_ent, on_some}
use Rattle.cedar.specs.Canonical.{member, make_set}
use Rattle.cedar.specs.Types.{Ty, tent, Schema}
use Rattle.cedar.specs.Residual.{Expr, lit, err, var, and, or, ite, un, bin, rel, get, has, haspath, set, rec, Exprs, enil, econs, Args, gnil, gcons, Un, Bin, Rel, rin, rgettag, rhastag, ty_of, can_err, error, Stage, value, open', view, copen, cerror, ctrue, cfalse, Class, truth, any_error, any_error_arg}
use Rattle.cedar.specs.Entities.{PEnv, pentity}
use Rattle.cedar.specs.Evaluate.{apply_un, apply_bin, targets, any_in, is_empty}
use Rattle.cedar.specs.TypeRules.{un_rule, bin_rule, rel_rule, has_rule}

-- How far an operand is worked, and what a bool operand or policy is called.
abbrev pub View : Type 0
View = Stage Value

abbrev pub class_of : View → Class
class_of (value v) = on_bool copen v truth
class_of error = cerror
class_of open' = copen

abbrev pub class : Expr → Class
class r = class_of (view r)

-- and, or, if. "Whether an operand can err is asked of it as interpreted, in and and or too."
-- "A left side kept alone, or a right side or branch taken, keeps its own" type. "only and, or and if keep" an error operand.

abbrev pub simp_and : Ty → Expr → Expr → Class → Class → Expr
simp_and T a b cfalse d = lit T (vbool false)
simp_and T a b ctrue d = b
simp_and T a b cerror d = err T
simp_and T a b copen ctrue = a
simp_and T a b copen cfalse = cond (can_err a) (and T a (lit T (vbool false))) (lit T (vbool false))
simp_and T a b copen cerror = and T a b
simp_and T a b copen copen = and T a b

abbrev pub simp_or : Ty → Expr → Expr → Class → Class → Expr
simp_or T a b ctrue d = lit T (vbool true)
simp_or T a b cfalse d = b
simp_or T a b cerror d = err T
simp_or T a b copen cfalse = a
simp_or T a b copen ctrue = cond (can_err a) (or T a (lit T (vbool true))) (lit T (vbool true))
simp_or T a b copen cerror = or T a b
simp_or T a b copen copen = or T a b

abbrev pub simp_if : Ty → Expr → Expr → Expr → Class → Expr
simp_if T c a b ctrue = a
simp_if T c a b cfalse = b
simp_if T c a b cerror = err T
simp_if T c a b copen = ite T c a b

-- The other operations: what known operands give, or that "an unknown part leaves the node".
pub data Outcome : Type 0 where
  gives : Result → Outcome
  stays : Outcome

-- "A decided answer keeps its node's type."
abbrev pub settle : Ty → Expr → Outcome → Expr
settle T keep (gives (ok v)) = lit T v
settle T keep (gives fail) = err T
settle T keep stays = keep

-- One operand, or two: an error among them is the result, also beside an open one; an open one leaves the node.
abbrev pub strict1 : Ty → Expr → (Value → Outcome) → View → Expr
strict1 T keep f (value v) = settle T keep (f v)
strict1 T keep f error = err T
strict1 T keep f open' = keep

abbrev pub strict2 : Ty → Expr → (Value → Value → Outcome) → View → View → Expr
strict2 T keep f (value v) (value w) = settle T keep (f v w)
strict2 T keep f (value v) error = err T
strict2 T keep f (value v) open' = keep
strict2 T keep f error y = err T
strict2 T keep f open' (value w) = keep
strict2 T keep f open' error = err T
strict2 T keep f open' open' = keep

-- A known part gives a result, an unknown one leaves the node.
abbrev pub known : {A : Type 0} → Option A → (A → Result) → Outcome
known none f = stays
known (some a) f = gives (f a)

-- "Type rules come first among the results, only where no operand can err."
abbrev pub by_rule : Ty → Bool → Option Bool → Expr → Expr
by_rule T true o r = r
by_rule T false none r = r
by_rule T false (some b) r = lit T (vbool b)

-- The type of a single kind.
abbrev pub alone : ℕ → Ty
alone k = tent k []

-- What is left over of a path: its first step is asked of the rule, "has, and the first step of a haspath left over".
abbrev pub left_path : Schema → Ty → Expr → ℕ → List ℕ → Expr
left_path S T a t ts = by_rule T (can_err a) (has_rule S t (ty_of a)) (haspath T a t ts)

module _ (P : PEnv) where
  -- in: decided where the entity is itself among the targets, where there is no target, and where its ancestors are known.
  abbrev pub in_known : Value → Option Values → Values → Outcome
  in_known v none ts = cond (member v ts) (gives (ok (vbool true))) (cond (is_empty ts) (gives (ok (vbool false))) stays)
  in_known v (some as') ts = gives (ok (vbool (member v ts || any_in ts as')))

  -- in, gettag, hastag of a known entity: what its known ancestors or tags give.
  abbrev pub rel_known : Rel → Value → Value → Outcome
  rel_known rin v w = on_ent (gives fail) v (λ k t. on_some (gives fail) (targets w) (in_known (vent k t) (pentity P k t).ancestors))
  rel_known rgettag v w = on_ent (gives fail) v (λ k t. on_text (gives fail) w (λ u. known (pentity P k t).tags (λ fs. on_some fail (find u fs) ok)))
  rel_known rhastag v w = on_ent (gives fail) v (λ k t. on_text (gives fail) w (λ u. known (pentity P k t).tags (λ fs. ok (vbool (found (find u fs))))))

  -- What is made of the fields of a record or of an entity's attributes, if they are known.
  abbrev pub on_fields : {A : Type 0} → (bad : A) → (unknown : ℕ → ℕ → A) → Value → (Fields → A) → A
  on_fields d u (vbool b) f = d
  on_fields d u (vlong n) f = d
  on_fields d u (vtext t) f = d
  on_fields d u (vent k t) f = on_some (u k t) (pentity P k t).attrs f
  on_fields d u (vset vs) f = d
  on_fields d u (vrec fs) f = f fs

  abbrev pub get_known : ℕ → Value → Outcome
  get_known t v = on_fields (gives fail) (λ k u. stays) v (λ fs. gives (on_some fail (find t fs) ok))

  abbrev pub has_known : ℕ → Value → Outcome
  has_known t v = on_fields (gives fail) (λ k u. stays) v (λ fs. gives (ok (vbool (found (find t fs)))))

  -- The walk along a path: to the end, to a missing step, or to an entity whose attributes are unknown; from there the rest is left over.
  -- U is the type of an entity reached, by its kind: "What is left over after a step has the single kind's type".
  abbrev pub walk : Schema → Ty → (ℕ → Ty) → List ℕ → ℕ → Value → Expr
  walk S T U [] t v = on_fields (err T) (λ k i. left_path S T (lit (U k) (vent k i)) t []) v (λ fs. lit T (vbool (found (find t fs))))
  walk S T U (u ∷ us) t v = on_fields (err T) (λ k i. left_path S T (lit (U k) (vent k i)) t (u ∷ us)) v (λ fs. on_some (lit T (vbool false)) (find t fs) (walk S T alone us u))

-- "with no step taken, the child keeps its own" type
abbrev pub simp_path : Schema → PEnv → Ty → Expr → ℕ → List ℕ → View → Expr
simp_path S P T a t ts (value v) = walk P S T (λ k. ty_of a) ts t v
simp_path S P T a t ts error = err T
simp_path S P T a t ts open' = left_path S T a t ts

-- Children of sets and records, if all are values.
abbrev pub cons_v : View → Option Values → Option Values
cons_v (value v) (some vs) = some (vcons v vs)
cons_v (value v) none = none
cons_v error r = none
cons_v open' r = none

abbrev pub field_v : ℕ → View → Option Fields → Option Fields
field_v t (value v) (some fs) = some (fcons t v fs)
field_v t (value v) none = none
field_v t error r = none
field_v t open' r = none

abbrev pub values : Exprs → Option Values
values enil = some vnil
values (econs e es) = cons_v (view e) (values es)

abbrev pub fields : Args → Option Fields
fields gnil = some fnil
fields (gcons t e gs) = field_v t (view e) (fields gs)

-- The step of each operation, over its operands as interpreted.
module _ (S : Schema) (P : PEnv) where
  abbrev pub step_and : Ty → Expr → Expr → Expr
  step_and T a b = simp_and T a b (class a) (class b)

  abbrev pub step_or : Ty → Expr → Expr → Expr
  step_or T a b = simp_or T a b (class a) (class b)

  abbrev pub step_if : Ty → Expr → Expr → Expr → Expr
  step_if T c a b = simp_if T c a b (class c)

  -- A known part of the request is its value.
  abbrev pub step_var : Ty → Expr → Option Value → Expr
  step_var T e none = e
  step_var T e (some v) = lit T v

  abbrev pub step_un : Ty → Un → Expr → Expr
  step_un T u a = by_rule T (can_err a) (un_rule S u (ty_of a)) (strict1 T (un T u a) (λ v. gives (apply_un S u v)) (view a))

  abbrev pub step_bin : Ty → Bin → Expr → Expr → Expr
  step_bin T o a b = by_rule T (can_err a || can_err b) (bin_rule S o (ty_of a) (ty_of b)) (strict2 T (bin T o a b) (λ v w. gives (apply_bin o v w)) (view a) (view b))

  abbrev pub step_rel : Ty → Rel → Expr → Expr → Expr
  step_rel T o a b = by_rule T (can_err a || can_err b) (rel_rule S o (ty_of a) (ty_of b)) (strict2 T (rel T o a b) (rel_known P o) (view a) (view b))

  abbrev pub step_get : Ty → Expr → ℕ → Expr
  step_get T a t = strict1 T (get T a t) (get_known P t) (view a)

  abbrev pub step_has : Ty → Expr → ℕ → Expr
  step_has T a t = by_rule T (can_err a) (has_rule S t (ty_of a)) (strict1 T (has T a t) (has_known P t) (view a))

  abbrev pub step_path : Ty → Expr → ℕ → List ℕ → Expr
  step_path T a t ts = simp_path S P T a t ts (view a)

  abbrev pub step_set : Ty → Exprs → Expr
  step_set T es = on_some (cond (any_error es) (err T) (set T es)) (values es) (λ vs. lit T (make_set vs))

  abbrev pub step_rec : Ty → Args → Expr
  step_rec T gs = on_some (cond (any_error_arg gs) (err T) (rec T gs)) (fields gs) (λ fs. lit T (vrec fs))

  -- "children left to right; an unknown part leaves the node"
  abbrev mutual
    pub interpret : Expr → Expr
    interpret (lit T v) = lit T v
    interpret (err T) = err T
    interpret (var T x) = step_var T (var T x) (P.request x)
    interpret (and T a b) = step_and T (interpret a) (interpret b)
    interpret (or T a b) = step_or T (interpret a) (interpret b)
    interpret (ite T c a b) = step_if T (interpret c) (interpret a) (interpret b)
    interpret (un T u a) = step_un T u (interpret a)
    interpret (bin T o a b) = step_bin T o (interpret a) (interpret b)
    interpret (rel T o a b) = step_rel T o (interpret a) (interpret b)
    interpret (get T a t) = step_get T (interpret a) t
    interpret (has T a t) = step_has T (interpret a) t
    interpret (haspath T a t ts) = step_path T (interpret a) t ts
    interpret (set T es) = step_set T (interprets es)
    interpret (rec T gs) = step_rec T (interpret_args gs)

    pub interprets : Exprs → Exprs
    interprets enil = enil
    interprets (econs e es) = econs (interpret e) (interprets es)

    pub interpret_args : Args → Args
    interpret_args gnil = gnil
    interpret_args (gcons t e gs) = gcons t (interpret e) (interpret_args gs)
