-- The complete run: what the Cedar specification gives a tree on a complete request and entities, a value or an error.
use Rattle.std.specs.Prelude.{Bool, true, false, not, cond, ◌||◌, ◌&&◌, List, [], ◌∷◌, ℕ, ℤ, pos, negsuc, neg_ℤ, ◌+ℤ◌, ◌-ℤ◌, ◌*ℤ◌, eqb}
use Rattle.std.proofs.Math.Option.{Option, none, some}
use Rattle.std.specs.Int.Signed.{lt_z, le_z}
use Rattle.cedar.specs.Value.{Value, vbool, vlong, vtext, vent, vset, vrec, Values, vnil, vcons, Fields, fnil, fcons, Result, ok, fail, bind, ok_bool, find, found, on_bool, on_long, on_text, on_ent, on_set, on_some}
use Rattle.cedar.specs.Canonical.{same, member, make_set}
use Rattle.cedar.specs.Types.{Schema}
use Rattle.cedar.specs.Residual.{Expr, lit, err, var, and, or, ite, un, bin, rel, get, has, haspath, set, rec, Exprs, enil, econs, Args, gnil, gcons, Item, star, piece, Un, unot, uneg, uempty, uis, ulike, Bin, beq, blt, ble, badd, bsub, bmul, bcontains, ball, bany, Rel, rin, rgettag, rhastag}
use Rattle.cedar.specs.Entities.{Env, entity}

-- `like`: "the item `*` matches any run, also empty; a text item matches its own bytes, an asterisk among them too."

abbrev pub match_piece : List ℕ → List ℕ → (List ℕ → Bool) → Bool
match_piece [] s f = f s
match_piece (x ∷ p) [] f = false
match_piece (x ∷ p) (y ∷ s) f = eqb x y && match_piece p s f

abbrev pub any_suffix : (List ℕ → Bool) → List ℕ → Bool
any_suffix f [] = f []
any_suffix f (x ∷ s) = f (x ∷ s) || any_suffix f s

abbrev pub is_nil : List ℕ → Bool
is_nil [] = true
is_nil (x ∷ s) = false

abbrev pub matches : (ℕ → List ℕ) → List Item → List ℕ → Bool
matches bytes [] s = is_nil s
matches bytes (star ∷ p) s = any_suffix (matches bytes p) s
matches bytes (piece t ∷ p) s = match_piece (bytes t) s (matches bytes p)

-- "64-bit signed": arithmetic that leaves the range is an error.

abbrev pub in_range : ℤ → Bool
in_range n = le_z (negsuc 9223372036854775807) n && le_z n (pos 9223372036854775807)

abbrev pub ok_long : ℤ → Result
ok_long n = cond (in_range n) (ok (vlong n)) fail

-- Sets: emptiness, inclusion, a common member, and whether all members are entities.

abbrev pub is_empty : Values → Bool
is_empty vnil = true
is_empty (vcons v vs) = false

abbrev pub all_in : Values → Values → Bool
all_in vnil s = true
all_in (vcons v vs) s = member v s && all_in vs s

abbrev pub any_in : Values → Values → Bool
any_in vnil s = false
any_in (vcons v vs) s = member v s || any_in vs s

abbrev pub is_ent : Value → Bool
is_ent v = on_ent false v (λ k t. true)

abbrev pub all_ent : Values → Bool
all_ent vnil = true
all_ent (vcons v vs) = is_ent v && all_ent vs

-- Operations that look at no entity. A value of another sort is an error; typing excludes it.

abbrev pub apply_un : Schema → Un → Value → Result
apply_un S unot v = on_bool fail v (λ b. ok_bool (not b))
apply_un S uneg v = on_long fail v (λ n. ok_long (neg_ℤ n))
apply_un S uempty v = on_set fail v (λ vs. ok_bool (is_empty vs))
apply_un S (uis k) v = on_ent fail v (λ l t. ok_bool (eqb k l))
apply_un S (ulike p) v = on_text fail v (λ t. ok_bool (matches S.bytes p (S.bytes t)))

abbrev pub apply_bin : Bin → Value → Value → Result
apply_bin beq v w = ok_bool (same v w)
apply_bin blt v w = on_long fail v (λ m. on_long fail w (λ n. ok_bool (lt_z m n)))
apply_bin ble v w = on_long fail v (λ m. on_long fail w (λ n. ok_bool (le_z m n)))
apply_bin badd v w = on_long fail v (λ m. on_long fail w (λ n. ok_long (m +ℤ n)))
apply_bin bsub v w = on_long fail v (λ m. on_long fail w (λ n. ok_long (m -ℤ n)))
apply_bin bmul v w = on_long fail v (λ m. on_long fail w (λ n. ok_long (m *ℤ n)))
apply_bin bcontains v w = on_set fail v (λ s. ok_bool (member w s))
apply_bin ball v w = on_set fail v (λ s. on_set fail w (λ r. ok_bool (all_in r s)))
apply_bin bany v w = on_set fail v (λ s. on_set fail w (λ r. ok_bool (any_in r s)))

-- What an entity may be in: one entity, or a set of them.
abbrev pub targets : Value → Option Values
targets (vbool b) = none
targets (vlong n) = none
targets (vtext t) = none
targets (vent k t) = some (vcons (vent k t) vnil)
targets (vset vs) = cond (all_ent vs) (some vs) none
targets (vrec fs) = none

-- The entity or one of its ancestors is among the targets. Which ancestors it has is for the environment to say.
abbrev pub within : Value → Values → Values → Bool
within v ancestors ts = member v ts || any_in ts ancestors

module _ (C : Env) where
  -- The fields of a record, or the attributes of an entity.
  abbrev pub fields_of : Value → Option Fields
  fields_of (vbool b) = none
  fields_of (vlong n) = none
  fields_of (vtext t) = none
  fields_of (vent k t) = some (entity C k t).attrs
  fields_of (vset vs) = none
  fields_of (vrec fs) = some fs

  -- in, gettag (an error where the tag is missing), hastag.
  abbrev pub apply_rel : Rel → Value → Value → Result
  apply_rel rin v w = on_ent fail v (λ k t. on_some fail (targets w) (λ ts. ok_bool (within (vent k t) (entity C k t).ancestors ts)))
  apply_rel rgettag v w = on_ent fail v (λ k t. on_text fail w (λ u. on_some fail (find u (entity C k t).tags) ok))
  apply_rel rhastag v w = on_ent fail v (λ k t. on_text fail w (λ u. ok_bool (found (find u (entity C k t).tags))))

  -- get is an error where the attribute is missing.
  abbrev pub apply_get : ℕ → Value → Result
  apply_get t v = on_some fail (fields_of v) (λ fs. on_some fail (find t fs) ok)

  abbrev pub apply_has : ℕ → Value → Result
  apply_has t v = on_some fail (fields_of v) (λ fs. ok_bool (found (find t fs)))

  -- haspath is false at the first missing step.
  abbrev pub apply_path : List ℕ → ℕ → Value → Result
  apply_path [] t v = apply_has t v
  apply_path (u ∷ us) t v = on_some fail (fields_of v) (λ fs. on_some (ok_bool false) (find t fs) (apply_path us u))

-- The left side first; the right side counts only where the left does not decide.

abbrev pub bool_of : Result → (Bool → Result) → Result
bool_of r f = bind r (λ v. on_bool fail v f)

abbrev pub eval_and : Result → Result → Result
eval_and p q = bool_of p (λ x. cond x (bool_of q ok_bool) (ok_bool false))

abbrev pub eval_or : Result → Result → Result
eval_or p q = bool_of p (λ x. cond x (ok_bool true) (bool_of q ok_bool))

abbrev pub eval_if : Result → Result → Result → Result
eval_if c p q = bool_of c (λ x. cond x p q)

abbrev pub bind2 : Result → Result → (Value → Value → Result) → Result
bind2 p q f = bind p (λ v. bind q (λ w. f v w))

-- Children of sets and records: none where one fails.
abbrev pub cons_r : Result → Option Values → Option Values
cons_r (ok v) (some vs) = some (vcons v vs)
cons_r (ok v) none = none
cons_r fail r = none

abbrev pub field_r : ℕ → Result → Option Fields → Option Fields
field_r t (ok v) (some fs) = some (fcons t v fs)
field_r t (ok v) none = none
field_r t fail r = none

-- "the value or error that the Cedar specification gives its tree with that sheet's request and entities; `err` gives an error"
module _ (S : Schema) (C : Env) where
  abbrev mutual
    pub eval : Expr → Result
    eval (lit T v) = ok v
    eval (err T) = fail
    eval (var T x) = ok (C.request x)
    eval (and T a b) = eval_and (eval a) (eval b)
    eval (or T a b) = eval_or (eval a) (eval b)
    eval (ite T c a b) = eval_if (eval c) (eval a) (eval b)
    eval (un T u a) = bind (eval a) (apply_un S u)
    eval (bin T o a b) = bind2 (eval a) (eval b) (apply_bin o)
    eval (rel T o a b) = bind2 (eval a) (eval b) (apply_rel C o)
    eval (get T a t) = bind (eval a) (apply_get C t)
    eval (has T a t) = bind (eval a) (apply_has C t)
    eval (haspath T a t ts) = bind (eval a) (apply_path C ts t)
    eval (set T es) = on_some fail (evals es) (λ vs. ok (make_set vs))
    eval (rec T gs) = on_some fail (eval_args gs) (λ fs. ok (vrec fs))

    pub evals : Exprs → Option Values
    evals enil = some vnil
    evals (econs e es) = cons_r (eval e) (evals es)

    pub eval_args : Args → Option Fields
    eval_args gnil = some fnil
    eval_args (gcons t e gs) = field_r t (eval e) (eval_args gs)
