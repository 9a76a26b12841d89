-- Typed trees, which are residuals too: each node carries its type. Document 01, `node=` and part 2, `tpe/residual.rs`.
use Rattle.std.specs.Prelude.{Bool, true, false, ◌||◌, List, ℕ}
use Rattle.cedar.specs.Value.{Value}
use Rattle.cedar.specs.Types.{Ty, Var}

-- "the item `*` matches any run, also empty; a text item matches its own bytes"
pub data Item : Type 0 where
  star : Item
  piece : ℕ → Item

-- The operations on one child that look at no entity: not, neg, empty, is, like.
pub data Un : Type 0 where
  unot uneg uempty : Un
  uis : ℕ → Un
  ulike : List Item → Un

-- The operations on two children that look at no entity.
pub data Bin : Type 0 where
  beq blt ble badd bsub bmul bcontains ball bany : Bin

-- The operations on an entity and a value that look at the entity: in, gettag, hastag.
pub data Rel : Type 0 where
  rin rgettag rhastag : Rel

-- Trees whose literals are of L: values by content, or their numbers. A path has a first text and perhaps more.
mutual
  pub data Node (L : Type 0) : Type 0 where
    lit : Ty → L → Node L
    err : Ty → Node L
    var : Ty → Var → Node L
    and or : Ty → Node L → Node L → Node L
    ite : Ty → Node L → Node L → Node L → Node L
    un : Ty → Un → Node L → Node L
    bin : Ty → Bin → Node L → Node L → Node L
    rel : Ty → Rel → Node L → Node L → Node L
    get has : Ty → Node L → ℕ → Node L
    haspath : Ty → Node L → ℕ → List ℕ → Node L
    set : Ty → Nodes L → Node L
    rec : Ty → NodeArgs L → Node L

  pub data Nodes (L : Type 0) : Type 0 where
    enil : Nodes L
    econs : Node L → Nodes L → Nodes L

  pub data NodeArgs (L : Type 0) : Type 0 where
    gnil : NodeArgs L
    gcons : ℕ → Node L → NodeArgs L → NodeArgs L

-- Trees by content.
abbrev pub Expr : Type 0
Expr = Node Value

abbrev pub Exprs : Type 0
Exprs = Nodes Value

abbrev pub Args : Type 0
Args = NodeArgs Value

-- The type that a node carries.
abbrev pub ty_of : {L : Type 0} → Node L → Ty
ty_of (lit T v) = T
ty_of (err T) = T
ty_of (var T x) = T
ty_of (and T a b) = T
ty_of (or T a b) = T
ty_of (ite T c a b) = T
ty_of (un T u a) = T
ty_of (bin T o a b) = T
ty_of (rel T o a b) = T
ty_of (get T a t) = T
ty_of (has T a t) = T
ty_of (haspath T a t ts) = T
ty_of (set T es) = T
ty_of (rec T gs) = T

-- "add, sub, mul, neg, gettag, get and err can err": by themselves.
abbrev pub un_errs : Un → Bool
un_errs unot = false
un_errs uneg = true
un_errs uempty = false
un_errs (uis k) = false
un_errs (ulike p) = false

abbrev pub bin_errs : Bin → Bool
bin_errs beq = false
bin_errs blt = false
bin_errs ble = false
bin_errs badd = true
bin_errs bsub = true
bin_errs bmul = true
bin_errs bcontains = false
bin_errs ball = false
bin_errs bany = false

abbrev pub rel_errs : Rel → Bool
rel_errs rin = false
rel_errs rgettag = true
rel_errs rhastag = false

-- `can_error_assuming_well_formed`: "add, sub, mul, neg, gettag, get and err can err; lit and var cannot; others err if a child can."
abbrev mutual
  pub can_err : {L : Type 0} → Node L → Bool
  can_err (lit T v) = false
  can_err (err T) = true
  can_err (var T x) = false
  can_err (and T a b) = can_err a || can_err b
  can_err (or T a b) = can_err a || can_err b
  can_err (ite T c a b) = can_err c || can_err a || can_err b
  can_err (un T u a) = un_errs u || can_err a
  can_err (bin T o a b) = bin_errs o || can_err a || can_err b
  can_err (rel T o a b) = rel_errs o || can_err a || can_err b
  can_err (get T a t) = true
  can_err (has T a t) = can_err a
  can_err (haspath T a t ts) = can_err a
  can_err (set T es) = can_errs es
  can_err (rec T gs) = can_err_args gs

  pub can_errs : {L : Type 0} → Nodes L → Bool
  can_errs enil = false
  can_errs (econs e es) = can_err e || can_errs es

  pub can_err_args : {L : Type 0} → NodeArgs L → Bool
  can_err_args gnil = false
  can_err_args (gcons t e gs) = can_err e || can_err_args gs

-- How far a tree is worked: it is a value, an error, or open.
pub data Stage (L : Type 0) : Type 0 where
  value : L → Stage L
  error : Stage L
  open' : Stage L

abbrev pub view : {L : Type 0} → Node L → Stage L
view (lit T v) = value v
view (err T) = error
view (var T x) = open'
view (and T a b) = open'
view (or T a b) = open'
view (ite T c a b) = open'
view (un T u a) = open'
view (bin T o a b) = open'
view (rel T o a b) = open'
view (get T a t) = open'
view (has T a t) = open'
view (haspath T a t ts) = open'
view (set T es) = open'
view (rec T gs) = open'

-- What a policy is called: "true|false|error|open".
pub data Class : Type 0 where
  ctrue cfalse cerror copen : Class

abbrev pub truth : Bool → Class
truth true = ctrue
truth false = cfalse

-- Whether an error is among the children of a set or record.
abbrev pub is_error : {L : Type 0} → Stage L → Bool
is_error (value v) = false
is_error error = true
is_error open' = false

abbrev pub any_error : {L : Type 0} → Nodes L → Bool
any_error enil = false
any_error (econs e es) = is_error (view e) || any_error es

abbrev pub any_error_arg : {L : Type 0} → NodeArgs L → Bool
any_error_arg gnil = false
any_error_arg (gcons t e gs) = is_error (view e) || any_error_arg gs
