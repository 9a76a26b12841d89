-- What residuals yield over the words a, which hold a complete sheet and the values, by a stack of yields: the log l. Each definition is
-- total; rows are read where they are needed, from the words as they then are. That this is `eval` of the residuals is shown in proofs/.
use Rattle.std.specs.Prelude.{Ok, Err, ◌≡◌, Bool, true, false, cond, List, [], ◌∷◌, ℕ, zero, suc, ◌+◌, ◌-◌, ◌*◌, ◌/◌, ◌≤◌, eqb, ltb, length, get_or, take, drop}
use Rattle.std.proofs.Math.Option.{Option, none, some}
use Rattle.words.specs.Log.{appended, Holds}
use Rattle.sheet.specs.Forms.{tag, at, VALUE}
use Rattle.forms.specs.Tags.{VAR, AND, OR, EQ, IF, IS, HASPATH, SET_OF, RECORD_OF}
use Rattle.sheet.specs.Content.{var_of}
use Rattle.value.specs.Made.{set_row, record_row, written}
use Rattle.residual.specs.Rows.{ROW, SOURCE, ROW_TYPE, VALUE_ROW, ERROR_ROW, LEFT_ROW, lit_row, err_row}
use Rattle.residual.specs.Classes.{class_number}
use Rattle.valued.specs.Values.{all_values}
use Rattle.evaluator.specs.Run.{Yield, failed, E, yields, node_in, made_of, settle_of, opt_of, on_yield, bool_only, walk_out, two_out, one_out, env_of, class_of, Ran}
use Rattle.evaluator.specs.Gave.{yield_bool, same_bool}
use Rattle.carried.specs.Carry.{number_there, carried_of}

-- ---- the stack

-- what a row yields, where it is w words of a residual that yielded it
abbrev pub yield_row : Yield → ℕ → List ℕ
yield_row (Ok v) w = lit_row v w
yield_row (Err e) w = err_row w

-- what the row at place i of these words yields
unfoldable pub yield_in : List ℕ → ℕ → Yield
yield_in q i = cond (eqb (get_or q i 0) VALUE_ROW) (Ok (get_or q (i + SOURCE) 0)) failed

-- of n rows, how many are left below those whose residuals have m words together
unfoldable pub rows_back : List ℕ → ℕ → ℕ → ℕ
rows_back l zero m = 0
rows_back l (suc n) m = cond (eqb m 0) (suc n) (rows_back l n (m - get_or l (ROW * n + ROW_TYPE) 0))

-- where the operands of a node begin whose residual has w words
abbrev pub start_of : List ℕ → ℕ → ℕ
start_of l w = ROW * rows_back l (length l / ROW) (w - ROW)

-- s is where the rows begin whose residuals have m words together
pub record Started (l : List ℕ) (m s : ℕ) : Type 0 where
  pub start : s ≡ ROW * rows_back l (length l / ROW) m
  pub low : s ≤ length l

-- ---- nodes over what their operands yielded

-- z is the bool that decides: a left side that is it is the answer
unfoldable pub lazy_by : Bool → List ℕ → Yield → Yield → Option Bool → Yield
lazy_by z a y u none = failed
lazy_by z a y u (some x) = cond (same_bool x z) y (bool_only (yields a u)).yield

unfoldable pub lazy_of : Bool → List ℕ → Yield → Yield → Yield
lazy_of z a y u = lazy_by z a y u (yield_bool a y)

-- by the tag
unfoldable pub logic_of : ℕ → List ℕ → Yield → Yield → Yield
logic_of t a y u = cond (eqb t AND) (lazy_of false a y u) (cond (eqb t OR) (lazy_of true a y u) failed)

unfoldable pub branch_by : Yield → Yield → Option Bool → Yield
branch_by u w none = failed
branch_by u w (some x) = cond x u w

unfoldable pub branch_of : List ℕ → Yield → Yield → Yield → Yield
branch_of a y u w = branch_by u w (yield_bool a y)

-- of a path k steps are taken
unfoldable pub one_of : List ℕ → ℕ → ℕ → List ℕ → ℕ → Yield → E
one_of sheet t k a n y = on_yield a y (λ v. settle_of a (cond (eqb t HASPATH) (walk_out a (drop k (node_in a n)) v) (one_out sheet t a (node_in a n) v)))

unfoldable pub two_of : ℕ → List ℕ → Yield → Yield → E
two_of t a y u = on_yield a y (λ v. on_yield a u (λ w. settle_of a (two_out t a v w)))

-- and, or, the operations with two operands, if, those with one: by the tag, over the rows q
unfoldable pub over_of : List ℕ → ℕ → ℕ → List ℕ → ℕ → List ℕ → E
over_of sheet t k a n q =
    cond (ltb t EQ) (yields a (logic_of t a (yield_in q 0) (yield_in q ROW)))
    (cond (ltb t IF) (two_of t a (yield_in q 0) (yield_in q ROW))
    (cond (ltb t IS) (yields a (branch_of a (yield_in q 0) (yield_in q ROW) (yield_in q (ROW + ROW))))
    (cond (ltb t SET_OF) (one_of sheet t k a n (yield_in q 0)) (yields a failed))))

-- sets and records are made where the operands, the rows from s on, are all values
unfoldable pub many_of : List ℕ → List ℕ → List ℕ → List ℕ → E
many_of a l q r = cond (all_values q) (made_of a (written l r)) (yields a failed)

unfoldable pub set_of : List ℕ → List ℕ → ℕ → E
set_of a l s = many_of a l (drop s l) (set_row (drop s l))

unfoldable pub record_of : List ℕ → List ℕ → ℕ → ℕ → E
record_of a l s n = many_of a l (drop s l) (record_row (node_in a n) (drop s l))

unfoldable pub node_by : List ℕ → ℕ → List ℕ → List ℕ → ℕ → ℕ → ℕ → E
node_by sheet t a l s n k =
    cond (eqb t VAR) (opt_of a ((env_of a).request (var_of (at (node_in a n) 1))))
    (cond (eqb t SET_OF) (set_of a l s) (cond (eqb t RECORD_OF) (record_of a l s n) (over_of sheet t k a n (drop s l))))

-- node n over the rows from s on, with k steps of a path taken
unfoldable pub node_of : List ℕ → List ℕ → List ℕ → ℕ → ℕ → ℕ → E
node_of sheet a l s n k = node_by sheet (tag (node_in a n)) a l s n k

-- ---- the rows of the residuals in turn

-- the words, and the stack
pub record Stacked : Type 0 where
  pub words : List ℕ
  pub log : List ℕ

abbrev pub stacked : List ℕ → List ℕ → Stacked
stacked a l = record { words = a; log = l }

-- the rows from s on give way to what o yields
unfoldable pub leaves : List ℕ → ℕ → ℕ → E → Stacked
leaves l s w o = stacked o.words (appended (take s l) (yield_row o.yield w))

-- g values are given, and ns are the numbers of the made ones
module _ (sheet : List ℕ) (g : ℕ) (ns : List ℕ) where
  -- a row: what it is, its source, the words of its residual
  unfoldable pub turn_of : ℕ → ℕ → ℕ → List ℕ → List ℕ → Stacked
  turn_of t x w a l =
      cond (eqb t VALUE_ROW) (stacked a (appended l (lit_row (number_there g ns x) w)))
      (cond (eqb t ERROR_ROW) (stacked a (appended l (err_row w))) (leaves l (start_of l w) w (node_of sheet a l (start_of l w) x (t - LEFT_ROW))))

  unfoldable pub ran_of : List ℕ → List ℕ → List ℕ → Stacked
  ran_of [] a l = stacked a l
  ran_of (t ∷ []) a l = stacked a l
  ran_of (t ∷ x ∷ []) a l = stacked a l
  ran_of (t ∷ x ∷ w ∷ []) a l = stacked a l
  ran_of (t ∷ x ∷ w ∷ y ∷ rows) a l = let s = turn_of t x w a l in ran_of rows s.words s.log

-- the slices a and b, of which the log ends at e, are this
pub record Turned (s : Stacked) (a b : List ℕ) (e : ℕ) : Type 0 where
  pub words : a ≡ s.words
  pub log : Holds 0 b e s.log

-- ---- the classes of the policies

-- "The policy's result there is true, false or error as it yields.", by the rows of the stack
unfoldable pub classes_in : List ℕ → List ℕ → List ℕ
classes_in a [] = []
classes_in a (t ∷ []) = []
classes_in a (t ∷ v ∷ []) = []
classes_in a (t ∷ v ∷ w ∷ []) = []
classes_in a (t ∷ v ∷ w ∷ y ∷ l) = class_number (class_of a (yield_in (t ∷ v ∷ w ∷ y ∷ l) 0)) ∷ classes_in a l

-- the residuals of the run over kept, whose made values become values of a
unfoldable pub yielded_of : List ℕ → List ℕ → List ℕ → List ℕ → List ℕ → Ran
yielded_of sheet residuals kept a ns =
    let c = carried_of kept a ns in
    let s = ran_of sheet (get_or kept VALUE 0) c.numbers residuals c.words [] in
    record { words = s.words; log = classes_in s.words s.log }
