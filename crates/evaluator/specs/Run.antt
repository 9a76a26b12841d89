-- Evaluation over the lent words a, which hold a complete sheet and the values, and a log l: the classes of the policies so far, then
-- the values of a set's or record's children until it is made. Each definition is total; rows are read where they are needed, from the
-- words as they then are. That this is `eval` of the Cedar specification is shown in proofs/.
use Rattle.std.specs.Prelude.{Bool, true, false, cond, Result, Ok, Err, List, [], ◌∷◌, ℕ, zero, suc, ◌+◌, ◌-◌, ltb, length, get_or, drop}
use Rattle.std.proofs.Math.Option.{Option, none, some}
use Rattle.words.specs.Log.{appended, pushed}
use Rattle.cedar.specs.Value.{on_some}
use Rattle.cedar.specs.Types.{Schema}
use Rattle.cedar.specs.Residual.{Un, unot, uneg, uempty, uis, ulike, Bin, beq, blt, ble, badd, bsub, bmul, bcontains, ball, bany, Rel, rin, rgettag, rhastag, Class, cerror, copen, truth}
use Rattle.cedar.specs.Response.{Verdict}
use Rattle.cedar.specs.Rows.{Row}
use Rattle.cedar.specs.Numbered.{Give, made, old, NEnv, row_at, r_bool, NOut, give, fails, stays, truly, is_some, entry_of, n_un, n_bin, n_rel, on_entries, n_get, n_has}
use Rattle.sheet.specs.Forms.{complete, tag, items, at, first_node, NODE}
use Rattle.sheet.specs.Typing.{slot_value}
use Rattle.sheet.specs.Content.{rows_in, var_of, pattern_of}
use Rattle.forms.specs.Tags.{EQ, IS}
use Rattle.table.specs.Layout.{RUN, rows_of}
use Rattle.value.specs.Lines.{value_lines}
use Rattle.value.specs.Made.{bool_row, number_of, with_value, set_row, record_row, written}
use Rattle.residual.specs.Rows.{lit_row}
use Rattle.residual.specs.Classes.{class_number}
use Rattle.lookup.specs.Lookups.{env_by}
use Rattle.walk.specs.declared.Walked.{Walked}
use Rattle.walk.specs.declared.Walked.TheVariants.{Holds, Fails as Failsʷ, Left}
use Rattle.tpe.specs.Run.{words_of, schema_in, env_in}
use Rattle.tpe.specs.declared.Setting.{Setting}
use Rattle.evaluator.specs.declared.EvalError.{EvalError}

-- a value, by its number, or the error
abbrev pub Yield : Type 0
Yield = Result ℕ EvalError

abbrev pub failed : Yield
failed = Err (record {})

-- the words with what was made, and what the node yields
pub record E : Type 0 where
  pub words : List ℕ
  pub yield : Yield

abbrev pub yields : List ℕ → Yield → E
yields a y = record { words = a; yield = y }

-- the evaluator at the depth below: words, log, node
abbrev pub Rec : Type 0
Rec = List ℕ → List ℕ → ℕ → E

-- the values by number
abbrev pub values : List ℕ → List Row
values a = rows_in (value_lines a)

-- the row of node n, and of policy i
abbrev pub node_in : List ℕ → ℕ → List ℕ
node_in a n = get_or (rows_of a NODE) n []

abbrev pub policy_in : List ℕ → ℕ → List ℕ
policy_in a i = get_or (rows_of a RUN) i []

-- ---- what an operation gives

-- a value found or made by its words
unfoldable pub made_of : List ℕ → List ℕ → E
made_of a r = yields (with_value a r) (Ok (number_of a r))

unfoldable pub give_of : List ℕ → Give → E
give_of a (made r) = made_of a (words_of r)
give_of a (old v) = yields a (Ok v)

-- nothing is unknown on a complete sheet
unfoldable pub settle_of : List ℕ → NOut → E
settle_of a (give g) = give_of a g
settle_of a fails = yields a failed
settle_of a stays = yields a failed

unfoldable pub opt_of : List ℕ → Option Give → E
opt_of a none = yields a failed
opt_of a (some g) = give_of a g

-- a value goes on, an error is the answer
unfoldable pub on_yield : List ℕ → Yield → (ℕ → E) → E
on_yield a (Ok v) k = k v
on_yield a (Err e) k = yields a failed

unfoldable pub next : E → (List ℕ → ℕ → E) → E
next o k = on_yield o.words o.yield (k o.words)

-- a bool goes on, any other value is an error
unfoldable pub on_bool : E → (List ℕ → Bool → E) → E
on_bool o k = next o (λ a v. r_bool (yields a failed) (row_at (values a) v) (k a))

-- ---- and, or, if

-- a bool is left as it is
unfoldable pub bool_only : E → E
bool_only o = next o (λ a v. r_bool (yields a failed) (row_at (values a) v) (λ b. yields a (Ok v)))

-- z is the bool that decides; x is the right side
unfoldable pub side_of : Bool → Rec → List ℕ → ℕ → List ℕ → Bool → E
side_of true f l x a true = made_of a (bool_row true)
side_of true f l x a false = bool_only (f a l x)
side_of false f l x a true = bool_only (f a l x)
side_of false f l x a false = made_of a (bool_row false)

unfoldable pub branch_of : Rec → List ℕ → ℕ → ℕ → List ℕ → Bool → E
branch_of f l x w a b = cond b (f a l x) (f a l w)

-- ---- a path

unfoldable pub path_out : NEnv → List Row → List ℕ → ℕ → ℕ → NOut
path_out N R [] t v = on_entries N R fails (λ k i. stays) (row_at R v) (λ e. truly (is_some (entry_of t e)))
path_out N R (u ∷ us) t v = on_entries N R fails (λ k i. stays) (row_at R v) (λ e. on_some (truly false) (entry_of t e) (path_out N R us u))

-- ---- children of sets and records

-- the words, the log with a row for each value, and whether all are values
pub record Kids : Type 0 where
  pub words : List ℕ
  pub log : List ℕ
  pub all : Bool

abbrev pub kids : List ℕ → List ℕ → Bool → Kids
kids a l b = record { words = a; log = l; all = b }

unfoldable pub next_kid : List ℕ → List ℕ → Yield → (List ℕ → Kids) → Kids
next_kid a l (Ok v) k = k (appended l (lit_row v 0))
next_kid a l (Err e) k = kids a l false

-- the children of node n from word i of its row on, every s-th word of it, k of them at most
unfoldable pub kids_of : Rec → ℕ → ℕ → ℕ → ℕ → List ℕ → List ℕ → Kids
kids_of f n s zero i a l = kids a l true
kids_of f n s (suc k) i a l =
    let o = f a l (get_or (node_in a n) i 0) in
    cond (ltb i (length (node_in a n))) (next_kid o.words l o.yield (λ m. kids_of f n s k (i + s) o.words m)) (kids a l true)

-- no row has more words
abbrev pub most : ℕ
most = 16384

-- a set or record, whose row is q if all are values
unfoldable pub many_of : List ℕ → Kids → E
many_of q k = cond k.all (made_of k.words (written k.log q)) (yields k.words failed)

-- ---- one step for each operation: words, log, the node and its row

abbrev pub Step : Type 0
Step = Rec → List ℕ → List ℕ → ℕ → List ℕ → E

-- the request and the entities; the bytes of texts do not matter
abbrev pub env_of : List ℕ → NEnv
env_of a = env_in complete [] a

unfoldable pub lit_step : Step
lit_step f a l n r = yields a (Ok (at r 1))

unfoldable pub err_step : Step
err_step f a l n r = yields a failed

unfoldable pub var_step : Step
var_step f a l n r = opt_of a ((env_of a).request (var_of (at r 1)))

unfoldable pub lazy_step : Bool → Step
lazy_step z f a l n r = on_bool (f a l (at r 1)) (side_of z f l (at r 2))

unfoldable pub if_step : Step
if_step f a l n r = on_bool (f a l (at r 1)) (branch_of f l (at r 2) (at r 3))

-- one operand, and two: the right one is worked where the left one is a value
unfoldable pub one_step : (List ℕ → List ℕ → ℕ → NOut) → Step
one_step g f a l n r = next (f a l (at r 1)) (λ b v. settle_of b (g b (node_in b n) v))

unfoldable pub two_step : (List ℕ → ℕ → ℕ → NOut) → Step
two_step g f a l n r = next (f a l (at r 1)) (λ b v. next (f b l (at r 2)) (λ c w. settle_of c (g c v w)))

unfoldable pub set_step : Step
set_step f a l n r = let k = kids_of f n 1 most 2 a l in many_of (set_row (drop (length l) k.log)) k

unfoldable pub rec_step : Step
rec_step f a l n r = let k = kids_of f n 2 most 3 a l in many_of (record_row (node_in k.words n) (drop (length l) k.log)) k

-- of a link's two values that for the slot
unfoldable pub slot_step : ℕ → ℕ → Step
slot_step p q f a l n r = yields a (Ok (slot_value p q (at r 1)))

-- ---- what an operation gives over two operands, and over one beside the node's row

unfoldable pub bin_out : Bin → List ℕ → ℕ → ℕ → NOut
bin_out p a v w = n_bin p v w (row_at (values a) v) (row_at (values a) w)

unfoldable pub rel_out : Rel → List ℕ → ℕ → ℕ → NOut
rel_out p a v w = n_rel (env_by complete a v) (values a) p v w (row_at (values a) v) (row_at (values a) w)

unfoldable pub get_out : List ℕ → List ℕ → ℕ → NOut
get_out a r v = n_get (env_by complete a v) (values a) (at r 2) (row_at (values a) v)

unfoldable pub has_out : List ℕ → List ℕ → ℕ → NOut
has_out a r v = n_has (env_by complete a v) (values a) (at r 2) (row_at (values a) v)

-- what the walk of a path gives
abbrev pub walked_out : Walked → NOut
walked_out (Holds b) = truly b
walked_out Failsʷ = fails
walked_out (Left n k i) = stays

unfoldable pub walk_out : List ℕ → List ℕ → ℕ → NOut
walk_out a r v = path_out (env_of a) (values a) (drop 3 (items r)) (at r 2) v

-- by the tag, EQ to ANY
abbrev pub twos : List (List ℕ → ℕ → ℕ → NOut)
twos =
    bin_out beq ∷ bin_out blt ∷ bin_out ble ∷ bin_out badd ∷ bin_out bsub ∷ bin_out bmul
    ∷ rel_out rin ∷ rel_out rgettag ∷ rel_out rhastag ∷ bin_out bcontains ∷ bin_out ball ∷ bin_out bany ∷ []

unfoldable pub two_out : ℕ → List ℕ → ℕ → ℕ → NOut
two_out t = get_or twos (t - EQ) (bin_out bany)

-- the steps g of these, then others
abbrev pub each : {A : Type 0} → (A → Step) → List A → List Step → List Step
each g [] ss = ss
each g (x ∷ xs) ss = g x ∷ each g xs ss

module _ (sheet : List ℕ) where
  abbrev pub schema_of : List ℕ → Schema
  schema_of a = schema_in complete sheet a

  unfoldable pub un_out : (List ℕ → Un) → List ℕ → List ℕ → ℕ → NOut
  un_out u a r v = n_un (schema_of a) (u r) (row_at (values a) v)

  -- by the tag, IS to EMPTY
  abbrev pub ones : List (List ℕ → List ℕ → ℕ → NOut)
  ones =
      un_out (λ r. uis (at r 2)) ∷ un_out (λ r. ulike (pattern_of (drop 2 (items r)))) ∷ get_out ∷ has_out ∷ walk_out
      ∷ un_out (λ r. unot) ∷ un_out (λ r. uneg) ∷ un_out (λ r. uempty) ∷ []

  unfoldable pub one_out : ℕ → List ℕ → List ℕ → ℕ → NOut
  one_out t = get_or ones (t - IS) (un_out (λ r. uempty))

  -- under a link with the principal's value p and the resource's q
  module _ (p q : ℕ) where
    -- in the table's order
    abbrev pub steps : List Step
    steps = lit_step ∷ err_step ∷ var_step ∷ lazy_step false ∷ lazy_step true ∷ each two_step twos (if_step ∷ each one_step ones (set_step ∷ rec_step ∷ slot_step p q ∷ []))

    -- by the tag
    unfoldable pub step_at : ℕ → Step
    step_at t = get_or steps (t - first_node) err_step

    unfoldable pub step_of : Rec → Rec
    step_of f a l n = step_at (tag (node_in a n)) f a l n (node_in a n)

    -- d levels of nodes
    unfoldable pub eval_of : ℕ → Rec
    eval_of zero = λ a l n. yields a failed
    eval_of (suc d) = step_of (eval_of d)

-- under a setting
abbrev pub eval_in : Setting → ℕ → Rec
eval_in s = eval_of s.sheet.now s.principal s.resource

-- ---- the policies in order, each over the values that the ones before it left

-- "The policy's result there is true, false or error as it yields."
unfoldable pub class_of : List ℕ → Yield → Class
class_of a (Ok v) = r_bool copen (row_at (values a) v) truth
class_of a (Err e) = cerror

-- of the policy lines of an answer
abbrev pub class_numbers : List Verdict → List ℕ
class_numbers [] = []
class_numbers (v ∷ vs) = class_number v.class ∷ class_numbers vs

-- the words, and the log with the number of each policy's class
pub record Ran : Type 0 where
  pub words : List ℕ
  pub log : List ℕ

-- k policies from number i on: f by the two values of a policy's link
unfoldable pub ran_from : (ℕ → ℕ → Rec) → ℕ → ℕ → List ℕ → List ℕ → Ran
ran_from f zero i a l = record { words = a; log = l }
ran_from f (suc k) i a l = let o = f (at (policy_in a i) 3) (at (policy_in a i) 4) a l (at (policy_in a i) 2) in ran_from f k (suc i) o.words (pushed l (class_number (class_of o.words o.yield)))

-- "a tree is never deeper than 64"
unfoldable pub run_of : List ℕ → List ℕ → Ran
run_of sheet a = ran_from (λ p q. eval_of sheet p q 64) (get_or a RUN 0) 0 a []
