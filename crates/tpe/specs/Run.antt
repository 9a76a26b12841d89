-- Interpretation over the lent words a, which hold the sheet and the values, and a log l, the stack of residuals. Each definition is
-- total: a row for which there is no room is not pushed. That this is the numbered interpretation is shown in proofs/.
use Rattle.std.specs.Prelude.{Bool, true, false, cond, ◌||◌, List, [], ◌∷◌, ℕ, zero, suc, ◌+◌, ◌-◌, ◌/◌, ◌%◌, eqb, length, get_or, take, drop, ℤ, pos, negsuc}
use Rattle.std.proofs.Math.Option.{Option, none, some}
use Rattle.words.specs.Log.{appended}
use Rattle.cedar.specs.Value.{on_some}
use Rattle.cedar.specs.Types.{Ty, tbool, Schema}
use Rattle.cedar.specs.Residual.{Un, unot, uneg, uempty, uis, ulike, Bin, beq, blt, ble, badd, bsub, bmul, bcontains, ball, bany, Rel, rin, rgettag, rhastag, Class, ctrue, cfalse, cerror, copen, truth}
use Rattle.cedar.specs.Interpret.{alone}
use Rattle.cedar.specs.TypeRules.{un_rule, bin_rule, rel_rule, has_rule}
use Rattle.cedar.specs.Rows.{Entries, stop, entry, Row, rbool, rlong, rtext, rent, rset, rrec}
use Rattle.cedar.specs.Numbered.{Give, made, old, NEnv, row_at, r_bool, NOut, give, fails, stays, is_some, entry_of, n_un, n_bin, n_rel, on_entries, n_get, n_has}
use Rattle.forms.specs.Tags.{LONG_VALUE, TEXT_VALUE, SET_VALUE, RECORD_VALUE}
use Rattle.sheet.specs.Bytes.{half}
use Rattle.sheet.specs.Forms.{Mode, tag, items, at, first_node, TYPE, NODE, alone_row}
use Rattle.sheet.specs.Typing.{slot_value}
use Rattle.sheet.specs.Content.{types, rows_in, schema, n_env, var_of, pattern_of}
use Rattle.table.specs.Layout.{RUN, rows_of, held}
use Rattle.value.specs.Lines.{value_lines, place_of}
use Rattle.value.specs.Made.{bool_row, entity_row, number_of, with_value, set_row, record_row, written}
use Rattle.residual.specs.Rows.{lit_row, err_row, left_row, word_at, stage_at}
use Rattle.residual.specs.Errs.{errs}
use Rattle.residual.specs.declared.Stage.{Stage}
use Rattle.residual.specs.declared.Stage.TheVariants.{Value, Error, Open}
use Rattle.lookup.specs.Lookups.{env_by}

-- what is left: the words with what was made, and the log, which has one block more
pub record O : Type 0 where
  pub words : List ℕ
  pub log : List ℕ

abbrev pub left : List ℕ → List ℕ → O
left a l = record { words = a; log = l }

-- the interpreter at the depth below: words, log, node
abbrev pub Rec : Type 0
Rec = List ℕ → List ℕ → ℕ → O

-- ---- a row more

unfoldable pub lit_of : List ℕ → List ℕ → ℕ → ℕ → O
lit_of a l y v = left a (appended l (lit_row v y))

unfoldable pub err_of : List ℕ → List ℕ → ℕ → O
err_of a l y = left a (appended l (err_row y))

-- node n over the blocks from start on, with k steps taken
unfoldable pub left_of : List ℕ → List ℕ → ℕ → ℕ → ℕ → ℕ → O
left_of a l start n k y = left a (appended l (left_row n k (length l - start) y))

-- a value found or made by its words
unfoldable pub made_of : List ℕ → List ℕ → ℕ → List ℕ → O
made_of a l y r = lit_of (with_value a r) l y (number_of a r)

-- the words of a value's row
abbrev pub long_word : ℤ → ℕ
long_word (pos n) = half + n
long_word (negsuc n) = half - n - 1

abbrev pub entry_words : Entries → List ℕ
entry_words stop = []
entry_words (entry t v e) = t ∷ v ∷ entry_words e

abbrev pub words_of : Row → List ℕ
words_of (rbool b) = bool_row b
words_of (rlong z) = LONG_VALUE ∷ long_word z / 4294967296 ∷ long_word z % 4294967296 ∷ []
words_of (rtext t) = TEXT_VALUE ∷ t ∷ []
words_of (rent k t) = entity_row k t
words_of (rset l) = SET_VALUE ∷ l
words_of (rrec e) = RECORD_VALUE ∷ entry_words e

unfoldable pub give_of : List ℕ → List ℕ → ℕ → Give → O
give_of a l y (made r) = made_of a l y (words_of r)
give_of a l y (old v) = lit_of a l y v

-- what an operation gives stands for its operands, which begin at start
unfoldable pub settle_of : List ℕ → List ℕ → ℕ → ℕ → ℕ → NOut → O
settle_of a l start n y (give g) = give_of a (take start l) y g
settle_of a l start n y fails = err_of a (take start l) y
settle_of a l start n y stays = left_of a l start n 0 y

-- ---- strict operations over their operands, where q is what the type rule says and g what the operation gives

-- the rule, where no operand can err; else x
unfoldable pub ruled_of : List ℕ → List ℕ → ℕ → ℕ → Bool → Option Bool → O → O
ruled_of a l start y true q x = x
ruled_of a l start y false none x = x
ruled_of a l start y false (some b) x = made_of a (take start l) y (bool_row b)

unfoldable pub worked1 : (ℕ → NOut) → List ℕ → List ℕ → ℕ → ℕ → ℕ → Stage → O
worked1 g a l start n y (Value v) = settle_of a l start n y (g v)
worked1 g a l start n y Error = err_of a (take start l) y
worked1 g a l start n y Open = left_of a l start n 0 y

unfoldable pub worked2 : (ℕ → ℕ → NOut) → List ℕ → List ℕ → ℕ → ℕ → ℕ → Stage → Stage → O
worked2 g a l start n y (Value v) (Value w) = settle_of a l start n y (g v w)
worked2 g a l start n y (Value v) Error = err_of a (take start l) y
worked2 g a l start n y (Value v) Open = left_of a l start n 0 y
worked2 g a l start n y Error s = err_of a (take start l) y
worked2 g a l start n y Open (Value w) = left_of a l start n 0 y
worked2 g a l start n y Open Error = err_of a (take start l) y
worked2 g a l start n y Open Open = left_of a l start n 0 y

unfoldable pub one_of : Option Bool → (ℕ → NOut) → List ℕ → List ℕ → ℕ → ℕ → ℕ → O
one_of q g a l start n y = ruled_of a l start y (errs (rows_of a NODE) l (length l)) q (worked1 g a l start n y (stage_at l (length l)))

-- the left operand ends at mid
unfoldable pub two_of : Option Bool → (ℕ → ℕ → NOut) → List ℕ → List ℕ → ℕ → ℕ → ℕ → ℕ → O
two_of q g a l start mid n y =
    ruled_of a l start y (errs (rows_of a NODE) l mid || errs (rows_of a NODE) l (length l)) q (worked2 g a l start n y (stage_at l mid) (stage_at l (length l)))

-- ---- a path

-- the walk from a value: it is lost, it says whether the path is there, or it is stuck at an unknown entity: steps taken, value, kind
pub data Walk : Type 0 where
  lost : Walk
  says : Bool → Walk
  stuck : ℕ → ℕ → ℕ → Walk

unfoldable pub walk_from : NEnv → List Row → List ℕ → ℕ → ℕ → ℕ → Walk
walk_from N R [] t v j = on_entries N R lost (λ k i. stuck j v k) (row_at R v) (λ e. says (is_some (entry_of t e)))
walk_from N R (u ∷ us) t v j = on_entries N R lost (λ k i. stuck j v k) (row_at R v) (λ e. on_some (says false) (entry_of t e) (λ w. walk_from N R us u w (suc j)))

-- the number of the type line `entity,k`, of kind k alone
unfoldable pub entity_type : List ℕ → ℕ → ℕ
entity_type a k = place_of (alone_row k) (rows_of a TYPE)

-- ---- children of sets and records

-- how far they are worked: all are values, one is an error, or else one is open
abbrev pub all_values : ℕ
all_values = 0

abbrev pub some_error : ℕ
some_error = 1

abbrev pub some_open : ℕ
some_open = 2

unfoldable pub join_of : ℕ → Stage → ℕ
join_of c (Value v) = c
join_of c Error = some_error
join_of c Open = cond (eqb c some_error) some_error some_open

pub record Kids : Type 0 where
  pub words : List ℕ
  pub log : List ℕ
  pub join : ℕ

-- the row of a node, in the words as they are
abbrev pub node_in : List ℕ → ℕ → List ℕ
node_in a n = get_or (rows_of a NODE) n []

-- k children of node n more: each is the last of s words of its row, from word i on
unfoldable pub kids_of : Rec → ℕ → ℕ → ℕ → List ℕ → List ℕ → ℕ → ℕ → Kids
kids_of f n s i a l c zero = record { words = a; log = l; join = c }
kids_of f n s i a l c (suc k) = let o = f a l (get_or (node_in a n) (i + s - 1) 0) in kids_of f n s (i + s) o.words o.log (join_of c (stage_at o.log (length o.log))) k

-- a set or record, whose row is q if all are values
unfoldable pub many_of : List ℕ → List ℕ → List ℕ → ℕ → ℕ → ℕ → ℕ → O
many_of q a l start n y zero = made_of a (take start l) y (written l q)
many_of q a l start n y (suc zero) = err_of a (take start l) y
many_of q a l start n y (suc (suc c)) = left_of a l start n 0 y

-- the children of a record's row, of which every other item is a text
abbrev pub others : List ℕ → List ℕ
others [] = []
others (t ∷ []) = []
others (t ∷ n ∷ l) = n ∷ others l

-- ---- and, or: z is the bool that decides

pub data Side : Type 0 where
  stops goes wrong unsure : Side

abbrev pub side_of : Bool → Class → Side
side_of true ctrue = stops
side_of true cfalse = goes
side_of true cerror = wrong
side_of true copen = unsure
side_of false ctrue = goes
side_of false cfalse = stops
side_of false cerror = wrong
side_of false copen = unsure

unfoldable pub class_by : List ℕ → Stage → Class
class_by a (Value v) = r_bool copen (row_at (rows_in (value_lines a)) v) truth
class_by a Error = cerror
class_by a Open = copen

-- of the last block
unfoldable pub class_of : List ℕ → List ℕ → Class
class_of a l = class_by a (stage_at l (length l))

-- beside an open left side, which ends at mid, the right one decides: the node stays where the left side can err
unfoldable pub decided_by : Bool → ℕ → ℕ → ℕ → ℕ → List ℕ → List ℕ → Bool → O
decided_by z start n y mid a l true = left_of (with_value a (bool_row z)) (appended (take mid l) (lit_row (number_of a (bool_row z)) y)) start n 0 y
decided_by z start n y mid a l false = made_of a (take start l) y (bool_row z)

unfoldable pub second_by : Bool → ℕ → ℕ → ℕ → ℕ → O → Side → O
second_by z start n y mid p goes = left p.words (take mid p.log)
second_by z start n y mid p stops = decided_by z start n y mid p.words p.log (errs (rows_of p.words NODE) p.log mid)
second_by z start n y mid p wrong = left_of p.words p.log start n 0 y
second_by z start n y mid p unsure = left_of p.words p.log start n 0 y

unfoldable pub second_of : Bool → ℕ → ℕ → ℕ → ℕ → O → O
second_of z start n y mid p = second_by z start n y mid p (side_of z (class_of p.words p.log))

unfoldable pub first_by : Bool → Rec → ℕ → ℕ → ℕ → ℕ → O → Side → O
first_by z f start n y x o stops = made_of o.words (take start o.log) y (bool_row z)
first_by z f start n y x o goes = f o.words (take start o.log) x
first_by z f start n y x o wrong = err_of o.words (take start o.log) y
first_by z f start n y x o unsure = second_of z start n y (length o.log) (f o.words o.log x)

unfoldable pub first_of : Bool → Rec → ℕ → ℕ → ℕ → ℕ → O → O
first_of z f start n y x o = first_by z f start n y x o (side_of z (class_of o.words o.log))

-- ---- if: x and w are the branches

unfoldable pub split_of : Rec → ℕ → ℕ → ℕ → ℕ → O → O
split_of f start n y w p = let q = f p.words p.log w in left_of q.words q.log start n 0 y

unfoldable pub branch_by : Rec → ℕ → ℕ → ℕ → ℕ → ℕ → O → Class → O
branch_by f start n y x w o ctrue = f o.words (take start o.log) x
branch_by f start n y x w o cfalse = f o.words (take start o.log) w
branch_by f start n y x w o cerror = err_of o.words (take start o.log) y
branch_by f start n y x w o copen = split_of f start n y w (f o.words o.log x)

unfoldable pub branch_of : Rec → ℕ → ℕ → ℕ → ℕ → ℕ → O → O
branch_of f start n y x w o = branch_by f start n y x w o (class_of o.words o.log)

-- ---- the sheet's part

module _ (m : Mode) (sheet : List ℕ) where
  -- the schema, the types and the known parts that the words hold
  unfoldable pub schema_in : List ℕ → Schema
  schema_in a = schema (held sheet a [])

  unfoldable pub ty_in : List ℕ → ℕ → Ty
  ty_in a y = get_or (types (held sheet a [])) y tbool

  unfoldable pub env_in : List ℕ → NEnv
  env_in a = n_env m (held [] a [])

  -- the type of the block that ends at e
  abbrev pub type_at : List ℕ → List ℕ → ℕ → Ty
  type_at a l e = ty_in a (word_at l e 3)

  abbrev pub value_in : List ℕ → ℕ → Row
  value_in a v = row_at (rows_in (value_lines a)) v

  unfoldable pub var_for : List ℕ → List ℕ → ℕ → ℕ → Option Give → O
  var_for a l n y none = left_of a l (length l) n 0 y
  var_for a l n y (some g) = give_of a l y g

  -- the operands are worked: the row of node n is r, and its operands begin at start
  unfoldable pub un_of : Un → ℕ → ℕ → List ℕ → O → O
  un_of u start n r o =
      one_of (un_rule (schema_in o.words) u (type_at o.words o.log (length o.log))) (λ v. n_un (schema_in o.words) u (value_in o.words v))
      o.words o.log start n (at r 0)

  unfoldable pub bin_of : Bin → ℕ → ℕ → ℕ → List ℕ → O → O
  bin_of p start mid n r o =
      two_of (bin_rule (schema_in o.words) p (type_at o.words o.log mid) (type_at o.words o.log (length o.log)))
      (λ v w. n_bin p v w (value_in o.words v) (value_in o.words w))
      o.words o.log start mid n (at r 0)

  unfoldable pub rel_of : Rel → ℕ → ℕ → ℕ → List ℕ → O → O
  rel_of p start mid n r o =
      two_of (rel_rule (schema_in o.words) p (type_at o.words o.log mid) (type_at o.words o.log (length o.log)))
      (λ v w. n_rel (env_by m o.words v) (rows_in (value_lines o.words)) p v w (value_in o.words v) (value_in o.words w))
      o.words o.log start mid n (at r 0)

  unfoldable pub get_of : ℕ → ℕ → List ℕ → O → O
  get_of start n r o = one_of none (λ v. n_get (env_by m o.words v) (rows_in (value_lines o.words)) (at r 2) (value_in o.words v)) o.words o.log start n (at r 0)

  unfoldable pub has_of : ℕ → ℕ → List ℕ → O → O
  has_of start n r o =
      one_of (has_rule (schema_in o.words) (at r 2) (type_at o.words o.log (length o.log))) (λ v. n_has (env_by m o.words v) (rows_in (value_lines o.words)) (at r 2) (value_in o.words v))
      o.words o.log start n (at r 0)

  -- a path left over with no step taken: the rule of its first step is asked of its operand's type, and the operand, the last block, stays
  unfoldable pub unmoved_of : List ℕ → List ℕ → ℕ → ℕ → List ℕ → O
  unmoved_of a l start n r = ruled_of a l start (at r 0) (errs (rows_of a NODE) l (length l)) (has_rule (schema_in a) (at r 2) (type_at a l (length l))) (left_of a l start n 0 (at r 0))

  -- a path stuck at value v, an entity of kind k, after j steps
  unfoldable pub stuck_of : List ℕ → List ℕ → ℕ → List ℕ → ℕ → ℕ → ℕ → Option Bool → O
  stuck_of a l n r j v k (some b) = made_of a l (at r 0) (bool_row b)
  stuck_of a l n r j v k none = left_of a (appended l (lit_row v (entity_type a k))) (length l) n j (at r 0)

  -- "with no step taken, the child keeps its own" type; "What is left over after a step has the single kind's type"
  unfoldable pub walked_of : List ℕ → List ℕ → ℕ → ℕ → List ℕ → Walk → O
  walked_of a l start n r lost = err_of a (take start l) (at r 0)
  walked_of a l start n r (says b) = made_of a (take start l) (at r 0) (bool_row b)
  walked_of a l start n r (stuck zero v k) = unmoved_of a l start n r
  walked_of a l start n r (stuck (suc j) v k) = stuck_of a (take start l) n r (suc j) v k (has_rule (schema_in a) (at r (2 + suc j)) (alone k))

  unfoldable pub path_by : List ℕ → List ℕ → ℕ → ℕ → List ℕ → Stage → O
  path_by a l start n r (Value v) = walked_of a l start n r (walk_from (env_in a) (rows_in (value_lines a)) (drop 3 (items r)) (at r 2) v 0)
  path_by a l start n r Error = err_of a (take start l) (at r 0)
  path_by a l start n r Open = unmoved_of a l start n r

  unfoldable pub path_of : ℕ → ℕ → List ℕ → O → O
  path_of start n r o = path_by o.words o.log start n r (stage_at o.log (length o.log))

  unfoldable pub set_of : ℕ → ℕ → List ℕ → Kids → O
  set_of start n r k = many_of (set_row (drop start k.log)) k.words k.log start n (at r 0) k.join

  unfoldable pub rec_of : ℕ → ℕ → List ℕ → Kids → O
  rec_of start n r k = many_of (record_row r (drop start k.log)) k.words k.log start n (at r 0) k.join

  -- ---- one step for each operation: words, log, the node and its row

  abbrev pub Step : Type 0
  Step = Rec → List ℕ → List ℕ → ℕ → List ℕ → O

  unfoldable pub lit_step : Step
  lit_step f a l n r = lit_of a l (at r 0) (at r 1)

  unfoldable pub err_step : Step
  err_step f a l n r = err_of a l (at r 0)

  unfoldable pub var_step : Step
  var_step f a l n r = var_for a l n (at r 0) ((env_in a).request (var_of (at r 1)))

  -- operands are worked: the row is read again, in the words as they are now
  abbrev pub again : ℕ → O → (List ℕ → O → O) → O
  again n o k = k (node_in o.words n) o

  unfoldable pub lazy_step : Bool → Step
  lazy_step z f a l n r = again n (f a l (at r 1)) (λ q. first_of z f (length l) n (at q 0) (at q 2))

  unfoldable pub if_step : Step
  if_step f a l n r = again n (f a l (at r 1)) (λ q. branch_of f (length l) n (at q 0) (at q 2) (at q 3))

  -- the left operand is worked
  abbrev pub then : Rec → ℕ → O → (ℕ → O → O) → O
  then f n o k = again n o (λ q o. k (length o.log) (f o.words o.log (at q 2)))

  unfoldable pub bin_step : Bin → Step
  bin_step p f a l n r = then f n (f a l (at r 1)) (λ mid o. again n o (bin_of p (length l) mid n))

  unfoldable pub rel_step : Rel → Step
  rel_step p f a l n r = then f n (f a l (at r 1)) (λ mid o. again n o (rel_of p (length l) mid n))

  unfoldable pub un_step : (List ℕ → Un) → Step
  un_step u f a l n r = again n (f a l (at r 1)) (λ q. un_of (u q) (length l) n q)

  unfoldable pub get_step : Step
  get_step f a l n r = again n (f a l (at r 1)) (get_of (length l) n)

  unfoldable pub has_step : Step
  has_step f a l n r = again n (f a l (at r 1)) (has_of (length l) n)

  unfoldable pub path_step : Step
  path_step f a l n r = again n (f a l (at r 1)) (path_of (length l) n)

  -- the children of a row: those of a set from word 2 on, those of a record each after its text
  unfoldable pub set_step : Step
  set_step f a l n r = let k = kids_of f n 1 2 a l all_values (length r - 2) in set_of (length l) n (node_in k.words n) k

  unfoldable pub rec_step : Step
  rec_step f a l n r = let k = kids_of f n 2 2 a l all_values ((length r - 2) / 2) in rec_of (length l) n (node_in k.words n) k

  -- of a link's two values that for the slot
  unfoldable pub slot_step : ℕ → ℕ → Step
  slot_step p q f a l n r = lit_of a l (at r 0) (slot_value p q (at r 1))

  -- under a link with the principal's value p and the resource's q
  module _ (p q : ℕ) where
    -- in the table's order
    abbrev pub steps : List Step
    steps =
        lit_step ∷ err_step ∷ var_step ∷ lazy_step false ∷ lazy_step true
        ∷ bin_step beq ∷ bin_step blt ∷ bin_step ble ∷ bin_step badd ∷ bin_step bsub ∷ bin_step bmul
        ∷ rel_step rin ∷ rel_step rgettag ∷ rel_step rhastag
        ∷ bin_step bcontains ∷ bin_step ball ∷ bin_step bany
        ∷ if_step
        ∷ un_step (λ r. uis (at r 2)) ∷ un_step (λ r. ulike (pattern_of (drop 2 (items r))))
        ∷ get_step ∷ has_step ∷ path_step
        ∷ un_step (λ r. unot) ∷ un_step (λ r. uneg) ∷ un_step (λ r. uempty)
        ∷ set_step ∷ rec_step ∷ slot_step p q ∷ []

    unfoldable pub step_with : Rec → List ℕ → List ℕ → ℕ → List ℕ → O
    step_with f a l n r = get_or steps (tag r - first_node) err_step f a l n r

    unfoldable pub step_of : Rec → Rec
    step_of f a l n = step_with f a l n (get_or (rows_of a NODE) n [])

    -- d levels of nodes
    unfoldable pub interp_of : ℕ → Rec
    interp_of zero = λ a l n. err_of a l 0
    interp_of (suc d) = step_of (interp_of d)

-- ---- the policies in order, each over what the ones before it left

-- the class of a policy, and where its block ends
pub record Line : Type 0 where
  pub class : Class
  pub end : ℕ

pub record Ran : Type 0 where
  pub words : List ℕ
  pub log : List ℕ
  pub lines : List Line

abbrev pub then_ran : O → (List ℕ → List ℕ → Ran) → Ran
then_ran o k = let t = k o.words o.log in record { words = t.words; log = t.log; lines = record { class = class_of o.words o.log; end = length o.log } ∷ t.lines }

-- k policies, from number i on: f by the two values of a policy's link
unfoldable pub ran_from : (ℕ → ℕ → Rec) → ℕ → ℕ → List ℕ → List ℕ → Ran
ran_from f i zero a l = record { words = a; log = l; lines = [] }
ran_from f i (suc k) a l = let r = get_or (rows_of a RUN) i [] in then_ran (f (at r 3) (at r 4) a l (at r 2)) (ran_from f (suc i) k)

unfoldable pub run_of : Mode → List ℕ → List ℕ → List ℕ → Ran
run_of m sheet a l = ran_from (λ p q. interp_of m sheet p q 64) 0 (get_or a RUN 0) a l
