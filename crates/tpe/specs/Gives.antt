-- What the parts of a step give: the operation and the type rule of a node by its tag t, over the words a.
use Rattle.std.specs.Prelude.{◌≡◌, Bool, true, false, List, [], ◌∷◌, ℕ, ◌-◌, ◌≤◌, ◌<◌, get_or, drop}
use Rattle.std.proofs.Math.Option.{Option, none, some}
use Rattle.cedar.specs.Residual.{unot, uneg, uempty, uis, ulike, beq, blt, ble, badd, bsub, bmul, bcontains, ball, bany, rin, rgettag, rhastag}
use Rattle.cedar.specs.TypeRules.{un_rule, bin_rule, rel_rule, has_rule}
use Rattle.cedar.specs.Numbered.{Give, old, NOut, fails, stays, truly, n_un, n_bin, n_rel, n_get, n_has}
use Rattle.forms.specs.Tags.{EQ, IS, SET_OF}
use Rattle.sheet.specs.Forms.{partial, items, at}
use Rattle.sheet.specs.Content.{known, rows_in, pattern_of}
use Rattle.value.specs.Lines.{value_lines}
use Rattle.value.specs.Made.{set_row, record_row}
use Rattle.residual.specs.declared.Stage.{Stage}
use Rattle.residual.specs.declared.Stage.TheVariants.{Value, Error, Open}
use Rattle.rules.specs.Rules.{schema_at, ty_at}
use Rattle.lookup.specs.Lookups.{env_by}
use Rattle.walk.specs.declared.Walked.{Walked}
use Rattle.walk.specs.declared.Walked.TheVariants.{Holds, Fails, Left}
use Rattle.tpe.specs.Run.{schema_in, value_in, Walk, lost, says, stuck}
use Rattle.tpe.specs.declared.steps.Pair.{Pair}
use Rattle.tpe.specs.declared.steps.Pair.TheVariants.{Values, Error as Errorᵖ, Open as Openᵖ}

-- a type rule decides only where no operand can err
abbrev pub unless_err : Bool → Option Bool → Option Bool
unless_err true q = none
unless_err false q = q

-- what it decides, or else what the operation gives
abbrev pub rule_or : Option Bool → NOut → NOut
rule_or none o = o
rule_or (some b) o = truly b

-- the context, by its line
abbrev pub context_given : List ℕ → Option Give
context_given r = known (at r 1) (old (at r 1))

-- the words of a set or record: r is the node's row, rows are those of its children
unfoldable pub many_row : ℕ → List ℕ → List ℕ → List ℕ
many_row t r rows = get_or (set_row rows ∷ []) (t - SET_OF) (record_row r rows)

-- ---- one operand: r is the node's row, v the operand's value, y its type; a path stands apart

abbrev pub one_gives : List ℕ → List ℕ → List ℕ → ℕ → List NOut
one_gives sheet a r v =
    n_un (schema_in partial sheet a) (uis (at r 2)) (value_in partial sheet a v)
    ∷ n_un (schema_in partial sheet a) (ulike (pattern_of (drop 2 (items r)))) (value_in partial sheet a v)
    ∷ n_get (env_by partial a v) (rows_in (value_lines a)) (at r 2) (value_in partial sheet a v)
    ∷ n_has (env_by partial a v) (rows_in (value_lines a)) (at r 2) (value_in partial sheet a v)
    ∷ n_un (schema_in partial sheet a) uempty (value_in partial sheet a v)
    ∷ n_un (schema_in partial sheet a) unot (value_in partial sheet a v)
    ∷ n_un (schema_in partial sheet a) uneg (value_in partial sheet a v)
    ∷ []

unfoldable pub one_give : List ℕ → ℕ → List ℕ → List ℕ → ℕ → NOut
one_give sheet t a r v = get_or (one_gives sheet a r v) (t - IS) (n_un (schema_in partial sheet a) uempty (value_in partial sheet a v))

-- by how far the operand is worked
abbrev pub out_one : (ℕ → NOut) → Stage → NOut
out_one g (Value v) = g v
out_one g Error = fails
out_one g Open = stays

unfoldable pub one_rule : ℕ → List ℕ → List ℕ → ℕ → Option Bool
one_rule t a r y = get_or (un_rule (schema_at a) (uis (at r 2)) (ty_at a y) ∷ none ∷ none ∷ has_rule (schema_at a) (at r 2) (ty_at a y) ∷ []) (t - IS) none

-- ---- two operands, of values v and w and types y and z

abbrev pub two_gives : List ℕ → ℕ → ℕ → List NOut
two_gives a v w =
    n_bin beq v w (value_in partial [] a v) (value_in partial [] a w)
    ∷ n_bin blt v w (value_in partial [] a v) (value_in partial [] a w)
    ∷ n_bin ble v w (value_in partial [] a v) (value_in partial [] a w)
    ∷ n_bin badd v w (value_in partial [] a v) (value_in partial [] a w)
    ∷ n_bin bsub v w (value_in partial [] a v) (value_in partial [] a w)
    ∷ n_bin bmul v w (value_in partial [] a v) (value_in partial [] a w)
    ∷ n_rel (env_by partial a v) (rows_in (value_lines a)) rin v w (value_in partial [] a v) (value_in partial [] a w)
    ∷ n_rel (env_by partial a v) (rows_in (value_lines a)) rgettag v w (value_in partial [] a v) (value_in partial [] a w)
    ∷ n_rel (env_by partial a v) (rows_in (value_lines a)) rhastag v w (value_in partial [] a v) (value_in partial [] a w)
    ∷ n_bin bcontains v w (value_in partial [] a v) (value_in partial [] a w)
    ∷ n_bin ball v w (value_in partial [] a v) (value_in partial [] a w)
    ∷ []

unfoldable pub two_give : ℕ → List ℕ → ℕ → ℕ → NOut
two_give t a v w = get_or (two_gives a v w) (t - EQ) (n_bin bany v w (value_in partial [] a v) (value_in partial [] a w))

unfoldable pub two_rule : ℕ → List ℕ → ℕ → ℕ → Option Bool
two_rule t a y z =
    get_or (bin_rule (schema_at a) beq (ty_at a y) (ty_at a z) ∷ none ∷ none ∷ none ∷ none ∷ none ∷ rel_rule (schema_at a) rin (ty_at a y) (ty_at a z) ∷ none ∷ rel_rule (schema_at a) rhastag (ty_at a y) (ty_at a z) ∷ [])
    (t - EQ) none

-- what an operation that gives g of two values gives by how far both are worked
abbrev pub out_two : (ℕ → ℕ → NOut) → Stage → Stage → NOut
out_two g (Value v) (Value w) = g v w
out_two g (Value v) Error = fails
out_two g (Value v) Open = stays
out_two g Error s = fails
out_two g Open (Value w) = stays
out_two g Open Error = fails
out_two g Open Open = stays

-- and by the code's word for that
abbrev pub pair_out : (ℕ → ℕ → NOut) → Pair → NOut
pair_out g (Values v w) = g v w
pair_out g Errorᵖ = fails
pair_out g Openᵖ = stays

-- the word tells these two, whatever the operation
pub record Tells (p : Pair) (s u : Stage) : Type 0 where
  pub is : (g : ℕ → ℕ → NOut) → pair_out g p ≡ out_two g s u

-- ---- a path

abbrev pub walk_in : Walked → Walk
walk_in (Holds b) = says b
walk_in Fails = lost
walk_in (Left v k j) = stuck j v k

-- k is the number j of steps, for a row of so many words, and room is left for a row's word
pub record Taken (len j k : ℕ) : Type 0 where
  pub is : j ≤ len - 4 → k ≡ j
  pub low : k < 4294967294
