-- The run over words on a small sheet. Assumes nothing.
use mathlib.Core.Path.{◌≡◌, refl}
use mathlib.Core.List.{List, [], ◌∷◌}
use Prim.Native.Nat.{ℕ, ◌+◌}
use lib.ListN.{length, get_or, set, replicate}
use lib.Seq.{sets}
use Rattle.words.specs.Log.{appended}
use Rattle.cedar.specs.Residual.{cfalse}
use Rattle.forms.specs.Tags.{KIND_LINE, BOOL_TYPE, ENTITY_TYPE, RECORD_TYPE, SHAPE_LINE, BOOL_VALUE, PRINCIPAL_LINE, CONTEXT_LINE, LIT, VAR, AND, EQ, GET, HASPATH, NOT, SLOT, POLICY_LINE, PART_P, PART_C, SLOT_P, SLOT_R, PERMIT}
use Rattle.sheet.specs.Forms.{partial, TYPE, VALUE, NODE, PRINCIPAL, CONTEXT, KIND, SHAPE, mark}
use Rattle.sheet.specs.Content.{types, schema, n_env}
use Rattle.table.specs.Layout.{bases, base, row_at, rows_at, rows_of, lines_held, held, with_row, RUN, TOP, heap}
use Rattle.value.specs.Lines.{value_lines, place_of}
use Rattle.value.specs.Made.{room_for, narrow, number_of, with_made, with_value}
use Rattle.residual.specs.Rows.{word_at, stage_at, start_at}
use Rattle.residual.specs.Errs.{op_errs_def, blocks_by, blocks_err, row_errs, errs_by, errs}
use Rattle.tpe.specs.Run.{lit_of, err_of, left_of, made_of, give_of, settle_of, ruled_of, worked1, worked2, one_of, two_of, class_by, class_of, decided_by, second_by, second_of, first_by, first_of, schema_in, ty_in, env_in, var_for, un_of, bin_of, lit_step, var_step, lazy_step, bin_step, un_step, step_with, step_of, interp_of, ran_from, run_of, Line, get_of, get_step, walk_from, unmoved_of, walked_of, path_by, path_of, path_step, slot_step}

-- a row more of key k
with : ℕ → List ℕ → List ℕ → List ℕ
with k r w = with_row (sets w (get_or w TOP 0) r) k (get_or w TOP 0 + length r)

-- types `bool`, `entity,0`; value `bool,1`; principal `0,?`; nodes `var p` twice, `eq`, `lit` true, `not`, `and`; one policy that runs
words : List ℕ
words =
    with RUN (POLICY_LINE ∷ 0 ∷ PERMIT ∷ 5 ∷ mark ∷ mark ∷ [])
    (with NODE (AND ∷ 0 ∷ 2 ∷ 4 ∷ [])
    (with NODE (NOT ∷ 0 ∷ 3 ∷ [])
    (with NODE (LIT ∷ 0 ∷ 0 ∷ [])
    (with NODE (EQ ∷ 0 ∷ 0 ∷ 1 ∷ [])
    (with NODE (VAR ∷ 1 ∷ PART_P ∷ [])
    (with NODE (VAR ∷ 1 ∷ PART_P ∷ [])
    (with PRINCIPAL (PRINCIPAL_LINE ∷ 0 ∷ mark ∷ [])
    (with VALUE (BOOL_VALUE ∷ 1 ∷ [])
    (with TYPE (ENTITY_TYPE ∷ 0 ∷ [])
    (with TYPE (BOOL_TYPE ∷ []) (set (replicate (heap + 64) 0) TOP heap)))))))))))

-- the same over `get` of the unknown context, which can err
risky : List ℕ
risky =
    with RUN (POLICY_LINE ∷ 0 ∷ PERMIT ∷ 4 ∷ mark ∷ mark ∷ [])
    (with NODE (AND ∷ 0 ∷ 1 ∷ 3 ∷ [])
    (with NODE (NOT ∷ 0 ∷ 2 ∷ [])
    (with NODE (LIT ∷ 0 ∷ 0 ∷ [])
    (with NODE (GET ∷ 0 ∷ 0 ∷ 0 ∷ [])
    (with NODE (VAR ∷ 1 ∷ PART_C ∷ [])
    (with CONTEXT (CONTEXT_LINE ∷ 1 ∷ mark ∷ [])
    (with VALUE (BOOL_VALUE ∷ 1 ∷ [])
    (with TYPE (RECORD_TYPE ∷ 0 ∷ 0 ∷ 0 ∷ [])
    (with TYPE (BOOL_TYPE ∷ []) (set (replicate (heap + 64) 0) TOP heap))))))))))

-- a path from the known principal, an entity that is not listed
path : List ℕ
path =
    with RUN (POLICY_LINE ∷ 0 ∷ PERMIT ∷ 1 ∷ mark ∷ mark ∷ [])
    (with NODE (HASPATH ∷ 0 ∷ 0 ∷ 0 ∷ 0 ∷ [])
    (with NODE (VAR ∷ 1 ∷ PART_P ∷ [])
    (with PRINCIPAL (PRINCIPAL_LINE ∷ 0 ∷ 0 ∷ [])
    (with SHAPE (SHAPE_LINE ∷ 2 ∷ mark ∷ [])
    (with TYPE (RECORD_TYPE ∷ 0 ∷ 0 ∷ 1 ∷ [])
    (with TYPE (ENTITY_TYPE ∷ 0 ∷ [])
    (with TYPE (BOOL_TYPE ∷ [])
    (with KIND (KIND_LINE ∷ 0 ∷ 0 ∷ []) (set (replicate (heap + 64) 0) TOP heap)))))))))

-- the same over a group of kinds, one of which declares the step
group : List ℕ
group =
    with RUN (POLICY_LINE ∷ 0 ∷ PERMIT ∷ 1 ∷ mark ∷ mark ∷ [])
    (with NODE (HASPATH ∷ 0 ∷ 0 ∷ 0 ∷ 0 ∷ [])
    (with NODE (VAR ∷ 4 ∷ PART_P ∷ [])
    (with PRINCIPAL (PRINCIPAL_LINE ∷ 0 ∷ 0 ∷ [])
    (with SHAPE (SHAPE_LINE ∷ 2 ∷ mark ∷ [])
    (with SHAPE (SHAPE_LINE ∷ 2 ∷ mark ∷ [])
    (with TYPE (ENTITY_TYPE ∷ 0 ∷ 1 ∷ [])
    (with TYPE (ENTITY_TYPE ∷ 1 ∷ [])
    (with TYPE (RECORD_TYPE ∷ 0 ∷ 0 ∷ 1 ∷ [])
    (with TYPE (ENTITY_TYPE ∷ 0 ∷ [])
    (with TYPE (BOOL_TYPE ∷ [])
    (with KIND (KIND_LINE ∷ 0 ∷ 0 ∷ [])
    (with KIND (KIND_LINE ∷ 0 ∷ 0 ∷ []) (set (replicate (heap + 64) 0) TOP heap)))))))))))))

-- one root under two links, and one with the other slot
slots : List ℕ
slots =
    with RUN (POLICY_LINE ∷ 2 ∷ PERMIT ∷ 1 ∷ 6 ∷ 7 ∷ [])
    (with RUN (POLICY_LINE ∷ 1 ∷ PERMIT ∷ 0 ∷ 8 ∷ 9 ∷ [])
    (with RUN (POLICY_LINE ∷ 0 ∷ PERMIT ∷ 0 ∷ 6 ∷ 7 ∷ [])
    (with NODE (SLOT ∷ 1 ∷ SLOT_R ∷ [])
    (with NODE (SLOT ∷ 1 ∷ SLOT_P ∷ []) (set (replicate (heap + 64) 0) TOP heap)))))

-- what a run shows
abbrev shown : List ℕ → List ℕ × List Line
shown a = let r = run_of partial [] a [] in (r.log, r.lines)

-- The left side stays open and cannot err, the right side makes false: the policy is false. Over a left side that can err the node
-- stays, with a literal false. Of a path what is left over begins at the entity made, with the operand's own type. A slot is the
-- value of its policy's link.
cases : (shown words ≡ (0 ∷ 1 ∷ 4 ∷ 0 ∷ [], record { class = cfalse; end = 4 } ∷ []))
    × ((shown risky).0 ≡ 2 ∷ 0 ∷ 4 ∷ 1 ∷ 2 ∷ 1 ∷ 8 ∷ 0 ∷ 0 ∷ 1 ∷ 4 ∷ 0 ∷ 2 ∷ 4 ∷ 16 ∷ 0 ∷ [])
    × ((shown path).0 ≡ 0 ∷ 0 ∷ 4 ∷ 1 ∷ 2 ∷ 1 ∷ 8 ∷ 0 ∷ [])
    × ((shown group).0 ≡ 0 ∷ 0 ∷ 4 ∷ 4 ∷ 2 ∷ 1 ∷ 8 ∷ 0 ∷ [])
    × ((shown slots).0 ≡ 0 ∷ 6 ∷ 4 ∷ 1 ∷ 0 ∷ 8 ∷ 4 ∷ 1 ∷ 0 ∷ 7 ∷ 4 ∷ 1 ∷ [])
unfolding with words bases base row_at rows_at rows_of lines_held held with_row value_lines place_of room_for narrow number_of with_made with_value word_at stage_at start_at op_errs_def blocks_by blocks_err row_errs errs_by errs lit_of err_of left_of made_of give_of settle_of ruled_of worked1 worked2 one_of two_of class_by class_of decided_by second_by second_of first_by first_of schema_in ty_in env_in var_for un_of bin_of lit_step var_step lazy_step bin_step un_step step_with step_of interp_of ran_from run_of appended types schema n_env risky get_of get_step path group walk_from unmoved_of walked_of path_by path_of path_step slots slot_step
cases = (refl, refl, refl, refl, refl)
