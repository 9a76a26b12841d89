-- The definitions on a small log. Assumes nothing.
use mathlib.Core.Path.{◌≡◌, refl}
use mathlib.Core.List.{List, [], ◌∷◌}
use Prim.Native.Nat.{ℕ}
use Rattle.sheet.specs.Ascii.{ascii}
use Rattle.sheet.specs.Forms.{forms, form_of, mark}
use Rattle.sheet.specs.Answer.{concat}
use Rattle.forms.specs.Tags.{LIT, VAR, EQ, IS, LIKE, HASPATH, SET_OF, RECORD_OF, PART_P}
use Rattle.residual.specs.Rows.{word_at, stage_at, start_at}
use Rattle.listing.specs.Names.{op_name_def}
use Rattle.listing.specs.Nodes.{children_by, children_to, fields_to, rest_items, left_items, left_at, said_at, node_line, lines_by, log_lines}

-- types 0 bool, 1 record, 2 `entity,0`, 3 `set,0`; nodes 0 `var,p`, 1 `lit,5`, 2 `eq,0,1`, 3 `haspath,0,7,8,9`, 4 `like,0,3,*`, 5 `record,4,0,6,1`, 6 `set,0,1,2`, 7 `is,0,2`
nodes : List (List ℕ)
nodes =
    (VAR ∷ 2 ∷ PART_P ∷ []) ∷ (LIT ∷ 2 ∷ 5 ∷ []) ∷ (EQ ∷ 0 ∷ 0 ∷ 1 ∷ []) ∷ (HASPATH ∷ 0 ∷ 0 ∷ 7 ∷ 8 ∷ 9 ∷ []) ∷ (LIKE ∷ 0 ∷ 0 ∷ 3 ∷ mark ∷ [])
    ∷ (RECORD_OF ∷ 1 ∷ 4 ∷ 0 ∷ 6 ∷ 1 ∷ []) ∷ (SET_OF ∷ 3 ∷ 0 ∷ 1 ∷ 2 ∷ []) ∷ (IS ∷ 0 ∷ 0 ∷ 2 ∷ []) ∷ []

-- a set of `eq` over a variable and a value, an error and a record; then paths, a pattern and a kind
log : List ℕ
log =
    2 ∷ 0 ∷ 4 ∷ 2 ∷ 0 ∷ 5 ∷ 4 ∷ 2 ∷ 2 ∷ 2 ∷ 12 ∷ 0
    ∷ 1 ∷ 0 ∷ 4 ∷ 0
    ∷ 2 ∷ 0 ∷ 4 ∷ 2 ∷ 0 ∷ 17 ∷ 4 ∷ 0 ∷ 2 ∷ 5 ∷ 12 ∷ 1
    ∷ 2 ∷ 6 ∷ 32 ∷ 3
    ∷ 0 ∷ 7 ∷ 4 ∷ 2 ∷ 3 ∷ 3 ∷ 8 ∷ 0
    ∷ 2 ∷ 0 ∷ 4 ∷ 2 ∷ 2 ∷ 4 ∷ 8 ∷ 0
    ∷ 2 ∷ 0 ∷ 4 ∷ 2 ∷ 2 ∷ 7 ∷ 8 ∷ 0 ∷ []

printed : concat (log_lines nodes log)
    ≡ ascii "node=2,var,p\nnode=2,lit,5\nnode=0,eq,0,1\nnode=0,err\nnode=2,var,p\nnode=0,lit,17\nnode=1,record,4,4,6,5\nnode=3,set,2,3,6\nnode=2,lit,7\nnode=0,haspath,8,8,9\nnode=2,var,p\nnode=0,like,10,3,*\nnode=2,var,p\nnode=0,is,12,2\n"
unfolding nodes log forms form_of word_at stage_at start_at children_by children_to fields_to op_name_def rest_items left_items left_at said_at node_line lines_by log_lines
printed = refl
