-- TEXTS THAT DEMAND 3 REFUSES, whatever the other two answers are: the open answer of ExampleBytes with a line changed, to what no call prints; and one in which all is invented.
use mathlib.Core.Path.{◌≡◌, refl, ap}
use mathlib.Core.Option.{none}
use mathlib.Core.List.{List, [], ◌∷◌}
use Prim.Native.Nat.{ℕ}
use native.Mathlib.Omega.{arith}
use lib.IntN.{pos}
use lib.ListN.{get_or}
use Rattle.cedar.proofs.Tools.{no_true}
use Rattle.cedar.specs.Canonical.{order, same, place, insert, ascending, make_set}
use Rattle.cedar.specs.Residual.{copen}
use Rattle.cedar.specs.Response.{Effect, permit, forbid, is_permit, undecided}
use Rattle.cedar.specs.Rows.{Row, rlong, rent, rset}
use Rattle.sheet.specs.Ascii.{ascii}
use Rattle.sheet.specs.Forms.{keys, forms, form_of, slot_at, counted, tag_of, row_of, key_of, refs, ascendings}
use Rattle.sheet.specs.Parents.{ancestors, unknown_above}
use Rattle.sheet.specs.Typing.{fits_in, nodes_under, typed}
use Rattle.sheet.specs.Sheet.{found, depth, fault, more, read}
use Rattle.sheet.specs.Content.{types, value_rows, contents, schema, trees, exprs, on_term, n_policies, policies, n_env, env}
use Rattle.sheet.specs.Answer.{run, results, answer}
use Rattle.sheet.specs.Call.{returned}
use Rattle.sheet.specs.ReadAnswer.{Said, read_answer}
use Rattle.sheet.specs.Demand3.{Demand3}
use Rattle.sheet.proofs.demand3.Demand3Says.{own_ids, own_effects, own_counts, own_trees}
use Rattle.sheet.proofs.answer.Shown.{line_ends}
use Rattle.samples.proofs.ExampleBytes.{p, c, open_sheet, low, high}

-- what such a text says
abbrev said : List ℕ → List Row → List (List ℕ) → ℕ → Effect → Said
said counts made nodes i e = record { decision = undecided; counts = counts; why = none; made = made; nodes = nodes; policies = record { id = i; effect = e; class = copen; root = 3 } ∷ [] }

abbrev one_open : List ℕ
one_open = 0 ∷ 0 ∷ 0 ∷ 1 ∷ 0 ∷ 0 ∷ 0 ∷ 0 ∷ []

-- the four nodes, with the items of the literal and of the comparison
abbrev nodes_with : ℕ → ℕ → ℕ → List (List ℕ)
nodes_with t v n = (23 ∷ 3 ∷ 3 ∷ []) ∷ (41 ∷ 2 ∷ 0 ∷ 6 ∷ []) ∷ (21 ∷ t ∷ v ∷ []) ∷ (27 ∷ 0 ∷ 1 ∷ n ∷ []) ∷ []

-- no two answers make such a text one of demand 3's
abbrev Refused : List ℕ → Type 0
Refused text = (b c : List ℕ) → Demand3 open_sheet low high text b c → ⊥

-- ---- an id, an effect and counts that are not the sheet's

abbrev invented_id : List ℕ
invented_id = line_ends (ascii "decision=open/counts=0,0,0,1,0,0,0,0/why=none/value=long,3/node=3,var,c/node=2,get,0,6/node=2,lit,2/node=0,lt,1,2/policy=0,permit,open,3/")

id_refused : Refused invented_id
unfolding low read_answer keys forms form_of slot_at counted tag_of row_of key_of refs ascendings fits_in nodes_under typed found depth fault more read types value_rows contents schema trees exprs on_term n_policies policies n_env env run results answer returned ancestors unknown_above order same place insert ascending make_set
id_refused b c h = let e : ◌≡◌ {A = ℕ} 0 5 = ap (λ (l : List ℕ). get_or l 0 0) (own_ids h (said one_open (rlong (pos 3) ∷ []) (nodes_with 2 2 2) 0 permit) refl) in absurd (omega (arith, e))

abbrev invented_effect : List ℕ
invented_effect = line_ends (ascii "decision=open/counts=0,0,0,0,0,0,0,1/why=none/value=long,3/node=3,var,c/node=2,get,0,6/node=2,lit,2/node=0,lt,1,2/policy=5,forbid,open,3/")

effect_refused : Refused invented_effect
unfolding low read_answer keys forms form_of slot_at counted tag_of row_of key_of refs ascendings fits_in nodes_under typed found depth fault more read types value_rows contents schema trees exprs on_term n_policies policies n_env env run results answer returned ancestors unknown_above order same place insert ascending make_set
effect_refused b c h = no_true (ap (λ (l : List Effect). is_permit (get_or l 0 permit)) (own_effects h (said (0 ∷ 0 ∷ 0 ∷ 0 ∷ 0 ∷ 0 ∷ 0 ∷ 1 ∷ []) (rlong (pos 3) ∷ []) (nodes_with 2 2 2) 5 forbid) refl))

abbrev invented_counts : List ℕ
invented_counts = line_ends (ascii "decision=open/counts=7,0,0,1,0,0,0,0/why=none/value=long,3/node=3,var,c/node=2,get,0,6/node=2,lit,2/node=0,lt,1,2/policy=5,permit,open,3/")

counts_refused : Refused invented_counts
unfolding read_answer keys forms form_of slot_at counted tag_of row_of key_of refs ascendings fits_in nodes_under typed found depth fault more read types value_rows contents schema trees exprs on_term n_policies policies n_env env run results answer returned ancestors unknown_above order same place insert ascending make_set
counts_refused b c h = let e : ◌≡◌ {A = ℕ} 7 0 = ap (λ (l : List ℕ). get_or l 0 0) (own_counts h (said (7 ∷ 0 ∷ 0 ∷ 1 ∷ 0 ∷ 0 ∷ 0 ∷ 0 ∷ []) (rlong (pos 3) ∷ []) (nodes_with 2 2 2) 5 permit) refl) in absurd (omega (arith, e))

-- ---- a literal, a child, a type and a value's member that are absent; a slot

abbrev absent_literal : List ℕ
absent_literal = line_ends (ascii "decision=open/counts=0,0,0,1,0,0,0,0/why=none/value=long,3/node=3,var,c/node=2,get,0,6/node=2,lit,3/node=0,lt,1,2/policy=5,permit,open,3/")

literal_refused : Refused absent_literal
unfolding open_sheet read_answer keys forms form_of slot_at counted tag_of row_of key_of refs ascendings fits_in nodes_under typed found depth fault more read types value_rows contents schema trees exprs on_term n_policies policies n_env env run results answer returned ancestors unknown_above order same place insert ascending make_set
literal_refused b c h = no_true (own_trees h (said one_open (rlong (pos 3) ∷ []) (nodes_with 2 3 2) 5 permit) refl (omega arith))

abbrev absent_child : List ℕ
absent_child = line_ends (ascii "decision=open/counts=0,0,0,1,0,0,0,0/why=none/value=long,3/node=3,var,c/node=2,get,0,6/node=2,lit,2/node=0,lt,1,3/policy=5,permit,open,3/")

child_refused : Refused absent_child
unfolding open_sheet read_answer keys forms form_of slot_at counted tag_of row_of key_of refs ascendings fits_in nodes_under typed found depth fault more read types value_rows contents schema trees exprs on_term n_policies policies n_env env run results answer returned ancestors unknown_above order same place insert ascending make_set
child_refused b c h = no_true (own_trees h (said one_open (rlong (pos 3) ∷ []) (nodes_with 2 2 3) 5 permit) refl (omega arith))

abbrev absent_type : List ℕ
absent_type = line_ends (ascii "decision=open/counts=0,0,0,1,0,0,0,0/why=none/value=long,3/node=3,var,c/node=2,get,0,6/node=4,lit,2/node=0,lt,1,2/policy=5,permit,open,3/")

type_refused : Refused absent_type
unfolding open_sheet read_answer keys forms form_of slot_at counted tag_of row_of key_of refs ascendings fits_in nodes_under typed found depth fault more read types value_rows contents schema trees exprs on_term n_policies policies n_env env run results answer returned ancestors unknown_above order same place insert ascending make_set
type_refused b c h = no_true (own_trees h (said one_open (rlong (pos 3) ∷ []) (nodes_with 4 2 2) 5 permit) refl (omega arith))

abbrev absent_member : List ℕ
absent_member = line_ends (ascii "decision=open/counts=0,0,0,1,0,0,0,0/why=none/value=set,2/node=3,var,c/node=2,get,0,6/node=2,lit,2/node=0,lt,1,2/policy=5,permit,open,3/")

member_refused : Refused absent_member
unfolding open_sheet read_answer keys forms form_of slot_at counted tag_of row_of key_of refs ascendings fits_in nodes_under typed found depth fault more read types value_rows contents schema trees exprs on_term n_policies policies n_env env run results answer returned ancestors unknown_above order same place insert ascending make_set
member_refused b c h = no_true (own_trees h (said one_open (rset (2 ∷ []) ∷ []) (nodes_with 2 2 2) 5 permit) refl (omega arith))

abbrev with_slot : List ℕ
with_slot = line_ends (ascii "decision=open/counts=0,0,0,1,0,0,0,0/why=none/value=long,3/node=3,var,c/node=2,get,0,6/node=2,slot,p/node=0,lt,1,2/policy=5,permit,open,3/")

slot_refused : Refused with_slot
unfolding open_sheet read_answer keys forms form_of slot_at counted tag_of row_of key_of refs ascendings fits_in nodes_under typed found depth fault more read types value_rows contents schema trees exprs on_term n_policies policies n_env env run results answer returned ancestors unknown_above order same place insert ascending make_set
slot_refused b c h = no_true (own_trees h (said one_open (rlong (pos 3) ∷ []) ((23 ∷ 3 ∷ 3 ∷ []) ∷ (41 ∷ 2 ∷ 0 ∷ 6 ∷ []) ∷ (49 ∷ 2 ∷ 0 ∷ []) ∷ (27 ∷ 0 ∷ 1 ∷ 2 ∷ []) ∷ []) 5 permit) refl (omega arith))

-- ---- a text and a kind that are absent: 7 texts and 3 kinds stand on the sheet

abbrev absent_text : List ℕ
absent_text = line_ends (ascii "decision=open/counts=0,0,0,1,0,0,0,0/why=none/value=long,3/node=3,var,c/node=3,var,c/node=3,var,c/node=2,get,0,7/policy=5,permit,open,3/")

text_refused : Refused absent_text
unfolding open_sheet read_answer keys forms form_of slot_at counted tag_of row_of key_of refs ascendings fits_in nodes_under typed found depth fault more read types value_rows contents schema trees exprs on_term n_policies policies n_env env run results answer returned ancestors unknown_above order same place insert ascending make_set
text_refused b c h = no_true (own_trees h (said one_open (rlong (pos 3) ∷ []) ((23 ∷ 3 ∷ 3 ∷ []) ∷ (23 ∷ 3 ∷ 3 ∷ []) ∷ (23 ∷ 3 ∷ 3 ∷ []) ∷ (41 ∷ 2 ∷ 0 ∷ 7 ∷ []) ∷ []) 5 permit) refl (omega arith))

abbrev absent_step : List ℕ
absent_step = line_ends (ascii "decision=open/counts=0,0,0,1,0,0,0,0/why=none/value=long,3/node=3,var,c/node=3,var,c/node=3,var,c/node=0,haspath,0,6,7/policy=5,permit,open,3/")

step_refused : Refused absent_step
unfolding open_sheet read_answer keys forms form_of slot_at counted tag_of row_of key_of refs ascendings fits_in nodes_under typed found depth fault more read types value_rows contents schema trees exprs on_term n_policies policies n_env env run results answer returned ancestors unknown_above order same place insert ascending make_set
step_refused b c h = no_true (own_trees h (said one_open (rlong (pos 3) ∷ []) ((23 ∷ 3 ∷ 3 ∷ []) ∷ (23 ∷ 3 ∷ 3 ∷ []) ∷ (23 ∷ 3 ∷ 3 ∷ []) ∷ (43 ∷ 0 ∷ 0 ∷ 6 ∷ 7 ∷ []) ∷ []) 5 permit) refl (omega arith))

abbrev absent_piece : List ℕ
absent_piece = line_ends (ascii "decision=open/counts=0,0,0,1,0,0,0,0/why=none/value=long,3/node=3,var,c/node=3,var,c/node=3,var,c/node=0,like,0,*,7/policy=5,permit,open,3/")

piece_refused : Refused absent_piece
unfolding open_sheet read_answer keys forms form_of slot_at counted tag_of row_of key_of refs ascendings fits_in nodes_under typed found depth fault more read types value_rows contents schema trees exprs on_term n_policies policies n_env env run results answer returned ancestors unknown_above order same place insert ascending make_set
piece_refused b c h = no_true (own_trees h (said one_open (rlong (pos 3) ∷ []) ((23 ∷ 3 ∷ 3 ∷ []) ∷ (23 ∷ 3 ∷ 3 ∷ []) ∷ (23 ∷ 3 ∷ 3 ∷ []) ∷ (40 ∷ 0 ∷ 0 ∷ 10000 ∷ 7 ∷ []) ∷ []) 5 permit) refl (omega arith))

abbrev absent_name : List ℕ
absent_name = line_ends (ascii "decision=open/counts=0,0,0,1,0,0,0,0/why=none/value=long,3/node=3,var,c/node=3,var,c/node=3,var,c/node=3,record,7,0/policy=5,permit,open,3/")

name_refused : Refused absent_name
unfolding open_sheet read_answer keys forms form_of slot_at counted tag_of row_of key_of refs ascendings fits_in nodes_under typed found depth fault more read types value_rows contents schema trees exprs on_term n_policies policies n_env env run results answer returned ancestors unknown_above order same place insert ascending make_set
name_refused b c h = no_true (own_trees h (said one_open (rlong (pos 3) ∷ []) ((23 ∷ 3 ∷ 3 ∷ []) ∷ (23 ∷ 3 ∷ 3 ∷ []) ∷ (23 ∷ 3 ∷ 3 ∷ []) ∷ (48 ∷ 3 ∷ 7 ∷ 0 ∷ []) ∷ []) 5 permit) refl (omega arith))

abbrev absent_kind : List ℕ
absent_kind = line_ends (ascii "decision=open/counts=0,0,0,1,0,0,0,0/why=none/value=long,3/node=3,var,c/node=3,var,c/node=3,var,c/node=0,is,0,3/policy=5,permit,open,3/")

kind_refused : Refused absent_kind
unfolding open_sheet read_answer keys forms form_of slot_at counted tag_of row_of key_of refs ascendings fits_in nodes_under typed found depth fault more read types value_rows contents schema trees exprs on_term n_policies policies n_env env run results answer returned ancestors unknown_above order same place insert ascending make_set
kind_refused b c h = no_true (own_trees h (said one_open (rlong (pos 3) ∷ []) ((23 ∷ 3 ∷ 3 ∷ []) ∷ (23 ∷ 3 ∷ 3 ∷ []) ∷ (23 ∷ 3 ∷ 3 ∷ []) ∷ (39 ∷ 0 ∷ 0 ∷ 3 ∷ []) ∷ []) 5 permit) refl (omega arith))

abbrev absent_entity : List ℕ
absent_entity = line_ends (ascii "decision=open/counts=0,0,0,1,0,0,0,0/why=none/value=entity,3,0/node=3,var,c/node=2,get,0,6/node=2,lit,2/node=0,lt,1,2/policy=5,permit,open,3/")

entity_refused : Refused absent_entity
unfolding open_sheet read_answer keys forms form_of slot_at counted tag_of row_of key_of refs ascendings fits_in nodes_under typed found depth fault more read types value_rows contents schema trees exprs on_term n_policies policies n_env env run results answer returned ancestors unknown_above order same place insert ascending make_set
entity_refused b c h = no_true (own_trees h (said one_open (rent 3 0 ∷ []) (nodes_with 2 2 2) 5 permit) refl (omega arith))

-- ---- the sheets p and c say ids 5 and 6 and effect permit. All is invented: ids, effects and counts; a literal and a child are absent

-- what such a text says, with these counts, two ids and an effect
abbrev said_two : List ℕ → ℕ → ℕ → Effect → Said
said_two counts i j e = record {
  decision = undecided;
  counts = counts;
  why = none;
  made = [];
  nodes = (21 ∷ 0 ∷ 999 ∷ []) ∷ (44 ∷ 0 ∷ 0 ∷ []) ∷ (44 ∷ 0 ∷ 7 ∷ []) ∷ [];
  policies = record { id = i; effect = e; class = copen; root = 0 } ∷ record { id = j; effect = e; class = copen; root = 1 } ∷ [];
}

abbrev one_to_eight : List ℕ
one_to_eight = 1 ∷ 2 ∷ 3 ∷ 4 ∷ 5 ∷ 6 ∷ 7 ∷ 8 ∷ []

abbrev wrong₁ : List ℕ
wrong₁ = line_ends (ascii "decision=open/counts=1,2,3,4,5,6,7,8/why=none/node=0,lit,999/node=0,not,0/node=0,not,7/policy=0,forbid,open,0/policy=0,forbid,open,1/")

abbrev wrong₂ : List ℕ
wrong₂ = line_ends (ascii "decision=allow/counts=8,7,6,5,4,3,2,1/why=none/policy=0,forbid,false/policy=0,forbid,true/")

all_invented_refused : Demand3 p c c wrong₁ wrong₂ wrong₂ → ⊥
unfolding c read_answer keys forms form_of slot_at counted tag_of row_of key_of refs ascendings fits_in nodes_under typed found depth fault more read types value_rows contents schema trees exprs on_term n_policies policies n_env env run results answer returned ancestors unknown_above order same place insert ascending make_set
all_invented_refused h = let e : ◌≡◌ {A = ℕ} 0 5 = ap (λ (l : List ℕ). get_or l 0 0) (own_ids h (said_two one_to_eight 0 0 forbid) refl) in absurd (omega (arith, e))

-- with the sheet's ids and effects its counts refuse it
own_lines : List ℕ
own_lines = line_ends (ascii "decision=open/counts=1,2,3,4,5,6,7,8/why=none/node=0,lit,999/node=0,not,0/node=0,not,7/policy=5,permit,open,0/policy=6,permit,open,1/")

own_lines_refused : (b d : List ℕ) → Demand3 p c c own_lines b d → ⊥
unfolding own_lines read_answer keys forms form_of slot_at counted tag_of row_of key_of refs ascendings fits_in nodes_under typed found depth fault more read types value_rows contents schema trees exprs on_term n_policies policies n_env env run results answer returned ancestors unknown_above order same place insert ascending make_set
own_lines_refused b d h = let e : ◌≡◌ {A = ℕ} 1 0 = ap (λ (l : List ℕ). get_or l 0 0) (own_counts h (said_two one_to_eight 5 6 permit) refl) in absurd (omega (arith, e))

-- and with its counts too, the absent literal and child
own_counted : List ℕ
own_counted = line_ends (ascii "decision=open/counts=0,0,0,2,0,0,0,0/why=none/node=0,lit,999/node=0,not,0/node=0,not,7/policy=5,permit,open,0/policy=6,permit,open,1/")

own_counted_refused : (b d : List ℕ) → Demand3 p c c own_counted b d → ⊥
unfolding own_counted p read_answer keys forms form_of slot_at counted tag_of row_of key_of refs ascendings fits_in nodes_under typed found depth fault more read types value_rows contents schema trees exprs on_term n_policies policies n_env env run results answer returned ancestors unknown_above order same place insert ascending make_set
own_counted_refused b d h = no_true (own_trees h (said_two (0 ∷ 0 ∷ 0 ∷ 2 ∷ 0 ∷ 0 ∷ 0 ∷ 0 ∷ []) 5 6 permit) refl (omega arith))
