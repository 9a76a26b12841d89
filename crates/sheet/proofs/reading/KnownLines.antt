-- What the documents say of single lines and no theorem rests on, from bytes to bytes, by computation on short sheets: dates, terms, templates, groups; the depth of leaves.
use mathlib.Core.Path.{◌≡◌, refl}
use mathlib.Core.Option.{none, some}
use mathlib.Core.List.{List, [], ◌∷◌}
use Prim.Native.Nat.{ℕ}
use lib.ListN.{replicate}
use Rattle.sheet.specs.Ascii.{ascii}
use Rattle.sheet.specs.Forms.{keys, partial, forms, form_of, slot_at, counted, tag_of, row_of, key_of, refs, ascendings, first_type, first_value, first_node, TYPE, VALUE, NODE, slot_node, alone_row}
use Rattle.sheet.specs.State.{State}
use Rattle.sheet.specs.Typing.{fits_in, nodes_under, typed}
use Rattle.sheet.specs.Parents.{ancestors, unknown_above}
use Rattle.sheet.specs.Sheet.{found, depth, fault, more, read}
use Rattle.sheet.specs.Content.{types, value_rows, contents, schema, trees, exprs, on_term, n_policies, policies, n_env, env}
use Rattle.sheet.specs.Answer.{run, results, answer}
use Rattle.sheet.specs.Call.{returned}
use Rattle.cedar.specs.Canonical.{order, same, place, insert, ascending, make_set}
use Rattle.sheet.specs.Bytes.{date}
use Rattle.sheet.proofs.answer.Shown.{bytes, shown, Case, case, shown_all, says_all}

-- ---- one head: texts, kinds, types and shapes

unfoldable pub head : List ℕ
head = bytes "sheet=partial/text=Broker/text=Action/text=Tariff/text=quote/text=T1/text=p0/text=p1/text=a/text=/text=x/kind=0,e/kind=1,a/kind=2,e/type=bool/type=record/type=entity,0/type=long/type=string/type=set,2/type=record,7,r,0,9,o,3/type=entity,1/type=entity,2/type=record,7,o,2,9,o,8/shape=1,-,0/shape=1,-/shape=9,4,0/"

-- ---- document 02, "Terms of validity", over the same head; more of them in `samples`

terms : List Case
terms =
    case "value=bool,1/principal=0,?/action=1,3/resource=2,4/context=6,?/day=2000-02-29/node=0,lit,0/node=0,lit,0/policy=5,permit,0/policy=6,forbid,1/term=0,2000-02-29,2000-02-29/term=1,1900-01-01,2000-02-28/" "decision=allow/counts=1,0,0,0,0,0,0,0/why=5/node=0,lit,0/policy=5,permit,true,0/"  -- "Both edge days belong to the term"; a forbid off term is skipped
    ∷ case "value=bool,1/principal=0,?/action=1,3/resource=2,4/context=6,?/node=0,lit,0/" "refused=3,33,0/"  -- "Every sheet has one line"
    ∷ []

term_sheets : shown_all head terms ≡ says_all terms
unfolding head terms shown keys forms form_of slot_at counted tag_of row_of key_of refs ascendings fits_in nodes_under typed found depth fault more read types value_rows contents schema trees exprs on_term n_policies policies n_env env run results answer returned ancestors unknown_above order same place insert ascending make_set
term_sheets = refl

-- ---- document 02, "Carrier templates", over the same head; more of them in `samples`

templates : List Case
templates =
    case "value=entity,0,7/principal=0,?/action=1,3/resource=2,4/context=6,?/day=2000-01-01/node=2,var,p/node=2,slot,p/node=0,eq,0,1/policy=5,permit,2/link=0,0,-/" "decision=open/counts=0,0,0,1,0,0,0,0/why=none/node=2,var,p/node=2,lit,0/node=0,eq,0,1/policy=5,permit,open,2/"  -- the residual is that of the linked policy
    ∷ []

template_sheets : shown_all head templates ≡ says_all templates
unfolding head templates shown keys forms form_of slot_at counted tag_of row_of key_of refs ascendings fits_in nodes_under typed found depth fault more read types value_rows contents schema trees exprs on_term n_policies policies n_env env run results answer returned ancestors unknown_above order same place insert ascending make_set
template_sheets = refl

-- "2000-02-29 is one, 2100-02-29 gets 3": dates, and what is none
dates : date (ascii "1900-01-01") ∷ date (ascii "2199-12-31") ∷ date (ascii "2000-02-29") ∷ date (ascii "2024-02-29") ∷ [] ≡ some 19000101 ∷ some 21991231 ∷ some 20000229 ∷ some 20240229 ∷ []
dates = refl

no_dates : date (ascii "2100-02-29") ∷ date (ascii "1900-02-29") ∷ date (ascii "2001-02-29") ∷ date (ascii "1899-12-31") ∷ date (ascii "2200-01-01") ∷ date (ascii "2000-00-01") ∷ date (ascii "2000-13-01") ∷ date (ascii "2000-01-00")
    ∷ date (ascii "2000-04-31") ∷ date (ascii "2000-1-010") ∷ date (ascii "02000-1-01") ∷ date (ascii "2000-01-1") ∷ date (ascii "2000-01-011") ∷ date (ascii "2000/01/01") ∷ date (ascii "20000101") ∷ date (ascii "?") ∷ date [] ∷ []
    ≡ replicate 17 none
no_dates = refl

-- the last day of each month, and the day after it
month_ends : date (ascii "2026-01-31") ∷ date (ascii "2026-02-28") ∷ date (ascii "2026-03-31") ∷ date (ascii "2026-04-30") ∷ date (ascii "2026-05-31") ∷ date (ascii "2026-06-30") ∷ date (ascii "2026-07-31") ∷ date (ascii "2026-08-31") ∷ date (ascii "2026-09-30") ∷ date (ascii "2026-10-31") ∷ date (ascii "2026-11-30") ∷ date (ascii "2026-12-31") ∷ [] ≡ some 20260131 ∷ some 20260228 ∷ some 20260331 ∷ some 20260430 ∷ some 20260531 ∷ some 20260630 ∷ some 20260731 ∷ some 20260831 ∷ some 20260930 ∷ some 20261031 ∷ some 20261130 ∷ some 20261231 ∷ []
month_ends = refl

past_month_ends : date (ascii "2026-01-32") ∷ date (ascii "2026-02-29") ∷ date (ascii "2026-03-32") ∷ date (ascii "2026-04-31") ∷ date (ascii "2026-05-32") ∷ date (ascii "2026-06-31") ∷ date (ascii "2026-07-32") ∷ date (ascii "2026-08-32") ∷ date (ascii "2026-09-31") ∷ date (ascii "2026-10-32") ∷ date (ascii "2026-11-31") ∷ date (ascii "2026-12-32") ∷ [] ≡ replicate 12 none
past_month_ends = refl

-- 29 February: every fourth year, of the years of a century's end every fourth
leap_days : date (ascii "1904-02-29") ∷ date (ascii "1996-02-29") ∷ date (ascii "2000-02-29") ∷ date (ascii "2004-02-29") ∷ date (ascii "2096-02-29") ∷ date (ascii "2104-02-29") ∷ date (ascii "2196-02-29") ∷ [] ≡ some 19040229 ∷ some 19960229 ∷ some 20000229 ∷ some 20040229 ∷ some 20960229 ∷ some 21040229 ∷ some 21960229 ∷ []
leap_days = refl

no_leap_days : date (ascii "1900-02-29") ∷ date (ascii "2100-02-29") ∷ date (ascii "2002-02-29") ∷ date (ascii "2025-02-29") ∷ date (ascii "2026-02-29") ∷ date (ascii "2027-02-29") ∷ date (ascii "2198-02-29") ∷ [] ≡ replicate 7 none
no_leap_days = refl

-- both dashes are dashes
dashes : date (ascii "2026-06-15") ∷ date (ascii "2026-06.15") ∷ date (ascii "2026.06-15") ∷ date (ascii "2026-06/15") ∷ date (ascii "2026/06-15") ∷ date (ascii "2026-06015") ∷ date (ascii "2026006-15") ∷ [] ≡ some 20260615 ∷ replicate 6 none
dashes = refl

-- "A leaf has depth 1": a node's depth counts nodes alone, a value's values alone, a type's types alone
leaf_depths : (s : State) (x y : ℕ) → depth s NODE (21 ∷ x ∷ y ∷ []) ∷ depth s NODE (22 ∷ x ∷ []) ∷ depth s NODE (23 ∷ x ∷ y ∷ []) ∷ depth s NODE (slot_node ∷ x ∷ y ∷ []) ∷ depth s VALUE (12 ∷ x ∷ []) ∷ depth s VALUE (13 ∷ x ∷ y ∷ []) ∷ depth s TYPE (6 ∷ x ∷ y ∷ []) ∷ [] ≡ replicate 7 1
unfolding forms form_of slot_at refs depth
leaf_depths s x y = refl

-- the named tags are where the table has them
first_tags : tag_of TYPE (ascii "bool") ∷ tag_of VALUE (ascii "bool") ∷ tag_of NODE (ascii "lit") ∷ tag_of NODE (ascii "slot") ∷ [] ≡ first_type ∷ first_value ∷ first_node ∷ slot_node ∷ []
unfolding tag_of keys forms
first_tags = refl

-- ---- request 2.7: groups of kinds. Person 0 has a name, perhaps an owner (a person or a firm) and tags, and is below Firm 2, which has a
-- name, perhaps an owner (a firm) and a size, and no tags; Tariff 3 has nothing. Types 4 to 7 are the kinds 0, 2, 3 and 1 alone,
-- 8 is the group 0,2; 9 is 0,3; 10 a set of 8; 11 is 2,3; 15 is 0,1. In most cases node 5 is open, of type 8, and cannot err.

unfoldable pub kind_lines : List ℕ
kind_lines = bytes "sheet=partial/text=Person/text=Action/text=Firm/text=Tariff/text=quote/text=T1/text=p0/text=p1/text=name/text=owner/text=size/text=x/kind=0,e/kind=1,a/kind=2,e/kind=3,e/"

group_lines : List Case
group_lines =
    case "type=entity/" "refused=3,18,0/"  -- no kind
    ∷ case "type=entity,/" "refused=3,18,0/"  -- an empty item
    ∷ case "type=entity,0/type=entity,0,4/" "refused=5,19,0/"  -- a kind that is absent
    ∷ case "type=entity,0/type=entity,2/type=entity,2,0/" "refused=5,20,0/"  -- wrong order
    ∷ case "type=entity,0/type=entity,0,0/" "refused=5,19,0/"  -- a repeat in the group
    ∷ case "type=entity,0/type=entity,2/type=entity,0,2/type=entity,0,2/" "refused=5,21,0/"  -- a repeated group
    ∷ case "type=entity,0/type=entity,0,2/" "refused=5,19,0/"  -- no line alone of the second kind
    ∷ case "type=entity,2/type=entity,0,2/" "refused=5,19,0/"  -- no line alone of the first kind
    ∷ case "type=entity,0/type=entity,2/type=entity,0,2/type=entity,0,2,3/" "refused=5,21,0/"  -- another group is no line alone
    ∷ case "type=entity,3/type=entity,2/type=entity,0/type=entity,0,2,3/type=record/shape=4,-/shape=4,-/shape=4,-/shape=4,-/principal=0,?/action=1,4/resource=3,5/context=4,?/day=2000-01-01/" "decision=deny/counts=0,0,0,0,0,0,0,0/why=none/"  -- three kinds
    ∷ []

group_lines_law : shown_all kind_lines group_lines ≡ says_all group_lines
unfolding kind_lines group_lines shown keys forms form_of slot_at counted tag_of row_of key_of refs ascendings fits_in nodes_under typed found depth fault more read types value_rows contents schema trees exprs on_term n_policies policies n_env env run results answer returned ancestors unknown_above order same place insert ascending make_set
group_lines_law = refl

-- the row of a kind's type line alone
alone_row_law : row_of partial (ascii "type=entity,3") ≡ alone_row 3
unfolding keys forms form_of slot_at counted tag_of row_of
alone_row_law = refl
