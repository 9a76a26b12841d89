-- The hypothesis of `answer_again` is met, and what it says is computed, where the first policy is linked to a broker in a slot for brokers and firms, the fourth is off term and the
-- second on the last day of its term. What is left: the linked policy; `and` with a left side that can err beside a made false; a haspath after a step through an attribute of the group
-- type, over a firm of the firms' own type; a made true. Assumes nothing.
use mathlib.Core.Path.{◌≡◌, refl}
use mathlib.Core.Bool.{true, false}
use mathlib.Core.Option.{some}
use mathlib.Core.List.{List, [], ◌∷◌}
use Prim.Native.Nat.{ℕ, suc}
use lib.ListN.{length, replicate}
use Rattle.cedar.specs.Canonical.{order, same, place, insert, ascending, make_set}
use Rattle.cedar.specs.Types.{Ty, tbool, tent, trec, anil, acons, principal, context}
use Rattle.cedar.specs.Residual.{Node, lit, err, var, and, or, ite, un, bin, rel, get, has, haspath, set, rec, enil, econs, gnil, gcons, unot, beq, rin, Class, ctrue, copen}
use Rattle.cedar.specs.Response.{permit, allow, decision}
use Rattle.cedar.specs.Rows.{rbool}
use Rattle.cedar.specs.Runs.{NPolicy, verdicts}
use Rattle.sheet.specs.Ascii.{ascii}
use Rattle.sheet.specs.Forms.{keys, partial, forms, form_of, slot_at, counted, tag_of, row_of, key_of, refs, ascendings}
use Rattle.sheet.specs.Parents.{ancestors, unknown_above}
use Rattle.sheet.specs.Typing.{fits_in, nodes_under, typed}
use Rattle.sheet.specs.Sheet.{found, depth, fault, more, read}
use Rattle.sheet.specs.Content.{types, value_rows, contents, schema, trees, exprs, on_term, n_policies, policies, n_env, env}
use Rattle.sheet.specs.Answer.{op, run, results, answer, partial_of}
use Rattle.sheet.specs.Call.{returned, written}
use Rattle.sheet.specs.ReadAnswer.{PolicyLine, Said, read_answer, tree_under}
use Rattle.sheet.specs.Demand3.{Answered, bytes_of}
use Rattle.sheet.proofs.answer.Shown.{line_ends}
use Rattle.again.specs.TreeDepth.{tree_depth}
use Rattle.again.specs.Again.{policies_in, run_again, Again}
use Rattle.again.proofs.AnswerAgain.{answer_again}

unfoldable pub any_broker : List ℕ
any_broker = line_ends (ascii "sheet=partial/text=Broker/text=Action/text=Tariff/text=quote/text=T1/text=p0/text=p1/text=p2/text=p3/text=p4/text=b7/text=Firm/text=F1/text=owner/text=fast/text=T2/kind=0,e/kind=1,a/kind=2,e/kind=11,e/type=bool/type=record/type=entity,0/type=entity,3/type=entity,0,3/type=entity,2/type=record,13,r,4/type=record,14,o,0/type=record,14,r,0/shape=1,-/shape=1,-/shape=6,-/shape=7,-/value=entity,0,10/value=entity,2,4/value=entity,2,15/value=entity,3,12/value=record,13,3/entity=1,4,?,?/principal=0,?/action=1,3/resource=2,4/context=8,?/day=2024-02-29/node=2,var,p/node=4,slot,p/node=0,eq,0,1/node=8,var,c/node=0,get,3,14/node=5,var,r/node=5,lit,2/node=0,eq,5,6/node=0,and,4,7/node=5,var,r/node=0,haspath,9,13,14/node=2,var,p/node=0,is,11,0/policy=5,permit,2/policy=6,permit,8/policy=7,permit,10/policy=8,forbid,2/policy=9,permit,12/link=0,0,-/link=3,3,-/term=1,1999-12-31,2024-02-29/term=3,2024-03-01,2199-12-31/")

pub any_broker_accepted : (returned partial 16384 20000 400 any_broker).number ≡ 0
unfolding any_broker keys forms form_of slot_at counted tag_of row_of key_of refs ascendings fits_in nodes_under typed found depth fault more read types value_rows contents schema trees exprs on_term n_policies policies n_env env run results answer returned ancestors unknown_above order same place insert ascending make_set
any_broker_accepted = refl

any_broker_call : Answered partial any_broker
any_broker_call = record { work₁ = 16384; work₂ = 20000; buffer = replicate 400 33; zero_number = any_broker_accepted }

any_broker_says : bytes_of any_broker_call ≡ line_ends (ascii "decision=allow/counts=1,0,0,3,0,0,0,0/why=9/value=bool,0/value=bool,1/node=2,var,p/node=4,lit,0/node=0,eq,0,1/node=8,var,c/node=0,get,3,14/node=0,lit,5/node=0,and,4,5/node=3,lit,3/node=0,haspath,7,14/node=0,lit,6/policy=5,permit,open,2/policy=6,permit,open,6/policy=7,permit,open,8/policy=9,permit,true,9/")
unfolding any_broker any_broker_call written keys forms form_of slot_at counted tag_of row_of key_of refs ascendings fits_in nodes_under typed found depth fault more read types value_rows contents schema trees exprs on_term n_policies policies n_env env run results answer returned ancestors unknown_above order same place insert ascending make_set
any_broker_says = refl

-- THE THEOREM, of this call
handed_back_law : Again any_broker (bytes_of any_broker_call)
handed_back_law = answer_again any_broker any_broker_call

-- ---- the same by computation

abbrev line : ℕ → Class → ℕ → PolicyLine
line i c n = record { id = i; effect = permit; class = c; root = n }

abbrev said : Said
said = record {
  decision = allow;
  counts = 1 ∷ 0 ∷ 0 ∷ 3 ∷ 0 ∷ 0 ∷ 0 ∷ 0 ∷ [];
  why = some 9;
  made = rbool false ∷ rbool true ∷ [];
  nodes = (op "var" ∷ 2 ∷ 0 ∷ []) ∷ (op "lit" ∷ 4 ∷ 0 ∷ []) ∷ (op "eq" ∷ 0 ∷ 0 ∷ 1 ∷ []) ∷ (op "var" ∷ 8 ∷ 3 ∷ []) ∷ (op "get" ∷ 0 ∷ 3 ∷ 14 ∷ []) ∷ (op "lit" ∷ 0 ∷ 5 ∷ []) ∷ (op "and" ∷ 0 ∷ 4 ∷ 5 ∷ []) ∷ (op "lit" ∷ 3 ∷ 3 ∷ []) ∷ (op "haspath" ∷ 0 ∷ 7 ∷ 14 ∷ []) ∷ (op "lit" ∷ 0 ∷ 6 ∷ []) ∷ [];
  policies = line 5 copen 2 ∷ line 6 copen 6 ∷ line 7 copen 8 ∷ line 9 ctrue 9 ∷ [];
}

any_broker_reads : read_answer partial (bytes_of any_broker_call) ≡ some said
unfolding any_broker any_broker_call read_answer written keys forms form_of slot_at counted tag_of row_of key_of refs ascendings fits_in nodes_under typed found depth fault more read types value_rows contents schema trees exprs on_term n_policies policies n_env env run results answer returned ancestors unknown_above order same place insert ascending make_set
any_broker_reads = refl

-- a broker or a firm; a firm; the context
abbrev either : Ty
either = tent 0 (3 ∷ [])

abbrev permits : Node ℕ → NPolicy
permits t = record { effect = permit; tree = t }

-- the four residuals
abbrev linked_one : Node ℕ
linked_one = bin tbool beq (var (tent 0 []) principal) (lit either 0)

abbrev left_may_err : Node ℕ
left_may_err = and tbool (get tbool (var (trec (acons 14 true tbool anil)) context) 14) (lit tbool 5)

abbrev after_a_step : Node ℕ
after_a_step = haspath tbool (lit (tent 3 []) 3) 14 []

abbrev residuals : List NPolicy
residuals = permits linked_one ∷ permits left_may_err ∷ permits after_a_step ∷ permits (lit tbool 6) ∷ []

residuals_are : policies_in (read partial any_broker).state said said.policies ≡ some residuals
unfolding any_broker tree_under keys forms form_of slot_at counted tag_of row_of key_of refs ascendings fits_in nodes_under typed found depth fault more read types value_rows contents schema trees exprs on_term n_policies policies n_env env run results answer returned ancestors unknown_above order same place insert ascending make_set
residuals_are = refl

-- interpreted again they print the answer, byte for byte
answer_again_is : partial_of (read partial any_broker).state (run_again (read partial any_broker).state said residuals) ≡ line_ends (ascii "decision=allow/counts=1,0,0,3,0,0,0,0/why=9/value=bool,0/value=bool,1/node=2,var,p/node=4,lit,0/node=0,eq,0,1/node=8,var,c/node=0,get,3,14/node=0,lit,5/node=0,and,4,5/node=3,lit,3/node=0,haspath,7,14/node=0,lit,6/policy=5,permit,open,2/policy=6,permit,open,6/policy=7,permit,open,8/policy=9,permit,true,9/")
unfolding any_broker keys forms form_of slot_at counted tag_of row_of key_of refs ascendings fits_in nodes_under typed found depth fault more read types value_rows contents schema trees exprs on_term n_policies policies n_env env run results answer returned ancestors unknown_above order same place insert ascending make_set
answer_again_is = refl

decision_is : decision (verdicts (run_again (read partial any_broker).state said residuals).lines) ≡ allow
unfolding any_broker keys forms form_of slot_at counted tag_of row_of key_of refs ascendings fits_in nodes_under typed found depth fault more read types value_rows contents schema trees exprs on_term n_policies policies n_env env run results answer returned ancestors unknown_above order same place insert ascending make_set
decision_is = refl

-- "A leaf has depth 1", and each operation is one deeper than its deepest child, wherever that stands
depths_are : (tree_depth linked_one ≡ 2) × (tree_depth left_may_err ≡ 3) × (tree_depth after_a_step ≡ 2) × (tree_depth (lit tbool 6) ≡ 1)
depths_are = (refl, refl, refl, refl)

abbrev x : Node ℕ
x = lit tbool 0

abbrev one_more : List (Node ℕ → Node ℕ)
one_more =
    (λ a. and tbool a x) ∷ (λ a. and tbool x a) ∷ (λ a. or tbool a x) ∷ (λ a. or tbool x a) ∷ (λ a. ite tbool a x x) ∷ (λ a. ite tbool x a x) ∷ (λ a. ite tbool x x a)
    ∷ (λ a. un tbool unot a) ∷ (λ a. bin tbool beq a x) ∷ (λ a. bin tbool beq x a) ∷ (λ a. rel tbool rin a x) ∷ (λ a. rel tbool rin x a) ∷ (λ a. get tbool a 0) ∷ (λ a. has tbool a 0) ∷ (λ a. haspath tbool a 0 [])
    ∷ (λ a. set tbool (econs a (econs x enil))) ∷ (λ a. set tbool (econs x (econs a enil))) ∷ (λ a. rec tbool (gcons 0 a (gcons 1 x gnil))) ∷ (λ a. rec tbool (gcons 0 x (gcons 1 a gnil))) ∷ []

abbrev all_in : List (Node ℕ → Node ℕ) → Node ℕ
all_in [] = err tbool
all_in (f ∷ fs) = f (all_in fs)

all_deep : tree_depth (all_in one_more) ≡ suc (length one_more)
all_deep = refl
