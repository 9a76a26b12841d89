-- Document 01, "The answer", read back: from the bytes of an answer to its decision, counts, name, made values, residual nodes and policy lines.
-- Its `value=` and `node=` lines have the forms of a sheet's and are read by the sheet's table. A text of another form reads as none.
use Rattle.std.specs.Prelude.{Bool, true, cond, ◌&&◌, not, List, [], ◌∷◌, ℕ, suc, ◌+◌, ltb, eqb, length, get_or, take, drop, replicate}
use Rattle.std.proofs.Math.Option.{Option, none, some}
use Prim.Native.String.{String}
use Rattle.std.proofs.Math.ListN.{get_elem?}
use Rattle.cedar.specs.Value.{on_some}
use Rattle.cedar.specs.Residual.{Node, err, Class, ctrue, cfalse, cerror, copen}
use Rattle.cedar.specs.Response.{Effect, Decision, allow, deny, undecided}
use Rattle.cedar.specs.Rows.{Row, rbool, rlong, rtext, rent, rset, rrec}
use Rattle.sheet.specs.Ascii.{ascii}
use Rattle.sheet.specs.Bytes.{up_to, split, same}
use Rattle.sheet.specs.Forms.{Mode, partial, complete, Slot, line, word, item, joined, row_of, tag, items, key_of, TEXT, KIND, VALUE, NODE, POLICY}
use Rattle.sheet.specs.Why.{Name}
use Rattle.sheet.specs.State.{State, count}
use Rattle.sheet.specs.Typing.{all_in, all_entries, is_slot}
use Rattle.sheet.specs.Sheet.{all_there_of}
use Rattle.sheet.specs.Content.{types, rows_in, trees_from, effect_of}

-- `policy=id,effect,true|false|error|open,root`; in a complete answer, "policies without root", the root is 0
pub record PolicyLine : Type 0 where
  pub id : ℕ
  pub effect : Effect
  pub class : Class
  pub root : ℕ

-- what an answer says; a complete one has no made values and no nodes
pub record Said : Type 0 where
  pub decision : Decision
  pub counts : List ℕ
  pub why : Name
  pub made : List Row
  pub nodes : List (List ℕ)
  pub policies : List PolicyLine

-- ---- lines

-- items, each read as its slot says
abbrev pub items_by : List Slot → List (List ℕ) → Option (List ℕ)
items_by [] [] = some []
items_by [] (f ∷ fs) = none
items_by (s ∷ ss) [] = none
items_by (s ∷ ss) (f ∷ fs) = joined (item partial s f) (items_by ss fs)

-- the numbers of a line with this key and these items
abbrev pub line_cut : String → List Slot → List ℕ → ℕ → Option (List ℕ)
line_cut key ss l e = cond (same (take e l) (ascii key)) (items_by ss (split 44 (drop (suc e) l))) none

abbrev pub line_by : String → List Slot → List ℕ → Option (List ℕ)
line_by key ss l = line_cut key ss l (up_to 61 l)

abbrev pub decision_line : List ℕ → Option (List ℕ)
decision_line l = line_by "decision" (word ("allow" ∷ "deny" ∷ "open" ∷ []) ∷ []) l

abbrev pub decision_of : List ℕ → Decision
decision_of r = get_or (allow ∷ deny ∷ undecided ∷ []) (get_or r 0 0) undecided

-- eight numbers of policies
abbrev pub counts_line : List ℕ → Option (List ℕ)
counts_line l = line_by "counts" (replicate 8 (line POLICY)) l

-- `none` or the number of a text
abbrev pub why_line : List ℕ → Option Name
why_line l = on_some (cond (same l (ascii "why=none")) (some none) none) (line_by "why" (line TEXT ∷ []) l) (λ r. some (some (get_or r 0 0)))

abbrev pub root_slots : Mode → List Slot
root_slots partial = line NODE ∷ []
root_slots complete = []

abbrev pub policy_line : Mode → List ℕ → Option (List ℕ)
policy_line m l = line_by "policy" (line TEXT ∷ word ("permit" ∷ "forbid" ∷ []) ∷ word ("true" ∷ "false" ∷ "error" ∷ "open" ∷ []) ∷ root_slots m) l

abbrev pub policy_of : List ℕ → PolicyLine
policy_of r = record { id = get_or r 0 0; effect = effect_of (get_or r 1 0); class = get_or (ctrue ∷ cfalse ∷ cerror ∷ copen ∷ []) (get_or r 2 0) copen; root = get_or r 3 0 }

-- policy lines up to the end of the text: nothing follows the last line end
abbrev pub policy_lines : Mode → List (List ℕ) → Option (List PolicyLine)
policy_lines m [] = none
policy_lines m (l ∷ []) = cond (same l []) (some []) none
policy_lines m (l ∷ n ∷ ls) = on_some none (policy_line m l) (λ r. on_some none (policy_lines m (n ∷ ls)) (λ ps. some (policy_of r ∷ ps)))

-- the rows of the lines of key k that stand first
abbrev pub rows_first : ℕ → List (List ℕ) → List (List ℕ)
rows_first k [] = []
rows_first k (l ∷ ls) = cond (eqb (key_of (row_of partial l)) k) (row_of partial l ∷ rows_first k ls) []

-- ---- the answer

abbrev pub said_with : List ℕ → List ℕ → Name → List (List ℕ) → List (List ℕ) → Option (List PolicyLine) → Option Said
said_with d c w vs ns o = on_some none o (λ ps. some (record { decision = decision_of d; counts = c; why = w; made = rows_in vs; nodes = ns; policies = ps }))

-- what follows decision, counts and name: made values, residual nodes, policies
abbrev pub rest_of : Mode → List ℕ → List ℕ → Name → List (List ℕ) → Option Said
rest_of partial d c w ls =
    let vs = rows_first VALUE ls in
    let after = drop (length vs) ls in
    let ns = rows_first NODE after in
    said_with d c w vs ns (policy_lines partial (drop (length ns) after))
rest_of complete d c w ls = said_with d c w [] [] (policy_lines complete ls)

abbrev pub lines_say : Mode → List (List ℕ) → Option Said
lines_say m [] = none
lines_say m (d ∷ []) = none
lines_say m (d ∷ c ∷ []) = none
lines_say m (d ∷ c ∷ w ∷ ls) = on_some none (decision_line d) (λ x. on_some none (counts_line c) (λ y. on_some none (why_line w) (λ z. rest_of m x y z ls)))

unfoldable pub read_answer : Mode → List ℕ → Option Said
read_answer m bytes = lines_say m (split 10 bytes)

-- ---- the residuals of an answer

-- how many lines of key k a made value or a node may refer to: so many values, so many nodes, else the sheet's
abbrev pub lines_for : (ℕ → ℕ) → ℕ → ℕ → ℕ → ℕ
lines_for sheet values nodes k = cond (eqb k VALUE) values (cond (eqb k NODE) nodes (sheet k))

-- whether what a made value refers to is there
abbrev pub value_stands : (ℕ → ℕ) → Row → Bool
value_stands lines (rbool b) = true
value_stands lines (rlong x) = true
value_stands lines (rtext t) = ltb t (lines TEXT)
value_stands lines (rent k t) = ltb k (lines KIND) && ltb t (lines TEXT)
value_stands lines (rset l) = all_in (λ x. ltb x (lines VALUE)) l
value_stands lines (rrec e) = all_entries (λ t x. ltb t (lines TEXT) && ltb x (lines VALUE)) e

-- made values, "numbered on from the sheet's", each over the n before it
abbrev pub values_stand : (ℕ → ℕ) → ℕ → List Row → Bool
values_stand sheet n [] = true
values_stand sheet n (r ∷ rs) = value_stands (lines_for sheet n 0) r && values_stand sheet (suc n) rs

-- whether what a node refers to is there. Residuals are those of linked policies: no slot is left
abbrev pub node_stands : (ℕ → ℕ) → List ℕ → Bool
node_stands lines r = all_there_of lines (tag r) 0 (items r) && not (is_slot r)

-- nodes, "children before parents .. from 0"
abbrev pub nodes_stand : (ℕ → ℕ) → ℕ → ℕ → List (List ℕ) → Bool
nodes_stand sheet values n [] = true
nodes_stand sheet values n (r ∷ rs) = node_stands (lines_for sheet values n) r && nodes_stand sheet values (suc n) rs

-- "with its `lit` numbers read among the partial sheet's values and the made ones"
abbrev pub all_stand : State → Said → Bool
all_stand s a = values_stand (count s) (count s VALUE) a.made && nodes_stand (count s) (count s VALUE + length a.made) 0 a.nodes

-- the tree under a policy's root, if there is one, where a `lit` holds what its number stands for; none where a text, kind, type, value or node is absent
unfoldable pub tree_under : {L : Type 0} → State → (ℕ → L) → Said → PolicyLine → Option (Node L)
tree_under s value a l = cond (all_stand s a) (get_elem? (trees_from (types s) value (λ T x. err T) [] a.nodes) l.root) none
