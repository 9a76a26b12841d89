-- Document 01, "The answer": what is printed of a partial and of a complete run, as bytes.
use Rattle.std.specs.Prelude.{Bool, true, false, cond, ◌&&◌, List, [], ◌∷◌, ◌++◌, ℕ, suc, ◌+◌, ◌-◌, eqb, get_or, drop}
use Prim.Native.String.{String}
use Rattle.sheet.specs.Ascii.{ascii}
use Rattle.sheet.specs.Bytes.{digits, signed, commas}
use Rattle.cedar.specs.Canonical.{bit}
use Rattle.cedar.specs.Types.{Ty, Var, principal, action, resource, context, ty_same}
use Rattle.cedar.specs.Residual.{Item, star, piece, Node, Nodes, NodeArgs, lit, err, var, and, or, ite, un, bin, rel, get, has, haspath, set, rec, enil, econs, gnil, gcons, Un, unot, uneg, uempty, uis, ulike, Bin, beq, blt, ble, badd, bsub, bmul, bcontains, ball, bany, Rel, rin, rgettag, rhastag, Class, ctrue, cfalse, cerror, copen}
use Rattle.cedar.specs.Response.{Effect, permit, forbid, is_permit, is_forbid, is_true, is_open, Verdict, Decision, allow, deny, undecided, decision}
use Rattle.cedar.specs.Rows.{Entries, stop, entry, Row, rbool, rlong, rtext, rent, rset, rrec}
use Rattle.sheet.specs.Forms.{Mode, partial, complete, Slot, line, line_or, line_unknown, word, number, day, nothing, form_of, slot_at, tag_of, tag, items, at, mark, VALUE, NODE}
use Rattle.sheet.specs.State.{State, count}
use Rattle.sheet.specs.Sheet.{firsts}
use Rattle.sheet.specs.Content.{types, value_rows, schema, n_env, env, on_term, n_policies, policies}
use Rattle.cedar.specs.Runs.{complete_answer, NVerdict, Run, n_run, verdicts}
use Rattle.sheet.specs.Why.{Name, why, why_item}
use Rattle.sheet.specs.Forms as F

-- a line: key, `=`, items with commas, byte 10
abbrev pub printed : String → List (List ℕ) → List ℕ
printed key l = ascii key ++ (61 ∷ commas l ++ (10 ∷ []))

abbrev pub concat : List (List ℕ) → List ℕ
concat [] = []
concat (l ∷ ls) = l ++ concat ls

abbrev pub numbers : List ℕ → List (List ℕ)
numbers [] = []
numbers (n ∷ l) = digits n ∷ numbers l

-- ---- words

abbrev pub decision_word : Decision → String
decision_word allow = "allow"
decision_word deny = "deny"
decision_word undecided = "open"

abbrev pub effect_word : Effect → String
effect_word permit = "permit"
effect_word forbid = "forbid"

abbrev pub class_word : Class → String
class_word ctrue = "true"
class_word cfalse = "false"
class_word cerror = "error"
class_word copen = "open"

-- ---- decision and counts: "permits true, false, error, open, then forbids likewise"

abbrev pub is_false : Class → Bool
is_false ctrue = false
is_false cfalse = true
is_false cerror = false
is_false copen = false

abbrev pub is_error : Class → Bool
is_error ctrue = false
is_error cfalse = false
is_error cerror = true
is_error copen = false

abbrev pub how_many : (Effect → Bool) → (Class → Bool) → List Verdict → ℕ
how_many f g [] = 0
how_many f g (l ∷ ls) = bit (f l.effect && g l.class) + how_many f g ls

abbrev pub counts_of : List Verdict → List ℕ
counts_of ls =
    how_many is_permit is_true ls ∷ how_many is_permit is_false ls ∷ how_many is_permit is_error ls ∷ how_many is_permit is_open ls
    ∷ how_many is_forbid is_true ls ∷ how_many is_forbid is_false ls ∷ how_many is_forbid is_error ls ∷ how_many is_forbid is_open ls ∷ []

-- decision, counts and the name
abbrev pub head_lines : Name → List Verdict → List (List ℕ)
head_lines name ls = printed "decision" (ascii (decision_word (decision ls)) ∷ []) ∷ printed "counts" (numbers (counts_of ls)) ∷ printed "why" (why_item name ∷ []) ∷ []

-- ---- made values

abbrev pub entry_items : Entries → List (List ℕ)
entry_items stop = []
entry_items (entry t n e) = digits t ∷ digits n ∷ entry_items e

abbrev pub value_items : Row → List (List ℕ)
value_items (rbool b) = ascii "bool" ∷ digits (bit b) ∷ []
value_items (rlong n) = ascii "long" ∷ signed n ∷ []
value_items (rtext t) = ascii "text" ∷ digits t ∷ []
value_items (rent k t) = ascii "entity" ∷ digits k ∷ digits t ∷ []
value_items (rset l) = ascii "set" ∷ numbers l
value_items (rrec e) = ascii "record" ∷ entry_items e

abbrev pub value_lines : List Row → List (List ℕ)
value_lines [] = []
value_lines (r ∷ rs) = printed "value" (value_items r) ∷ value_lines rs

-- ---- residual nodes, as rows like those of a sheet: "children before parents, left to right, policies in order, from 0"

abbrev mutual
  pub size : {L : Type 0} → Node L → ℕ
  size (lit T v) = 1
  size (err T) = 1
  size (var T x) = 1
  size (and T a b) = suc (size a + size b)
  size (or T a b) = suc (size a + size b)
  size (ite T c a b) = suc (size c + size a + size b)
  size (un T u a) = suc (size a)
  size (bin T o a b) = suc (size a + size b)
  size (rel T o a b) = suc (size a + size b)
  size (get T a t) = suc (size a)
  size (has T a t) = suc (size a)
  size (haspath T a t ts) = suc (size a)
  size (set T es) = suc (sizes es)
  size (rec T gs) = suc (size_args gs)

  pub sizes : {L : Type 0} → Nodes L → ℕ
  sizes enil = 0
  sizes (econs e es) = size e + sizes es

  pub size_args : {L : Type 0} → NodeArgs L → ℕ
  size_args gnil = 0
  size_args (gcons t e gs) = size e + size_args gs

-- the root's number of a tree whose nodes are numbered from n
abbrev pub root : {L : Type 0} → ℕ → Node L → ℕ
root n e = n + size e - 1

abbrev pub roots : {L : Type 0} → ℕ → Nodes L → List ℕ
roots n enil = []
roots n (econs e es) = root n e ∷ roots (n + size e) es

abbrev pub arg_roots : {L : Type 0} → ℕ → NodeArgs L → List ℕ
arg_roots n gnil = []
arg_roots n (gcons t e gs) = t ∷ root n e ∷ arg_roots (n + size e) gs

abbrev pub op : String → ℕ
op w = tag_of NODE (ascii w)

-- the operation and the items after the children
abbrev pub pattern_items : List Item → List ℕ
pattern_items [] = []
pattern_items (star ∷ p) = mark ∷ pattern_items p
pattern_items (piece t ∷ p) = t ∷ pattern_items p

abbrev pub un_tag : Un → ℕ
un_tag unot = op "not"
un_tag uneg = op "neg"
un_tag uempty = op "empty"
un_tag (uis k) = op "is"
un_tag (ulike p) = op "like"

abbrev pub un_items : Un → List ℕ
un_items unot = []
un_items uneg = []
un_items uempty = []
un_items (uis k) = k ∷ []
un_items (ulike p) = pattern_items p

abbrev pub bin_tag : Bin → ℕ
bin_tag beq = op "eq"
bin_tag blt = op "lt"
bin_tag ble = op "le"
bin_tag badd = op "add"
bin_tag bsub = op "sub"
bin_tag bmul = op "mul"
bin_tag bcontains = op "contains"
bin_tag ball = op "all"
bin_tag bany = op "any"

abbrev pub rel_tag : Rel → ℕ
rel_tag rin = op "in"
rel_tag rgettag = op "gettag"
rel_tag rhastag = op "hastag"

abbrev pub var_number : Var → ℕ
var_number principal = 0
var_number action = 1
var_number resource = 2
var_number context = 3

-- the number of the type line that says T
abbrev pub type_number : List Ty → Ty → ℕ
type_number [] T = 0
type_number (A ∷ ts) T = cond (ty_same A T) 0 (suc (type_number ts T))

module _ (ts : List Ty) where
  abbrev pub row_with : ℕ → Ty → List ℕ → List (List ℕ)
  row_with t T l = (t ∷ type_number ts T ∷ l) ∷ []

  abbrev mutual
    pub tree_rows : ℕ → Node ℕ → List (List ℕ)
    tree_rows n (lit T v) = row_with (op "lit") T (v ∷ [])
    tree_rows n (err T) = row_with (op "err") T []
    tree_rows n (var T x) = row_with (op "var") T (var_number x ∷ [])
    tree_rows n (and T a b) = tree_rows n a ++ tree_rows (n + size a) b ++ row_with (op "and") T (root n a ∷ root (n + size a) b ∷ [])
    tree_rows n (or T a b) = tree_rows n a ++ tree_rows (n + size a) b ++ row_with (op "or") T (root n a ∷ root (n + size a) b ∷ [])
    tree_rows n (ite T c a b) = tree_rows n c ++ tree_rows (n + size c) a ++ tree_rows (n + size c + size a) b ++ row_with (op "if") T (root n c ∷ root (n + size c) a ∷ root (n + size c + size a) b ∷ [])
    tree_rows n (un T u a) = tree_rows n a ++ row_with (un_tag u) T (root n a ∷ un_items u)
    tree_rows n (bin T o a b) = tree_rows n a ++ tree_rows (n + size a) b ++ row_with (bin_tag o) T (root n a ∷ root (n + size a) b ∷ [])
    tree_rows n (rel T o a b) = tree_rows n a ++ tree_rows (n + size a) b ++ row_with (rel_tag o) T (root n a ∷ root (n + size a) b ∷ [])
    tree_rows n (get T a t) = tree_rows n a ++ row_with (op "get") T (root n a ∷ t ∷ [])
    tree_rows n (has T a t) = tree_rows n a ++ row_with (op "has") T (root n a ∷ t ∷ [])
    tree_rows n (haspath T a t us) = tree_rows n a ++ row_with (op "haspath") T (root n a ∷ t ∷ us)
    tree_rows n (set T es) = all_rows n es ++ row_with (op "set") T (roots n es)
    tree_rows n (rec T gs) = arg_rows n gs ++ row_with (op "record") T (arg_roots n gs)

    pub all_rows : ℕ → Nodes ℕ → List (List ℕ)
    all_rows n enil = []
    all_rows n (econs e es) = tree_rows n e ++ all_rows (n + size e) es

    pub arg_rows : ℕ → NodeArgs ℕ → List (List ℕ)
    arg_rows n gnil = []
    arg_rows n (gcons t e gs) = tree_rows n e ++ arg_rows (n + size e) gs

  abbrev pub residual_rows : ℕ → List NVerdict → List (List ℕ)
  residual_rows n [] = []
  residual_rows n (l ∷ ls) = tree_rows n l.root ++ residual_rows (n + size l.root) ls

-- a node's row printed: type, operation, items
abbrev pub item_out : Slot → ℕ → List ℕ
item_out F.entry x = digits x
item_out (line k) x = digits x
item_out (line_or b k) x = cond (eqb x mark) (b ∷ []) (digits x)
item_out (line_unknown k) x = digits x
item_out (word ws) x = ascii (get_or ws x "")
item_out number x = digits x
item_out day x = digits x
item_out nothing x = digits x

abbrev pub items_out : ℕ → ℕ → List ℕ → List (List ℕ)
items_out t j [] = []
items_out t j (x ∷ l) = item_out (slot_at t j) x ∷ items_out t (suc j) l

abbrev pub node_items : List ℕ → List (List ℕ)
node_items r = digits (at r 0) ∷ ascii (form_of (tag r)).name ∷ items_out (tag r) 1 (drop 1 (items r))

abbrev pub node_lines : List (List ℕ) → List (List ℕ)
node_lines [] = []
node_lines (r ∷ rs) = printed "node" (node_items r) ∷ node_lines rs

-- ---- policies, with the sheet's id texts: `policy=id,effect,true|false|error|open,root`; "policies without root"

abbrev pub policy_items : ℕ → Effect → Class → List (List ℕ) → List (List ℕ)
policy_items i e c l = digits i ∷ ascii (effect_word e) ∷ ascii (class_word c) ∷ l

-- ids, and the lines of the run with nodes numbered from n
abbrev pub partial_lines : ℕ → List ℕ → List NVerdict → List (List ℕ)
partial_lines n [] ls = []
partial_lines n (i ∷ is) [] = []
partial_lines n (i ∷ is) (l ∷ ls) = printed "policy" (policy_items i l.effect l.class (digits (root n l.root) ∷ [])) ∷ partial_lines (n + size l.root) is ls

abbrev pub complete_lines : List ℕ → List Verdict → List (List ℕ)
complete_lines [] ls = []
complete_lines (i ∷ is) [] = []
complete_lines (i ∷ is) (l ∷ ls) = printed "policy" (policy_items i l.effect l.class []) ∷ complete_lines is ls

-- ---- the answers

abbrev pub ids : State → List ℕ
ids s = firsts (on_term s)

-- the run over numbers: all values, with those made; and for each policy its class and residual
unfoldable pub run : Mode → State → Run
run m s = n_run (schema s) (n_env m s) (n_policies s) (value_rows s)

-- what the Cedar specification gives each policy of a complete sheet
unfoldable pub results : State → List Verdict
results s = complete_answer (schema s) (env s) (policies s)

abbrev pub partial_of : State → Run → List ℕ
partial_of s r = concat (head_lines (why (ids s) (verdicts r.lines)) (verdicts r.lines) ++ value_lines (drop (count s VALUE) r.rows) ++ node_lines (residual_rows (types s) 0 r.lines) ++ partial_lines 0 (ids s) r.lines)

abbrev pub complete_of : State → List Verdict → List ℕ
complete_of s ls = concat (head_lines (why (ids s) ls) ls ++ complete_lines (ids s) ls)

unfoldable pub answer : Mode → State → List ℕ
answer partial s = partial_of s (run partial s)
answer complete s = complete_of s (results s)
