-- Document 02, 2.12, "A test load we can all repeat": the sheet that a seed and a number of policies name, draw by draw.
use Rattle.std.specs.Prelude.{cond, ◌||◌, List, [], ◌∷◌, ◌++◌, ℕ, zero, suc, ◌+◌, ◌/◌, ◌%◌, ltb, eqb, length}
use Rattle.sheet.specs.Ascii.{ascii}
use Rattle.sheet.specs.Bytes.{digits}
use Rattle.sheet.specs.Answer.{concat, printed}
use Rattle.sheet.specs.Call.{Returned, returns, fitted, outputs}

-- ---- draws: "The state starts at the 64-bit seed."

-- "For each draw 11400714819323198485 is added, and the sum is taken modulo 18446744073709551616"
abbrev pub next : ℕ → ℕ
next state = (state + 11400714819323198485) % 18446744073709551616

-- "the draw is the state divided by 4294967296, rounded down, then its rest by the number of choices"
abbrev pub draw : ℕ → ℕ → ℕ
draw state choices = state / 4294967296 % choices

-- "Per policy: effect of 2 (0 permit), then tree of 3"
pub record Drawn : Type 0 where
  pub effect : ℕ
  pub tree : ℕ

-- the draws of n policies from a state on
abbrev pub drawn : ℕ → ℕ → List Drawn
drawn state zero = []
drawn state (suc n) = record { effect = draw (next state) 2; tree = draw (next (next state)) 3 } ∷ drawn (next (next state)) n

-- ---- lines

-- "Ids are `p0`, `p1` and on": n of them from `p` and i on
abbrev pub id_lines : ℕ → ℕ → List (List ℕ)
id_lines i zero = []
id_lines i (suc n) = printed "text" ((112 ∷ digits i) ∷ []) ∷ id_lines (suc i) n

-- "0 literal true, 1 literal false, 2 `like` with a lone `*` on a text attribute of the unknown context", "children first": the nodes of a tree after k other nodes
abbrev pub tree_lines : ℕ → ℕ → List (List ℕ)
tree_lines k zero = printed "node" (digits 0 ∷ ascii "lit" ∷ digits 1 ∷ []) ∷ []
tree_lines k (suc zero) = printed "node" (digits 0 ∷ ascii "lit" ∷ digits 0 ∷ []) ∷ []
tree_lines k (suc (suc t)) =
    printed "node" (digits 3 ∷ ascii "var" ∷ ascii "c" ∷ [])
    ∷ printed "node" (digits 1 ∷ ascii "get" ∷ digits k ∷ digits 4 ∷ [])
    ∷ printed "node" (digits 0 ∷ ascii "like" ∷ digits (suc k) ∷ ascii "*" ∷ []) ∷ []

-- how many they are
abbrev pub nodes_in : ℕ → ℕ
nodes_in zero = 1
nodes_in (suc zero) = 1
nodes_in (suc (suc t)) = 3

-- the last of them is the root
abbrev pub root_after : ℕ → ℕ → ℕ
root_after k zero = k
root_after k (suc zero) = k
root_after k (suc (suc t)) = suc (suc k)

-- "Nodes come policy by policy"
abbrev pub nodes_from : ℕ → List Drawn → List (List ℕ)
nodes_from k [] = []
nodes_from k (d ∷ ds) = tree_lines k d.tree ++ nodes_from (k + nodes_in d.tree) ds

-- "0 permit"
abbrev pub effect_as : ℕ → List ℕ
effect_as zero = ascii "permit"
effect_as (suc e) = ascii "forbid"

-- the policies from policy i on, after k nodes: the five texts of the head come before the ids
abbrev pub policies_from : ℕ → ℕ → List Drawn → List (List ℕ)
policies_from i k [] = []
policies_from i k (d ∷ ds) = printed "policy" (digits (5 + i) ∷ effect_as d.effect ∷ digits (root_after k d.tree) ∷ []) ∷ policies_from (suc i) (k + nodes_in d.tree) ds

-- ---- the sheet: "The head (`/` is a line end) is .., the id texts, then .."

abbrev pub line_ends : List ℕ → List ℕ
line_ends [] = []
line_ends (x ∷ l) = cond (eqb x 47) 10 x ∷ line_ends l

unfoldable pub head_texts : List ℕ
head_texts = line_ends (ascii "sheet=partial/text=Client/text=Action/text=Tariff/text=quote/text=name/")

unfoldable pub head_rest : List ℕ
head_rest = line_ends (ascii "kind=0,e/kind=1,a/kind=2,e/type=bool/type=string/type=record/type=record,4,r,1/shape=2,-/shape=2,-/shape=2,-/value=bool,0/value=bool,1/principal=0,?/action=1,3/resource=2,?/context=3,?/day=2000-01-01/")

abbrev pub sheet_of : List Drawn → List ℕ
sheet_of ds = head_texts ++ (concat (id_lines 0 (length ds)) ++ (head_rest ++ (concat (nodes_from 0 ds) ++ concat (policies_from 0 0 ds))))

unfoldable pub load : ℕ → ℕ → List ℕ
load seed n = sheet_of (drawn seed n)

-- ---- the call: "13, 0, 0 for another policy count, before all other checks; no work slices are lent, and a buffer shorter than the sheet gets 10."

-- for "1 to 64 policies", and an answer buffer of so many bytes
unfoldable pub load_returned : ℕ → ℕ → ℕ → Returned
load_returned seed n out = cond (ltb n 1 || ltb 64 n) (returns 13 0 0) (fitted out (length (load seed n)))

unfoldable pub load_written : ℕ → ℕ → List ℕ → List ℕ
load_written seed n buffer = outputs (load_returned seed n (length buffer)).number (load seed n) buffer
