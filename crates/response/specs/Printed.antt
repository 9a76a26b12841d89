-- What is printed of the policies that the words hold.
use Rattle.std.specs.Prelude.{List, [], ◌∷◌, ◌++◌, ℕ, get_or, drop}
use Rattle.cedar.specs.Response.{Verdict, Decision}
use Rattle.sheet.specs.Ascii.{ascii}
use Rattle.sheet.specs.Bytes.{digits, commas}
use Rattle.sheet.specs.Forms.{at, NODE}
use Rattle.sheet.specs.Sheet.{firsts}
use Rattle.sheet.specs.Answer.{how_many, decision_word, printed, concat, policy_items, complete_lines, head_lines}
use Rattle.sheet.specs.Why.{Name}
use Rattle.residual.specs.Classes.{CLASS_TRUE, CLASS_FALSE, CLASS_ERROR, CLASS_OPEN}
use Rattle.table.specs.Layout.{RUN, rows_of}
use Rattle.listing.specs.Values.{made_lines}
use Rattle.listing.specs.Nodes.{log_lines}
use Rattle.response.specs.Verdicts.{class_in, effect_in, effect_is, class_is, verdicts_in}

-- the line of the decision
abbrev pub decision_bytes : Decision → List ℕ
decision_bytes d = printed "decision" (ascii (decision_word d) ∷ [])

-- an effect and a class by their numbers, after a comma
abbrev pub effect_bytes : ℕ → List ℕ
effect_bytes n = 44 ∷ ascii (get_or ("permit" ∷ []) n "forbid")

abbrev pub class_bytes : ℕ → List ℕ
class_bytes n = 44 ∷ ascii (get_or ("true" ∷ "false" ∷ "error" ∷ []) n "open")

-- numbers with commas between them, after the byte b
abbrev pub listed : ℕ → List ℕ → List ℕ
listed b [] = []
listed b (n ∷ l) = (b ∷ digits n) ++ listed 44 l

-- the counts of one effect, in the answer's order
abbrev pub four_of : ℕ → List Verdict → List ℕ
four_of e ls = how_many (effect_is e) (class_is CLASS_TRUE) ls ∷ how_many (effect_is e) (class_is CLASS_FALSE) ls ∷ how_many (effect_is e) (class_is CLASS_ERROR) ls ∷ how_many (effect_is e) (class_is CLASS_OPEN) ls ∷ []

-- the line of the policy of row r up to its id; with class c, up to the class
abbrev pub id_bytes : List ℕ → List ℕ
id_bytes r = ascii "policy" ++ (61 ∷ digits (at r 0))

abbrev pub policy_of : List ℕ → ℕ → List ℕ
policy_of r c = ascii "policy" ++ (61 ∷ commas (policy_items (at r 0) (effect_in r) (class_in c) []))

unfoldable pub policy_at : List ℕ → List ℕ → ℕ → List ℕ
policy_at a cs i = policy_of (get_or (rows_of a RUN) i []) (get_or cs i 0)

-- the policies of a complete answer, with the ids of their rows
unfoldable pub policy_lines : List ℕ → List ℕ → List (List ℕ)
policy_lines a cs = complete_lines (firsts (rows_of a RUN)) (verdicts_in a cs)

-- a complete answer that carries this name
unfoldable pub complete_bytes : Name → List ℕ → List ℕ → List ℕ
complete_bytes name a cs = concat (head_lines name (verdicts_in a cs) ++ policy_lines a cs)

-- the policies of a partial answer: rows, and a word of class and the number of the root for each
abbrev pub rooted_of : List (List ℕ) → List ℕ → List ℕ → List (List ℕ)
rooted_of [] cs es = []
rooted_of (r ∷ rs) cs es = printed "policy" (policy_items (at r 0) (effect_in r) (class_in (get_or cs 0 0)) (digits (get_or es 0 0) ∷ [])) ∷ rooted_of rs (drop 1 cs) (drop 1 es)

unfoldable pub rooted_lines : List ℕ → List ℕ → List ℕ → List (List ℕ)
rooted_lines a cs es = rooted_of (rows_of a RUN) cs es

-- a partial answer that carries this name: the words of the sheet and of what was made, the log, a class and the number of a root for each policy
unfoldable pub partial_bytes : Name → List ℕ → List ℕ → List ℕ → List ℕ → List ℕ
partial_bytes name a l cs es =
    concat (head_lines name (verdicts_in a cs)) ++ (made_lines a ++ (concat (log_lines (rows_of a NODE) l) ++ concat (rooted_lines a cs es)))
