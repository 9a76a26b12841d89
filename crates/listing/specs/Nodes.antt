-- What is printed of the residuals that a log holds: a line for each of its rows, in order.
use Rattle.std.specs.Prelude.{cond, ◌||◌, List, [], ◌∷◌, ◌++◌, ℕ, zero, suc, ◌+◌, ◌-◌, ◌/◌, eqb, leb, length, get_or, drop}
use Rattle.sheet.specs.Ascii.{ascii}
use Rattle.sheet.specs.Bytes.{digits}
use Rattle.sheet.specs.Forms.{line_or, tag, items, at, asterisk, TEXT}
use Rattle.sheet.specs.Answer.{printed, numbers, item_out}
use Rattle.forms.specs.Tags.{VAR, IS, LIKE, GET, HAS, HASPATH, RECORD_OF}
use Rattle.residual.specs.Rows.{word_at, stage_at, start_at}
use Rattle.residual.specs.declared.Stage.{Stage}
use Rattle.residual.specs.declared.Stage.TheVariants.{Value, Error, Open}
use Rattle.listing.specs.Names.{op_name_def}

-- the number of the row that ends at e: a row has four words
abbrev pub number_of : ℕ → ℕ
number_of e = (e - 4) / 4

-- ---- children: the blocks of words from start to p, each by the number of its last row

-- left to right, n blocks at most
unfoldable pub children_by : List ℕ → ℕ → ℕ → ℕ → List ℕ
children_by l start zero p = []
children_by l start (suc n) p = cond (leb p start) [] (children_by l start n (start_at l p) ++ (number_of p ∷ []))

-- each block has a word, so p blocks are enough
unfoldable pub children_to : List ℕ → ℕ → ℕ → List ℕ
children_to l start p = children_by l start p p

-- of a record, each after its text: i words of the record's row r are left, the last two of them for the last block
unfoldable pub fields_to : List ℕ → ℕ → List ℕ → ℕ → ℕ → List ℕ
fields_to r zero l start p = []
fields_to r (suc zero) l start p = []
fields_to r (suc (suc i)) l start p = cond (leb p start) [] (fields_to r i l start (start_at l p) ++ (get_or r i 0 ∷ number_of p ∷ []))

-- ---- a node that is left: its operation and items, from the row of its source

abbrev pub letter : ℕ → List ℕ
letter x = ascii (get_or ("p" ∷ "a" ∷ "r" ∷ []) x "c")

-- a pattern's items
abbrev pub pieces : List ℕ → List (List ℕ)
pieces [] = []
pieces (x ∷ l) = item_out (line_or asterisk TEXT) x ∷ pieces l

-- what the row r of operation t says after the children, where k steps of a path were taken
unfoldable pub rest_items : ℕ → List ℕ → ℕ → List (List ℕ)
rest_items t r k =
    cond (eqb t IS || (eqb t GET || eqb t HAS)) (digits (at r 2) ∷ [])
    (cond (eqb t LIKE) (pieces (drop 2 (items r)))
    (cond (eqb t HASPATH) (digits (at r (2 + k)) ∷ numbers (drop (3 + k) (items r))) []))

-- its items, over the children cs or the fields fs
unfoldable pub left_items : ℕ → List ℕ → ℕ → List ℕ → List ℕ → List (List ℕ)
left_items t r k cs fs =
    cond (eqb t VAR) (letter (at r 1) ∷ [])
    (cond (eqb t RECORD_OF) (numbers fs) (numbers cs ++ rest_items t r k))

-- the node of row r, with its blocks from start to p
abbrev pub left_said : List ℕ → ℕ → List ℕ → ℕ → ℕ → List (List ℕ)
left_said r k l start p = ascii (op_name_def (tag r)) ∷ left_items (tag r) r k (children_to l start p) (fields_to r (length r) l start p)

-- ---- what stands after the type of the row that ends at e

module _ (nodes : List (List ℕ)) (l : List ℕ) where
  unfoldable pub left_at : ℕ → List (List ℕ)
  left_at e = left_said (get_or nodes (word_at l e 1) []) (word_at l e 0 - 2) l (start_at l e) (e - 4)

  abbrev pub said_as : ℕ → Stage → List (List ℕ)
  said_as e (Value v) = ascii "lit" ∷ digits v ∷ []
  said_as e Error = ascii "err" ∷ []
  said_as e Open = left_at e

  unfoldable pub said_at : ℕ → List (List ℕ)
  said_at e = said_as e (stage_at l e)

-- ---- lines, over the sheet's nodes

module _ (nodes : List (List ℕ)) (l : List ℕ) where
  -- of the row that ends at e
  unfoldable pub node_line : ℕ → List ℕ
  node_line e = printed "node" (digits (word_at l e 3) ∷ said_at nodes l e)

  -- of n rows, from the one that begins at s on
  unfoldable pub lines_by : ℕ → ℕ → List (List ℕ)
  lines_by zero s = []
  lines_by (suc n) s = node_line (s + 4) ∷ lines_by n (s + 4)

  -- of all rows
  unfoldable pub log_lines : List (List ℕ)
  log_lines = lines_by (length l / 4) 0
