-- The line that number 11 names, key by key, over the rows of both sheets in words: p and c are the lines of a partial and a complete sheet.
use Rattle.std.specs.Prelude.{Bool, false, cond, ◌&&◌, ◌||◌, List, [], ◌∷◌, ℕ, suc, leb, ltb, eqb, get_or}
use Rattle.std.proofs.Math.Option.{Option, none, some}
use Rattle.cedar.specs.Value.{on_some}
use Rattle.sheet.specs.Bytes.{same}
use Rattle.sheet.specs.Forms.{at, TEXT, VALUE, ENTITY, PRINCIPAL, CONTEXT}
use Rattle.table.specs.Layout.{rows_of, text_rows}
use Rattle.finished.specs.ByKey.{begin_break, same_break, entity_break, request_break, shorter, unlisted_in}
use Rattle.finished.specs.Rising.{Rising}

-- the lines of key k that words hold
abbrev pub lines_in : List ℕ → List ℕ → ℕ → List (List ℕ)
lines_in sheet a k = cond (eqb k TEXT) (text_rows sheet (rows_of a k)) (rows_of a k)

-- the line that breaks agreement, counted from 1, where so many stand before it; 0 where none does
abbrev pub counted : Option ℕ → ℕ
counted o = on_some 0 o suc

-- how many lines both begin with that are the same
abbrev pub alike : List (List ℕ) → List (List ℕ) → ℕ
alike [] c = 0
alike (r ∷ p) [] = 0
alike (r ∷ p) (q ∷ c) = cond (same r q) (suc (alike p c)) 0

-- ---- entities

-- the entity lines of both sheets ascend
pub record Ordered (a c : List ℕ) : Type 0 where
  pub partial_rows : Rising 0 (rows_of a ENTITY)
  pub complete_rows : Rising 0 (rows_of c ENTITY)

-- how many lines stand before the first whose entity has a number of at least v
abbrev pub below : ℕ → List (List ℕ) → ℕ
below v [] = 0
below v (r ∷ p) = cond (ltb (at r 0) v) (suc (below v p)) 0

-- the first line, if it is that of entity v
abbrev pub first_for : ℕ → List (List ℕ) → Option (List ℕ)
first_for v [] = none
first_for v (r ∷ p) = cond (eqb (at r 0) v) (some r) none

-- ---- key by key

-- principal, action, resource and context
abbrev pub is_request : ℕ → Bool
is_request k = leb PRINCIPAL k && leb k CONTEXT

-- how many lines of key k stand before the first that breaks agreement
unfoldable pub break_in : List ℕ → List ℕ → List ℕ → List ℕ → ℕ → ℕ → Option ℕ
break_in partial a complete c k l =
    cond (eqb k TEXT || eqb k VALUE) (begin_break (lines_in partial a k) (lines_in complete c k) l)
    (cond (eqb k ENTITY) (entity_break (rows_of a k) (rows_of c k) l)
    (cond (is_request k) (request_break (get_or (rows_of a k) 0 []) (get_or (rows_of c k) 0 []) l)
    (same_break (lines_in partial a k) (lines_in complete c k) l)))

-- whether a line of key k is lacking
unfoldable pub lack_in : List ℕ → List ℕ → ℕ → Bool
lack_in a c k = cond (eqb k ENTITY) (unlisted_in (rows_of a k) (rows_of c k)) (cond (is_request k) false (shorter (rows_of a k) (rows_of c k)))
