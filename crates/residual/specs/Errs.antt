-- `can_error_assuming_well_formed` over rows: "add, sub, mul, neg, gettag, get and err can err; lit and var cannot; others err if a child can".
use Rattle.std.specs.Prelude.{Bool, true, false, cond, ◌||◌, List, [], ℕ, zero, suc, ◌-◌, eqb, leb, ltb, get_or}
use Rattle.sheet.specs.Forms.{tag}
use Rattle.forms.specs.Tags.{ERR, ADD, SUB, MUL, GETTAG, GET, NEG}
use Rattle.residual.specs.Rows.{ROW, WHAT, SOURCE, VALUE_ROW, ERROR_ROW, word_at, start_at}

unfoldable pub op_errs_def : ℕ → Bool
op_errs_def t = eqb t ERR || (eqb t ADD || (eqb t SUB || (eqb t MUL || (eqb t GETTAG || (eqb t GET || eqb t NEG)))))

-- the blocks from start to p, the last one first; n blocks at most
unfoldable pub blocks_by : (ℕ → Bool) → List ℕ → ℕ → ℕ → ℕ → Bool
blocks_by f l start zero p = false
blocks_by f l start (suc n) p = cond (leb p start) false (f p || blocks_by f l start n (start_at l p))

-- each block has a word, so p blocks are enough
unfoldable pub blocks_err : (ℕ → Bool) → List ℕ → ℕ → ℕ → Bool
blocks_err f l start p = blocks_by f l start p p

-- a row, where f says whether the block that ends at a place can err
unfoldable pub row_errs : (ℕ → Bool) → List (List ℕ) → List ℕ → ℕ → Bool
row_errs f nodes l e =
    cond (eqb (word_at l e WHAT) VALUE_ROW) false
    (cond (eqb (word_at l e WHAT) ERROR_ROW) true
    (cond (op_errs_def (tag (get_or nodes (word_at l e SOURCE) []))) true (cond (ltb e ROW) false (blocks_err f l (start_at l e) (e - ROW)))))

-- d levels of rows
unfoldable pub errs_by : List (List ℕ) → List ℕ → ℕ → ℕ → Bool
errs_by nodes l zero e = false
errs_by nodes l (suc d) e = row_errs (errs_by nodes l d) nodes l e

unfoldable pub errs : List (List ℕ) → List ℕ → ℕ → Bool
errs nodes l e = errs_by nodes l 64 e
