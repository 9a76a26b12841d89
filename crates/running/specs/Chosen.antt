-- The policies that run, as rows of their own after those of a sheet that the words hold. A name with a prime is what is left.
use Rattle.std.specs.Prelude.{◌≡◌, List, [], ℕ, ◌+◌, ◌*◌, ◌≤◌, ◌<◌, length, get_or, drop}
use Rattle.std.proofs.lemmas.List.Edits.{sets}
use Rattle.sheet.specs.Forms.{no_key, POLICY}
use Rattle.sheet.specs.Content.{on_term}
use Rattle.words.specs.Log.{room}
use Rattle.table.specs.Layout.{RUN, MADE, TOP, POLICY_WORDS, RUN_WORDS, rows_of, held, with_row, Sound}

-- words that hold a sheet's rows, and none after them: each policy's row has its words, and there is room for as many rows with a link
pub record Choosable (a : List ℕ) : Type 0 where
  pub sound : Sound a
  pub none : get_or a RUN 0 ≡ 0
  pub made : get_or a MADE 0 ≡ 0
  pub rows : (n : ℕ) → n < get_or a POLICY 0 → length (get_or (rows_of a POLICY) n []) ≡ POLICY_WORDS
  pub space : get_or a TOP 0 + RUN_WORDS * get_or a POLICY 0 ≤ room

-- the rows of the policies on term, in the sheet's order; the sheet's own rows are as they were
pub record Chosen (a a' : List ℕ) : Type 0 where
  pub runs : rows_of a' RUN ≡ on_term (held [] a [])
  pub same : (k : ℕ) → k < no_key → rows_of a' k ≡ rows_of a k
  pub sound : Sound a'
  pub made : get_or a' MADE 0 ≡ 0
  pub top : get_or a' TOP 0 ≤ get_or a TOP 0 + RUN_WORDS * get_or a POLICY 0
  pub long : length a' ≡ length a
  pub rest : drop room a' ≡ drop room a

-- ---- one of them

-- a policy's row has its words, and there is room for it with a link
pub record Runnable (a : List ℕ) (policy : ℕ) : Type 0 where
  pub sound : Sound a
  pub row : length (get_or (rows_of a POLICY) policy []) ≡ POLICY_WORDS
  pub space : get_or a TOP 0 + RUN_WORDS ≤ room

-- row r as the last of those of the policies that run, at the heap's end
unfoldable pub with_run : List ℕ → List ℕ → List ℕ
with_run a r = with_row (sets a (get_or a TOP 0) r) RUN (get_or a TOP 0 + length r)
