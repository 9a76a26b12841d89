-- The lines of entities in chains, one for each text.
use Rattle.std.specs.Prelude.{◌≡◌, cond, List, [], ◌∷◌, ℕ, suc, ◌<◌, ◌≤◌, eqb, length, get_or, drop}
use Rattle.sheet.specs.Forms.{at, VALUE}
use Rattle.table.specs.Layout.{rows_of}

-- the most texts of a sheet: "`text=` 512"
abbrev pub TEXTS : ℕ
TEXTS = 512

-- the text of entity v of the sheet
unfoldable pub text_of : List ℕ → ℕ → ℕ
text_of a v = get_or (get_or (rows_of a VALUE) v []) 2 0

-- how many lines are left from the first one on whose entity has text t, 0 where none has
unfoldable pub left_of : List ℕ → ℕ → List (List ℕ) → ℕ
left_of a t [] = 0
left_of a t (r ∷ rs) = cond (eqb (text_of a (at r 0)) t) (suc (length rs)) (left_of a t rs)

-- all words are 0
pub record Clear (w : List ℕ) : Type 0 where
  pub is : (t : ℕ) → get_or w t 0 ≡ 0

-- of the lines E from line i on, word t of `heads` says where the chain of text t begins, word j of `links` where it goes on after line j
pub record Chained (a : List ℕ) (E : List (List ℕ)) (i : ℕ) (heads links : List ℕ) : Type 0 where
  pub first : (t : ℕ) → t < length heads → get_or heads t 0 ≡ left_of a t (drop i E)
  pub next : (j : ℕ) → i ≤ j → j < length E → j < length links → text_of a (at (get_or E j []) 0) < length heads → get_or links j 0 ≡ left_of a (text_of a (at (get_or E j []) 0)) (drop (suc j) E)
