-- What the rows from one on say of a policy: the first of them decides, or those after it. Assumes nothing.
use mathlib.Core.Path.{◌≡◌, ap}
use mathlib.Core.Bool.{true, cond, ◌&&◌}
use mathlib.Core.List.{List, [], ◌∷◌}
use Prim.Native.Nat.{ℕ, ◌+◌, ◌≤◌, ◌<◌}
use native.Mathlib.Numerals.{add-one}
use native.Mathlib.Omega.{arith}
use lib.Dec.{eqb, leb}
use lib.ListN.{length, get_or, drop, drop_of_length-le}
use lib.Seq.{drop-cons}
use Rattle.sheet.specs.Forms.{at, mark}
use Rattle.sheet.specs.Content.{runs_on, link_of}
use Rattle.table.specs.Layout.{rows_of}
use Rattle.table.proofs.Rows.{count_rows}

module _ (a : List ℕ) (k i : ℕ) where
  none_left : get_or a k 0 ≤ i → drop i (rows_of a k) ≡ []
  none_left h = let l : length (rows_of a k) ≤ i = omega (arith, count_rows a k) in drop_of_length-le (rows_of a k) l

  one_left : i < get_or a k 0 → drop i (rows_of a k) ≡ get_or (rows_of a k) i [] ∷ drop (i + 1) (rows_of a k)
  one_left h = let l : i < length (rows_of a k) = omega (arith, count_rows a k) in rw (add-one, drop-cons (rows_of a k) i [])

pub no_term : (a : List ℕ) (k i d p : ℕ) → get_or a k 0 ≤ i → runs_on d (drop i (rows_of a k)) p ≡ true
no_term a k i d p h = ap (λ (rs : List (List ℕ)). runs_on d rs p) (none_left a k i h)

pub this_term : (a : List ℕ) (k i d p : ℕ) → i < get_or a k 0
    → runs_on d (drop i (rows_of a k)) p ≡ (let r = get_or (rows_of a k) i [] in cond (eqb (at r 0) p) (leb (at r 1) d && leb d (at r 2)) (runs_on d (drop (i + 1) (rows_of a k)) p))
this_term a k i d p h = ap (λ (rs : List (List ℕ)). runs_on d rs p) (one_left a k i h)

pub no_link : (a : List ℕ) (k i p : ℕ) → get_or a k 0 ≤ i → link_of (drop i (rows_of a k)) p ≡ mark ∷ mark ∷ []
no_link a k i p h = ap (λ (rs : List (List ℕ)). link_of rs p) (none_left a k i h)

pub this_link : (a : List ℕ) (k i p : ℕ) → i < get_or a k 0
    → link_of (drop i (rows_of a k)) p ≡ (let r = get_or (rows_of a k) i [] in cond (eqb p (at r 0)) (at r 1 ∷ at r 2 ∷ []) (link_of (drop (i + 1) (rows_of a k)) p))
this_link a k i p h = ap (λ (rs : List (List ℕ)). link_of rs p) (one_left a k i h)

-- a link has two values
pub link_two : (rs : List (List ℕ)) (p : ℕ) → length (link_of rs p) ≡ 2
link_two [] p = grind arith
link_two (r ∷ rs) p = grind (arith, link_two rs p)
