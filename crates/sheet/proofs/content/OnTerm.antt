-- The policies on term, with their links: each is a policy line of the sheet.
use mathlib.Core.Path.{◌≡◌, refl, ap, subst}
use mathlib.Core.Bool.{Bool, true, false}
use mathlib.Core.List.{List, [], ◌∷◌, ◌++◌}
use Prim.Native.Nat.{ℕ, suc, ◌≤◌, ◌+◌}
use native.Mathlib.Omega.{arith}
use lib.ListN.{length, get_or}
use Rattle.sheet.specs.Forms.{at, keep, DAY, POLICY, LINK, TERM}
use Rattle.sheet.specs.State.{State, line_at, lines_of, count}
use Rattle.sheet.specs.Content.{runs_on, link_of, with_link, running, on_term}

-- what holds of each row of a list
pub data Each (P : List ℕ → Type 0) : List (List ℕ) → Type 0 where
  none : Each P []
  more : {r : List ℕ} {rs : List (List ℕ)} → P r → Each P rs → Each P (r ∷ rs)

pub each_line : (P : List ℕ → Type 0) (rs : List (List ℕ)) → ((pre : List (List ℕ)) (r : List ℕ) (rest : List (List ℕ)) → rs ≡ pre ++ (r ∷ rest) → P r) → Each P rs
each_line P [] f = none
each_line P (r ∷ rs) f = more (f [] r rs refl) (each_line P rs (λ pre x rest e. f (r ∷ pre) x rest (ap (λ z. r ∷ z) e)))

each_kept : (P : List ℕ → Type 0) (b : Bool) {r : List ℕ} {rs : List (List ℕ)} → P r → Each P rs → Each P (keep b r rs)
each_kept P true h hs = more h hs
each_kept P false h hs = hs

each_running : (P : List ℕ → Type 0) (runs : ℕ → Bool) (link : ℕ → List ℕ) (n : ℕ) (rs : List (List ℕ))
    → ((pre : List (List ℕ)) (r : List ℕ) (rest : List (List ℕ)) → rs ≡ pre ++ (r ∷ rest) → P (with_link r (link (n + length pre)))) → Each P (running runs link n rs)
each_running P runs link n [] f = none
each_running P runs link n (r ∷ rs) f = each_kept P (runs n) (subst (λ i. P (with_link r (link i))) (omega arith) (f [] r rs refl))
    (each_running P runs link (suc n) rs (λ pre x rest e. subst (λ i. P (with_link x (link i))) (omega arith) (f (r ∷ pre) x rest (ap (λ z. r ∷ z) e))))

-- what holds of each policy line with its link holds of those on term
pub on_term_law : (P : List ℕ → Type 0) (s : State)
    → ((pre : List (List ℕ)) (r : List ℕ) (rest : List (List ℕ)) → lines_of s POLICY ≡ pre ++ (r ∷ rest) → P (with_link r (link_of (lines_of s LINK) (length pre)))) → Each P (on_term s)
unfolding on_term
on_term_law P s f = each_running P (runs_on (at (line_at s DAY 0) 0) (lines_of s TERM)) (link_of (lines_of s LINK)) 0 (lines_of s POLICY)
    (λ pre r rest e. subst (λ i. P (with_link r (link_of (lines_of s LINK) i))) (omega arith) (f pre r rest e))

-- the same days, terms, links and policies: the same on term
pub same_term : (s u : State) → lines_of s DAY ≡ lines_of u DAY → lines_of s TERM ≡ lines_of u TERM → lines_of s LINK ≡ lines_of u LINK → lines_of s POLICY ≡ lines_of u POLICY → on_term s ≡ on_term u
unfolding on_term
same_term s u d t l p i = running (runs_on (at (get_or (d i) 0 []) 0) (t i)) (link_of (l i)) 0 (p i)

-- a sum over the policies on term is at most the sum over all, where it does not look at links
module _ (f : List ℕ → ℕ) (same : (r l : List ℕ) → f (with_link r l) ≡ f r) where
  abbrev pub total : List (List ℕ) → ℕ
  total [] = 0
  total (r ∷ rs) = f r + total rs

  kept_total : (b : Bool) (r l : List ℕ) (rs : List (List ℕ)) → total (keep b (with_link r l) rs) ≤ f r + total rs
  kept_total true r l rs = let e = same r l in omega (arith, e)
  kept_total false r l rs = omega arith

  running_total : (runs : ℕ → Bool) (link : ℕ → List ℕ) (n : ℕ) (rs : List (List ℕ)) → total (running runs link n rs) ≤ total rs
  running_total runs link n [] = omega arith
  running_total runs link n (r ∷ rs) = let a = kept_total (runs n) r (link n) (running runs link (suc n) rs) in let b = running_total runs link (suc n) rs in omega (arith, a, b)

  pub on_term_total : (s : State) → total (on_term s) ≤ total (lines_of s POLICY)
  unfolding on_term
  on_term_total s = running_total (runs_on (at (line_at s DAY 0) 0) (lines_of s TERM)) (link_of (lines_of s LINK)) 0 (lines_of s POLICY)

ones : (rs : List (List ℕ)) → total (λ r. 1) (λ r l. refl) rs ≡ length rs
ones [] = refl
ones (r ∷ rs) = let a = ones rs in omega (arith, a)

pub on_term_few : (s : State) → length (on_term s) ≤ count s POLICY
on_term_few s = let a = on_term_total (λ r. 1) (λ r l. refl) s in let b = ones (on_term s) in let c = ones (lines_of s POLICY) in omega (arith, a, b, c)
