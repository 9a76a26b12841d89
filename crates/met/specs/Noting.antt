-- Parents noted by value as they are met, and parts of lists of which all were met.
use Rattle.std.specs.Prelude.{◌≡◌, Bool, true, false, List, ℕ, ◌+◌, ◌<◌, ◌≤◌, length, get_or, set}

-- where v is past a table of length n place k is marked
pub record Noted (k n v : ℕ) (m m' : List ℕ) : Type 0 where
  pub near : v < n → m' ≡ m
  pub far : n ≤ v → m' ≡ set m k 1

-- v was noted before, as b says, or it is noted
pub record Entered (k v : ℕ) (w m w' m' : List ℕ) (b : Bool) : Type 0 where
  pub old : b ≡ true → (1 ≤ get_or w v 0) × (w' ≡ w) × (m' ≡ m)
  pub new : b ≡ false → (w' ≡ set w v 1) × Noted k (length w') v m m'

-- so many of a list are asked at a time
abbrev pub RUN : ℕ
RUN = 8

-- p holds of so many of l from place i on
abbrev pub Run : (ℕ → Type 0) → List ℕ → ℕ → Type 0
Run p l i = (k : ℕ) → i ≤ k → k < i + RUN → p (get_or l k 0)

-- so many of l from place i on were met, where b says so
pub record RunMet (w l : List ℕ) (i : ℕ) (b : Bool) : Type 0 where
  pub is : b ≡ true → Run (λ x. 1 ≤ get_or w x 0) l i

-- of l those from place i to j were met
pub record Skipped (w l : List ℕ) (i j : ℕ) : Type 0 where
  pub more : i ≤ j
  pub near : j ≤ length l
  pub is : (k : ℕ) → i ≤ k → k < j → 1 ≤ get_or w (get_or l k 0) 0
