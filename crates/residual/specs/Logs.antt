-- A log in lent words: what a push and a cut leave of it.
use Rattle.std.specs.Prelude.{◌≡◌, List, ℕ, take}
use Rattle.words.specs.Log.{Appended}
use Rattle.residual.specs.declared.Log.{Log}

abbrev pub held : Log → List ℕ
held g = take g.top g.words.now

-- a row in the place of what stands from `at` on, where there is room for it, in the same words
pub record Pushed (was : Log) (at : ℕ) (row : List ℕ) (is : Log) : Type 0 where
  pub same : is.words.ghost_name ≡ was.words.ghost_name
  pub words : Appended was.words.now at row is.words.now is.top

-- it ends at `start`, in the same words
pub record Cut (was : Log) (start : ℕ) (is : Log) : Type 0 where
  pub same : is.words.ghost_name ≡ was.words.ghost_name
  pub words : is.words.now ≡ was.words.now
  pub top : is.top ≡ start
