-- What the functions leave of the words and of the log, and what they yield, is as the definition says; and a yield as a bool.
use Rattle.std.specs.Prelude.{◌≡◌, Bool, true, false, not, Option, Some, None, Result, Ok, Err, IfOk, List, ℕ, length, take}
use Rattle.std.proofs.Math.Option.{Option as Opt, none, some}
use Rattle.words.specs.Log.{Holds}
use Rattle.cedar.specs.Rows.{Row}
use Rattle.cedar.specs.Numbered.{row_at, r_bool}
use Rattle.evaluator.specs.Run.{E, Kids, Ran, Yield, values}
use Rattle.evaluator.specs.declared.EvalError.{EvalError}

pub record Gave (e : E) (is : List ℕ) (y : Yield) : Type 0 where
  pub words : is ≡ e.words
  pub yield : y ≡ e.yield

-- from b to b' the log that ends at bt stays
pub record GaveBeside (e : E) (is : List ℕ) (y : Yield) (bt : ℕ) (b b' : List ℕ) : Type 0 where
  pub words : is ≡ e.words
  pub yield : y ≡ e.yield
  pub log : take bt b' ≡ take bt b

-- whether all children are values
abbrev pub all_of : Result ℕ EvalError → Bool
all_of (Ok end) = true
all_of (Err e) = false

-- and has the rows of the children more, up to where they end if all are values
pub record Left (k : Kids) (is : List ℕ) (o : Result ℕ EvalError) (bt : ℕ) (b b' : List ℕ) : Type 0 where
  pub words : is ≡ k.words
  pub all : all_of o ≡ k.all
  pub log : IfOk o (λ end. Holds bt b' end k.log)
  pub kept : take bt b' ≡ take bt b

-- the run: the words, and the log, which ends at n
pub record Done (t : Ran) (a b : List ℕ) (n : ℕ) : Type 0 where
  pub words : a ≡ t.words
  pub log : take n b ≡ t.log
  pub end : n ≡ length t.log

-- a bool, or none: as the code answers it
abbrev pub truth_of : Option Bool → Opt Bool
truth_of (Some b) = some b
truth_of None = none

-- as a value's row says it
unfoldable pub as_bool : Row → Opt Bool
as_bool r = r_bool none r some

-- and a yield; an error is no bool
unfoldable pub yield_bool : List ℕ → Yield → Opt Bool
yield_bool a (Ok v) = as_bool (row_at (values a) v)
yield_bool a (Err e) = none

unfoldable pub same_bool : Bool → Bool → Bool
same_bool true z = z
same_bool false z = not z
