-- The slices a and b, the log of which ends at e, are an outcome; the log is no shorter than `was`.
use Rattle.std.specs.Prelude.{◌≡◌, List, ℕ}
use Rattle.words.specs.Log.{Holds}
use Rattle.residual.specs.declared.Log.{Log}
use Rattle.tpe.specs.Run.{O}

pub record Leaves (was : ℕ) (a b : List ℕ) (e : ℕ) (o : O) : Type 0 where
  pub words : a ≡ o.words
  pub log : Holds was b e o.log

-- the same of a log, in the words that it had
pub record Ends (start : ℕ) (was : Log) (a : List ℕ) (is : Log) (o : O) : Type 0 where
  pub same : is.words.ghost_name ≡ was.words.ghost_name
  pub leaves : Leaves start a is.words.now is.top o
