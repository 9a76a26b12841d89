-- What is printed into a lent buffer.
use Rattle.std.specs.Prelude.{◌≡◌, List, ℕ}
use Rattle.print.specs.Written.{Written}
use Rattle.print.specs.declared.Out.{Out}

-- these bytes more, into the same buffer
pub record Prints (was : Out) (bytes : List ℕ) (is : Out) : Type 0 where
  pub same : is.buffer.ghost_name ≡ was.buffer.ghost_name
  pub written : Written was.buffer.now was.at bytes is.buffer.now is.at
