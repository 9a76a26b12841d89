-- What is lent to a call.
use Rattle.std.specs.Prelude.{◌≡◌, ◌<◌, ◌⊎◌, ℕ, List}
use Rattle.std.specs.Borrow.{MutBor}
use Rattle.std.specs.Fn.{Once}
use Rattle.trial.specs.declared.Lengths.{Lengths}
use Rattle.trial.specs.Lent.{marks}

-- more words or bytes than there are
abbrev pub IsTooMuch : Lengths → Type 0
IsTooMuch l = (16400 < l.first) ⊎ (16400 < l.second) ⊎ (65536 < l.buffer)

abbrev pub Slices : Type 0
Slices = MutBor (List ℕ) × (MutBor (List ℕ) × (MutBor (List ℕ) × Unit {0}))

-- this is what the call says in marked slices and a marked buffer of these lengths
pub record Lends {C T : Type 0} (g : Once C Slices (T × Slices)) (call : C) (l : Lengths) (said : T) : Type 0 where
  pub lent : Slices
  pub left : Slices
  pub first : lent.0.now ≡ marks l.first
  pub second : lent.1.0.now ≡ marks l.second
  pub buffer : lent.1.1.0.now ≡ marks l.buffer
  pub says : g.post call lent (said, left)
